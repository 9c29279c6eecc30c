-- Replies in turn, on maps and on logs that grow.
use Rattle.std.specs.Prelude.{ℕ, List, [], ◌∷◌, Some}
use Rattle.yp_io.specs.declared.stream.Peer.{Peer}
use Rattle.yp_board.specs.Catalogues.{Catalogue}
use Rattle.yp_board.specs.Logs.{Log}
use Rattle.yp_board.specs.Views.{IsFront}
use Rattle.yp_answer.specs.declared.procedure.Path.TheVariants.{Stream}
use Rattle.yp_answer.specs.Reply.{reply}
use Rattle.yp_answer.specs.Served.{maps_on}
use Rattle.yp_answer.specs.session.LogRuns.{Gets}
use Rattle.yp_end_to_end.specs.inside.exchange.Served.{RepliesWith}

-- Calls were answered one after the other, each on a log that begins with the one before, at once or when a map had
-- been made. Versions may be shown between any two.
abbrev pub RepliesInTurn : Catalogue → Peer → List (List ℕ) → List (List ℕ) → Log → Log → Type 0
RepliesInTurn catalogue peer [] [] old new = IsFront old new
RepliesInTurn catalogue peer (call ∷ calls) (bytes ∷ replies) old new =
    (log : Log) × (next : Log) × IsFront old log × IsFront log next
    × Gets catalogue (reply Stream (maps_on catalogue log) peer call) (Some bytes) log next
    × RepliesInTurn catalogue peer calls replies next new
RepliesInTurn catalogue peer [] (bytes ∷ replies) old new = ⊥
RepliesInTurn catalogue peer (call ∷ calls) [] old new = ⊥

-- the maps of a server, and who asks for them
pub record Inquiry : Type 0 where
  pub catalogue : Catalogue
  pub caller : Peer

abbrev pub inquiry_of : Catalogue → Peer → Inquiry
inquiry_of catalogue caller = record { catalogue = catalogue; caller = caller }

-- These are the replies to some calls in turn, each on the maps of one of these logs. Each log begins with the one
-- before it.
abbrev pub RepliesOn : Inquiry → List (List ℕ) → List (List ℕ) → List Log → Log → Log → Type 0
RepliesOn inquiry [] [] [] old new = IsFront old new
RepliesOn inquiry (call ∷ calls) (bytes ∷ replies) (log ∷ logs) old new =
    IsFront old log × RepliesWith (maps_on inquiry.catalogue log) inquiry.caller call bytes
    × RepliesOn inquiry calls replies logs log new
RepliesOn inquiry [] [] (log ∷ logs) old new = ⊥
RepliesOn inquiry [] (bytes ∷ replies) logs old new = ⊥
RepliesOn inquiry (call ∷ calls) [] logs old new = ⊥
RepliesOn inquiry (call ∷ calls) (bytes ∷ replies) [] old new = ⊥
