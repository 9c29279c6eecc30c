-- The awaited mails of a walk, each with the moment at which its source made it.
use Rattle.std.specs.Prelude.{◌≡◌, ℕ, List, [], ◌∷◌}
use Rattle.yp_io.specs.declared.stream.Peer.{Peer}
use Rattle.yp_board.specs.Catalogues.{Catalogue}
use Rattle.yp_board.specs.Logs.{Log}
use Rattle.yp_board.specs.Views.{IsFront}
use Rattle.yp_answer.specs.declared.procedure.Path.TheVariants.{Datagram}
use Rattle.yp_answer.specs.Served.{maps_on}
use Rattle.yp_answer.specs.Reply.{Bytes, reply}
use Rattle.yp_transfer.specs.walk.Standings.{IsAsking}
use Rattle.yp_transfer.specs.walk.Schedules.{Walking, outstanding, gone_on}

-- a mail, and what its source knew as it made it
pub record SourceMail : Type 0 where
  pub front : Log
  pub mail : List ℕ

-- the log that was known at the last of some mails, and before them at first
abbrev pub last_front : Log → List SourceMail → Log
last_front before [] = before
last_front before (made ∷ mails) = last_front made.front mails

module _ (catalogue : Catalogue) (caller : Peer) where
  -- A walk goes on by these mails. Each is the one reply to the call that is outstanding, on a front of the source's
  -- log that begins with the one before.
  abbrev pub GoesBy : List SourceMail → Log → Walking → Walking → Type 0
  GoesBy [] before old new = new ≡ old
  GoesBy (made ∷ mails) before old new =
      IsAsking old.standing × IsFront before made.front
      × (reply Datagram (maps_on catalogue made.front) caller (outstanding old) ≡ Bytes made.mail)
      × GoesBy mails made.front (gone_on old made.mail) new
