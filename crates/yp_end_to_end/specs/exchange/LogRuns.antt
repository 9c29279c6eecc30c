-- What a server replies in a run on logs, while others may show versions.
use Rattle.std.specs.Prelude.{◌≡◌, ℕ, List, [], ◌∷◌, map}
use Rattle.std.specs.List.{filter_map}
use Rattle.yp_io.specs.declared.stream.Peer.{Peer}
use Rattle.yp_board.specs.Catalogues.{Catalogue}
use Rattle.yp_board.specs.Logs.{Log}
use Rattle.yp_answer.specs.declared.procedure.Path.TheVariants.{Stream}
use Rattle.yp_answer.specs.Served.{AreServed, maps_on}
use Rattle.yp_answer.specs.session.Hosts.{Turn}
use Rattle.yp_answer.specs.session.LogRuns.{LogRun, IsAnsweredOn}
use Rattle.yp_end_to_end.specs.exchange.Runs.{Query, calls_made}

-- the records that were answered, and the replies of those that got one
abbrev pub records_of : List Turn → List (List ℕ)
records_of turns = map (λ turn. turn.message) turns

abbrev pub replies_of : List Turn → List (List ℕ)
replies_of turns = filter_map (λ turn. turn.answer) turns

-- A run on logs, with those on which its records were answered, in their order.
abbrev pub AnsweredOn : Catalogue → Peer → List Turn → List Log → Log → Log → Type 0
AnsweredOn catalogue peer [] [] first last = last ≡ first
AnsweredOn catalogue peer (turn ∷ turns) (log ∷ logs) first last =
    (next : Log) × (one : IsAnsweredOn catalogue Stream peer turn first next) × (one.log ≡ log)
    × AnsweredOn catalogue peer turns logs next last
AnsweredOn catalogue peer [] (log ∷ logs) first last = ⊥
AnsweredOn catalogue peer (turn ∷ turns) [] first last = ⊥

-- a run of a server: its turns, the logs on which their records were answered, and the log before and behind it
pub record ServerRun : Type 0 where
  pub turns : List Turn
  pub logs : List Log
  pub before : Log
  pub after : Log

-- A run of a server, on a log that grows from one to another, was over the calls that are made for a question.
pub record AnswersCalls (query : Query) (turns : List Turn) (before after : Log) : Type 0 where
  pub served : AreServed (maps_on query.catalogue after)
  pub run : LogRun query.catalogue Stream query.caller turns before after
  pub calls : records_of turns ≡ calls_made query.question (replies_of turns)
