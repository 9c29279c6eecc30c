-- A run on logs alone: what records get while others may show versions.
use Rattle.std.specs.Prelude.{◌≡◌, ℕ, List, [], ◌∷◌, Option, Some, None}
use Rattle.yp_io.specs.declared.stream.Peer.{Peer}
use Rattle.yp_messages.specs.declared.transfer.XfrStat.{XfrStat}
use Rattle.yp_board.specs.Catalogues.{Catalogue}
use Rattle.yp_board.specs.Logs.{Log}
use Rattle.yp_board.specs.Views.{IsFront}
use Rattle.yp_answer.specs.declared.procedure.Path.{Path}
use Rattle.yp_answer.specs.Reply.{Response, Silence, Bytes, Takes, Open, reply, make_reply}
use Rattle.yp_answer.specs.Causes.{Told, IsCaused}
use Rattle.yp_answer.specs.session.Hosts.{Turn}

-- What a record got: its reply, or, where a map is made first, a status with its cause by the log behind that.
abbrev pub Gets : Catalogue → Response → Option (List ℕ) → Log → Log → Type 0
Gets catalogue Silence answer log next = answer ≡ None
Gets catalogue (Bytes bytes) answer log next = answer ≡ Some bytes
Gets catalogue (Takes bytes taken) answer log next = answer ≡ Some bytes
Gets catalogue (Open xid job) answer log next =
    (stat : XfrStat) × (answer ≡ Some (make_reply xid stat))
    × (told : Told) × IsCaused told catalogue job stat log next

-- A record was answered on the state of a log that begins with the first, and the next begins with that.
pub record IsAnsweredOn (catalogue : Catalogue) (path : Path) (peer : Peer) (turn : Turn) (first next : Log)
    : Type 0 where
  pub log : Log
  pub begins : IsFront first log
  pub goes_on : IsFront log next
  pub gets : Gets catalogue (reply path (record { catalogue = catalogue; log = log }) peer turn.message)
      turn.answer log next

-- Records were answered one after the other, each on a log that begins with those before it.
abbrev pub LogRun : Catalogue → Path → Peer → List Turn → Log → Log → Type 0
LogRun catalogue path peer [] first last = last ≡ first
LogRun catalogue path peer (turn ∷ turns) first last =
    (next : Log) × IsAnsweredOn catalogue path peer turn first next × LogRun catalogue path peer turns next last
