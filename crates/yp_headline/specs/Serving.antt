-- How what came is answered: on fronts of one log, which never go back.
use Rattle.std.specs.Prelude.{◌≡◌, ◌⊎◌, ℕ, true, false, if◌then◌else◌, List, [], ◌∷◌, ◌++◌, flat_map}
use Rattle.std.specs.Prelude.{Option, Some, None}
use Rattle.std.specs.List.{AllByRecursion}
use Rattle.yp_io.specs.declared.stream.Peer.{Peer}
use Rattle.yp_io.specs.Peers.{own_host}
use Rattle.yp_rpc.specs.declared.call.CallHead.{CallHead}
use Rattle.yp_rpc.specs.Judging.{judged}
use Rattle.yp_rpc.specs.declared.judging.Judged.TheVariants.{Admitted}
use Rattle.yp_rpc.specs.Records.{Fragments, IsRest}
use Rattle.yp_messages.specs.declared.transfer.XfrStat.{XfrStat}
use Rattle.yp_messages.specs.declared.transfer.XfrStat.TheVariants.{Succ}
use Rattle.yp_version.specs.Versions.{MapVersion}
use Rattle.yp_board.specs.Catalogues.{Catalogue}
use Rattle.yp_board.specs.Logs.{Log, shown}
use Rattle.yp_board.specs.Views.{IsFront}
use Rattle.yp_board.specs.Between.{Between}
use Rattle.yp_texts.specs.After.{HasLaterOrder}
use Rattle.yp_answer.specs.declared.procedure.Path.{Path}
use Rattle.yp_answer.specs.declared.procedure.Path.TheVariants.{Stream, Datagram as Mail}
use Rattle.yp_answer.specs.declared.procedure.Procedure.{Procedure}
use Rattle.yp_answer.specs.declared.procedure.Procedure.TheVariants.{Make, MakeNamed}
use Rattle.yp_answer.specs.Numbers.{record_max}
use Rattle.yp_answer.specs.Served.{maps_on}
use Rattle.yp_answer.specs.Reply.{Response, Silence, Bytes, Takes, Open, make_reply}
use Rattle.yp_answer.specs.session.Runs.{sent_reply}
use Rattle.yp_headline.specs.Answering.{answer, programs}
use Rattle.yp_headline.specs.World.{Connection, Datagram}

-- a call, its caller, and the reply that it got, or silence
pub record Exchange : Type 0 where
  pub caller : Peer
  pub call : List ℕ
  pub reply : Option (List ℕ)

-- A version of a map was published, and a log shows it; its order is over that of one that was shown in between.
pub record IsPublished (map : ℕ) (front next : Log) : Type 0 where
  pub version : MapVersion
  pub before : Log
  pub entry : IsFront (before ++ (map, version) ∷ []) next
  pub newer : Between front next (λ log. HasLaterOrder (shown map log) version)

-- What was replied is the response on a front of the log. A map that is made has a status, and where that is SUCC the
-- next front shows what was made.
abbrev pub IsReply : Response → Option (List ℕ) → (front next : Log) → Type 0
IsReply Silence replied front next = replied ≡ None
IsReply (Bytes bytes) replied front next = replied ≡ Some bytes
IsReply (Takes bytes taken) replied front next = replied ≡ Some bytes
IsReply (Open xid job) replied front next =
    (stat : XfrStat) × (replied ≡ Some (make_reply xid stat)) × (stat ≡ Succ → IsPublished job.map front next)

-- Calls were answered one after the other, each on a front of the log that begins with the one before.
abbrev pub AnswersInTurn : Catalogue → Path → List Exchange → (known log : Log) → Type 0
AnswersInTurn catalogue path [] known log = IsFront known log
AnswersInTurn catalogue path (one ∷ more) known log = (front : Log) × (next : Log) × IsFront known front
    × IsFront front next × IsReply (answer path (maps_on catalogue front) one.caller one.call) one.reply front next
    × AnswersInTurn catalogue path more next log

-- ---- a connection

-- bytes begin with these calls, each a record in fragments, and the rest is behind them
abbrev pub BeginsWith : List ℕ → List Exchange → List ℕ → Type 0
BeginsWith bytes [] rest = bytes ≡ rest
BeginsWith bytes (one ∷ more) rest = (first : List ℕ) × (others : List ℕ) × Fragments record_max one.call first
    × (bytes ≡ first ++ others) × BeginsWith others more rest

-- A connection was served: the calls at the front of what came were answered in turn, and the replies were sent, or a
-- front of them. Where it wasn't cut short that is all: no whole record is behind the calls, and no reply is missing.
pub record IsServed (catalogue : Catalogue) (known log : Log) (connection : Connection) : Type 0 where
  pub exchanges : List Exchange
  pub callers : AllByRecursion (λ one. one.caller ≡ connection.peer) exchanges
  pub rest : List ℕ
  pub came : BeginsWith connection.came exchanges rest
  pub answered : AnswersInTurn catalogue Stream exchanges known log
  pub unsent : List ℕ
  pub sent : flat_map (λ one. sent_reply one.reply) exchanges ≡ connection.sent ++ unsent
  pub whole : connection.cut ≡ false → IsRest record_max rest × (unsent ≡ [])

-- ---- datagrams

-- A datagram calls MAKE or MAKE_NAMED, and its sender is on the server's own host.
abbrev pub IsMake : Datagram → Type 0
IsMake mail = (mail.peer.addr ≡ own_host) × (call : CallHead) × (procedure : Procedure)
    × (judged (programs Mail) mail.came ≡ Admitted call procedure) × ((procedure ≡ Make) ⊎ (procedure ≡ MakeNamed))

-- Datagrams were answered in turn, each on a front of the log that begins with what was known, and the replies were
-- sent, but for those that were lost. A make may be late: it was answered while the next ones were.
abbrev pub AreServed : Catalogue → (known log : Log) → List Datagram → Type 0
AreServed catalogue known log [] = IsFront known log
AreServed catalogue known log (mail ∷ mails) = Between known log (λ front. Between front log (λ next.
    (reply : Option (List ℕ)) × IsReply (answer Mail (maps_on catalogue front) mail.peer mail.came) reply front next
    × (mail.sent ≡ (if mail.lost then None else reply)) × (mail.late ≡ true → IsMake mail)
    × AreServed catalogue (if mail.late then known else next) log mails))
