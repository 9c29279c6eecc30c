-- What is posted of transfers.
use Rattle.std.specs.Prelude.{◌≡◌, ◌≢◌, ℕ, List, [], ◌∷◌, ◌++◌}
use Rattle.std.specs.List.{AllByRecursion}
use Rattle.yp_rpc.specs.Called.{call_of}
use Rattle.yp_messages.specs.Transfers.{resp_xfr, xfr_number}
use Rattle.yp_messages.specs.declared.transfer.XfrStat.{XfrStat}
use Rattle.yp_messages.specs.declared.transfer.XfrStat.TheVariants.{Succ}
use Rattle.yp_version.specs.Versions.{MapVersion}
use Rattle.yp_board.specs.Logs.{Log}
use Rattle.yp_board.specs.Views.{IsFront}
use Rattle.yp_answer.specs.declared.procedure.Path.{Path}
use Rattle.yp_answer.specs.declared.procedure.Path.TheVariants.{Stream, Datagram as Mail}
use Rattle.yp_answer.specs.Served.{maps_on}
use Rattle.yp_answer.specs.Transfer.{Taken}
use Rattle.yp_answer.specs.Reply.{Takes}
use Rattle.yp_headline.specs.World.{World, Incoming, Connection, Datagram, Letter}
use Rattle.yp_headline.specs.Answering.{answer}
use Rattle.yp_headline.specs.Serving.{Exchange, BeginsWith}
use Rattle.yp_headline.specs.Publishing.{IsAmong, IsFetched}
use Rattle.yp_headline.specs.Sources.{IsOfSource}

-- a call that was answered: the path by which it came, its exchange, the front of the log on which it was answered,
-- what was known before the transfer that it took, and the next front
pub record AnsweredCall : Type 0 where
  pub path : Path
  pub exchange : Exchange
  pub front : Log
  pub known : Log
  pub next : Log

-- A letter calls back the transfer (yp.x) that a call took. It goes to the host of the caller, and to the port that the
-- call names, or, where that is 0, to any. Where it says SUCC, a version of the map that a server gave was entered
-- behind what was known, and the next front has it.
pub record IsCallBack (world : World) (call : AnsweredCall) (letter : Letter) : Type 0 where
  pub reply : List ℕ
  pub taken : Taken
  pub takes : answer call.path (maps_on world.catalogue call.front) call.exchange.caller call.exchange.call
      ≡ Takes reply taken
  pub host : letter.peer.addr ≡ call.exchange.caller.addr
  pub port : taken.port ≢ 0 → letter.peer.port ≡ taken.port
  pub stat : XfrStat
  pub says : letter.bytes ≡ call_of resp_xfr taken.transid taken.prog 1 1 (taken.transid, xfr_number stat)
  pub shows : stat ≡ Succ → (version : MapVersion) × (before : Log) × IsFront call.known before
      × IsFront (before ++ (taken.map, version) ∷ []) call.next
      × (fetched : IsFetched world version) × IsOfSource world taken.map fetched.gives version

-- one that came in a stream, and was answered on a front of the log: that was known before its transfer
abbrev pub answered_in_stream : Exchange → (front next : Log) → AnsweredCall
answered_in_stream one front next =
    record { path = Stream; exchange = one; front = front; known = front; next = next }

-- Letters call back transfers, each that of an exchange of its own, in their order, on fronts that never go back.
abbrev pub AreCallBacks : World → List Letter → List Exchange → (known log : Log) → Type 0
AreCallBacks world [] exchanges known log = IsFront known log
AreCallBacks world (letter ∷ letters) exchanges known log = (passed : List Exchange) × (one : Exchange)
    × (left : List Exchange) × (front : Log) × (next : Log) × (exchanges ≡ passed ++ one ∷ left) × IsFront known front
    × IsFront front next × IsCallBack world (answered_in_stream one front next) letter
    × AreCallBacks world letters left next log

-- All that was posted calls back transfers that one connection asked for.
pub record IsCalledBack (world : World) (begun log : Log) : Type 0 where
  pub connection : Connection
  pub among : IsAmong world.connections connection
  pub exchanges : List Exchange
  pub callers : AllByRecursion (λ one. one.caller ≡ connection.peer) exchanges
  pub rest : List ℕ
  pub came : BeginsWith connection.came exchanges rest
  pub letters : AreCallBacks world world.posted exchanges begun log

-- ---- of many callers

-- A call came: it is among those at the front of a stream, or a datagram.
abbrev pub CallCame : World → Path → Exchange → Type 0
CallCame world Stream one = (stream : Incoming) × IsAmong world.coming stream × (one.caller ≡ stream.peer)
    × (exchanges : List Exchange) × IsAmong exchanges one × (rest : List ℕ) × BeginsWith stream.came exchanges rest
CallCame world Mail one = (mails : List Datagram) × IsAmong world.datagrams mails
    × (mail : Datagram) × IsAmong mails mail × (one.caller ≡ mail.peer) × (one.call ≡ mail.came)

-- what was known before a transfer: the front on which its call was answered, where that came over a stream
abbrev pub known_before : Path → (begun front : Log) → Log
known_before Stream begun front = front
known_before Mail begun front = begun

-- A letter calls back the transfer of some call that came.
abbrev pub IsAskedFor : World → (begun log : Log) → Letter → Type 0
IsAskedFor world begun log letter = (path : Path) × (one : Exchange) × CallCame world path one
    × (front : Log) × IsFront begun front × IsFront front log
    × IsCallBack world (record {
      path = path;
      exchange = one;
      front = front;
      known = known_before path begun front;
      next = log;
    }) letter
