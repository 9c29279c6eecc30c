-- What `serve` does with its connections, its datagrams and its files.
use Rattle.std.specs.Prelude.{◌≡◌, ◌⊎◌, ◌≤◌, ℕ, Bool, true, false, if◌then◌else◌, List, [], ◌∷◌, ◌++◌, map, flat_map}
use Rattle.std.specs.Prelude.{length, Some, ⊤}
use Rattle.std.specs.List.{AllByRecursion, AllZip}
use Rattle.yp_io.specs.Calls.{ClosedConnection, ListenerHistory}
use Rattle.yp_io.specs.Dials.{Connected, Wires}
use Rattle.yp_io.specs.Inboxes.{InboxEvent, Arrived, Silent, Sent}
use Rattle.yp_board.specs.Logs.{Log}
use Rattle.yp_publisher.specs.Grown.{AreTold}
use Rattle.yp_texts.specs.Readings.{reading_of}
use Rattle.yp_worker.specs.datagrams.Queues.{WeighTheSame}
use Rattle.yp_worker.specs.datagrams.Serving.{reply_posts}
use Rattle.yp_command.specs.declared.office.status.Status.{Status}
use Rattle.yp_command.specs.declared.office.status.Status.TheVariants.{Done, WriteFault, ListenFault, InboxFault}
use Rattle.yp_command.specs.office.Disks.{disks_of}
use Rattle.yp_command.specs.office.Seeing.{Seeing}
use Rattle.yp_command_serve.specs.serve.Hosting.{OutsideTells}
use Rattle.yp_command_serve.specs.serve.Serve.{Job, catalogue_of, place, ServeDoes}
use Rattle.yp_headline.specs.World.{World, Connection, Datagram}
use Rattle.yp_headline.specs.Publishing.{IsAmong}
use Rattle.yp_headline.specs.Headline.{Replies, Crashes, CallBacks}
use Rattle.yp_headline.specs.inside.Files.{incoming_of, dialed_of, posted_between, stores_between}

-- ---- connections

-- what a connection told that was closed: its whole input, that its sink had taken nothing, and what it took
pub record IsToldClosed (closed : ClosedConnection) : Type 0 where
  pub came : List ℕ
  pub sent : List ℕ
  pub input : closed.came.input ≡ Some came
  pub untaken : closed.came.output ≡ Some []
  pub output : closed.wire.output ≡ Some sent

-- a connection of the world is one that was closed
pub record IsOfClosed (closed : ClosedConnection) (connection : Connection) : Type 0 where
  pub peer : connection.peer ≡ closed.came.peer
  pub input : closed.came.input ≡ Some connection.came
  pub output : closed.wire.output ≡ Some connection.sent

-- the connections that closers closed, one closer's after the other's
abbrev pub closed_in : List (List ClosedConnection) → List ClosedConnection
closed_in closed = flat_map (λ one. one) closed

-- ---- datagrams

-- what an inbox told at first, and what more it told at last
pub record Heard : Type 0 where
  pub before : List InboxEvent
  pub more : List InboxEvent

-- what an inbox tells, but for turns in which nothing came
abbrev pub but_silent : List InboxEvent → List InboxEvent
but_silent [] = []
but_silent (Silent ∷ events) = but_silent events
but_silent (Arrived from bytes ∷ events) = Arrived from bytes ∷ but_silent events
but_silent (Sent to bytes ∷ events) = Sent to bytes ∷ but_silent events

-- what it tells of a datagram: that it came, and that its reply was sent, where one was, and wasn't late
abbrev pub told_of : Datagram → List InboxEvent
told_of mail = Arrived mail.peer mail.came ∷ (if mail.late then [] else reply_posts mail.peer mail.sent)

-- that a reply was sent, where it was late
abbrev pub late_of : Datagram → List InboxEvent
late_of mail = if mail.late then reply_posts mail.peer mail.sent else []

-- The reply to the last datagram, and those that were late, alone may have been lost, and only where that is said.
abbrev pub MayLoseLast : Bool → List Datagram → Type 0
MayLoseLast loses [] = ⊤
MayLoseLast loses (mail ∷ mails) =
    (mail.lost ≡ true → ((mail.late ≡ true) ⊎ (mails ≡ [])) × (loses ≡ true)) × MayLoseLast loses mails

-- datagrams of the world are what more an inbox told, each with its reply
pub record AreOfInbox (loses : Bool) (heard : Heard) (datagrams : List Datagram) : Type 0 where
  pub are : but_silent heard.more ≡ flat_map told_of datagrams
  pub kept : MayLoseLast loses datagrams

-- what more one told from which alone is sent are the replies that were late to datagrams of several inboxes, each as
-- often as one was
abbrev pub AreLate : Heard → List (List Datagram) → Type 0
AreLate out datagrams = WeighTheSame out.more (flat_map late_of (flat_map (λ mails. mails) datagrams))

-- whether the reply to a datagram may have been lost, by the status
abbrev pub may_lose : Status → Bool
may_lose ListenFault = true
may_lose InboxFault = true
may_lose status = false

-- ---- the whole

-- what happened at a server: the connections that were closed, what its inboxes told, and the one from which is replied
-- late, and the wires that came of its dial
pub record ServerEvents : Type 0 where
  pub closed : List ClosedConnection
  pub inboxes : List Heard
  pub out : Heard
  pub wires : List Connected

-- what is told of a server at which this happened: of its disks all that they were at each moment, the streams that
-- were to come, of each connection that was closed its bytes, what its inboxes told, and the wires of its dial with
-- their bytes
pub record AllTell {S K D C A I T : Type 0} (seen : Seeing S K D C A I T) (old new : OutsideTells S K D C A I T)
    (events : ServerEvents) : Type 0 where
  pub disks : AreTold seen.disk.history (disks_of old.office.disks.items)
  pub disks_at_last : AreTold seen.disk.history (disks_of new.office.disks.items)
  pub calls : ListenerHistory
  pub coming : (wire : Connected) → IsAmong calls.coming wire → (stream : List ℕ) × (wire.input ≡ Some stream)
  pub calls_at_last : ListenerHistory
  pub more_closed : List (List ClosedConnection)
  pub listens : old.doors.listen.past ≡ Some calls
  pub listens_at_last : new.doors.listen.past ≡ Some calls_at_last
  pub closes : calls_at_last.closed ≡ calls.closed ++ more_closed
  pub closed_are : events.closed ≡ closed_in more_closed
  pub told_closed : AllByRecursion IsToldClosed events.closed
  pub hears : map (λ box. box.past) ((place seen old).boxes) ≡ map (λ one. Some one.before) events.inboxes
  pub hears_at_last : map (λ box. box.past) ((place seen new).boxes)
      ≡ map (λ one. Some (one.before ++ one.more)) events.inboxes
  pub hears_out : old.doors.out.box.past ≡ Some events.out.before
  pub hears_out_at_last : new.doors.out.box.past ≡ Some (events.out.before ++ events.out.more)
  pub dialed : Wires
  pub dialed_at_last : Wires
  pub dials : seen.dial.past old.office.dial ≡ Some dialed
  pub dials_at_last : seen.dial.past new.office.dial ≡ Some dialed_at_last
  pub few : length dialed.back ≤ length dialed.came
  pub wires_are : dialed_at_last.came ≡ dialed.came ++ events.wires
  pub inputs : (wire : Connected) → IsAmong events.wires wire → (stream : List ℕ) × (wire.input ≡ Some stream)

-- a server of stored maps, of which all is told, and which served these connections and these datagrams
abbrev pub serve_world : {S K D C A I T : Type 0} {seen : Seeing S K D C A I T} {old new : OutsideTells S K D C A I T}
    {events : ServerEvents} → Job → AllTell seen old new events → List Connection → List (List Datagram) → World
serve_world {S} {K} {D} {C} {A} {I} {T} {seen} {old} {new} {events} job tell connections datagrams = record {
  catalogue = catalogue_of job;
  stores = stores_between seen.disk.history (disks_of old.office.disks.items) (disks_of new.office.disks.items);
  text = seen.texts.text old.office.texts;
  reading = reading_of;
  coming = map incoming_of tell.calls.coming;
  connections = connections;
  datagrams = datagrams;
  dialed = map dialed_of events.wires;
  posted = posted_between (seen.dial.letters old.office.dial) (seen.dial.letters new.office.dial);
  done = [];
}

-- The connections that were closed, and the datagrams that inboxes told, are those of a world, and on one log of it the
-- headline holds of replies, of crashes and of call backs.
pub record ServerHolds (world : List Connection → List (List Datagram) → World) (loses : Bool) (events : ServerEvents)
    : Type 0 where
  pub connections : List Connection
  pub are_closed : AllZip IsOfClosed events.closed connections
  pub datagrams : List (List Datagram)
  pub are_heard : AllZip (AreOfInbox loses) events.inboxes datagrams
  pub are_late : AreLate events.out datagrams
  pub begun : Log
  pub log : Log
  pub replies : Replies (world connections datagrams) begun log
  pub crashes : Crashes (world connections datagrams) begun log
  pub called_back : CallBacks (world connections datagrams) begun log

-- whether `serve` served its maps, by its status
abbrev pub was_hosted : Status → Bool
was_hosted Done = true
was_hosted WriteFault = true
was_hosted ListenFault = true
was_hosted InboxFault = true
was_hosted status = false

-- What `serve` does, where it serves its maps, and its disks, its listener, its inboxes and its dial tell.
abbrev pub ServeHolds : {S K D C A I T : Type 0} → Seeing S K D C A I T → Type 0
ServeHolds {S} {K} {D} {C} {A} {I} {T} seen =
    (job : Job) (status : Status) (old new : OutsideTells S K D C A I T) (logged : List ℕ)
    → ServeDoes seen job status old new logged → was_hosted status ≡ true
    → (events : ServerEvents) (tell : AllTell seen old new events)
    → ServerHolds (serve_world job tell) (may_lose status) events
