-- The guests of a worker: how each of them stands, and what a worker has done with all of them.
use Rattle.std.specs.Prelude.{◌≡◌, ◌≢◌, ◌⊎◌, ◌<◌, ◌≤◌, ◌+◌, ℕ, Bool, true, false, List, ◌++◌, length, map}
use Rattle.std.specs.Prelude.{Option, None, Some, IfSome, option_map, ⊤}
use Rattle.std.specs.List.{All}
use Rattle.slab.specs.Slab.{Slab, get, slab_len, Updates}
use Rattle.yp_io.specs.Counts.{capped, next_count}
use Rattle.yp_io.specs.Calls.{ListenerHistory, ClosedConnection}
use Rattle.yp_io.specs.Dials.{Connected, connected, IsFresh}
use Rattle.yp_io.specs.declared.stream.Peer.{Peer}
use Rattle.yp_board.specs.Logs.{Log}
use Rattle.yp_board.specs.Views.{IsFront}
use Rattle.yp_io.specs.declared.ready.TrySource as try_source
use Rattle.yp_io.specs.declared.ready.TrySink as try_sink
use Rattle.yp_answer.specs.Transfer.{Taken}
use Rattle.yp_answer.specs.session.Hosts.{Conduct}
use Rattle.yp_answer.specs.session.Wires.{Wire}
use Rattle.yp_answer.specs.session.Cuts.{Deed, IsCut}
use Rattle.yp_answer.specs.inside.session.Cuts.{SeesOn, cut_of, told_by}
use Rattle.yp_answer.specs.inside.session.Errands.{IsDue}
use Rattle.yp_worker.specs.declared.left.LongWork.{LongWork}
use Rattle.yp_worker.specs.declared.left.LongWork.TheVariants.{Makes, Transfers}
use Rattle.yp_worker.specs.declared.tally.Tally.{Tally}
use Rattle.yp_worker.specs.Working.{Working, WorkerStep, Did, IsOwnStep, deeds_of, TakesSteps}
use Rattle.yp_worker.specs.Receptions.{Terms, IsUnder, IsExpected}
use Rattle.yp_worker.specs.inside.Receptions.{Passed}
use Rattle.yp_worker.specs.inside.GuestStates.{GuestState, WaitingGuest}
use Rattle.yp_worker.specs.Summing.{Counting, ServedConnection, LeftConnection, ends_of, calls_of, let_go_of}
use Rattle.yp_worker.specs.Summing.{WasLeft, HadBefore, WasServed, WasHandedOn, numbers_of, AreApart, IsStepOf}

-- steps, and then these deeds of one conversation
abbrev pub steps_then : List WorkerStep → ℕ → Peer → List Deed → List WorkerStep
steps_then steps number peer deeds = steps ++ map (Did number peer) deeds

-- ---- a guest

module _ {S K : Type 0} (source : try_source.Ghosts S) (sink : try_sink.Ghosts K) where
  -- what a guest's wire told as it came
  abbrev pub came_with : GuestState S K → Wire
  came_with guest = told_by source sink guest.origin.wire.source guest.origin.wire.sink

  -- what the connection told as it came
  abbrev pub came_as : GuestState S K → Connected
  came_as guest =
      connected guest.origin.peer (source.input guest.origin.wire.source) (sink.output guest.origin.wire.sink)

  -- A guest is one of those that were to come, its wire had met no fault and taken nothing, and its conversation is cut
  -- behind these deeds.
  pub record IsGuest (past : Option ListenerHistory) (deeds : List Deed) (guest : GuestState S K) : Type 0 where
    pub expected : IsExpected past (came_as guest)
    pub fresh : IsFresh (source.faults guest.origin.wire.source) (sink.faults guest.origin.wire.sink)
        (sink.output guest.origin.wire.sink)
    pub cut : IsCut (came_with guest) deeds (cut_of source sink guest.talk)

-- a guest, and the host of the worker that it is with
pub record HostedGuest (H S K : Type 0) : Type 0 where
  pub guest : GuestState S K
  pub host : H

-- A worker went on with one of its guests, which is cut behind more deeds than before.
pub record WorksOn {H T S K : Type 0} (conduct : Conduct H) (counted : H → T) (source : try_source.Ghosts S)
    (sink : try_sink.Ghosts K) (old new : HostedGuest H S K) : Type 0 where
  pub deeds : List Deed
  pub origin : new.guest.origin ≡ old.guest.origin
  pub number : new.guest.number ≡ old.guest.number
  pub own : (past : Option ListenerHistory) (earlier : List Deed) → IsGuest source sink past earlier old.guest
      → IsGuest source sink past (earlier ++ deeds) new.guest
  pub taken : (first : H) (steps : List WorkerStep) → TakesSteps conduct counted steps first old.host
      → TakesSteps conduct counted (steps_then steps old.guest.number old.guest.origin.peer deeds) first new.host
  pub sees : SeesOn (conduct.seen old.host) (conduct.seen new.host)

-- ---- all guests of a worker

-- what a worker has at work: its guests, each under the key of its place, the connections that its closer tells and how
-- many it has closed, how many its watch let go, what was counted, and the number of the next conversation
pub record Serving (S K : Type 0) : Type 0 where
  pub guests : Slab (GuestState S K)
  pub closed : Option (List ClosedConnection)
  pub closed_count : ℕ
  pub let_go : ℕ
  pub tally : Tally
  pub next : ℕ

abbrev pub serving_of : {S K C W : Type 0} → (C → Option (List ClosedConnection)) → (C → ℕ) → (W → ℕ)
    → Slab (GuestState S K) → C → W → Tally → ℕ → Serving S K
serving_of closed closed_count let_go guests closer watch tally next = record {
  guests = guests;
  closed = closed closer;
  closed_count = closed_count closer;
  let_go = let_go watch;
  tally = tally;
  next = next;
}

-- how many connections are its own: those that were closed, and its guests
abbrev pub came_to : {S K : Type 0} → Tally → Slab (GuestState S K) → ℕ
came_to tally guests = tally.connections + slab_len guests

-- the number of the guest at a key
abbrev pub number_at : {S K : Type 0} → Slab (GuestState S K) → ℕ → Option ℕ
number_at guests key = option_map (λ guest. guest.number) (get guests key)

-- a count and one more where a connection is let go
abbrev pub let_go_where : Bool → ℕ → ℕ
let_go_where true before = next_count before
let_go_where false before = before

-- one where the door is closed to all who come
abbrev pub closed_door : Bool → ℕ
closed_door true = 0
closed_door false = 1

-- What a worker holds of a listener has changed as connections came to it and as it ended.
pub record Comes (old new : Passed) (came came' : ℕ) (before after : Bool) : Type 0 where
  pub parts : new.parts ≡ old.parts
  pub out : new.out + came ≡ old.out + came'
  pub ended : new.ended + closed_door before ≡ old.ended + closed_door after

-- A deed was done in the conversation of a guest, of a connection that was closed, or of one that was left, with its
-- peer.
abbrev pub IsOwned : {S K : Type 0} → Slab (GuestState S K) → List ServedConnection → List LeftConnection → WorkerStep
    → Type 0
IsOwned {S} {K} guests stays left (Did number peer deed) =
    ((key : ℕ) × (guest : GuestState S K) × (get guests key ≡ Some guest) × (guest.number ≡ number)
    × (guest.origin.peer ≡ peer))
    ⊎ IsStepOf stays left (Did number peer deed)
IsOwned guests stays left _ = ⊤

module _ {H T S K : Type 0} (source : try_source.Ghosts S) (sink : try_sink.Ghosts K) (conduct : Conduct H)
    (counting : Counting H T) (terms : Terms) (past : Option ListenerHistory) where
  -- A guest of a worker that took these steps stands behind the deeds of its number, and behind those of a worker that
  -- had left it before. Its number is one of those before the next. What waits of it is a transfer of the maps.
  pub record IsSeated (steps : List WorkerStep) (next : ℕ) (guest : GuestState S K) : Type 0 where
    pub earlier : List Deed
    pub began : HadBefore conduct counting terms guest.origin.peer guest.number earlier steps
    pub is : IsGuest source sink past (earlier ++ deeds_of guest.number steps) guest
    pub low : guest.number < next
    pub due : IfSome guest.talk.waiting (IsDue (length terms.catalogue.maps))

  -- A worker took steps, from one that was such a worker: its guests stand behind them, the connections that it has
  -- closed were served in them, and others it has left. No two have one number, and each deed is of one of them. Its
  -- closer tells those that were closed where the listener tells its connections, and no more of them were let go than
  -- its watch says.
  pub record HasServed (serving : Serving S K) (worker : Working H) : Type 0 where
    pub first : Working H
    pub steps : List WorkerStep
    pub stays : List ServedConnection
    pub left : List LeftConnection
    pub under : IsUnder conduct terms first
    pub from_none : counting.counted first.host ≡ counting.none
    pub takes : TakesSteps conduct counting.counted steps first.host worker.host
    pub same : first.carries ≡ worker.carries
    pub own : first.carries ≡ false → All IsOwnStep steps
    pub guests : (key : ℕ) → IfSome (get serving.guests key) (IsSeated steps serving.next)
    pub differ : (key other number : ℕ) → key ≢ other → number_at serving.guests key ≡ Some number
        → number_at serving.guests other ≢ Some number
    pub served : All (WasServed conduct counting terms past steps) stays
    pub handed_on : All (WasHandedOn past steps) left
    pub apart : AreApart (numbers_of stays left)
    pub low : All (λ number. number < serving.next) (numbers_of stays left)
    pub gone : (key number : ℕ) → number_at serving.guests key ≡ Some number
        → All (λ other. other ≢ number) (numbers_of stays left)
    pub owned : All (IsOwned serving.guests stays left) steps
    pub fits : came_to serving.tally serving.guests ≤ serving.next
    pub bound : serving.next < 18446744073709551616
    pub connections_are : serving.tally.connections ≡ length stays
    pub calls_are : serving.tally.calls ≡ calls_of stays
    pub told : IfSome past (λ _. serving.closed ≡ Some (ends_of stays))
    pub closed_are : serving.closed_count ≡ capped 0 (length stays)
    pub let_go_are : capped 0 (let_go_of stays) ≤ serving.let_go

  -- A worker that has served so is to seat a guest, which stands behind what was done in its conversation before.
  pub record IsToSeat (serving : Serving S K) (worker : Working H) (guest : GuestState S K) : Type 0 where
    pub has : HasServed serving worker
    pub earlier : List Deed
    pub began : HadBefore conduct counting terms guest.origin.peer serving.next earlier has.steps
    pub is : IsGuest source sink past earlier guest
    pub number : guest.number ≡ serving.next
    pub due : IfSome guest.talk.waiting (IsDue (length terms.catalogue.maps))

-- ---- a guest between two workers

-- what takes long for a guest that can't go on before: the transfer that waits, and else a map that may be made
abbrev pub long_work_in : Option Taken → LongWork
long_work_in (Some taken) = Transfers
long_work_in None = Makes

module _ {H T S K F : Type 0} (source : try_source.Ghosts S) (sink : try_sink.Ghosts K) (conduct : Conduct H)
    (counting : Counting H T) (terms : Terms) (past : Option ListenerHistory) (kept : F → Log) where
  -- A guest waits behind the deeds of the worker that left it. What waits of it is a transfer of the maps.
  pub record IsWaiting (waiting : WaitingGuest S K F) : Type 0 where
    pub deeds : List Deed
    pub known : Log
    pub is : IsGuest source sink past deeds waiting.guest
    pub left : WasLeft conduct counting terms waiting.guest.origin.peer deeds known
    pub covered : IsFront known (kept waiting.front)
    pub due : IfSome waiting.guest.talk.waiting (IsDue (length terms.catalogue.maps))

-- The guest at a key was taken out.
pub record IsTakenOut {S K : Type 0} (key : ℕ) (old new : Slab (GuestState S K)) : Type 0 where
  pub guest : GuestState S K
  pub found : get old key ≡ Some guest
  pub updates : Updates old new key None
  pub count : slab_len new + 1 ≡ slab_len old

-- The guest at a key left its worker, which holds one less that is out.
pub record IsKept {S K : Type 0} (key : ℕ) (old new : Slab (GuestState S K)) (before after : Passed) : Type 0 where
  pub taken_out : IsTakenOut key old new
  pub out : after.out + 1 ≡ before.out
  pub same : after ≡ record before { out = after.out }

-- The guest at a key has changed so, and all others stand as they stood.
pub record ChangesAt {S K : Type 0} (key : ℕ) (old new : Slab (GuestState S K))
    (Change : GuestState S K → GuestState S K → Type 0) : Type 0 where
  pub was : GuestState S K
  pub now : GuestState S K
  pub found : get old key ≡ Some was
  pub updates : Updates old new key (Some now)
  pub count : slab_len new ≡ slab_len old
  pub change : Change was now
