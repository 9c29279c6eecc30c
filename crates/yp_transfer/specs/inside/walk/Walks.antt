-- A walk as it begins, goes on and gives a version.
use Rattle.std.specs.Prelude.{◌≡◌, ℕ, ◌⊎◌, List, Some, None, Result, Ok, Err, ⊤}
use Rattle.yp_io.specs.declared.stream.Peer.{Peer}
use Rattle.yp_messages.specs.Numbers.{program, version}
use Rattle.yp_messages.specs.Messages.{req_nokey}
use Rattle.yp_rpc.specs.Called.{call_of}
use Rattle.yp_version.specs.Versions.{MapVersion}
use Rattle.yp_transfer.specs.declared.fault.XfrFault.{XfrFault}
use Rattle.yp_transfer.specs.declared.fault.XfrFault.TheVariants.{NoMemory}
use Rattle.yp_transfer.specs.Fetching.{Wanted, against_names}
use Rattle.yp_transfer.specs.declared.walk.walked.Walked.{Walked}
use Rattle.yp_transfer.specs.declared.walk.walked.Walked.TheVariants.{Done}
use Rattle.yp_transfer.specs.walk.Standings.{WalkState, HasEnded, IsAsking}
use Rattle.yp_transfer.specs.walk.Schedules.{Walking, begun}
use Rattle.yp_transfer.specs.walk.Walks.{IsVersionOfDraft}

-- A walk is begun where no name is empty, unless memory runs out.
abbrev pub WalkIsBegun : Peer → Wanted → Result Walking XfrFault → Type 0
WalkIsBegun source wanted (Ok walking) = (walking ≡ begun source wanted) × (against_names wanted ≡ None)
WalkIsBegun source wanted (Err fault) =
    (against_names wanted ≡ Some fault) ⊎ ((fault ≡ NoMemory) × (against_names wanted ≡ None))

-- a call about the map, by the number of its procedure
abbrev pub map_call : ℕ → Walking → List ℕ
map_call procedure walking =
    call_of req_nokey walking.xid program version procedure (walking.wanted.domain, walking.wanted.map)

-- A walk has ended with a version.
abbrev pub WalkIsDone : WalkState → Type 0
WalkIsDone (HasEnded (Ok draft)) = ⊤
WalkIsDone standing = ⊥

-- After a mail the walk asks on, or is done.
abbrev pub WalkGoesOn : Result Walked XfrFault → WalkState → Type 0
WalkGoesOn (Ok Done) standing = WalkIsDone standing
WalkGoesOn (Ok walked) standing = IsAsking standing
WalkGoesOn (Err fault) standing = ⊤

abbrev pub WalkGivesVersion : WalkState → Result MapVersion XfrFault → Type 0
WalkGivesVersion (HasEnded (Ok draft)) result = IsVersionOfDraft draft result
WalkGivesVersion standing result = ⊥
