-- The parts of `walk`: what its turns do, and how it ends.
use Rattle.std.specs.Prelude.{◌≡◌, ℕ, Bool, true, false, List, Option, Result, Ok, Err}
use Rattle.yp_board.specs.Catalogues.{Name}
use Rattle.yp_publisher.specs.declared.install.Installed.{Installed}
use Rattle.yp_command.specs.declared.office.status.Status.{Status}
use Rattle.yp_command.specs.declared.office.status.Status.TheVariants.{InboxFault, Unanswered}
use Rattle.yp_command_maps.specs.declared.xfr.XfrStop.TheVariants as stop
use Rattle.yp_command_maps.specs.Build.{LeavesFew}
use Rattle.yp_command_maps.specs.Xfr.{Job, IsNotLoaded, TellsXfr}
use Rattle.yp_command_maps.specs.inside.Xfr as xfr
use Rattle.yp_command_maps.specs.declared.walk.walker.Came.TheVariants.{Spent, Failed as HasFailed}
use Rattle.yp_command_maps.specs.declared.walk.walk.WalkStop.{WalkStop}
use Rattle.yp_command_maps.specs.declared.walk.walk.WalkStop.TheVariants as walk
use Rattle.yp_command_maps.specs.walk.Walk.{WalkTells, StoresWalk, WalksInVain}

-- What a walk did to its inbox and to its disk, or why the file of its map wasn't loaded.
abbrev pub WalkMoves : Job → (turns : ℕ) → Result Installed WalkStop → (old new : WalkTells) → Type 0
WalkMoves job turns (Ok installed) old new = StoresWalk job turns (Ok installed) old new
WalkMoves job turns (Err (walk.Transfer (stop.Fault why))) old new = StoresWalk job turns (Err why) old new
WalkMoves job turns (Err (walk.Transfer (stop.Unloaded why))) old new =
    IsNotLoaded why old.disk.history new.disk.history old.disk.faults new.disk.faults
WalkMoves job turns (Err walk.Unanswered) old new = WalksInVain job turns Spent old new
WalkMoves job turns (Err walk.InboxFault) old new = WalksInVain job turns HasFailed old new

-- The same, and at each moment a crash leaves no more than the most bytes of a file.
pub record Moved (job : Job) (turns : ℕ) (result : Result Installed WalkStop) (old new : WalkTells) : Type 0 where
  pub moves : WalkMoves job turns result old new
  pub few : LeavesFew old.disk.history new.disk.history

-- whether the file of the map wasn't loaded, or no walk was begun, so that no turn was taken
abbrev pub is_unmailed : Result Installed WalkStop → Bool
is_unmailed (Err (walk.Transfer (stop.Unloaded why))) = true
is_unmailed result = false

-- What is told of it. Nothing is written but the line of what was stored.
abbrev pub IsWalkEnd : Name → ℕ → Result Installed WalkStop → Status → Option (List ℕ) → Option (List ℕ) → Type 0
IsWalkEnd store turns (Ok installed) status before after = TellsXfr store (Ok installed) status before after
IsWalkEnd store turns (Err (walk.Transfer why)) status before after = xfr.IsXfrEnd store (Err why) status before after
IsWalkEnd store turns (Err walk.Unanswered) status before after = (status ≡ Unanswered turns) × (after ≡ before)
IsWalkEnd store turns (Err walk.InboxFault) status before after = (status ≡ InboxFault) × (after ≡ before)
