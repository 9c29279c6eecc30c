-- What `walk` fetches in datagrams, stores and tells.
use Rattle.std.specs.Prelude.{◌≡◌, ◌⊎◌, ℕ, Bool, true, Result}
use Rattle.yp_io.specs.Disk.{LeavesOnly, MayLeave}
use Rattle.yp_board.specs.declared.catalog.MapName.{MapName}
use Rattle.yp_publisher.specs.declared.install.Installed.{Installed}
use Rattle.yp_rpc.specs.Turns.{InboxTells}
use Rattle.yp_transfer.specs.declared.fault.XfrFault.{XfrFault}
use Rattle.yp_transfer.specs.Fetching.{FetchOutcome}
use Rattle.yp_command.specs.declared.office.office.Office.{Office}
use Rattle.yp_command.specs.declared.office.status.Status.{Status}
use Rattle.yp_command.specs.declared.office.status.Status.TheVariants.{WriteFault, DiskFault, InboxFault, Unanswered}
use Rattle.yp_command.specs.office.Disks.{names_of}
use Rattle.yp_command.specs.office.Seeing.{Seeing, output, history, WriteFails, DiskFails, InboxFails}
use Rattle.yp_command_maps.specs.Disks.{DiskTells, disk_tells}
use Rattle.yp_command_maps.specs.Build.{LeavesFew}
use Rattle.yp_command_maps.specs.Xfr.{Job, FileVersion, IsFileVersion, wanted, StoresOn, TellsXfr}
use Rattle.yp_command_maps.specs.Xfr.{XfrDeclines, xfr_may_end}
use Rattle.yp_command_mail.specs.Telling.{box}
use Rattle.yp_command_maps.specs.declared.walk.walker.Came.{Came}
use Rattle.yp_command_maps.specs.declared.walk.walker.Came.TheVariants.{Outcome as HasOutcome, Spent, Failed as HasFailed}
use Rattle.yp_command_maps.specs.walk.Turns.{WalksTo}

-- ---- the inbox, and the disk of the map

-- what a walk's inbox tells, and the disk of its map
pub record WalkTells : Type 0 where
  pub inbox : InboxTells
  pub disk : DiskTells

abbrev pub walk_tells : InboxTells → DiskTells → WalkTells
walk_tells inbox disk = record { inbox = inbox; disk = disk }

-- what those of an office tell
abbrev pub walker_tells : {S K D C A I T : Type 0} → Seeing S K D C A I T → Office S K D C A I T → WalkTells
walker_tells seen office = walk_tells (box seen office) (disk_tells seen office)

-- What a walk does to its inbox and to the disk of its map, whose file is told or not and was loaded: the source was
-- asked row by row, and what came of that is stored or refused. The disk tells what the file had, and the inbox what
-- came of the walk, unless memory ran out.
pub record StoresWalk (job : Job) (turns : ℕ) (result : Result Installed XfrFault) (old new : WalkTells)
    : Type 0 where
  pub held : FileVersion
  pub outcome : FetchOutcome
  pub walks : WalksTo job.host.1 (wanted job held) turns (HasOutcome outcome) old.inbox new.inbox
  pub stores : StoresOn job held outcome result old.disk new.disk

-- Nothing came of it, and nothing was written.
pub record WalksInVain (job : Job) (turns : ℕ) (came : Came) (old new : WalkTells) : Type 0 where
  pub held : FileVersion
  pub is_held : IsFileVersion old.disk.history held
  pub walks : WalksTo job.host.1 (wanted job held) turns came old.inbox new.inbox
  pub unwritten : LeavesOnly old.disk.history new.disk.history (MayLeave old.disk.history)

-- ---- the command

-- The file was loaded, and what came of the walk was stored, or wasn't.
pub record Walks {S K D C A I T : Type 0} (seen : Seeing S K D C A I T) (job : Job) (turns : ℕ) (status : Status)
    (old new : Office S K D C A I T) : Type 0 where
  pub result : Result Installed XfrFault
  pub did : StoresWalk job turns result (walker_tells seen old) (walker_tells seen new)
  pub tells : TellsXfr job.store result status (output seen old) (output seen new)

-- the status where nothing came of the walk
abbrev pub IsVain : ℕ → Came → Status → Type 0
IsVain turns Spent status = status ≡ Unanswered turns
IsVain turns HasFailed status = status ≡ InboxFault
IsVain turns came status = ⊥

-- The file was loaded, and nothing came of the walk. Nothing was written.
pub record WalksForNothing {S K D C A I T : Type 0} (seen : Seeing S K D C A I T) (job : Job) (turns : ℕ)
    (status : Status) (old new : Office S K D C A I T) : Type 0 where
  pub came : Came
  pub did : WalksInVain job turns came (walker_tells seen old) (walker_tells seen new)
  pub tells : IsVain turns came status
  pub stays : new ≡ record old { disks = new.disks; inbox = new.inbox }

-- the statuses with which `walk` may end
abbrev pub walk_may_end : Status → Bool
walk_may_end InboxFault = true
walk_may_end (Unanswered turns) = true
walk_may_end status = xfr_may_end status

-- What `walk` does: it loads the file of its map, asks its host for the map row by row in turns of the inbox, stores
-- what came, and tells it; or the first reason why there is none is told, or that all turns were taken before. A line
-- that can't be written leaves the map stored. At each moment a crash leaves what it might have left before, or a file
-- that stands for what stood or for what was fetched. Nothing is dialed.
pub record WalkDoes {S K D C A I T : Type 0} (seen : Seeing S K D C A I T) (job : Job) (turns : ℕ) (status : Status)
    (old new : Office S K D C A I T) : Type 0 where
  pub does : Walks seen job turns status old new
      ⊎ (WalksForNothing seen job turns status old new ⊎ XfrDeclines seen job status old new)
  pub few : LeavesFew (history seen old) (history seen new)
  pub write_fault : status ≡ WriteFault → WriteFails seen old new
  pub disk_fault : (map : MapName) → status ≡ DiskFault map → DiskFails seen old new
  pub inbox_fault : status ≡ InboxFault → InboxFails seen old new
  pub names : names_of new.disks.items ≡ names_of old.disks.items
  pub stays : new ≡ record old {
    wire = record old.wire { sink = new.wire.sink };
    disks = new.disks;
    inbox = new.inbox;
  }
