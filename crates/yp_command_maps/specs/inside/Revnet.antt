-- The parts of `revnet`: what stops a commit, and how a version is made anew.
use Rattle.std.specs.Prelude.{◌≡◌, ℕ, ◌+◌, false, List, length, Option}
use Rattle.std.specs.Prelude.{Result, Ok, Err, IfSome, IfErr, OnOk}
use Rattle.yp_io.specs.Counts.{HasRisen}
use Rattle.yp_io.specs.Disk.{History, LeavesOnly, MayLeave}
use Rattle.yp_version.specs.Versions.{MapVersion}
use Rattle.yp_map_file.specs.Commits.{generation_of, winning, generation_max}
use Rattle.yp_board.specs.Catalogues.{Name, name_view}
use Rattle.yp_board.specs.declared.catalog.MapName.{MapName}
use Rattle.yp_command.specs.declared.office.disks.NamedDisk.{NamedDisk}
use Rattle.yp_command.specs.declared.office.status.Status.{Status}
use Rattle.yp_command.specs.declared.office.status.Status.TheVariants.{DiskFault, GenerationsSpent}
use Rattle.yp_command.specs.office.Disks.{told_at, faults_of, IsOnlyRead}
use Rattle.yp_command_maps.specs.declared.build.Built.{Built}
use Rattle.yp_command_maps.specs.declared.revnet.Reversal.{Reversal}
use Rattle.yp_command_maps.specs.Build.{build_line, TellsLine, LeavesFew, may_have_written}
use Rattle.yp_command_maps.specs.Revnet.{Job, RevnetInputs, ReverseIsPlanned, StopsRevnet, OfMade, StandsForVersion}
use Rattle.yp_command_maps.specs.Revnet.{AtFiles, IsBeforeOrMade}

-- what is to be made, as the code has it
abbrev pub reverse_job : Reversal → Name → Job
reverse_job reversal store = record { name = reversal.name.now; store = store; field = reversal.field }

-- a version isn't stored behind this generation
abbrev pub StopsCommit : Name → ℕ → Status → Type 0
StopsCommit store generation (GenerationsSpent map) = (name_view map ≡ store) × (generation ≡ generation_max)
StopsCommit store generation (DiskFault map) = name_view map ≡ store
StopsCommit store generation _ = ⊥

-- what came of it
abbrev pub Ends : Job → RevnetInputs → Option MapVersion → Result Built Status → Type 0
Ends job inputs made (Ok built) = OfMade made (λ version. built ≡ record {
  order = version.order;
  rows = length version.rows;
  generation = generation_of (winning inputs.file) + 1;
})
Ends job inputs made (Err status) = StopsRevnet job inputs status

-- what the disks of the map and of the netgroups tell, and how often the two have failed, together
pub record RevnetTells : Type 0 where
  pub store : Option History
  pub netgroup : Option History
  pub faults : ℕ

abbrev pub revnet_tells : (store netgroup : Option History) → (faults : ℕ) → RevnetTells
revnet_tells store netgroup faults = record { store = store; netgroup = netgroup; faults = faults }

-- what these two disks tell
abbrev pub both_tell : {D : Type 0} → (D → Option History) → (D → ℕ) → (store netgroup : D) → RevnetTells
both_tell history faults store netgroup =
    revnet_tells (history store) (history netgroup) (faults store + faults netgroup)

-- what the first two disks tell, that of the map and that of the netgroups
abbrev pub two_tell : {D : Type 0} → (D → Option History) → (D → ℕ) → List (NamedDisk D) → RevnetTells
two_tell history faults disks =
    revnet_tells (told_at history 0 disks) (told_at history 1 disks) (faults_of faults disks)

-- What is done to the disks of the map and of the netgroups.
pub record Renews (job : Job) (now : ℕ) (result : Result Built Status) (old new : RevnetTells) : Type 0 where
  pub made : Option MapVersion
  pub planned : IfSome made
      (λ version. AtFiles old.store old.netgroup now (λ inputs. ReverseIsPlanned job inputs version))
  pub ends : AtFiles old.store old.netgroup now (λ inputs. Ends job inputs made result)
  pub stored : OnOk result ((image : List ℕ) → MayLeave new.store image → StandsForVersion made image)
  pub any_moment : LeavesOnly old.store new.store (IsBeforeOrMade old.store made)
  pub few : LeavesFew old.store new.store
  pub early : IfErr result
      (λ status. may_have_written status ≡ false → LeavesOnly old.store new.store (MayLeave old.store))
  pub only_read : IsOnlyRead old.netgroup new.netgroup
  pub cause : IfErr result (λ status. (map : MapName) → status ≡ DiskFault map → HasRisen old.faults new.faults)

-- what is told of it: a line, or nothing
abbrev pub IsToldEnd : Name → Result Built Status → Status → Option (List ℕ) → Option (List ℕ) → Type 0
IsToldEnd store (Ok built) status before after =
    TellsLine (build_line store built.order built.rows built.generation) status before after
IsToldEnd store (Err why) status before after = (status ≡ why) × (after ≡ before)
