-- What a command does that tells of the file of its only map, and writes nothing to it.
use Rattle.std.specs.Prelude.{◌≡◌, ◌⊎◌, ℕ, List, Option, IfSome}
use Rattle.yp_version.specs.Versions.{MapVersion}
use Rattle.yp_map_file.specs.Stands.{Stored, stands}
use Rattle.yp_command.specs.declared.office.status.Status.{Status}
use Rattle.yp_command.specs.declared.office.status.Status.TheVariants.{Done, NoMemory}
use Rattle.yp_command.specs.declared.office.office.Office.{Office}
use Rattle.yp_command.specs.office.Disks.{names_of, IsOnlyRead}
use Rattle.yp_command.specs.office.Seeing.{Seeing, history, output, DiskFails, WriteFails, HasCauses}

-- What is told of the file, by its bytes, is so; the disk is only read. Where nothing fails a version that stands is
-- told, if it is one that can be.
pub record Inspects {S K D C A I T : Type 0} (seen : Seeing S K D C A I T)
    (Tells : List ℕ → Status → Option (List ℕ) → Option (List ℕ) → Type 0) (CanBeTold : MapVersion → Type 0)
    (status : Status) (old new : Office S K D C A I T) : Type 0 where
  pub tells : IfSome (history seen old) (λ h. Tells h.state.reads status (output seen old) (output seen new))
  pub unwritten : IsOnlyRead (history seen old) (history seen new)
  pub complete : (version : MapVersion) → IfSome (history seen old) (λ h. stands h.state.reads ≡ Stored version
      → CanBeTold version → ¬ DiskFails seen old new → ¬ WriteFails seen old new
      → (status ≡ Done) ⊎ (status ≡ NoMemory))
  pub causes : HasCauses seen status old new
  pub names : names_of new.disks.items ≡ names_of old.disks.items
  pub stays : new ≡ record old { wire = record old.wire { sink = new.wire.sink }; disks = new.disks }
