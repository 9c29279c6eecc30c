-- What is loaded of a file, and the fault that is told instead.
use Rattle.std.specs.Prelude.{◌≡◌, ℕ, ◌+◌, ◌^◌, ◌<◌, List, Option, Some, Result, Ok, Err, ⊤}
use Rattle.yp_io.specs.Disk.{History, IsWithin}
use Rattle.yp_version.specs.Versions.{MapVersion}
use Rattle.yp_map_file.specs.declared.cells.Cell.{Cell}
use Rattle.yp_map_file.specs.declared.cells.Entry.{Entry}
use Rattle.yp_map_file.specs.declared.cells.Winner.TheVariants.{Only}
use Rattle.yp_map_file.specs.declared.fault.SlotFault.{SlotFault}
use Rattle.yp_map_file.specs.declared.fault.SlotFault.TheVariants as fault
use Rattle.yp_map_file.specs.declared.known.Known.{Known}
use Rattle.yp_map_file.specs.declared.wrong.BodyFault.{BodyFault}
use Rattle.yp_map_file.specs.declared.wrong.BodyFault.TheVariants.{Wrong, NoMemory}
use Rattle.yp_map_file.specs.Stands.{by_winner, Stands, Stored, Damaged, stands}
use Rattle.yp_map_file.specs.inside.Stands.{standing}
use Rattle.yp_map_file.specs.Slots.{IsSound}
use Rattle.yp_map_file.specs.inside.Slots.{IsKnown, LiesWithin}
use Rattle.yp_map_file.specs.Loads.{Loads}

-- the fault of a file whose body, at this place, can't be read
abbrev pub fault_in : ℕ → BodyFault → SlotFault
fault_in place (Wrong wrong) = fault.Damaged (place + wrong.at) wrong.rule
fault_in place NoMemory = fault.NoMemory

abbrev pub FitsIn : ℕ → BodyFault → Type 0
FitsIn place (Wrong wrong) = place + wrong.at < 2 ^ 64
FitsIn place NoMemory = ⊤

-- The result of loading a body is what the body stands for, unless the disk failed or memory ran out.
abbrev pub LoadsBody : Stands → Result MapVersion SlotFault → Type 0
LoadsBody stood (Ok version) = stood ≡ Stored version
LoadsBody stood (Err (fault.Damaged at rule)) = stood ≡ Damaged at rule
LoadsBody stood (Err fault.DiskFault) = ⊤
LoadsBody stood (Err fault.NoMemory) = ⊤

-- the cells of a file were judged by the rules 2 to 4
abbrev pub Judges : List ℕ → Result Known SlotFault → Type 0
Judges file (Ok known) = (stands file ≡ standing known.winner file) × (IsSound (stands file) → IsKnown known file)
Judges file (Err (fault.Damaged at rule)) = stands file ≡ Damaged at rule
Judges file (Err fault.DiskFault) = ⊥
Judges file (Err fault.NoMemory) = ⊥

-- and those of the cell that wins by the rules 3 and 4
abbrev pub JudgesWinner : Cell → List ℕ → Result Entry SlotFault → Type 0
JudgesWinner cell file (Ok numbers) = by_winner (Only cell) file ≡ standing (Some numbers) file
JudgesWinner cell file (Err (fault.Damaged at rule)) = by_winner (Only cell) file ≡ Damaged at rule
JudgesWinner cell file (Err fault.DiskFault) = ⊥
JudgesWinner cell file (Err fault.NoMemory) = ⊥

-- the cells of a file were judged, unless the disk failed
abbrev pub JudgesFile : List ℕ → Result Known SlotFault → Type 0
JudgesFile file (Ok known) = (stands file ≡ standing known.winner file) × (IsSound (stands file) → IsKnown known file)
JudgesFile file (Err (fault.Damaged at rule)) = stands file ≡ Damaged at rule
JudgesFile file (Err fault.DiskFault) = ⊤
JudgesFile file (Err fault.NoMemory) = ⊤

-- a file was loaded, and what there is to know of it is known
abbrev pub LoadsFile : List ℕ → Result (Known × Option MapVersion) SlotFault → Type 0
LoadsFile file (Ok found) = Loads (stands file) (Ok found.1) × IsKnown found.0 file
LoadsFile file (Err e) = Loads (stands file) (Err e)

-- an entry's body lies within the file, where its length is told
pub record HasBody (numbers : Entry) (history : Option History) : Type 0 where
  pub lies : LiesWithin numbers
  pub within : IsWithin (numbers.place + numbers.len) history
