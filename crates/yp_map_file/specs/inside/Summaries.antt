-- What is told of a file whose version is read but for its rows.
use Rattle.std.specs.Prelude.{◌≡◌, length, Option, Some, None, Result, Ok, Err, ⊤}
use Rattle.yp_version.specs.Versions.{MapVersion}
use Rattle.yp_map_file.specs.declared.fault.SlotFault.{SlotFault}
use Rattle.yp_map_file.specs.declared.fault.SlotFault.TheVariants as fault
use Rattle.yp_map_file.specs.declared.survey.Summary.{Summary}
use Rattle.yp_map_file.specs.Stands.{Stands, Nothing, Stored, Damaged}

-- A summary says what a version is, and how many rows it has.
pub record SumsUp (summary : Summary) (version : MapVersion) : Type 0 where
  pub order : summary.order ≡ version.order
  pub master : summary.master.items ≡ version.master
  pub secure : summary.secure ≡ version.secure
  pub rows : summary.rows ≡ length version.rows

-- a file that stands for this was surveyed, unless the disk failed or memory ran out
abbrev pub Surveys : Stands → Result (Option Summary) SlotFault → Type 0
Surveys stood (Ok None) = stood ≡ Nothing
Surveys stood (Ok (Some summary)) = (version : MapVersion) × (stood ≡ Stored version) × SumsUp summary version
Surveys stood (Err (fault.Damaged at rule)) = stood ≡ Damaged at rule
Surveys stood (Err fault.DiskFault) = ⊤
Surveys stood (Err fault.NoMemory) = ⊤
