-- Rows of a text that are pushed in turn, and the first that is refused.
use Rattle.std.specs.Prelude.{ℕ, List, [], ◌∷◌, map, Option, Some, None}
use Rattle.std.specs.Option.{option_map_or}
use Rattle.yp_version.specs.Rows.{Row}
use Rattle.yp_version.specs.Drafts.{Draft, refused, with_row}
use Rattle.yp_version.specs.declared.builder.VersionFault.{VersionFault}
use Rattle.yp_version.specs.declared.builder.VersionFault.TheVariants as version
use Rattle.yp_texts.specs.declared.fault.BuildFault.{BuildFault}
use Rattle.yp_texts.specs.declared.fault.BuildFault.TheVariants.{KeyLong, ValueLong, TooManyRows, TooBig, NoMemory}
use Rattle.yp_texts.specs.Rows.{LineRow}

-- why a row is refused, with its line
abbrev pub fault_at : ℕ → VersionFault → BuildFault
fault_at line (version.KeyLong len) = KeyLong line
fault_at line (version.ValueLong len) = ValueLong line
fault_at line version.TooManyRows = TooManyRows line
fault_at line version.TooBig = TooBig line
fault_at line version.NoMemory = NoMemory

abbrev pub plain : List LineRow → List Row
plain rows = map (λ row. row.1) rows

-- why the first of the rows that is refused is; each is pushed onto those before it
abbrev pub first_fault : Draft → List LineRow → Option BuildFault
first_fault draft [] = None
first_fault draft (row ∷ rows) =
    option_map_or (λ fault. Some (fault_at row.0 fault)) (refused draft row.1) (first_fault (with_row draft row.1) rows)
