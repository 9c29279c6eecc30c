-- What `dump` tells: the rows of a stored map, as `load` reads them.
use Rattle.std.specs.Prelude.{◌≡◌, ℕ, Bool, true, false, List, Option, Some, None}
use Rattle.std.specs.Io.KnownBytes.{Appends}
use Rattle.yp_io.specs.Streams.{AppendsFront}
use Rattle.yp_version.specs.Rows.{Row}
use Rattle.yp_version.specs.Versions.{MapVersion}
use Rattle.yp_map_file.specs.Stands.{stands}
use Rattle.yp_map_file.specs.Stands as stood
use Rattle.yp_board.specs.Catalogues.{Name, name_view}
use Rattle.yp_texts.specs.declared.dumps.DumpFault.{DumpFault}
use Rattle.yp_texts.specs.declared.dumps.DumpFault.TheVariants as unfit
use Rattle.yp_texts.specs.Dumps.{dump_text, first_unfit}
use Rattle.yp_command.specs.office.Rows.{key_rule, value_rule}
use Rattle.yp_command.specs.declared.office.status.Status.{Status}
use Rattle.yp_command.specs.declared.office.status.Status.TheVariants.{Done, WriteFault, NoMemory, Damaged, NoVersion}
use Rattle.yp_command.specs.declared.office.status.Status.TheVariants.{DiskFault, Rows}
use Rattle.yp_command.specs.declared.office.office.Office.{Office}
use Rattle.yp_command.specs.office.Seeing.{Seeing}
use Rattle.yp_command_maps.specs.Inspect.{Inspects}

-- the status of rows that make no text
abbrev pub unfit_status : DumpFault → Status
unfit_status (unfit.KeyUnfit row) = Rows row key_rule
unfit_status (unfit.ValueUnfit row) = Rows row value_rule
unfit_status unfit.NoMemory = NoMemory

-- What is told of the rows of a version, for each status.
abbrev pub TellsRows : List Row → Status → Option (List ℕ) → Option (List ℕ) → Type 0
TellsRows rows Done before after = (first_unfit 1 rows ≡ None) × Appends before after (dump_text rows)
TellsRows rows WriteFault before after = (first_unfit 1 rows ≡ None) × AppendsFront (dump_text rows) before after
TellsRows rows (Rows row rule) before after =
    (why : DumpFault) × (first_unfit 1 rows ≡ Some why) × (unfit_status why ≡ Rows row rule) × (after ≡ before)
TellsRows rows NoMemory before after = after ≡ before
TellsRows rows _ before after = ⊥

-- What is told of a file, for each status: the rows of the version that it stands for, or the first of them that fits
-- no line, or what else the file stands for, or that the disk failed or memory ran out.
abbrev pub Dumps : Name → List ℕ → Status → Option (List ℕ) → Option (List ℕ) → Type 0
Dumps store file Done before after =
    (version : MapVersion) × (stands file ≡ stood.Stored version) × TellsRows version.rows Done before after
Dumps store file WriteFault before after =
    (version : MapVersion) × (stands file ≡ stood.Stored version) × TellsRows version.rows WriteFault before after
Dumps store file (Rows row rule) before after =
    (version : MapVersion) × (stands file ≡ stood.Stored version) × TellsRows version.rows (Rows row rule) before after
Dumps store file (NoVersion map) before after =
    (name_view map ≡ store) × (stands file ≡ stood.Nothing) × (after ≡ before)
Dumps store file (Damaged map at rule) before after =
    (name_view map ≡ store) × (stands file ≡ stood.Damaged at rule) × (after ≡ before)
Dumps store file (DiskFault map) before after = (name_view map ≡ store) × (after ≡ before)
Dumps store file NoMemory before after = after ≡ before
Dumps store file _ before after = ⊥

-- the statuses with which `dump` may end
abbrev pub dump_may_end : Status → Bool
dump_may_end Done = true
dump_may_end WriteFault = true
dump_may_end NoMemory = true
dump_may_end (Rows row rule) = true
dump_may_end (Damaged map at rule) = true
dump_may_end (NoVersion map) = true
dump_may_end (DiskFault map) = true
dump_may_end _ = false

-- What `dump` does: it tells the rows of the version that its map's file stands for, where all of them fit a line.
abbrev pub DumpDoes : {S K D C A I T : Type 0} → Seeing S K D C A I T → Name → Status
    → (old new : Office S K D C A I T) → Type 0
DumpDoes seen store = Inspects seen (Dumps store) (λ version. first_unfit 1 version.rows ≡ None)
