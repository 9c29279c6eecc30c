-- What `check` tells: what the bytes of a stored file stand for.
use Rattle.std.specs.Prelude.{◌≡◌, ℕ, Bool, true, false, List, [], ◌++◌, length, Option, if◌then◌else◌}
use Rattle.std.specs.Prelude.{codes, decimal, ⊤}
use Rattle.std.specs.Io.KnownBytes.{Appends}
use Rattle.yp_io.specs.Streams.{AppendsFront}
use Rattle.yp_version.specs.Versions.{MapVersion}
use Rattle.yp_map_file.specs.Commits.{generation_of, winning}
use Rattle.yp_map_file.specs.Stands.{Stands, stands}
use Rattle.yp_map_file.specs.Stands as stood
use Rattle.yp_board.specs.Catalogues.{Name, name_view}
use Rattle.yp_command.specs.office.Lines.{map_text}
use Rattle.yp_command.specs.declared.office.status.Status.{Status}
use Rattle.yp_command.specs.declared.office.status.Status.TheVariants.{Done, WriteFault, NoMemory, Damaged, NoVersion}
use Rattle.yp_command.specs.declared.office.status.Status.TheVariants.{DiskFault}
use Rattle.yp_command.specs.declared.office.office.Office.{Office}
use Rattle.yp_command.specs.office.Seeing.{Seeing}
use Rattle.yp_command_maps.specs.Inspect.{Inspects}

-- what stands behind the generation of a secure version
abbrev pub mark_text : Bool → List ℕ
mark_text secure = if secure then codes " secure" else []

-- the line of a version with this order and master, so many rows and this mark
abbrev pub check_text : Name → ℕ → (order : ℕ) → (master : List ℕ) → (rows : ℕ) → (secure : Bool) → List ℕ
check_text store generation order master rows secure =
    map_text store ++ codes " order " ++ decimal order ++ codes " master " ++ master ++ codes " rows " ++ decimal rows
    ++ codes " generation " ++ decimal generation ++ mark_text secure ++ codes "\n"

-- the line of a version that stands
abbrev pub check_line : Name → ℕ → MapVersion → List ℕ
check_line store generation version =
    check_text store generation version.order version.master (length version.rows) version.secure

-- the line of the version that a file stands for
abbrev pub line_of : Name → List ℕ → MapVersion → List ℕ
line_of store file version = check_line store (generation_of (winning file)) version

-- What is told of a file, for each status: what it stands for, or that the disk failed or memory ran out.
abbrev pub Checks : Name → List ℕ → Status → Option (List ℕ) → Option (List ℕ) → Type 0
Checks store file Done before after =
    (version : MapVersion) × (stands file ≡ stood.Stored version) × Appends before after (line_of store file version)
Checks store file WriteFault before after =
    (version : MapVersion) × (stands file ≡ stood.Stored version)
    × AppendsFront (line_of store file version) before after
Checks store file (NoVersion map) before after =
    (name_view map ≡ store) × (stands file ≡ stood.Nothing) × (after ≡ before)
Checks store file (Damaged map at rule) before after =
    (name_view map ≡ store) × (stands file ≡ stood.Damaged at rule) × (after ≡ before)
Checks store file (DiskFault map) before after = (name_view map ≡ store) × (after ≡ before)
Checks store file NoMemory before after = after ≡ before
Checks store file _ before after = ⊥

-- the statuses with which `check` may end
abbrev pub check_may_end : Status → Bool
check_may_end Done = true
check_may_end WriteFault = true
check_may_end NoMemory = true
check_may_end (Damaged map at rule) = true
check_may_end (NoVersion map) = true
check_may_end (DiskFault map) = true
check_may_end _ = false

-- What `check` does: it tells what the file of its map stands for.
abbrev pub CheckDoes : {S K D C A I T : Type 0} → Seeing S K D C A I T → Name → Status
    → (old new : Office S K D C A I T) → Type 0
CheckDoes seen store = Inspects seen (Checks store) (λ version. ⊤)
