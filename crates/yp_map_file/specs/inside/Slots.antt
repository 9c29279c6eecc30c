-- What a slot holds and knows of its file, between its calls and inside them.
use Rattle.std.specs.Prelude.{◌≡◌, ◌⊎◌, ℕ, ◌+◌, ◌≤◌, Bool, true, false, List, [], length, Option, Some, None, IfSome}
use Rattle.std.specs.Prelude.{is_some, nat_le, ⊤}
use Rattle.yp_io.specs.Disk.{DiskState, History}
use Rattle.yp_xdr.specs.Reading.{first_nonzero}
use Rattle.yp_version.specs.Limits.{body_max}
use Rattle.yp_version.specs.Versions.{MapVersion}
use Rattle.yp_map_file.specs.declared.cells.Entry.{Entry}
use Rattle.yp_map_file.specs.declared.known.Known.{Known}
use Rattle.yp_map_file.specs.declared.known.Stage.{Stage}
use Rattle.yp_map_file.specs.declared.known.Stage.TheVariants.{Unready, Loaded, Laid, Closed, Filled}
use Rattle.yp_map_file.specs.Cells.{cells_len, bytes_at, is_open, filler, entry}
use Rattle.yp_map_file.specs.inside.Cells.{other}
use Rattle.yp_map_file.specs.Bodies.{body_at}
use Rattle.yp_map_file.specs.Stands.{file_max, has_room, by_body, Stored, stands}
use Rattle.yp_map_file.specs.Commits.{winning, generation_of}
use Rattle.yp_map_file.specs.inside.Commits.{target, laid, opened}
use Rattle.yp_map_file.specs.Slots.{IsSound, IsAsBefore}

-- a slot as its callers see it
pub record SlotModel (D : Type 0) : Type 0 where
  pub disk : D
  pub stage : Stage
  pub generation : ℕ

-- this is what there is to know of a file
pub record IsKnown (known : Known) (file : List ℕ) : Type 0 where
  pub sound : IsSound (stands file)
  pub long : known.long ≡ nat_le cells_len (length file)
  pub cell : known.target ≡ target file
  pub gate : known.gate_open ≡ is_open known.target (laid file)
  pub entry : known.winner ≡ winning file

-- all that was written is where a crash leaves it
pub record IsQuiet (state : DiskState) : Type 0 where
  pub synced : state.synced ≡ state.reads
  pub nothing_written : state.written ≡ []

-- a disk at rest, whose file is known
pub record IsSettled (known : Known) (state : DiskState) : Type 0 where
  pub quiet : IsQuiet state
  pub file : IsKnown known state.reads

abbrev pub Settles : Known → Option History → Type 0
Settles known history = IfSome history (λ h. IsSettled known h.state)

-- a body stands in the file behind what counts, and its entry in the closed cell
pub record IsFilled (next : Entry) (file : List ℕ) : Type 0 where
  pub numbers : entry (target file) file ≡ next
  pub zeros : first_nonzero (filler (target file) file) ≡ None
  pub room : has_room next (length file) ≡ true
  pub newer : next.generation ≡ generation_of (winning file) + 1
  pub sound : IsSound (by_body next.place (body_at (bytes_at next.place next.len file)))

-- a body and its entry are filled in
abbrev pub Fills : Entry → Option History → Type 0
Fills next history = IfSome history (λ h. IsFilled next h.state.reads)

-- an entry's body lies behind the cells, and within the largest file
pub record LiesWithin (numbers : Entry) : Type 0 where
  pub behind : cells_len ≤ numbers.place
  pub body : numbers.len ≤ body_max
  pub file : numbers.place + numbers.len ≤ file_max

-- what a slot knows of its file at each stage
abbrev pub Knows : Stage → Known → Entry → Option History → Type 0
Knows Unready known next history = ⊤
Knows Loaded known next history = Settles known history
Knows Laid known next history = (known.long ≡ true) × Settles known history
Knows Closed known next history = (known.long ≡ true) × (known.gate_open ≡ false) × Settles known history
Knows Filled known next history =
    (known.long ≡ true) × (known.gate_open ≡ false) × Settles known history × LiesWithin next
    × (next.generation ≡ generation_of known.winner + 1)
    × Fills next history

-- The disk tells its history, and P holds of what a read gives.
abbrev pub ReadIsTold : (List ℕ → Type 0) → Option History → Type 0
ReadIsTold P None = ⊥
ReadIsTold P (Some h) = P h.state.reads

-- for what is read now, or for this version
abbrev pub IsAsBeforeOr : MapVersion → Option History → List ℕ → Type 0
IsAsBeforeOr version history image = IsAsBefore history image ⊎ (stands image ≡ Stored version)

-- for what is read now, or for what would be read once the cell is open
abbrev pub IsAsBeforeOrOpened : Option History → List ℕ → Type 0
IsAsBeforeOrOpened history image = IfSome history (λ h.
    (stands image ≡ stands h.state.reads) ⊎ (stands image ≡ stands (opened h.state.reads)))

-- what is known once the cell is open
abbrev pub with_winner : Known → Entry → Known
with_winner known next = record {
  long = true;
  target = other known.target;
  gate_open = is_some known.winner;
  winner = Some next;
}

-- once the cell is open, the file stands for this version
abbrev pub WouldStand : MapVersion → Option History → Type 0
WouldStand version history = IfSome history (λ h. stands (opened h.state.reads) ≡ Stored version)

-- a read gives what a function makes of what it gave
abbrev pub ReadsChanged : (List ℕ → List ℕ) → Option History → Option History → Type 0
ReadsChanged change None new = ⊤
ReadsChanged change (Some h) None = ⊥
ReadsChanged change (Some h) (Some k) = k.state.reads ≡ change h.state.reads

-- whether the file is known
abbrev pub is_ready : Stage → Bool
is_ready Unready = false
is_ready Loaded = true
is_ready Laid = true
is_ready Closed = true
is_ready Filled = true

-- all that a slot keeps of its file
pub record KeepsFile (stage : Stage) (known : Known) (next : Entry) (history : Option History) : Type 0 where
  pub winner : IfSome known.winner LiesWithin
  pub file : Knows stage known next history
