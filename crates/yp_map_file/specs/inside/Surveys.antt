-- A body that is read through a window.
use Rattle.std.specs.Prelude.{◌≡◌, ℕ, ◌+◌, Bool, true, List, [], ◌++◌, length, drop, Option, None, Result}
use Rattle.std.specs.Prelude.{◌||◌, nat_le, Ok, Err, ⊤}
use Rattle.std.specs.Option.{option_map}
use Rattle.yp_xdr.specs.Reading.{Remaining}
use Rattle.yp_version.specs.Rows.{Row}
use Rattle.yp_version.specs.Versions.{MapVersion}
use Rattle.yp_map_file.specs.declared.cells.Entry.{Entry}
use Rattle.yp_map_file.specs.declared.fault.SlotFault.{SlotFault}
use Rattle.yp_map_file.specs.declared.fault.SlotFault.TheVariants as fault
use Rattle.yp_map_file.specs.declared.known.Known.{Known}
use Rattle.yp_map_file.specs.declared.survey.Summary.{Summary}
use Rattle.yp_map_file.specs.declared.survey.Progress.{Progress}
use Rattle.yp_map_file.specs.declared.wrong.Wrong.{Wrong}
use Rattle.yp_map_file.specs.Bodies.{BodyHead, head_at, rows_at}
use Rattle.yp_map_file.specs.Cells.{bytes_at}
use Rattle.yp_map_file.specs.Stands.{Stands, Stored, Damaged, stands}
use Rattle.yp_map_file.specs.inside.Summaries.{SumsUp, Surveys}
use Rattle.yp_map_file.specs.inside.Slots.{IsKnown}

-- the most bytes of a row
abbrev pub row_max : ℕ
row_max = 131080

-- whether a row that begins so many bytes before the end of a window stands whole in it, or nothing follows it
abbrev pub has_row : Bool → ℕ → Bool
has_row is_last left = is_last || nat_le row_max left

-- the most bytes that are read of a body at once
abbrev pub window_len : ℕ
window_len = 1048576

-- the body that an entry names
abbrev pub body_of : Entry → List ℕ → List ℕ
body_of numbers file = bytes_at numbers.place numbers.len file

-- what is left of a body from a place on
abbrev pub rest_of : List ℕ → ℕ → Remaining
rest_of body at = record { at = at; bytes = drop at body }

-- what is left from a place of a window on that stands n bytes further on, with more behind it
abbrev pub behind : ℕ → List ℕ → List ℕ → ℕ → Remaining
behind n window more at = record { at = n + at; bytes = drop at window ++ more }

-- nothing follows the last window
abbrev pub MayFollow : Bool → List ℕ → Type 0
MayFollow is_last more = is_last ≡ true → more ≡ []

-- what was read before some rows, and they
abbrev pub before : List Row → Result (List Row × Remaining) Wrong → Result (List Row × Remaining) Wrong
before done (Ok rows) = Ok (done ++ rows.0, rows.1)
before done (Err wrong) = Err wrong

-- Of count rows behind the one with this key some were read, and so many are left, behind the one with that key.
pub record ReadsOn (count : ℕ) (last : Option (List ℕ)) (from : Remaining) (left : ℕ) (now : Option (List ℕ))
    (rest : Remaining) : Type 0 where
  pub rows : List Row
  pub same : rows_at count last from ≡ before rows (rows_at left now rest)
  pub number : length rows + left ≡ count

-- the fault of what was to be read at a place of the file, unless the disk failed or memory ran out
abbrev pub FindsFault : {A : Type 0} → ℕ → Result A Wrong → SlotFault → Type 0
FindsFault place expected (fault.Damaged at rule) =
    (wrong : Wrong) × (expected ≡ Err wrong) × (at ≡ place + wrong.at) × (rule ≡ wrong.rule)
FindsFault place expected fault.DiskFault = ⊤
FindsFault place expected fault.NoMemory = ⊤

-- what a summary says of the bytes before the rows
abbrev pub front_of : Summary → BodyHead
front_of summary =
    record { secure = summary.secure; order = summary.order; master = summary.master.items; count = summary.rows }

-- the bytes before the rows of a body at this place were read
abbrev pub FindsFront : ℕ → List ℕ → Result (Summary × ℕ) SlotFault → Type 0
FindsFront place body (Ok found) = head_at (rest_of body 0) ≡ Ok (front_of found.0, rest_of body found.1)
FindsFront place body (Err e) = FindsFault place (head_at (rest_of body 0)) e

-- the key of the last row that was read
abbrev pub last_of : Progress → Option (List ℕ)
last_of progress = option_map (λ key. key.items) progress.last

-- some rows of a body at this place were read
abbrev pub StepsOn : ℕ → List ℕ → Progress → Result Progress SlotFault → Type 0
StepsOn place body old (Ok new) =
    ReadsOn old.left (last_of old) (rest_of body old.at) new.left (last_of new) (rest_of body new.at)
StepsOn place body old (Err e) = FindsFault place (rows_at old.left (last_of old) (rest_of body old.at)) e

-- all rows of a body at this place were read, up to where they end
abbrev pub FindsEnd : ℕ → List ℕ → ℕ → ℕ → Result ℕ SlotFault → Type 0
FindsEnd place body count start (Ok end) = (rows : List Row)
    × (rows_at count None (rest_of body start) ≡ Ok (rows, rest_of body end)) × (length rows ≡ count)
FindsEnd place body count start (Err e) = FindsFault place (rows_at count None (rest_of body start)) e

-- a body that stands for this was surveyed
abbrev pub SurveysBody : Stands → Result Summary SlotFault → Type 0
SurveysBody stood (Ok summary) = (version : MapVersion) × (stood ≡ Stored version) × SumsUp summary version
SurveysBody stood (Err (fault.Damaged at rule)) = stood ≡ Damaged at rule
SurveysBody stood (Err fault.DiskFault) = ⊤
SurveysBody stood (Err fault.NoMemory) = ⊤

-- a file was surveyed, and what there is to know of it is known
abbrev pub SurveysFile : List ℕ → Result (Known × Option Summary) SlotFault → Type 0
SurveysFile file (Ok found) = Surveys (stands file) (Ok found.1) × IsKnown found.0 file
SurveysFile file (Err e) = Surveys (stands file) (Err e)
