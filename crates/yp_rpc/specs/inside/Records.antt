-- No fragment comes, and why.
use Rattle.std.specs.Prelude.{◌≡◌, ℕ, ◌^◌, ◌<◌, ◌≤◌, Bool}
use Rattle.std.specs.Prelude.{List, [], ◌∷◌, length, Option, ◌⊎◌}
use Rattle.std.specs.Io.KnownBytes.{Consumes, IsAtEnd}
use Rattle.yp_io.specs.Counts.{HasRisen}
use Rattle.yp_rpc.specs.declared.record.RecordFault.{RecordFault}
use Rattle.yp_rpc.specs.declared.record.RecordFault.TheVariants.{Torn, TooLong, ReadFault}
use Rattle.yp_rpc.specs.Records.{empty_max, head, IsPart}

-- a record between two fragments: how much room is left for it, how many empty fragments it has, and where it began
pub record BegunRecord : Type 0 where
  pub room : ℕ
  pub empty : ℕ
  pub place : ℕ

abbrev pub begun_record : ℕ → ℕ → ℕ → BegunRecord
begun_record room empty place = record { room = room; empty = empty; place = place }

-- why the record has no next fragment that is whole
abbrev pub HasNoFragment : BegunRecord → Option (List ℕ) → Option (List ℕ) → ℕ → ℕ → RecordFault → Type 0
HasNoFragment so_far old new before now (Torn at) =
    (at ≡ so_far.place) × (tail : List ℕ) × (0 < length tail) × IsPart so_far.room [] tail × Consumes old new tail
    × IsAtEnd new
HasNoFragment so_far old new before now (TooLong at) =
    (at ≡ so_far.place) × (last : Bool) × (len : ℕ) × (len < 2 ^ 31)
    × ((so_far.room < len) ⊎ ((len ≡ 0) × (empty_max ≤ so_far.empty))) × Consumes old new (head last len)
HasNoFragment so_far old new before now ReadFault =
    HasRisen before now × (part : List ℕ) × Consumes old new part × IsPart so_far.room [] part
