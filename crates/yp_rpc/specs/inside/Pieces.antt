-- A record in the middle of its pieces.
use Rattle.std.specs.Prelude.{◌≡◌, ℕ, ◌<◌, ◌⊎◌, List, [], ◌∷◌, ◌++◌, length, Option, min}
use Rattle.std.specs.Io.KnownBytes.{Consumes}
use Rattle.yp_io.specs.Counts.{last_count}
use Rattle.yp_rpc.specs.declared.record.RecordFault.{RecordFault}
use Rattle.yp_rpc.specs.declared.record.RecordFault.TheVariants.{Torn}
use Rattle.yp_rpc.specs.Records.{head, begun, joined, empties, AreWithin, IsEmpty, TakesRecord, RecordStart}
use Rattle.yp_rpc.specs.Records.{HasCause}
use Rattle.yp_rpc.specs.Pieces.{Part, not_begun, ReaderState}

-- a reader between two records
abbrev pub between : ℕ → ReaderState
between place = record { place = place; part = not_begun }

-- A record was read into a fragment: the pieces before it, its bytes that were given, and as many as are still to come.
pub record IsInFragment (limit : ℕ) (front : List ℕ) (start now : Option (List ℕ)) (part : Part) : Type 0 where
  pub pieces : List (List ℕ)
  pub body : List ℕ
  pub rest : List ℕ
  pub taken : Consumes start now (begun pieces ++ (head part.last (length (body ++ rest)) ++ body))
  pub given : front ≡ joined pieces ++ body
  pub within : AreWithin limit (pieces ++ (body ++ rest) ∷ [])
  pub left : part.left ≡ length rest
  pub named : part.named ≡ length (joined (pieces ++ (body ++ rest) ∷ []))
  pub empty : part.empty ≡ empties (pieces ++ (body ++ rest) ∷ [])
  pub passed : part.passed ≡ min (length (begun (pieces ++ (body ++ rest) ∷ []))) last_count

-- These bytes were given of the record that begins where the source stood at the start.
abbrev pub HasGiven : ℕ → List ℕ → Option (List ℕ) → Option (List ℕ) → Part → Type 0
HasGiven limit front start now part =
    ((part ≡ not_begun) × (front ≡ []) × Consumes start now []) ⊎ IsInFragment limit front start now part

-- A piece of the record was given behind them. An empty one is its end: then it is the record, and was taken from the
-- source.
pub record GivesPiece (start : RecordStart) (front piece : List ℕ) (new : Option (List ℕ)) (after : ReaderState)
    : Type 0 where
  pub more : 0 < length piece
      → HasGiven start.limit (front ++ piece) start.input new after.part × (after.place ≡ start.place)
  pub end : length piece ≡ 0
      → TakesRecord start.limit front start.input new start.place after.place × (after.part ≡ not_begun)

-- Why there is no piece: why there is no record, or input ended before its first byte, which is torn here.
abbrev pub HasNoPiece : RecordStart → Option (List ℕ) → ℕ → ℕ → RecordFault → Type 0
HasNoPiece start new before now fault =
    HasCause start new before now fault ⊎ ((fault ≡ Torn start.place) × IsEmpty start.input new)
