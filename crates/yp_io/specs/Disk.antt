-- What a disk tells: what a read gives, what a crash may leave, and what one might have left since an earlier moment.
use Rattle.std.specs.Prelude.{◌≡◌, ◌⊎◌, ℕ, suc, ◌+◌, ◌-◌, ◌<◌, ◌≤◌, max, Bool, false, ◌&&◌, ◌||◌, nat_le, nat_lt}
use Rattle.std.specs.Prelude.{List, [], ◌∷◌, ◌++◌, length, take, drop, slice_index, slice_range, Option, None, Some}
use Rattle.std.specs.Prelude.{IfSome, ⊤}
use Rattle.std.specs.Option.{option_map}

-- a disk at a moment: what its last sync left, each range that was written since then, from its start up to its end,
-- and what a read gives
pub record DiskState : Type 0 where
  pub synced : List ℕ
  pub written : List (ℕ × ℕ)
  pub reads : List ℕ

-- whether a place lies in one of the ranges
abbrev pub is_written : List (ℕ × ℕ) → ℕ → Bool
is_written [] place = false
is_written (range ∷ ranges) place = (nat_le range.0 place && nat_lt place range.1) || is_written ranges place

-- the greatest length that writes of these ranges give bytes of this length
abbrev pub longest : List (ℕ × ℕ) → ℕ → ℕ
longest [] least = least
longest (range ∷ ranges) least = max range.1 (longest ranges least)

-- A crash at that moment may leave these bytes: each written range, and the part past the old end, is any bytes, the
-- length is any from the least to the greatest since the sync, and all other bytes stay.
pub record IsImage (disk : DiskState) (image : List ℕ) : Type 0 where
  pub no_shorter : length disk.synced ≤ length image
  pub no_longer : length image ≤ longest disk.written (length disk.synced)
  pub others_stay : (place : ℕ) → place < length disk.synced → is_written disk.written place ≡ false
      → slice_index image place ≡ slice_index disk.synced place

-- Any bytes stand in the range of n bytes, or in its front, where it goes past the old end; all others stay.
pub record Torn (at n : ℕ) (old new : List ℕ) : Type 0 where
  pub no_shorter : length old ≤ length new
  pub no_longer : length new ≤ max (length old) (at + n)
  pub before : (place : ℕ) → place < length old → place < at → slice_index new place ≡ slice_index old place
  pub after : (place : ℕ) → place < length old → at + n ≤ place → slice_index new place ≡ slice_index old place

-- bytes with a piece written over them, or past their end
abbrev pub overwritten : ℕ → List ℕ → List ℕ → List ℕ
overwritten at piece old = take at old ++ piece ++ drop (at + length piece) old

-- a disk at this moment and at each before it, the newest first
pub record History : Type 0 where
  pub state : DiskState
  pub past : List DiskState

-- all its moments, the newest first
abbrev pub states : History → List DiskState
states history = history.state ∷ history.past

-- its clock: how many moments went before
abbrev pub moment : History → ℕ
moment history = length history.past

-- a state where a range counts as written, too
abbrev pub touched : ℕ → ℕ → DiskState → DiskState
touched at n state = record state { written = (at, at + n) ∷ state.written }

-- one step of the clock: a write of n bytes, after which a read gives these
abbrev pub after_write : ℕ → ℕ → List ℕ → History → History
after_write at n reads history = record {
  state = record { synced = history.state.synced; written = (at, at + n) ∷ history.state.written; reads = reads };
  past = states history;
}

-- one step of the clock: a write of a piece that was done
abbrev pub written_at : ℕ → List ℕ → History → History
written_at at piece history = after_write at (length piece) (overwritten at piece history.state.reads) history

-- one step of the clock: a sync, which leaves what a read gives
abbrev pub after_sync : History → History
after_sync history = record {
  state = record { synced = history.state.reads; written = []; reads = history.state.reads };
  past = states history;
}

-- a crash in one of these states might have left these bytes
abbrev pub LeftIn : List DiskState → List ℕ → Type 0
LeftIn [] image = ⊥
LeftIn (state ∷ earlier) image = IsImage state image ⊎ LeftIn earlier image

-- a crash at that moment of the clock, or at a later one, might have left these bytes
abbrev pub LeftSince : History → ℕ → List ℕ → Type 0
LeftSince history since image = LeftIn (take (suc (moment history - since)) (states history)) image

-- A disk went on from one history to another.
pub record Continues (old new : History) : Type 0 where
  pub steps : List DiskState
  pub follow : states new ≡ steps ++ states old

-- A disk that tells its history went on, and tells it still; one that doesn't doesn't begin to.
abbrev pub HistoryGoesOn : Option History → Option History → Type 0
HistoryGoesOn None None = ⊤
HistoryGoesOn None (Some new) = ⊥
HistoryGoesOn (Some old) None = ⊥
HistoryGoesOn (Some old) (Some new) = Continues old new

-- It is told that a crash at some moment from the old history to the new one might have left these bytes.
abbrev pub LeftBetween : Option History → Option History → List ℕ → Type 0
LeftBetween None new image = ⊥
LeftBetween (Some old) None image = ⊥
LeftBetween (Some old) (Some new) image = LeftSince new (moment old) image

-- At each moment from the old history to the new one a crash leaves bytes with P, and no others.
pub record LeavesOnly (old new : Option History) (P : List ℕ → Type 0) : Type 0 where
  pub goes_on : HistoryGoesOn old new
  pub each : (image : List ℕ) → LeftBetween old new image → P image

-- it is told that a crash may leave these bytes now
abbrev pub MayLeave : Option History → List ℕ → Type 0
MayLeave None image = ⊥
MayLeave (Some history) image = IsImage history.state image

-- it is told that a crash may leave these bytes while a range is written
abbrev pub MayLeaveTorn : ℕ → ℕ → Option History → List ℕ → Type 0
MayLeaveTorn at n None image = ⊥
MayLeaveTorn at n (Some history) image = IsImage (touched at n history.state) image

-- a write of n bytes that failed: nothing changed, or the range counts as written and reads as any bytes
abbrev pub MayTear : ℕ → ℕ → Option History → Option History → Type 0
MayTear at n old new =
    (new ≡ old) ⊎ ((reads : List ℕ) × IfSome old (λ history. Torn at n history.state.reads reads)
    × (new ≡ option_map (after_write at n reads) old))

-- a place is at most the length, where that is told
abbrev pub IsWithin : ℕ → Option History → Type 0
IsWithin place history = IfSome history (λ history. place ≤ length history.state.reads)

-- the told length
abbrev pub HasLength : ℕ → Option History → Type 0
HasLength n history = IfSome history (λ history. n ≡ length history.state.reads)

-- what is read may be left by a crash now
abbrev pub IsReadAnImage : Option History → Type 0
IsReadAnImage history = IfSome history (λ history. IsImage history.state history.state.reads)

-- a crash now leaves what is read, and nothing else
abbrev pub IsDurable : Option History → Type 0
IsDurable history = IfSome history
    (λ history. (image : List ℕ) → IsImage history.state image → image ≡ history.state.reads)

-- the bytes that a read at a place gives, where they are told
abbrev pub ReadsAt : ℕ → List ℕ → Option History → Type 0
ReadsAt at bytes history = IfSome history (λ history. bytes ≡ slice_range history.state.reads at (at + length bytes))
