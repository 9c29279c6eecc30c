-- What a writer of records holds back, to write it at once: whole fragments, and the bytes of the next one.
use Rattle.std.specs.Prelude.{◌≡◌, ℕ, zero, suc, ◌+◌, ◌<◌, ◌≤◌, All, List, [], ◌++◌, length, take, drop}
use Rattle.yp_rpc.specs.Records.{fragment_max, begun}

-- the most fragments that are held back
abbrev pub held_max : ℕ
held_max = 8

-- the bytes of a full fragment with its head
abbrev pub full_len : ℕ
full_len = 4 + fragment_max

-- whole fragments with their heads, and the bytes of one that isn't whole yet
pub record Waiting : Type 0 where
  pub whole : List ℕ
  pub piece : List ℕ

-- full fragments, at most so many, without their heads
unfoldable pub bodies : ℕ → List ℕ → List ℕ
bodies zero whole = []
bodies (suc turns) whole = take fragment_max (drop 4 whole) ++ bodies turns (drop full_len whole)

-- the bytes of a record that wait
abbrev pub waiting : Waiting → List ℕ
waiting held = bodies held_max held.whole ++ held.piece

-- a piece of a fragment that isn't the last
abbrev pub IsFull : List ℕ → Type 0
IsFull piece = length piece ≡ fragment_max

-- The whole fragments are full, and there is room for another.
pub record HoldsFragments (held : Waiting) : Type 0 where
  pub pieces : List (List ℕ)
  pub framed : held.whole ≡ begun pieces
  pub full : All IsFull pieces
  pub few : length pieces < held_max
  pub short : length held.piece ≤ fragment_max

-- Between the calls a fragment is whole only where a further byte waits.
pub record RestsBetweenCalls (held : Waiting) : Type 0 where
  pub holds : HoldsFragments held
  pub some : 0 < length held.whole → 0 < length held.piece
