-- Lemmas on bytes that are read into a buffer, one part after another.
use Rattle.std.proofs.Common.{◌≡◌, ℕ, ◌+◌, ◌-◌, ◌≤◌, List, ◌++◌, length, take, drop, refl, ◌∙◌, arith}
use Rattle.std.proofs.lemmas.List.{take-append-le, length-take-le, length-append, length-drop, take_rest, take_at}
use Rattle.std.proofs.lemmas.List.{drop-append-le, drop-take}
use Rattle.std.proofs.Math.Seq.{take-append-add}
use borrow.Rule.Slice.PartMut.{put_mid, post_of}

-- as take-append-add, where the length of the first list is known
pub take-past : (front rest : List ℕ) (a n : ℕ) → length front ≡ a → take (a + n) (front ++ rest) ≡ front ++ take n rest
take-past front rest a n len = rw (← len) (take-append-add front rest n)

-- the first n bytes behind the first a, after a write to what is behind them
pub take-behind : (a k n : ℕ) (xs ys : List ℕ) → a ≤ length xs → n ≤ length ys
    → take (a + n) (put_mid a k xs ys) ≡ take a xs ++ take n ys
take-behind a k n xs ys within fits =
    rw (
      take-past (take a xs) (ys ++ post_of a k xs) a n (length-take-le a xs within),
      take-append-le n ys
          (post_of a k xs) fits,
    ) refl

-- there are so many bytes after that write
pub within-behind : (a k n : ℕ) (xs ys : List ℕ) → a ≤ length xs → n ≤ length ys → a + n ≤ length (put_mid a k xs ys)
within-behind a k n xs ys within fits =
    omega (
      arith,
      length-append (take a xs) (ys ++ post_of a k xs),
      length-append ys
          (post_of a k xs),
      length-take-le a xs within,
    )

-- a write of as many bytes keeps the length
pub length-write : (a k : ℕ) (xs ys : List ℕ) → a + k ≤ length xs → length ys ≡ k
    → length (put_mid a k xs ys) ≡ length xs
length-write a k xs ys within same =
    omega (
      arith,
      length-append (take a xs) (ys ++ post_of a k xs),
      length-append ys
          (post_of a k xs),
      length-take-le a xs (omega arith),
      length-drop k (drop a xs),
      length-drop a xs,
    )

-- A read went to what is behind the first n bytes of a buffer, and left this there.
pub record ReadsBehind (n : ℕ) (buf room : List ℕ) : Type 0 where
  pub within : n ≤ length buf
  pub as_long : length room ≡ length (take (length buf - n) (drop n buf))

-- the buffer after that read
abbrev pub read_behind : ℕ → List ℕ → List ℕ → List ℕ
read_behind n buf room = put_mid n (length buf - n) buf room

-- what is left behind those bytes
pub length-room : (n : ℕ) (buf room : List ℕ) → ReadsBehind n buf room → length room ≡ length buf - n
length-room n buf room h = h.as_long ∙ rw (take_rest, length-drop) refl

-- the buffer has its length yet
pub length-read_behind : (n : ℕ) (buf room : List ℕ) → ReadsBehind n buf room
    → length (read_behind n buf room) ≡ length buf
length-read_behind n buf room h =
    let within : n ≤ length buf = h.within in
    length-write n (length buf - n) buf room (omega arith) (length-room n buf room h)

-- bytes that are put behind those that wait, which begin at the place h
pub waiting-put : (h n k count : ℕ) (xs ys : List ℕ) → h + n ≤ length xs → length ys ≡ count
    → take (n + count) (drop h (put_mid (h + n) k xs ys)) ≡ take n (drop h xs) ++ ys
waiting-put h n k count xs ys within len =
    let front : length (take (h + n) xs) ≡ h + n = length-take-le (h + n) xs within in
    let waits : length (take n (drop h xs)) ≡ n = length-take-le n (drop h xs) (omega (arith, length-drop h xs)) in
    rw (
      drop-append-le h (take (h + n) xs) (ys ++ post_of (h + n) k xs) (omega arith),
      drop-take h n xs,
      take-past
          (take n (drop h xs)) (ys ++ post_of (h + n) k xs) n count waits,
      take_at ys (post_of (h + n) k xs) count len,
    )
    refl
