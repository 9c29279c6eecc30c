-- One write after another is one write.
use Rattle.std.proofs.Common.{◌≡◌, ℕ, zero, suc, ◌+◌, ◌-◌, ◌<◌, ◌≤◌, ◌==◌, Bool, false, List, ◌++◌, length, take}
use Rattle.std.proofs.Common.{drop, replicate, Result, Ok, Err, refl, sym, ap, ◌∙◌, append_assoc, arith}
use Rattle.std.proofs.lemmas.Bool.{eqb-false}
use Rattle.std.proofs.lemmas.List.{length-append, length-take, length-drop, length-replicate, take_at, take-take}
use Rattle.std.proofs.lemmas.List.{take-append-le, drop-append-le}
use Rattle.std.proofs.Math.Seq.{drop-append-add}
use Rattle.std.proofs.lemmas.Slice.{drop-append-drop}
use Rattle.yp_xdr.specs.declared.fault.NoRoom.{NoRoom}
use Rattle.yp_xdr.specs.Spelling.{padding_len}
use Rattle.yp_xdr.specs.inside.Writing.{written, Writes, Sets}
use Rattle.yp_xdr.specs.inside.Laws.{WrittenIsJoined, WritersJoin, SetsJoin}

-- a write and then another behind it
pub written-written : WrittenIsJoined
written-written buf at one other fits =
    let front : length (take at buf ++ one) ≡ at + length one =
    omega (arith, length-append (take at buf) one, length-take at buf) in
    let first : take (at + length one) (written buf at one) ≡ take at buf ++ one =
    take_at (take at buf ++ one) (drop (at + length one) buf) (at + length one) front in
    let behind : drop (at + length one + length other) (written buf at one)
    ≡ drop (at + length one + length other) buf = drop-append-drop (at + length one) buf (take at buf ++ one)
    (at + length one + length other) (omega arith) front in
    let place : at + length one + length other ≡ at + length (one ++ other) = omega (arith, length-append one other) in
    rw (first, behind, place, append_assoc (take at buf) one other) refl

-- bytes that are written where there is room for them
pub sets : (buf new : List ℕ) (at end : ℕ) (bytes : List ℕ) → at + length bytes ≤ length buf → end ≡ at + length bytes
    → new ≡ written buf at bytes → Sets bytes at end buf new
sets buf new at end bytes room place there = record {
  place = place;
  bytes_there = there;
  with_more = λ more last e. e ∙ rw (there, place) (written-written buf at bytes more (omega arith));
}

-- two writes, one behind the other
pub sets_join : SetsJoin
sets_join one other at mid end old half new first second = record {
  place = omega (arith, first.place, second.place, length-append one other);
  bytes_there = first.with_more other new second.bytes_there;
  with_more = λ more last e. first.with_more (other ++ more) last (second.with_more more last e)
      ∙ ap (λ (xs : List ℕ). written old at xs) (sym (append_assoc one other more));
}

-- the end of a word of zeros
zeros_behind : (p : ℕ) → p < 4 → drop {A = ℕ} (4 - p) (replicate 4 0) ≡ replicate p 0
zeros_behind zero lt = refl
zeros_behind (suc zero) lt = refl
zeros_behind (suc (suc zero)) lt = refl
zeros_behind (suc (suc (suc zero))) lt = refl
zeros_behind (suc (suc (suc (suc p)))) lt = absurd (omega arith)

-- some bytes and their padding take a word at least
pub some_word : (n : ℕ) (test : Bool) → test ≡ (n == 0) → test ≡ false → 4 ≤ n + padding_len n
some_word n test is fails = let some = eqb-false n 0 (sym is ∙ fails) in omega arith

-- a word of zeros up to a place, and then bytes whose padding ends there, are these bytes and their padding
pub sets_padded : (buf zeroed new : List ℕ) (at end p : ℕ) (bytes : List ℕ) → end ≡ at + length bytes + p → p < 4
    → 4 ≤ length bytes + p → end ≤ length buf → zeroed ≡ written buf (end - 4) (replicate 4 0)
    → new ≡ written zeroed at bytes → Sets (bytes ++ replicate p 0) at end buf new
sets_padded buf zeroed new at end p bytes is few some fits zeros there =
    let k : ℕ = end - 4 in
    let m : ℕ = at + length bytes in
    let z : List ℕ = replicate 4 0 in
    let d : List ℕ = drop end buf in
    let front : List ℕ = take k buf in
    let len_front : length front ≡ k = omega (arith, length-take k buf) in
    let len_z : length z ≡ 4 = refl in
    let behind : k + length z ≡ end = omega (arith, len_z) in
    let whole : zeroed ≡ front ++ z ++ d = zeros ∙ ap (λ (n : ℕ). front ++ z ++ drop n buf) behind in
    let len_both : length (front ++ z) ≡ end = omega (arith, length-append front z, len_front, len_z) in
    let first : take at zeroed ≡ take at buf =
    ap (take at) whole ∙ take-append-le at (front ++ z) d (omega (arith, len_both))
    ∙ take-append-le at front z (omega (arith, len_front)) ∙ take-take at k buf (omega arith) in
    let skip : m ≡ length front + (4 - p) = omega (arith, len_front) in
    let last : drop m zeroed ≡ replicate p 0 ++ d =
    ap (drop m) whole ∙ drop-append-le m (front ++ z) d (omega (arith, len_both))
    ∙ ap (λ (xs : List ℕ). xs ++ d) (ap (λ (n : ℕ). drop n (front ++ z)) skip ∙ drop-append-add front z (4 - p)
    ∙ zeros_behind p few) in
    let size : length (bytes ++ replicate p 0) ≡ length bytes + p =
    omega (arith, length-append bytes (replicate {A = ℕ} p 0), length-replicate {A = ℕ} p 0) in
    let place : at + length (bytes ++ replicate p 0) ≡ end = omega (arith, size) in
    sets buf new at end (bytes ++ replicate p 0) (omega (arith, size)) (sym place)
    (there ∙ (λ i. first i ++ bytes ++ last i) ∙ sym (append_assoc (take at buf ++ bytes) (replicate p 0) d)
    ∙ ap (λ (xs : List ℕ). xs ++ d) (append_assoc (take at buf) bytes (replicate p 0))
    ∙ ap (λ (n : ℕ). take at buf ++ (bytes ++ replicate p 0) ++ drop n buf) (sym place))

-- a write keeps the length
length-written : (buf : List ℕ) (at : ℕ) (bytes : List ℕ) → at + length bytes ≤ length buf
    → length (written buf at bytes) ≡ length buf
length-written buf at bytes fits =
    omega (
      arith,
      length-append (take at buf ++ bytes) (drop (at + length bytes) buf),
      length-append
          (take at buf) bytes,
      length-take at buf,
      length-drop (at + length bytes) buf,
    )

-- two writers in turn, where there is room for both
pub writers_join : WritersJoin
writers_join one other at mid (Ok end) old half new room first second =
    let len = length-append one other in
    record {
      place = (omega (arith, first.place.0, second.place.0), omega (arith, first.place.0, second.place.0));
      bytes_there = second.bytes_there
          ∙ rw (first.bytes_there, first.place.0) (written-written old at one other (omega arith));
      no_room = tt;
      unchanged = tt;
    }
writers_join one other at mid (Err fault) old half new room first second =
    let len = length-append one other in
    let kept : length half ≡ length old = rw first.bytes_there (length-written old at one (omega arith)) in
    absurd (omega (arith, second.no_room, first.place.0))

-- the same, where the second rests on the room that the first left
pub writes_then : {one other : List ℕ} {at mid : ℕ} {result : Result ℕ NoRoom} {old half new : List ℕ}
    → at + length (one ++ other) ≤ length old → Writes one at (Ok mid) old half
    → (mid + length other ≤ length half → Writes other mid result half new)
    → Writes (one ++ other) at result old new
writes_then {one = one} {other = other} {at = at} {mid = mid} {result = result} {old = old} {half = half} {new = new}
    room first second =
    let len = length-append one other in
    let kept : length half ≡ length old = rw first.bytes_there (length-written old at one (omega arith)) in
    writers_join one other at mid result old half new room first (second (omega (arith, first.place.0)))
