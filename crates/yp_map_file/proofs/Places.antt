-- What is wrong in a body stands within it.
use Rattle.std.proofs.Common.{◌≡◌, ℕ, zero, suc, ◌+◌, ◌<◌, ◌≤◌, Bool, true, false, cond, not, eqb, ltb, List, length}
use Rattle.std.proofs.Common.{take, drop, Option, Some, None, Result, Ok, Err, refl, sym, subst, arith, inl, inr}
use Rattle.std.proofs.Common.{length-take, length-drop}
use Rattle.std.specs.List.{position_or_len}
use Rattle.std.proofs.lemmas.Bool.{cases_lt, le-ltb}
use Rattle.std.proofs.lemmas.Bool.Decides.{nat_tests}
use Rattle.yp_xdr.specs.declared.fault.XdrFault.{XdrFault}
use Rattle.yp_xdr.specs.declared.fault.XdrFault.TheVariants.{TooLong}
use Rattle.yp_xdr.specs.Kind.{U32, Opaque}
use Rattle.yp_xdr.specs.Spelling.{padding_len}
use Rattle.yp_xdr.specs.Reading.{◌>>=◌ as ◌>>>=◌, Remaining, past, word_at, first_nonzero, padded, content_at, opaque_at}
use Rattle.yp_version.specs.Limits.{key_max, value_max, master_max, rows_max}
use Rattle.yp_version.specs.Versions.{MapVersion}
use Rattle.yp_map_file.specs.declared.wrong.Wrong.{Wrong}
use Rattle.yp_xdr.specs.Faults.{fault_place}
use Rattle.yp_map_file.specs.Bodies.{◌>>=◌, by_xdr, item, guard, head_at, is_over, row_at, rows_at, body_at}

-- where the bytes end
abbrev end_of : Remaining → ℕ
end_of left = left.at + length left.bytes

-- what XDR reads ends where it ended, and what it refuses stands before that
abbrev XdrWithin : {A : Type 0} → ℕ → Result (A × Remaining) XdrFault → Type 0
XdrWithin end (Ok x) = end_of x.1 ≡ end
XdrWithin end (Err fault) = fault_place fault ≤ end

abbrev pub Within : {A : Type 0} → ℕ → Result (A × Remaining) Wrong → Type 0
Within end (Ok x) = end_of x.1 ≡ end
Within end (Err wrong) = wrong.at ≤ end

past_end : (n : ℕ) (left : Remaining) → n ≤ length left.bytes → end_of (past n left) ≡ end_of left
past_end n left fits = omega (arith, length-drop n left.bytes)

word_within : (left : Remaining) → XdrWithin (end_of left) (word_at left)
unfolding word_at
word_within left = elim (cases_lt (length left.bytes) 4) [
  | inl lt ↦ let e : ltb (length left.bytes) 4 ≡ true = grind (arith, nat_tests) in rw e (omega arith)
  | inr le ↦ let e : ltb (length left.bytes) 4 ≡ false = le-ltb _ _ le in rw e (past_end 4 left le)
]

found_within : (b : Bool) (n len p : ℕ) → b ≡ ltb n len → cond b (Some n) None ≡ Some p → p < len
found_within true n len p is e = let same : n ≡ p = cc in let lt = sym is in grind (arith, nat_tests)
found_within false n len p is e = absurd cc

nonzero_within : (bytes : List ℕ) (p : ℕ) → first_nonzero bytes ≡ Some p → p < length bytes
nonzero_within bytes p e = found_within (ltb (position_or_len (λ byte. not (eqb byte 0)) bytes) (length bytes))
    (position_or_len (λ byte. not (eqb byte 0)) bytes) (length bytes) p refl e

padded_within : (n : ℕ) (left : Remaining) (place : Option ℕ) → n + padding_len n ≤ length left.bytes
    → ((p : ℕ) → place ≡ Some p → p < padding_len n) → XdrWithin (end_of left) (padded n left place)
padded_within n left None fits below = past_end (n + padding_len n) left fits
padded_within n left (Some p) fits below = let lt = below p refl in omega arith

content_within : (start n : ℕ) (left : Remaining) → start ≤ end_of left → XdrWithin (end_of left) (content_at start n left)
unfolding content_at
content_within start n left le = elim (cases_lt (length left.bytes) (n + padding_len n)) [
  | inl lt ↦ let e : ltb (length left.bytes) (n + padding_len n) ≡ true = grind (arith, nat_tests) in rw e le
  | inr fits ↦
      let e : ltb (length left.bytes) (n + padding_len n) ≡ false = le-ltb _ _ fits in
      rw e (padded_within n left (first_nonzero (take (padding_len n) (drop n left.bytes))) fits (λ p is.
      let lt = nonzero_within (take (padding_len n) (drop n left.bytes)) p is in
      omega (arith, length-take (padding_len n) (drop n left.bytes))))
]

opaque_rest : (max : ℕ) (left : Remaining) (n : ℕ) (new : Remaining) (b : Bool) → end_of new ≡ end_of left
    → XdrWithin (end_of left) (cond b (Err (TooLong left.at n)) (content_at left.at n new))
opaque_rest max left n new true same = omega arith
opaque_rest max left n new false same = subst (λ (e : ℕ). XdrWithin e (content_at left.at n new)) same
    (content_within left.at n new (omega arith))

opaque_within : (max : ℕ) (left : Remaining) → XdrWithin (end_of left) (opaque_at max left)
unfolding opaque_at
opaque_within max left = by_word (word_at left) (word_within left)
  where
    by_word : (r : Result (ℕ × Remaining) XdrFault) → XdrWithin (end_of left) r
        → XdrWithin (end_of left) (r >>>=
        (λ len. cond (ltb max len.0) (Err (TooLong left.at len.0)) (content_at left.at len.0 len.1)))
    by_word (Ok len) same = opaque_rest max left len.0 len.1 (ltb max len.0) same
    by_word (Err fault) le = le

by_xdr_within : {A : Type 0} (end : ℕ) (r : Result (A × Remaining) XdrFault) → XdrWithin end r → Within end (by_xdr r)
by_xdr_within end (Ok x) h = h
by_xdr_within end (Err fault) h = h

u32_within : (end : ℕ) (left : Remaining) → end_of left ≡ end → Within end (item U32 left)
u32_within end left is = by_xdr_within end (word_at left)
    (subst (λ (e : ℕ). XdrWithin e (word_at left)) is (word_within left))

bytes_within : (end max : ℕ) (left : Remaining) → end_of left ≡ end → Within end (item (Opaque max) left)
bytes_within end max left is = by_xdr_within end (opaque_at max left)
    (subst (λ (e : ℕ). XdrWithin e (opaque_at max left)) is (opaque_within max left))

-- one step after another
then_within : {A B : Type 0} (end : ℕ) (r : Result (A × Remaining) Wrong) (next : A × Remaining → Result (B × Remaining) Wrong)
    → Within end r → ((x : A × Remaining) → end_of x.1 ≡ end → Within end (next x)) → Within end (r >>= next)
then_within end (Ok x) next h f = f x h
then_within end (Err wrong) next h f = h

guard_within : {B : Type 0} (end : ℕ) (holds : Bool) (at rule : ℕ) (next : Unit {0} → Result (B × Remaining) Wrong)
    → at ≤ end → Within end (next tt) → Within end (guard holds at rule >>= next)
guard_within end true at rule next le h = h
guard_within end false at rule next le h = le

secure_within : {B : Type 0} (end at : ℕ) (one two : Bool) (next : Bool → Result (B × Remaining) Wrong) → at ≤ end
    → ((secure : Bool) → Within end (next secure))
    → Within end (cond one (Ok false) (cond two (Ok true) (Err (record { at = at; rule = 6 }))) >>= next)
secure_within end at true two next le h = h false
secure_within end at false true next le h = h true
secure_within end at false false next le h = le

pub head_within : (end : ℕ) (left : Remaining) → end_of left ≡ end → Within end (head_at left)
unfolding head_at
head_within end left is =
    then_within end (item U32 left) _ (u32_within end left is) (λ number n.
    secure_within end left.at (eqb number.0 1) (eqb number.0 2) _ (omega arith) (λ secure.
    then_within end (item U32 number.1) _ (u32_within end number.1 n) (λ order o.
    then_within end (item (Opaque master_max) order.1) _ (bytes_within end master_max order.1 o) (λ master m.
    then_within end (item U32 master.1) _ (u32_within end master.1 m) (λ count c.
    guard_within end (ltb count.0 (suc rows_max)) master.1.at 7 _ (omega arith) c)))))

pub row_within : (end : ℕ) (last : Option (List ℕ)) (left : Remaining) → end_of left ≡ end → Within end (row_at last left)
unfolding row_at
row_within end last left is =
    then_within end (item (Opaque key_max) left) _ (bytes_within end key_max left is) (λ key k.
    guard_within end (is_over last key.0) left.at 8 _ (omega arith)
    (then_within end (item (Opaque value_max) key.1) _ (bytes_within end value_max key.1 k) (λ value v. v)))

rows_within : (end n : ℕ) (last : Option (List ℕ)) (left : Remaining) → end_of left ≡ end
    → Within end (rows_at n last left)
rows_within end zero last left is = is
rows_within end (suc n) last left is =
    then_within end (row_at last left) _ (row_within end last left is) (λ row r.
    then_within end (rows_at n (Some row.0.0) row.1) _ (rows_within end n (Some row.0.0) row.1 r) (λ rows s. s))

-- a body that is wrong is so within its bytes
abbrev BodyWithin : ℕ → Result MapVersion Wrong → Type 0
BodyWithin end (Ok version) = Unit {0}
BodyWithin end (Err wrong) = wrong.at ≤ end

then_body : {A : Type 0} (end : ℕ) (r : Result (A × Remaining) Wrong) (next : A × Remaining → Result MapVersion Wrong)
    → Within end r → ((x : A × Remaining) → end_of x.1 ≡ end → BodyWithin end (next x)) → BodyWithin end (r >>= next)
then_body end (Ok x) next h f = f x h
then_body end (Err wrong) next h f = h

guard_body : (end : ℕ) (holds : Bool) (at rule : ℕ) (version : MapVersion) → at ≤ end
    → BodyWithin end (guard holds at rule >>= λ ended. Ok version)
guard_body end true at rule version le = tt
guard_body end false at rule version le = le

body_within : (bytes : List ℕ) → BodyWithin (length bytes) (body_at bytes)
unfolding body_at
body_within bytes =
    let end = length bytes in
    let start : Remaining = record { at = 0; bytes = bytes } in
    then_body end (head_at start) _ (head_within end start (omega arith)) (λ head h.
    then_body end (rows_at head.0.count None head.1) _ (rows_within end head.0.count None head.1 h) (λ rows r.
    guard_body end (eqb (length rows.1.bytes) 0) rows.1.at 9 _ (omega arith)))

pub wrong_within : (bytes : List ℕ) (wrong : Wrong) → body_at bytes ≡ Err wrong → wrong.at ≤ length bytes
wrong_within bytes wrong is = subst (BodyWithin (length bytes)) is (body_within bytes)
