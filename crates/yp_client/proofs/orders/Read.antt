-- The names of a list that is read are within their limit.
use Rattle.std.proofs.Common.{◌≡◌, ℕ, zero, suc, ◌+◌, ◌≤◌, ◌<◌, true, false, cond, List, [], ◌∷◌, length, take, Option, Some}
use Rattle.std.proofs.Common.{None, Result, Ok, Err, refl, ap, subst, arith}
use Rattle.std.specs.Prelude.{All, nat_lt, drop}
use Rattle.std.proofs.lemmas.Bool.Decides.{nat_tests}
use Rattle.std.proofs.lemmas.List.{length-take}
use Rattle.std.proofs.lemmas.List.Elements.{All-cons}
use Rattle.yp_xdr.specs.declared.fault.XdrFault.{XdrFault}
use Rattle.yp_xdr.specs.declared.fault.XdrFault.TheVariants.{Short, TooLong}
use Rattle.yp_xdr.specs.Spelling.{padding_len}
use Rattle.yp_xdr.specs.Kind.{ListOf, Value}
use Rattle.yp_xdr.specs.Reading.{◌>>=◌, Remaining, reading, past, list_at, cons_at, opaque_at, content_at, padded}
use Rattle.yp_xdr.specs.Reading.{first_nonzero, bool_at, word_at}
use Rattle.yp_messages.specs.Numbers.{name_max}
use Rattle.yp_messages.specs.Statuses.{stat}
use Rattle.yp_messages.specs.Messages.{name}
use Rattle.yp_messages.specs.MapLists.{map_list}

-- what is read behind a value was read with it
bound : {A B : Type 0} (read : Result A XdrFault) (next : A → Result B XdrFault) (all : B) → (read >>= next) ≡ Ok all
    → (value : A) × (read ≡ Ok value) × (next value ≡ Ok all)
bound (Ok value) next all e = (value, refl, e)
bound (Err fault) next all e = absurd cc

ok_same : {A : Type 0} (read : Result A XdrFault) (x y : A) → read ≡ Ok x → read ≡ Ok y → x ≡ y
ok_same read x y a b = cc

padded_short : (n : ℕ) (left rest : Remaining) (bytes : List ℕ) (place : Option ℕ) → padded n left place ≡ Ok (bytes, rest)
    → length bytes ≤ n
padded_short n left rest bytes None e =
    let same = ok_same (padded n left None) (take n left.bytes, past (n + padding_len n) left) (bytes, rest) refl e in
    let is : take n left.bytes ≡ bytes = ap (λ (p : List ℕ × Remaining). p.0) same in
    subst (λ (l : List ℕ). length l ≤ n) is (omega (arith, length-take n left.bytes))
padded_short n left rest bytes (Some place) e = absurd cc

content_short : (start n : ℕ) (left rest : Remaining) (bytes : List ℕ) → content_at start n left ≡ Ok (bytes, rest)
    → length bytes ≤ n
unfolding content_at
content_short start n left rest bytes e =
    (elim (nat_lt (length left.bytes) (n + padding_len n)) as
    (λ b. cond b (Err (Short start)) (padded n left (first_nonzero (take (padding_len n) (drop n left.bytes)))) ≡ Ok (bytes, rest)
    → length bytes ≤ n) [
      | true ↦ λ e. absurd cc
      | false ↦ λ e. padded_short n left rest bytes (first_nonzero (take (padding_len n) (drop n left.bytes))) e
    ]) e

name_short : (left rest : Remaining) (bytes : List ℕ) → reading name left ≡ Ok (bytes, rest) → length bytes ≤ name_max
unfolding opaque_at
name_short left rest bytes e =
    let len = bound (word_at left) _ (bytes, rest) e in
    (elim (nat_lt name_max len.0.0) as
    (λ b. nat_lt name_max len.0.0 ≡ b
    → cond b (Err (TooLong left.at len.0.0)) (content_at left.at len.0.0 len.0.1) ≡ Ok (bytes, rest)
    → length bytes ≤ name_max) [
      | true ↦ λ over e. absurd cc
      | false ↦ λ under e.
          let short = content_short left.at len.0.0 len.0.1 rest bytes e in
          let within : len.0.0 ≤ name_max = grind (arith, nat_tests) in
          omega (arith, short, within)
    ]) refl len.2

abbrev AreShort : List (List ℕ) → Type 0
AreShort names = All (λ name. length name ≤ name_max) names

list_short : (n : ℕ) (left rest : Remaining) (names : List (List ℕ)) → list_at (reading name) n left ≡ Ok (names, rest)
    → AreShort names
list_short zero left rest names e = absurd cc
list_short (suc n) left rest names e =
    let more = bound (bool_at left) _ (names, rest) e in
    (elim more.0.0 as
    (λ b. cond b (cons_at (reading name) (list_at (reading name) n) more.0.1) (Ok ([], more.0.1)) ≡ Ok (names, rest)
    → AreShort names) [
      | true ↦ λ e.
          let one = bound (reading name more.0.1) _ (names, rest) e in
          let others = bound (list_at (reading name) n one.0.1) _ (names, rest) one.2 in
          let same = ok_same _ (one.0.0 ∷ others.0.0, others.0.1) (names, rest) refl others.2 in
          let is : one.0.0 ∷ others.0.0 ≡ names = ap (λ (p : List (List ℕ) × Remaining). p.0) same in
          subst AreShort is (All-cons (λ (name : List ℕ). length name ≤ name_max) one.0.0 others.0.0
          (name_short more.0.1 one.0.1 one.0.0 one.1) (list_short n one.0.1 others.0.1 others.0.0 others.1))
      | false ↦ λ e.
          let same = ok_same _ ([], more.0.1) (names, rest) refl e in
          let is : [] ≡ names = ap (λ (p : List (List ℕ) × Remaining). p.0) same in
          subst AreShort is (λ k d lt. absurd (omega arith))
    ]) more.2

-- names that are read in the result of MAPLIST
pub read_short : (left : Remaining) (list : Value map_list × Remaining) → reading map_list left ≡ Ok list
    → All (λ name. length name ≤ name_max) list.0.1
read_short left list e =
    let status = bound (reading stat left) _ list e in
    let names = bound (reading (ListOf name) status.0.1) _ list status.2 in
    let same = ok_same _ ((status.0.0, names.0.0), names.0.1) list refl names.2 in
    let is : names.0.0 ≡ list.0.1 = ap (λ (p : Value map_list × Remaining). p.0.1) same in
    subst AreShort is (list_short (length status.0.1.bytes) status.0.1 names.0.1 names.0.0 names.1)
