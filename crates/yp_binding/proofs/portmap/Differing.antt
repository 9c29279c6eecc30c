-- A list of mappings that differ, with one more, or with some left out.
use Rattle.std.proofs.Common.{◌≡◌, ◌∙◌, ◌++◌, ◌&&◌, ◌||◌, ◌==◌, ℕ, Bool, true, false, not, List, [], ◌∷◌, ◌<◌, ◌≤◌, subst, length, ap, sym, refl, arith}
use Rattle.std.specs.Prelude.{nat_lt}
use Rattle.yp_io.specs.declared.stream.Peer.{Peer}
use Rattle.std.specs.List.{filter, list_any, IsDistinct, AllByRecursion}
use Rattle.yp_binding.specs.declared.portmap.mapping.Mapping.{Mapping}
use Rattle.yp_binding.specs.portmap.Registry.{is_of, is_same, is_here, may_stand, is_set, with_unset, Differ}
use Rattle.yp_binding.specs.portmap.Numbers.{mappings_max}

behind : (m other : Mapping) (ms : List Mapping) → AllByRecursion (λ y. is_same m y ≡ false) ms → is_same m other ≡ false
    → AllByRecursion (λ y. is_same m y ≡ false) (ms ++ other ∷ [])
behind m other [] all apart = (apart, tt)
behind m other (x ∷ ms) all apart = (all.0, behind m other ms all.1 apart)

first_false : (a b : Bool) → (a || b) ≡ false → a ≡ false
first_false true b e = absurd cc
first_false false b e = refl

second_false : (a b : Bool) → (a || b) ≡ false → b ≡ false
second_false true b e = absurd cc
second_false false b e = e

turned : (a b : ℕ) → (a == b) ≡ (b == a)
turned a b = grind arith

same_turned : (m other : Mapping) → is_same other m ≡ is_same m other
same_turned m other = rw (turned m.prog other.prog, turned m.vers other.vers, turned m.prot other.prot) refl

pub with_more : (ms : List Mapping) (other : Mapping) → Differ ms → list_any (is_same other) ms ≡ false → Differ (ms ++ other ∷ [])
unfolding IsDistinct
with_more [] other differ none = (tt, tt)
with_more (m ∷ ms) other differ none = (
  behind m other ms differ.0 (sym (same_turned m other) ∙ first_false (is_same other m) (list_any (is_same other) ms) none),
  with_more ms other differ.1 (second_false (is_same other m) (list_any (is_same other) ms) none),
)

all_by : (m x : Mapping) (p : Mapping → Bool) (ms : List Mapping) (b : Bool) → p x ≡ b → is_same m x ≡ false
    → AllByRecursion (λ y. is_same m y ≡ false) (filter p ms) → AllByRecursion (λ y. is_same m y ≡ false) (filter p (x ∷ ms))
all_by m x p ms true e apart rest = rw e (apart, rest)
all_by m x p ms false e apart rest = rw e rest

all_left : (m : Mapping) (p : Mapping → Bool) (ms : List Mapping) → AllByRecursion (λ y. is_same m y ≡ false) ms
    → AllByRecursion (λ y. is_same m y ≡ false) (filter p ms)
all_left m p [] all = tt
all_left m p (x ∷ ms) all = all_by m x p ms (p x) refl all.0 (all_left m p ms all.1)

fewer_by : (p : Mapping → Bool) (x : Mapping) (ms : List Mapping) (b : Bool) → p x ≡ b
    → AllByRecursion (λ y. is_same x y ≡ false) (filter p ms) → Differ (filter p ms) → Differ (filter p (x ∷ ms))
unfolding IsDistinct
fewer_by p x ms true e apart differ = rw e (apart, differ)
fewer_by p x ms false e apart differ = rw e differ

pub with_fewer : (p : Mapping → Bool) (ms : List Mapping) → Differ ms → Differ (filter p ms)
unfolding IsDistinct
with_fewer p [] differ = tt
with_fewer p (x ∷ ms) differ = fewer_by p x ms (p x) refl (all_left x p ms differ.0) (with_fewer p ms differ.1)

parts : (here stands any room : Bool) → here && stands && not any && room ≡ true → (any ≡ false) × (room ≡ true)
parts true true true room e = absurd cc
parts true true false room e = (refl, e)
parts true false any room e = absurd cc
parts false stands any room e = absurd cc

-- what a SET that adds a mapping rests on
pub set_fits : (from : Peer) (asked : Mapping) (ms : List Mapping) → is_set from asked ms ≡ true
    → (list_any (is_same asked) ms ≡ false) × (length ms < mappings_max)
set_fits from asked ms e =
    let both = parts (is_here from) (may_stand asked) (list_any (is_same asked) ms) (nat_lt (length ms) mappings_max) e in
    let less : length ms < mappings_max = grind (arith, both.1) in
    (both.0, less)

-- what holds of a registry's list when a mapping was added, or some were left out
pub with_set_differs : (from : Peer) (asked : Mapping) (ms : List Mapping) → Differ ms → is_set from asked ms ≡ true
    → Differ (ms ++ asked ∷ [])
with_set_differs from asked ms differ e = with_more ms asked differ (set_fits from asked ms e).0

-- what is left where a caller on the own host unsets
pub with_unset_is : (from : Peer) (asked : Mapping) (ms kept : List Mapping) → is_here from ≡ true
    → kept ≡ filter (λ x. not (is_of asked x)) ms → kept ≡ with_unset from asked ms
with_unset_is from asked ms kept e left = rw e left

-- No mapping is a list that is short and whose mappings differ.
pub none_differ : (ms : List Mapping) → ms ≡ [] → Differ ms
unfolding IsDistinct
none_differ ms e = subst (λ (l : List Mapping). Differ l) (sym e) tt

pub none_few : (ms : List Mapping) → ms ≡ [] → length ms ≤ mappings_max
none_few ms e = rw e omega arith

shorter_by : (p : Mapping → Bool) (x : Mapping) (ms : List Mapping) (b : Bool) → p x ≡ b → length (filter p ms) ≤ length ms
    → length (filter p (x ∷ ms)) ≤ length (x ∷ ms)
shorter_by p x ms true e less = rw e omega (arith, less)
shorter_by p x ms false e less = rw e omega (arith, less)

shorter : (p : Mapping → Bool) (ms : List Mapping) → length (filter p ms) ≤ length ms
shorter p [] = omega arith
shorter p (x ∷ ms) = shorter_by p x ms (p x) refl (shorter p ms)

pub fewer_few : (p : Mapping → Bool) (ms kept : List Mapping) → kept ≡ filter p ms → length ms ≤ mappings_max
    → length kept ≤ mappings_max
fewer_few p ms kept e few = omega (arith, ap length e, shorter p ms, few)
