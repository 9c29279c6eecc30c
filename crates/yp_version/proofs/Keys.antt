-- Keys of bytes: which are the same, and which is below another.
use Rattle.std.proofs.Common.{◌≡◌, ℕ, true, false, List, bytes_eq, is_eq, Less, Equal, Greater, ap, ◌∙◌}
use Rattle.std.proofs.lemmas.Cmp.{nat_list_cmp_total, nat_list_eq_equiv}
use Rattle.std.proofs.lemmas.Map.Lookups.{exact_bytes}
use Rattle.std.specs.Cmp.Lexicographic.{bytes_decides, texts_ties}
use Rattle.std.specs.Ordering.{eq_by_cmp, ordering_reverse}
use Rattle.yp_version.specs.Rows.{key_cmp}

-- keys that are equal by the test are one
pub same_key : (a b : List ℕ) → bytes_eq a b ≡ true → a ≡ b
same_key a b e = (bytes_decides a b).0 e

-- a key is equal to itself by the test
pub key_itself : (a : List ℕ) → bytes_eq a a ≡ true
key_itself a = nat_list_eq_equiv.refl a

-- the test may have its keys the other way round
pub eq_flip : (key : List ℕ) → (λ other. bytes_eq other key) ≡ bytes_eq key
eq_flip key i other = nat_list_eq_equiv.symm other key i

-- the test agrees with the order
pub eq_is_cmp : bytes_eq ≡ eq_by_cmp key_cmp
eq_is_cmp i a b = texts_ties a b i

-- of keys that the order tells apart, the test says so
pub eq-Less : (a b : List ℕ) → key_cmp a b ≡ Less → bytes_eq a b ≡ false
eq-Less a b e = texts_ties a b ∙ ap is_eq e

pub eq-Greater : (a b : List ℕ) → key_cmp a b ≡ Greater → bytes_eq a b ≡ false
eq-Greater a b e = texts_ties a b ∙ ap is_eq e

-- the order the other way round
pub cmp_flip : (a b : List ℕ) → key_cmp a b ≡ Greater → key_cmp b a ≡ Less
cmp_flip a b e = nat_list_cmp_total.antisymm b a ∙ ap ordering_reverse e

pub cmp_back : (a b : List ℕ) → key_cmp a b ≡ Less → key_cmp b a ≡ Greater
cmp_back a b e = nat_list_cmp_total.antisymm b a ∙ ap ordering_reverse e

-- keys that the order doesn't tell apart are one
pub cmp_same : (a b : List ℕ) → key_cmp a b ≡ Equal → a ≡ b
cmp_same a b e = exact_bytes a b e
