-- Names in a set, and their bytes.
use Rattle.std.proofs.Common.{◌≡◌, ◌<◌, ℕ, Bool, true, false, cond, ◌||◌, length, get_or, List, [], ◌∷◌, ◌++◌, map, bytes_eq, refl, sym, ap, ◌∙◌}
use Rattle.std.specs.Borrow.{Bor}
use Rattle.std.specs.List.{list_any, IsDistinct, AllByRecursion}
use Rattle.std.proofs.lemmas.List.{map-append, get_or-map}
use Rattle.indexmap.specs.IndexSet.{insert_key}

-- the bytes of a name
abbrev pub bytes : Bor (List ℕ) → List ℕ
bytes name = name.now

-- names are the same where their bytes are
abbrev pub same : Bor (List ℕ) → Bor (List ℕ) → Bool
same a b = bytes_eq a.now b.now

any-bytes : (name : Bor (List ℕ)) (names : List (Bor (List ℕ)))
    → list_any (same name) names ≡ list_any (bytes_eq name.now) (map bytes names)
any-bytes name [] = refl
any-bytes name (other ∷ names) = ap (λ more. bytes_eq name.now other.now || more) (any-bytes name names)

insert_case : (there : Bool) (name : Bor (List ℕ)) (names : List (Bor (List ℕ)))
    → map bytes (cond there names (names ++ name ∷ [])) ≡ cond there (map bytes names) (map bytes names ++ name.now ∷ [])
insert_case true name names = refl
insert_case false name names = map-append bytes names (name ∷ [])

-- a name is put into a set as its bytes into their list
pub bytes-insert : (names : List (Bor (List ℕ))) (name : Bor (List ℕ))
    → map bytes (insert_key same names name) ≡ insert_key bytes_eq (map bytes names) name.now
bytes-insert names name =
    insert_case (list_any (same name) names) name names
    ∙ ap (λ there. cond there (map bytes names) (map bytes names ++ name.now ∷ [])) (any-bytes name names)

all-bytes : (name : Bor (List ℕ)) (names : List (Bor (List ℕ))) → AllByRecursion (λ other. same name other ≡ false) names
    → AllByRecursion (λ other. bytes_eq name.now other ≡ false) (map bytes names)
all-bytes name [] h = h
all-bytes name (other ∷ names) h = (h.0, all-bytes name names h.1)

-- distinct names have distinct bytes
pub distinct-bytes : (names : List (Bor (List ℕ))) → IsDistinct same names → IsDistinct bytes_eq (map bytes names)
unfolding IsDistinct
distinct-bytes [] h = h
distinct-bytes (name ∷ names) h = (all-bytes name names h.0, distinct-bytes names h.1)

-- the bytes of the name at a place
pub name-at : (names lent : List (Bor (List ℕ))) (i : ℕ) (d : Bor (List ℕ)) → lent ≡ names → i < length names
    → (get_or lent i d).now ≡ get_or (map bytes names) i []
name-at names lent i d e within =
    ap (λ all. (get_or all i d).now) e ∙ sym (get_or-map bytes names i d [] within)
