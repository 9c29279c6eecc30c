-- A name that is put in its place.
use Rattle.std.proofs.Common.{◌≡◌, ℕ, ◌+◌, ◌<◌, false, cond, not, List, [], ◌∷◌, ◌++◌, map, length, get_or, take, drop}
use Rattle.std.proofs.Common.{refl, sym, ap, ◌∙◌, arith, zero, suc, add-one}
use Rattle.std.specs.List.{All, IsDistinct, AllByRecursion, insert, position_or_len}
use Rattle.std.specs.Ordering.{is_le, is_eq, match_ordering}
use Rattle.std.specs.Cmp.{tied_then}
use Rattle.std.specs.declared.cmp.Ordering.{Ordering}
use Rattle.std.specs.declared.cmp.Ordering.TheVariants.{Less, Equal, Greater}
use Rattle.std.proofs.lemmas.Map.Text.{is_eq-slice_cmp}
use Rattle.std.proofs.lemmas.List.{map-append, take-map, drop-map, drop_more}
use Rattle.std.proofs.lemmas.List.Elements.{All-append, All-take, All-drop, All-cons}
use Rattle.yp_version.specs.Rows.{key_cmp}
use Rattle.yp_board.specs.Catalogues.{Name, is_same, name_cmp, inserted, listed}
use Rattle.yp_board.proofs.Mapped.{position_or_len-map}

-- names that are the same are those that the order ties
pub is_same-is_eq : (a b : Name) → is_same a b ≡ is_eq (name_cmp a b)
is_same-is_eq a b =
    rw (← is_eq-slice_cmp a.0 b.0, ← is_eq-slice_cmp a.1 b.1) (tied_then (key_cmp a.0 b.0) (key_cmp a.1 b.1))

-- the name is put before the first that it isn't behind
insert-place : (o : Ordering) (name other : Name) (names : List Name) → is_eq o ≡ false
    → inserted name names ≡ insert names (position_or_len (λ x. is_le (name_cmp name x)) names) name
    → match_ordering o (name ∷ other ∷ names) (name ∷ names) (other ∷ inserted name names)
    ≡ insert (other ∷ names) (cond (not (is_le o)) (1 + position_or_len (λ x. is_le (name_cmp name x)) names) 0) name
insert-place Less name other names h e = refl
insert-place Equal name other names h e = absurd (cc)
insert-place Greater name other names h e =
    let place = position_or_len (λ x. is_le (name_cmp name x)) names in
    let next : 1 + place ≡ suc place = omega arith in
    rw next (ap (λ rest. other ∷ rest) e)

pub inserted-insert : (name : Name) (names : List Name) → AllByRecursion (λ other. is_same name other ≡ false) names
    → inserted name names ≡ insert names (position_or_len (λ x. is_le (name_cmp name x)) names) name
inserted-insert name [] h = refl
inserted-insert name (other ∷ names) h =
    insert-place (name_cmp name other) name other names (sym (is_same-is_eq name other)
    ∙ h.0) (inserted-insert name names h.1)

-- a fact of each name is one of each listed name
AllByRecursion-inserted : (P : Name → Type 0) (o : Ordering) (name other : Name) (names rest : List Name)
    → P name → P other → AllByRecursion P names → AllByRecursion P rest
    → AllByRecursion P (match_ordering o (name ∷ other ∷ names) (name ∷ names) (other ∷ rest))
AllByRecursion-inserted P Less name other names rest p q all more = (p, (q, all))
AllByRecursion-inserted P Equal name other names rest p q all more = (p, all)
AllByRecursion-inserted P Greater name other names rest p q all more = (q, more)

inserted-all : (P : Name → Type 0) (name : Name) (names : List Name) → P name → AllByRecursion P names
    → AllByRecursion P (inserted name names)
inserted-all P name [] p all = (p, all)
inserted-all P name (other ∷ names) p all =
    AllByRecursion-inserted P (name_cmp name other) name other names (inserted name names) p all.0 all.1
    (inserted-all P name names p all.1)

pub listed-all : (P : Name → Type 0) (names : List Name) → AllByRecursion P names → AllByRecursion P (listed names)
listed-all P [] all = all
listed-all P (name ∷ names) all = inserted-all P name (listed names) all.0 (listed-all P names all.1)

-- a name is unlike those behind it
pub unlike_behind : (names : List Name) (n : ℕ) (d : Name) → IsDistinct is_same names → n < length names
    → AllByRecursion (λ other. is_same (get_or names n d) other ≡ false) (drop (suc n) names)
unfolding IsDistinct
unlike_behind [] n d apart h = absurd (omega arith)
unlike_behind (name ∷ names) zero d apart h = apart.0
unlike_behind (name ∷ names) (suc n) d apart h = unlike_behind names n d apart.1 (omega arith)

map-insert : {X Y : Type 0} (f : X → Y) (xs : List X) (i : ℕ) (x : X)
    → map f (insert xs i x) ≡ insert (map f xs) i (f x)
map-insert f xs i x =
    map-append f (take i xs) (x ∷ drop i xs)
    ∙ ap (λ front. front ++ f x ∷ map f (drop i xs)) (sym (take-map f i xs))
    ∙ ap (λ back. take i (map f xs) ++ f x ∷ back) (sym (drop-map f i xs))

-- the name with a number
abbrev pub name_at : List Name → ℕ → Name
name_at names number = get_or names number ([], [])

-- one more map is put in its place among those behind it
pub listed-drop : (names : List Name) (n m : ℕ) (numbers : List ℕ) (place : ℕ) → IsDistinct is_same names
    → n < length names → m ≡ n + 1
    → map (name_at names) numbers ≡ listed (drop m names)
    → place ≡ position_or_len (λ number. is_le (name_cmp (name_at names n) (name_at names number))) numbers
    → map (name_at names) (insert numbers place n) ≡ listed (drop n names)
listed-drop names n m numbers place apart h next e p =
    let name = name_at names n in
    let behind = drop (n + 1) names in
    let e' : map (name_at names) numbers ≡ listed behind = e ∙ ap (λ k. listed (drop k names)) next in
    let at : place ≡ position_or_len (λ x. is_le (name_cmp name x)) (listed behind)
    = p ∙ sym (position_or_len-map (λ x. is_le (name_cmp name x)) (name_at names) numbers)
    ∙ ap (position_or_len (λ x. is_le (name_cmp name x))) e' in
    let apart' = listed-all (λ other. is_same name other ≡ false) behind
    (rw add-one (unlike_behind names n ([], []) apart h)) in
    map-insert (name_at names) numbers place n
    ∙ ap (λ xs. insert xs place name) e'
    ∙ ap (λ k. insert (listed behind) k name) at
    ∙ sym (inserted-insert name (listed behind) apart')
    ∙ ap listed (sym (drop_more names n ([], []) h))

pub All-insert : {X : Type 0} (P : X → Type 0) (xs : List X) (i : ℕ) (x : X) → P x → All P xs → All P (insert xs i x)
All-insert P xs i x p all = All-append P (take i xs) (x ∷ drop i xs) (All-take P i xs all)
    (All-cons P x (drop i xs) p (All-drop P i xs all))
