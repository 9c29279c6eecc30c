-- Groups that are put under names.
use Rattle.std.proofs.Common.{◌≡◌, ℕ, suc, zero, ◌+◌, Bool, true, false, cond, drop, arith, add-one, List, [], ◌∷◌, ◌++◌, map, bytes_eq, Option, Some, None, refl, sym, ap}
use Rattle.std.proofs.Common.{◌∙◌, true≢false, append-nil, append_assoc, Vec, Global}
use Rattle.std.specs.Prelude.{unwrap_or, flat_map, slice_get}
use Rattle.std.specs.Borrow.{Bor}
use Rattle.std.specs.Map.{lookup}
use Rattle.std.proofs.lemmas.List.{map-append}
use Rattle.std.proofs.lemmas.Option.{slice_get_within}
use Rattle.std.proofs.lemmas.Grind.{flat_map-append}
use Rattle.indexmap.specs.IndexMap.{insert_entry}
use Rattle.yp_version.specs.Rows.{Row}
use Rattle.yp_netgroup.specs.inside.reverse.Links.{Link, source, sources, bytes_of}
use Rattle.yp_netgroup.proofs.reverse.Dots.{same, equal}

abbrev pub Names : Type 0
Names = Vec (Bor (List ℕ)) Global

abbrev pub Entry : Type 0
Entry = Bor (List ℕ) × Names

-- names are the same where their bytes are
abbrev pub alike : Bor (List ℕ) → Bor (List ℕ) → Bool
alike a b = bytes_eq a.now b.now

abbrev pub is_at : List ℕ → Bor (List ℕ) → Bool
is_at name other = bytes_eq name other.now

pub under_in : List Entry → List ℕ → List (List ℕ)
under_in entries name = bytes_of (lookup (is_at name) entries)

put_same : (t : Bool) (v w : Names) (rest : Option Names) → cond t (Some v) rest ≡ cond t (Some v) (cond t (Some w) rest)
put_same true v w rest = refl
put_same false v w rest = refl

put_other : (a b : Bool) (v w : Names) (rest : Option Names) → (a ≡ true → b ≡ true → ⊥)
    → cond a (Some w) (cond b (Some v) rest) ≡ cond b (Some v) (cond a (Some w) rest)
put_other true true v w rest apart = absurd (apart refl refl)
put_other true false v w rest apart = refl
put_other false true v w rest apart = refl
put_other false false v w rest apart = refl

lookup_put : (other : List ℕ) (entries : List Entry) (name : Bor (List ℕ)) (v : Names)
    → lookup (is_at other) (insert_entry alike entries name v) ≡ cond (bytes_eq other name.now) (Some v) (lookup (is_at other) entries)
lookup_put other [] name v = refl
lookup_put other (entry ∷ entries) name v = by (alike name entry.0) refl (lookup_put other entries name v)
  where
    by : (t : Bool) → alike name entry.0 ≡ t
        → lookup (is_at other) (insert_entry alike entries name v) ≡ cond (bytes_eq other name.now) (Some v) (lookup (is_at other) entries)
        → lookup (is_at other) (cond t ((entry.0, v) ∷ entries) (entry ∷ insert_entry alike entries name v))
        ≡ cond (bytes_eq other name.now) (Some v) (cond (bytes_eq other entry.0.now) (Some entry.1) (lookup (is_at other) entries))
    by true e more =
        let here : name.now ≡ entry.0.now = same name.now entry.0.now e in
        put_same (bytes_eq other entry.0.now) v entry.1 (lookup (is_at other) entries)
        ∙ ap (λ (bytes : List ℕ). cond (bytes_eq other bytes) (Some v) (cond (bytes_eq other entry.0.now) (Some entry.1) (lookup (is_at other) entries))) (sym here)
    by false e more =
        ap (λ (rest : Option Names). cond (bytes_eq other entry.0.now) (Some entry.1) rest) more
        ∙ put_other (bytes_eq other entry.0.now) (bytes_eq other name.now) v entry.1 (lookup (is_at other) entries)
        (λ p q. true≢false (sym (equal name.now entry.0.now (sym (same other name.now q) ∙ same other entry.0.now p)) ∙ e))

none_of : (before : Option Names) (empty : Names) → empty.items ≡ [] → map (λ group. group.now) (unwrap_or before empty).items ≡ bytes_of before
none_of None empty e = ap (map (λ group. group.now)) e
none_of (Some groups) empty e = refl

-- a group is put behind those under a name, and others stay
pub put_under : (other : List ℕ) (entries : List Entry) (name group : Bor (List ℕ)) (first empty groups pushed : Names) (before : Option Names)
    → before ≡ lookup (is_at name.now) entries → groups ≡ unwrap_or before empty → empty.items ≡ []
    → pushed.items ≡ groups.items ++ group ∷ []
    → bytes_of (lookup (is_at other) (insert_entry alike (insert_entry alike entries name first) name pushed))
    ≡ bytes_of (lookup (is_at other) entries) ++ source other (name.now, group.now)
put_under other entries name group first empty groups pushed before was is none more =
    ap bytes_of (lookup_put other (insert_entry alike entries name first) name pushed
    ∙ ap (λ (rest : Option Names). cond (bytes_eq other name.now) (Some pushed) rest) (lookup_put other entries name first))
    ∙ by (bytes_eq other name.now) refl (bytes_eq name.now other) refl
  where
    by : (t : Bool) → bytes_eq other name.now ≡ t → (u : Bool) → bytes_eq name.now other ≡ u
        → bytes_of (cond t (Some pushed) (cond t (Some first) (lookup (is_at other) entries)))
        ≡ bytes_of (lookup (is_at other) entries) ++ cond u (group.now ∷ []) []
    by true e true f =
        ap (map (λ (group : Bor (List ℕ)). group.now)) more ∙ map-append (λ (group : Bor (List ℕ)). group.now) groups.items (group ∷ [])
        ∙ ap (λ (l : List (List ℕ)). l ++ group.now ∷ [])
        (ap (λ (v : Names). map (λ group. group.now) v.items) is ∙ none_of before empty none
        ∙ ap bytes_of (was ∙ ap (λ (bytes : List ℕ). lookup (is_at bytes) entries) (sym (same other name.now e))))
    by true e false f = absurd (true≢false (sym (equal name.now other (sym (same other name.now e))) ∙ f))
    by false e true f = absurd (true≢false (sym (equal other name.now (sym (same name.now other f))) ∙ e))
    by false e false f = sym (append-nil (bytes_of (lookup (is_at other) entries)))

-- links one behind the other
pub sources-append : (name : List ℕ) (links more : List Link) → sources name (links ++ more) ≡ sources name links ++ sources name more
sources-append name links more = flat_map-append (source name) links more

pub drop_none : {X : Type 0} (xs : List X) → drop 0 xs ≡ xs
drop_none [] = refl
drop_none (x ∷ xs) = refl

drop_next : {X : Type 0} (xs : List X) (i : ℕ) (x : X) → slice_get xs i ≡ Some x → drop i xs ≡ x ∷ drop (suc i) xs
drop_next [] i x there = absurd (omega (arith, slice_get_within [] i x there))
drop_next (y ∷ ys) zero x there =
    let is : y ≡ x = cc in
    ap (λ z. z ∷ ys) is ∙ ap (λ zs. x ∷ zs) (sym (drop_none ys))
drop_next (y ∷ ys) (suc i) x there = drop_next ys i x there

-- an item that stands at a place, and those behind it
pub drop_at : {X : Type 0} (xs : List X) (i : ℕ) (x : X) → slice_get xs i ≡ Some x → drop i xs ≡ x ∷ drop (i + 1) xs
drop_at xs i x there = drop_next xs i x there ∙ ap (λ n. x ∷ drop n xs) (sym (add-one i))

-- the links of one more row
pub row_more : (of_row : Row → List Link) (other : List ℕ) (old new : List (List ℕ)) (rows : List Row) (i : ℕ) (row : Row)
    → slice_get rows i ≡ Some row → new ≡ old ++ sources other (of_row row)
    → old ++ sources other (flat_map of_row (drop i rows)) ≡ sources other (flat_map of_row rows)
    → new ++ sources other (flat_map of_row (drop (i + 1) rows)) ≡ sources other (flat_map of_row rows)
row_more of_row other old new rows i row there put before =
    let rest = flat_map of_row (drop (i + 1) rows) in
    ap (λ (l : List (List ℕ)). l ++ sources other rest) put ∙ append_assoc old (sources other (of_row row)) (sources other rest)
    ∙ ap (λ (l : List (List ℕ)). old ++ l) (sym (sources-append other (of_row row) rest)
    ∙ ap (λ (left : List Row). sources other (flat_map of_row left)) (sym (drop_at rows i row there)))
    ∙ before

-- the piece of one more item
pub piece_more : {X Y Z : Type 0} (f : X → Y) (piece : Y → List Z) (old new whole : List Z) (items : List X) (i : ℕ) (item : X)
    → drop i items ≡ item ∷ drop (suc i) items → new ≡ old ++ piece (f item)
    → old ++ flat_map piece (map f (drop i items)) ≡ whole
    → new ++ flat_map piece (map f (drop (i + 1) items)) ≡ whole
piece_more {X} {Y} {Z} f piece old new whole items i item there put before =
    let rest = flat_map piece (map f (drop (i + 1) items)) in
    let next : drop i items ≡ item ∷ drop (i + 1) items = there ∙ ap (λ n. item ∷ drop n items) (sym (add-one i)) in
    ap (λ (l : List Z). l ++ rest) put ∙ append_assoc old (piece (f item)) rest
    ∙ ap (λ (left : List X). old ++ flat_map piece (map f left)) (sym next) ∙ before
