-- Keys and values taken apart again.
use Rattle.std.proofs.Common.{◌≡◌, ℕ, suc, ◌<◌, Bool, true, false, not, ◌||◌, ◌&&◌, List, [], ◌∷◌, length}
use Rattle.std.proofs.Common.{get_or, Contains, refl, sym, ap, ◌∙◌, arith, true≢false, inl, inr, ◌⊎◌, bytes_eq}
use Rattle.std.specs.Prelude.{All, ◌==◌, codes}
use Rattle.std.specs.Char.{to_ascii_lowercase}
use Rattle.std.specs.Str.{str_to_ascii_lowercase}
use Rattle.std.specs.List.{list_all, join_with_byte, slice_split}
use Rattle.std.specs.Cmp.Lexicographic.{bytes_decides}
use Rattle.std.proofs.lemmas.Bool.Decides.{nat_tests}
use Rattle.std.proofs.lemmas.List.Sums.{AllPass-from_list_all}
use Rattle.std.proofs.lemmas.List.Splits.{slice_split_at, slice_split_none}
use Rattle.yp_version.specs.Blanks.{is_blank}
use Rattle.yp_netgroup.specs.Parts.{is_comma, is_name_byte, is_open, is_close}
use Rattle.yp_netgroup.specs.reverse.Keys.{dotted}
use Rattle.yp_netgroup.specs.reverse.Reverse.{is_name}
use Rattle.yp_netgroup.specs.inside.reverse.Listed.{has_dot}

-- ---- tests

pub or_left : (a b : Bool) → a ≡ true → (a || b) ≡ true
or_left true b h = refl
or_left false b h = absurd (true≢false (sym h))

pub or_right : (a b : Bool) → b ≡ true → (a || b) ≡ true
or_right true b h = refl
or_right false b h = h

pub or_cases : (a b : Bool) → (a || b) ≡ true → (a ≡ true) ⊎ (b ≡ true)
or_cases true b h = inl refl
or_cases false b h = inr h

pub neither : (a b : Bool) → (a || b) ≡ false → (a ≡ false) × (b ≡ false)
neither true b h = absurd (true≢false h)
neither false b h = (refl, h)

pub both : (a b : Bool) → a ≡ true → b ≡ true → (a && b) ≡ true
both true b p q = q
both false b p q = absurd (true≢false (sym p))

pub parted : (a b : Bool) → (a && b) ≡ true → (a ≡ true) × (b ≡ true)
parted true b h = (refl, h)
parted false b h = absurd (true≢false (sym h))

pub not_true : (a : Bool) → not a ≡ true → a ≡ false
not_true true h = absurd (true≢false (sym h))
not_true false h = refl

pub not_false : (a : Bool) → a ≡ false → not a ≡ true
not_false true h = absurd (true≢false h)
not_false false h = refl

pub same : (a b : List ℕ) → bytes_eq a b ≡ true → a ≡ b
same a b e = (bytes_decides a b).0 e

pub equal : (a b : List ℕ) → a ≡ b → bytes_eq a b ≡ true
equal a b e = (bytes_decides a b).1 e

-- ---- a name, a dot and a domain without one

dot_inside : (name domain : List ℕ) → has_dot (dotted name domain) ≡ true
dot_inside [] domain = refl
dot_inside (b ∷ name) domain = or_right (b == 46) (has_dot (dotted name domain)) (dot_inside name domain)

abbrev Two : List ℕ → List ℕ → List ℕ → List ℕ → Type 0
Two name domain other_name other_domain = (name ≡ other_name) × (domain ≡ other_domain)

pub undotted : (name domain other_name other_domain : List ℕ) → has_dot domain ≡ false → has_dot other_domain ≡ false
    → dotted name domain ≡ dotted other_name other_domain → Two name domain other_name other_domain
undotted [] domain [] other_domain none other_none e = (refl, cc)
undotted [] domain (b ∷ other_name) other_domain none other_none e =
    let rest : domain ≡ dotted other_name other_domain = cc in
    absurd (true≢false (sym (dot_inside other_name other_domain) ∙ sym (ap has_dot rest) ∙ none))
undotted (a ∷ name) domain [] other_domain none other_none e =
    let rest : dotted name domain ≡ other_domain = cc in
    absurd (true≢false (sym (dot_inside name domain) ∙ ap has_dot rest ∙ other_none))
undotted (a ∷ name) domain (b ∷ other_name) other_domain none other_none e =
    let head : a ≡ b = cc in
    let rest : dotted name domain ≡ dotted other_name other_domain = cc in
    let more = undotted name domain other_name other_domain none other_none rest in
    (ap (λ (x : ℕ). x ∷ name) head ∙ ap (λ (xs : List ℕ). b ∷ xs) more.0, more.1)

-- ---- without case

lower_dot : (b : ℕ) → (to_ascii_lowercase b == 46) ≡ (b == 46)
lower_dot b = grind (arith, nat_tests)

pub lower_dots : (name : List ℕ) → has_dot (str_to_ascii_lowercase name) ≡ has_dot name
lower_dots [] = refl
lower_dots (b ∷ name) =
    ap (λ (t : Bool). t || has_dot (str_to_ascii_lowercase name)) (lower_dot b)
    ∙ ap (λ (t : Bool). (b == 46) || t) (lower_dots name)

lower_any : (b : ℕ) → to_ascii_lowercase b ≡ 42 → b ≡ 42
lower_any b e = grind (arith, nat_tests)

-- an asterisk is one in either case
pub lower_asterisk : (name : List ℕ) → str_to_ascii_lowercase name ≡ codes "*" → name ≡ codes "*"
lower_asterisk [] e = e
lower_asterisk (b ∷ []) e =
    let head : to_ascii_lowercase b ≡ 42 = cc in
    ap (λ (x : ℕ). x ∷ []) (lower_any b head)
lower_asterisk (b ∷ c ∷ name) e = absurd cc

-- ---- names with commas between

comma_none : (blank opened closed comma : Bool) → not (blank || opened || closed || comma) ≡ true → comma ≡ false
comma_none false false false comma h = not_true comma h
comma_none true opened closed comma h = absurd (true≢false (sym h))
comma_none false true closed comma h = absurd (true≢false (sym h))
comma_none false false true comma h = absurd (true≢false (sym h))

no_comma : (name : List ℕ) → is_name name ≡ true → All (λ b. is_comma b ≡ false) name
no_comma name h =
    let all = AllPass-from_list_all is_name_byte name (parted (not (length name == 0)) (list_all is_name_byte name) h).1 in
    λ k d lt.
    let b = get_or name k d in
    comma_none (is_blank b) (is_open b) (is_close b) (is_comma b) (all k d lt)

pub joined_split : (groups : List (List ℕ)) → 0 < length groups
    → ((group : List ℕ) → Contains groups group → is_name group ≡ true)
    → slice_split is_comma (join_with_byte 44 groups) ≡ groups
joined_split [] some names = absurd (omega (arith, some))
joined_split (group ∷ []) some names = slice_split_none is_comma group (no_comma group (names group (0, omega arith, refl)))
joined_split (group ∷ other ∷ groups) some names =
    slice_split_at is_comma group 44 (join_with_byte 44 (other ∷ groups)) (no_comma group (names group (0, omega arith, refl))) refl
    ∙ ap (λ (rest : List (List ℕ)). group ∷ rest)
    (joined_split (other ∷ groups) (omega arith) (λ name h. names name (suc h.0, omega (arith, h.1), h.2)))
