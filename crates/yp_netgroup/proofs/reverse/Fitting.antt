-- A triple that fits a plain name in a plain domain has one of its keys, and where keys are one triple's each, no other
-- has.
use Rattle.std.proofs.Common.{◌≡◌, ℕ, Bool, true, false, not, ◌||◌, ◌&&◌, List, [], ◌∷◌, length, bytes_eq, refl, sym, ap, ◌∙◌}
use Rattle.std.proofs.Common.{suc, arith, inl, inr, ◌⊎◌, true≢false}
use Rattle.std.specs.Prelude.{◌==◌}
use Rattle.std.specs.Str.{str_to_ascii_lowercase}
use Rattle.std.specs.List.{list_any}
use Rattle.std.proofs.lemmas.Bool.Decides.{nat_tests}
use Rattle.yp_netgroup.specs.Parts.{Triple}
use Rattle.yp_netgroup.specs.Reach.{fits}
use Rattle.yp_netgroup.specs.declared.reverse.field.Field.{Field}
use Rattle.yp_netgroup.specs.declared.reverse.field.Field.TheVariants.{User, Host}
use Rattle.yp_netgroup.specs.reverse.Keys.{part_of, is_dash, counts, folded, or_any, dotted, key_of}
use Rattle.yp_netgroup.specs.inside.reverse.Listed.{any, keys_for, has_dot, is_mixed, is_plain, asked_for}
use Rattle.yp_netgroup.proofs.reverse.Dots.{or_left, or_right, or_cases, neither, both, parted, not_true, not_false, same, equal}
use Rattle.yp_netgroup.proofs.reverse.Dots.{undotted, lower_dots, lower_asterisk}

-- ---- one field

-- it is empty, or the same and no dash
abbrev FieldFits : Field → List ℕ → List ℕ → Type 0
FieldFits field part name =
    ((length part == 0) ≡ true) ⊎ ((bytes_eq (folded field part) (folded field name) ≡ true) × (is_dash part ≡ false))

fits_cases : (empty same dash : Bool) → (empty || (same && not dash)) ≡ true → (empty ≡ true) ⊎ ((same ≡ true) × (dash ≡ false))
fits_cases true same dash h = inl refl
fits_cases false same dash h = let two = parted same (not dash) h in inr (two.0, not_true dash two.1)

cases_fit : (empty same dash : Bool) → (empty ≡ true) ⊎ ((same ≡ true) × (dash ≡ false)) → (empty || (same && not dash)) ≡ true
cases_fit true same dash h = refl
cases_fit false same dash (inl e) = absurd (true≢false (sym e))
cases_fit false same dash (inr two) = both same (not dash) two.0 (not_false dash two.1)

-- a triple fits by its part and its domain
pub fits_fields : (field : Field) (name domain : List ℕ) (triple : Triple) → fits (asked_for field name domain) triple ≡ true
    → FieldFits field (part_of field triple) name × FieldFits Host triple.domain domain
fits_fields User name domain triple h =
    let two = parted (length triple.user == 0 || (bytes_eq triple.user name && not (is_dash triple.user)))
    (length triple.domain == 0 || (bytes_eq (str_to_ascii_lowercase triple.domain) (str_to_ascii_lowercase domain) && not (is_dash triple.domain))) h in
    (fits_cases _ _ _ two.0, fits_cases _ _ _ two.1)
fits_fields Host name domain triple h =
    let host = length triple.host == 0 || (bytes_eq (str_to_ascii_lowercase triple.host) (str_to_ascii_lowercase name) && not (is_dash triple.host)) in
    let in_domain = length triple.domain == 0 || (bytes_eq (str_to_ascii_lowercase triple.domain) (str_to_ascii_lowercase domain) && not (is_dash triple.domain)) in
    let two = parted (host && true) in_domain h in
    (fits_cases _ _ _ (parted host true two.0).0, fits_cases _ _ _ two.1)

pub fields_fit : (field : Field) (name domain : List ℕ) (triple : Triple)
    → FieldFits field (part_of field triple) name → FieldFits Host triple.domain domain
    → fits (asked_for field name domain) triple ≡ true
fields_fit User name domain triple part in_domain =
    both (length triple.user == 0 || (bytes_eq triple.user name && not (is_dash triple.user)))
    (length triple.domain == 0 || (bytes_eq (str_to_ascii_lowercase triple.domain) (str_to_ascii_lowercase domain) && not (is_dash triple.domain)))
    (cases_fit _ _ _ part) (cases_fit _ _ _ in_domain)
fields_fit Host name domain triple part in_domain =
    let host = length triple.host == 0 || (bytes_eq (str_to_ascii_lowercase triple.host) (str_to_ascii_lowercase name) && not (is_dash triple.host)) in
    let here = length triple.domain == 0 || (bytes_eq (str_to_ascii_lowercase triple.domain) (str_to_ascii_lowercase domain) && not (is_dash triple.domain)) in
    both (host && true) here (both host true (cases_fit _ _ _ part) refl) (cases_fit _ _ _ in_domain)

-- ---- what a field is in a key

folded_none : (field : Field) → folded field [] ≡ []
folded_none User = refl
folded_none Host = refl

-- a name that isn't empty stands for itself
or_any_some : (field : Field) (b : ℕ) (name : List ℕ) → or_any (folded field (b ∷ name)) ≡ folded field (b ∷ name)
or_any_some User b name = refl
or_any_some Host b name = refl

plain_parts : (name : List ℕ) → is_plain name ≡ true → ((length name == 0) ≡ false) × (bytes_eq name any ≡ false) × (is_dash name ≡ false)
plain_parts name h =
    let first = neither (length name == 0 || bytes_eq name any) (is_dash name) (not_true _ h) in
    let two = neither (length name == 0) (bytes_eq name any) first.0 in
    (two.0, two.1, first.1)

plain_any : (field : Field) (name : List ℕ) → (length name == 0) ≡ false → or_any (folded field name) ≡ folded field name
plain_any field [] h = absurd (true≢false h)
plain_any field (b ∷ name) h = or_any_some field b name

filled : (n : ℕ) → (suc n == 0) ≡ true → ⊥
filled n h = let none : suc n ≡ 0 = grind (arith, nat_tests) in absurd (omega (arith, none))

-- a field that fits is an asterisk in the key, or the name, and no dash
pub fitting_keyed : (field : Field) (part name : List ℕ) → is_plain name ≡ true → FieldFits field part name
    → (is_dash part ≡ false) × ((or_any (folded field part) ≡ any) ⊎ (or_any (folded field part) ≡ folded field name))
fitting_keyed field [] name plain (inl empty) = (refl, inl (ap or_any (folded_none field)))
fitting_keyed field [] name plain (inr two) = (refl, inl (ap or_any (folded_none field)))
fitting_keyed field (b ∷ part) name plain (inl empty) = absurd (filled (length part) empty)
fitting_keyed field (b ∷ part) name plain (inr two) =
    (two.1, inr (or_any_some field b part ∙ same (folded field (b ∷ part)) (folded field name) two.0))

-- an asterisk stands for itself in either case
folded_any : (field : Field) (part : List ℕ) → folded field part ≡ any → part ≡ any
folded_any User part e = e
folded_any Host part e = lower_asterisk part e

-- and what is so in the key, but no asterisk itself, fits
pub keyed_fits : (field : Field) (part name : List ℕ) → is_dash part ≡ false → bytes_eq part any ≡ false
    → (or_any (folded field part) ≡ any) ⊎ (or_any (folded field part) ≡ folded field name) → FieldFits field part name
keyed_fits field [] name dash star by = inl refl
keyed_fits field (b ∷ part) name dash star (inl e) =
    absurd (true≢false (sym (equal (b ∷ part) any (folded_any field (b ∷ part) (sym (or_any_some field b part) ∙ e))) ∙ star))
keyed_fits field (b ∷ part) name dash star (inr e) =
    inr (equal (folded field (b ∷ part)) (folded field name) (sym (or_any_some field b part) ∙ e), dash)

-- ---- keys

first_key : (a b c d key : List ℕ) → key ≡ a → list_any (bytes_eq key) (a ∷ b ∷ c ∷ d ∷ []) ≡ true
first_key a b c d key e = or_left (bytes_eq key a) _ (equal key a e)

pub IsKeyFor : List ℕ → List ℕ → List ℕ → Type 0
IsKeyFor name domain key = list_any (bytes_eq key) (keys_for name domain) ≡ true

second_key : (a b c d key : List ℕ) → key ≡ b → list_any (bytes_eq key) (a ∷ b ∷ c ∷ d ∷ []) ≡ true
second_key a b c d key e = or_right (bytes_eq key a) _ (or_left (bytes_eq key b) _ (equal key b e))

third_key : (a b c d key : List ℕ) → key ≡ c → list_any (bytes_eq key) (a ∷ b ∷ c ∷ d ∷ []) ≡ true
third_key a b c d key e =
    or_right (bytes_eq key a) _ (or_right (bytes_eq key b) _ (or_left (bytes_eq key c) _ (equal key c e)))

fourth_key : (a b c d key : List ℕ) → key ≡ d → list_any (bytes_eq key) (a ∷ b ∷ c ∷ d ∷ []) ≡ true
fourth_key a b c d key e =
    or_right (bytes_eq key a) _ (or_right (bytes_eq key b) _ (or_right (bytes_eq key c) _ (or_left (bytes_eq key d) _ (equal key d e))))

key_there : (name domain part here : List ℕ) → (part ≡ any) ⊎ (part ≡ name) → (here ≡ any) ⊎ (here ≡ domain)
    → list_any (bytes_eq (dotted part here)) (keys_for name domain) ≡ true
key_there name domain part here (inr n) (inr d) =
    first_key _ _ _ _ (dotted part here) (ap (λ (x : List ℕ). dotted x here) n ∙ ap (dotted name) d)
key_there name domain part here (inr n) (inl d) =
    second_key _ _ _ _ (dotted part here) (ap (λ (x : List ℕ). dotted x here) n ∙ ap (dotted name) d)
key_there name domain part here (inl n) (inr d) =
    third_key _ _ _ _ (dotted part here) (ap (λ (x : List ℕ). dotted x here) n ∙ ap (dotted any) d)
key_there name domain part here (inl n) (inl d) =
    fourth_key _ _ _ _ (dotted part here) (ap (λ (x : List ℕ). dotted x here) n ∙ ap (dotted any) d)

-- a triple that fits counts, and has a key of the name in the domain
pub fitting_has : (field : Field) (name domain : List ℕ) (triple : Triple) → is_plain name ≡ true → is_plain domain ≡ true
    → fits (asked_for field name domain) triple ≡ true
    → (counts field triple ≡ true)
    × (list_any (bytes_eq (key_of field triple)) (keys_for (folded field name) (str_to_ascii_lowercase domain)) ≡ true)
fitting_has field name domain triple plain plain_domain h =
    let two = fits_fields field name domain triple h in
    let part = fitting_keyed field (part_of field triple) name plain two.0 in
    let here = fitting_keyed Host triple.domain domain plain_domain two.1 in (
      not_false (is_dash (part_of field triple) || is_dash triple.domain)
          (or_false (is_dash (part_of field triple)) (is_dash triple.domain) part.0 here.0),
      key_there (folded field name) (str_to_ascii_lowercase domain) (or_any (folded field (part_of field triple)))
          (or_any (str_to_ascii_lowercase triple.domain)) part.1 here.1,
    )
  where
    or_false : (a b : Bool) → a ≡ false → b ≡ false → (a || b) ≡ false
    or_false true b p q = absurd (true≢false p)
    or_false false b p q = q

-- the part and the domain of a key of a name in a domain
four : (name domain part here : List ℕ) → has_dot domain ≡ false → has_dot here ≡ false
    → list_any (bytes_eq (dotted part here)) (keys_for name domain) ≡ true
    → ((part ≡ any) ⊎ (part ≡ name)) × ((here ≡ any) ⊎ (here ≡ domain))
four name domain part here none none_here h =
    let key = dotted part here in
    elim (or_cases (bytes_eq key (dotted name domain)) _ h) [
      | inl e ↦
          let two = undotted part here name domain none_here none (same key (dotted name domain) e) in
          (inr two.0, inr two.1)
      | inr h ↦ elim (or_cases (bytes_eq key (dotted name any)) _ h) [
        | inl e ↦
            let two = undotted part here name any none_here refl (same key (dotted name any) e) in
            (inr two.0, inl two.1)
        | inr h ↦ elim (or_cases (bytes_eq key (dotted any domain)) _ h) [
          | inl e ↦
              let two = undotted part here any domain none_here none (same key (dotted any domain) e) in
              (inl two.0, inr two.1)
          | inr h ↦ elim (or_cases (bytes_eq key (dotted any any)) false h) [
            | inl e ↦
                let two = undotted part here any any none_here refl (same key (dotted any any) e) in
                (inl two.0, inl two.1)
            | inr h ↦ absurd (true≢false (sym h))
          ]
        ]
      ]
    ]

or_any_dots : (domain : List ℕ) → has_dot domain ≡ false → has_dot (or_any (str_to_ascii_lowercase domain)) ≡ false
or_any_dots [] none = refl
or_any_dots (b ∷ domain) none = lower_dots (b ∷ domain) ∙ none

-- where keys are one triple's each, a triple that counts and has such a key fits
pub having_fits : (field : Field) (name domain : List ℕ) (triple : Triple) → has_dot domain ≡ false
    → counts field triple ≡ true → is_mixed field triple ≡ false
    → list_any (bytes_eq (key_of field triple)) (keys_for (folded field name) (str_to_ascii_lowercase domain)) ≡ true
    → fits (asked_for field name domain) triple ≡ true
having_fits field name domain triple none count mixed h =
    let dashes = neither (is_dash (part_of field triple)) (is_dash triple.domain) (not_true _ count) in
    let three = neither (has_dot triple.domain || bytes_eq triple.domain any) (bytes_eq (part_of field triple) any)
    (unmixed (counts field triple) _ count mixed) in
    let two = neither (has_dot triple.domain) (bytes_eq triple.domain any) three.0 in
    let by = four (folded field name) (str_to_ascii_lowercase domain) (or_any (folded field (part_of field triple)))
    (or_any (str_to_ascii_lowercase triple.domain)) (lower_dots domain ∙ none) (or_any_dots triple.domain two.0) h in
    fields_fit field name domain triple (keyed_fits field (part_of field triple) name dashes.0 three.1 by.0)
    (keyed_fits Host triple.domain domain dashes.1 two.1 by.1)
  where
    unmixed : (a b : Bool) → a ≡ true → (a && b) ≡ false → b ≡ false
    unmixed true b p q = q
    unmixed false b p q = absurd (true≢false (sym p))
