-- Membership is decided: a way through groups is one through those before the last, or one to it and one from it.
use Rattle.std.proofs.Common.{◌≡◌, ℕ, ◌⊎◌, Bool, true, false, ◌||◌, ◌&&◌, List, [], ◌∷◌, bytes_eq, Option, Some, None}
use Rattle.std.proofs.Common.{Contains, refl, sym, subst, ap, ◌∙◌, inl, inr, arith, true≢false}
use Rattle.std.specs.Prelude.{IsTrue, ◌↔◌, is_some, unwrap_or}
use Rattle.std.specs.List.{list_any}
use Rattle.std.specs.Map.{keys_of}
use Rattle.std.specs.Cmp.Lexicographic.{bytes_decides}
use Rattle.std.proofs.lemmas.List.Folds.{Any-from_list_any, list_any-from_Any}
use Rattle.std.proofs.lemmas.Map.Made.{is_some-lookup}
use Rattle.yp_version.specs.Rows.{Row, value_of}
use Rattle.yp_netgroup.specs.Parts.{Part, parts, names}
use Rattle.yp_netgroup.specs.Reach.{SoughtMember, NamesGroup, Reaches, Itself, Onward, members_of, has_fitting}
use Rattle.yp_netgroup.specs.inside.Reach.{IsMember}
use Rattle.yp_netgroup.specs.Decided.{reaches_by, reaches, is_member}
use Rattle.yp_netgroup.specs.inside.Decided.{MembershipIsDecided}

abbrev Name : Type 0
Name = List ℕ

-- ---- tests

or_left : (a b : Bool) → a ≡ true → (a || b) ≡ true
or_left true b h = refl
or_left false b h = absurd (true≢false (sym h))

or_right : (a b : Bool) → b ≡ true → (a || b) ≡ true
or_right true b h = refl
or_right false b h = h

or_cases : (a b : Bool) → (a || b) ≡ true → (a ≡ true) ⊎ (b ≡ true)
or_cases true b h = inl refl
or_cases false b h = inr h

both : (a b : Bool) → a ≡ true → b ≡ true → (a && b) ≡ true
both true b p q = q
both false b p q = absurd (true≢false (sym p))

parted : (a b : Bool) → (a && b) ≡ true → (a ≡ true) × (b ≡ true)
parted true b h = (refl, h)
parted false b h = absurd (true≢false (sym h))

same : (a b : Name) → bytes_eq a b ≡ true → a ≡ b
same a b e = (bytes_decides a b).0 e

equal : (a : Name) → bytes_eq a a ≡ true
equal a = (bytes_decides a a).1 refl

there : (p : Name → Bool) (names : List Name) (x : Name) → Contains names x → p x ≡ true → list_any p names ≡ true
there p names x h e = list_any-from_Any p names (h.0, x, h.1, h.2, e)

module _ (rows : List Row) where
  -- ---- a way that is found is one

  onward : (a b c : Name) → Reaches rows a b → Reaches rows b c → Reaches rows a c
  onward a b c first Itself = first
  onward a b c first (Onward {via} reached named) = Onward (onward a b via first reached) named

  step : (a b : Name) → (bytes_eq a b || list_any (bytes_eq b) (names (members_of rows a))) ≡ true → Reaches rows a b
  step a b h =
      elim (or_cases (bytes_eq a b) (list_any (bytes_eq b) (names (members_of rows a))) h) [
        | inl e ↦ subst (Reaches rows a) (same a b e) Itself
        | inr named ↦
            let found = Any-from_list_any (bytes_eq b) (names (members_of rows a)) named in
            let at : found.1 ≡ b = sym (same b found.1 found.4) in
            Onward Itself (subst (Contains (names (members_of rows a))) at (found.0, found.2, found.3))
      ]

  found : (vias : List Name) (a b : Name) → reaches_by rows vias a b ≡ true → Reaches rows a b
  found [] a b h = step a b h
  found (via ∷ more) a b h =
      elim (or_cases (reaches_by rows more a b) (reaches_by rows more a via && reaches_by rows more via b) h) [
        | inl direct ↦ found more a b direct
        | inr by ↦
            let ways = parted (reaches_by rows more a via) (reaches_by rows more via b) by in
            onward a via b (found more a via ways.0) (found more via b ways.1)
      ]

  -- ---- a way that is one is found

  more_by : (vias : List Name) (a b : Name) → reaches_by rows [] a b ≡ true → reaches_by rows vias a b ≡ true
  more_by [] a b h = h
  more_by (via ∷ more) a b h =
      or_left (reaches_by rows more a b) (reaches_by rows more a via && reaches_by rows more via b) (more_by more a b h)

  named_step : (a b : Name) → NamesGroup rows a b → reaches_by rows [] a b ≡ true
  named_step a b h =
      or_right (bytes_eq a b) (list_any (bytes_eq b) (names (members_of rows a)))
      (there (bytes_eq b) (names (members_of rows a)) b h (equal b))

  -- a step from a group that the way may go by
  goes_on : (vias : List Name) (a b c : Name) → list_any (bytes_eq b) vias ≡ true → reaches_by rows vias a b ≡ true
      → NamesGroup rows b c → reaches_by rows vias a c ≡ true
  goes_on [] a b c may way named = absurd (true≢false (sym may))
  goes_on (via ∷ more) a b c may way named =
      let by = reaches_by rows more in
      let on : by b c ≡ true = more_by more b c (named_step b c named) in
      let around = or_cases (by a b) (by a via && by via b) way in
      elim (or_cases (bytes_eq b via) (list_any (bytes_eq b) more) may) [
        | inl e ↦
            let here : b ≡ via = same b via e in
            let to : by a via ≡ true = elim around [
              | inl direct ↦ subst (λ (n : Name). by a n ≡ true) here direct
              | inr ways ↦ (parted (by a via) (by via b) ways).0
            ] in
            or_right (by a c) (by a via && by via c)
            (both (by a via) (by via c) to (subst (λ (n : Name). by n c ≡ true) here on))
        | inr later ↦ elim around [
          | inl direct ↦ or_left (by a c) (by a via && by via c) (goes_on more a b c later direct named)
          | inr ways ↦
              let parts = parted (by a via) (by via b) ways in
              or_right (by a c) (by a via && by via c)
              (both (by a via) (by via c) parts.0 (goes_on more via b c later parts.1 named))
        ]
      ]

  -- a group that has members has a row
  absent : (value : Option Name) → is_some value ≡ false → unwrap_or value [] ≡ []
  absent None h = refl
  absent (Some value) h = absurd (true≢false h)

  no_parts : parts [] ≡ []
  unfolding parts
  no_parts = refl

  row_case : (group : Name) (has : Bool) → is_some (value_of group rows) ≡ has
      → (list_any (bytes_eq group) (keys_of rows) ≡ true) ⊎ (members_of rows group ≡ [])
  row_case group true h =
      let some : list_any (λ other. bytes_eq other group) (keys_of rows) ≡ true =
      sym (is_some-lookup (λ other. bytes_eq other group) rows) ∙ h in
      let at = Any-from_list_any (λ other. bytes_eq other group) (keys_of rows) some in
      let e : bytes_eq group at.1 ≡ true = subst (λ (n : Name). bytes_eq group n ≡ true) (sym (same at.1 group at.4)) (equal group) in
      inl (list_any-from_Any (bytes_eq group) (keys_of rows) (at.0, at.1, at.2, at.3, e))
  row_case group false h = inr (ap parts (absent (value_of group rows) h) ∙ no_parts)

  none : (x : Name) → Contains [] x → ⊥
  none x h = absurd (omega (arith, h.1))

  has_row : (group name : Name) → NamesGroup rows group name → list_any (bytes_eq group) (keys_of rows) ≡ true
  has_row group name named =
      elim (row_case group (is_some (value_of group rows)) refl) [
        | inl has ↦ has
        | inr empty ↦ absurd (none name (subst (λ (members : List Part). Contains (names members) name) empty named))
      ]

  whole : (a b : Name) → Reaches rows a b → reaches rows a b ≡ true
  whole a b Itself = more_by (keys_of rows) a a (or_left (bytes_eq a a) (list_any (bytes_eq a) (names (members_of rows a))) (equal a))
  whole a b (Onward {via} reached named) = goes_on (keys_of rows) a via b (has_row via b named) (whole a via reached) named

  -- ---- members

  fitting_row : (asked : SoughtMember) (via : Name) → has_fitting asked (members_of rows via) ≡ true
      → list_any (bytes_eq via) (keys_of rows) ≡ true
  fitting_row asked via fits =
      elim (row_case via (is_some (value_of via rows)) refl) [
        | inl has ↦ has
        | inr empty ↦ absurd (true≢false (sym (sym (ap (has_fitting asked) empty) ∙ fits)))
      ]

  decided : (group : Name) (asked : SoughtMember) → IsTrue (is_member rows group asked) ↔ IsMember rows group asked
  unfolding is_member
  decided group asked =
      let test : Name → Bool = λ via. reaches rows group via && has_fitting asked (members_of rows via) in (
        λ h.
            let at = Any-from_list_any test (keys_of rows) h in
            let ways = parted (reaches rows group at.1) (has_fitting asked (members_of rows at.1)) at.4 in
            record { via = at.1; reached = found (keys_of rows) group at.1 ways.0; listed = ways.1 },
        λ member.
            let via = member.via in
            let at = Any-from_list_any (bytes_eq via) (keys_of rows) (fitting_row asked via member.listed) in
            let here : at.1 ≡ via = sym (same via at.1 at.4) in
            there test (keys_of rows) via (subst (Contains (keys_of rows)) here (at.0, at.2, at.3))
            (both (reaches rows group via) (has_fitting asked (members_of rows via)) (whole group via member.reached) member.listed),
      )

pub membership_is_decided : MembershipIsDecided
membership_is_decided rows group asked = decided rows group asked
