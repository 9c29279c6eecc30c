-- In a map whose keys are one triple's each, a look-up in its reverse is membership.
use Rattle.std.proofs.Common.{◌≡◌, ℕ, Bool, true, false, not, ◌&&◌, List, [], bytes_eq, Option, Some, None}
use Rattle.std.proofs.Common.{Contains, refl, sym, ap, ◌∙◌, subst, inl, inr, ◌⊎◌, true≢false, arith}
use Rattle.std.specs.Prelude.{is_some, unwrap_or}
use Rattle.std.specs.Str.{str_to_ascii_lowercase}
use Rattle.std.specs.List.{list_any, slice_split}
use Rattle.std.specs.Map.{keys_of}
use Rattle.std.proofs.lemmas.List.Folds.{Any-from_list_any, list_any-from_Any}
use Rattle.std.proofs.lemmas.Map.Made.{is_some-lookup}
use Rattle.std.proofs.lemmas.Map.Views.{Contains-from_lookup}
use Rattle.yp_version.specs.Rows.{Row, value_of}
use Rattle.yp_netgroup.specs.Parts.{Part, Triple, parts, names, triples, is_comma}
use Rattle.yp_netgroup.specs.Reach.{SoughtMember, NamesGroup, Reaches, Itself, Onward, members_of, fits, has_fitting}
use Rattle.yp_netgroup.specs.inside.Reach.{IsMember}
use Rattle.yp_netgroup.specs.declared.reverse.field.Field.{Field}
use Rattle.yp_netgroup.specs.reverse.Keys.{counts, folded, key_of}
use Rattle.yp_netgroup.specs.reverse.Reverse.{is_name, HasKey, IsListed, IsReversed, IsReverse}
use Rattle.yp_netgroup.specs.inside.reverse.Listed.{has_group, keys_for, is_listed, has_dot, is_mixed, is_split}
use Rattle.yp_netgroup.specs.inside.reverse.Listed.{is_plain, asked_for, ListedIsMembership}
use Rattle.yp_netgroup.proofs.reverse.Dots.{both, parted, not_true, same, equal, joined_split}
use Rattle.yp_netgroup.proofs.reverse.Fitting.{fitting_has, having_fits}

abbrev Name : Type 0
Name = List ℕ

-- ---- what a test finds

pub record Found {X : Type 0} (p : X → Bool) (xs : List X) : Type 0 where
  pub it : X
  pub there : Contains xs it
  pub passes : p it ≡ true

pub found : {X : Type 0} (p : X → Bool) (xs : List X) → list_any p xs ≡ true → Found p xs
found p xs h =
    let any = Any-from_list_any p xs h in record { it = any.1; there = (any.0, any.2, any.3); passes = any.4 }

pub finds : {X : Type 0} (p : X → Bool) (xs : List X) (x : X) → Contains xs x → p x ≡ true → list_any p xs ≡ true
finds p xs x h e = list_any-from_Any p xs (h.0, x, h.1, h.2, e)

-- what a test doesn't find doesn't pass
misses : {X : Type 0} (p : X → Bool) (xs : List X) (x : X) → list_any p xs ≡ false → Contains xs x → p x ≡ false
misses p xs x none h = by (p x) refl
  where
    by : (b : Bool) → p x ≡ b → p x ≡ false
    by true e = absurd (true≢false (sym (finds p xs x h e) ∙ none))
    by false e = e

-- ---- rows

-- the row of a key
pub record RowOf (rows : List Row) (key value : Name) : Type 0 where
  pub row : Contains rows (key, value)

pub row_of : (rows : List Row) (key value : Name) → value_of key rows ≡ Some value → RowOf rows key value
row_of rows key value e =
    record { row = Contains-from_lookup {eq = λ q k. bytes_eq k q} (λ x y h. sym (same y x h)) key value rows e }

value_there : (rows : List Row) (key : Name) → Contains (keys_of rows) key → is_some (value_of key rows) ≡ true
value_there rows key h =
    is_some-lookup (λ other. bytes_eq other key) rows ∙ finds (λ other. bytes_eq other key) (keys_of rows) key h (equal key key refl)

pub no_parts : parts [] ≡ []
unfolding parts
no_parts = refl

pub absent : (value : Option Name) → is_some value ≡ false → unwrap_or value [] ≡ []
absent None h = refl
absent (Some value) h = absurd (true≢false h)

module _ (rows : List Row) where
  -- a group has a row, or no members
  pub row_case : (group : Name) (has : Bool) → is_some (value_of group rows) ≡ has
      → Contains (keys_of rows) group ⊎ (members_of rows group ≡ [])
  row_case group true h =
      let at = found (λ other. bytes_eq other group) (keys_of rows) (sym (is_some-lookup (λ other. bytes_eq other group) rows) ∙ h) in
      inl (subst (Contains (keys_of rows)) (same at.it group at.passes) at.there)
  row_case group false h = inr (ap parts (absent (value_of group rows) h) ∙ no_parts)

  none : (x : Name) → Contains [] x → ⊥
  none x h = absurd (omega (arith, h.1))

  naming_row : (group name : Name) → NamesGroup rows group name → Contains (keys_of rows) group
  naming_row group name named =
      elim (row_case group (is_some (value_of group rows)) refl) [
        | inl has ↦ has
        | inr empty ↦ absurd (none name (subst (λ (members : List Part). Contains (names members) name) empty named))
      ]

  -- a group that reaches one with a row has one
  reaching_row : (group via : Name) → Reaches rows group via → Contains (keys_of rows) via → Contains (keys_of rows) group
  reaching_row group via Itself has = has
  reaching_row group via (Onward {via = mid} reached named) has = reaching_row group mid reached (naming_row mid via named)

  fitting_row : (asked : SoughtMember) (via : Name) → has_fitting asked (members_of rows via) ≡ true → Contains (keys_of rows) via
  fitting_row asked via fits =
      elim (row_case via (is_some (value_of via rows)) refl) [
        | inl has ↦ has
        | inr empty ↦ absurd (true≢false (sym (sym (ap (has_fitting asked) empty) ∙ fits)))
      ]

  -- a triple of a group is one of a row
  value_case : (field : Field) (via : Name) (triple : Triple) (value : Option Name) → value_of via rows ≡ value
      → is_split field rows ≡ true → Contains (triples (parts (unwrap_or value []))) triple → is_mixed field triple ≡ false
  unfolding is_split
  value_case field via triple None e split there =
      absurd (omega (arith, (subst (λ (members : List Part). Contains (triples members) triple) no_parts there).1))
  value_case field via triple (Some value) e split there =
      let row = row_of rows via value e in
      let mixed = misses (λ (row : Row). list_any (is_mixed field) (triples (parts row.1))) rows (via, value) (not_true _ split) row.row in
      misses (is_mixed field) (triples (parts value)) triple mixed there

  unmixed : (field : Field) (via : Name) (triple : Triple) → is_split field rows ≡ true
      → Contains (triples (members_of rows via)) triple → is_mixed field triple ≡ false
  unmixed field via triple split there = value_case field via triple (value_of via rows) refl split there

  module _ (reverse : List Row) (field : Field) (group name domain : Name) (is : IsReverse rows field reverse)
      (split : is_split field rows ≡ true) (spelled : is_name group ≡ true) (plain : is_plain name ≡ true)
      (plain_domain : is_plain domain ≡ true) (no_dot : has_dot domain ≡ false) where
    -- the groups of a value
    groups_of : (row : Row) → Contains reverse row → IsReversed rows field row
    groups_of row h = subst (IsReversed rows field) h.2 (is.each h.0 row h.1)

    split_groups : (row : Row) (of : IsReversed rows field row) → slice_split is_comma row.1 ≡ of.groups
    split_groups row of =
        ap (slice_split is_comma) of.value
        ∙ joined_split of.groups of.some (λ other h. ((of.exactly other).0 h).name)

    -- a key under which the group stands is one that it has
    value_has : (key : Name) (value : Option Name) → value_of key reverse ≡ value → has_group group value ≡ true
        → HasKey rows field key group
    value_has key None e h = absurd (true≢false (sym h))
    value_has key (Some value) e h =
        let of = groups_of (key, value) (row_of reverse key value e).row in
        let at = found (bytes_eq group) (slice_split is_comma value) h in
        let here : Contains (slice_split is_comma value) group = subst (Contains (slice_split is_comma value)) (sym (same group at.it at.passes)) at.there in
        ((of.exactly group).0 (subst (λ (groups : List Name). Contains groups group) (split_groups (key, value) of) here)).has

    -- and one that it has is one under which it stands
    has_value : (key : Name) (value : Option Name) → value_of key reverse ≡ value → IsListed rows field key group
        → has_group group value ≡ true
    has_value key None e listed =
        absurd (true≢false (sym (sym (ap is_some e) ∙ value_there reverse key (is.whole key group listed))))
    has_value key (Some value) e listed =
        let of = groups_of (key, value) (row_of reverse key value e).row in
        let here = subst (λ (groups : List Name). Contains groups group) (sym (split_groups (key, value) of)) ((of.exactly group).1 listed) in
        finds (bytes_eq group) (slice_split is_comma value) group here (equal group group refl)

    key_test : Name → Bool
    key_test key = has_group group (value_of key reverse)

    listed_member : list_any (λ key. has_group group (value_of key reverse)) (keys_for (folded field name) (str_to_ascii_lowercase domain)) ≡ true
        → IsMember rows group (asked_for field name domain)
    listed_member h =
        let keys = keys_for (folded field name) (str_to_ascii_lowercase domain) in
        let key = found (λ key. has_group group (value_of key reverse)) keys h in
        let has = value_has key.it (value_of key.it reverse) refl key.passes in
        let test : Triple → Bool = λ triple. counts field triple && bytes_eq (key_of field triple) key.it in
        let at = found test (triples (members_of rows has.via)) has.listed in
        let two = parted (counts field at.it) (bytes_eq (key_of field at.it) key.it) at.passes in
        let one_of : list_any (bytes_eq (key_of field at.it)) keys ≡ true = finds (bytes_eq (key_of field at.it)) keys key.it key.there two.1 in
        record {
          via = has.via;
          reached = has.reached;
          listed = finds (fits (asked_for field name domain)) (triples (members_of rows has.via)) at.it at.there
              (having_fits field name domain at.it no_dot two.0 (unmixed field has.via at.it split at.there) one_of);
        }

    member_listed : IsMember rows group (asked_for field name domain)
        → list_any (λ key. has_group group (value_of key reverse)) (keys_for (folded field name) (str_to_ascii_lowercase domain)) ≡ true
    member_listed member =
        let asked = asked_for field name domain in
        let keys = keys_for (folded field name) (str_to_ascii_lowercase domain) in
        let at = found (fits asked) (triples (members_of rows member.via)) member.listed in
        let has = fitting_has field name domain at.it plain plain_domain at.passes in
        let key = found (bytes_eq (key_of field at.it)) keys has.1 in
        let test : Triple → Bool = λ triple. counts field triple && bytes_eq (key_of field triple) key.it in
        let listed : IsListed rows field key.it group = record {
          row = reaching_row group member.via member.reached (fitting_row asked member.via member.listed);
          name = spelled;
          has = record {
            via = member.via;
            reached = member.reached;
            listed = finds test (triples (members_of rows member.via)) at.it at.there (both (counts field at.it) (bytes_eq (key_of field at.it) key.it) has.0 key.passes);
          };
        } in
        finds (λ key. has_group group (value_of key reverse)) keys key.it key.there (has_value key.it (value_of key.it reverse) refl listed)

pub listed_is_membership : ListedIsMembership
unfolding is_listed
listed_is_membership rows reverse field group name domain is split spelled plain two =
    let parts = parted (is_plain domain) (not (has_dot domain)) two in (
      listed_member rows reverse field group name domain is split spelled plain parts.0 (not_true _ parts.1),
      member_listed rows reverse field group name domain is split spelled plain parts.0 (not_true _ parts.1),
    )
