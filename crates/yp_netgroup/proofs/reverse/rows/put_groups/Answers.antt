use Rattle.std.proofs.Common.{◌≡◌, ◌∙◌, ◌<◌, ◌⊎◌, Result, Ok, Err, List, [], ◌∷◌, ℕ, length, Contains, refl, subst, arith}
use Rattle.std.specs.Prelude.{OnOk, IfErr}
use Rattle.std.specs.Borrow.{Bor}
use Rattle.std.specs.List.{join_with_byte}
use Rattle.std.proofs.lemmas.List.{length-map}
use Rattle.yp_version.specs.Rows.{Row}
use Rattle.yp_version.specs.Drafts.{Draft}
use Rattle.yp_netgroup.specs.declared.reverse.fault.RevFault.{RevFault}
use Rattle.yp_netgroup.specs.declared.reverse.fault.RevFault.TheVariants.{NoMemory}
use Rattle.yp_netgroup.specs.declared.reverse.field.Field.{Field}
use Rattle.yp_netgroup.specs.inside.reverse.Links.{bytes_in}
use Rattle.yp_netgroup.specs.reverse.Reverse.{IsReversed}
use Rattle.yp_netgroup.specs.inside.reverse.Groups.{IsGroups}
use Rattle.yp_netgroup.specs.inside.reverse.Refused.{IsPut, Without, IsReverseRefusal}
use Rattle.yp_netgroup.proofs.reverse.Meeting.{bytes, contains-none}
use Rattle.yp_netgroup.proofs.reverse.rows.put_groups.Goals as goal

empty_is : {X : Type 0} (xs : List X) → length xs ≡ 0 → xs ≡ []
empty_is [] e = refl
empty_is (x ∷ xs) e = absurd (omega (arith, e))

-- the row of a key, by its groups
row_is : (rows : List Row) (field : Field) (key value : List ℕ) (names : List (Bor (List ℕ))) → IsGroups rows field key (bytes_in names)
    → 0 < length names → value ≡ join_with_byte 44 (bytes_in names) → IsReversed rows field (key, value)
row_is rows field key value names are some is = record {
  groups = bytes_in names;
  some = omega (arith, some, length-map names bytes);
  rising = are.rising;
  exactly = are.exactly;
  value = is;
}

pub returns-then-is_empty-clause-ok : goal.returns-then-is_empty-clause-ok
returns-then-is_empty-clause-ok c = λ rows field groups.
    let none : length c.args.groups.now ≡ 0 = grind arith in
    let empty = empty_is c.args.groups.now none in
    Without (λ group listed. contains-none group
    (subst (λ (names : List (Bor (List ℕ))). Contains (bytes_in names) group) empty ((groups.exactly group).1 listed)))

-- what is so of the row is so of its key and groups
pushed : {T : Type 0} (result : Result T RevFault) (key value : List ℕ) (names : List (Bor (List ℕ))) (before after : Draft) → 0 < length names
    → value ≡ join_with_byte 44 (bytes_in names)
    → OnOk result ((rows : List Row) (field : Field) → IsReversed rows field (key, value) → IsPut rows field key before after)
    → OnOk result ((rows : List Row) (field : Field) → IsGroups rows field key (bytes_in names) → IsPut rows field key before after)
pushed (Ok x) key value names before after some is h = λ rows field are. h rows field (row_is rows field key value names are some is)
pushed (Err fault) key value names before after some is h = tt

refused_by : {T : Type 0} (result : Result T RevFault) (key value : List ℕ) (names : List (Bor (List ℕ))) (before : Draft) → 0 < length names
    → value ≡ join_with_byte 44 (bytes_in names)
    → IfErr result (λ fault. (rows : List Row) (field : Field) → IsReversed rows field (key, value)
    → (fault ≡ NoMemory) ⊎ IsReverseRefusal rows field key before fault)
    → IfErr result (λ fault. (rows : List Row) (field : Field) → IsGroups rows field key (bytes_in names)
    → (fault ≡ NoMemory) ⊎ IsReverseRefusal rows field key before fault)
refused_by (Ok x) key value names before some is h = tt
refused_by (Err fault) key value names before some is h = λ rows field are. h rows field (row_is rows field key value names are some is)

pub returns-clause-ok : goal.returns-clause-ok
returns-clause-ok c =
    let some : 0 < length c.args.groups.now = grind arith in
    let value : c.deref.result.now ≡ join_with_byte 44 (bytes_in c.args.groups.now) = c.deref.ensures.value ∙ c.in_ok-put_commas.ensures in
    pushed c.push_row.result c.args.key.now c.deref.result.now c.args.groups.now c.args.builder.now c.push_row.new.builder some value c.push_row.ensures.ok

pub returns-clause-err : goal.returns-clause-err
returns-clause-err c =
    let some : 0 < length c.args.groups.now = grind arith in
    let value : c.deref.result.now ≡ join_with_byte 44 (bytes_in c.args.groups.now) = c.deref.ensures.value ∙ c.in_ok-put_commas.ensures in
    refused_by c.push_row.result c.args.key.now c.deref.result.now c.args.groups.now c.args.builder.now some value c.push_row.ensures.err
