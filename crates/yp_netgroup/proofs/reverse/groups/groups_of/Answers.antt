use Rattle.std.proofs.Common.{List, ℕ, Contains, Result, Ok, Err, Vec, Global, subst}
use Rattle.std.specs.Prelude.{◌↔◌, IfOk, filter}
use Rattle.std.specs.Borrow.{Bor}
use Rattle.std.specs.List.Sorted.{IsStrictlySortedBy}
use Rattle.yp_version.specs.Rows.{Row, key_cmp}
use Rattle.yp_netgroup.specs.declared.reverse.field.Field.{Field}
use Rattle.yp_netgroup.specs.inside.reverse.Groups.{IsGroups, IsKeptOf}
use Rattle.yp_netgroup.specs.inside.reverse.Links.{bytes_in, under}
use Rattle.yp_netgroup.specs.reverse.Reverse.{is_name}
use Rattle.yp_netgroup.proofs.reverse.Leading.{leading_groups}
use Rattle.yp_netgroup.proofs.reverse.groups.groups_of.Goals as goal

abbrev Names : Type 0
Names = Vec (Bor (List ℕ)) Global

-- what follows from two facts of what came
of_both : {E : Type 0} (result : Result Names E) (P Q R : Names → Type 0) → IfOk result P → IfOk result Q
    → ((names : Names) → P names → Q names → R names) → IfOk result R
of_both (Ok names) P Q R p q h = h names p q
of_both (Err fault) P Q R p q h = tt

pub returns : goal.returns
returns g c =
    let key = c.args.key.now in
    let seen = bytes_in c.in_ok-seen.seen.keys in
    let lent = c.as_slice.result.now in
    of_both c.names_of.result (λ names. IsStrictlySortedBy key_cmp (bytes_in names.items))
    (λ names. (name : List ℕ) → Contains (bytes_in names.items) name ↔ Contains (filter is_name (bytes_in lent)) name)
    (λ names. (rows : List Row) (field : Field) → IsKeptOf rows field c.args.named.now c.args.listed.now
    → IsGroups rows field key (bytes_in names.items))
    c.names_of.ensures.rising c.names_of.ensures.same (λ names rising same rows field kept.
    let spelled = subst (λ (lent : List (Bor (List ℕ))). (name : List ℕ)
    → Contains (bytes_in names.items) name ↔ Contains (filter is_name (bytes_in lent)) name)
    c.as_slice.ensures.keys same in
    leading_groups rows (c.rising_is_distinct.ensures rows kept.rising) field key (under c.args.named.now)
    (under c.args.listed.now key) kept.by_name (kept.by_key key) seen (bytes_in names.items) c.in_ok-seen.ensures
    rising spelled)
