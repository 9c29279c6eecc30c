use Rattle.std.proofs.Common.{◌≡◌, ◌⊎◌, List, ℕ, Result, Ok, Err, sym, subst}
use Rattle.std.specs.Prelude.{OnOk, IfErr}
use Rattle.std.specs.Borrow.{Bor}
use Rattle.yp_version.specs.Rows.{Row}
use Rattle.yp_version.specs.Drafts.{Draft}
use Rattle.yp_netgroup.specs.declared.reverse.field.Field.{Field}
use Rattle.yp_netgroup.specs.declared.reverse.fault.RevFault.{RevFault}
use Rattle.yp_netgroup.specs.declared.reverse.fault.RevFault.TheVariants.{NoMemory}
use Rattle.yp_netgroup.specs.inside.reverse.Links.{LinkTable, bytes_in}
use Rattle.yp_netgroup.specs.inside.reverse.Groups.{IsGroups, IsKeptOf}
use Rattle.yp_netgroup.specs.inside.reverse.Refused.{IsPut, IsReverseRefusal}
use Rattle.yp_netgroup.proofs.reverse.rows.put_row.Goals as goal

-- what is so of the groups of a key is so of what is kept of the map, for names that were read as they are
module _ (named by_key : LinkTable) (key : List ℕ) (names read : List (Bor (List ℕ))) (same : read ≡ names)
    (are : (rows : List Row) (field : Field) → IsKeptOf rows field named by_key → IsGroups rows field key (bytes_in names)) where
  of_read : (rows : List Row) (field : Field) → IsKeptOf rows field named by_key → IsGroups rows field key (bytes_in read)
  of_read rows field kept = subst (λ (n : List (Bor (List ℕ))). IsGroups rows field key (bytes_in n)) (sym same) (are rows field kept)

  put_by : {T : Type 0} (result : Result T RevFault) (before after : Draft)
      → OnOk result ((rows : List Row) (field : Field) → IsGroups rows field key (bytes_in read) → IsPut rows field key before after)
      → OnOk result ((rows : List Row) (field : Field) → IsKeptOf rows field named by_key → IsPut rows field key before after)
  put_by (Ok x) before after h = λ rows field kept. h rows field (of_read rows field kept)
  put_by (Err fault) before after h = tt

  refused_by : {T : Type 0} (result : Result T RevFault) (before : Draft)
      → IfErr result (λ fault. (rows : List Row) (field : Field) → IsGroups rows field key (bytes_in read)
      → (fault ≡ NoMemory) ⊎ IsReverseRefusal rows field key before fault)
      → IfErr result (λ fault. (rows : List Row) (field : Field) → IsKeptOf rows field named by_key
      → (fault ≡ NoMemory) ⊎ IsReverseRefusal rows field key before fault)
  refused_by (Ok x) before h = tt
  refused_by (Err fault) before h = λ rows field kept. h rows field (of_read rows field kept)

pub returns-clause-ok : goal.returns-clause-ok
returns-clause-ok g c =
    put_by c.args.named.now c.args.listed.now c.args.key.now c.in_ok-groups.groups.items c.deref.result.now c.deref.ensures.value
    c.in_ok-groups.ensures c.put_groups.result c.args.builder.now c.put_groups.new.builder c.put_groups.ensures.ok

pub returns-clause-err : goal.returns-clause-err
returns-clause-err g c =
    refused_by c.args.named.now c.args.listed.now c.args.key.now c.in_ok-groups.groups.items c.deref.result.now c.deref.ensures.value
    c.in_ok-groups.ensures c.put_groups.result c.args.builder.now c.put_groups.ensures.err
