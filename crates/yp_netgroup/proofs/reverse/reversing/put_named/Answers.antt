use Rattle.std.proofs.Common.{◌∙◌, List, map, Result, Ok, Err, ap}
use Rattle.std.specs.Prelude.{OnOk, IfErr}
use Rattle.yp_version.specs.Rows.{Row}
use Rattle.yp_netgroup.specs.declared.reverse.fault.RevFault.{RevFault}
use Rattle.yp_netgroup.specs.declared.reverse.field.Field.{Field}
use Rattle.yp_netgroup.specs.inside.reverse.Groups.{IsReadOf}
use Rattle.yp_netgroup.specs.inside.reverse.Links.{LinkTable, Link}
use Rattle.yp_netgroup.specs.inside.reverse.Listings.{link_of}
use Rattle.yp_netgroup.specs.inside.reverse.Refused.{HasAllRows, IsReverseCause}
use Rattle.yp_netgroup.proofs.reverse.reversing.put_named.Goals as goal

-- what is so of each map of which this is read is so of this one
of_read : {T : Type 0} (rows : List Row) (field : Field) (named : LinkTable) (links : List Link)
    (result : Result T RevFault) (P : List Row → Field → Type 0) → IsReadOf rows field named links
    → OnOk result ((rows : List Row) (field : Field) → IsReadOf rows field named links → P rows field)
    → OnOk result (P rows field)
of_read rows field named links (Ok x) P read h = h rows field read
of_read rows field named links (Err fault) P read h = tt

fault_of_read : {T : Type 0} (rows : List Row) (field : Field) (named : LinkTable) (links : List Link)
    (result : Result T RevFault) (P : List Row → Field → RevFault → Type 0) → IsReadOf rows field named links
    → IfErr result (λ fault. (rows : List Row) (field : Field) → IsReadOf rows field named links → P rows field fault)
    → IfErr result (P rows field)
fault_of_read rows field named links (Ok x) P read h = tt
fault_of_read rows field named links (Err fault) P read h = h rows field read

pub returns-clause-all : goal.returns-clause-all
returns-clause-all g c =
    let rows = c.args.netgroup.now.rows in
    let read : IsReadOf rows c.args.field c.args.named.now (map link_of c.deref.result.now) = record {
      rising = c.in_ok-listings.ensures.rising;
      by_name = c.requires.names;
      all = ap (map link_of) c.deref.ensures.value ∙ c.in_ok-listings.ensures.listings;
    } in
    of_read rows c.args.field c.args.named.now (map link_of c.deref.result.now) c.put_listings.result
    (λ rows field. HasAllRows rows field c.args.builder.now c.put_listings.new.builder) read c.put_listings.ensures.all

pub returns-clause-cause : goal.returns-clause-cause
returns-clause-cause g c =
    let rows = c.args.netgroup.now.rows in
    let read : IsReadOf rows c.args.field c.args.named.now (map link_of c.deref.result.now) = record {
      rising = c.in_ok-listings.ensures.rising;
      by_name = c.requires.names;
      all = ap (map link_of) c.deref.ensures.value ∙ c.in_ok-listings.ensures.listings;
    } in
    fault_of_read rows c.args.field c.args.named.now (map link_of c.deref.result.now) c.put_listings.result
    (λ rows field fault. IsReverseCause rows field c.args.builder.now fault) read c.put_listings.ensures.cause
