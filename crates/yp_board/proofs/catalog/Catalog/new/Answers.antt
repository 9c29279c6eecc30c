use Rattle.std.proofs.Common.{map, sym, ◌∙◌}
use Rattle.std.proofs.lemmas.List.{length-map}
use Rattle.yp_board.specs.Catalogues.{IsCatalogue, name_view}
use Rattle.yp_board.proofs.NoFault.{no_fault}
use Rattle.yp_board.proofs.catalog.Catalog.new.Goals as goal
use Rattle.yp_board.proofs.catalog.Catalog.new.Goals.{In_default}

fine : (c : In_default) → IsCatalogue (record { own = c.args.own.items; maps = map name_view c.args.maps.items })
fine c =
    no_fault c.args.own.items (map name_view c.args.maps.items)
    (rw (← c.deref.ensures.value, ← c.deref-2.ensures.value) (sym c.fault_of.ensures ∙ c.in_default.is))

pub rising-requires : goal.rising-requires
rising-requires c =
    let kept = fine (goal.at.rising-requires c).In_default in
    record {
      count = rw c.deref-3.ensures.value (rw length-map at kept.count);
      distinct = rw c.deref-3.ensures.value kept.distinct;
    }

pub invariant_of-result : goal.invariant_of-result
invariant_of-result c =
    record {
      catalogue = fine (goal.at.invariant_of-result c).In_default;
      numbers = rw c.deref-3.ensures.value at c.in-Ok.ensures.within;
      rising = rw c.deref-3.ensures.value at c.in-Ok.ensures.rising;
    }
