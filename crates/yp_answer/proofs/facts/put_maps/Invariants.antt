use Rattle.std.proofs.Common.{◌≡◌, ◌+◌, ◌*◌, ◌≤◌, ◌++◌, [], take, map}
use Rattle.std.specs.Prelude.{slice_index_or, flat_map}
use Rattle.yp_answer.specs.Maps.{maps_of}
use Rattle.yp_answer.specs.inside.Results.{map_part}
use Rattle.yp_answer.proofs.facts.put_maps.Given as goal

abbrev pub invariant-loop-map : goal.invariant-loop-map
invariant-loop-map g l =
    let maps = maps_of (g.V.View.seen l.view) in
    record {
      put : take l.end l.buf ≡ take l.at l.initial.buf
          ++ flat_map (map_part maps l.domain) (map (λ n. slice_index_or maps.catalogue.maps n ([], [])) (take l.map-index l.map-items));
      within : l.end ≤ l.at + 76 * l.map-index;
    }
