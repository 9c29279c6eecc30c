use Rattle.std.proofs.Common.{◌≡◌, ◌≤◌, ◌++◌, List, ℕ, [], length, take, map, None, sym, ap, ◌∙◌, append_assoc, arith}
use Rattle.std.specs.Prelude.{slice_index_or, flat_map}
use Rattle.std.proofs.lemmas.List.{length-map, take_all}
use Rattle.yp_xdr.specs.Spelling.{spelling}
use Rattle.yp_messages.specs.inside.MapLists.{map_item}
use Rattle.yp_board.specs.Catalogues.{Name, listed}
use Rattle.yp_answer.specs.Maps.{Maps, maps_of}
use Rattle.yp_answer.specs.inside.Results.{map_part}
use Rattle.yp_answer.proofs.Fronts.{front_set}
use Rattle.yp_answer.proofs.Listing.{list_parts, listed_few}
use Rattle.yp_answer.proofs.facts.put_maps.Goals as goal

pub put_map-end-requires-clause-room : goal.put_map-end-requires-clause-room
put_map-end-requires-clause-room g c =
    let items = c.listed-map-items in
    let count : length items.result.now ≡ length (listed c.catalog.result.now.maps) = sym (length-map items.result.now _) ∙ ap length items.ensures.listed in
    omega (arith, count, listed_few c.catalog.result.now.maps, items.ensures.catalogue.count, c.loop-map-test.true, c.loop-map.invariant.within, c.loop-map.auto.buf, c.requires)

pub set-requires-clause-room : goal.set-requires-clause-room
set-requires-clause-room g c =
    let items = c.listed-map-items in
    let count : length items.result.now ≡ length (listed c.catalog.result.now.maps) = sym (length-map items.result.now _) ∙ ap length items.ensures.listed in
    omega (arith, count, listed_few c.catalog.result.now.maps, items.ensures.catalogue.count, c.loop-map.auto.map-index-end, c.loop-map.invariant.within, c.loop-map.auto.buf, c.requires)

pub returns-clause-put : goal.returns-clause-put
returns-clause-put g c =
    let seen = g.V.View.seen c.args.view.now in
    let maps : Maps = maps_of seen in
    let domain = c.args.domain.now in
    let items = c.listed-map-items in
    let index = c.loop-map.map-index in
    let named : ℕ → Name = λ n. slice_index_or seen.catalogue.maps n ([], []) in
    let count : length items.result.now ≡ length (listed c.catalog.result.now.maps) = sym (length-map items.result.now _) ∙ ap length items.ensures.listed in
    let within : c.loop-map.end ≤ length c.loop-map.buf =
    omega (arith, count, listed_few c.catalog.result.now.maps, items.ensures.catalogue.count, c.loop-map.auto.map-index-end, c.loop-map.invariant.within, c.loop-map.auto.buf, c.requires) in
    let all : map named (take index items.result.now) ≡ listed seen.catalogue.maps =
    ap (map named) (take_all index items.result.now c.loop-map-test.false)
    ∙ ap (λ catalogue. map (λ n. slice_index_or catalogue.maps n ([], [])) items.result.now) (sym c.catalog.ensures) ∙ items.ensures.listed ∙ ap (λ catalogue. listed catalogue.maps) c.catalog.ensures in
    front_set (spelling map_item None) c.loop-map.buf c.set.new.buf c.loop-map.end c.set.result c.set.ensures within
    ∙ ap (λ (bytes : List ℕ). bytes ++ spelling map_item None) (c.loop-map.invariant.put ∙ ap (λ (names : List Name). take c.args.at c.args.buf.now ++ flat_map (map_part maps domain) names) all)
    ∙ append_assoc (take c.args.at c.args.buf.now) (flat_map (map_part maps domain) (listed seen.catalogue.maps)) (spelling map_item None)
    ∙ ap (λ (bytes : List ℕ). take c.args.at c.args.buf.now ++ bytes) (list_parts maps domain (listed seen.catalogue.maps))
