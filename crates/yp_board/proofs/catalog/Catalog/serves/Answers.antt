use Rattle.std.proofs.Common.{bytes_eq, sym, ◌∙◌, rules, tests}
use Rattle.std.proofs.lemmas.Iterator.{YieldsList-from_slice}
use Rattle.std.proofs.lemmas.Iterator.Search.{any_from_yields_List}
use Rattle.yp_board.specs.Catalogues.{name_view}
use Rattle.yp_board.proofs.Mapped.{list_any-map}
use Rattle.yp_board.proofs.catalog.Catalog.serves.Goals as goal

pub returns-clause-served : goal.returns-clause-served
returns-clause-served c =
    let maps = c.self.inside.maps.items in
    let domain = c.args.domain.now in
    let found = any_from_yields_List (λ name. bytes_eq name.domain.items domain) _ _ c.any.result c.any.ensures.ran
    (YieldsList-from_slice maps cc) (λ x b q k. search (rules, tests)) in
    rw (← c.self.view_is) (found ∙ sym (list_any-map (λ name. bytes_eq name.0 domain) name_view maps))
