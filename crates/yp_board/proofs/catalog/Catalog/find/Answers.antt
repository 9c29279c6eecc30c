use Rattle.std.proofs.Common.{◌≡◌, sym, ◌∙◌, rules, tests}
use Rattle.std.specs.List.{position}
use Rattle.std.proofs.lemmas.Iterator.{YieldsList-from_slice}
use Rattle.std.proofs.lemmas.Iterator.Search.{position_from_yields_List}
use Rattle.yp_board.specs.Catalogues.{name_view, is_named, find}
use Rattle.yp_board.proofs.Mapped.{position-map}
use Rattle.yp_board.proofs.catalog.Catalog.find.Goals as goal
use Rattle.yp_board.proofs.catalog.Catalog.find.Goals.{After-position}

found : (c : After-position) → c.position.result ≡ find c.args.domain.now c.args.map.now c.args.self.now
found c =
    let maps = c.self.inside.maps.items in
    let named = is_named c.args.domain.now c.args.map.now in
    let at : c.position.result ≡ position (λ x. named (name_view x)) maps =
    position_from_yields_List (λ x. named (name_view x)) _ _ c.position.result c.position.ensures.ran
    (YieldsList-from_slice maps cc) (λ x b q k. search (rules, tests)) in
    rw (← c.self.view_is) (at ∙ sym (position-map named name_view maps))

pub returns-clause-found : goal.returns-clause-found
returns-clause-found c = sym c.in_ok-place.was ∙ found (goal.at.returns-clause-found c).After-position

pub returns-in_err-place-clause-found : goal.returns-in_err-place-clause-found
returns-in_err-place-clause-found c =
    c.from_residual.ensures ∙ sym c.in_err-place.was
    ∙ found (goal.at.returns-in_err-place-clause-found c).After-position
