use Rattle.std.proofs.Common.{◌≡◌, not, sym, ap, ◌∙◌, rules, tests, map}
use Rattle.std.specs.List.{position}
use Rattle.std.proofs.lemmas.Iterator.{YieldsList-from_slice}
use Rattle.std.proofs.lemmas.Iterator.Search.{position_from_yields_List}
use Rattle.yp_board.specs.Catalogues.{name_view}
use Rattle.yp_board.specs.inside.Catalogues.{is_map_name, bad_name}
use Rattle.yp_board.proofs.Mapped.{position-map}
use Rattle.yp_board.proofs.faults.bad_name.Goals as goal
use Rattle.yp_board.proofs.faults.bad_name.Goals.{After-position}

found : (c : After-position) → c.position.result ≡ bad_name (map name_view c.args.maps.now)
found c =
    let names = c.with_numbers.result.now in
    let at : c.position.result ≡ position (λ x. not (is_map_name (name_view x))) names =
    position_from_yields_List (λ x. not (is_map_name (name_view x))) _ _ c.position.result c.position.ensures.ran
    (YieldsList-from_slice names cc) (λ x b q k. search (rules, tests)) in
    at ∙ sym (position-map (λ name. not (is_map_name name)) name_view names)
    ∙ ap (position (λ name. not (is_map_name name))) c.with_numbers.ensures.names

pub returns-in_err-place : goal.returns-in_err-place
returns-in_err-place c = c.from_residual.ensures ∙ sym c.in_err-place.was
    ∙ found (goal.at.returns-in_err-place c).After-position

pub returns : goal.returns
returns c = sym c.in_ok-place.was ∙ found (goal.at.returns c).After-position
