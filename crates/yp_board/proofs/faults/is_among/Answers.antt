use Rattle.std.proofs.Common.{sym, ◌∙◌, rules, tests}
use Rattle.std.proofs.lemmas.Iterator.{YieldsList-from_slice}
use Rattle.std.proofs.lemmas.Iterator.Search.{any_from_yields_List}
use Rattle.yp_board.specs.Catalogues.{name_view, is_same}
use Rattle.yp_board.proofs.Mapped.{list_any-map}
use Rattle.yp_board.proofs.faults.is_among.Goals as goal

pub returns : goal.returns
returns c =
    let names = c.args.names.now in
    let name = name_view c.args.name.now in
    let found = any_from_yields_List (λ other. is_same name (name_view other)) _ _ c.any.result c.any.ensures.ran
    (YieldsList-from_slice names cc) (λ x b q k. search (rules, tests)) in
    found ∙ sym (list_any-map (is_same name) name_view names)
