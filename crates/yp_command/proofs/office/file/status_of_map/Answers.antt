use Rattle.std.proofs.Common.{◌≡◌, map, Some, ap, sym, ◌∙◌, subst, inr}
use Rattle.std.specs.Prelude.{slice_get}
use Rattle.yp_board.specs.Catalogues.{Name, name_view}
use Rattle.yp_command.specs.inside.Words.{IsNamed}
use Rattle.yp_command.proofs.office.Named.{name_found, found_named}
use Rattle.yp_command.proofs.office.file.status_of_map.Goals as goal

pub status_of_file-requires : goal.status_of_file-requires
status_of_file-requires c =
    let names = c.args.names.now in
    let found = name_found names c.args.number c.index-names-number.result c.requires.number c.index-names-number.is in
    let named = found_named (map name_view names) c.args.number (name_view c.index-names-number.result) c.requires.named found in
    subst IsNamed (sym c.in-Ok.ensures) named

pub returns-in-Ok-clause-tells : goal.returns-in-Ok-clause-tells
returns-in-Ok-clause-tells c =
    let names = c.args.names.now in
    let found = name_found names c.args.number c.index-names-number.result c.requires.number c.index-names-number.is in
    let here : slice_get (map name_view names) c.args.number ≡ Some (name_view c.in-Ok.store) = found ∙ ap (λ (n : Name). Some n) (sym c.in-Ok.ensures) in
    inr (name_view c.in-Ok.store, here, c.status_of_file.ensures.fails)
