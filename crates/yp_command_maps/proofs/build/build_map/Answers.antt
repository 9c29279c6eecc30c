use Rattle.std.proofs.Common.{◌≡◌, ◌∙◌, ℕ, List, Some, ap, sym}
use Rattle.std.specs.Prelude.{bytes_eq}
use Rattle.std.specs.List.{find}
use Rattle.yp_texts.specs.Kinds.{kinds, name_of as kind_name}
use Rattle.yp_board.specs.Catalogues.{name_view}
use Rattle.yp_command.specs.Forms.{kind_of}
use Rattle.yp_command_maps.proofs.build.build_map.Goals as goal

pub returns-clause-does : goal.returns-clause-does
returns-clause-does g c =
    let found : kind_of (name_view c.args.store) ≡ Some c.in-Some.kind =
    sym (c.in-Some.ensures ∙ ap (λ (bytes : List ℕ). find (λ k. bytes_eq (kind_name k) bytes) kinds) c.deref.ensures.value) in
    record { kind = c.in-Some.kind; of_kind = found; does = c.make_map.ensures.does }
