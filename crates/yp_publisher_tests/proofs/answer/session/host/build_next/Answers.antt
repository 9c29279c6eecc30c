use Rattle.std.proofs.Common.{◌∙◌, ap}
use Rattle.yp_board.specs.Catalogues.{Catalogue}
use Rattle.yp_publisher_tests.proofs.Making.{front, other_so, built_so}
use Rattle.yp_publisher_tests.proofs.answer.session.host.build_next.Goals as goal

pub returns-in-Some-clause-unbuilt : goal.returns-in-Some-clause-unbuilt
returns-in-Some-clause-unbuilt c = (
  c.args.board.now.known,
  front c.args.board.now.known,
  c.in-Some.field-0.now,
  other_so (c.own-own.ensures.own ∙ ap (λ (k : Catalogue). k.own) c.catalog.ensures) c.held-last.ensures c.in-Some.ensures.master,
)

pub returns-in-Ok-build_after-clause-built : goal.returns-in-Ok-build_after-clause-built
returns-in-Ok-build_after-clause-built c =
    built_so c.args.reading c.in-Ok.text.items 100 c.in-Ok-build_after.version (c.own-own.ensures.own ∙ ap (λ (k : Catalogue). k.own) c.catalog.ensures) c.held-last.ensures c.in-Ok-build_after.ensures.version c.in-Ok-build_after.ensures.over
