use Rattle.yp_client.proofs.orders.Level.{level}
use Rattle.yp_client.proofs.orders.print.is_level.Goals as goal

pub returns : goal.returns
returns c =
    level (λ orders. orders.items) c.args.comparison.now.survey.orders.items c.args.comparison.now.others.items
    c.are_same.result (rw (c.deref.ensures.value, c.deref-2.ensures.value) at c.are_same.ensures)
