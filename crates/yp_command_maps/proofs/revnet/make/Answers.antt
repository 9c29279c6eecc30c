use Rattle.yp_command_maps.specs.inside.Build.{last_view}
use Rattle.yp_command_maps.specs.Revnet.{IsUnmade}
use Rattle.yp_command_maps.proofs.Reversing.{err_same}
use Rattle.yp_command_maps.proofs.revnet.make.Goals as goal

pub returns-in_err-order-clause-unmade : goal.returns-in_err-order-clause-unmade
returns-in_err-order-clause-unmade g c =
    let rows = c.args.netgroup.now.rows in
    let reversal = c.args.reversal.now in
    err_same c.from_residual.result c.in_err-order.field-0.0
    (IsUnmade reversal.name.now reversal.field reversal.moment (last_view c.args.last) rows) c.from_residual.ensures.1
    (c.in_err-order.ensures.unmade rows)
