use Rattle.yp_netgroup.proofs.Ends.{found-spread, copies-spread}
use Rattle.yp_netgroup.proofs.search.spread.Goals as goal

pub returns : goal.returns
returns g c =
    copies-spread c.args.version.now.rows c.args.group.now _ _
    (found-spread c.args.version.now.rows c.args.group.now c.in_ok-seen.field-0 c.in-Some.seen c.in-Some.is
    c.in_ok-seen.ensures.met c.in_ok-seen.ensures.once) c.copied.ensures
