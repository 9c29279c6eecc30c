use Rattle.yp_netgroup.specs.inside.Who.{asked_of}
use Rattle.yp_netgroup.proofs.Ends.{member-exact}
use Rattle.yp_netgroup.proofs.search.innetgr.Goals as goal

pub returns : goal.returns
returns g c =
    member-exact c.args.version.now.rows c.args.group.now (asked_of c.args.who.now) c.in_ok-reached.reached c.is_none.result
    c.in_ok-reached.ensures.met c.is_none.ensures
