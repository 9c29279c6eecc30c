use Rattle.std.proofs.Common.{sym, ◌∙◌}
use Rattle.yp_answer.specs.session.Hosts.{conduct_of}
use Rattle.yp_worker.proofs.datagrams.Carrying.{clears_one}
use Rattle.yp_worker.proofs.datagrams.server.MailServer.carry_out.Goals as goal

pub returns : goal.returns
returns g c =
    let conduct = conduct_of g.H.View.seen g.H.Host.told g.H.Host.counts g.H.View.stepped g.H.Host.made g.H.Host.carried in
    let left = c.leave_or_carry_out.ensures in
    let some = sym c.take.ensures.value ∙ c.in-Some.is in
    rw (← c.self.view_is) (clears_one conduct c.leave_or_carry_out.result c.in-Some.transfer _ _ some left.carries
    c.take.ensures.after left.left)
