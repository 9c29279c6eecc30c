use Rattle.std.proofs.Common.{refl, ap, subst, sym, ◌∙◌}
use Rattle.yp_answer.specs.session.Hosts.{conduct_of, CarriesOut}
use Rattle.yp_worker.specs.inside.Queues.{deferred_as}
use Rattle.yp_worker.proofs.datagrams.Carrying.{same_transfer, behind_nothing}
use Rattle.yp_worker.proofs.datagrams.server.leave_or_carry_out.Goals as goal

pub returns-in-Transfer-clause-carries : goal.returns-in-Transfer-clause-carries
returns-in-Transfer-clause-carries g c =
    let conduct = conduct_of g.H.View.seen g.H.Host.told g.H.Host.counts g.H.View.stepped g.H.Host.made g.H.Host.carried in
    let same = same_transfer (c.in-Transfer.errand, c.in-Transfer.peer) c.args.transfer
    (ap (deferred_as g.H.Front.Known.known) (sym c.in-Transfer.is) ∙ c.into_work.ensures ∙ c.in-Err.ensures.0 ∙ c.of_transfer.ensures) in
    let out = subst (λ t. CarriesOut conduct t c.in-Transfer.peer c.args.host.now c.transfer.new.self) c.job.ensures c.transfer.ensures in
    (c.transfer.new.self, subst (λ one. CarriesOut conduct one.0 one.1 c.args.host.now c.transfer.new.self) same out, refl)

pub returns-in-Transfer-clause-left : goal.returns-in-Transfer-clause-left
returns-in-Transfer-clause-left g c = c.in-Err.ensures.1 ∙ behind_nothing _
