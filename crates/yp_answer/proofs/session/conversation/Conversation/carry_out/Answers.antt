use Rattle.std.proofs.Common.{◌≡◌, sym, ◌∙◌, Some}
use Rattle.yp_answer.specs.session.Hosts.{conduct_of}
use Rattle.yp_answer.proofs.session.Cutting.{goes_carried}
use Rattle.yp_answer.proofs.session.conversation.Conversation.carry_out.Goals as goal

pub returns-clause-goes : goal.returns-clause-goes
returns-clause-goes g c =
    let conduct = conduct_of g.H.View.seen g.H.Host.told g.H.Host.counts g.H.View.stepped g.H.Host.made g.H.Host.carried in
    let is : c.self.inside.errand ≡ Some c.in-Some.errand = sym c.take.ensures.value ∙ c.in-Some.is in
    let settled = rw (← c.self.view_is) at c.requires.settled in
    rw (← c.self.view_is, c.take.ensures.after) (goes_carried conduct c.args.terms.now.peer c.args.terms.now.carries c.in-Some.errand _ _ _ c.requires.carries settled is (rw c.job.ensures at c.transfer.ensures))
