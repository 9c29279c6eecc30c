use Rattle.std.proofs.Common.{arith}
use Rattle.yp_answer.specs.session.Hosts.{conduct_of}
use Rattle.yp_worker.specs.Receptions.{terms_of}
use Rattle.yp_worker.specs.Summing.{counting_of}
use Rattle.yp_worker.proofs.Listenings.{wait_so}
use Rattle.yp_worker.proofs.listening.Listening.hand_on.Goals as goal

pub invariant_of-self-2 : goal.invariant_of-self-2
invariant_of-self-2 g c =
    let conduct = conduct_of g.H.View.seen g.H.Host.told g.H.Host.counts g.H.View.stepped g.H.Host.made g.H.Host.carried in
    let counting = counting_of g.H.CatchUp.counted g.H.HandsOver.none g.H.HandsOver.plus in
    let terms = terms_of g.J.Site.catalogue g.J.Reception.starts g.J.Reception.most in
    let held = c.self.invariant.held in
    wait_so conduct counting terms g.J.Reception.opening c.self.invariant _ _ _
    (omega (arith, held, c.in_ok-waiting.ensures.less, c.transfer.ensures.amount_left)) c.transfer.ensures.parts_left
