use Rattle.std.proofs.lemmas.List.Elements.{All-head, All-tail}
use Rattle.yp_answer.specs.session.Hosts.{conduct_of}
use Rattle.yp_worker.specs.Receptions.{terms_of}
use Rattle.yp_worker.specs.Summing.{counting_of}
use Rattle.yp_worker.specs.inside.Guests.{IsWaiting}
use Rattle.yp_worker.proofs.left.GuestQueue.take.Goals as goal

pub invariant_of-self-2 : goal.invariant_of-self-2
invariant_of-self-2 g c =
    let conduct = conduct_of g.H.View.seen g.H.Host.told g.H.Host.counts g.H.View.stepped g.H.Host.made g.H.Host.carried in
    let counting = counting_of g.H.CatchUp.counted g.H.HandsOver.none g.H.HandsOver.plus in
    let terms = terms_of g.J.Site.catalogue g.J.Reception.starts g.J.Reception.most in
    All-tail (IsWaiting g.L.In.TrySource g.L.Out.TrySink conduct counting terms g.J.Reception.opening.past g.H.Front.Known.known)
    c.in_ok-waiting.waiting _ (rw c.in_ok-waiting.ensures.items at c.self.invariant)

pub returns-clause-waits : goal.returns-clause-waits
returns-clause-waits g c =
    let conduct = conduct_of g.H.View.seen g.H.Host.told g.H.Host.counts g.H.View.stepped g.H.Host.made g.H.Host.carried in
    let counting = counting_of g.H.CatchUp.counted g.H.HandsOver.none g.H.HandsOver.plus in
    let terms = terms_of g.J.Site.catalogue g.J.Reception.starts g.J.Reception.most in
    All-head (IsWaiting g.L.In.TrySource g.L.Out.TrySink conduct counting terms g.J.Reception.opening.past g.H.Front.Known.known)
    c.in_ok-waiting.waiting _ (rw c.in_ok-waiting.ensures.items at c.self.invariant)
