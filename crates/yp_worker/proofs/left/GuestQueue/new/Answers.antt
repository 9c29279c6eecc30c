use Rattle.std.proofs.lemmas.List.Elements.{All-nil}
use Rattle.yp_answer.specs.session.Hosts.{conduct_of}
use Rattle.yp_worker.specs.Receptions.{terms_of}
use Rattle.yp_worker.specs.Summing.{counting_of}
use Rattle.yp_worker.specs.inside.Guests.{IsWaiting}
use Rattle.yp_worker.proofs.left.GuestQueue.new.Goals as goal

pub invariant_of-result : goal.invariant_of-result
invariant_of-result g c =
    let conduct = conduct_of g.H.View.seen g.H.Host.told g.H.Host.counts g.H.View.stepped g.H.Host.made g.H.Host.carried in
    let counting = counting_of g.H.CatchUp.counted g.H.HandsOver.none g.H.HandsOver.plus in
    let terms = terms_of g.J.Site.catalogue g.J.Reception.starts g.J.Reception.most in
    rw c.new.ensures.items (All-nil (IsWaiting g.L.In.TrySource g.L.Out.TrySink conduct counting terms g.J.Reception.opening.past g.H.Front.Known.known))
