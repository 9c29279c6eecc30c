use Rattle.yp_answer.specs.session.Hosts.{conduct_of}
use Rattle.yp_worker.specs.Receptions.{terms_of}
use Rattle.yp_worker.specs.Summing.{counting_of}
use Rattle.yp_worker.proofs.Receiving.{kept_none}
use Rattle.yp_worker.proofs.Summing.{sums_none}
use Rattle.yp_worker.proofs.listening.Listening.new.Goals as goal

pub invariant_of-result : goal.invariant_of-result
invariant_of-result g c =
    let conduct = conduct_of g.H.View.seen g.H.Host.told g.H.Host.counts g.H.View.stepped g.H.Host.made g.H.Host.carried in
    let counting = counting_of g.H.CatchUp.counted g.H.HandsOver.none g.H.HandsOver.plus in
    let terms = terms_of g.J.Site.catalogue g.J.Reception.starts g.J.Reception.most in record {
      state = rw (c.requires.none_out, c.requires.none_ended, c.requires.opening) (kept_none g.J.Reception.opening);
      sums = rw (c.requires.none_counted, c.requires.opening) (sums_none conduct counting terms g.J.Reception.opening
          (g.H.HandsOver.reached c.args.sum));
      held = rw c.new.ensures c.requires.held.1;
      one_part = c.requires.held.0;
    }
