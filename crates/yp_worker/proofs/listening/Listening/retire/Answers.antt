use Rattle.std.proofs.Common.{◌∙◌, ℕ, ap, arith}
use Rattle.yp_io.specs.Counts.{capped}
use Rattle.std.proofs.lemmas.List.{length-map}
use Rattle.yp_answer.specs.session.Hosts.{conduct_of}
use Rattle.yp_worker.specs.Receptions.{opening_by, terms_of}
use Rattle.yp_worker.specs.Summing.{ServedConnection, counting_of, ends_of}
use Rattle.yp_worker.proofs.Receiving.{kept_closed}
use Rattle.yp_worker.proofs.Summing.{sums_ended}
use Rattle.yp_worker.proofs.listening.Listening.retire.Goals as goal

pub invariant_of-self : goal.invariant_of-self
invariant_of-self g c =
    let conduct = conduct_of g.H.View.seen g.H.Host.told g.H.Host.counts g.H.View.stepped g.H.Host.made g.H.Host.carried in
    let counting = counting_of g.H.CatchUp.counted g.H.HandsOver.none g.H.HandsOver.plus in
    let terms = terms_of g.J.Site.catalogue g.J.Reception.starts g.J.Reception.most in
    let seen = opening_by g.L.Hall in
    let has = c.requires.served in
    let past = c.end.ensures.past ∙ c.take_in.ensures.past in
    let most = c.end.ensures.most ∙ c.take_in.ensures.most in
    let accepted = c.end.ensures.accepted ∙ c.take_in.ensures.accepted in
    let returned = c.end.ensures.returned ∙ c.take_in.ensures.returned in
    let faults = c.end.ensures.faults ∙ c.take_in.ensures.faults in
    let let_go = c.end.ensures.let_go ∙ ap (λ (n : ℕ). capped n (g.L.Watch.Watch.let_go c.args.watch)) c.take_in.ensures.let_go in
    let longer = length-map has.stays (λ (s : ServedConnection). s.ended) in record {
      state = kept_closed g.J.Reception.opening (seen c.self.inside.listen) (seen c.end.new.self) _ _ _ _ c.self.invariant.state
          (ends_of has.stays) (g.L.Hall.closed c.args.closer) (g.L.Hall.closed_count c.args.closer) _
          (omega (arith, c.sub.ensures.total, has.connections_are, longer)) has.told (omega (arith, has.closed_are, longer)) past most
          accepted returned faults;
      sums = rw (c.hand_over.ensures.added, c.saturating_add-self-inside.ensures) (sums_ended conduct counting terms
          g.J.Reception.opening (seen c.self.inside.listen) (seen c.end.new.self) _
          (record {
            calls = c.self.inside.calls;
            sum = g.H.HandsOver.summed c.self.inside.sum;
            reached = g.H.HandsOver.reached c.self.inside.sum;
          })
          _ c.args.worker.now
          (record {
            tally = c.args.tally.now;
            closed = g.L.Hall.closed c.args.closer;
            closed_count = g.L.Hall.closed_count c.args.closer;
            let_go = g.L.Watch.Watch.let_go c.args.watch;
          })
          c.self.invariant.state.tells c.self.invariant.sums has past returned let_go c.hand_over.ensures.covered
          c.hand_over.ensures.kept);
      held = c.self.invariant.held;
      one_part = c.self.invariant.one_part;
    }
