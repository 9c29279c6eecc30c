use Rattle.std.proofs.Common.{ap, subst, ◌∙◌}
use Rattle.yp_board.specs.Views.{IsFront}
use Rattle.yp_server.proofs.datagrams.hand_over_carrier.Goals as goal

pub returns : goal.returns
returns g c =
    let apart = c.into_parts-host.ensures in
    let did = c.hand_over.ensures in
    record {
      ended = c.carry_rest.new.self;
      carries = c.carry_rest.ensures;
      inbox_is = apart.inbox.0;
      fault_is = apart.inbox.1;
      added = did.added ∙ ap (λ h. g.H.HandsOver.plus (g.H.HandsOver.summed c.args.sum.now) (g.H.CatchUp.counted h)) apart.host;
      covered = subst (λ h. IsFront (g.H.View.seen h).known (g.H.HandsOver.reached c.hand_over.new.sum)) apart.host did.covered;
      kept = did.kept;
    }
