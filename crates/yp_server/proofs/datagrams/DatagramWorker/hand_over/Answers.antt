use Rattle.std.proofs.Common.{ap, subst, ◌∙◌}
use Rattle.yp_board.specs.Views.{IsFront}
use Rattle.yp_server.proofs.datagrams.DatagramWorker.hand_over.Goals as goal

pub returns-clause-handed : goal.returns-clause-handed
returns-clause-handed g c =
    let apart = c.into_parts-host.ensures in
    let did = c.hand_over.ensures in
    record {
      added = did.added ∙ ap (λ h. g.H.HandsOver.plus (g.H.HandsOver.summed c.args.sum.now) (g.H.CatchUp.counted h)) apart.host;
      covered = subst (λ h. IsFront (g.H.View.seen h).known (g.H.HandsOver.reached c.hand_over.new.sum)) apart.host did.covered;
      kept = did.kept;
      held_is = apart.pass;
    }
