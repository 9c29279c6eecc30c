use Rattle.std.proofs.Common.{ℕ, ◌<◌, ap, arith}
use Rattle.yp_answer.specs.session.Hosts.{conduct_of}
use Rattle.yp_worker.specs.Receptions.{terms_of}
use Rattle.yp_worker.specs.Summing.{counting_of}
use Rattle.yp_worker.proofs.Attending.{if_found}
use Rattle.yp_worker.proofs.Listenings.{wait_so}
use Rattle.yp_worker.proofs.listening.Listening.keep.Goals as goal

pub transfer-requires-clause-has_amount : goal.transfer-requires-clause-has_amount
transfer-requires-clause-has_amount g c =
    let kept = c.keep.ensures.kept c.if-not-keep.false in
    let some = if_found (λ guest. 0 < c.args.pass.now.out) _ kept.0.guest kept.0.found c.requires.out in
    rw (← c.pass.view_is) at some

pub invariant_of-self-2 : goal.invariant_of-self-2
invariant_of-self-2 g c =
    let conduct = conduct_of g.H.View.seen g.H.Host.told g.H.Host.counts g.H.View.stepped g.H.Host.made g.H.Host.carried in
    let counting = counting_of g.H.CatchUp.counted g.H.HandsOver.none g.H.HandsOver.plus in
    let terms = terms_of g.J.Site.catalogue g.J.Reception.starts g.J.Reception.most in
    let held = c.self.invariant.held in
    let kept = c.keep.ensures.kept c.if-not-keep.false in
    wait_so conduct counting terms g.J.Reception.opening c.self.invariant _ _ _
    (omega (arith, held, kept.1, c.transfer.ensures.amount_given)) c.transfer.ensures.parts_given

pub returns-clause-kept : goal.returns-clause-kept
returns-clause-kept g c = λ yes. rw (← c.pass.view_is) (record {
  taken_out = (c.keep.ensures.kept c.if-not-keep.false).0;
  out = c.transfer.ensures.amount_left;
  same = ap (λ (n : ℕ). record { parts = n; out = c.transfer.new.self.amount; ended = c.pass.inside.ended.amount }) c.transfer.ensures.parts_left;
})
