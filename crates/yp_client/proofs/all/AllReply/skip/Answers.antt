use Rattle.std.proofs.Common.{◌+◌, ◌-◌, arith}
use Rattle.std.proofs.lemmas.Result.{err_from_is_err_and}
use Rattle.yp_client.proofs.Waiting.{length-waiting, skips_nothing, skips_more, skip_falls, underway_same, no_piece}
use Rattle.yp_client.proofs.Waiting.{whole_reached}
use Rattle.yp_client.proofs.all.AllReply.skip.Goals as goal

pub loop-self-init : goal.loop-self-init
loop-self-init g c =
    let s = c.args.self.now in
    let len = length-waiting s.start s.end c.args.buf.now c.requires.stands.order c.requires.stands.fits in
    record {
      skipped = rw c.pass.ensures
          (skips_nothing _ _ (underway_same _ (s.at + (s.end - s.start)) _ (omega (arith, len)) c.requires.underway));
      never_fell = omega arith;
    }

pub returns-in_err-count-clause-cause : goal.returns-in_err-count-clause-cause
returns-in_err-count-clause-cause g c = λ front start place reached.
    let p = err_from_is_err_and c.from_residual.result c.from_residual.ensures.1 in
    rw (p.1, p.2) (no_piece _ start place (g.S.Source.faults c.args.source.now) (g.S.Source.faults c.loop-self.source)
    (g.S.Source.faults c.piece.new.source) _ _ _ _ _ c.loop-self-test.true c.loop-self.invariant.never_fell
    (c.loop-self.invariant.skipped.given front start place reached) c.in_err-count.ensures.cause)

pub loop-self-smaller : goal.loop-self-smaller
loop-self-smaller g c =
    skip_falls _ c.loop-self.self.at c.in_ok-count.count _ _ c.loop-self.self.whole c.loop-self-test.true
    (skips_more _ _ _ _ _ _ _ _ _ c.loop-self.invariant.skipped c.loop-self-test.true c.in_ok-count.ensures.within
    c.in_ok-count.ensures.given)

pub loop-self-preserved : goal.loop-self-preserved
loop-self-preserved g c = record {
  skipped = skips_more _ _ _ _ _ _ _ _ _ c.loop-self.invariant.skipped c.loop-self-test.true
      c.in_ok-count.ensures.within c.in_ok-count.ensures.given;
  never_fell = omega (arith, c.loop-self.invariant.never_fell, c.in_ok-count.ensures.counted);
}

pub returns-clause-more : goal.returns-clause-more
returns-clause-more g c =
    let s = c.loop-self.invariant.skipped in (
      s.more,
      λ whole. (s.ended whole).0,
      λ front start place reached. whole_reached _ start place _ _
          c.loop-self.self.whole c.loop-self-test.false (s.given front start place reached),
    )
