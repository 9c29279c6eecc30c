use Rattle.std.proofs.Common.{refl, arith}
use Rattle.std.proofs.lemmas.Result.{err_from_is_err_and}
use Rattle.yp_client.proofs.Waiting.{reads_nothing, reads_more, no_piece}
use Rattle.yp_client.proofs.all.AllReply.read_on.Goals as goal

pub loop-self-init : goal.loop-self-init
loop-self-init g c = record { read = reads_nothing _ _ _ c.requires; never_fell = omega arith }

pub returns-in_err-count-clause-cause : goal.returns-in_err-count-clause-cause
returns-in_err-count-clause-cause g c = λ front start place reached.
    let p = err_from_is_err_and c.from_residual.result c.from_residual.ensures.1 in
    rw (p.1, p.2) (no_piece _ start place (g.S.Source.faults c.args.source.now) (g.S.Source.faults c.loop-self.source)
    (g.S.Source.faults c.piece.new.source) _ _ _ _ _ c.loop-self-test.true c.loop-self.invariant.never_fell
    (c.loop-self.invariant.read.given front start place reached) c.in_err-count.ensures.cause)

pub loop-self-preserved : goal.loop-self-preserved
loop-self-preserved g c = record {
  read = reads_more _ _ _ _ c.in_ok-count.count _ _ _ _ _ _ _ _ c.loop-self.invariant.read c.loop-self-test.true
      c.in_ok-count.ensures.within c.in_ok-count.ensures.given refl;
  never_fell = omega (arith, c.loop-self.invariant.never_fell, c.in_ok-count.ensures.counted);
}
