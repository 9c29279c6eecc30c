use Rattle.std.proofs.Common.{arith}
use Rattle.std.proofs.lemmas.List.{take_rest}
use Rattle.yp_io.proofs.Pieces.{HasTaken-more}
use Rattle.yp_io.proofs.stream.write_all.Goals as goal

pub loop-rest-preserved : goal.loop-rest-preserved
loop-rest-preserved g c = record {
  taken = rw take_rest (HasTaken-more _ _ _ _ _ _ c.loop-rest.invariant.taken c.in_ok-taken.ensures.within
      c.in_ok-taken.ensures.bytes);
  never_fell = omega (arith, c.in_ok-taken.ensures.cause.never_falls);
}
