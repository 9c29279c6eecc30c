use Rattle.std.proofs.Common.{arith}
use Rattle.std.proofs.KnownBytes.{Consumes-trans}
use Rattle.yp_rpc.proofs.Stream.{take-behind, within-behind}
use Rattle.yp_rpc.proofs.record.reader.fill.Goals as goal

pub loop-filled-preserved : goal.loop-filled-preserved
loop-filled-preserved g c = record {
  within = within-behind c.loop-filled.filled _ c.in_ok-count.count c.loop-filled.buf c.read.new.buf
      c.loop-filled.invariant.within c.in_ok-count.ensures.within;
  taken = rw (take-behind c.loop-filled.filled _ c.in_ok-count.count c.loop-filled.buf c.read.new.buf
      c.loop-filled.invariant.within c.in_ok-count.ensures.within)
      (Consumes-trans _ _ _ _ _ c.loop-filled.invariant.taken c.in_ok-count.ensures.bytes.0);
  never_fell = omega (arith, c.in_ok-count.ensures.cause.never_falls);
}
