use Rattle.std.proofs.Common.{ap, ◌∙◌}
use Rattle.yp_host.proofs.workers.Telling.{waiting_then}
use Rattle.yp_host.proofs.workers.dial.tell_waiting.Goals as goal

pub loop-preserved : goal.loop-preserved
loop-preserved g c = record {
  next = tt;
  finite = tt;
  queue = ap (λ h. h.queue) c.tell_next.ensures.told.takes ∙ c.loop.invariant.queue;
  parts = ap (λ h. h.parts) c.tell_next.ensures.told.takes ∙ c.loop.invariant.parts;
  told = waiting_then _ _ _ _ _ _ c.loop.invariant.told c.tell_next.ensures.told;
}

pub returns-then-not-tell_next-clause-told : goal.returns-then-not-tell_next-clause-told
returns-then-not-tell_next-clause-told g c =
    waiting_then _ _ _ _ _ _ c.loop.invariant.told c.tell_next.ensures.told
