use Rattle.std.specs.Prelude.{◌≡◌}
use Rattle.yp_transfer.specs.inside.Dials.{dial_by}
use Rattle.yp_host.specs.inside.workers.CallBacks.{TellsWaiting}
use Rattle.yp_host.proofs.workers.dial.tell_waiting.Given as goal

abbrev pub invariant-loop : goal.invariant-loop
invariant-loop g l = record {
  next : (goal.iterator-loop g).can_next l.iterator';
  finite : (goal.iterator-loop g).is_finite l.iterator';
  queue : l.pass.queue ≡ l.initial.pass.queue;
  parts : l.pass.parts ≡ l.initial.pass.parts;
  told : TellsWaiting l.initial.pass l.pass (dial_by g.A.Dial l.initial.dial) (dial_by g.A.Dial l.dial);
}
