use Rattle.std.specs.Prelude.{◌≡◌}
use Rattle.yp_host.proofs.workers.carrying.leave_call_back.Given as goal

abbrev pub invariant-loop : goal.invariant-loop
invariant-loop g l = record {
  next : (goal.iterator-loop g).can_next l.iterator';
  finite : (goal.iterator-loop g).is_finite l.iterator';
  same : l.charges ≡ l.initial.charges;
  again : l.call_back ≡ l.initial.call_back;
}
