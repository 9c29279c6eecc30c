use Rattle.std.specs.Prelude.{◌≡◌, ◌≤◌}
use Rattle.yp_server.proofs.workers.ConnectionWorker.drain.Given as goal

abbrev pub invariant-loop : goal.invariant-loop
invariant-loop g l = record {
  next : (goal.iterator-loop g).can_next l.iterator';
  finite : (goal.iterator-loop g).is_finite l.iterator';
  parts : l.self.parts ≡ l.initial.self.parts;
  out : l.self.out ≡ l.initial.self.out;
  ended : l.initial.self.ended ≤ l.self.ended;
}
