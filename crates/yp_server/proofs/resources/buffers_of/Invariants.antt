use Rattle.std.proofs.Common.{◌≡◌, ◌≤◌, length, vec_capacity}
use Rattle.yp_server.proofs.resources.buffers_of.Given as goal

abbrev pub invariant-loop : goal.invariant-loop
invariant-loop l = (length l.all_buffers.items ≡ l.counter) × (l.count ≤ vec_capacity l.all_buffers)
