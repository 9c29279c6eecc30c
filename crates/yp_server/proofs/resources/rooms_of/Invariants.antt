use Rattle.std.proofs.Common.{◌≡◌, ◌≤◌, length, vec_capacity}
use Rattle.yp_server.proofs.resources.rooms_of.Given as goal

abbrev pub invariant-loop : goal.invariant-loop
invariant-loop l = (length l.rooms.items ≡ l.counter) × (l.count ≤ vec_capacity l.rooms)
