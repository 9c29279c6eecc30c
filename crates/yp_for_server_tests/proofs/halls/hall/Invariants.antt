use Rattle.std.specs.List.{All}
use Rattle.yp_memory.specs.inside.MemHall.{EntryIsNew}
use Rattle.yp_for_server_tests.proofs.halls.hall.Given as goal

abbrev pub invariant-loop-caller : goal.invariant-loop-caller
invariant-loop-caller l = All EntryIsNew l.arrivals.items
