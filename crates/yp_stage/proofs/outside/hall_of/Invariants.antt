use Rattle.std.specs.List.{All}
use Rattle.yp_memory.specs.inside.MemHall.{EntryIsNew}
use Rattle.yp_stage.proofs.outside.hall_of.Given as goal

abbrev pub invariant-loop-words : goal.invariant-loop-words
invariant-loop-words l = All EntryIsNew l.calls.items
