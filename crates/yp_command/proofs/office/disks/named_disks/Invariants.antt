use Rattle.std.proofs.Common.{◌≡◌, map}
use Rattle.yp_board.specs.Catalogues.{name_view}
use Rattle.yp_command.specs.office.Disks.{names_of}
use Rattle.yp_command.proofs.office.disks.named_disks.Given as goal

abbrev pub invariant-loop-name : goal.invariant-loop-name
invariant-loop-name g l = goal.F-IsAlwaysCallable g l.make × (names_of l.disks.items ≡ map name_view l.yielded)
