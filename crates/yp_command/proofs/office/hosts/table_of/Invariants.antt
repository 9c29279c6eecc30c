use Rattle.std.proofs.Common.{◌≡◌, map}
use Rattle.yp_command.specs.Words.{host_view}
use Rattle.yp_command.proofs.office.hosts.table_of.Given as goal

abbrev pub invariant-loop-word : goal.invariant-loop-word
invariant-loop-word l = l.hosts ≡ map host_view l.yielded
