use Rattle.std.proofs.Common.{◌≡◌, ◌+◌, ◌≤◌, ◌++◌, map, reverse, length, vec_len, vec_capacity}
use Rattle.yp_board.specs.Catalogues.{name_view}
use Rattle.yp_command.specs.office.Disks.{names_of, disks_of}
use Rattle.yp_command.proofs.office.disks.take_apart.Given as goal

abbrev pub invariant-loop-name : goal.invariant-loop-name
invariant-loop-name g l = record {
  names : names_of l.named.items ++ map name_view (reverse l.names.items) ≡ names_of l.fn.named.items;
  disks : disks_of l.named.items ++ reverse l.disks.items ≡ disks_of l.fn.named.items;
  of_names : length l.names.items + length l.named.items ≤ vec_capacity l.names;
  of_disks : length l.disks.items + length l.named.items ≤ vec_capacity l.disks;
  room : length l.fn.named.items ≤ vec_capacity l.named;
}

abbrev pub decreases-loop-name : goal.decreases-loop-name
decreases-loop-name g l = vec_len l.named
