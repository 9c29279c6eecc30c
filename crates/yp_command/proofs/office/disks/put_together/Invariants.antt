use Rattle.std.proofs.Common.{◌≡◌, ◌+◌, ◌≤◌, ◌++◌, map, reverse, length, vec_len, vec_capacity}
use Rattle.yp_board.specs.Catalogues.{name_view}
use Rattle.yp_command.specs.office.Disks.{names_of, disks_of}
use Rattle.yp_command.proofs.office.disks.put_together.Given as goal

abbrev pub invariant-loop-disk : goal.invariant-loop-disk
invariant-loop-disk g l = record {
  names : names_of l.named.items ++ map name_view (reverse l.names.items) ≡ map name_view l.fn.apart.names.items;
  disks : disks_of l.named.items ++ reverse l.disks.items ≡ l.fn.apart.disks.items;
  count : length l.disks.items ≡ length l.names.items;
  room : length l.named.items + length l.names.items ≤ vec_capacity l.named;
}

abbrev pub decreases-loop-disk : goal.decreases-loop-disk
decreases-loop-disk g l = vec_len l.disks
