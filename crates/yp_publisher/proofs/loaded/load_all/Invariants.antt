use Rattle.std.proofs.Common.{◌≤◌, ◌+◌, length, vec_len, vec_capacity}
use Rattle.yp_publisher.proofs.Loading.{IsLoading}
use Rattle.yp_publisher.proofs.loaded.load_all.Given as goal

abbrev pub invariant-loop-disk : goal.invariant-loop-disk
invariant-loop-disk g l = record {
  loading : IsLoading g.D.Disk.history g.D.Disk.faults l.fn.disks.items l.rest.items l.maps.items;
  count : length l.maps.items + length l.rest.items ≤ 64;
  maps : length l.maps.items + length l.rest.items ≤ vec_capacity l.maps;
  disks : length l.maps.items + length l.rest.items ≤ vec_capacity l.rest;
}

abbrev pub decreases-loop-disk : goal.decreases-loop-disk
decreases-loop-disk g l = vec_len l.rest
