use Rattle.std.proofs.Common.{◌≡◌, bytes_eq, drop}
use Rattle.indexmap.specs.IndexSet.{insert_all}
use Rattle.yp_netgroup.specs.inside.reverse.Links.{bytes_in}
use Rattle.yp_netgroup.proofs.reverse.back.meet.Given as goal

abbrev pub invariant-loop-group : goal.invariant-loop-group
invariant-loop-group l =
    insert_all bytes_eq (bytes_in l.seen.keys) (bytes_in (drop l.group-index l.groups))
    ≡ insert_all bytes_eq (bytes_in l.initial.seen.keys) (bytes_in l.groups)
