use Rattle.std.proofs.Common.{◌≡◌, ◌++◌, drop}
use Rattle.std.specs.Prelude.{filter}
use Rattle.yp_netgroup.specs.inside.reverse.Links.{bytes_in}
use Rattle.yp_netgroup.specs.reverse.Reverse.{is_name}
use Rattle.yp_netgroup.proofs.reverse.groups.put_names.Given as goal

abbrev pub invariant-loop-group : goal.invariant-loop-group
invariant-loop-group l =
    bytes_in l.names.items ++ filter is_name (bytes_in (drop l.group-index l.groups))
    ≡ filter is_name (bytes_in l.groups)
