use Rattle.std.proofs.Common.{◌≡◌, ◌++◌, drop}
use Rattle.std.specs.Prelude.{flat_map}
use Rattle.std.specs.List.{join_with_byte}
use Rattle.yp_netgroup.specs.inside.reverse.Links.{bytes_in}
use Rattle.yp_netgroup.proofs.reverse.Joining.{comma}
use Rattle.yp_netgroup.proofs.reverse.groups.put_commas.Given as goal

abbrev pub invariant-loop-name : goal.invariant-loop-name
invariant-loop-name l =
    l.value.items ++ flat_map comma (bytes_in (drop l.name-index l.rest)) ≡ join_with_byte 44 (bytes_in l.names)
