use Rattle.std.proofs.Common.{◌≡◌, ◌++◌, map, drop}
use Rattle.yp_netgroup.specs.inside.reverse.Links.{listing}
use Rattle.yp_netgroup.specs.inside.reverse.Listings.{link_of}
use Rattle.yp_netgroup.proofs.reverse.field.Field.put_texts.Given as goal

abbrev pub invariant-loop-i : goal.invariant-loop-i
invariant-loop-i l =
    map link_of l.listings.items ++ listing l.self (drop l.i l.netgroup.rows) ≡ listing l.self l.netgroup.rows
