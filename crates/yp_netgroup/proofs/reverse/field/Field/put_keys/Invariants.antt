use Rattle.std.proofs.Common.{◌≡◌, ◌++◌, map, drop}
use Rattle.yp_netgroup.specs.inside.Member.{part_of}
use Rattle.yp_netgroup.specs.inside.reverse.Links.{listing_members}
use Rattle.yp_netgroup.specs.inside.reverse.Listings.{link_of}
use Rattle.yp_netgroup.proofs.reverse.field.Field.put_keys.Given as goal

abbrev pub invariant-loop-member : goal.invariant-loop-member
invariant-loop-member l =
    map link_of l.listings.items ++ listing_members l.self (map part_of (drop l.member-index l.members)) l.group
    ≡ map link_of l.initial.listings.items ++ listing_members l.self (map part_of l.members) l.group
