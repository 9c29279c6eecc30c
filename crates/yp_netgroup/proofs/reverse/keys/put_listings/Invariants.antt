use Rattle.std.proofs.Common.{◌≡◌, ◌++◌, ℕ, List, map, drop}
use Rattle.yp_netgroup.specs.inside.reverse.Links.{sources, under}
use Rattle.yp_netgroup.specs.inside.reverse.Listings.{link_of}
use Rattle.yp_netgroup.proofs.reverse.keys.put_listings.Given as goal

abbrev pub invariant-loop-listing : goal.invariant-loop-listing
invariant-loop-listing l = (key : List ℕ)
    → under l.links key ++ sources key (map link_of (drop l.listing-index l.listings))
    ≡ sources key (map link_of l.listings)
