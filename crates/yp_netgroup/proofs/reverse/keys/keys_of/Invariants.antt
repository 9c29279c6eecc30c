use Rattle.std.proofs.Common.{◌≡◌, ◌++◌, map, drop}
use Rattle.yp_netgroup.specs.declared.reverse.keys.Listing.{Listing}
use Rattle.yp_netgroup.specs.inside.reverse.Links.{bytes_in}
use Rattle.yp_netgroup.proofs.reverse.keys.keys_of.Given as goal

abbrev pub invariant-loop-listing : goal.invariant-loop-listing
invariant-loop-listing l =
    bytes_in l.keys.items ++ map (λ (listing : Listing). listing.key.items) (drop l.listing-index l.listings)
    ≡ map (λ (listing : Listing). listing.key.items) l.listings
