-- A `Listing` as contracts see it.
use Rattle.yp_netgroup.specs.declared.reverse.keys.Listing.{Listing}
use Rattle.yp_netgroup.specs.inside.reverse.Links.{Link}

-- its key, and the group under it
abbrev pub link_of : Listing → Link
link_of listing = (listing.key.items, listing.group.now)
