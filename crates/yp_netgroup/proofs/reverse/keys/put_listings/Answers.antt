use Rattle.std.proofs.Common.{◌≡◌, ◌∙◌, ◌++◌, ◌∷◌, suc, ℕ, List, map, drop, drop-cons, ap, sym}
use Rattle.yp_netgroup.specs.declared.reverse.keys.Listing.{Listing}
use Rattle.yp_netgroup.specs.inside.reverse.Links.{source, sources, under}
use Rattle.yp_netgroup.specs.inside.reverse.Listings.{link_of}
use Rattle.yp_netgroup.proofs.reverse.Linking.{piece_more}
use Rattle.yp_netgroup.proofs.reverse.keys.put_listings.Goals as goal

pub loop-listing-preserved : goal.loop-listing-preserved
loop-listing-preserved c = λ key.
    let listings = c.args.listings.now in
    let i = c.loop-listing.listing-index in
    let listing = c.listing-item.result in
    let there : drop i listings ≡ listing ∷ drop (suc i) listings =
    drop-cons listings i listing c.loop-listing-test.true
    ∙ ap (λ (x : Listing). x ∷ drop (suc i) listings) (sym c.listing-item.is) in
    let old = under c.loop-listing.links key in
    let put : under c.put.new.links key ≡ old ++ source key (link_of listing) =
    c.in_ok-put.ensures key
    ∙ ap (λ (name : List ℕ). old ++ source key (name, listing.group.now)) c.deref.ensures.value in
    piece_more link_of (source key) old (under c.put.new.links key) (sources key (map link_of listings)) listings i
    listing there put (c.loop-listing.invariant key)
