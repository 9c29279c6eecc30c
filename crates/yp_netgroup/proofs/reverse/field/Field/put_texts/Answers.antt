use Rattle.std.proofs.Common.{◌∙◌, ◌++◌, ◌+◌, List, map, drop, ap, sym, append_assoc}
use Rattle.yp_version.specs.Rows.{Row}
use Rattle.yp_netgroup.specs.Parts.{parts}
use Rattle.yp_netgroup.specs.inside.reverse.Links.{Link, listing, listing_members}
use Rattle.yp_netgroup.specs.inside.reverse.Listings.{link_of}
use Rattle.yp_netgroup.proofs.reverse.Linking.{drop_at}
use Rattle.yp_netgroup.proofs.reverse.field.Field.put_texts.Goals as goal

pub loop-i-preserved : goal.loop-i-preserved
loop-i-preserved c =
    let row : Row = (c.in-Some.group.now, c.in-Some.text.now) in
    let rows = c.args.netgroup.now.rows in
    let old = map link_of c.loop-i.listings.items in
    let here = listing_members c.args.self (parts row.1) row.0 in
    let rest = listing c.args.self (drop (c.loop-i.i + 1) rows) in
    ap (λ (l : List Link). l ++ rest) c.in_ok-put_text.ensures ∙ append_assoc old here rest
    ∙ ap (λ (left : List Row). old ++ listing c.args.self left) (sym (drop_at rows c.loop-i.i row (sym
    c.in-Some.ensures.row)))
    ∙ c.loop-i.invariant
