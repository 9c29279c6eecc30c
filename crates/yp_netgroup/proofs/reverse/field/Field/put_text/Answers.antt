use Rattle.std.proofs.Common.{◌≡◌, ◌∙◌, ◌++◌, List, map, ap, subst}
use Rattle.std.specs.Prelude.{OnOk}
use Rattle.yp_netgroup.specs.inside.Member.{part_of as member_of}
use Rattle.yp_netgroup.specs.Parts.{Part, parts}
use Rattle.yp_netgroup.specs.inside.reverse.Links.{listing_members}
use Rattle.yp_netgroup.specs.inside.reverse.Listings.{link_of}
use Rattle.yp_netgroup.proofs.reverse.field.Field.put_text.Goals as goal

pub returns : goal.returns
returns c =
    let members : map member_of c.deref.result.now ≡ parts c.args.text.now = ap (map member_of) c.deref.ensures.value
    ∙ c.in_ok-members.ensures in
    subst (λ (ps : List Part). OnOk c.put_keys.result (map link_of c.put_keys.new.listings.items
    ≡ map link_of c.args.listings.now.items ++ listing_members c.args.self ps c.args.group.now)) members
    c.put_keys.ensures
