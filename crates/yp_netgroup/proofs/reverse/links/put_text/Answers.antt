use Rattle.std.proofs.Common.{◌≡◌, ◌∙◌, ◌++◌, ℕ, List, map, ap, subst}
use Rattle.std.specs.Prelude.{OnOk}
use Rattle.yp_netgroup.specs.inside.Member.{part_of}
use Rattle.yp_netgroup.specs.Parts.{Part, names, parts}
use Rattle.yp_netgroup.specs.inside.reverse.Links.{sources, under}
use Rattle.yp_netgroup.proofs.reverse.links.put_text.Goals as goal

pub returns : goal.returns
returns c =
    let members : map part_of c.deref.result.now ≡ parts c.args.text.now = ap (map part_of) c.deref.ensures.value
    ∙ c.in_ok-members.ensures in
    subst (λ (ps : List Part). OnOk c.put_names.result ((name : List ℕ) → under c.put_names.new.links name
    ≡ under c.args.links.now name ++ sources name (map (λ name. (name, c.args.group.now)) (names ps)))) members
    c.put_names.ensures
