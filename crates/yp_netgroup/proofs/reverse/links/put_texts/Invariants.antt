use Rattle.std.proofs.Common.{◌≡◌, ◌++◌, ℕ, List, drop}
use Rattle.yp_netgroup.specs.inside.reverse.Links.{sources, under, naming}
use Rattle.yp_netgroup.proofs.reverse.links.put_texts.Given as goal

abbrev pub invariant-loop-i : goal.invariant-loop-i
invariant-loop-i l =
    (name : List ℕ) → under l.links name ++ sources name (naming (drop l.i l.netgroup.rows))
    ≡ sources name (naming l.netgroup.rows)
