use Rattle.std.proofs.Common.{ℕ, List, Contains, subst}
use Rattle.std.specs.Prelude.{◌↔◌}
use Rattle.yp_netgroup.specs.inside.reverse.Links.{bytes_in}
use Rattle.yp_netgroup.proofs.reverse.groups.names_of.Goals as goal

pub returns-clause-same : goal.returns-clause-same
returns-clause-same c =
    subst (λ names. (name : List ℕ) → Contains (bytes_in c.rising.result.items) name ↔ Contains names name)
    c.in_ok-put_names.ensures c.rising.ensures.same
