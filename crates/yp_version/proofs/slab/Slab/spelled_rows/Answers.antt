use Rattle.std.proofs.Common.{ℕ, List, sym, subst}
use Rattle.yp_version.specs.inside.Slabs.{AreRowsAt}
use Rattle.yp_version.proofs.Packing.{slab_spelled}
use Rattle.yp_version.proofs.slab.Slab.spelled_rows.Goals as goal

pub new-requires : goal.new-requires
new-requires c =
    subst (λ (l : List ℕ). AreRowsAt l c.deref-2.result.now) (sym c.deref.ensures.value)
    (subst (λ (l : List ℕ). AreRowsAt c.self.inside.bytes.items l) (sym c.deref-2.ensures.value) (slab_spelled c.self.inside c.self.invariant))
