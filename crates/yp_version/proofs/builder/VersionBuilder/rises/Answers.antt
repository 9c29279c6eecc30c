use Rattle.std.proofs.Common.{◌≡◌, ◌++◌, ◌∷◌, [], true, None, ◌∙◌, sym, subst}
use Rattle.yp_version.specs.Drafts.{Draft}
use Rattle.yp_version.specs.Rows.{IsRising, value_of}
use Rattle.yp_version.specs.inside.Rows.{is_over_last}
use Rattle.yp_version.proofs.Rising.{over_rises, over_is_new}
use Rattle.yp_version.proofs.builder.VersionBuilder.rises.Goals as goal

pub returns-then-self-clause-rising : goal.returns-then-self-clause-rising
returns-then-self-clause-rising c = λ t.
    let over : is_over_last c.args.key.now c.self.inside.slab.rows ≡ true = sym c.is_over.ensures ∙ t in
    subst (λ (d : Draft). IsRising (d.rows ++ (c.args.key.now, []) ∷ [])) c.self.view_is
    (over_rises c.self.inside.slab.rows c.args.key.now (c.self.invariant.rising c.if-self.true) over)

pub returns-then-self-clause-absent : goal.returns-then-self-clause-absent
returns-then-self-clause-absent c = λ t.
    let over : is_over_last c.args.key.now c.self.inside.slab.rows ≡ true = sym c.is_over.ensures ∙ t in
    subst (λ (d : Draft). value_of c.args.key.now d.rows ≡ None) c.self.view_is
    (over_is_new c.self.inside.slab.rows c.args.key.now (c.self.invariant.rising c.if-self.true) over)
