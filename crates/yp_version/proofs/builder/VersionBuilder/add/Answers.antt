use Rattle.std.proofs.Common.{◌≡◌, ◌++◌, ◌∷◌, [], None, sym, subst}
use Rattle.yp_version.specs.Drafts.{Draft, refused_new}
use Rattle.yp_version.specs.Rows.{IsRising, value_of}
use Rattle.yp_version.proofs.Drafted.{grown_kept}
use Rattle.yp_version.proofs.Rising.{rising_by_key}
use Rattle.yp_version.proofs.builder.VersionBuilder.add.Goals as goal

pub invariant_of-self-2 : goal.invariant_of-self-2
invariant_of-self-2 c =
    grown_kept c.self.inside c.push.new.self c.args.rises (c.args.key.now, c.args.value.now) c.self.invariant c.requires.key c.requires.value
    (subst (λ (draft : Draft). value_of c.args.key.now draft.rows ≡ None) (sym c.self.view_is) c.requires.absent)
    (subst (λ (draft : Draft). refused_new draft (c.args.key.now, c.args.value.now) ≡ None) (sym c.self.view_is) c.requires.fits)
    (λ rises. rising_by_key c.self.inside.slab.rows c.args.key.now [] c.args.value.now
    (subst (λ (draft : Draft). IsRising (draft.rows ++ (c.args.key.now, []) ∷ [])) (sym c.self.view_is) (c.requires.rising rises)))
    c.in_ok-push.ensures.ok
