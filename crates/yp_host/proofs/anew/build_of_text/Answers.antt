use Rattle.std.proofs.Common.{Err, ap, ◌∙◌, ◌≡◌, List, ℕ, IfSome, subst, rules}
use Rattle.yp_texts.specs.After.{material_of}
use Rattle.yp_texts.specs.declared.after.AfterFault.TheVariants.{Build}
use Rattle.yp_host.specs.Locals.{told_of}
use Rattle.yp_host.proofs.Building.{unbuilt}
use Rattle.yp_host.proofs.anew.build_of_text.Goals as goal

pub returns-in-Ok-clause-anew : goal.returns-in-Ok-clause-anew
returns-in-Ok-clause-anew g c =
    let text = c.in_ok-text.text.items in
    record {
      material = material_of text c.now-moment.result;
      of_told = record {
        text = subst (λ (name : List ℕ). IfSome (g.T.Texts.text c.args.texts.now name) (λ told. text ≡ told))
            c.source_name-name.ensures c.in_ok-text.ensures.text;
        moment = c.now-moment.ensures.told;
      };
      built = search rules;
    }

pub returns-in-Err-Build-clause-unbuilt : goal.returns-in-Err-Build-clause-unbuilt
returns-in-Err-Build-clause-unbuilt g c =
    let text = c.in_ok-text.text.items in
    rw c.build_stat.ensures (unbuilt (told_of g.T.Texts g.C.Clock c.args.texts.now c.args.clock.now) _ _ _ _ _ _
    (material_of text c.now-moment.result) c.requires.same
    (record {
      text = subst (λ (name : List ℕ). IfSome (g.T.Texts.text c.args.texts.now name) (λ told. text ≡ told))
          c.source_name-name.ensures c.in_ok-text.ensures.text;
      moment = c.now-moment.ensures.told;
    }) c.in-Err-Build.fault (search rules)
    (λ e. c.in-Err-Build.ensures.spent (ap Err (c.in-Err-Build.field-0-is ∙ ap Build e))))
