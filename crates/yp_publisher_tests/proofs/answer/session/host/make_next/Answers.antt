use Rattle.std.proofs.Common.{◌≡◌, ◌++◌, ◌∷◌, [], ℕ, None, subst, sym, ap, ◌∙◌}
use Rattle.yp_messages.specs.declared.transfer.XfrStat.{XfrStat}
use Rattle.yp_messages.specs.declared.transfer.XfrStat.TheVariants.{Succ}
use Rattle.yp_answer.specs.declared.make.Making.{Making}
use Rattle.yp_version.specs.Versions.{MapVersion}
use Rattle.yp_answer.specs.Causes.{IsCaused}
use Rattle.yp_publisher_tests.proofs.Making.{shown_anew}
use Rattle.yp_publisher_tests.proofs.answer.session.host.make_next.Goals as goal
use Rattle.yp_publisher_tests.proofs.answer.session.host.make_next.Goals.{in-Ok-show, in-Err-show}

pub returns-clause-caused : goal.returns-clause-caused
returns-clause-caused c =
    let served = c.args.board.now.catalogue in
    let old = c.args.board.now.known in
    let new = c.show.new.self.known in
    let job = c.args.job in
    elim c.match-show.branch [
      | in-Ok-show w ↦
          subst (λ (stat : XfrStat). IsCaused (record { text = λ file. None; moment = None }) served job stat old new) (sym w.result-is)
          (subst (λ (m : Making). IsCaused (record { text = λ file. None; moment = None }) served (record job { making = m }) Succ old new) (sym c.requires.read)
          (shown_anew served job.map c.args.reading old c.in-Ok.version new c.in-Ok.ensures.built (w.in-Ok-show.ensures.log ∙ ap (λ (version : MapVersion). old ++ (job.map, version) ∷ []) c.in-Ok-new.ensures.ok)))
      | in-Err-show w ↦ subst (λ (stat : XfrStat). IsCaused (record { text = λ file. None; moment = None }) served job stat old new) (sym w.result-is) tt
    ]
