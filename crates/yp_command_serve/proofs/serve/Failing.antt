-- Where an inbox of several has failed, that of the office has, or one at the doors.
use Rattle.std.proofs.Common.{◌≡◌, inl, inr, true, List, [], ◌∷◌, ◌++◌, length, map, Result, Ok, Err, ap, sym, ◌∙◌, subst, arith}
use Rattle.std.specs.Prelude.{IfOk}
use Rattle.std.proofs.lemmas.List.{length-map, length_push}
use Rattle.yp_io.specs.declared.inbox.Inbox as inbox
use Rattle.yp_server.specs.Serving.{SomeHasRisen}
use Rattle.yp_command.specs.office.Seeing.{Seeing}
use Rattle.yp_command_serve.specs.declared.serve.resources.NotHosted.{NotHosted}
use Rattle.yp_command_serve.specs.declared.serve.tally.Hosted.{Hosted}
use Rattle.yp_command_serve.specs.serve.Hosting.{EndTells, OutsideTells, end_by}
use Rattle.yp_command_serve.specs.serve.Serve.{SomeInboxFails}
use Rattle.yp_command_serve.proofs.serve.Boxes.{faults_are, last_or_before}

module _ {S K D C A I T : Type 0} (seen : Seeing S K D C A I T) (old new : OutsideTells S K D C A I T) where
  failing : (all all' more more' : List I) (out out' : I) → all ≡ more ++ old.office.inbox ∷ [] → all' ≡ more' ++ new.office.inbox ∷ [] → length all' ≡ length all
      → old.doors.more ≡ map (end_by seen.inbox) more → new.doors.more ≡ map (end_by seen.inbox) more'
      → old.doors.out ≡ end_by seen.inbox out → new.doors.out ≡ end_by seen.inbox out'
      → SomeHasRisen (map seen.inbox.faults (out ∷ all)) (map seen.inbox.faults (out' ∷ all')) → SomeInboxFails seen old new
  failing all all' more more' out out' is is' long tells tells' of of' (inl rose) =
      inr (inl (rw (of, of') rose))
  failing all all' more more' out out' is is' long tells tells' of of' (inr some) =
      let olds = map (λ (end : EndTells). end.faults) (map (end_by seen.inbox) more) in
      let news = map (λ (end : EndTells). end.faults) (map (end_by seen.inbox) more') in
      let apart = subst (λ l. SomeHasRisen l (news ++ seen.inbox.faults new.office.inbox ∷ [])) (faults_are seen.inbox all more old.office.inbox is)
      (subst (λ l. SomeHasRisen (map seen.inbox.faults all) l) (faults_are seen.inbox all' more' new.office.inbox is') some) in
      let a = ap length is in
      let b = ap length is' in
      let c = length_push more old.office.inbox in
      let d = length_push more' new.office.inbox in
      let e = length-map (map (end_by seen.inbox) more) (λ (end : EndTells). end.faults) ∙ length-map more (end_by seen.inbox) in
      let f = length-map (map (end_by seen.inbox) more') (λ (end : EndTells). end.faults) ∙ length-map more' (end_by seen.inbox) in
      let same : length news ≡ length olds = omega (arith, a, b, c, d, e, f, long) in
      elim (last_or_before olds news (seen.inbox.faults old.office.inbox) (seen.inbox.faults new.office.inbox) same apart) [
        | inl rose ↦ inl rose
        | inr others ↦ inr (inr (subst (λ (l : List EndTells). SomeHasRisen (map (λ (end : EndTells). end.faults) old.doors.more) (map (λ (end : EndTells). end.faults) l)) (sym tells')
            (subst (λ (l : List EndTells). SomeHasRisen (map (λ (end : EndTells). end.faults) l) news) (sym tells) others)))
      ]

  pub some_fails : (hosted : Result Hosted NotHosted) (all all' more more' : List I) (out out' : I) → all ≡ more ++ old.office.inbox ∷ [] → all' ≡ more' ++ new.office.inbox ∷ []
      → length all' ≡ length all → old.doors.more ≡ map (end_by seen.inbox) more → new.doors.more ≡ map (end_by seen.inbox) more'
      → old.doors.out ≡ end_by seen.inbox out → new.doors.out ≡ end_by seen.inbox out'
      → IfOk hosted (λ h. h.inbox_fault ≡ true → SomeHasRisen (map seen.inbox.faults (out ∷ all)) (map seen.inbox.faults (out' ∷ all')))
      → IfOk hosted (λ h. h.inbox_fault ≡ true → SomeInboxFails seen old new)
  some_fails (Ok h) all all' more more' out out' is is' long tells tells' of of' some = λ fault.
      failing all all' more more' out out' is is' long tells tells' of of' (some fault)
  some_fails (Err why) all all' more more' out out' is is' long tells tells' of of' some = tt
