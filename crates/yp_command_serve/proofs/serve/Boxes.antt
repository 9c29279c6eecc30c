-- What further inboxes tell, and behind them that of an office.
use Rattle.std.proofs.Common.{◌≡◌, ◌⊎◌, inl, inr, ℕ, Bool, List, [], ◌∷◌, ◌++◌, length, map, refl, ap, ◌∙◌, arith}
use Rattle.std.proofs.lemmas.List.{map-append}
use Rattle.yp_io.specs.Counts.{HasRisen}
use Rattle.yp_io.specs.declared.inbox.Inbox as inbox
use Rattle.yp_rpc.specs.Turns.{InboxTells}
use Rattle.yp_rpc.specs.inside.Turns.{box_by}
use Rattle.yp_worker.specs.datagrams.Mailing.{Deferred}
use Rattle.yp_server.specs.Serving.{MailService, EachServes, ServesInboxes, SomeHasRisen}
use Rattle.yp_command_serve.specs.serve.Hosting.{EndTells, end_by}

module _ {I : Type 0} (seen : inbox.Ghosts I) where
  boxes_of : (more : List I) → map (box_by seen) more ≡ map (λ (end : EndTells). end.box) (map (end_by seen) more)
  boxes_of [] = refl
  boxes_of (i ∷ is) = ap (λ (l : List InboxTells). box_by seen i ∷ l) (boxes_of is)

  faults_of : (more : List I) → map seen.faults more ≡ map (λ (end : EndTells). end.faults) (map (end_by seen) more)
  faults_of [] = refl
  faults_of (i ∷ is) = ap (λ (l : List ℕ). seen.faults i ∷ l) (faults_of is)

  -- what all of them tell
  pub boxes_are : (all more : List I) (inbox : I) → all ≡ more ++ inbox ∷ []
      → map (box_by seen) all ≡ map (λ (end : EndTells). end.box) (map (end_by seen) more) ++ box_by seen inbox ∷ []
  boxes_are all more inbox is =
      ap (map (box_by seen)) is ∙ map-append (box_by seen) more (inbox ∷ [])
      ∙ ap (λ (l : List InboxTells). l ++ box_by seen inbox ∷ []) (boxes_of more)

  pub faults_are : (all more : List I) (inbox : I) → all ≡ more ++ inbox ∷ []
      → map seen.faults all ≡ map (λ (end : EndTells). end.faults) (map (end_by seen) more) ++ seen.faults inbox ∷ []
  faults_are all more inbox is =
      ap (map seen.faults) is ∙ map-append seen.faults more (inbox ∷ [])
      ∙ ap (λ (l : List ℕ). l ++ seen.faults inbox ∷ []) (faults_of more)

-- as many inboxes come back as were served
each_long : {H T : Type 0} (service : MailService H T) (fault : Bool) (before after : List InboxTells) (left : List Deferred)
    → EachServes service fault before after left → length after ≡ length before
each_long service fault [] [] left serves = refl
each_long service fault [] (new ∷ after) left serves = absurd serves
each_long service fault (old ∷ before) [] left serves = absurd serves
each_long service fault (old ∷ before) (new ∷ after) left
    (failed, others, is, left_here, left_there, left_is, one, rest) =
    let long = each_long service others before after left_there rest in
    omega (arith, long)

pub served_long : {H T : Type 0} (service : MailService H T) (fault : Bool) (before after : List InboxTells)
    (out out' : InboxTells) → ServesInboxes service fault before after out out' → length after ≡ length before
served_long service fault before after out out' serves =
    each_long service serves.failed before after serves.left serves.each

-- where one of all counts rose, the last did, or one before it
pub last_or_before : (olds news : List ℕ) (old new : ℕ) → length news ≡ length olds
    → SomeHasRisen (olds ++ old ∷ []) (news ++ new ∷ []) → HasRisen old new ⊎ SomeHasRisen olds news
last_or_before [] [] old new long (inl rose) = inl rose
last_or_before [] [] old new long (inr none) = absurd none
last_or_before [] (y ∷ ys) old new long some = absurd (omega (arith, long))
last_or_before (x ∷ xs) [] old new long some = absurd (omega (arith, long))
last_or_before (x ∷ xs) (y ∷ ys) old new long (inl rose) = inr (inl rose)
last_or_before (x ∷ xs) (y ∷ ys) old new long (inr some) = elim (last_or_before xs ys old new (omega (arith, long)) some) [
  | inl rose ↦ inl rose
  | inr others ↦ inr (inr others)
]
