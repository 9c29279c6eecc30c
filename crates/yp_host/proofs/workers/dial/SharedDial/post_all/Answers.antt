use Rattle.std.proofs.Common.{◌+◌, List, sym, ap, ◌∙◌, subst}
use Rattle.std.proofs.lemmas.List.{append-nil}
use Rattle.yp_host.specs.workers.Wires.{BeginsWithOrder, IsGood}
use Rattle.yp_host.proofs.workers.Dialing.{same_wires}
use Rattle.yp_host.proofs.workers.Sourcing.{same_sources}
use Rattle.yp_host.proofs.workers.Noting.{all_same}
use Rattle.yp_host.proofs.workers.Telling.{past_stays, faults_stay}
use Rattle.yp_transfer.specs.inside.Dials.{dial_by}
use Rattle.yp_host.specs.declared.workers.call_backs.CallBack.{CallBack}
use Rattle.yp_host.specs.inside.workers.CallBacks.{HeldCallBacks}
use Rattle.yp_host.specs.workers.Uses.{IsUsedForTransfers}
use Rattle.yp_host.specs.inside.workers.Uses.{dial_told}
use Rattle.yp_host.proofs.workers.Using.{used_told}
use Rattle.yp_host.proofs.workers.dial.SharedDial.post_all.Goals as goal

pub invariant_of-self : goal.invariant_of-self
invariant_of-self g c =
    let tells = dial_by g.A.Dial in
    let told = c.tell_waiting.ensures.told in
    let first = dial_told g.S.Supplies.wires g.S.Supplies.letters g.S.Supplies.dial_faults in
    let old = tells c.self.inside.dialer.dial in
    let new = tells c.tell_waiting.new.dial in
    let past = past_stays told.more old new told.in_turn in
    let stays = faults_stay told.more old new told.in_turn in (
      c.self.invariant.0,
      same_wires BeginsWithOrder g.S.Supplies.wires _ _ _ past c.self.invariant.1,
      same_sources g.S.Supplies.wires _ _ g.S.Supplies.dial_faults _ _ _ past stays c.self.invariant.2,
      same_wires IsGood g.S.Supplies.wires _ _ _ past c.self.invariant.3,
      all_same g.S.Supplies.wires _ _ c.self.inside.fetches past c.self.invariant.4,
      subst (λ (l : List CallBack). IsUsedForTransfers g.S.Supplies.hosts g.S.Site.catalogue.maps l first new)
          (sym (ap (λ (h : HeldCallBacks). h.took) told.takes))
          (used_told g.S.Supplies.hosts g.S.Site.catalogue.maps told.more c.self.inside.call_backs.took first old new
          c.self.invariant.5 told.in_turn),
      ap (λ (h : HeldCallBacks). h.queue) told.takes ∙ c.self.invariant.6,
      ap (λ (h : HeldCallBacks). h.left) told.takes ∙ append-nil c.self.inside.call_backs.left ∙ c.self.invariant.7,
      ap (λ (h : HeldCallBacks). h.parts + g.S.Accounts.shares) told.takes ∙ c.self.invariant.8,
    )

pub returns : goal.returns
returns g c = (c.tell_waiting.ensures.told.more, rw (← c.self.view_is) c.tell_waiting.ensures.told.in_turn)
