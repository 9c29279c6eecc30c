use Rattle.std.proofs.Common.{rules, arith, ◌≡◌, ◌≤◌, ◌∙◌, ◌++◌, length, take, drop, sym, subst, ap}
use Rattle.std.proofs.lemmas.List.{take_at}
use Rattle.std.proofs.lemmas.Grind.{common_steps}
use Rattle.yp_board.specs.Catalogues.{Catalogue}
use Rattle.yp_answer.specs.session.Hosts.{conduct_of}
use Rattle.yp_rpc.specs.Turns.{datagram_max}
use Rattle.yp_rpc.specs.inside.Turns.{box_by}
use Rattle.yp_worker.specs.inside.Mailing.{DoesLeft, carrier_state}
use Rattle.yp_worker.specs.inside.Queues.{IsReady, deferred_as}
use Rattle.yp_worker.proofs.datagrams.Carrying.{still_on, done_on, done_keeps}
use Rattle.yp_worker.proofs.datagrams.carrier.Carrier.carry_oldest.Goals as goal

pub returns-in_default-clause-carries : goal.returns-in_default-clause-carries
returns-in_default-clause-carries g c =
    let conduct = conduct_of g.H.View.seen g.H.Host.told g.H.Host.counts g.H.View.stepped g.H.Host.made g.H.Host.carried in
    let same : c.oldest.new.pass ≡ c.self.inside.pass = search rules in
    rw (← c.self.view_is) (still_on conduct g.H.CatchUp.counted (box_by g.I.Inbox) g.I.Inbox.faults _ _ _ _ _ same)

pub returns-clause-carries : goal.returns-clause-carries
returns-clause-carries g c =
    let conduct = conduct_of g.H.View.seen g.H.Host.told g.H.Host.counts g.H.View.stepped g.H.Host.made g.H.Host.carried in
    let does = subst (λ d. DoesLeft conduct g.H.CatchUp.counted d
    (carrier_state (box_by g.I.Inbox) g.I.Inbox.faults c.self.inside.host c.self.inside.inbox c.self.inside.fault)
    (carrier_state (box_by g.I.Inbox) g.I.Inbox.faults c.carry_out-self-inside.new.host c.carry_out-self-inside.new.inbox c.carry_out-self-inside.result))
    c.into_work.ensures c.carry_out-self-inside.ensures in
    rw (← c.self.view_is) (done_on conduct g.H.CatchUp.counted (box_by g.I.Inbox) g.I.Inbox.faults c.in-Some.deferred _ _ does c.in-Some.ensures.one.0)

pub invariant_of-self-2 : goal.invariant_of-self-2
invariant_of-self-2 g c =
    let conduct = conduct_of g.H.View.seen g.H.Host.told g.H.Host.counts g.H.View.stepped g.H.Host.made g.H.Host.carried in
    let kept = done_keeps conduct g.H.CatchUp.counted (box_by g.I.Inbox) g.I.Inbox.faults _ _
    (carrier_state (box_by g.I.Inbox) g.I.Inbox.faults c.carry_out-self-inside.new.host c.carry_out-self-inside.new.inbox c.carry_out-self-inside.result)
    c.carry_out-self-inside.ensures in
    let letter = c.self.inside.letter in
    let buf = c.carry_out-self-inside.new.buf in
    let size : length buf ≡ letter.len = grind (arith, common_steps) in
    let whole : take letter.len (buf ++ drop (length buf) letter.items) ≡ buf =
    take_at buf (drop (length buf) letter.items) letter.len size in
    let long : datagram_max ≤ length buf = search rules in
    (kept ∙ c.self.invariant.0, ap (λ h. h.queue) c.in-Some.ensures.one.0 ∙ c.self.invariant.1, rw whole long)

pub carry_out-self-inside-requires-clause-ready : goal.carry_out-self-inside-requires-clause-ready
carry_out-self-inside-requires-clause-ready g c =
    subst (λ (k : Catalogue). IsReady (length k.maps) (deferred_as g.F.Known.known c.into_work.result)) (sym c.self.invariant.0)
    (subst (IsReady (length g.J.Site.catalogue.maps)) (sym c.into_work.ensures) c.in-Some.ensures.one.1)
