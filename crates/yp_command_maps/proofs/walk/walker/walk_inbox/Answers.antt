use Rattle.std.proofs.Common.{ℕ, List, ap, ◌∙◌}
use Rattle.yp_rpc.specs.inside.Turns.{box_by}
use Rattle.yp_transfer.specs.Fetching.{wanted_of}
use Rattle.yp_transfer.specs.walk.Schedules.{begun}
use Rattle.yp_command_maps.proofs.walk.Standing.{walks_begun, walks_lost}
use Rattle.yp_command_maps.proofs.walk.walker.walk_inbox.Goals as goal

pub returns-in-Ok-take_turns-clause-walks : goal.returns-in-Ok-take_turns-clause-walks
returns-in-Ok-take_turns-clause-walks g c =
    let xfr = c.args.job.now.xfr in
    let peer = xfr.host.peer in
    let wanted = wanted_of xfr.store.domain.items xfr.store.map.items c.args.shown xfr.force in
    let before = box_by g.I.Inbox c.args.inbox.now in
    let after = box_by g.I.Inbox c.take_turns.new.inbox in
    (walks_begun peer wanted c.args.job.now.turns c.in-Ok-take_turns.field-0 c.in-Ok.walk c.take_turns.new.handler before
    after c.came.result
    (c.in-Ok.ensures.0
    ∙ ap (λ (d : List ℕ). begun peer (wanted_of d c.deref-2.result.now c.args.shown xfr.force)) c.deref.ensures.value
    ∙ ap (λ (m : List ℕ). begun peer (wanted_of xfr.store.domain.items m c.args.shown xfr.force)) c.deref-2.ensures.value)
    c.in-Ok-take_turns.ensures.takes (c.came.ensures c.in-Ok-take_turns.field-0)).0

pub returns-in-Ok-take_turns-clause-cause : goal.returns-in-Ok-take_turns-clause-cause
returns-in-Ok-take_turns-clause-cause g c = λ e.
    let xfr = c.args.job.now.xfr in
    let peer = xfr.host.peer in
    let wanted = wanted_of xfr.store.domain.items xfr.store.map.items c.args.shown xfr.force in
    let before = box_by g.I.Inbox c.args.inbox.now in
    let after = box_by g.I.Inbox c.take_turns.new.inbox in
    absurd ((walks_begun peer wanted c.args.job.now.turns c.in-Ok-take_turns.field-0 c.in-Ok.walk c.take_turns.new.handler
    before after c.came.result
    (c.in-Ok.ensures.0
    ∙ ap (λ (d : List ℕ). begun peer (wanted_of d c.deref-2.result.now c.args.shown xfr.force)) c.deref.ensures.value
    ∙ ap (λ (m : List ℕ). begun peer (wanted_of xfr.store.domain.items m c.args.shown xfr.force)) c.deref-2.ensures.value)
    c.in-Ok-take_turns.ensures.takes (c.came.ensures c.in-Ok-take_turns.field-0)).1 e)

pub returns-in-Err-clause-walks : goal.returns-in-Err-clause-walks
returns-in-Err-clause-walks g c =
    let xfr = c.args.job.now.xfr in
    let peer = xfr.host.peer in
    let wanted = wanted_of xfr.store.domain.items xfr.store.map.items c.args.shown xfr.force in
    let before = box_by g.I.Inbox c.args.inbox.now in
    let after = box_by g.I.Inbox c.take_turns.new.inbox in
    walks_lost peer wanted c.args.job.now.turns c.in-Err.field-0 c.in-Ok.walk c.take_turns.new.handler before after
    (c.in-Ok.ensures.0
    ∙ ap (λ (d : List ℕ). begun peer (wanted_of d c.deref-2.result.now c.args.shown xfr.force)) c.deref.ensures.value
    ∙ ap (λ (m : List ℕ). begun peer (wanted_of xfr.store.domain.items m c.args.shown xfr.force)) c.deref-2.ensures.value)
    c.in-Err.ensures.takes
