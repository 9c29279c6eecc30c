use Rattle.std.proofs.Common.{rules, ◌≡◌, ◌<◌, Bool, true, false, List, ℕ, Option, refl, sym, ap, subst, ◌∙◌}
use Rattle.std.specs.Prelude.{is_err}
use Rattle.yp_answer.specs.session.Hosts.{conduct_of}
use Rattle.yp_rpc.specs.inside.Turns.{box_by}
use Rattle.yp_rpc.specs.inside.Turns.{reply_of}
use Rattle.yp_worker.specs.Working.{IsTold}
use Rattle.yp_worker.specs.datagrams.Serving.{reply_posts}
use Rattle.yp_worker.specs.datagrams.Carrying.{Sends}
use Rattle.yp_worker.specs.inside.Mailing.{FaultsRise}
use Rattle.yp_worker.proofs.datagrams.Answering.{answered, reply_is}
use Rattle.yp_worker.proofs.datagrams.Sending.{sends_none}
use Rattle.yp_worker.proofs.datagrams.Carrying.{left_answered, call_done, sent_or_not, rises_at, rises_never}
use Rattle.yp_worker.proofs.datagrams.carrier.answer_left.Goals as goal

pub returns-then-fault : goal.returns-then-fault
returns-then-fault g c =
    let conduct = conduct_of g.H.View.seen g.H.Host.told g.H.Host.counts g.H.View.stepped g.H.Host.made g.H.Host.carried in
    let box = box_by g.I.Inbox in
    let replied = c.reply_to-len.ensures.replied in
    let known = g.H.Front.Known.known c.args.call.front in
    let told : IsTold conduct g.H.CatchUp.counted c.args.host.now c.reach.new.self =
    record { learned = c.reach.ensures.learned; counts = c.reach.ensures.counts; kept = c.reach.ensures.counted } in
    let answers = answered conduct c.args.call.peer replied.0 c.reach.new.self c.reply_to-len.new.host replied.3 replied.5 in
    let same = replied.1 ∙ c.deref.ensures.value in
    let left = left_answered conduct g.H.CatchUp.counted box g.I.Inbox.faults c.args.call.peer c.args.call.message.items known replied.0
    c.args.host.now c.reach.new.self c.reply_to-len.new.host same c.requires.makes c.requires.short told c.reach.ensures.reached answers in
    call_done conduct g.H.CatchUp.counted box g.I.Inbox.faults c.args.call.peer c.args.call.message.items known replied.0 c.args.fault true
    c.args.host.now c.reply_to-len.new.host c.args.inbox.now c.args.inbox.now same left (sends_none refl refl refl) (λ _. refl)
    (rises_never g.I.Inbox.faults c.args.fault true c.args.inbox.now c.args.inbox.now (sym c.if-fault.true) refl)

pub returns-then-len-eq0 : goal.returns-then-len-eq0
returns-then-len-eq0 g c =
    let conduct = conduct_of g.H.View.seen g.H.Host.told g.H.Host.counts g.H.View.stepped g.H.Host.made g.H.Host.carried in
    let box = box_by g.I.Inbox in
    let replied = c.reply_to-len.ensures.replied in
    let known = g.H.Front.Known.known c.args.call.front in
    let told : IsTold conduct g.H.CatchUp.counted c.args.host.now c.reach.new.self =
    record { learned = c.reach.ensures.learned; counts = c.reach.ensures.counts; kept = c.reach.ensures.counted } in
    let answers = answered conduct c.args.call.peer replied.0 c.reach.new.self c.reply_to-len.new.host replied.3 replied.5 in
    let same = replied.1 ∙ c.deref.ensures.value in
    let left = left_answered conduct g.H.CatchUp.counted box g.I.Inbox.faults c.args.call.peer c.args.call.message.items known replied.0
    c.args.host.now c.reach.new.self c.reply_to-len.new.host same c.requires.makes c.requires.short told c.reach.ensures.reached answers in
    let none = replied.2 ∙ ap (λ (n : ℕ). reply_of n c.reply_to-len.new.buf) c.if-len-eq0.true in
    call_done conduct g.H.CatchUp.counted box g.I.Inbox.faults c.args.call.peer c.args.call.message.items known replied.0 c.args.fault false
    c.args.host.now c.reply_to-len.new.host c.args.inbox.now c.args.inbox.now same left
    (subst (λ (r : Option (List ℕ)). Sends (reply_posts c.args.call.peer r) (box c.args.inbox.now) (box c.args.inbox.now)) (sym none)
    (sends_none refl refl refl))
    (λ some. let no : true ≡ false = sym some ∙ c.if-fault.false in cc)
    (rises_never g.I.Inbox.faults c.args.fault false c.args.inbox.now c.args.inbox.now (sym c.if-fault.false) refl)

pub returns : goal.returns
returns g c =
    let conduct = conduct_of g.H.View.seen g.H.Host.told g.H.Host.counts g.H.View.stepped g.H.Host.made g.H.Host.carried in
    let box = box_by g.I.Inbox in
    let replied = c.reply_to-len.ensures.replied in
    let known = g.H.Front.Known.known c.args.call.front in
    let told : IsTold conduct g.H.CatchUp.counted c.args.host.now c.reach.new.self =
    record { learned = c.reach.ensures.learned; counts = c.reach.ensures.counts; kept = c.reach.ensures.counted } in
    let answers = answered conduct c.args.call.peer replied.0 c.reach.new.self c.reply_to-len.new.host replied.3 replied.5 in
    let same = replied.1 ∙ c.deref.ensures.value in
    let left = left_answered conduct g.H.CatchUp.counted box g.I.Inbox.faults c.args.call.peer c.args.call.message.items known replied.0
    c.args.host.now c.reach.new.self c.reply_to-len.new.host same c.requires.makes c.requires.short told c.reach.ensures.reached answers in
    let more : 0 < c.reply_to-len.result.0 = search rules in
    let some = replied.2 ∙ reply_is c.reply_to-len.result.0 c.reply_to-len.new.buf more in
    let sent = c.send.ensures in
    rw c.is_err.ensures.value (call_done conduct g.H.CatchUp.counted box g.I.Inbox.faults c.args.call.peer c.args.call.message.items known replied.0 c.args.fault
    (is_err c.send.result) c.args.host.now c.reply_to-len.new.host c.args.inbox.now c.send.new.self same left
    (sent_or_not c.send.result c.args.call.peer _ replied.0.answer (box c.args.inbox.now) (box c.send.new.self) some sent.sent sent.none
    sent.turns sent.quiets)
    (λ some. let no : true ≡ false = sym some ∙ c.if-fault.false in cc)
    (subst (λ (b : Bool). FaultsRise b (is_err c.send.result) (g.I.Inbox.faults c.args.inbox.now) (g.I.Inbox.faults c.send.new.self)) (sym c.if-fault.false)
    (rises_at g.I.Inbox.faults c.send.result c.args.inbox.now c.send.new.self sent.cause.never_falls sent.cause.risen)))
