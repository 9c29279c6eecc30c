use Rattle.std.proofs.Common.{◌≡◌, ap, ◌∙◌, take}
use Rattle.yp_answer.specs.session.Hosts.{conduct_of}
use Rattle.yp_answer.specs.inside.session.Cuts.{rest_of}
use Rattle.yp_answer.proofs.session.Cutting.{goes_answered}
use Rattle.yp_answer.proofs.session.Talking.{answers_of}
use Rattle.yp_answer.proofs.session.conversation.Conversation.answer.Goals as goal

pub returns-clause-goes : goal.returns-clause-goes
returns-clause-goes g c =
    let conduct = conduct_of g.H.View.seen g.H.Host.told g.H.Host.counts g.H.View.stepped g.H.Host.made g.H.Host.carried in
    let put = c.put_reply-put.ensures.put in
    let sound = rw (← c.self.view_is) at c.requires.sound in
    let whole = rw (← c.self.view_is) at c.requires.whole in
    let free = rw (← c.self.view_is) at c.requires.free in
    let is = rw (← c.self.view_is) at c.requires.record in
    let puts = rw c.hold.ensures at put.5 in
    let message : put.0.message ≡ take c.args.len c.args.buffers.now = put.1 ∙ ap (take c.args.len) (c.deref.ensures.value ∙ c.buffers.view_is) in
    rw (← c.self.view_is) (goes_answered conduct c.args.terms.now.peer c.args.terms.now.carries put.0 c.args.host.now c.put_reply-put.new.host _ _ sound (ap rest_of whole) free put.2 put.4 (λ none. rw message (c.requires.brief none))
    c.put_reply-put.ensures.sees (answers_of g.S.TrySource g.K.TrySink _ put.0 c.args.len c.args.spelled c.args.buffers.now c.put_reply-put.new.sink.sink
    c.saturating_add-self-inside.result c.saturating_add-self-inside-2.result c.pass.new.self c.put_reply-put.new.sink.owed c.put_reply-put.result.stream
    c.put_reply-put.result.errand c.put_reply-put.result.is_broken is message c.pass.ensures c.saturating_add-self-inside.ensures
    c.saturating_add-self-inside-2.ensures put.3 puts))
