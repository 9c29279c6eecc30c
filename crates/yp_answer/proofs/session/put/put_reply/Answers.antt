use Rattle.std.proofs.Common.{false, refl, take, Some, None, ap, sym}
use Rattle.yp_answer.specs.declared.procedure.Path.TheVariants.{Stream}
use Rattle.yp_answer.specs.Reply.{asks}
use Rattle.yp_answer.specs.inside.Streams.{parts_left}
use Rattle.yp_answer.specs.inside.Transfer.{taken_view}
use Rattle.yp_rpc.specs.Records.{joined}
use Rattle.yp_answer.specs.session.Hosts.{conduct_of}
use Rattle.yp_answer.proofs.session.Links.{turn, link_silent, link_bytes, link_takes, link_open}
use Rattle.yp_answer.proofs.session.Putting.{puts_sent, puts_none, puts_open, begins_open, steps_see, made_sees}
use Rattle.yp_answer.proofs.session.put.put_reply.Goals as goal

pub returns-in-Silent-clause-put : goal.returns-in-Silent-clause-put
returns-in-Silent-clause-put g c =
    let conduct = conduct_of g.H.View.seen g.H.Host.told g.H.Host.counts g.H.View.stepped g.H.Host.made g.H.Host.carried in
    rw c.put_of.ensures (
      _,
      refl,
      refl,
      refl,
      link_silent conduct Stream c.args.request.now.peer c.args.request.now.message.now false g.met.H.Host.step_counts_nothing c.args.host.now c.answer.new.view
          c.in-Silent.ensures.step c.in-Silent.ensures.reply,
      puts_none (g.K.Sink.output c.args.sink.now),
    )

pub returns-in-Silent-clause-sees : goal.returns-in-Silent-clause-sees
returns-in-Silent-clause-sees g c =
    steps_see g.H.View.stepped g.H.View.seen (asks Stream c.args.request.now.message.now) _ _ c.in-Silent.ensures.step

pub returns-in-Reply-clause-put : goal.returns-in-Reply-clause-put
returns-in-Reply-clause-put g c =
    let conduct = conduct_of g.H.View.seen g.H.Host.told g.H.Host.counts g.H.View.stepped g.H.Host.made g.H.Host.carried in
    let bytes = take c.in-Reply.len c.answer.new.buf in
    rw c.put_of-in-Reply.ensures (
      _,
      refl,
      refl,
      refl,
      link_bytes conduct Stream c.args.request.now.peer c.args.request.now.message.now false g.met.H.Host.step_counts_nothing bytes c.args.host.now c.answer.new.view
          c.in-Reply.ensures.step c.in-Reply.ensures.reply.bytes,
      puts_sent bytes c.send.result _ _ c.send.ensures.sent c.send.ensures.prefix,
    )

pub returns-in-Reply-clause-sees : goal.returns-in-Reply-clause-sees
returns-in-Reply-clause-sees g c =
    steps_see g.H.View.stepped g.H.View.seen (asks Stream c.args.request.now.message.now) _ _ c.in-Reply.ensures.step

pub returns-in-Transfer-clause-put : goal.returns-in-Transfer-clause-put
returns-in-Transfer-clause-put g c =
    let conduct = conduct_of g.H.View.seen g.H.Host.told g.H.Host.counts g.H.View.stepped g.H.Host.made g.H.Host.carried in
    let bytes = take c.in-Transfer.len c.answer.new.buf in
    rw (c.put_of-in-Transfer.ensures) (
      turn c.args.request.now.message.now (Some bytes) None (Some (taken_view c.in-Transfer.job)) false,
      refl,
      refl,
      ap Some (sym c.new-errand.ensures),
      link_takes conduct Stream c.args.request.now.peer c.args.request.now.message.now false g.met.H.Host.step_counts_nothing bytes (taken_view c.in-Transfer.job) c.args.host.now
          c.answer.new.view c.answer.new.view c.in-Transfer.ensures.step c.in-Transfer.ensures.reply.takes refl,
      puts_sent bytes c.send-in-Transfer.result _ _ c.send-in-Transfer.ensures.sent c.send-in-Transfer.ensures.prefix,
    )

pub returns-in-Transfer-clause-sees : goal.returns-in-Transfer-clause-sees
returns-in-Transfer-clause-sees g c =
    steps_see g.H.View.stepped g.H.View.seen (asks Stream c.args.request.now.message.now) _ _ c.in-Transfer.ensures.step

pub returns-in-Stream-clause-put : goal.returns-in-Stream-clause-put
returns-in-Stream-clause-put g c =
    let conduct = conduct_of g.H.View.seen g.H.Host.told g.H.Host.counts g.H.View.stepped g.H.Host.made g.H.Host.carried in
    let known = (g.H.View.seen c.answer.new.view).known in
    let bytes = joined (parts_left known c.in-Stream.stream) in
    rw c.put_open.ensures (
      _,
      refl,
      refl,
      refl,
      link_bytes conduct Stream c.args.request.now.peer c.args.request.now.message.now false g.met.H.Host.step_counts_nothing bytes c.args.host.now c.answer.new.view
          c.in-Stream.ensures.step c.in-Stream.ensures.reply.whole,
      puts_open known c.in-Stream.stream c.open_reply.result _ c.open_reply.ensures,
    )

pub returns-in-Stream-clause-stream : goal.returns-in-Stream-clause-stream
returns-in-Stream-clause-stream g c =
    let known = (g.H.View.seen c.answer.new.view).known in
    rw c.put_open.ensures (begins_open known c.in-Stream.stream c.open_reply.result c.in-Stream.ensures.reply.some c.open_reply.ensures)

pub returns-in-Stream-clause-sees : goal.returns-in-Stream-clause-sees
returns-in-Stream-clause-sees g c =
    steps_see g.H.View.stepped g.H.View.seen (asks Stream c.args.request.now.message.now) _ _ c.in-Stream.ensures.step

pub returns-in-Make-clause-put : goal.returns-in-Make-clause-put
returns-in-Make-clause-put g c =
    let conduct = conduct_of g.H.View.seen g.H.Host.told g.H.Host.counts g.H.View.stepped g.H.Host.made g.H.Host.carried in
    let made = c.make-len.ensures.made in
    rw c.put_of-in-Make.ensures (
      _,
      refl,
      refl,
      refl,
      link_open conduct Stream c.args.request.now.peer c.args.request.now.message.now false g.met.H.Host.step_counts_nothing c.in-Make.xid c.in-Make.job made.0
          c.args.host.now c.answer.new.view c.make-len.new.host c.in-Make.ensures.step c.in-Make.ensures.reply.left_open made.2,
      rw (← made.1) (puts_sent _ c.send-in-Make.result _ _ c.send-in-Make.ensures.sent c.send-in-Make.ensures.prefix),
    )

pub returns-in-Make-clause-sees : goal.returns-in-Make-clause-sees
returns-in-Make-clause-sees g c =
    let conduct = conduct_of g.H.View.seen g.H.Host.told g.H.Host.counts g.H.View.stepped g.H.Host.made g.H.Host.carried in
    made_sees conduct (asks Stream c.args.request.now.message.now) c.in-Make.job c.make-len.ensures.made.0 _ c.answer.new.view _ c.in-Make.ensures.step c.make-len.ensures.made.2
