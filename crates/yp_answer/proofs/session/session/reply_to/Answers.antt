use Rattle.std.proofs.Common.{true, false, refl, take}
use Rattle.yp_answer.specs.declared.procedure.Path.TheVariants.{Stream}
use Rattle.yp_answer.specs.inside.Transfer.{taken_view}
use Rattle.yp_rpc.specs.Records.{joined}
use Rattle.yp_answer.specs.inside.Streams.{parts_left}
use Rattle.yp_answer.specs.session.Hosts.{conduct_of}
use Rattle.yp_answer.proofs.session.Sending.{Appends-none, on_err, on_ok_two, on_err_two}
use Rattle.yp_answer.proofs.session.Links.{link_silent, link_bytes, link_takes, link_open}
use Rattle.yp_answer.proofs.session.session.reply_to.Goals as goal

pub returns-in-Silent-clause-sent : goal.returns-in-Silent-clause-sent
returns-in-Silent-clause-sent g c =
    let conduct = conduct_of g.H.View.seen g.H.Host.told g.H.Host.counts g.H.View.stepped g.H.Host.made g.H.Host.carried in (
      _,
      refl,
      record {
        link = link_silent conduct Stream c.args.peer c.args.message.now true g.met.H.Host.step_counts_nothing c.args.host.now c.answer.new.view
            c.in-Silent.ensures.step c.in-Silent.ensures.reply;
        flush = refl;
        sends = (Appends-none (g.K.Sink.output c.args.sink.now), refl);
      },
    )

pub returns-in-Reply-clause-sent : goal.returns-in-Reply-clause-sent
returns-in-Reply-clause-sent g c =
    let conduct = conduct_of g.H.View.seen g.H.Host.told g.H.Host.counts g.H.View.stepped g.H.Host.made g.H.Host.carried in
    let bytes = take c.in-Reply.len c.answer.new.buf in
    on_ok_two c.send.result (λ done more. (
      _,
      refl,
      record {
        link = link_bytes conduct Stream c.args.peer c.args.message.now true g.met.H.Host.step_counts_nothing bytes c.args.host.now c.answer.new.view
            c.in-Reply.ensures.step c.in-Reply.ensures.reply.bytes;
        flush = refl;
        sends = (done, more);
      },
    )) c.send.ensures.sent c.send.ensures.flushed

pub returns-in-Reply-clause-unsent : goal.returns-in-Reply-clause-unsent
returns-in-Reply-clause-unsent g c =
    let conduct = conduct_of g.H.View.seen g.H.Host.told g.H.Host.counts g.H.View.stepped g.H.Host.made g.H.Host.carried in
    let bytes = take c.in-Reply.len c.answer.new.buf in
    on_err_two c.send.result (λ done more. (
      _,
      refl,
      record {
        link = link_bytes conduct Stream c.args.peer c.args.message.now false g.met.H.Host.step_counts_nothing bytes c.args.host.now c.answer.new.view
            c.in-Reply.ensures.step c.in-Reply.ensures.reply.bytes;
        flush = refl;
        sends = (done, more);
      },
    )) c.send.ensures.prefix c.send.ensures.cause.risen

pub returns-in-Stream-clause-sent : goal.returns-in-Stream-clause-sent
returns-in-Stream-clause-sent g c =
    let conduct = conduct_of g.H.View.seen g.H.Host.told g.H.Host.counts g.H.View.stepped g.H.Host.made g.H.Host.carried in
    let bytes = joined (parts_left (g.H.View.seen c.answer.new.view).known c.in-Stream.stream) in
    on_ok_two c.send_stream.result (λ done more. (
      _,
      refl,
      record {
        link = link_bytes conduct Stream c.args.peer c.args.message.now true g.met.H.Host.step_counts_nothing bytes c.args.host.now c.answer.new.view
            c.in-Stream.ensures.step c.in-Stream.ensures.reply.whole;
        flush = refl;
        sends = (done, more);
      },
    )) c.send_stream.ensures.sent c.send_stream.ensures.flushed

pub returns-in-Stream-clause-unsent : goal.returns-in-Stream-clause-unsent
returns-in-Stream-clause-unsent g c =
    let conduct = conduct_of g.H.View.seen g.H.Host.told g.H.Host.counts g.H.View.stepped g.H.Host.made g.H.Host.carried in
    let bytes = joined (parts_left (g.H.View.seen c.answer.new.view).known c.in-Stream.stream) in
    on_err_two c.send_stream.result (λ done more. (
      _,
      refl,
      record {
        link = link_bytes conduct Stream c.args.peer c.args.message.now false g.met.H.Host.step_counts_nothing bytes c.args.host.now c.answer.new.view
            c.in-Stream.ensures.step c.in-Stream.ensures.reply.whole;
        flush = refl;
        sends = (done, more);
      },
    )) c.send_stream.ensures.prefix c.send_stream.ensures.cause.risen

pub returns-in-Make-clause-sent : goal.returns-in-Make-clause-sent
returns-in-Make-clause-sent g c =
    let conduct = conduct_of g.H.View.seen g.H.Host.told g.H.Host.counts g.H.View.stepped g.H.Host.made g.H.Host.carried in
    let made = c.make-len.ensures.made in
    on_ok_two c.send-in-Make.result (λ done more. (
      _,
      refl,
      record {
        link = link_open conduct Stream c.args.peer c.args.message.now true g.met.H.Host.step_counts_nothing c.in-Make.xid c.in-Make.job made.0
            c.args.host.now c.answer.new.view c.make-len.new.host c.in-Make.ensures.step c.in-Make.ensures.reply.left_open made.2;
        flush = refl;
        sends = (rw made.1 at done, more);
      },
    )) c.send-in-Make.ensures.sent c.send-in-Make.ensures.flushed

pub returns-in-Make-clause-unsent : goal.returns-in-Make-clause-unsent
returns-in-Make-clause-unsent g c =
    let conduct = conduct_of g.H.View.seen g.H.Host.told g.H.Host.counts g.H.View.stepped g.H.Host.made g.H.Host.carried in
    let made = c.make-len.ensures.made in
    on_err_two c.send-in-Make.result (λ done more. (
      _,
      refl,
      record {
        link = link_open conduct Stream c.args.peer c.args.message.now false g.met.H.Host.step_counts_nothing c.in-Make.xid c.in-Make.job made.0
            c.args.host.now c.answer.new.view c.make-len.new.host c.in-Make.ensures.step c.in-Make.ensures.reply.left_open made.2;
        flush = refl;
        sends = (rw made.1 at done, more);
      },
    )) c.send-in-Make.ensures.prefix c.send-in-Make.ensures.cause.risen

pub returns-in_ok-send-in-Transfer-clause-sent : goal.returns-in_ok-send-in-Transfer-clause-sent
returns-in_ok-send-in-Transfer-clause-sent g c =
    let conduct = conduct_of g.H.View.seen g.H.Host.told g.H.Host.counts g.H.View.stepped g.H.Host.made g.H.Host.carried in
    let bytes = take c.in-Transfer.len c.answer.new.buf in (
      _,
      refl,
      record {
        link = link_takes conduct Stream c.args.peer c.args.message.now true g.met.H.Host.step_counts_nothing bytes (taken_view c.in-Transfer.job) c.args.host.now
            c.answer.new.view c.transfer.new.self c.in-Transfer.ensures.step c.in-Transfer.ensures.reply.takes c.transfer.ensures;
        flush = refl;
        sends = (c.in_ok-send-in-Transfer.ensures.sent, c.in_ok-send-in-Transfer.ensures.flushed);
      },
    )

pub returns-in_err-send-in-Transfer-clause-unsent : goal.returns-in_err-send-in-Transfer-clause-unsent
returns-in_err-send-in-Transfer-clause-unsent g c =
    let conduct = conduct_of g.H.View.seen g.H.Host.told g.H.Host.counts g.H.View.stepped g.H.Host.made g.H.Host.carried in
    let bytes = take c.in-Transfer.len c.answer.new.buf in
    on_err _ c.from_residual.result (
      _,
      refl,
      record {
        link = link_takes conduct Stream c.args.peer c.args.message.now false g.met.H.Host.step_counts_nothing bytes (taken_view c.in-Transfer.job) c.args.host.now
            c.answer.new.view c.answer.new.view c.in-Transfer.ensures.step c.in-Transfer.ensures.reply.takes refl;
        flush = refl;
        sends = (c.in_err-send-in-Transfer.ensures.prefix, c.in_err-send-in-Transfer.ensures.cause.risen);
      },
    )
