use Rattle.std.proofs.Common.{ℕ, List, Some, refl, sym, ap, ◌∙◌, take}
use Rattle.yp_answer.specs.Transfer.{Taken}
use Rattle.yp_answer.specs.inside.Transfer.{taken_view}
use Rattle.yp_answer.specs.session.Hosts.{conduct_of}
use Rattle.yp_worker.proofs.datagrams.Answering.{link_silent, link_bytes, link_takes, link_open, reply_is}
use Rattle.yp_worker.proofs.datagrams.reply.reply_to.Goals as goal

pub returns-in-Silent-clause-replied : goal.returns-in-Silent-clause-replied
returns-in-Silent-clause-replied g c =
    let conduct = conduct_of g.H.View.seen g.H.Host.told g.H.Host.counts g.H.View.stepped g.H.Host.made g.H.Host.carried in (
      _,
      refl,
      refl,
      refl,
      refl,
      link_silent conduct c.args.peer c.args.mail.now g.met.H.Host.step_counts_nothing c.args.host.now c.answer_datagram.new.view
          c.in-Silent.ensures.step c.in-Silent.ensures.reply,
    )

pub returns-in-Reply-clause-replied : goal.returns-in-Reply-clause-replied
returns-in-Reply-clause-replied g c =
    let conduct = conduct_of g.H.View.seen g.H.Host.told g.H.Host.counts g.H.View.stepped g.H.Host.made g.H.Host.carried in
    let buf = c.answer_datagram.new.buf in (
      _,
      refl,
      sym (reply_is c.in-Reply.len buf c.in-Reply.ensures.reply.some),
      refl,
      refl,
      link_bytes conduct c.args.peer c.args.mail.now g.met.H.Host.step_counts_nothing (take c.in-Reply.len buf) c.args.host.now c.answer_datagram.new.view
          c.in-Reply.ensures.step c.in-Reply.ensures.reply.bytes,
    )

pub returns-in-Transfer-clause-replied : goal.returns-in-Transfer-clause-replied
returns-in-Transfer-clause-replied g c =
    let conduct = conduct_of g.H.View.seen g.H.Host.told g.H.Host.counts g.H.View.stepped g.H.Host.made g.H.Host.carried in
    let buf = c.answer_datagram.new.buf in (
      _,
      refl,
      sym (reply_is c.in-Transfer.len buf c.in-Transfer.ensures.reply.some),
      refl,
      ap (λ (t : Taken). Some (t, c.args.peer)) c.new.ensures,
      link_takes conduct c.args.peer c.args.mail.now g.met.H.Host.step_counts_nothing (take c.in-Transfer.len buf) (taken_view c.in-Transfer.job)
          c.args.host.now c.answer_datagram.new.view c.in-Transfer.ensures.step c.in-Transfer.ensures.reply.takes,
    )

pub returns-in-Make-clause-replied : goal.returns-in-Make-clause-replied
returns-in-Make-clause-replied g c =
    let conduct = conduct_of g.H.View.seen g.H.Host.told g.H.Host.counts g.H.View.stepped g.H.Host.made g.H.Host.carried in
    let buf = c.make_reply-len.new.buf in (
      _,
      refl,
      sym (reply_is c.make_reply-len.result buf c.make_reply-len.ensures.some ∙ ap (λ (l : List ℕ). Some l) c.make_reply-len.ensures.reply),
      refl,
      refl,
      link_open conduct c.args.peer c.args.mail.now g.met.H.Host.step_counts_nothing c.in-Make.xid c.in-Make.job c.make-stat.result
          c.args.host.now c.answer_datagram.new.view c.make-stat.new.self c.in-Make.ensures.step c.in-Make.ensures.reply.left_open c.make-stat.ensures,
    )
