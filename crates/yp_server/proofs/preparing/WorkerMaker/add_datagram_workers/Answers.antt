use Rattle.std.proofs.Common.{◌≡◌, [], ◌∷◌, ◌++◌, refl, sym, ap, ◌∙◌, reverse, length, subst, arith}
use Rattle.std.specs.List.{AllZip}
use Rattle.std.proofs.lemmas.List.{length_push, length-reverse, reverse-reverse}
use Rattle.yp_worker.specs.datagrams.Mailing.{Holding}
use Rattle.yp_host.specs.inside.workers.Charges.{Charged}
use Rattle.yp_server.specs.declared.workers.ServerWorker.TheVariants.{Datagrams}
use Rattle.yp_server.specs.Counting.{count_told}
use Rattle.yp_server.specs.Serving.{conduct_at, IsAtStart}
use Rattle.yp_server.specs.inside.Counting.{mail_start, BeginsMail}
use Rattle.yp_server.specs.inside.Serving.{before_work, fresh_worker}
use Rattle.yp_server.proofs.Adding.{zip_more, one_more_inbox, all_inboxes}
use Rattle.yp_server.proofs.Posted.{one_mail}
use Rattle.yp_server.proofs.Rows.{all_before, all_last}
use Rattle.yp_server.proofs.preparing.WorkerMaker.add_datagram_workers.Goals as goal

pub loop-inbox-init : goal.loop-inbox-init
loop-inbox-init g c =
    let turned = c.reverse.ensures.items in
    let long = ap length turned ∙ length-reverse c.args.inbox_resources.inboxes.items in
    record {
      workers = ([], [], c.requires.none, ap reverse turned ∙ reverse-reverse c.args.inbox_resources.inboxes.items, tt);
      count = let none = ap length c.requires.none in omega (arith, none, long);
      room = refl;
      rooms = c.requires.rooms ∙ sym long;
      readers = omega (arith, long);
      knows = c.requires.knows;
      charges = (omega (arith, long), refl);
      parts = (c.requires.parts.0, omega (arith, long));
    }

pub loop-inbox-preserved : goal.loop-inbox-preserved
loop-inbox-preserved g c =
    let before = c.loop-inbox.invariant in
    let one = c.in-Some.ensures.len in
    let room = c.in-Some-pop.ensures.len in
    let reader = c.in-Some-pop-2.ensures.len in
    let made = c.datagram_worker-datagram_worker in
    let pushed = c.push_reserved.ensures.items in
    let longer = length_push c.loop-inbox.all_workers.items (Datagrams made.result) in
    let less = c.split_off-charges.ensures in
    let begins = BeginsMail (conduct_at g.B.Reader.View.seen g.B.Reader.View.stepped g.J.Supplies.text g.J.Supplies.hosts) count_told
    (mail_start g.J.Site.catalogue g.J.Reception.starts c.args.self.now.pending.now c.args.inbox_resources.turns) in
    let knows = all_last (λ reader. IsAtStart g.J.Site.catalogue g.J.Reception.starts (g.B.Reader.View.seen reader)) _ _ _
    c.in-Some-pop-2.ensures.items before.knows in
    record {
      workers = (
        before.workers.0 ++ made.result ∷ [],
        before.workers.1 ++ c.in-Some.inbox ∷ [],
        pushed ∙ ap (λ l. l ++ Datagrams made.result ∷ []) before.workers.2 ∙ sym (one_mail before.workers.0 made.result before_work),
        one_more_inbox before.workers.1 _ _ _ c.in-Some.inbox c.in-Some.ensures.items before.workers.3,
        zip_more begins before.workers.1 before.workers.0 c.in-Some.inbox made.result before.workers.4
            (subst (begins c.in-Some.inbox) (sym made.ensures) (record {
              host = fresh_worker c.in-Some-pop-2.reader;
              inbox_is = refl;
              turns_are = refl;
              server_is = refl;
              start = knows;
              fresh = refl;
              from_none = refl;
            })),
      );
      count = rw pushed (omega (arith, longer, before.count, one));
      room = c.push_reserved.ensures.capacity ∙ before.room;
      rooms = omega (arith, before.rooms, one, room);
      readers = omega (arith, before.readers, one, reader);
      knows = all_before (λ reader. IsAtStart g.J.Site.catalogue g.J.Reception.starts (g.B.Reader.View.seen reader)) _ _ _
          c.in-Some-pop-2.ensures.items before.knows;
      charges =
          let parts = less.left in (
            omega (arith, before.charges.0, one, parts),
            ap (λ (charged : Charged). charged.left) less.same ∙ before.charges.1,
          );
      parts =
          let cut = c.split_off-part.ensures in
          let parts = cut.parts in (
            cut.same ∙ ap (λ (h : Holding). record h { parts = c.split_off-part.new.pass.parts }) before.parts.0,
            omega (arith, before.parts.1, parts, one),
          );
    }

pub returns-clause-workers : goal.returns-clause-workers
returns-clause-workers g c =
    let after = c.loop-inbox.invariant.workers in
    let none : length c.loop-inbox.inboxes.items ≡ 0 = omega (arith, c.in_default.ensures.cases.0) in
    let begins = BeginsMail (conduct_at g.B.Reader.View.seen g.B.Reader.View.stepped g.J.Supplies.text g.J.Supplies.hosts) count_told
    (mail_start g.J.Site.catalogue g.J.Reception.starts c.args.self.now.pending.now c.args.inbox_resources.turns) in (
      after.0,
      after.2,
      subst (λ l. AllZip begins l after.0) (all_inboxes after.1 c.loop-inbox.inboxes.items c.args.inbox_resources.inboxes.items none after.3) after.4,
    )

pub datagram_worker-datagram_worker-requires-clause-knows : goal.datagram_worker-datagram_worker-requires-clause-knows
datagram_worker-datagram_worker-requires-clause-knows g c =
    all_last (λ reader. IsAtStart g.J.Site.catalogue g.J.Reception.starts (g.B.Reader.View.seen reader)) _ _ _
    c.in-Some-pop-2.ensures.items c.loop-inbox.invariant.knows
