use denote.Param.Send.{sendable}
use Rattle.std.proofs.Crossing.{crosses}
use Rattle.std.proofs.Common.{◌∷◌, length, map, refl, subst, ap, sym, ◌∙◌, arith}
use Rattle.std.specs.List.{AllZip}
use Rattle.std.proofs.lemmas.Slice.Zip.{AllZip-long}
use Rattle.yp_rpc.specs.inside.Turns.{box_by}
use Rattle.yp_worker.specs.Receptions.{opening_by, terms_of}
use Rattle.yp_host.specs.inside.workers.Charges.{counted_by}
use Rattle.yp_worker.specs.datagrams.Mailing.{QueueName, Holding, nothing_held}
use Rattle.yp_server.specs.inside.Serving.{before_work}
use Rattle.yp_server.specs.Counting.{CountsAll, count_told, server_terms, endpoint_tells, server_end}
use Rattle.yp_server.specs.Serving.{conduct_at, IsAtStart, SomeHasRisen}
use Rattle.yp_server.specs.inside.Counting.{mail_start, BeginsMail, BeginsCarrying}
use Rattle.yp_server.proofs.Crossing.{board_front_send, host_send, account_send}
use Rattle.yp_server.proofs.Posted.{manned, mails_of}
use Rattle.yp_server.proofs.Rows.{all_before, all_last}
use Rattle.yp_server.proofs.preparing.WorkerMaker.serve.Goals as goal

pub run_workers-listen-requires-clause-manned : goal.run_workers-listen-requires-clause-manned
run_workers-listen-requires-clause-manned g c κs within =
    let added = c.add_workers.ensures.workers in
    let parts = c.requires.out in
    let room = c.requires.room in
    let inboxes = c.args.worker_resources.inboxes.items in
    let turns = c.args.worker_resources.turns in
    let conduct = conduct_at g.B.Reader.View.seen g.B.Reader.View.stepped g.J.Supplies.text g.J.Supplies.hosts in
    let queue = ap (λ m. m.holding.queue) c.carrier-carrier.ensures
    ∙ ap (λ (h : Holding). h.queue) c.add_workers.ensures.parts.0 in
    let begin = subst (λ (q : QueueName). AllZip (BeginsMail conduct count_told (mail_start g.J.Site.catalogue g.J.Reception.starts q turns)) inboxes added.0)
    (sym queue) added.2 in
    let count =
    AllZip-long (BeginsMail conduct count_told (mail_start g.J.Site.catalogue g.J.Reception.starts c.args.self.now.pending.now turns)) inboxes added.0 added.2 in (
      added.0,
      manned added.0 before_work (length c.args.worker_resources.memory.all_buffers.items) g.J.Ledger.parts _ (let some = c.requires.some.0 in omega (arith, some))
          (sym parts.1 ∙ parts.2) added.1,
      omega (arith, count, room.1),
      omega (arith, count, room.2),
      inboxes,
      turns,
      begin,
    )

pub run_workers-listen-requires-send-H : goal.run_workers-listen-requires-send-H
run_workers-listen-requires-send-H g c κs within = search (sendable, crosses, host_send) depth 60 fits 50000

pub run_workers-listen-requires-send-H-Front : goal.run_workers-listen-requires-send-H-Front
run_workers-listen-requires-send-H-Front g c κs within = search (sendable, crosses, board_front_send) depth 60 fits 50000

pub run_workers-listen-requires-send-H-Sum : goal.run_workers-listen-requires-send-H-Sum
run_workers-listen-requires-send-H-Sum g c κs within = search (sendable, crosses, account_send) depth 60 fits 50000

pub add_workers-requires-clause-knows : goal.add_workers-requires-clause-knows
add_workers-requires-clause-knows g c =
    all_before (λ reader. IsAtStart g.J.Site.catalogue g.J.Reception.starts (g.B.Reader.View.seen reader)) _ _ _
    c.in-Some.ensures.items c.requires.knows

pub carrier-carrier-requires-clause-knows : goal.carrier-carrier-requires-clause-knows
carrier-carrier-requires-clause-knows g c =
    all_last (λ reader. IsAtStart g.J.Site.catalogue g.J.Reception.starts (g.B.Reader.View.seen reader)) _ _ _
    c.in-Some.ensures.items c.requires.knows

pub run_workers-listen-requires-clause-carrier : goal.run_workers-listen-requires-clause-carrier
run_workers-listen-requires-clause-carrier g c κs within =
    let begins = BeginsCarrying (conduct_at g.B.Reader.View.seen g.B.Reader.View.stepped g.J.Supplies.text g.J.Supplies.hosts) count_told
    g.J.Site.catalogue g.J.Reception.starts in
    let left = c.add_workers.new.parts in
    let is = c.add_workers.ensures.parts in
    let queue = ap (λ (h : Holding). h.queue) is.0 in
    let knows = all_last (λ reader. IsAtStart g.J.Site.catalogue g.J.Reception.starts (g.B.Reader.View.seen reader)) _ _ _
    c.in-Some.ensures.items c.requires.knows in
    subst begins (sym c.carrier-carrier.ensures) (record {
      start = knows;
      fresh = refl;
      from_none = refl;
      holding = is.0 ∙ ap (λ q. nothing_held q left.parts) (sym queue);
      well = refl;
    })

pub run_workers-listen-requires-clause-transfers : goal.run_workers-listen-requires-clause-transfers
run_workers-listen-requires-clause-transfers g c κs within =
    let added = c.add_workers.ensures.workers in
    let is = c.add_workers.ensures.parts in
    let inboxes = c.args.worker_resources.inboxes.items in
    let begins = BeginsMail (conduct_at g.B.Reader.View.seen g.B.Reader.View.stepped g.J.Supplies.text g.J.Supplies.hosts) count_told
    (mail_start g.J.Site.catalogue g.J.Reception.starts c.args.self.now.pending.now c.args.worker_resources.turns) in
    let count = AllZip-long begins inboxes added.0 added.2 in
    let among =
    ap length (mails_of added.0 (length c.args.worker_resources.memory.all_buffers.items) before_work _ added.1) in
    let parts = ap (λ m. m.holding.parts) c.carrier-carrier.ensures in
    let some = c.requires.inboxes.0 in (
      omega (arith, some, count, among),
      omega (arith, count, among, parts) ∙ is.1 ∙ ap (λ h. h.parts) c.requires.parts,
    )

pub returns-clause-counted : goal.returns-clause-counted
returns-clause-counted g c = λ log reached.
    let added = c.add_workers.ensures.workers in
    let parts = c.requires.out in
    let inboxes = c.args.worker_resources.inboxes.items in
    let turns = c.args.worker_resources.turns in
    let conduct = conduct_at g.B.Reader.View.seen g.B.Reader.View.stepped g.J.Supplies.text g.J.Supplies.hosts in
    let queue = ap (λ m. m.holding.queue) c.carrier-carrier.ensures
    ∙ ap (λ (h : Holding). h.queue) c.add_workers.ensures.parts.0 in
    let begin = subst (λ (q : QueueName). AllZip (BeginsMail conduct count_told (mail_start g.J.Site.catalogue g.J.Reception.starts q turns)) inboxes added.0)
    (sym queue) added.2 in
    let made = c.run_workers-listen.result in
    let box = box_by g.I.Inbox in
    subst (λ (i : g.row.I.Denot). CountsAll conduct count_told
    (server_terms (terms_of g.J.Site.catalogue g.J.Reception.starts g.J.Reception.most) turns)
    (endpoint_tells g.J.Reception.opening (map box inboxes) (box i))
    (endpoint_tells (opening_by g.L.Hall made.0) (map box made.2.inboxes.items) (box made.2.outbox))
    (server_end made.1.calls made.2.fault (counted_by made.3) log))
    (ap (λ m. m.inbox) c.carrier-carrier.ensures)
    (c.run_workers-listen.ensures.counted inboxes added.0
    (manned added.0 before_work (length c.args.worker_resources.memory.all_buffers.items) g.J.Ledger.parts _ (let some = c.requires.some.0 in omega (arith, some))
    (sym parts.1 ∙ parts.2) added.1)
    turns begin log reached)

pub returns-clause-cause : goal.returns-clause-cause
returns-clause-cause g c = λ fails.
    let added = c.add_workers.ensures.workers in
    let parts = c.requires.out in
    let inboxes = c.args.worker_resources.inboxes.items in
    let turns = c.args.worker_resources.turns in
    let conduct = conduct_at g.B.Reader.View.seen g.B.Reader.View.stepped g.J.Supplies.text g.J.Supplies.hosts in
    let queue = ap (λ m. m.holding.queue) c.carrier-carrier.ensures
    ∙ ap (λ (h : Holding). h.queue) c.add_workers.ensures.parts.0 in
    let begin = subst (λ (q : QueueName). AllZip (BeginsMail conduct count_told (mail_start g.J.Site.catalogue g.J.Reception.starts q turns)) inboxes added.0)
    (sym queue) added.2 in
    let made = c.run_workers-listen.result in
    subst (λ (i : g.row.I.Denot). SomeHasRisen (map g.I.Inbox.faults (i ∷ inboxes))
    (map g.I.Inbox.faults (made.2.outbox ∷ made.2.inboxes.items)))
    (ap (λ m. m.inbox) c.carrier-carrier.ensures)
    (c.run_workers-listen.ensures.cause inboxes added.0
    (manned added.0 before_work (length c.args.worker_resources.memory.all_buffers.items) g.J.Ledger.parts _ (let some = c.requires.some.0 in omega (arith, some))
    (sym parts.1 ∙ parts.2) added.1)
    turns begin fails)

pub returns-clause-others : goal.returns-clause-others
returns-clause-others g c =
    let back = c.charges_of-others.ensures in
    let parts = back.parts in
    let hosts = c.run_workers-listen.ensures.hosts in
    let count = c.add_workers.ensures.count in
    (omega (arith, parts, hosts, count), back.left)
