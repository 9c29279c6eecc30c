use Rattle.std.proofs.Common.{◌≡◌, ◌+◌, ◌++◌, inl, inr, Bool, List, [], length, map, reverse, refl, ap, sym, subst, ◌∙◌, arith}
use Rattle.yp_io.specs.Counts.{HasRisen}
use Rattle.std.proofs.lemmas.List.{with_items_is, length_push, length-reverse, reverse-reverse}
use Rattle.std.proofs.lemmas.Slice.Zip.{AllZip-long}
use Rattle.std.specs.List.{AllZip, AllByRecursion, list_any}
use Rattle.yp_answer.specs.session.Hosts.{conduct_of}
use Rattle.yp_rpc.specs.inside.Turns.{box_by}
use Rattle.yp_worker.specs.Receptions.{opening_by, terms_of}
use Rattle.yp_worker.specs.inside.Receptions.{Passed}
use Rattle.yp_worker.specs.Summing.{counting_of}
use Rattle.yp_server.specs.declared.datagrams.DatagramWorker.{DatagramWorker}
use Rattle.yp_server.specs.Serving.{SomeHasRisen, mail_service}
use Rattle.yp_worker.specs.datagrams.Mailing.{Holding, Mailing}
use Rattle.yp_worker.specs.datagrams.Carrying.{Delivers, left_for}
use Rattle.yp_worker.specs.datagrams.Queues.{weigh}
use Rattle.yp_server.specs.Counting.{EachCounts}
use Rattle.yp_server.specs.inside.Counting.{mail_start, BeginsMail}
use Rattle.yp_server.specs.inside.Handing.{left_by, took_by}
use Rattle.yp_server.specs.inside.Workers.{AnswersDatagrams}
use Rattle.yp_server.specs.inside.Serving.{before_work, after_work}
use Rattle.yp_server.proofs.Fronts.{front_then, fronts_then, each_mailed, queues, parts_are, took_none, some_fails, one_of_both}
use Rattle.yp_server.proofs.Handing.{rec_reverse, weigh_append}
use Rattle.yp_server.proofs.Posted.{worked, mails_of, held_of}
use Rattle.yp_server.proofs.workers.run_workers.Goals as goal

pub last_of-maker-requires : goal.last_of-maker-requires
last_of-maker-requires g c =
    let conduct = conduct_of g.H.View.seen g.H.Host.told g.H.Host.counts g.H.View.stepped g.H.Host.made g.H.Host.carried in
    let mails = AnswersDatagrams conduct g.H.CatchUp.counted (box_by g.I.Inbox) g.I.Inbox.faults in
    let was = c.requires.manned.1 in
    let places = c.work_beside.new.places in
    let same = with_items_is c.args.staff.all_workers places (omega (arith, c.work_beside.ensures.count, c.deref_mut.ensures.len)) in
    let all = worked mails c.requires.manned.0 (was.others + 1) c.deref_mut.result.now places
    (c.deref_mut.ensures.value ∙ was.workers_are) c.work_beside.ensures.count c.work_beside.ensures.works in
    record { manned = (all.0, was.others, same ∙ all.2) }

pub gather-datagram_workers-requires-clause-room : goal.gather-datagram_workers-requires-clause-room
gather-datagram_workers-requires-clause-room g c =
    let conduct = conduct_of g.H.View.seen g.H.Host.told g.H.Host.counts g.H.View.stepped g.H.Host.made g.H.Host.carried in
    let mails = AnswersDatagrams conduct g.H.CatchUp.counted (box_by g.I.Inbox) g.I.Inbox.faults in
    let was = c.requires.manned.1 in
    let places = c.work_beside.new.places in
    let same = with_items_is c.args.staff.all_workers places (omega (arith, c.work_beside.ensures.count, c.deref_mut.ensures.len)) in
    let all = worked mails c.requires.manned.0 (was.others + 1) c.deref_mut.result.now places
    (c.deref_mut.ensures.value ∙ was.workers_are) c.work_beside.ensures.count c.work_beside.ensures.works in
    let left = c.last_of-maker.ensures.others all.0 was.others (same ∙ all.2) in
    let these = mails_of all.0 was.others after_work _ left in
    let count = AllZip-long mails c.requires.manned.0 all.0 all.1 in
    let long = ap length these in
    let fits = c.requires.manned.2 in
    omega (arith, long, count, fits)

pub close-listen-requires-clause-all : goal.close-listen-requires-clause-all
close-listen-requires-clause-all g c =
    let conduct = conduct_of g.H.View.seen g.H.Host.told g.H.Host.counts g.H.View.stepped g.H.Host.made g.H.Host.carried in
    let mails = AnswersDatagrams conduct g.H.CatchUp.counted (box_by g.I.Inbox) g.I.Inbox.faults in
    let was = c.requires.manned.1 in
    let places = c.work_beside.new.places in
    let same = with_items_is c.args.staff.all_workers places (omega (arith, c.work_beside.ensures.count, c.deref_mut.ensures.len)) in
    let all = worked mails c.requires.manned.0 (was.others + 1) c.deref_mut.result.now places
    (c.deref_mut.ensures.value ∙ was.workers_are) c.work_beside.ensures.count c.work_beside.ensures.works in
    let left = c.last_of-maker.ensures.others all.0 was.others (same ∙ all.2) in
    let held = (held_of all.0 was.others _ left).0 in
    let begun = ap (λ (p : Passed). p.parts) c.requires.pass in
    let merged = ap (λ (p : Passed). p.parts) c.merge.ensures in
    let passed = ap (λ (p : Passed). p.parts) c.into_parts-held.ensures in
    let last = ap (λ (p : Passed). p.parts) c.last_of-maker.ensures.last in
    let parts = c.gather-datagram_workers.ensures.parts in
    let drained = c.drain-listening.ensures.out.0 in
    let ledger = was.parts_are in
    omega (arith, held, begun, merged, passed, last, parts, drained, ledger)

pub close-listen-requires-clause-none_out : goal.close-listen-requires-clause-none_out
close-listen-requires-clause-none_out g c =
    let conduct = conduct_of g.H.View.seen g.H.Host.told g.H.Host.counts g.H.View.stepped g.H.Host.made g.H.Host.carried in
    let mails = AnswersDatagrams conduct g.H.CatchUp.counted (box_by g.I.Inbox) g.I.Inbox.faults in
    let was = c.requires.manned.1 in
    let places = c.work_beside.new.places in
    let same = with_items_is c.args.staff.all_workers places (omega (arith, c.work_beside.ensures.count, c.deref_mut.ensures.len)) in
    let all = worked mails c.requires.manned.0 (was.others + 1) c.deref_mut.result.now places
    (c.deref_mut.ensures.value ∙ was.workers_are) c.work_beside.ensures.count c.work_beside.ensures.works in
    let left = c.last_of-maker.ensures.others all.0 was.others (same ∙ all.2) in
    let held = (held_of all.0 was.others _ left).1 in
    let begun = ap (λ (p : Passed). p.out) c.requires.pass in
    let merged = ap (λ (p : Passed). p.out) c.merge.ensures in
    let passed = ap (λ (p : Passed). p.out) c.into_parts-held.ensures in
    let last = ap (λ (p : Passed). p.out) c.last_of-maker.ensures.last in
    let out = c.gather-datagram_workers.ensures.out in
    let drained = c.drain-listening.ensures.out.1 in
    omega (arith, held, begun, merged, passed, last, out, drained)

pub close-listen-requires-clause-ended : goal.close-listen-requires-clause-ended
close-listen-requires-clause-ended g c =
    let merged = ap (λ (p : Passed). p.ended) c.merge.ensures in
    let passed = ap (λ (p : Passed). p.ended) c.into_parts-held.ensures in
    let last = ap (λ (p : Passed). p.ended) c.last_of-maker.ensures.last in
    let ended = c.gather-datagram_workers.ensures.ended in
    let drained = c.drain-listening.ensures.ended in
    omega (arith, merged, passed, last, ended, drained)

pub hand_over_all-ended-requires-clause-room : goal.hand_over_all-ended-requires-clause-room
hand_over_all-ended-requires-clause-room g c =
    let conduct = conduct_of g.H.View.seen g.H.Host.told g.H.Host.counts g.H.View.stepped g.H.Host.made g.H.Host.carried in
    let mails = AnswersDatagrams conduct g.H.CatchUp.counted (box_by g.I.Inbox) g.I.Inbox.faults in
    let was = c.requires.manned.1 in
    let places = c.work_beside.new.places in
    let same = with_items_is c.args.staff.all_workers places (omega (arith, c.work_beside.ensures.count, c.deref_mut.ensures.len)) in
    let all = worked mails c.requires.manned.0 (was.others + 1) c.deref_mut.result.now places
    (c.deref_mut.ensures.value ∙ was.workers_are) c.work_beside.ensures.count c.work_beside.ensures.works in
    let left = c.last_of-maker.ensures.others all.0 was.others (same ∙ all.2) in
    let these = c.gather-datagram_workers.ensures.datagram_workers ∙ mails_of all.0 was.others after_work _ left in
    let count = AllZip-long mails c.requires.manned.0 all.0 all.1 in
    let long = ap length these in
    let turned = length-reverse c.gather-datagram_workers.result.items in
    let fits = c.requires.manned.3 in
    omega (arith, long, turned, count, fits)

pub hand_over_all-ended-requires-clause-queue : goal.hand_over_all-ended-requires-clause-queue
hand_over_all-ended-requires-clause-queue g c =
    let conduct = conduct_of g.H.View.seen g.H.Host.told g.H.Host.counts g.H.View.stepped g.H.Host.made g.H.Host.carried in
    let counting = counting_of g.H.CatchUp.counted g.H.HandsOver.none g.H.HandsOver.plus in
    let box = box_by g.I.Inbox in
    let mails = AnswersDatagrams conduct g.H.CatchUp.counted box g.I.Inbox.faults in
    let manned = c.requires.manned in
    let was = manned.1 in
    let places = c.work_beside.new.places in
    let same = with_items_is c.args.staff.all_workers places (omega (arith, c.work_beside.ensures.count, c.deref_mut.ensures.len)) in
    let all = worked mails manned.0 (was.others + 1) c.deref_mut.result.now places
    (c.deref_mut.ensures.value ∙ was.workers_are) c.work_beside.ensures.count c.work_beside.ensures.works in
    let left = c.last_of-maker.ensures.others all.0 was.others (same ∙ all.2) in
    let these = c.gather-datagram_workers.ensures.datagram_workers ∙ mails_of all.0 was.others after_work _ left in
    let begins = manned.6 in
    let queue = c.args.carrier.holding.queue in
    let here = ap (λ (h : Holding). h.queue) c.work_beside.ensures.carries.holding in
    let fit = queues conduct counting box g.I.Inbox.faults g.J.Site.catalogue g.J.Reception.starts queue manned.5 manned.4 manned.0 all.0 begins all.1 in
    subst (λ q. AllByRecursion (λ (m : DatagramWorker g.row.I.Denot g.row.J.Denot g.row.H.Denot g.row.H-Front.Denot g.row.R.Denot). m.server.holding.queue ≡ q) c.gather-datagram_workers.result.items)
    (sym here)
    (subst (AllByRecursion (λ (m : DatagramWorker g.row.I.Denot g.row.J.Denot g.row.H.Denot g.row.H-Front.Denot g.row.R.Denot). m.server.holding.queue ≡ queue))
    (ap reverse (sym these) ∙ reverse-reverse c.gather-datagram_workers.result.items)
    (rec_reverse (λ (m : DatagramWorker g.row.I.Denot g.row.J.Denot g.row.H.Denot g.row.H-Front.Denot g.row.R.Denot). m.server.holding.queue ≡ queue) all.0 fit))

pub push_reserved-requires : goal.push_reserved-requires
push_reserved-requires g c =
    let none = ap length c.requires.none.2 in
    let fits = c.requires.hosts in
    omega (arith, none, fits)

pub gather-datagram_workers-requires-clause-hosts : goal.gather-datagram_workers-requires-clause-hosts
gather-datagram_workers-requires-clause-hosts g c =
    let places = c.work_beside.new.places in
    let same = with_items_is c.args.staff.all_workers places (omega (arith, c.work_beside.ensures.count, c.deref_mut.ensures.len)) in
    let none = ap length c.requires.none.2 in
    let one = ap length c.push_reserved.ensures.items in
    let longer = length_push c.args.staff.hosts.items c.into_parts-held.result.1 in
    let room = c.push_reserved.ensures.capacity in
    let long = ap length same in
    let less = c.last_of-maker.ensures.count in
    let count = c.work_beside.ensures.count in
    let begun = ap length c.deref_mut.ensures.value in
    let fits = c.requires.hosts in
    omega (arith, none, one, longer, room, long, less, count, begun, fits)

pub hand_over_all-ended-requires-clause-hosts : goal.hand_over_all-ended-requires-clause-hosts
hand_over_all-ended-requires-clause-hosts g c =
    let places = c.work_beside.new.places in
    let same = with_items_is c.args.staff.all_workers places (omega (arith, c.work_beside.ensures.count, c.deref_mut.ensures.len)) in
    let none = ap length c.requires.none.2 in
    let one = ap length c.push_reserved.ensures.items in
    let longer = length_push c.args.staff.hosts.items c.into_parts-held.result.1 in
    let room = c.push_reserved.ensures.capacity in
    let long = ap length same in
    let less = c.last_of-maker.ensures.count in
    let count = c.work_beside.ensures.count in
    let begun = ap length c.deref_mut.ensures.value in
    let fits = c.requires.hosts in
    let gathered = c.gather-datagram_workers.ensures.hosts in
    let still = c.gather-datagram_workers.ensures.hosts_room in
    omega (arith, none, one, longer, room, long, less, count, begun, fits, gathered, still)

pub push_reserved-requires-2 : goal.push_reserved-requires-2
push_reserved-requires-2 g c =
    let places = c.work_beside.new.places in
    let same = with_items_is c.args.staff.all_workers places (omega (arith, c.work_beside.ensures.count, c.deref_mut.ensures.len)) in
    let none = ap length c.requires.none.2 in
    let one = ap length c.push_reserved.ensures.items in
    let longer = length_push c.args.staff.hosts.items c.into_parts-held.result.1 in
    let room = c.push_reserved.ensures.capacity in
    let long = ap length same in
    let less = c.last_of-maker.ensures.count in
    let count = c.work_beside.ensures.count in
    let begun = ap length c.deref_mut.ensures.value in
    let fits = c.requires.hosts in
    let gathered = c.gather-datagram_workers.ensures.hosts in
    let still = c.gather-datagram_workers.ensures.hosts_room in
    let handed = c.hand_over_all-ended.ensures.hosts in
    let same_room = c.hand_over_all-ended.ensures.hosts_room in
    omega (arith, none, one, longer, room, long, less, count, begun, fits, gathered, still, handed, same_room)

pub returns-clause-hosts : goal.returns-clause-hosts
returns-clause-hosts g c =
    let places = c.work_beside.new.places in
    let same = with_items_is c.args.staff.all_workers places (omega (arith, c.work_beside.ensures.count, c.deref_mut.ensures.len)) in
    let none = ap length c.requires.none.2 in
    let one = ap length c.push_reserved.ensures.items in
    let longer = length_push c.args.staff.hosts.items c.into_parts-held.result.1 in
    let room = c.push_reserved.ensures.capacity in
    let long = ap length same in
    let less = c.last_of-maker.ensures.count in
    let count = c.work_beside.ensures.count in
    let begun = ap length c.deref_mut.ensures.value in
    let fits = c.requires.hosts in
    let gathered = c.gather-datagram_workers.ensures.hosts in
    let still = c.gather-datagram_workers.ensures.hosts_room in
    let handed = c.hand_over_all-ended.ensures.hosts in
    let another = ap length c.push_reserved-2.ensures.items in
    let more = length_push c.hand_over_all-ended.new.hosts.items c.hand_over_carrier-carried.result.1 in
    omega (arith, none, one, longer, long, less, count, begun, gathered, handed, another, more)

pub returns-clause-counted : goal.returns-clause-counted
returns-clause-counted g c = λ inboxes datagram_workers was turns begins log reaches.
    let conduct = conduct_of g.H.View.seen g.H.Host.told g.H.Host.counts g.H.View.stepped g.H.Host.made g.H.Host.carried in
    let counting = counting_of g.H.CatchUp.counted g.H.HandsOver.none g.H.HandsOver.plus in
    let box = box_by g.I.Inbox in
    let mails = AnswersDatagrams conduct g.H.CatchUp.counted box g.I.Inbox.faults in
    let places = c.work_beside.new.places in
    let same = with_items_is c.args.staff.all_workers places (omega (arith, c.work_beside.ensures.count, c.deref_mut.ensures.len)) in
    let all = worked mails datagram_workers (was.others + 1) c.deref_mut.result.now places
    (c.deref_mut.ensures.value ∙ was.workers_are) c.work_beside.ensures.count c.work_beside.ensures.works in
    let left = c.last_of-maker.ensures.others all.0 was.others (same ∙ all.2) in
    let ended = reverse c.gather-datagram_workers.result.items in
    let these : ended ≡ all.0 = c.gather-datagram_workers.ensures.datagram_workers ∙ mails_of all.0 was.others after_work _ left in
    let zip : AllZip mails datagram_workers ended = subst (λ l. AllZip mails datagram_workers l) (sym these) all.1 in
    let out = c.hand_over_all-ended in
    let handed = out.ensures.handed in
    let last = c.hand_over_carrier-carried in
    let rest = last.ensures in
    let middle = g.H.HandsOver.reached out.new.sum in
    let reached = g.H.HandsOver.reached last.new.sum in
    let closed = c.close-listen.result.2 in
    let servers = map (λ (m : DatagramWorker g.row.I.Denot g.row.J.Denot g.row.H.Denot g.row.H-Front.Denot g.row.R.Denot). m.server) ended in
    let fronts = fronts_then (λ (m : Mailing g.row.H.Denot). (g.H.View.seen m.host).known) middle log servers
    (front_then middle reached log rest.kept reaches) handed.covered in
    let catalogue = g.J.Site.catalogue in
    let starts = g.J.Reception.starts in
    let service = mail_service conduct counting catalogue starts log turns in
    let carrier = c.args.carrier in
    let on = c.work_beside.ensures.carries in
    let then = rest.carries.carries in
    let both = c.carriers_go_on.ensures carrier c.work_beside.new.carrier out.new.carrier rest.ended on out.ensures.carrier then in
    let begun = c.requires.carrier in
    let queue = carrier.holding.queue in
    let counts = map (λ (m : Mailing g.row.H.Denot). g.H.CatchUp.counted m.host) servers in
    let some = c.requires.transfers.0 in
    let whole = c.requires.transfers.1 in
    let parts = parts_are conduct counting box g.I.Inbox.faults catalogue starts queue turns inboxes datagram_workers ended begins zip in
    let none_took = took_none conduct counting box g.I.Inbox.faults catalogue starts queue turns inboxes datagram_workers ended begins zip in
    let count = AllZip-long (BeginsMail conduct counting (mail_start catalogue starts queue turns)) inboxes datagram_workers begins in
    let among = ap length (mails_of datagram_workers (was.others + 1) before_work _ was.workers_are) in
    let merged = handed.parts in
    let of_carrier = ap (λ (h : Holding). h.parts) on.holding in
    record {
      connections = g.H.HandsOver.summed closed;
      datagrams = counts;
      deferred = g.H.CatchUp.counted rest.ended.host;
      of_connections = c.sums_reach_further.ensures (terms_of g.J.Site.catalogue g.J.Reception.starts g.J.Reception.most)
          g.J.Reception.opening
          (opening_by g.L.Hall c.close-listen.result.0)
          c.close-listen.result.1.calls (g.H.HandsOver.summed closed)
          (g.H.HandsOver.reached closed) log c.close-listen.ensures.summed
          (front_then (g.H.HandsOver.reached closed) middle log handed.kept (front_then middle reached log rest.kept reaches));
      of_datagrams = record {
        failed = out.result.fault;
        lost = last.result.0.fault;
        fault_is = c.has_fault_with-fault.ensures;
        left = left_by servers;
        took = map left_for (both.steps ++ both.unsent);
        each =
            subst (λ (b : Bool). EachCounts service b (map box inboxes) (map box out.result.inboxes.items) (left_by servers) counts)
            (sym out.ensures.fault)
            (subst (λ (l : List g.row.I.Denot). EachCounts service (list_any (λ (m : DatagramWorker g.row.I.Denot g.row.J.Denot g.row.H.Denot g.row.H-Front.Denot g.row.R.Denot). m.fault) ended) (map box inboxes) (map box l) (left_by servers) counts)
            (sym out.ensures.inboxes)
            (each_mailed conduct counting box g.I.Inbox.faults catalogue starts queue turns log inboxes datagram_workers ended begins zip fronts));
        carrier = record {
          carries = record {
            old = carrier.host;
            new = rest.ended.host;
            start = begun.start;
            fresh = begun.fresh;
            steps = both.steps;
            unsent = both.unsent;
            delivers =
                subst (λ (b : Bool). Delivers conduct g.H.CatchUp.counted (record { sent = both.steps; unsent = both.unsent }) b
                (record { host = carrier.host; inbox = box carrier.inbox }) (record { host = rest.ended.host; inbox = box last.result.0.inbox }))
                (sym rest.fault_is)
                (subst (λ (i : g.row.I.Denot). Delivers conduct g.H.CatchUp.counted (record { sent = both.steps; unsent = both.unsent })
                rest.ended.fault (record { host = carrier.host; inbox = box carrier.inbox }) (record { host = rest.ended.host; inbox = box i }))
                (sym rest.inbox_is) both.delivers);
            took_is = refl;
            shown = front_then (g.H.View.seen rest.ended.host).known reached log rest.covered reaches;
          };
          from_none = begun.from_none;
          counted = refl;
        };
        all = λ weight.
            let w = rest.carries.all (omega (arith, merged, parts, count, among, whole, of_carrier)) weight in
            let left_then = ap (λ (h : Holding). weigh weight h.left) then.holding in
            let took_then = ap (λ (h : Holding). weigh weight h.took) then.holding in
            let left_in = ap (weigh weight) handed.left in
            let took_in = ap (weigh weight) handed.took in
            let none_in = ap (weigh weight) none_took in
            let left_on = ap (λ (h : Holding). weigh weight h.left) on.holding in
            let none_left = ap (λ (h : Holding). weigh weight h.left) begun.holding in
            let took_on = ap (λ (h : Holding). weigh weight h.took) both.holding in
            let none_yet = ap (λ (h : Holding). weigh weight h.took) begun.holding in
            omega (
              arith,
              w,
              left_then,
              took_then,
              left_in,
              took_in,
              none_in,
              left_on,
              none_left,
              took_on,
              none_yet,
              weigh_append weight out.new.carrier.holding.left [],
              weigh_append weight out.new.carrier.holding.took (map left_for (then.steps ++ then.unsent)),
              weigh_append weight c.work_beside.new.carrier.holding.left (left_by servers),
              weigh_append weight c.work_beside.new.carrier.holding.took (took_by servers),
              weigh_append weight carrier.holding.left [],
              weigh_append weight c.work_beside.new.carrier.holding.took (map left_for (then.steps ++ then.unsent)),
              weigh_append weight carrier.holding.took (map left_for (both.steps ++ both.unsent)),
            );
      };
      all_is = rest.added ∙ ap (λ (s : g.row.H-Count.Denot). g.H.HandsOver.plus s (g.H.CatchUp.counted rest.ended.host)) handed.added;
    }

pub returns-clause-cause : goal.returns-clause-cause
returns-clause-cause g c = λ inboxes datagram_workers was turns begins fails.
    let conduct = conduct_of g.H.View.seen g.H.Host.told g.H.Host.counts g.H.View.stepped g.H.Host.made g.H.Host.carried in
    let counting = counting_of g.H.CatchUp.counted g.H.HandsOver.none g.H.HandsOver.plus in
    let box = box_by g.I.Inbox in
    let mails = AnswersDatagrams conduct g.H.CatchUp.counted box g.I.Inbox.faults in
    let places = c.work_beside.new.places in
    let same = with_items_is c.args.staff.all_workers places (omega (arith, c.work_beside.ensures.count, c.deref_mut.ensures.len)) in
    let all = worked mails datagram_workers (was.others + 1) c.deref_mut.result.now places
    (c.deref_mut.ensures.value ∙ was.workers_are) c.work_beside.ensures.count c.work_beside.ensures.works in
    let left = c.last_of-maker.ensures.others all.0 was.others (same ∙ all.2) in
    let ended = reverse c.gather-datagram_workers.result.items in
    let these : ended ≡ all.0 = c.gather-datagram_workers.ensures.datagram_workers ∙ mails_of all.0 was.others after_work _ left in
    let zip : AllZip mails datagram_workers ended = subst (λ l. AllZip mails datagram_workers l) (sym these) all.1 in
    let out = c.hand_over_all-ended in
    let last = c.hand_over_carrier-carried in
    let rest = last.ensures in
    let carrier = c.args.carrier in
    let queue = carrier.holding.queue in
    let both = c.carriers_go_on.ensures carrier c.work_beside.new.carrier out.new.carrier rest.ended
    c.work_beside.ensures.carries out.ensures.carrier rest.carries.carries in
    one_of_both out.result.fault last.result.0.fault (sym c.has_fault_with-fault.ensures ∙ fails)
    (λ failed. inr (subst (λ l. SomeHasRisen (map g.I.Inbox.faults inboxes) (map g.I.Inbox.faults l)) (sym out.ensures.inboxes)
    (some_fails conduct counting box g.I.Inbox.faults g.J.Site.catalogue g.J.Reception.starts queue turns inboxes datagram_workers ended
    begins zip (sym out.ensures.fault ∙ failed))))
    (λ lost. inl (subst (λ i. HasRisen (g.I.Inbox.faults carrier.inbox) (g.I.Inbox.faults i)) (sym rest.inbox_is)
    (both.cause.risen c.requires.carrier.well (sym rest.fault_is ∙ lost))))
