use Rattle.std.proofs.Common.{[], ◌∷◌, ◌≡◌, ◌++◌, ◌||◌, refl, ap, sym, ◌∙◌, subst, length, reverse, arith}
use Rattle.std.proofs.lemmas.List.{length_push}
use Rattle.std.specs.List.{AllByRecursion, list_any}
use Rattle.yp_answer.specs.session.Hosts.{conduct_of}
use Rattle.yp_worker.specs.Summing.{counting_of}
use Rattle.yp_worker.specs.inside.Mailing.{Carrying}
use Rattle.yp_server.specs.inside.Handing.{HandsOverMails}
use Rattle.yp_server.proofs.Handing.{rec_before, none_handed, one_handed, one_inbox, one_fault, one_server, all_servers}
use Rattle.yp_server.proofs.datagrams.hand_over_all.Goals as goal

pub loop-datagram_worker-init : goal.loop-datagram_worker-init
loop-datagram_worker-init g c =
    let conduct = conduct_of g.H.View.seen g.H.Host.told g.H.Host.counts g.H.View.stepped g.H.Host.made g.H.Host.carried in
    let counting = counting_of g.H.CatchUp.counted g.H.HandsOver.none g.H.HandsOver.plus in
    record {
      inboxes = rw c.requires.none refl;
      fault = refl;
      handed = ([], refl, none_handed conduct counting g.H.HandsOver.summed g.H.HandsOver.reached c.args.carrier.now.holding c.args.sum.now);
      carrier = refl;
      queue = c.requires.queue;
      room = rw c.requires.none (omega (arith, c.requires.room));
      hosts = refl;
      hosts_room = c.requires.hosts;
      hosts_same = refl;
    }

pub loop-datagram_worker-preserved : goal.loop-datagram_worker-preserved
loop-datagram_worker-preserved g c =
    let conduct = conduct_of g.H.View.seen g.H.Host.told g.H.Host.counts g.H.View.stepped g.H.Host.made g.H.Host.carried in
    let counting = counting_of g.H.CatchUp.counted g.H.HandsOver.none g.H.HandsOver.plus in
    let before = c.loop-datagram_worker.invariant in
    let did = c.hand_over-one in
    let merged = c.merge.ensures in
    let added = c.add.ensures in
    let this = c.in-Some.datagram_worker in
    let popped = c.in-Some.ensures.items in
    let longer = length_push c.loop-datagram_worker.ended.inboxes.items did.result.0.inbox in
    let long = ap length added.inboxes in
    let shorter = c.in-Some.ensures.len in
    let one_host = length_push c.loop-datagram_worker.hosts.items did.result.2 in
    let one_more = ap length c.push_reserved.ensures.items in
    record {
      inboxes = one_inbox _ _ this popped _ _ before.inboxes _ did.result.0.inbox added.inboxes did.ensures.mailed.0;
      fault =
          ap (λ b. b || list_any (λ m. m.fault) (reverse c.pop.new.self.items)) added.fault
          ∙ one_fault _ _ this popped c.loop-datagram_worker.ended.fault _ before.fault did.result.0.fault did.ensures.mailed.1;
      handed = (
        before.handed.0 ++ this.server ∷ [],
        one_server _ _ this popped before.handed.0 _ before.handed.1,
        one_handed conduct counting g.H.HandsOver.summed g.H.HandsOver.reached before.handed.0 this.server _ _ _ _ _ _ _ before.handed.2 did.ensures.handed
            merged.parts (ap (λ m. m.holding) merged.same ∙ merged.holding),
      );
      carrier = merged.same ∙ ap (λ (m : Carrying g.row.I.Denot g.row.H.Denot). record m { holding = c.merge.new.self.holding }) before.carrier;
      queue = (rec_before (λ m. m.server.holding.queue ≡ c.args.carrier.now.holding.queue) _ this
          (subst (AllByRecursion (λ m. m.server.holding.queue ≡ c.args.carrier.now.holding.queue)) popped before.queue)).0;
      room = omega (arith, longer, long, before.room, shorter, added.room);
      hosts = omega (arith, one_host, one_more, before.hosts, shorter);
      hosts_room = omega (arith, one_host, one_more, before.hosts_room, shorter, c.push_reserved.ensures.capacity);
      hosts_same = c.push_reserved.ensures.capacity ∙ before.hosts_same;
    }

pub returns-clause-handed : goal.returns-clause-handed
returns-clause-handed g c =
    let conduct = conduct_of g.H.View.seen g.H.Host.told g.H.Host.counts g.H.View.stepped g.H.Host.made g.H.Host.carried in
    let counting = counting_of g.H.CatchUp.counted g.H.HandsOver.none g.H.HandsOver.plus in
    let after = c.loop-datagram_worker.invariant in
    let none : length c.loop-datagram_worker.datagram_workers.items ≡ 0 = omega (arith, c.in_default.ensures.cases.0) in
    subst (λ l. HandsOverMails conduct counting g.H.HandsOver.summed g.H.HandsOver.reached l c.args.carrier.now.holding c.loop-datagram_worker.carrier.holding c.args.sum.now c.loop-datagram_worker.sum)
    (all_servers after.handed.0 _ c.loop-datagram_worker.datagram_workers.items none after.handed.1)
    after.handed.2

pub merge-requires : goal.merge-requires
merge-requires g c =
    let before = c.loop-datagram_worker.invariant in
    let this = c.in-Some.datagram_worker in
    let own = (rec_before (λ m. m.server.holding.queue ≡ c.args.carrier.now.holding.queue) _ this
    (subst (AllByRecursion (λ m. m.server.holding.queue ≡ c.args.carrier.now.holding.queue)) c.in-Some.ensures.items before.queue)).1 in
    record { queue = ap (λ h. h.queue) c.hand_over-one.ensures.handed.held_is ∙ own ∙ sym before.handed.2.queue }

pub returns-clause-carrier : goal.returns-clause-carrier
returns-clause-carrier g c = c.loop-datagram_worker.invariant.carrier

pub returns-clause-hosts_room : goal.returns-clause-hosts_room
returns-clause-hosts_room g c = c.loop-datagram_worker.invariant.hosts_same
