use Rattle.std.proofs.Common.{◌≡◌, ◌≤◌, ◌+◌, ◌++◌, ◌||◌, List, length, map, reverse, vec_len, vec_capacity}
use Rattle.std.specs.List.{AllByRecursion, list_any}
use Rattle.yp_answer.specs.session.Hosts.{conduct_of}
use Rattle.yp_worker.specs.Summing.{counting_of}
use Rattle.yp_worker.specs.datagrams.Mailing.{Mailing}
use Rattle.yp_server.specs.inside.Handing.{HandsOverMails}
use Rattle.yp_server.proofs.datagrams.hand_over_all.Given as goal

abbrev pub invariant-loop-datagram_worker : goal.invariant-loop-datagram_worker
invariant-loop-datagram_worker g l =
    let conduct = conduct_of g.H.View.seen g.H.Host.told g.H.Host.counts g.H.View.stepped g.H.Host.made g.H.Host.carried in
    let counting = counting_of g.H.CatchUp.counted g.H.HandsOver.none g.H.HandsOver.plus in
    record {
      inboxes : l.ended.inboxes.items ++ map (λ m. m.inbox) (reverse l.datagram_workers.items) ≡ map (λ m. m.inbox) (reverse l.fn.datagram_workers.items);
      fault : (l.ended.fault || list_any (λ m. m.fault) (reverse l.datagram_workers.items)) ≡ list_any (λ m. m.fault) (reverse l.fn.datagram_workers.items);
      handed : (done : List (Mailing g.row.H.Denot)) × (done ++ map (λ m. m.server) (reverse l.datagram_workers.items) ≡ map (λ m. m.server) (reverse l.fn.datagram_workers.items))
          × HandsOverMails conduct counting g.H.HandsOver.summed g.H.HandsOver.reached done l.fn.carrier.holding l.carrier.holding l.fn.sum l.sum;
      carrier : l.carrier ≡ record l.fn.carrier { holding = l.carrier.holding };
      queue : AllByRecursion (λ m. m.server.holding.queue ≡ l.fn.carrier.holding.queue) l.datagram_workers.items;
      room : length l.datagram_workers.items + length l.ended.inboxes.items ≤ vec_capacity l.ended.inboxes;
      hosts : length l.hosts.items + length l.datagram_workers.items ≡ length l.fn.hosts.items + length l.fn.datagram_workers.items;
      hosts_room : length l.hosts.items + length l.datagram_workers.items ≤ vec_capacity l.hosts;
      hosts_same : vec_capacity l.hosts ≡ vec_capacity l.fn.hosts;
    }

abbrev pub decreases-loop-datagram_worker : goal.decreases-loop-datagram_worker
decreases-loop-datagram_worker g l = vec_len l.datagram_workers
