-- Workers that have counted nothing yet.
use Rattle.std.specs.Prelude.{◌≡◌, ℕ, false}
use Rattle.yp_board.specs.Catalogues.{Catalogue}
use Rattle.yp_board.specs.Logs.{Log}
use Rattle.yp_answer.specs.session.Hosts.{Conduct}
use Rattle.yp_worker.specs.Summing.{Counting}
use Rattle.yp_worker.specs.datagrams.Mailing.{QueueName, nothing_held}
use Rattle.yp_worker.specs.inside.Mailing.{Carrying}
use Rattle.yp_server.specs.declared.datagrams.DatagramWorker.{DatagramWorker}
use Rattle.yp_server.specs.Serving.{at_rest, no_counts, IsAtStart}

-- what workers of datagrams are started with: which maps they serve, what was shown at the start, the queue of what
-- they leave, and the most turns of an inbox
pub record MailStart : Type 0 where
  pub catalogue : Catalogue
  pub starts : Log
  pub queue : QueueName
  pub turns : ℕ

abbrev pub mail_start : Catalogue → Log → QueueName → ℕ → MailStart
mail_start catalogue starts queue turns =
    record { catalogue = catalogue; starts = starts; queue = queue; turns = turns }

-- A worker of datagrams has this inbox and so many turns of it, and a host that knows what was shown at the start and
-- has counted nothing yet. It has one part of the queue.
pub record BeginsMail {I J H F R T : Type 0} (conduct : Conduct H) (counting : Counting H T) (mail : MailStart)
    (inbox : I) (datagram_worker : DatagramWorker I J H F R) : Type 0 where
  pub host : H
  pub inbox_is : datagram_worker.inbox ≡ inbox
  pub turns_are : datagram_worker.turns ≡ mail.turns
  pub server_is : datagram_worker.server ≡ at_rest mail.queue host
  pub start : IsAtStart mail.catalogue mail.starts (conduct.seen host)
  pub fresh : conduct.counts host ≡ no_counts
  pub from_none : counting.counted host ≡ counting.none

-- A carrier has a host that knows what was shown at the start and has counted nothing yet, and its inbox hasn't failed.
-- It has these parts of the queue, and has taken nothing over from there.
pub record BeginsCarrying {I H T : Type 0} (conduct : Conduct H) (counting : Counting H T) (catalogue : Catalogue)
    (starts : Log) (carrier : Carrying I H) : Type 0 where
  pub start : IsAtStart catalogue starts (conduct.seen carrier.host)
  pub fresh : conduct.counts carrier.host ≡ no_counts
  pub from_none : counting.counted carrier.host ≡ counting.none
  pub holding : carrier.holding ≡ nothing_held carrier.holding.queue carrier.holding.parts
  pub well : carrier.fault ≡ false
