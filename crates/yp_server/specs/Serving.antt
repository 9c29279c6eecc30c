-- What is served, and how the maps stand then.
use Rattle.std.specs.Prelude.{◌≡◌, ◌⊎◌, ◌||◌, ℕ, Bool, false, List, [], ◌∷◌, ◌++◌, map, length}
use Rattle.std.specs.Prelude.{Option, None, Result, is_err}
use Rattle.yp_io.specs.Counts.{HasRisen}
use Rattle.yp_io.specs.Disk.{History}
use Rattle.yp_io.specs.declared.stream.Failed.{Failed}
use Rattle.yp_board.specs.Catalogues.{Catalogue}
use Rattle.yp_board.specs.Logs.{Log}
use Rattle.yp_board.specs.Views.{Seen, IsFront}
use Rattle.yp_publisher.specs.Standing.{StoredMap, OfMap, IsStanding, Shows, versions}
use Rattle.yp_transfer.specs.HostTable.{HostList}
use Rattle.yp_answer.specs.session.Hosts.{Counts, Conduct, conduct_of}
use Rattle.yp_rpc.specs.Turns.{InboxTells}
use Rattle.yp_rpc.specs.declared.turns.Ended.{Ended}
use Rattle.yp_worker.specs.datagrams.Mailing.{QueueName, Deferred, Mailing, nothing_held}
use Rattle.yp_worker.specs.datagrams.Queues.{WeighTheSame}
use Rattle.yp_worker.specs.datagrams.Serving.{ServesMail}
use Rattle.yp_worker.specs.datagrams.Carrying.{CarrierStep, Delivers, left_for}
use Rattle.yp_worker.specs.Summing.{Counting}
use Rattle.yp_host.specs.workers.Desks.{texts_alone}
use Rattle.yp_host.specs.workers.Workers.{WorkerState, counts_of, Stepped, WorkerMakesMap, WorkerTransfersMap}

-- what the hosts of workers do whose readers tell this, at a desk with these texts and hosts
abbrev pub conduct_at : {V : Type 0} → (V → Seen) → (V → V → Type 0) → (List ℕ → Option (List ℕ)) → HostList
    → Conduct (WorkerState V)
conduct_at seen stepped text hosts =
    conduct_of (λ host. seen host.reader) (λ host. texts_alone text) counts_of (Stepped stepped)
    (WorkerMakesMap seen text)
    (WorkerTransfersMap seen hosts)

-- A reader of these maps knows what was shown at the start.
pub record IsAtStart (catalogue : Catalogue) (starts : Log) (seen : Seen) : Type 0 where
  pub catalogue_is : seen.catalogue ≡ catalogue
  pub known : seen.known ≡ starts

-- a server of datagrams for which no transfer waits, with one part of a queue, in which it has left nothing
abbrev pub at_rest : {H : Type 0} → QueueName → H → Mailing H
at_rest queue host = record { host = host; waiting = None; holding = nothing_held queue 1 }

-- nothing was counted yet
abbrev pub no_counts : Counts
no_counts = record { files = 0; transfers = 0 }

-- how the datagrams of inboxes are served: what each host does and how it counts, which maps it serves, what was shown
-- at the start and at the end, and the most turns of an inbox
pub record MailService (H T : Type 0) : Type 1 where
  pub conduct : Conduct H
  pub counting : Counting H T
  pub catalogue : Catalogue
  pub starts : Log
  pub log : Log
  pub turns : ℕ

abbrev pub mail_service : {H T : Type 0} → Conduct H → Counting H T → Catalogue → (starts log : Log) → (turns : ℕ)
    → MailService H T
mail_service conduct counting catalogue starts log turns = record {
  conduct = conduct;
  counting = counting;
  catalogue = catalogue;
  starts = starts;
  log = log;
  turns = turns;
}

-- A host that knew these maps at the start, and had counted nothing, had so many turns of an inbox at most: each
-- datagram of at most 8,192 bytes got its reply, or silence, on what the host then knew, before the next turn, unless a
-- map may be made for it and it was left for a carrier. All turns were taken, or the inbox has failed, exactly where
-- that is said. Each transfer that a datagram took whose reply went out was carried out by the host behind that, or
-- left. What the host knew then is a front of this log.
pub record ServesDatagrams {H T : Type 0} (service : MailService H T) (fault : Bool) (before after : InboxTells)
    (left : List Deferred) : Type 0 where
  pub queue : QueueName
  pub old : H
  pub ended : Mailing H
  pub start : IsAtStart service.catalogue service.starts (service.conduct.seen old)
  pub fresh : service.conduct.counts old ≡ no_counts
  pub end : Result Ended Failed
  pub fault_is : fault ≡ is_err end
  pub serves : ServesMail service.conduct service.counting.counted service.turns end (at_rest queue old) ended
      before after
  pub left_is : left ≡ ended.holding.left
  pub shown : IsFront (service.conduct.seen ended.host).known service.log

-- Inboxes were served, each so by a host of its own, with what was left at each. One of them has failed exactly where
-- that is said.
abbrev pub EachServes : {H T : Type 0} → MailService H T → (fault : Bool) → (before after : List InboxTells)
    → (left : List Deferred) → Type 0
EachServes service fault [] [] left = (fault ≡ false) × (left ≡ [])
EachServes service fault [] (new ∷ after) left = ⊥
EachServes service fault (old ∷ before) [] left = ⊥
EachServes service fault (old ∷ before) (new ∷ after) left =
    (failed : Bool) × (others : Bool) × (fault ≡ failed || others)
    × (left_here : List Deferred) × (left_there : List Deferred) × (left ≡ left_here ++ left_there)
    × ServesDatagrams service failed old new left_here × EachServes service others before after left_there

-- A host that knew these maps at the start, and had counted nothing, did this, which was left for it: it carried out
-- transfers, and answered calls, each on no less than was known when it was left, and sent the replies from an inbox,
-- in their order. Where the inbox has failed, as is said, it sent no more. What the host knew then is a front of this
-- log.
pub record CarriesBeside {H T : Type 0} (service : MailService H T) (fault : Bool) (before after : InboxTells)
    (took : List Deferred) : Type 0 where
  pub old : H
  pub new : H
  pub start : IsAtStart service.catalogue service.starts (service.conduct.seen old)
  pub fresh : service.conduct.counts old ≡ no_counts
  pub steps : List CarrierStep
  pub unsent : List CarrierStep
  pub delivers : Delivers service.conduct service.counting.counted (record { sent = steps; unsent = unsent }) fault
      (record { host = old; inbox = before }) (record { host = new; inbox = after })
  pub took_is : took ≡ map left_for (steps ++ unsent)
  pub shown : IsFront (service.conduct.seen new).known service.log

-- Inboxes were served, each so by a host of its own, and beside them one host more did what those left, and replied
-- from an inbox of its own. One of all inboxes has failed exactly where that is said. All that was left was done, as
-- often as it was left.
pub record ServesInboxes {H T : Type 0} (service : MailService H T) (fault : Bool) (before after : List InboxTells)
    (out out' : InboxTells) : Type 0 where
  pub failed : Bool
  pub lost : Bool
  pub fault_is : fault ≡ failed || lost
  pub left : List Deferred
  pub took : List Deferred
  pub each : EachServes service failed before after left
  pub carrier : CarriesBeside service lost out out' took
  pub all : WeighTheSame left took

-- One of these counts has risen.
abbrev pub SomeHasRisen : (before after : List ℕ) → Type 0
SomeHasRisen [] [] = ⊥
SomeHasRisen [] (new ∷ after) = ⊥
SomeHasRisen (old ∷ before) [] = ⊥
SomeHasRisen (old ∷ before) (new ∷ after) = HasRisen old new ⊎ SomeHasRisen before after

-- Disks of maps, in their order. Whatever a crash may leave of one stands for what the log shows of its map, or, where
-- that is behind, for that or for the version whose install failed. The versions that are kept are those that the log
-- shows.
pub record DisksStand {D : Type 0} (history : D → Option History) (catalogue : Catalogue) (log : Log) (disks : List D)
    : Type 0 where
  pub kept : List (StoredMap D)
  pub disks_are : disks ≡ map (λ kept. kept.disk) kept
  pub count : length kept ≡ length catalogue.maps
  pub shows : Shows log (versions kept)
  pub standing : (number : ℕ) → OfMap number kept (IsStanding history)
