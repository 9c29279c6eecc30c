-- What the workers of a server counted together, and what covers it.
use Rattle.std.specs.Prelude.{◌≡◌, ◌+◌, ◌<◌, ◌≤◌, ◌||◌, ℕ, Bool, false, List, [], ◌∷◌, ◌++◌, fold, Contains, Option}
use Rattle.std.specs.Prelude.{IsSome, IfSome}
use Rattle.std.specs.List.{All}
use Rattle.yp_io.specs.Counts.{last_count}
use Rattle.yp_io.specs.Disk.{History}
use Rattle.yp_io.specs.Dials.{DialTells}
use Rattle.yp_map_file.specs.Commits.{generation_max}
use Rattle.yp_map_file.specs.Slots.{HasGeneration}
use Rattle.yp_board.specs.Logs.{Log}
use Rattle.yp_answer.specs.session.Hosts.{Conduct}
use Rattle.yp_rpc.specs.Turns.{InboxTells}
use Rattle.yp_publisher.specs.sharing.Failures.{faults_over}
use Rattle.yp_worker.specs.Receptions.{Terms, ListenTells}
use Rattle.yp_worker.specs.datagrams.Mailing.{Deferred}
use Rattle.yp_worker.specs.datagrams.Queues.{WeighTheSame}
use Rattle.yp_worker.specs.Summing.{Counting, SumsUp, counting_of}
use Rattle.yp_host.specs.declared.workers.outcome.Totals.{Totals}
use Rattle.yp_host.specs.workers.Workers.{WorkerState}
use Rattle.yp_host.specs.declared.workers.charges.Counted.{Counted}
use Rattle.yp_host.specs.declared.workers.call_backs.CallBack.{CallBack}
use Rattle.yp_host.specs.workers.CallBacks.{version_in}
use Rattle.yp_host.specs.workers.Wires.{CameByWire}
use Rattle.yp_host.specs.workers.Uses.{IsUsedForTransfers}
use Rattle.yp_host.specs.workers.Charges.{nothing_counted, counted_plus, counted_of}
use Rattle.yp_transfer.specs.HostTable.{HostList}
use Rattle.yp_server.specs.Serving.{MailService, mail_service, ServesDatagrams, CarriesBeside}

-- what inboxes tell at a moment, and the one from which what they left is replied to
pub record MailTells : Type 0 where
  pub boxes : List InboxTells
  pub out : InboxTells

abbrev pub mail_tells : List InboxTells → InboxTells → MailTells
mail_tells boxes out = record { boxes = boxes; out = out }

-- what a listener and inboxes tell at a moment
pub record EndpointTells : Type 0 where
  pub listen : ListenTells
  pub mail : MailTells

abbrev pub endpoint_tells : ListenTells → List InboxTells → InboxTells → EndpointTells
endpoint_tells listen boxes out = record { listen = listen; mail = mail_tells boxes out }

-- what a server's network tells at a moment: its listener and inboxes, and its dial
pub record NetworkTells : Type 0 where
  pub endpoints : EndpointTells
  pub dial : DialTells

abbrev pub network_tells : EndpointTells → DialTells → NetworkTells
network_tells endpoints dial = record { endpoints = endpoints; dial = dial }

-- what a server is started with: what every connection gets, and the most turns of each inbox
pub record ServerTerms : Type 0 where
  pub connections : Terms
  pub turns : ℕ

abbrev pub server_terms : Terms → ℕ → ServerTerms
server_terms connections turns = record { connections = connections; turns = turns }

-- what a server's workers tell at the end: how many records of the connections were read, whether an inbox has failed,
-- and what all of them counted; and what was shown by then
pub record ServerEnd (T : Type 0) : Type 0 where
  pub calls : ℕ
  pub inbox_fault : Bool
  pub counted : T
  pub log : Log

abbrev pub server_end : {T : Type 0} → ℕ → Bool → T → Log → ServerEnd T
server_end calls inbox_fault counted log =
    record { calls = calls; inbox_fault = inbox_fault; counted = counted; log = log }

-- how the hosts of workers count
abbrev pub count_told : {V : Type 0} → Counting (WorkerState V) Counted
count_told = counting_of counted_of nothing_counted counted_plus

-- Datagrams were served by a host that had counted nothing yet, and has counted this then.
pub record CountsDatagrams {H T : Type 0} (service : MailService H T) (fault : Bool) (before after : InboxTells)
    (left : List Deferred) (count : T) : Type 0 where
  pub served : ServesDatagrams service fault before after left
  pub from_none : service.counting.counted served.old ≡ service.counting.none
  pub counted : service.counting.counted served.ended.host ≡ count

-- Inboxes were served, each so, by a host that has counted this then. One of them has failed exactly where that is
-- said.
abbrev pub EachCounts : {H T : Type 0} → MailService H T → (fault : Bool) → (before after : List InboxTells)
    → (left : List Deferred) → (counts : List T) → Type 0
EachCounts service fault [] [] left [] = (fault ≡ false) × (left ≡ [])
EachCounts service fault (old ∷ before) (new ∷ after) left (count ∷ counts) =
    (failed : Bool) × (others : Bool) × (fault ≡ failed || others)
    × (left_here : List Deferred) × (left_there : List Deferred) × (left ≡ left_here ++ left_there)
    × CountsDatagrams service failed old new left_here count
    × EachCounts service others before after left_there counts
EachCounts service fault before after left counts = ⊥

-- What was left was done by a host that had counted nothing yet, and has counted this then: transfers, and the maps
-- that were made for calls.
pub record CountsBeside {H T : Type 0} (service : MailService H T) (fault : Bool) (before after : InboxTells)
    (took : List Deferred) (count : T) : Type 0 where
  pub carries : CarriesBeside service fault before after took
  pub from_none : service.counting.counted carries.old ≡ service.counting.none
  pub counted : service.counting.counted carries.new ≡ count

-- Inboxes were served, each so by a host of its own, and one host more did what those left, beside them, and replied
-- from an inbox of its own. One of all inboxes has failed exactly where that is said. All that was left was done, as
-- often as it was left.
pub record CountsInboxes {H T : Type 0} (service : MailService H T) (fault : Bool) (old new : MailTells)
    (counts : List T) (of_carrier : T) : Type 0 where
  pub failed : Bool
  pub lost : Bool
  pub fault_is : fault ≡ failed || lost
  pub left : List Deferred
  pub took : List Deferred
  pub each : EachCounts service failed old.boxes new.boxes left counts
  pub carrier : CountsBeside service lost old.out new.out took of_carrier
  pub all : WeighTheSame left took

-- What all hosts did and counted: in the connections that workers served, of which so many records were read, in the
-- turns of the datagrams of each inbox, and in what one more did that these left. What was known at the end of each is
-- a front of what was shown by then.
pub record CountsAll {H T : Type 0} (conduct : Conduct H) (counting : Counting H T) (terms : ServerTerms)
    (old new : EndpointTells) (end : ServerEnd T) : Type 0 where
  pub connections : T
  pub datagrams : List T
  pub deferred : T
  pub of_connections : SumsUp conduct counting terms.connections old.listen new.listen
      (record { calls = end.calls; sum = connections; reached = end.log })
  pub of_datagrams : CountsInboxes (mail_service conduct counting terms.connections.catalogue terms.connections.starts
      end.log terms.turns) end.inbox_fault old.mail new.mail datagrams deferred
  pub all_is : end.counted ≡ counting.plus (fold counting.plus connections datagrams) deferred

-- What all hosts did and counted, in totals, and what the dial was used for meanwhile: transfers of the maps alone,
-- from these hosts. Each caller was told what a host left it, and each that a host left something was told it, as often
-- as it was left; and each version that was shown by a transfer whose caller was told so came by a wire.
pub record CountsAndTells {V : Type 0} (conduct : Conduct (WorkerState V)) (terms : ServerTerms) (hosts : HostList)
    (old new : NetworkTells) (end : ServerEnd Totals) : Type 0 where
  pub told : List CallBack
  pub counted : CountsAll conduct count_told terms old.endpoints new.endpoints
      (server_end end.calls end.inbox_fault (record { totals = end.counted; told = told }) end.log)
  pub posted : List CallBack
  pub used : IsUsedForTransfers hosts terms.connections.catalogue.maps posted old.dial new.dial
  pub same : WeighTheSame posted told
  pub came : (call_back : CallBack) → Contains told call_back
      → IfSome (version_in call_back) (CameByWire old.dial.past new.dial.past)

-- A disk tells what a crash may leave, its count of faults doesn't stand at its last value, and the last generation of
-- its file isn't reached.
pub record DiskTellsFaults {D : Type 0} (history : D → Option History) (faults : D → ℕ) (disk : D) : Type 0 where
  pub told : IsSome (history disk)
  pub counts : faults disk < last_count
  pub unspent : HasGeneration (history disk) generation_max → ⊥

-- what is told of files: how often the texts have failed, and the disks of the maps
pub record FileTells (D : Type 0) : Type 0 where
  pub texts : ℕ
  pub disks : List D

abbrev pub file_tells : {D : Type 0} → ℕ → List D → FileTells D
file_tells texts disks = record { texts = texts; disks = disks }

-- The makes and transfers that ended in FILE are together at most what the counts of the texts and of the disks rose
-- by, where no count stands at its last value, and all disks are well.
abbrev pub FilesAreCovered : {D : Type 0} → (D → Option History) → (D → ℕ) → FileTells D → FileTells D → Totals
    → Type 0
FilesAreCovered history faults old new totals =
    new.texts < last_count → All (DiskTellsFaults history faults) new.disks
    → totals.files + totals.outcomes.file + (old.texts + faults_over faults old.disks)
    ≤ new.texts + faults_over faults new.disks
