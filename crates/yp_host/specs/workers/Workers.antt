-- A host of a worker, and what its calls do.
use Rattle.std.specs.Prelude.{◌≡◌, ◌≢◌, ◌⊎◌, ℕ, List, [], ◌∷◌, ◌++◌, Option, None, Some, IsSome, ⊤}
use Rattle.yp_io.specs.declared.stream.Peer.{Peer}
use Rattle.yp_io.specs.Counts.{next_count}
use Rattle.yp_messages.specs.declared.transfer.XfrStat.{XfrStat}
use Rattle.yp_messages.specs.declared.transfer.XfrStat.TheVariants as stats
use Rattle.yp_version.specs.Versions.{MapVersion}
use Rattle.yp_board.specs.Logs.{Log, shown}
use Rattle.yp_board.specs.Views.{Seen}
use Rattle.yp_answer.specs.declared.make.MakeJob.{MakeJob}
use Rattle.yp_answer.specs.Transfer.{Taken}
use Rattle.yp_publisher.specs.declared.install.Origin.TheVariants.{Fetched}
use Rattle.yp_transfer.specs.HostTable.{HostList, find}
use Rattle.yp_answer.specs.session.Hosts.{Counts}
use Rattle.yp_publisher.specs.sharing.Shares.{IsShownBehind, Learns}
use Rattle.yp_host.specs.declared.workers.call_backs.CallBack.{CallBack}
use Rattle.yp_host.specs.declared.workers.outcome.Group.{Group}
use Rattle.yp_host.specs.declared.workers.outcome.Group.TheVariants.{NoAddress, NoMemory, File, Source, Reached}
use Rattle.yp_host.specs.declared.workers.outcome.Outcomes.{Outcomes}
use Rattle.yp_host.specs.workers.CallBacks.{version_in}
use Rattle.yp_host.specs.workers.Desks.{texts_alone}
use Rattle.yp_host.specs.workers.Outcomes.{counted_in}
use Rattle.yp_host.specs.workers.Makings.{IsMadeSo}
use Rattle.yp_host.specs.workers.Statuses.{HasStatus}
use Rattle.yp_host.specs.Transferring.{asker_of}

-- a host of a worker: its reader, how often it answered FILE and how often SUCC where a map was to be made, how many
-- transfers it carried out, what they came to, and whom it left what to be told
pub record WorkerState (V : Type 0) : Type 0 where
  pub reader : V
  pub files : ℕ
  pub made : ℕ
  pub transfers : ℕ
  pub outcomes : Outcomes
  pub told : List CallBack

abbrev pub counts_of : {V : Type 0} → WorkerState V → Counts
counts_of worker = record { files = worker.files; transfers = worker.transfers }

-- how often FILE was answered, once a map was made with a status
abbrev pub files_after : ℕ → XfrStat → ℕ
files_after files stats.File = next_count files
files_after files _ = files

-- how often SUCC was
abbrev pub made_after : ℕ → XfrStat → ℕ
made_after made stats.Succ = next_count made
made_after made _ = made

-- A read step of the reader was made, and nothing else.
abbrev pub Stepped : {V : Type 0} → (V → V → Type 0) → WorkerState V → WorkerState V → Type 0
Stepped stepped old new = stepped old.reader new.reader × (new ≡ record old { reader = new.reader })

-- A map was made, with this status. The reader knows all that it knew and what the status says, and FILE and SUCC are
-- counted.
pub record WorkerMakesMap {V : Type 0} (seen : V → Seen) (text : List ℕ → Option (List ℕ)) (job : MakeJob)
    (stat : XfrStat)
    (old new : WorkerState V) : Type 0 where
  pub made : IsMadeSo (texts_alone text) (seen old.reader).catalogue job stat
      (seen old.reader).known (seen new.reader).known
  pub learned : Learns (seen old.reader) (seen new.reader)
  pub counted : new ≡ record old {
    reader = new.reader;
    files = files_after old.files stat;
    made = made_after old.made stat;
  }

-- A version that was fetched was shown, last of all that is known, and behind all that was. The last entry fixes it,
-- but for its mark.
pub record IsFetchedBehind (own : List ℕ) (number : ℕ) (old new : Log) : Type 0 where
  pub version : MapVersion
  pub shown : IsShownBehind own number version Fetched old new

-- What the installing of a fetched version came to. Where it isn't shown though its order was told, something is.
abbrev pub IsInstalledTo : List ℕ → ℕ → Group → Log → Log → Type 0
IsInstalledTo own number Reached old new = IsFetchedBehind own number old new ⊎ IsSome (shown number new)
IsInstalledTo own number NoMemory old new = ⊤
IsInstalledTo own number File old new = ⊤
IsInstalledTo own number _ old new = ⊥

-- What a transfer came to.
abbrev pub IsCarriedTo : List ℕ → HostList → Taken → Group → Log → Log → Type 0
IsCarriedTo own hosts taken NoAddress old new = (find taken.source hosts ≡ None) × (new ≡ old)
IsCarriedTo own hosts taken Source old new = (find taken.source hosts ≢ None) × (new ≡ old)
IsCarriedTo own hosts taken group old new =
    (find taken.source hosts ≢ None) × IsInstalledTo own taken.map group old new

-- SUCC says that this version, which was fetched, was shown of a map, last of all that is known, and behind all that
-- was. Any other status comes with no version.
abbrev pub ShowsFetched : List ℕ → ℕ → XfrStat → Option MapVersion → Log → Log → Type 0
ShowsFetched own number stats.Succ (Some version) old new = IsShownBehind own number version Fetched old new
ShowsFetched own number stats.Succ None old new = ⊥
ShowsFetched own number stat version old new = version ≡ None

-- what the caller of a transfer is to be told, with the version that was shown
pub record TellsOf (own : List ℕ) (taken : Taken) (peer : Peer) (call_back : CallBack) (old new : Log) : Type 0 where
  pub asker : call_back.asker ≡ asker_of taken peer
  pub shows : ShowsFetched own taken.map call_back.stat (version_in call_back) old new

-- A transfer was carried out, and counted once, by what it came to. Its caller is to be told its status.
pub record WorkerTransfersMap {V : Type 0} (seen : V → Seen) (hosts : HostList) (taken : Taken) (peer : Peer)
    (old new : WorkerState V)
    : Type 0 where
  pub group : Group
  pub call_back : CallBack
  pub tells : TellsOf (seen old.reader).catalogue.own taken peer call_back
      (seen old.reader).known (seen new.reader).known
  pub outcome : IsCarriedTo (seen old.reader).catalogue.own hosts taken group
      (seen old.reader).known (seen new.reader).known
  pub status : HasStatus (seen old.reader).catalogue hosts taken call_back.stat
      (seen old.reader).known (seen new.reader).known
  pub learned : Learns (seen old.reader) (seen new.reader)
  pub counted : new ≡ record old {
    reader = new.reader;
    transfers = next_count old.transfers;
    outcomes = counted_in group old.outcomes;
    told = old.told ++ call_back ∷ [];
  }
