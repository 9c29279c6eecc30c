-- A host: what it tells beside its maps, and what its calls do.
use Rattle.std.specs.Prelude.{◌≡◌, ℕ, Bool, true, false, List, fold, Option, Some, None}
use Rattle.std.specs.Option.{option_map_or}
use Rattle.yp_io.specs.Counts.{next_count}
use Rattle.yp_io.specs.declared.stream.Peer.{Peer}
use Rattle.yp_messages.specs.declared.transfer.XfrStat.{XfrStat}
use Rattle.yp_messages.specs.declared.transfer.XfrStat.TheVariants.{File}
use Rattle.yp_board.specs.Views.{Seen, IsFront}
use Rattle.yp_answer.specs.declared.make.MakeJob.{MakeJob}
use Rattle.yp_answer.specs.declared.procedure.Path.{Path}
use Rattle.yp_answer.specs.Maps.{maps_of}
use Rattle.yp_answer.specs.Transfer.{Taken}
use Rattle.yp_answer.specs.Reply.{Response, Silence, Bytes, Takes, Open, reply, asks, make_reply}
use Rattle.yp_answer.specs.Answers.{StepsWhere}
use Rattle.yp_answer.specs.Causes.{Told, IsCaused}

-- what a host counts, each up to the last count: the replies of FILE, and the transfers that were carried out
pub record Counts : Type 0 where
  pub files : ℕ
  pub transfers : ℕ

-- the counts after a map was made with a status
abbrev pub counts_after : Counts → XfrStat → Counts
counts_after counts File = record counts { files = next_count counts.files }
counts_after counts _ = counts

-- the counts after a transfer was carried out
abbrev pub counts_carried : Counts → Counts
counts_carried counts = record counts { transfers = next_count counts.transfers }

-- what a host tells and counts, and what a read step, the making of a map and a transfer for a caller do to it
pub record Conduct (H : Type 0) : Type 1 where
  pub seen : H → Seen
  pub told : H → Told
  pub counts : H → Counts
  pub stepped : H → H → Type 0
  pub made : MakeJob → XfrStat → H → H → Type 0
  pub carried : Taken → Peer → H → H → Type 0

-- the conduct of a host that tells these, with these relations
abbrev pub conduct_of : {H : Type 0} → (H → Seen) → (H → Told) → (H → Counts) → (H → H → Type 0)
    → (MakeJob → XfrStat → H → H → Type 0) → (Taken → Peer → H → H → Type 0) → Conduct H
conduct_of seen told counts stepped made carried =
    record { seen = seen; told = told; counts = counts; stepped = stepped; made = made; carried = carried }

-- What every host does where a map is made: it does what it says, and its status has a cause. Its catalogue stays, what
-- it knew stays the front of what it knows, and FILE is counted.
pub record Fulfils {H : Type 0} (conduct : Conduct H) (job : MakeJob) (stat : XfrStat) (old new : H) : Type 0 where
  pub made : conduct.made job stat old new
  pub cause : IsCaused (conduct.told old) (conduct.seen old).catalogue job stat
      (conduct.seen old).known (conduct.seen new).known
  pub catalogue : (conduct.seen new).catalogue ≡ (conduct.seen old).catalogue
  pub grown : IsFront (conduct.seen old).known (conduct.seen new).known
  pub counted : conduct.counts new ≡ counts_after (conduct.counts old) stat

-- What every host does where a transfer is carried out: it does what it says. Its catalogue stays, what it knew stays
-- the front of what it knows, and the transfer is counted, whatever came of it.
pub record CarriesOut {H : Type 0} (conduct : Conduct H) (taken : Taken) (peer : Peer) (old new : H) : Type 0 where
  pub carried : conduct.carried taken peer old new
  pub catalogue : (conduct.seen new).catalogue ≡ (conduct.seen old).catalogue
  pub grown : IsFront (conduct.seen old).known (conduct.seen new).known
  pub counted : conduct.counts new ≡ counts_carried (conduct.counts old)

-- what came of a record: its reply, or none, the status of the map that was made for it, where one was, the transfer
-- that the reply took, where it took one, and whether the whole reply was flushed
pub record Turn : Type 0 where
  pub message : List ℕ
  pub answer : Option (List ℕ)
  pub made : Option XfrStat
  pub taken : Option Taken
  pub flushed : Bool

-- the counts after a transfer that was taken, which is carried out where its reply was flushed
abbrev pub counts_where : Bool → Counts → Counts
counts_where true counts = counts_carried counts
counts_where false counts = counts

-- the counts after a record
abbrev pub counts_behind : Counts → Turn → Counts
counts_behind counts turn =
    option_map_or (λ taken. counts_where turn.flushed counts) turn.taken
    (option_map_or (counts_after counts) turn.made counts)

-- the counts after these, one after the other
abbrev pub counts_over : Counts → List Turn → Counts
counts_over counts turns = fold counts_behind counts turns

-- A taken transfer is carried out exactly where its reply was flushed.
abbrev pub CarriesWhere : {H : Type 0} → Bool → Conduct H → Taken → Peer → H → H → Type 0
CarriesWhere true conduct taken peer old new = CarriesOut conduct taken peer old new
CarriesWhere false conduct taken peer old new = new ≡ old

-- What a host does for a record with this response: it makes the map of an open MAKE, whose reply has the status of
-- that, whether or not the reply goes out; it carries out a transfer behind its reply; and else nothing.
abbrev pub Carries : {H : Type 0} → Conduct H → Peer → Response → Turn → H → H → Type 0
Carries conduct peer Silence turn old new =
    (turn.answer ≡ None) × (turn.made ≡ None) × (turn.taken ≡ None) × (new ≡ old)
Carries conduct peer (Bytes bytes) turn old new =
    (turn.answer ≡ Some bytes) × (turn.made ≡ None) × (turn.taken ≡ None) × (new ≡ old)
Carries conduct peer (Takes bytes taken) turn old new =
    (turn.answer ≡ Some bytes) × (turn.made ≡ None) × (turn.taken ≡ Some taken)
    × CarriesWhere turn.flushed conduct taken peer old new
Carries conduct peer (Open xid job) turn old new =
    (stat : XfrStat) × (turn.answer ≡ Some (make_reply xid stat)) × (turn.made ≡ Some stat) × (turn.taken ≡ None)
    × Fulfils conduct job stat old new

-- A host took its read step where the record asks for one, and then did what the reply on what it knows waits for or
-- takes. The host between is the first or the last one, unless a transfer is carried out.
pub record Link {H : Type 0} (conduct : Conduct H) (path : Path) (peer : Peer) (turn : Turn) (old new : H)
    : Type 0 where
  pub mid : H
  pub step : StepsWhere (asks path turn.message) conduct.stepped conduct.seen old mid
  pub uncounted : conduct.counts mid ≡ conduct.counts old
  pub carried : Carries conduct peer (reply path (maps_of (conduct.seen mid)) peer turn.message) turn mid new
