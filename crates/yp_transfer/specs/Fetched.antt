-- What is fetched by the bytes that a source sends (ypxfr): a version, or the first cause against it, in the order of
-- the replies.
use Rattle.std.specs.Prelude.{◌≡◌, ◌⊎◌, ℕ, ◌+◌, ◌%◌, ◌^◌, min, List, ◌++◌, length, Some, Result, Ok, Err}
use Rattle.yp_io.specs.Counts.{HasRisen, last_count}
use Rattle.yp_rpc.specs.Records.{Fragments, IsUnfinished, IsLong}
use Rattle.yp_version.specs.Drafts.{Draft}
use Rattle.yp_client.specs.declared.fault.ClientFault.{ClientFault}
use Rattle.yp_client.specs.declared.fault.ClientFault.TheVariants.{Torn, TooLong}
use Rattle.yp_client.specs.Limits.{reply_max, all_max}
use Rattle.yp_client.specs.Results.{order_of, master_of}
use Rattle.yp_client.specs.All.{all_said}
use Rattle.yp_client.specs.States.{ClientState}
use Rattle.yp_transfer.specs.declared.fault.XfrFault.TheVariants.{Rpc, NoMemory}
use Rattle.yp_transfer.specs.Fetching.{Wanted, FetchOutcome, FetchSource, Fetches}

-- a place of a stream where the reply to the call with this number should begin, and the bytes from there on
pub record StreamPlace : Type 0 where
  pub xid : ℕ
  pub at : ℕ
  pub bytes : List ℕ

abbrev pub place_of : ℕ → ℕ → List ℕ → StreamPlace
place_of xid at bytes = record { xid = xid; at = at; bytes = bytes }

-- A whole reply of at most so many bytes begins there, and says this. The next one begins behind it.
pub record IsReplied {V : Type 0} (limit : ℕ) (said : ℕ → List ℕ → Result V ClientFault)
    (answer : Result V ClientFault) (old new : StreamPlace) : Type 0 where
  pub reply : List ℕ
  pub taken : List ℕ
  pub fragments : Fragments limit reply taken
  pub whole : old.bytes ≡ taken ++ new.bytes
  pub says : said old.xid reply ≡ answer
  pub at : new.at ≡ min (old.at + length taken) last_count
  pub xid : new.xid ≡ (old.xid + 1) % 2 ^ 32

-- The bytes end before a reply is whole, or what begins there is too long.
abbrev pub IsUnreplied : {V : Type 0} → ℕ → Result V ClientFault → StreamPlace → Type 0
IsUnreplied limit answer old =
    (IsUnfinished limit old.bytes × (answer ≡ Err (Torn old.at)))
    ⊎ (IsLong limit old.bytes × (answer ≡ Err (TooLong old.at)))

abbrev pub ReadsReply : {V : Type 0} → ℕ → (ℕ → List ℕ → Result V ClientFault) → Result V ClientFault → StreamPlace
    → StreamPlace
    → Type 0
ReadsReply limit said answer old new =
    IsReplied limit said answer old new ⊎ (IsUnreplied limit answer old × (new ≡ old))

-- the rows behind those of a draft, or the first refusal
abbrev pub draft_of : Draft → Result (Unit {0}) ClientFault → Result Draft ClientFault
draft_of draft (Ok done) = Ok draft
draft_of draft (Err fault) = Err fault

abbrev pub rows_of : Draft → ℕ → List ℕ → Result Draft ClientFault
rows_of draft xid reply = draft_of (all_said draft xid reply).draft (all_said draft xid reply).end

-- a source by the bytes that it sends
abbrev pub by_bytes : FetchSource StreamPlace
by_bytes = record {
  order = ReadsReply reply_max order_of;
  master = ReadsReply reply_max master_of;
  rows = λ draft. ReadsReply all_max (rows_of draft);
  limited = ⊥;
}

-- This is fetched by the bytes from a place on. They fix it, and the place behind.
abbrev pub Fetched : Wanted → StreamPlace → FetchOutcome → Type 0
Fetched wanted first outcome = (last : StreamPlace) × Fetches by_bytes wanted outcome first last

-- A wire that failed is answered with Rpc alone.
abbrev pub FailsByWire : FetchOutcome → ClientState → ClientState → Type 0
FailsByWire outcome old new =
    (outcome ≡ Err Rpc) × (HasRisen old.reads new.reads ⊎ HasRisen old.writes new.writes)

-- This is what is fetched by the bytes of a wire that tells them, unless the wire fails or memory runs out.
abbrev pub IsFetched : Wanted → FetchOutcome → ClientState → ClientState → Type 0
IsFetched wanted outcome old new =
    (stream : List ℕ) → old.wire.input ≡ Some stream
    → Fetched wanted (place_of old.xid old.place stream) outcome ⊎ FailsByWire outcome old new
    ⊎ (outcome ≡ Err NoMemory)
