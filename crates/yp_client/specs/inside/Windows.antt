-- A reply that is read piece by piece: what its record has given, and what of it stands in the buffer.
use Rattle.std.specs.Prelude.{◌≡◌, ℕ, ◌+◌, ◌≤◌, ◌⊎◌, Bool, true, false, List, [], ◌++◌, length, slice_range, Option}
use Rattle.std.specs.Prelude.{Some, Result, Ok, Err, IfErr, ⊤}
use Rattle.yp_xdr.specs.Reading.{Remaining}
use Rattle.yp_rpc.specs.declared.record.RecordFault.{RecordFault}
use Rattle.yp_rpc.specs.Records.{TakesRecord, record_start}
use Rattle.yp_rpc.specs.Pieces.{ReaderState, not_begun}
use Rattle.yp_rpc.specs.inside.Pieces.{HasGiven, HasNoPiece}
use Rattle.yp_version.specs.declared.builder.VersionFault.{VersionFault}
use Rattle.yp_version.specs.Drafts.{Draft}
use Rattle.yp_client.specs.declared.fault.ClientFault.{ClientFault}
use Rattle.yp_client.specs.declared.fault.ClientFault.TheVariants.{Rows, NoMemory}
use Rattle.yp_client.specs.declared.all.AllReply.{AllReply}
use Rattle.yp_client.specs.Limits.{all_max}
use Rattle.yp_client.specs.Results.{results_of}
use Rattle.yp_client.specs.All.{AllSaid, filled, all_said, IsSaid}

-- the most bytes of an item: two words, and a value and a key of 65536 bytes, each behind its length
abbrev pub item_max : ℕ
item_max = 131088

-- Some bytes stand in the buffer.
pub record StandsIn (reply : AllReply) (buf : List ℕ) : Type 0 where
  pub order : reply.start ≤ reply.end
  pub fits : reply.end ≤ length buf

-- the bytes that stand in the buffer and are still to be read
abbrev pub waiting : AllReply → List ℕ → List ℕ
waiting reply buf = slice_range buf reply.start reply.end

-- what is left to read, where so much more of the record comes
abbrev pub ahead : AllReply → List ℕ → List ℕ → Remaining
ahead reply buf more = record { at = reply.at; bytes = waiting reply buf ++ more }

-- how far a record was read: what its source has left, the reader, and whether the end was met
pub record RecordProgress : Type 0 where
  pub input : Option (List ℕ)
  pub reader : ReaderState
  pub whole : Bool

abbrev pub progress : Option (List ℕ) → ReaderState → Bool → RecordProgress
progress input reader whole = record { input = input; reader = reader; whole = whole }

-- These bytes of a record were read. The record begins at a place of the source. Once its end was met, they are all of
-- it.
abbrev pub HasRead : List ℕ → Option (List ℕ) → ℕ → Option (List ℕ) → ReaderState → Bool → Type 0
HasRead front start place input reader false = HasGiven all_max front start input reader.part × (reader.place ≡ place)
HasRead front start place input reader true =
    TakesRecord all_max front start input place reader.place × (reader.part ≡ not_begun)

abbrev pub HasReadUpTo : List ℕ → Option (List ℕ) → ℕ → RecordProgress → Type 0
HasReadUpTo front start place now = HasRead front start place now.input now.reader now.whole

-- Of whatever record it is, so much more was given.
abbrev pub GivesMore : List ℕ → RecordProgress → RecordProgress → Type 0
GivesMore more old new =
    (front : List ℕ) (start : Option (List ℕ)) (place : ℕ) → HasReadUpTo front start place old
    → HasReadUpTo (front ++ more) start place new

-- Some record is being read, of which so many bytes were given.
pub record IsUnderway (count : ℕ) (now : RecordProgress) : Type 0 where
  pub front : List ℕ
  pub start : Option (List ℕ)
  pub place : ℕ
  pub reached : HasReadUpTo front start place now
  pub counted : length front ≡ count

-- Behind the end of a record nothing more comes.
abbrev pub MayCome : List ℕ → Bool → Type 0
MayCome more whole = whole ≡ true → more ≡ []

-- Where its end was met, nothing more was read.
abbrev pub StaysWhole : List ℕ → Bool → Bool → Type 0
StaysWhole more old new = old ≡ true → (more ≡ []) × (new ≡ true)

-- More of the record was taken, and stands in the buffer behind what stood there.
abbrev pub TakesMore : AllReply → AllReply → List ℕ → List ℕ → RecordProgress → RecordProgress → Type 0
TakesMore old new buf buf' was now =
    (more : List ℕ) × StaysWhole more was.whole now.whole × GivesMore more was now
    × (waiting new buf' ≡ waiting old buf ++ more)

-- Why no more of the record came, whichever it is: what its source had left, and how its count of faults rose.
abbrev pub IsCutOff : {X : Type 0} → Result X RecordFault → RecordProgress → Option (List ℕ) → ℕ → ℕ → Type 0
IsCutOff result was input before after =
    (front : List ℕ) (start : Option (List ℕ)) (place : ℕ) → HasReadUpTo front start place was
    → IfErr result (HasNoPiece (record_start all_max place start) input before after)

-- An item stands whole in the buffer, or the record ends in it.
abbrev pub HasItem : AllReply → List ℕ → Type 0
HasItem reply buf = (item_max ≤ length (waiting reply buf)) ⊎ (reply.whole ≡ true)

-- The results begin at what is left, or the fault is that of the head.
abbrev pub Heads : {X : Type 0} → ℕ → List ℕ → Result X ClientFault → Remaining → Type 0
Heads xid message (Ok done) left = results_of xid message ≡ Ok left
Heads xid message (Err fault) left = results_of xid message ≡ Err fault

-- Why the row with this number was refused: by its cause, or for want of memory.
abbrev pub IsRowRefusal : ℕ → Option VersionFault → ClientFault → Type 0
IsRowRefusal row cause (Rows number fault) = (number ≡ row) × (cause ≡ Some fault)
IsRowRefusal row cause NoMemory = ⊤
IsRowRefusal row cause fault = ⊥

-- a builder that is being filled, how many rows were read for it, and what is left to read
pub record Filling : Type 0 where
  pub draft : Draft
  pub rows : ℕ
  pub left : Remaining

-- the same of a reply, where so much more of the record comes
abbrev pub filling : Draft → AllReply → List ℕ → List ℕ → Filling
filling draft reply buf more = record { draft = draft; rows = reply.rows; left = ahead reply buf more }

-- what is said from there on, where at most n rows are read
abbrev pub filled_from : ℕ → Filling → AllSaid
filled_from n now = filled n now.draft now.rows now.left

-- One item was read, and a row was pushed: what was said from there on is said from here on. Or it is the end of the
-- rows, or a refusal.
abbrev pub Advances : Filling → Filling → Result Bool ClientFault → ℕ → Type 0
Advances old new (Ok true) n = filled_from (n + 1) old ≡ filled_from n new
Advances old new (Ok false) n = IsSaid (filled_from (n + 1) old) new.draft new.rows (Ok tt)
Advances old new (Err fault) n = IsSaid (filled_from (n + 1) old) new.draft new.rows (Err fault)

-- what is answered of a reply: the builder, the rows that were read, and how they end
abbrev pub answered : Draft → AllReply → Result (Unit {0}) ClientFault → AllSaid
answered draft reply end = record { draft = draft; rows = reply.rows; end = end }

-- More of the record was read, and all rows that it says were pushed, up to the end or the first refusal, whatever
-- comes behind.
pub record PushesRows (before : Draft) (old : AllReply) (buf : List ℕ) (was now : RecordProgress)
    (answer : AllSaid) : Type 0 where
  pub more : List ℕ
  pub stays : StaysWhole more was.whole now.whole
  pub given : GivesMore more was now
  pub said : (rest : List ℕ) (n : ℕ) → MayCome rest now.whole → length (waiting old buf ++ (more ++ rest)) ≤ n
      → IsSaid (filled_from n (filling before old buf (more ++ rest))) answer.draft answer.rows answer.end

-- A reply was read from its start, as far as its rows go, and says this, whatever comes behind.
pub record SaysSoFar (before : Draft) (xid : ℕ) (answer : AllSaid) (start : Option (List ℕ)) (place : ℕ)
    (now : RecordProgress) : Type 0 where
  pub front : List ℕ
  pub reached : HasReadUpTo front start place now
  pub said : (rest : List ℕ) → MayCome rest now.whole
      → IsSaid (all_said before xid (front ++ rest)) answer.draft answer.rows answer.end
