-- The reply of ALL in parts, which are given one after the other.
use Rattle.std.specs.Prelude.{◌≡◌, ℕ, ◌-◌, ◌<◌, ◌≤◌, List, [], ◌∷◌, ◌++◌, length, take, drop, map, Some, None, Result}
use Rattle.std.specs.Prelude.{Ok, Err}
use Rattle.std.specs.Option.{ok_or}
use Rattle.yp_xdr.specs.Kind.{Value}
use Rattle.yp_xdr.specs.Spelling.{spelling}
use Rattle.yp_rpc.specs.Records.{joined}
use Rattle.yp_rpc.specs.Reply.{reply_head}
use Rattle.yp_rpc.specs.declared.reply.ReplyHead.TheVariants.{Success}
use Rattle.yp_messages.specs.declared.stat.YpStat.{YpStat}
use Rattle.yp_messages.specs.declared.stat.YpStat.TheVariants.{Nomap}
use Rattle.yp_messages.specs.inside.Messages.{all_item}
use Rattle.yp_version.specs.Rows.{Row}
use Rattle.yp_version.specs.Versions.{MapVersion}
use Rattle.yp_board.specs.Logs.{Log, shown}
use Rattle.yp_answer.specs.Results.{all_items, row_item}

-- a reply of ALL that is given in parts: for which call, of which map or with which status, and how many parts were
-- given
pub record Streamed : Type 0 where
  pub xid : ℕ
  pub source : Result ℕ YpStat
  pub given : ℕ

-- the version of the map, or the status
abbrev pub source_of : Log → Result ℕ YpStat → Result MapVersion YpStat
source_of log (Ok map) = ok_or (shown map log) Nomap
source_of log (Err stat) = Err stat

-- each item, and then the end
abbrev pub items_and_end : Result MapVersion YpStat → List (Value all_item)
items_and_end source = map (λ item. Some item) (all_items source) ++ None ∷ []

-- their bytes, each for itself
abbrev pub item_parts : Result MapVersion YpStat → List (List ℕ)
item_parts source = map (spelling all_item) (items_and_end source)

-- those of rows
abbrev pub row_parts : List Row → List (List ℕ)
row_parts rows = map (spelling all_item) (map (λ item. Some item) (map row_item rows) ++ None ∷ [])

-- how many rows are listed
abbrev pub rows_in : Result MapVersion YpStat → ℕ
rows_in (Ok version) = length version.rows
rows_in (Err stat) = 0

-- the head, each item, and the end
abbrev pub parts : ℕ → Result MapVersion YpStat → List (List ℕ)
parts xid source = reply_head xid Success ∷ item_parts source

-- the parts that are still to be given
abbrev pub parts_left : Log → Streamed → List (List ℕ)
parts_left log stream = drop stream.given (parts stream.xid (source_of log stream.source))

-- a version that a stream has for itself, or the status that refuses it
abbrev pub held_by : {A : Type 0} → (A → MapVersion) → Result A YpStat → Result MapVersion YpStat
held_by value (Ok version) = Ok (value version)
held_by value (Err stat) = Err stat

-- a reply of ALL on a version that it has for itself: for which call, of what, and how many parts were given
pub record Held : Type 0 where
  pub xid : ℕ
  pub source : Result MapVersion YpStat
  pub given : ℕ

-- a stream on what a log shows
abbrev pub held_of : Log → Streamed → Held
held_of log stream = record { xid = stream.xid; source = source_of log stream.source; given = stream.given }

-- the parts that are still to be given
abbrev pub held_parts : Held → List (List ℕ)
held_parts held = drop held.given (parts held.xid held.source)

-- the bytes that a buffer for a piece needs
abbrev pub piece_max : ℕ
piece_max = 135168

-- the parts from one place up to another
abbrev pub between : ℕ → ℕ → List (List ℕ) → List (List ℕ)
between start end parts = take (end - start) (drop start parts)

-- how far a buffer is filled with parts: the number of the next part, the place where it would stand, and the buffer
pub record FilledBuffer : Type 0 where
  pub next : ℕ
  pub at : ℕ
  pub bytes : List ℕ

abbrev pub filled_buffer : ℕ → ℕ → List ℕ → FilledBuffer
filled_buffer next at bytes = record { next = next; at = at; bytes = bytes }

-- The parts from one number up to another were put behind a place, and end at another place.
pub record PutsParts (parts : List (List ℕ)) (old new : FilledBuffer) : Type 0 where
  pub put : take new.at new.bytes ≡ take old.at old.bytes ++ joined (between old.next new.next parts)
  pub within : new.at ≤ length new.bytes
  pub forward : old.next ≤ new.next
  pub later : old.at ≤ new.at
  pub starts : new.next ≡ old.next → new.at ≡ old.at
  pub moved : old.next < new.next → old.at < new.at
  pub inside : old.next < new.next → new.next ≤ length parts

-- Some parts, each of them whole, were given: these bytes are the bytes of those parts, and the other parts are left.
pub record GivesParts (bytes : List ℕ) (old new : List (List ℕ)) : Type 0 where
  pub count : ℕ
  pub given : bytes ≡ joined (take count old)
  pub left : new ≡ drop count old
