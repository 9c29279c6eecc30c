-- What the reply to ALL says: each row behind TRUE and a status, and then FALSE (yp.x). The rows go to a builder, one
-- by one.
use Rattle.std.specs.Prelude.{◌≡◌, ℕ, zero, suc, ◌+◌, ℤ, pos, List, length, Option, Some, None, Result, Ok, Err, ⊤}
use Rattle.std.specs.Prelude.{if◌then◌else◌}
use Rattle.std.specs.Ordering.{int_eq}
use Rattle.yp_xdr.specs.Kind.{Boolean, Opaque}
use Rattle.yp_xdr.specs.Reading.{Remaining}
use Rattle.yp_messages.specs.Numbers.{key_max, value_max}
use Rattle.yp_messages.specs.Statuses.{stat}
use Rattle.yp_version.specs.declared.builder.VersionFault.{VersionFault}
use Rattle.yp_version.specs.Rows.{Row}
use Rattle.yp_version.specs.Drafts.{Draft, refused, with_row}
use Rattle.yp_client.specs.declared.fault.ClientFault.{ClientFault}
use Rattle.yp_client.specs.declared.fault.ClientFault.TheVariants.{Yp, BadReply, Rows, NoMemory}
use Rattle.yp_client.specs.Results.{◌>>=◌, item, stat_with, results_of}

-- what an item says, a row or that there are no more, and what is left behind it
abbrev pub ItemRead : Type 0
ItemRead = Result (Option Row × Remaining) ClientFault

-- a value, and then its key
unfoldable pub row_at : Remaining → ItemRead
row_at left = do
  value ← item (Opaque value_max) left
  key ← item (Opaque key_max) value.1
  Ok (Some (key.0, value.0), key.1)

-- behind a status: TRUE gives a row, NOMORE is the end of the rows, and any other is a refusal
abbrev pub by_row_stat : ℤ → Remaining → ItemRead
by_row_stat number left =
    if int_eq number (pos 1) then row_at left
    else (if int_eq number (pos 2) then Ok (None, left) else Err (Yp (stat_with number)))

-- a status, and what is behind it
unfoldable pub status_at : Remaining → ItemRead
status_at left = do
  status ← item stat left
  by_row_stat status.0 status.1

-- an item: a row behind TRUE and a status that is TRUE, or the end of the rows
unfoldable pub all_item_at : Remaining → ItemRead
all_item_at left = do
  more ← item Boolean left
  if more.0 then status_at more.1 else Ok (None, more.1)

-- what a reply says: the builder behind the rows that were pushed, how many rows were read, those of repeated keys and
-- a refused one
-- among them, and how they end
pub record AllSaid : Type 0 where
  pub draft : Draft
  pub rows : ℕ
  pub end : Result (Unit {0}) ClientFault

-- a row is pushed, and then it goes on; or it is refused
abbrev pub by_refusal : Option VersionFault → Draft → ℕ → AllSaid → AllSaid
by_refusal None draft rows others = others
by_refusal (Some fault) draft rows others =
    record { draft = draft; rows = rows + 1; end = Err (Rows (rows + 1) fault) }

-- by an item that was read, where the others are read behind it
abbrev pub by_item : (Draft → ℕ → Remaining → AllSaid) → Draft → ℕ → ItemRead → AllSaid
by_item others draft rows (Err fault) = record { draft = draft; rows = rows; end = Err fault }
by_item others draft rows (Ok (None, left)) = record { draft = draft; rows = rows; end = Ok tt }
by_item others draft rows (Ok (Some row, left)) =
    by_refusal (refused draft row) draft rows (others (with_row draft row) (rows + 1) left)

-- The rows up to the end or the first refusal, pushed onto a builder, behind some that were read. At most n of them are
-- read. As many as
-- there are bytes are enough, since each takes some.
unfoldable pub filled : ℕ → Draft → ℕ → Remaining → AllSaid
filled zero draft rows left = record { draft = draft; rows = rows; end = Err (BadReply left.at) }
filled (suc n) draft rows left = by_item (filled n) draft rows (all_item_at left)

-- what the results say, where there are any
abbrev pub filled_by : Draft → Result Remaining ClientFault → AllSaid
filled_by draft (Ok left) = filled (length left.bytes) draft 0 left
filled_by draft (Err fault) = record { draft = draft; rows = 0; end = Err fault }

-- what the reply to the call with a number says
unfoldable pub all_said : Draft → ℕ → List ℕ → AllSaid
all_said draft xid message = filled_by draft (results_of xid message)

-- This is said, unless memory ran out for it.
abbrev pub IsSaid : AllSaid → Draft → ℕ → Result (Unit {0}) ClientFault → Type 0
IsSaid said draft rows (Ok done) = said ≡ record { draft = draft; rows = rows; end = Ok done }
IsSaid said draft rows (Err NoMemory) = ⊤
IsSaid said draft rows (Err fault) = said ≡ record { draft = draft; rows = rows; end = Err fault }

-- A call answers what the reply says, and the builder is as the reply has it. So is the number of rows.
abbrev pub SaysAll : Draft → Draft → ℕ → List ℕ → Result (Unit {0}) ClientFault → Type 0
SaysAll before after xid message result = (rows : ℕ) × IsSaid (all_said before xid message) after rows result
