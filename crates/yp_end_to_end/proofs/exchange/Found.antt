-- What is looked up in a version is within the limits, and is said as it was found.
use Rattle.std.proofs.Common.{◌≡◌, ℕ, ◌≤◌, Bool, true, false, cond, List, [], ◌∷◌, length, Option, Some, None, Result, Ok, Err, bytes_eq, arith, All}
use Rattle.std.specs.Prelude.{IfSome}
use Rattle.std.proofs.lemmas.List.Elements.{All-head, All-tail}
use Rattle.yp_xdr.specs.Kind.{Opaque, Value}
use Rattle.yp_xdr.specs.inside.Laws.{WrittenIsReadAgain}
use Rattle.yp_rpc.specs.inside.Laws.{IsWord}
use Rattle.yp_messages.specs.declared.stat.YpStat.{YpStat}
use Rattle.yp_messages.specs.declared.stat.YpStat.TheVariants.{True, Nomore, Nokey}
use Rattle.yp_messages.specs.Numbers.{key_max, value_max, name_max}
use Rattle.yp_messages.specs.Messages.{resp_val, key_val, resp_master, resp_order, name}
use Rattle.yp_xdr.specs.Kind.{U32}
use Rattle.yp_version.specs.Rows.{Row, value_of, first_of, following}
use Rattle.yp_version.specs.Versions.{MapVersion, IsVersion}
use Rattle.yp_client.specs.declared.fault.ClientFault.TheVariants.{Yp}
use Rattle.yp_client.specs.Results.{value_of as value_read, row_of, master_of, order_of}
use Rattle.yp_answer.specs.Results.{value_found, matched, row_found, no_row, first_row, next_found, next_row, mastered, ordered}
use Rattle.yp_answer.specs.Reply.{success}
use Rattle.yp_end_to_end.specs.exchange.Told.{told, of_version, value_in, master_in, order_in}
use Rattle.yp_end_to_end.specs.inside.exchange.Told.{row_told, first_in, next_told, next_in}
use Rattle.yp_end_to_end.proofs.exchange.Sound.{IsRefusal, IsSound}
use Rattle.yp_end_to_end.proofs.exchange.Values.{value_said, row_said}
use Rattle.std.specs.Option.{ok_or}

-- ---- within the limits

-- the key and the value of a row are within their limits
abbrev pub IsShortRow : Row → Type 0
IsShortRow row = (length row.0 ≤ key_max) × (length row.1 ≤ value_max)

-- each row of a version is
abbrev pub AreShort : List Row → Type 0
AreShort rows = All IsShortRow rows

pub rows_short : (version : MapVersion) → IsVersion version → AreShort version.rows
rows_short version is = λ k d h. (is.keys k d h, is.values k d h)

value_short : (key : List ℕ) (rows : List Row) → AreShort rows → IfSome (value_of key rows) (λ value. length value ≤ value_max)
value_short key [] short = tt
value_short key (row ∷ rows) short = by (bytes_eq row.0 key) (value_short key rows (All-tail IsShortRow row rows short))
  where
    by : (b : Bool) → IfSome (value_of key rows) (λ value. length value ≤ value_max) → IfSome (cond b (Some row.1) (value_of key rows)) (λ value. length value ≤ value_max)
    by true later = (All-head IsShortRow row rows short).1
    by false later = later

pub first_short : (rows : List Row) → AreShort rows → IfSome (first_of rows) IsShortRow
first_short [] short = tt
first_short (row ∷ rows) short = All-head IsShortRow row rows short

pub next_short : (key : List ℕ) (rows : List Row) → AreShort rows → IfSome (following key rows) (λ next. IfSome next IsShortRow)
next_short key [] short = tt
next_short key (row ∷ rows) short = by (bytes_eq row.0 key) (next_short key rows (All-tail IsShortRow row rows short))
  where
    by : (b : Bool) → IfSome (following key rows) (λ next. IfSome next IsShortRow) → IfSome (cond b (Some (first_of rows)) (following key rows)) (λ next. IfSome next IsShortRow)
    by true later = first_short rows (All-tail IsShortRow row rows short)
    by false later = later

-- ---- a value

found_said : WrittenIsReadAgain → (xid : ℕ) (found : Option (List ℕ)) → IsWord xid → IfSome found (λ value. length value ≤ value_max)
    → value_read xid (success xid resp_val (value_found found)) ≡ told (ok_or found Nokey)
found_said law xid None x short = value_said law (Opaque value_max) xid Nokey [] x (omega arith, omega arith)
found_said law xid (Some value) x short = value_said law (Opaque value_max) xid True value x (short, omega arith)

pub matched_said : WrittenIsReadAgain → (xid : ℕ) (key : List ℕ) (held : Result MapVersion YpStat) → IsWord xid → IsSound held
    → value_read xid (success xid resp_val (matched key held)) ≡ told (of_version (value_in key) held)
matched_said law xid key (Ok version) x is = found_said law xid (value_of key version.rows) x (value_short key version.rows (rows_short version is))
matched_said law xid key (Err True) x is = absurd is
matched_said law xid key (Err stat) x is = value_said law (Opaque value_max) xid stat [] x (omega arith, omega arith)

-- ---- a row

row_found_said : WrittenIsReadAgain → (xid : ℕ) (found : Option Row) → IsWord xid → IfSome found IsShortRow → row_of xid (success xid key_val (row_found found)) ≡ told (row_told found)
row_found_said law xid None x short = row_said law xid Nomore [] [] x (omega arith) (omega arith)
row_found_said law xid (Some row) x short = row_said law xid True row.1 row.0 x short.1 short.0

pub refused_row_said : WrittenIsReadAgain → (xid : ℕ) (stat : YpStat) → IsWord xid → IsRefusal stat → row_of xid (success xid key_val (no_row stat)) ≡ Err (Yp stat)
refused_row_said law xid True x is = absurd is
refused_row_said law xid stat x is = row_said law xid stat [] [] x (omega arith) (omega arith)

next_found_said : WrittenIsReadAgain → (xid : ℕ) (found : Option (Option Row)) → IsWord xid → IfSome found (λ next. IfSome next IsShortRow)
    → row_of xid (success xid key_val (next_found found)) ≡ told (next_told found)
next_found_said law xid None x short = row_said law xid Nokey [] [] x (omega arith) (omega arith)
next_found_said law xid (Some next) x short = row_found_said law xid next x short

pub first_said : WrittenIsReadAgain → (xid : ℕ) (held : Result MapVersion YpStat) → IsWord xid → IsSound held → row_of xid (success xid key_val (first_row held)) ≡ told (of_version first_in held)
first_said law xid (Ok version) x is = row_found_said law xid (first_of version.rows) x (first_short version.rows (rows_short version is))
first_said law xid (Err stat) x is = refused_row_said law xid stat x is

pub next_said : WrittenIsReadAgain → (xid : ℕ) (key : List ℕ) (held : Result MapVersion YpStat) → IsWord xid → IsSound held
    → row_of xid (success xid key_val (next_row key held)) ≡ told (of_version (next_in key) held)
next_said law xid key (Ok version) x is = next_found_said law xid (following key version.rows) x (next_short key version.rows (rows_short version is))
next_said law xid key (Err stat) x is = refused_row_said law xid stat x is

-- ---- a master, and an order

pub master_said : WrittenIsReadAgain → (xid : ℕ) (held : Result MapVersion YpStat) → IsWord xid → IsSound held → master_of xid (success xid resp_master (mastered held)) ≡ told (of_version master_in held)
master_said law xid (Ok version) x is = value_said law name xid True version.master x (is.master, omega (arith, is.master))
master_said law xid (Err True) x is = absurd is
master_said law xid (Err stat) x is = value_said law name xid stat [] x (omega arith, omega arith)

pub order_said : WrittenIsReadAgain → (xid : ℕ) (held : Result MapVersion YpStat) → IsWord xid → IsSound held → order_of xid (success xid resp_order (ordered held)) ≡ told (of_version order_in held)
order_said law xid (Ok version) x is = value_said law U32 xid True version.order x is.order
order_said law xid (Err True) x is = absurd is
order_said law xid (Err stat) x is = value_said law U32 xid stat 0 x (omega arith)

-- ---- how long what is found is

found_value_short : (found : Option (List ℕ)) → IfSome found (λ value. length value ≤ value_max) → length (value_found found).1 ≤ value_max
found_value_short None short = omega arith
found_value_short (Some value) short = short

pub matched_short : (key : List ℕ) (held : Result MapVersion YpStat) → IsSound held → length (matched key held).1 ≤ value_max
matched_short key (Ok version) is = found_value_short (value_of key version.rows) (value_short key version.rows (rows_short version is))
matched_short key (Err stat) is = omega arith

-- the value and the key of a result are within their limits
pub record FitsRow (result : Value key_val) : Type 0 where
  pub value : length result.1.0 ≤ value_max
  pub key : length result.1.1 ≤ key_max

no_row_fits : (stat : YpStat) → FitsRow (no_row stat)
no_row_fits stat = record { value = omega arith; key = omega arith }

row_found_fits : (found : Option Row) → IfSome found IsShortRow → FitsRow (row_found found)
row_found_fits None short = no_row_fits Nomore
row_found_fits (Some row) short = record { value = short.1; key = short.0 }

next_found_fits : (found : Option (Option Row)) → IfSome found (λ next. IfSome next IsShortRow) → FitsRow (next_found found)
next_found_fits None short = no_row_fits Nokey
next_found_fits (Some next) short = row_found_fits next short

pub first_fits : (held : Result MapVersion YpStat) → IsSound held → FitsRow (first_row held)
first_fits (Ok version) is = row_found_fits (first_of version.rows) (first_short version.rows (rows_short version is))
first_fits (Err stat) is = no_row_fits stat

pub next_fits : (key : List ℕ) (held : Result MapVersion YpStat) → IsSound held → FitsRow (next_row key held)
next_fits key (Ok version) is = next_found_fits (following key version.rows) (next_short key version.rows (rows_short version is))
next_fits key (Err stat) is = no_row_fits stat

pub mastered_short : (held : Result MapVersion YpStat) → IsSound held → length (mastered held).1 ≤ name_max
mastered_short (Ok version) is = is.master
mastered_short (Err stat) is = omega arith
