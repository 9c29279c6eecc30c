-- The version that a body spells, or the first thing that is wrong in it.
use Rattle.std.specs.Prelude.{ℕ, Bool, true, false, zero, suc, List, [], ◌∷◌, length, Option, Some}
use Rattle.std.specs.Prelude.{None, Result, Ok, Err, if◌then◌else◌, ◌==◌, nat_lt}
use Rattle.std.specs.Ordering.{is_lt}
use Rattle.yp_xdr.specs.declared.fault.XdrFault.{XdrFault}
use Rattle.yp_xdr.specs.Faults.{fault_place}
use Rattle.yp_xdr.specs.Kind.{Kind, U32, Opaque, Value}
use Rattle.yp_xdr.specs.Reading.{Remaining, reading}
use Rattle.yp_version.specs.Limits.{key_max, value_max, master_max, rows_max}
use Rattle.yp_version.specs.Rows.{Row, key_cmp}
use Rattle.yp_version.specs.Versions.{MapVersion}
use Rattle.yp_map_file.specs.declared.wrong.Wrong.{Wrong}

-- the value of a step, or where the body is wrong and by which rule
infixl 10 ◌>>=◌
abbrev pub ◌>>=◌ : {A B : Type 0} → Result A Wrong → (A → Result B Wrong) → Result B Wrong
(Ok x) >>= f = f x
(Err wrong) >>= f = Err wrong

-- rule 5: an item is refused
abbrev pub by_xdr : {A : Type 0} → Result A XdrFault → Result A Wrong
by_xdr (Ok x) = Ok x
by_xdr (Err fault) = Err (record { at = fault_place fault; rule = 5 })

-- the next item
abbrev pub item : (kind : Kind) → Remaining → Result (Value kind × Remaining) Wrong
item kind left = by_xdr (reading kind left)

-- a rule that refuses what stands at a place
abbrev pub guard : Bool → ℕ → ℕ → Result (Unit {0}) Wrong
guard holds at rule = if holds then Ok tt else Err (record { at = at; rule = rule })

-- rule 6: the format is neither 1 nor 2
abbrev pub secure_of : ℕ → ℕ → Result Bool Wrong
secure_of at number =
    if number == 1 then Ok false else if number == 2 then Ok true else Err (record { at = at; rule = 6 })

-- what stands before the rows
pub record BodyHead : Type 0 where
  pub secure : Bool
  pub order : ℕ
  pub master : List ℕ
  pub count : ℕ

-- format, order, master and count, of which rule 7 allows no more than the most rows
unfoldable pub head_at : Remaining → Result (BodyHead × Remaining) Wrong
head_at left = do
  number ← item U32 left
  secure ← secure_of left.at number.0
  order ← item U32 number.1
  master ← item (Opaque master_max) order.1
  count ← item U32 master.1
  few ← guard (nat_lt count.0 (suc rows_max)) master.1.at 7
  Ok (record { secure = secure; order = order.0; master = master.0; count = count.0 }, count.1)

-- whether a key is over the one before it, if there is one
abbrev pub is_over : Option (List ℕ) → List ℕ → Bool
is_over None key = true
is_over (Some last) key = is_lt (key_cmp last key)

-- a row; rule 8: its key isn't over the one before it
unfoldable pub row_at : Option (List ℕ) → Remaining → Result (Row × Remaining) Wrong
row_at last left = do
  key ← item (Opaque key_max) left
  over ← guard (is_over last key.0) left.at 8
  value ← item (Opaque value_max) key.1
  Ok ((key.0, value.0), value.1)

-- this many rows
abbrev pub rows_at : ℕ → Option (List ℕ) → Remaining → Result (List Row × Remaining) Wrong
rows_at zero last left = Ok ([], left)
rows_at (suc n) last left = do
  row ← row_at last left
  rows ← rows_at n (Some row.0.0) row.1
  Ok (row.0 ∷ rows.0, rows.1)

-- rule 9: bytes follow the last row
unfoldable pub body_at : List ℕ → Result MapVersion Wrong
body_at bytes = do
  head ← head_at (record { at = 0; bytes = bytes })
  rows ← rows_at head.0.count None head.1
  ended ← guard (length rows.1.bytes == 0) rows.1.at 9
  Ok (record { order = head.0.order; master = head.0.master; secure = head.0.secure; rows = rows.0 })
