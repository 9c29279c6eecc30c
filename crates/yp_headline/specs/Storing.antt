-- What a map's file stands for, in a layout of this project's own: two cells of 32 bytes, and bodies behind them.
use Rattle.std.specs.Prelude.{ℕ, ◌+◌, zero, suc, Bool, true, ◌&&◌}
use Rattle.std.specs.Prelude.{◌||◌, ◌==◌, nat_lt, nat_le, if◌then◌else◌, List, [], ◌∷◌}
use Rattle.std.specs.Prelude.{length, take, drop, slice_index, Option, Some, None, is_none, Result, Ok, Err}
use Rattle.std.specs.Option.{option_and_then, option_map}
use Rattle.std.specs.Int.{w64, from_be_bytes}
use Rattle.yp_xdr.specs.declared.fault.XdrFault.{XdrFault}
use Rattle.yp_xdr.specs.Kind.{Kind, U32, Opaque, Sequence, Value}
use Rattle.yp_xdr.specs.Reading.{Remaining, reading, first_nonzero}
use Rattle.yp_version.specs.Limits.{key_max, value_max, master_max, rows_max, body_max}
use Rattle.yp_version.specs.Rows.{Row}
use Rattle.yp_version.specs.Versions.{MapVersion}
use Rattle.yp_map_file.specs.Bodies.{is_over}

-- ---- a body

-- its format, 1, or 2 of a secure version, its order, its master, and how many rows follow
abbrev pub body_kind : Kind
body_kind = Sequence U32 (Sequence U32 (Sequence (Opaque master_max) U32))

abbrev pub row_kind : Kind
row_kind = Sequence (Opaque key_max) (Opaque value_max)

-- what is made of a value that is read
abbrev pub with_read : {A B : Type 0} → Result A XdrFault → (A → Option B) → Option B
with_read (Ok read) made = made read
with_read (Err fault) made = None

-- so many rows
abbrev pub rows_read : ℕ → Remaining → Option (List Row × Remaining)
rows_read zero left = Some ([], left)
rows_read (suc n) left = with_read (reading row_kind left)
    (λ row. option_map (λ rows. (row.0 ∷ rows.0, rows.1)) (rows_read n row.1))

-- each key is over the one before it
abbrev pub are_rising : Option (List ℕ) → List Row → Bool
are_rising last [] = true
are_rising last (row ∷ rows) = is_over last row.0 && are_rising (Some row.0) rows

-- the version of a head and its rows, where nothing is behind these
abbrev pub version_read : Value body_kind → List Row × Remaining → Option MapVersion
version_read head rows =
    if are_rising None rows.0 && length rows.1.bytes == 0
    then Some (record { order = head.1.0; master = head.1.1.0; secure = head.0 == 2; rows = rows.0 }) else None

abbrev pub body_version : List ℕ → Option MapVersion
body_version bytes = with_read (reading body_kind (record { at = 0; bytes = bytes })) (λ head.
    if (head.0.0 == 1 || head.0.0 == 2) && nat_lt head.0.1.1.1 (suc rows_max)
    then option_and_then (version_read head.0) (rows_read head.0.1.1.1 head.1) else None)

-- ---- the cells

-- the most bytes of a file
abbrev pub most_bytes : ℕ
most_bytes = 50331712

-- eight bytes as a number, the highest first
abbrev pub number_in : ℕ → List ℕ → ℕ
number_in at file = from_be_bytes w64 (take 8 (drop at file))

-- a cell counts where its first byte is 1
abbrev pub counts : ℕ → List ℕ → Bool
counts cell file = slice_index file cell == 1

-- the body of a cell that counts: zeros, a generation, the place of the body, and its length
abbrev pub body_in : (place len : ℕ) → List ℕ → Option MapVersion
body_in place len file =
    if nat_le 64 place && nat_lt 0 len && nat_le len body_max && nat_le (place + len) (length file)
    then body_version (take len (drop place file)) else None

abbrev pub version_in : ℕ → List ℕ → Option (Option MapVersion)
version_in cell file =
    if is_none (first_nonzero (take 7 (drop (cell + 1) file))) then option_map (λ version. Some version)
    (body_in (number_in (cell + 16) file) (number_in (cell + 24) file) file) else None

-- of two cells that count the one with the greater generation
abbrev pub greater_in : (first second : ℕ) → List ℕ → Option (Option MapVersion)
greater_in first second file =
    if first == second then None else (if nat_lt second first then version_in 0 file else version_in 32 file)

-- what a file stands for: a version, or none; nothing is said of one that is damaged
abbrev pub stood_for : List ℕ → Option (Option MapVersion)
stood_for file =
    if nat_lt most_bytes (length file) then None else (if nat_lt (length file) 64 then Some None else (if counts 0 file
    then (if counts 32 file then greater_in (number_in 8 file) (number_in 40 file) file else version_in 0 file)
    else (if counts 32 file then version_in 32 file else Some None)))
