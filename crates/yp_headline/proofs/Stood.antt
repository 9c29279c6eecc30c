-- What a file stands for is what the headline says of its bytes.
use Rattle.std.proofs.Common.{◌≡◌, ℕ, zero, suc, ◌+◌, Bool, true, false, cond, List, [], ◌∷◌, length, take, drop, Option, Some, None, Result, Ok, Err, refl, sym, ap, ◌∙◌, inl, inr, eqb}
use Rattle.std.specs.Prelude.{◌==◌, ◌&&◌, ◌||◌, nat_lt, is_none}
use Rattle.std.specs.Option.{option_and_then, option_map}
use Rattle.std.proofs.lemmas.Bool.Decides.{eqb_tells}
use Rattle.yp_xdr.specs.declared.fault.XdrFault.{XdrFault}
use Rattle.yp_xdr.specs.Kind.{U32, Opaque, Sequence, Value}
use Rattle.yp_xdr.specs.Reading.{Remaining, reading, first_nonzero}
use Rattle.yp_version.specs.Limits.{key_max, value_max, master_max, rows_max}
use Rattle.yp_version.specs.Rows.{Row}
use Rattle.yp_version.specs.Versions.{MapVersion}
use Rattle.yp_map_file.specs.declared.cells.Cell.{Cell}
use Rattle.yp_map_file.specs.declared.cells.Cell.TheVariants.{First, Second}
use Rattle.yp_map_file.specs.Bodies.{◌>>=◌, by_xdr, item, guard, secure_of, BodyHead, head_at, is_over, row_at, rows_at, body_at}
use Rattle.yp_map_file.specs.Cells.{cell_place, bytes_at, is_open, filler, entry, winner}
use Rattle.yp_map_file.specs.Stands.{Stands, Nothing, Stored, Damaged, has_room, by_body, by_entry, by_filler, by_winner, stands}
use Rattle.yp_publisher.specs.Standing.{stands_for}
use Rattle.yp_headline.specs.Storing.{body_kind, row_kind, with_read, rows_read, are_rising, version_read, body_version, number_in, counts, body_in, version_in, greater_in, stood_for}
use Rattle.yp_headline.proofs.Heads.{read_both}

-- ---- steps

bind_ok : {A B : Type 0} (r : Result A _) (f : A → Result B _) (y : B) → (r >>= f) ≡ Ok y
    → (x : A) × (r ≡ Ok x) × (f x ≡ Ok y)
bind_ok (Ok x) f y is = (x, refl, is)
bind_ok (Err wrong) f y is = absurd cc

of_ok : {A : Type 0} (r : Result A XdrFault) (x : A) → by_xdr r ≡ Ok x → r ≡ Ok x
of_ok (Ok y) x is = cc
of_ok (Err fault) x is = absurd cc

pub same_ok : {A W : Type 0} (x y : A) → (let r : Result A W = Ok x in r) ≡ Ok y → x ≡ y
same_ok x y is = cc

guarded : (holds : Bool) (at rule : ℕ) (x : Unit {0}) → guard holds at rule ≡ Ok x → holds ≡ true
guarded true at rule x is = refl
guarded false at rule x is = absurd cc

pub number_is : (a b : ℕ) → eqb a b ≡ true → a ≡ b
number_is a b is = elim (eqb_tells a b) [
  | inl same ↦ same.1
  | inr differ ↦ absurd (let e : false ≡ true = sym differ.0 ∙ is in cc)
]

-- a format, and what it says
formatted : {W : Type 0} (wrong : W) (one two : Bool) (number : ℕ) (secure : Bool) → eqb number 1 ≡ one → eqb number 2 ≡ two
    → cond one (Ok false) (cond two (Ok true) (Err wrong)) ≡ Ok secure → ((one || two) ≡ true) × (secure ≡ two)
formatted wrong true two number secure first second is =
    let one : number ≡ 1 = number_is number 1 first in
    let other : false ≡ two = ap (λ (n : ℕ). eqb n 2) (sym one) ∙ second in
    (refl, sym (same_ok false secure is) ∙ other)
formatted wrong false true number secure first second is = (refl, sym (same_ok true secure is))
formatted wrong false false number secure first second is = absurd cc

-- ---- the rows of a body

abbrev pub in_front : Row → List Row × Remaining → List Row × Remaining
in_front row rows = (row ∷ rows.0, rows.1)

some_rows : (row : Row) (rest : Option (List Row × Remaining)) (rows : List Row) (next : Remaining) → rest ≡ Some (rows, next)
    → option_map (in_front row) rest ≡ Some (row ∷ rows, next)
some_rows row rest rows next is = ap (option_map (in_front row)) is

one_row : (last : Option (List ℕ)) (left next : Remaining) (row : Row) → row_at last left ≡ Ok (row, next)
    → (reading row_kind left ≡ Ok (row, next)) × (is_over last row.0 ≡ true)
unfolding row_at
one_row last left next row is =
    let a = bind_ok (item (Opaque key_max) left)
    (λ key. guard (is_over last key.0) left.at 8 >>= λ over. item (Opaque value_max) key.1 >>= λ value. Ok ((key.0, value.0), value.1))
    (row, next) is in
    let b = bind_ok (guard (is_over last a.0.0) left.at 8)
    (λ over. item (Opaque value_max) a.0.1 >>= λ value. Ok ((a.0.0, value.0), value.1)) (row, next) a.2 in
    let c = bind_ok (item (Opaque value_max) a.0.1) (λ value. Ok ((a.0.0, value.0), value.1)) (row, next) b.2 in
    let same = same_ok ((a.0.0, c.0.0), c.0.1) (row, next) c.2 in
    let over = guarded (is_over last a.0.0) left.at 8 b.0 b.1 in (
      read_both (Opaque key_max) (Opaque value_max) left a.0.1 c.0.1 a.0.0 c.0.0 (of_ok (reading (Opaque key_max) left) a.0 a.1)
          (of_ok (reading (Opaque value_max) a.0.1) c.0 c.1) ∙ ap (λ (r : Row × Remaining). Ok r) same,
      ap (λ (r : Row × Remaining). is_over last r.0.0) (sym same) ∙ over,
    )

-- the rows of a body, in rising order
record Rows (n : ℕ) (last : Option (List ℕ)) (left : Remaining) (rows : List Row) (next : Remaining) : Type 0 where
  read : rows_read n left ≡ Some (rows, next)
  rising : are_rising last rows ≡ true

rows_are : (n : ℕ) (last : Option (List ℕ)) (left next : Remaining) (rows : List Row) → rows_at n last left ≡ Ok (rows, next)
    → Rows n last left rows next
rows_are zero last left next rows is =
    let same = same_ok ([], left) (rows, next) is in
    record { read = ap (λ (r : List Row × Remaining). Some r) same; rising = ap (λ (r : List Row × Remaining). are_rising last r.0) (sym same) }
rows_are (suc n) last left next rows is =
    let a = bind_ok (row_at last left) (λ row. rows_at n (Some row.0.0) row.1 >>= λ rows. Ok (row.0 ∷ rows.0, rows.1)) (rows, next) is in
    let b = bind_ok (rows_at n (Some a.0.0.0) a.0.1) (λ rows. Ok (a.0.0 ∷ rows.0, rows.1)) (rows, next) a.2 in
    let same = same_ok (a.0.0 ∷ b.0.0, b.0.1) (rows, next) b.2 in
    let one = one_row last left a.0.1 a.0.0 a.1 in
    let rest = rows_are n (Some a.0.0.0) a.0.1 b.0.1 b.0.0 b.1 in
    let here : rows_read (suc n) left ≡ Some (a.0.0 ∷ b.0.0, b.0.1) =
    ap (λ (r : Result (Row × Remaining) XdrFault). with_read r (λ row. option_map (in_front row.0) (rows_read n row.1))) one.0
    ∙ some_rows a.0.0 (rows_read n a.0.1) b.0.0 b.0.1 rest.read in
    let rising : are_rising last (a.0.0 ∷ b.0.0) ≡ true =
    ap (λ (b' : Bool). b' && are_rising (Some a.0.0.0) b.0.0) one.1 ∙ rest.rising in
    record {
      read = here ∙ ap (λ (r : List Row × Remaining). Some r) same;
      rising = ap (λ (r : List Row × Remaining). are_rising last r.0) (sym same) ∙ rising;
    }

-- ---- a body

-- what stands before the rows
record Front (left : Remaining) (head : BodyHead) (behind : Remaining) : Type 0 where
  number : ℕ
  read : reading body_kind left ≡ Ok ((number, (head.order, (head.master, head.count))), behind)
  formatted : ((eqb number 1) || (eqb number 2)) ≡ true
  secure : head.secure ≡ eqb number 2
  few : nat_lt head.count (suc rows_max) ≡ true

abbrev pub head_of : Bool → ℕ → List ℕ → ℕ → BodyHead
head_of secure order master count = record { secure = secure; order = order; master = master; count = count }

front_of : (left behind : Remaining) (head : BodyHead) → head_at left ≡ Ok (head, behind) → Front left head behind
unfolding head_at
front_of left behind head is =
    let a = bind_ok (item U32 left) (λ number. secure_of left.at number.0 >>= λ secure. item U32 number.1 >>= λ order.
    item (Opaque master_max) order.1 >>= λ master. item U32 master.1 >>= λ count.
    guard (nat_lt count.0 (suc rows_max)) master.1.at 7 >>= λ few.
    Ok (head_of secure order.0 master.0 count.0, count.1)) (head, behind) is in
    let b = bind_ok (secure_of left.at a.0.0) (λ secure. item U32 a.0.1 >>= λ order.
    item (Opaque master_max) order.1 >>= λ master. item U32 master.1 >>= λ count.
    guard (nat_lt count.0 (suc rows_max)) master.1.at 7 >>= λ few.
    Ok (head_of secure order.0 master.0 count.0, count.1)) (head, behind) a.2 in
    let c = bind_ok (item U32 a.0.1) (λ order.
    item (Opaque master_max) order.1 >>= λ master. item U32 master.1 >>= λ count.
    guard (nat_lt count.0 (suc rows_max)) master.1.at 7 >>= λ few.
    Ok (head_of b.0 order.0 master.0 count.0, count.1)) (head, behind) b.2 in
    let d = bind_ok (item (Opaque master_max) c.0.1) (λ master. item U32 master.1 >>= λ count.
    guard (nat_lt count.0 (suc rows_max)) master.1.at 7 >>= λ few.
    Ok (head_of b.0 c.0.0 master.0 count.0, count.1)) (head, behind) c.2 in
    let e = bind_ok (item U32 d.0.1) (λ count. guard (nat_lt count.0 (suc rows_max)) d.0.1.at 7 >>= λ few.
    Ok (head_of b.0 c.0.0 d.0.0 count.0, count.1)) (head, behind) d.2 in
    let f = bind_ok (guard (nat_lt e.0.0 (suc rows_max)) d.0.1.at 7) (λ few. Ok (head_of b.0 c.0.0 d.0.0 e.0.0, e.0.1))
    (head, behind) e.2 in
    let same = same_ok (head_of b.0 c.0.0 d.0.0 e.0.0, e.0.1) (head, behind) f.2 in
    let format = formatted _ (eqb a.0.0 1) (eqb a.0.0 2) a.0.0 b.0 refl refl b.1 in
    let read = read_both U32 (Sequence U32 (Sequence (Opaque master_max) U32)) left a.0.1 e.0.1 a.0.0 (c.0.0, (d.0.0, e.0.0))
    (of_ok (reading U32 left) a.0 a.1)
    (read_both U32 (Sequence (Opaque master_max) U32) a.0.1 c.0.1 e.0.1 c.0.0 (d.0.0, e.0.0) (of_ok (reading U32 a.0.1) c.0 c.1)
    (read_both (Opaque master_max) U32 c.0.1 d.0.1 e.0.1 d.0.0 e.0.0 (of_ok (reading (Opaque master_max) c.0.1) d.0 d.1)
    (of_ok (reading U32 d.0.1) e.0 e.1))) in
    record {
      number = a.0.0;
      read = read ∙ ap (λ (r : BodyHead × Remaining). Ok ((a.0.0, (r.0.order, (r.0.master, r.0.count))), r.1)) same;
      formatted = format.0;
      secure = ap (λ (r : BodyHead × Remaining). r.0.secure) (sym same) ∙ format.1;
      few = ap (λ (r : BodyHead × Remaining). nat_lt r.0.count (suc rows_max)) (sym same)
          ∙ guarded (nat_lt e.0.0 (suc rows_max)) d.0.1.at 7 f.0 f.1;
    }

abbrev pub of_parts : Bool → ℕ → List ℕ → List Row → MapVersion
of_parts secure order master rows = record { order = order; master = master; secure = secure; rows = rows }

if_both : {A : Type 0} (a b : Bool) (x y : A) → a ≡ true → b ≡ true → cond (a && b) x y ≡ x
if_both a b x y is is' = ap (λ (c : Bool). cond (c && b) x y) is ∙ ap (λ (c : Bool). cond c x y) is'

body_is : (bytes : List ℕ) (version : MapVersion) → body_at bytes ≡ Ok version → body_version bytes ≡ Some version
unfolding body_at
body_is bytes version is =
    let start : Remaining = record { at = 0; bytes = bytes } in
    let a = bind_ok (head_at start) (λ head. rows_at head.0.count None head.1 >>= λ rows. guard (length rows.1.bytes == 0) rows.1.at 9 >>= λ ended.
    Ok (of_parts head.0.secure head.0.order head.0.master rows.0)) version is in
    let b = bind_ok (rows_at a.0.0.count None a.0.1) (λ rows. guard (length rows.1.bytes == 0) rows.1.at 9 >>= λ ended.
    Ok (of_parts a.0.0.secure a.0.0.order a.0.0.master rows.0)) version a.2 in
    let c = bind_ok (guard (length b.0.1.bytes == 0) b.0.1.at 9) (λ ended. Ok (of_parts a.0.0.secure a.0.0.order a.0.0.master b.0.0)) version b.2 in
    let same = same_ok (of_parts a.0.0.secure a.0.0.order a.0.0.master b.0.0) version c.2 in
    let front = front_of start a.0.1 a.0.0 a.1 in
    let rows = rows_are a.0.0.count None a.0.1 b.0.1 b.0.0 b.1 in
    let ended = guarded (length b.0.1.bytes == 0) b.0.1.at 9 c.0 c.1 in
    let head : Value body_kind = (front.number, (a.0.0.order, (a.0.0.master, a.0.0.count))) in
    let rest : version_read head b.0 ≡ Some version =
    if_both (are_rising None b.0.0) (length b.0.1.bytes == 0) (Some (of_parts (eqb front.number 2) a.0.0.order a.0.0.master b.0.0)) None
    rows.rising ended
    ∙ ap (λ (s : Bool). Some (of_parts s a.0.0.order a.0.0.master b.0.0)) (sym front.secure)
    ∙ ap (λ (v : MapVersion). Some v) same in
    ap (λ (r : Result (Value body_kind × Remaining) XdrFault). with_read r (λ head.
    cond ((head.0.0 == 1 || head.0.0 == 2) && nat_lt head.0.1.1.1 (suc rows_max))
    (option_and_then (version_read head.0) (rows_read head.0.1.1.1 head.1)) None)) front.read
    ∙ if_both ((eqb front.number 1) || (eqb front.number 2)) (nat_lt a.0.0.count (suc rows_max))
    (option_and_then (version_read head) (rows_read a.0.0.count a.0.1)) None front.formatted front.few
    ∙ ap (option_and_then (version_read head)) rows.read ∙ rest

-- ---- the file

never_damaged : {P : Type 0} (held : Option MapVersion) (at rule : ℕ) → Damaged at rule ≡ stands_for held → P
never_damaged None at rule is = absurd cc
never_damaged (Some v) at rule is = absurd cc

nothing_held : (held : Option MapVersion) → Nothing ≡ stands_for held → (let o : Option (Option MapVersion) = Some None in o) ≡ Some held
nothing_held None is = refl
nothing_held (Some v) is = absurd cc

version_held : (version : MapVersion) (held : Option MapVersion) → Stored version ≡ stands_for held → held ≡ Some version
version_held version None is = absurd cc
version_held version (Some v) is = cc

by_body_is : (place : ℕ) (read : Result MapVersion _) (held : Option MapVersion) → by_body place read ≡ stands_for held
    → (version : MapVersion) × (read ≡ Ok version) × (held ≡ Some version)
by_body_is place (Ok version) held is = (version, refl, version_held version held is)
by_body_is place (Err wrong) held is = never_damaged held (place + wrong.at) wrong.rule is

filled_is : (cell : ℕ) (first : Option ℕ) (later : Stands) (held : Option MapVersion) → by_filler cell first later ≡ stands_for held
    → (first ≡ None) × (later ≡ stands_for held)
filled_is cell None later held is = (refl, is)
filled_is cell (Some n) later held is = never_damaged held (cell + 1 + n) 3 is

room_is : (room : Bool) (cell : ℕ) (later : Stands) (held : Option MapVersion) → cond room later (Damaged (cell + 16) 4) ≡ stands_for held
    → (room ≡ true) × (later ≡ stands_for held)
room_is true cell later held is = (refl, is)
room_is false cell later held is = never_damaged held (cell + 16) 4 is

in_cell : (cell : Cell) (file : List ℕ) (held : Option MapVersion)
    → by_filler (cell_place cell) (first_nonzero (filler cell file)) (by_entry (cell_place cell) (entry cell file) file) ≡ stands_for held
    → version_in (cell_place cell) file ≡ Some held
unfolding by_entry filler entry bytes_at
in_cell cell file held is =
    let place = number_in (cell_place cell + 16) file in
    let len = number_in (cell_place cell + 24) file in
    let a = filled_is (cell_place cell) (first_nonzero (take 7 (drop (cell_place cell + 1) file)))
    (by_entry (cell_place cell) (entry cell file) file) held is in
    let b = room_is (has_room (entry cell file) (length file)) (cell_place cell)
    (by_body place (body_at (take len (drop place file)))) held a.1 in
    let c = by_body_is place (body_at (take len (drop place file))) held b.1 in
    ap (λ (o : Option ℕ). cond (is_none o) (option_map (λ (v : MapVersion). Some v) (body_in place len file)) None) a.0
    ∙ ap (λ (room : Bool). option_map (λ (v : MapVersion). Some v) (cond room (body_version (take len (drop place file))) None)) b.0
    ∙ ap (λ (o : Option MapVersion). option_map (λ (v : MapVersion). Some v) o) (body_is (take len (drop place file)) c.0 c.1)
    ∙ ap (λ (h : Option MapVersion). Some h) (sym c.2)

-- what stands for a file whose winner is one of four
of_winner : {W : Type 0} {both only_first only_second nobody : W} (k : W → Stands) (file : List ℕ) (held : Option MapVersion)
    (one two equal less : Bool)
    → k (cond one (cond two (cond equal both (cond less only_first only_second)) only_first) (cond two only_second nobody)) ≡ stands_for held
    → k both ≡ Damaged 32 2 → k nobody ≡ Nothing
    → (k only_first ≡ stands_for held → version_in 0 file ≡ Some held)
    → (k only_second ≡ stands_for held → version_in 32 file ≡ Some held)
    → cond one (cond two (cond equal None (cond less (version_in 0 file) (version_in 32 file))) (version_in 0 file))
    (cond two (version_in 32 file) (Some None)) ≡ Some held
of_winner k file held true true true less is damaged nothing in_first in_second = never_damaged held 32 2 (sym damaged ∙ is)
of_winner k file held true true false true is damaged nothing in_first in_second = in_first is
of_winner k file held true true false false is damaged nothing in_first in_second = in_second is
of_winner k file held true false equal less is damaged nothing in_first in_second = in_first is
of_winner k file held false true equal less is damaged nothing in_first in_second = in_second is
of_winner k file held false false equal less is damaged nothing in_first in_second = nothing_held held (sym nothing ∙ is)

sized : (long short : Bool) (later : Stands) (found : Option (Option MapVersion)) (held : Option MapVersion)
    → (later ≡ stands_for held → found ≡ Some held) → cond long (Damaged 50331712 1) (cond short Nothing later) ≡ stands_for held
    → cond long None (cond short (Some None) found) ≡ Some held
sized true short later found held so is = never_damaged held 50331712 1 is
sized false true later found held so is = nothing_held held is
sized false false later found held so is = so is

-- a file that stands for a version, or for none, does so
pub stood : (file : List ℕ) (held : Option MapVersion) → stands file ≡ stands_for held → stood_for file ≡ Some held
unfolding stands by_winner winner is_open filler entry bytes_at
stood file held is = sized (nat_lt 50331712 (length file)) (nat_lt (length file) 64) (by_winner (winner file) file)
    (cond (counts 0 file) (cond (counts 32 file) (greater_in (number_in 8 file) (number_in 40 file) file) (version_in 0 file))
    (cond (counts 32 file) (version_in 32 file) (Some None))) held
    (λ later. of_winner (λ winner. by_winner winner file) file held (counts 0 file) (counts 32 file)
    (number_in 8 file == number_in 40 file) (nat_lt (number_in 40 file) (number_in 8 file)) later refl refl
    (in_cell First file held) (in_cell Second file held)) is
