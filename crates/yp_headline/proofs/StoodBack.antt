-- What the headline says of the bytes of a file is what it stands for.
use Rattle.std.proofs.Common.{◌≡◌, ℕ, zero, suc, ◌+◌, Bool, true, false, cond, List, [], ◌∷◌, length, take, drop, Option, Some, None, Result, Ok, Err, refl, sym, ap, ◌∙◌, eqb}
use Rattle.std.specs.Prelude.{◌==◌, ◌&&◌, ◌||◌, nat_lt, is_none}
use Rattle.std.specs.Option.{option_and_then, option_map}
use Rattle.yp_xdr.specs.declared.fault.XdrFault.{XdrFault}
use Rattle.yp_xdr.specs.Kind.{U32, Opaque, Sequence}
use Rattle.yp_xdr.specs.Reading.{Remaining, reading, first_nonzero}
use Rattle.yp_version.specs.Limits.{key_max, value_max, master_max, rows_max}
use Rattle.yp_version.specs.Rows.{Row}
use Rattle.yp_version.specs.Versions.{MapVersion}
use Rattle.yp_map_file.specs.declared.cells.Cell.{Cell}
use Rattle.yp_map_file.specs.declared.cells.Cell.TheVariants.{First, Second}
use Rattle.yp_map_file.specs.Bodies.{◌>>=◌, by_xdr, item, guard, secure_of, head_at, is_over, row_at, rows_at, body_at}
use Rattle.yp_map_file.specs.Cells.{cell_place, bytes_at, is_open, filler, entry, winner}
use Rattle.yp_map_file.specs.Stands.{Stands, Nothing, Damaged, has_room, by_body, by_entry, by_filler, by_winner, stands}
use Rattle.yp_publisher.specs.Standing.{stands_for}
use Rattle.yp_headline.specs.Storing.{body_kind, row_kind, with_read, rows_read, are_rising, version_read, body_version, number_in, counts, body_in, version_in, greater_in, stood_for}
use Rattle.yp_headline.proofs.Heads.{both_read}
use Rattle.yp_headline.proofs.Stood.{same_ok, number_is, in_front, head_of, of_parts}

-- ---- steps

step : {A B : Type 0} (r : Result A _) (f : A → Result B _) {x : A} {y : Result B _} → r ≡ Ok x → f x ≡ y → (r >>= f) ≡ y
step (Ok z) f {x} {y} is goes = ap f (same_ok z x is) ∙ goes
step (Err wrong) f {x} {y} is goes = absurd cc

pub some_same : {A : Type 0} (x y : A) → Some x ≡ Some y → x ≡ y
some_same x y is = cc

read_some : {A B : Type 0} (r : Result A XdrFault) (f : A → Option B) (y : B) → with_read r f ≡ Some y
    → (x : A) × (r ≡ Ok x) × (f x ≡ Some y)
read_some (Ok x) f y is = (x, refl, is)
read_some (Err fault) f y is = absurd cc

pub map_some : {A B : Type 0} (f : A → B) (o : Option A) (y : B) → option_map f o ≡ Some y → (x : A) × (o ≡ Some x) × (f x ≡ y)
map_some f None y is = absurd cc
map_some f (Some x) y is = (x, refl, some_same (f x) y is)

then_some : {A B : Type 0} (f : A → Option B) (o : Option A) (y : B) → option_and_then f o ≡ Some y
    → (x : A) × (o ≡ Some x) × (f x ≡ Some y)
then_some f None y is = absurd cc
then_some f (Some x) y is = (x, refl, is)

pub if_some : {A : Type 0} (b : Bool) (o : Option A) (y : A) → cond b o None ≡ Some y → (b ≡ true) × (o ≡ Some y)
if_some true o y is = (refl, is)
if_some false o y is = absurd cc

pub and_both : (a b : Bool) → (a && b) ≡ true → (a ≡ true) × (b ≡ true)
and_both true b is = (refl, is)
and_both false b is = absurd cc

none_is : (o : Option ℕ) → is_none o ≡ true → o ≡ None
none_is None is = refl
none_is (Some n) is = absurd cc

-- ---- a body

row_ok : (last : Option (List ℕ)) (left next : Remaining) (row : Row) → reading row_kind left ≡ Ok (row, next)
    → is_over last row.0 ≡ true → row_at last left ≡ Ok (row, next)
unfolding row_at
row_ok last left next row read over =
    let both = both_read (Opaque key_max) (Opaque value_max) left row next read in
    step (item (Opaque key_max) left)
    (λ key. guard (is_over last key.0) left.at 8 >>= λ over. item (Opaque value_max) key.1 >>= λ value. Ok ((key.0, value.0), value.1))
    (ap by_xdr both.1)
    (step (guard (is_over last row.0) left.at 8)
    (λ over. item (Opaque value_max) both.0 >>= λ value. Ok ((row.0, value.0), value.1))
    (ap (λ (b : Bool). guard b left.at 8) over)
    (step (item (Opaque value_max) both.0) (λ value. Ok ((row.0, value.0), value.1)) (ap by_xdr both.2) refl))

rows_ok : (n : ℕ) (last : Option (List ℕ)) (left next : Remaining) (rows : List Row) → rows_read n left ≡ Some (rows, next)
    → are_rising last rows ≡ true → rows_at n last left ≡ Ok (rows, next)
rows_ok zero last left next rows is rising =
    ap (λ (r : List Row × Remaining). Ok r) (some_same ([], left) (rows, next) is)
rows_ok (suc n) last left next rows is rising =
    let a = read_some (reading row_kind left) (λ row. option_map (in_front row.0) (rows_read n row.1)) (rows, next) is in
    let b = map_some (in_front a.0.0) (rows_read n a.0.1) (rows, next) a.2 in
    let rises : (is_over last a.0.0.0 && are_rising (Some a.0.0.0) b.0.0) ≡ true =
    ap (λ (r : List Row × Remaining). are_rising last r.0) b.2 ∙ rising in
    let both = and_both (is_over last a.0.0.0) (are_rising (Some a.0.0.0) b.0.0) rises in
    step (row_at last left) (λ row. rows_at n (Some row.0.0) row.1 >>= λ rows. Ok (row.0 ∷ rows.0, rows.1))
    (row_ok last left a.0.1 a.0.0 a.1 both.0)
    (step (rows_at n (Some a.0.0.0) a.0.1) (λ rows. Ok (a.0.0 ∷ rows.0, rows.1))
    (rows_ok n (Some a.0.0.0) a.0.1 b.0.1 b.0.0 b.1 both.1)
    (ap (λ (r : List Row × Remaining). Ok r) b.2))

-- a format that is known
format_by : {W : Type 0} (wrong : W) (one two : Bool) (number : ℕ) → eqb number 1 ≡ one → eqb number 2 ≡ two
    → (one || two) ≡ true → cond one (Ok false) (cond two (Ok true) (Err wrong)) ≡ Ok two
format_by wrong true two number first second is =
    let other : false ≡ two = ap (λ (n : ℕ). eqb n 2) (sym (number_is number 1 first)) ∙ second in ap (λ (b : Bool). Ok b) other
format_by wrong false true number first second is = refl
format_by wrong false false number first second is = absurd cc

format_ok : (number at : ℕ) → (eqb number 1 || eqb number 2) ≡ true → secure_of at number ≡ Ok (eqb number 2)
format_ok number at is = format_by _ (eqb number 1) (eqb number 2) number refl refl is

head_ok : (left behind : Remaining) (number order : ℕ) (master : List ℕ) (count : ℕ)
    → reading body_kind left ≡ Ok ((number, (order, (master, count))), behind) → (eqb number 1 || eqb number 2) ≡ true
    → nat_lt count (suc rows_max) ≡ true → head_at left ≡ Ok (head_of (eqb number 2) order master count, behind)
unfolding head_at
head_ok left behind number order master count read format few =
    let a = both_read U32 (Sequence U32 (Sequence (Opaque master_max) U32)) left (number, (order, (master, count))) behind read in
    let b = both_read U32 (Sequence (Opaque master_max) U32) a.0 (order, (master, count)) behind a.2 in
    let c = both_read (Opaque master_max) U32 b.0 (master, count) behind b.2 in
    step (item U32 left) (λ number. secure_of left.at number.0 >>= λ secure. item U32 number.1 >>= λ order.
    item (Opaque master_max) order.1 >>= λ master. item U32 master.1 >>= λ count.
    guard (nat_lt count.0 (suc rows_max)) master.1.at 7 >>= λ few.
    Ok (head_of secure order.0 master.0 count.0, count.1)) (ap by_xdr a.1)
    (step (secure_of left.at number) (λ secure. item U32 a.0 >>= λ order.
    item (Opaque master_max) order.1 >>= λ master. item U32 master.1 >>= λ count.
    guard (nat_lt count.0 (suc rows_max)) master.1.at 7 >>= λ few.
    Ok (head_of secure order.0 master.0 count.0, count.1)) (format_ok number left.at format)
    (step (item U32 a.0) (λ order.
    item (Opaque master_max) order.1 >>= λ master. item U32 master.1 >>= λ count.
    guard (nat_lt count.0 (suc rows_max)) master.1.at 7 >>= λ few.
    Ok (head_of (eqb number 2) order.0 master.0 count.0, count.1)) (ap by_xdr b.1)
    (step (item (Opaque master_max) b.0) (λ master. item U32 master.1 >>= λ count.
    guard (nat_lt count.0 (suc rows_max)) master.1.at 7 >>= λ few.
    Ok (head_of (eqb number 2) order master.0 count.0, count.1)) (ap by_xdr c.1)
    (step (item U32 c.0) (λ count. guard (nat_lt count.0 (suc rows_max)) c.0.at 7 >>= λ few.
    Ok (head_of (eqb number 2) order master count.0, count.1)) (ap by_xdr c.2)
    (step (guard (nat_lt count (suc rows_max)) c.0.at 7) (λ few. Ok (head_of (eqb number 2) order master count, behind))
    (ap (λ (t : Bool). guard t c.0.at 7) few) refl)))))

pub body_ok : (bytes : List ℕ) (version : MapVersion) → body_version bytes ≡ Some version → body_at bytes ≡ Ok version
unfolding body_at
body_ok bytes version is =
    let start : Remaining = record { at = 0; bytes = bytes } in
    let a = read_some (reading body_kind start) (λ head.
    cond ((eqb head.0.0 1 || eqb head.0.0 2) && nat_lt head.0.1.1.1 (suc rows_max))
    (option_and_then (version_read head.0) (rows_read head.0.1.1.1 head.1)) None) version is in
    let b = if_some ((eqb a.0.0.0 1 || eqb a.0.0.0 2) && nat_lt a.0.0.1.1.1 (suc rows_max))
    (option_and_then (version_read a.0.0) (rows_read a.0.0.1.1.1 a.0.1)) version a.2 in
    let tests = and_both (eqb a.0.0.0 1 || eqb a.0.0.0 2) (nat_lt a.0.0.1.1.1 (suc rows_max)) b.0 in
    let c = then_some (version_read a.0.0) (rows_read a.0.0.1.1.1 a.0.1) version b.1 in
    let made : MapVersion = of_parts (eqb a.0.0.0 2) a.0.0.1.0 a.0.0.1.1.0 c.0.0 in
    let d = if_some (are_rising None c.0.0 && (length c.0.1.bytes == 0)) (Some made) version c.2 in
    let ends = and_both (are_rising None c.0.0) (length c.0.1.bytes == 0) d.0 in
    step (head_at start) (λ head. rows_at head.0.count None head.1 >>= λ rows. guard (length rows.1.bytes == 0) rows.1.at 9 >>= λ ended.
    Ok (of_parts head.0.secure head.0.order head.0.master rows.0))
    (head_ok start a.0.1 a.0.0.0 a.0.0.1.0 a.0.0.1.1.0 a.0.0.1.1.1 a.1 tests.0 tests.1)
    (step (rows_at a.0.0.1.1.1 None a.0.1) (λ rows. guard (length rows.1.bytes == 0) rows.1.at 9 >>= λ ended.
    Ok (of_parts (eqb a.0.0.0 2) a.0.0.1.0 a.0.0.1.1.0 rows.0))
    (rows_ok a.0.0.1.1.1 None a.0.1 c.0.1 c.0.0 c.1 ends.0)
    (step (guard (length c.0.1.bytes == 0) c.0.1.at 9) (λ ended. Ok made) (ap (λ (t : Bool). guard t c.0.1.at 9) ends.1)
    (ap (λ (v : MapVersion). Ok v) (some_same made version d.1))))

-- ---- the file

cell_ok : (cell : Cell) (file : List ℕ) (held : Option MapVersion) → version_in (cell_place cell) file ≡ Some held
    → by_filler (cell_place cell) (first_nonzero (filler cell file)) (by_entry (cell_place cell) (entry cell file) file) ≡ stands_for held
unfolding by_entry filler entry bytes_at
cell_ok cell file held is =
    let place = number_in (cell_place cell + 16) file in
    let len = number_in (cell_place cell + 24) file in
    let a = if_some (is_none (first_nonzero (take 7 (drop (cell_place cell + 1) file))))
    (option_map (λ (v : MapVersion). Some v) (body_in place len file)) held is in
    let b = map_some (λ (v : MapVersion). Some v) (body_in place len file) held a.1 in
    let c = if_some (has_room (entry cell file) (length file)) (body_version (take len (drop place file))) b.0 b.1 in
    let body = body_ok (take len (drop place file)) b.0 c.1 in
    ap (λ (o : Option ℕ). by_filler (cell_place cell) o (by_entry (cell_place cell) (entry cell file) file))
    (none_is (first_nonzero (take 7 (drop (cell_place cell + 1) file))) a.0)
    ∙ ap (λ (room : Bool). cond room (by_body place (body_at (take len (drop place file)))) (Damaged (cell_place cell + 16) 4)) c.0
    ∙ ap (by_body place) body ∙ ap stands_for b.2

of_stood : {W : Type 0} (k : W → Stands) (both only_first only_second nobody : W) (file : List ℕ) (held : Option MapVersion)
    (one two equal less : Bool)
    → cond one (cond two (cond equal None (cond less (version_in 0 file) (version_in 32 file))) (version_in 0 file))
    (cond two (version_in 32 file) (Some None)) ≡ Some held
    → (version_in 0 file ≡ Some held → k only_first ≡ stands_for held)
    → (version_in 32 file ≡ Some held → k only_second ≡ stands_for held)
    → k nobody ≡ Nothing
    → k (cond one (cond two (cond equal both (cond less only_first only_second)) only_first) (cond two only_second nobody)) ≡ stands_for held
of_stood k both a b nobody file held true true true less is in_first in_second nothing = absurd cc
of_stood k both a b nobody file held true true false true is in_first in_second nothing = in_first is
of_stood k both a b nobody file held true true false false is in_first in_second nothing = in_second is
of_stood k both a b nobody file held true false equal less is in_first in_second nothing = in_first is
of_stood k both a b nobody file held false true equal less is in_first in_second nothing = in_second is
of_stood k both a b nobody file held false false equal less is in_first in_second nothing =
    nothing ∙ ap stands_for (some_same None held is)

sized_back : (long short : Bool) (later : Stands) (found : Option (Option MapVersion)) (held : Option MapVersion)
    → (found ≡ Some held → later ≡ stands_for held) → cond long None (cond short (Some None) found) ≡ Some held
    → cond long (Damaged 50331712 1) (cond short Nothing later) ≡ stands_for held
sized_back true short later found held so is = absurd cc
sized_back false true later found held so is = ap stands_for (some_same None held is)
sized_back false false later found held so is = so is

-- what the headline says of its bytes is so
pub stood_back : (file : List ℕ) (held : Option MapVersion) → stood_for file ≡ Some held → stands file ≡ stands_for held
unfolding stands by_winner winner is_open filler entry bytes_at
stood_back file held is = sized_back (nat_lt 50331712 (length file)) (nat_lt (length file) 64) (by_winner (winner file) file)
    (cond (counts 0 file) (cond (counts 32 file) (greater_in (number_in 8 file) (number_in 40 file) file) (version_in 0 file))
    (cond (counts 32 file) (version_in 32 file) (Some None))) held
    (λ found. of_stood (λ winner. by_winner winner file) _ _ _ _ file held (counts 0 file) (counts 32 file)
    (number_in 8 file == number_in 40 file) (nat_lt (number_in 40 file) (number_in 8 file)) found
    (cell_ok First file held) (cell_ok Second file held) refl) is
