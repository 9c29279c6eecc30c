-- Rows of a body that are read through a window are those of the body.
use Rattle.std.proofs.Common.{◌≡◌, ℕ, zero, suc, ◌+◌, ◌-◌, ◌<◌, ◌≤◌, Bool, true, false, cond, eqb, ltb, List, [], ◌∷◌, ◌++◌, length, drop}
use Rattle.std.proofs.Common.{Option, Some, Result, Ok, Err, refl, sym, ap, subst, ◌∙◌, arith, inl, inr}
use Rattle.std.proofs.lemmas.Bool.Decides.{nat_tests}
use Rattle.std.proofs.lemmas.List.{append-nil, length-append, length-drop, drop-drop}
use Rattle.yp_xdr.specs.declared.fault.XdrFault.{XdrFault}
use Rattle.yp_xdr.specs.declared.fault.XdrFault.TheVariants.{Short, TooLong, Pad, BadBool, BadEnum}
use Rattle.yp_xdr.specs.Kind.{Kind, Opaque, U32}
use Rattle.yp_xdr.specs.Faults.{fault_place}
use Rattle.yp_xdr.specs.Reading.{Remaining, reading}
use Rattle.yp_version.specs.Limits.{key_max, value_max, master_max, rows_max}
use Rattle.yp_version.specs.Rows.{Row}
use Rattle.yp_map_file.specs.declared.wrong.Wrong.{Wrong}
use Rattle.yp_map_file.specs.Bodies.{◌>>=◌, by_xdr, item, guard, secure_of, is_over, row_at, rows_at, BodyHead, head_at}
use Rattle.yp_map_file.specs.inside.Surveys.{row_max, has_row, rest_of, behind, MayFollow, before, ReadsOn}
use Rattle.yp_map_file.proofs.Local.{onward, moved, shifted, Enough, enough_less, enough_behind, IsCut, Cuts, IsLocal}
use Rattle.yp_map_file.proofs.Local.{Takes, cuts_behind, local_word, local_opaque}
use Rattle.yp_map_file.proofs.Places.{Within, row_within}
use Rattle.yp_map_file.proofs.Rows.{before_before, before_none, rows_step, rows_stop}

-- ---- readings of a body

-- what is wrong n places further on
abbrev pub wrong_on : ℕ → Wrong → Wrong
wrong_on n wrong = record { at = n + wrong.at; rule = wrong.rule }

-- what a reading gives further on, with more behind
abbrev pub moved_wrong : {V : Type 0} → ℕ → List ℕ → Result (V × Remaining) Wrong → Result (V × Remaining) Wrong
moved_wrong n more (Ok read) = Ok (read.0, onward n more read.1)
moved_wrong n more (Err wrong) = Err (wrong_on n wrong)

-- a reading takes from min to max bytes
abbrev pub CutsBody : {V : Type 0} → ℕ → ℕ → Remaining → Result (V × Remaining) Wrong → Type 0
CutsBody min max left (Ok read) = IsCut min max left read.1
CutsBody min max left (Err wrong) = Unit {0}

place_shifted : (n : ℕ) (fault : XdrFault) → fault_place (shifted n fault) ≡ n + fault_place fault
place_shifted n (Short at) = refl
place_shifted n (TooLong at len) = refl
place_shifted n (Pad at) = refl
place_shifted n (BadBool at) = refl
place_shifted n (BadEnum at) = refl

by_xdr_moved : {V : Type 0} (n : ℕ) (more : List ℕ) (read : Result (V × Remaining) XdrFault)
    → by_xdr (moved n more read) ≡ moved_wrong n more (by_xdr read)
by_xdr_moved n more (Ok read) = refl
by_xdr_moved n more (Err fault) = ap (λ (at : ℕ). Err (record { at = at; rule = 5 })) (place_shifted n fault)

by_xdr_cuts : {V : Type 0} (min max : ℕ) (left : Remaining) (read : Result (V × Remaining) XdrFault)
    → Cuts min max left read → CutsBody min max left (by_xdr read)
by_xdr_cuts min max left (Ok read) c = c
by_xdr_cuts min max left (Err fault) c = tt

item_moves : (kind : Kind) (min max n : ℕ) (more : List ℕ) (left : Remaining) → IsLocal min max (reading kind)
    → Enough max left more → item kind (onward n more left) ≡ moved_wrong n more (item kind left)
item_moves kind min max n more left h enough =
    ap by_xdr (h.moves n more left enough) ∙ by_xdr_moved n more (reading kind left)

item_cuts : (kind : Kind) (min max : ℕ) (left : Remaining) → IsLocal min max (reading kind)
    → CutsBody min max left (item kind left)
item_cuts kind min max left h = by_xdr_cuts min max left (reading kind left) (h.cuts left)

bind_moved : {A B : Type 0} (n : ℕ) (more : List ℕ) (first : Result (A × Remaining) Wrong)
    (f f' : A × Remaining → Result (B × Remaining) Wrong)
    → ((read : A × Remaining) → first ≡ Ok read → f' (read.0, onward n more read.1) ≡ moved_wrong n more (f read))
    → (moved_wrong n more first >>= f') ≡ moved_wrong n more (first >>= f)
bind_moved n more (Ok read) f f' h = h read refl
bind_moved n more (Err wrong) f f' h = refl

guard_moves : {B : Type 0} (n : ℕ) (more : List ℕ) (holds : Bool) (at rule : ℕ)
    (f f' : Unit {0} → Result (B × Remaining) Wrong) → f' tt ≡ moved_wrong n more (f tt)
    → (guard holds (n + at) rule >>= f') ≡ moved_wrong n more (guard holds at rule >>= f)
guard_moves n more true at rule f f' h = h
guard_moves n more false at rule f f' h = refl

-- what is left of a window, further on
onward_is : (n : ℕ) (window more : List ℕ) (rest : Remaining) → rest ≡ rest_of window rest.at
    → onward n more rest ≡ behind n window more rest.at
onward_is n window more rest place = ap (λ (u : Remaining). record { at = n + rest.at; bytes = u.bytes ++ more }) place

-- ---- what a reading leaves

leaves : (min max : ℕ) (left rest : Remaining) → IsCut min max left rest
    → length left.bytes ≤ length rest.bytes + max
leaves min max left rest c =
    omega (arith, ap (λ (u : Remaining). length u.bytes) c.cut, length-drop c.count left.bytes, c.there, c.most)

pub cut_of : {V : Type 0} (min max : ℕ) (left : Remaining) (first : Result (V × Remaining) Wrong) (read : V × Remaining)
    → CutsBody min max left first → first ≡ Ok read → IsCut min max left read.1
cut_of {V = V} min max left first read c is =
    let P : Result (V × Remaining) Wrong → Type 0 = λ r. CutsBody min max left r in subst P is c

enough_then : {V : Type 0} (min max max' : ℕ) (left : Remaining) (first : Result (V × Remaining) Wrong)
    (read : V × Remaining) (more : List ℕ) → CutsBody min max left first → first ≡ Ok read → Enough (max + max') left more
    → Enough max' read.1 more
enough_then min max max' left first read more c is enough =
    enough_behind max max' left read.1 more (leaves min max left read.1 (cut_of min max left first read c is)) enough

cuts_body_behind : {B : Type 0} (min max min' max' : ℕ) (left mid : Remaining) (second : Result (B × Remaining) Wrong)
    → IsCut min max left mid → CutsBody min' max' mid second → CutsBody (min + min') (max + max') left second
cuts_body_behind {B = B} min max min' max' left mid (Ok read) one other =
    cuts_behind {B = B} min max min' max' left mid (Ok read) one other
cuts_body_behind min max min' max' left mid (Err wrong) one other = tt

bind_cuts : {A B : Type 0} (min max min' max' : ℕ) (left : Remaining) (first : Result (A × Remaining) Wrong)
    (f : A × Remaining → Result (B × Remaining) Wrong) → CutsBody min max left first
    → ((read : A × Remaining) → CutsBody min' max' read.1 (f read)) → CutsBody (min + min') (max + max') left (first >>= f)
bind_cuts min max min' max' left (Ok read) f one other =
    cuts_body_behind min max min' max' left read.1 (f read) one (other read)
bind_cuts min max min' max' left (Err wrong) f one other = tt

guard_cuts : {B : Type 0} (min max : ℕ) (left : Remaining) (holds : Bool) (at rule : ℕ)
    (f : Unit {0} → Result (B × Remaining) Wrong) → CutsBody min max left (f tt)
    → CutsBody min max left (guard holds at rule >>= f)
guard_cuts min max left true at rule f h = h
guard_cuts min max left false at rule f h = tt

ok_cuts : {V : Type 0} (value : V) (left : Remaining) → CutsBody 0 0 left (Ok (value, left))
ok_cuts value left = record {
  count = 0;
  least = omega arith;
  most = omega arith;
  there = omega arith;
  cut = ap (λ (k : ℕ). record { at = k; bytes = left.bytes }) (let e : left.at ≡ left.at + 0 = omega arith in e);
}

-- ---- a row

takes_key : Takes key_max 65536
takes_key k few = omega arith

local_key : IsLocal 4 65540 (reading (Opaque key_max))
local_key = local_opaque key_max 65536 takes_key

-- what follows a key
abbrev key_behind : Option (List ℕ) → ℕ → List ℕ × Remaining → Result (Row × Remaining) Wrong
key_behind last at key = guard (is_over last key.0) at 8 >>= λ over. item (Opaque value_max) key.1 >>= λ value.
    Ok ((key.0, value.0), value.1)

row_moves : (last : Option (List ℕ)) (n : ℕ) (more : List ℕ) (left : Remaining) → Enough row_max left more
    → row_at last (onward n more left) ≡ moved_wrong n more (row_at last left)
unfolding row_at
row_moves last n more left enough =
    ap (λ r. r >>= key_behind last (n + left.at))
    (item_moves (Opaque key_max) 4 65540 n more left local_key
    (enough_less 65540 row_max left more (omega arith) enough))
    ∙ bind_moved n more (item (Opaque key_max) left) (key_behind last left.at) (key_behind last (n + left.at))
    (λ key is. guard_moves n more (is_over last key.0) left.at 8
    (λ over. item (Opaque value_max) key.1 >>= λ value. Ok ((key.0, value.0), value.1))
    (λ over. item (Opaque value_max) (onward n more key.1) >>= λ value. Ok ((key.0, value.0), value.1))
    (ap (λ r. r >>= λ value. Ok ((key.0, value.0), value.1))
    (item_moves (Opaque value_max) 4 65540 n more key.1 local_key
    (enough_then 4 65540 65540 left (item (Opaque key_max) left) key more
    (item_cuts (Opaque key_max) 4 65540 left local_key) is enough))
    ∙ bind_moved n more (item (Opaque value_max) key.1) (λ value. Ok ((key.0, value.0), value.1))
    (λ value. Ok ((key.0, value.0), value.1)) (λ value is. refl)))

row_cuts : (last : Option (List ℕ)) (left : Remaining) → CutsBody 8 131080 left (row_at last left)
unfolding row_at
row_cuts last left =
    bind_cuts 4 65540 4 65540 left (item (Opaque key_max) left) (key_behind last left.at)
    (item_cuts (Opaque key_max) 4 65540 left local_key)
    (λ key. guard_cuts {B = Row} 4 65540 key.1 (is_over last key.0) left.at 8
    (λ over. item (Opaque value_max) key.1 >>= λ value. Ok ((key.0, value.0), value.1))
    (bind_cuts 4 65540 0 0 key.1 (item (Opaque value_max) key.1) (λ value. Ok ((key.0, value.0), value.1))
    (item_cuts (Opaque value_max) 4 65540 key.1 local_key) (λ value. ok_cuts {V = Row} (key.0, value.0) value.1)))

-- ---- what stands before the rows

takes_master : Takes master_max 64
takes_master k few = omega arith

local_master : IsLocal 4 68 (reading (Opaque master_max))
local_master = local_opaque master_max 64 takes_master

secure_moves : {B : Type 0} (n : ℕ) (more : List ℕ) (at : ℕ) (one two : Bool) (f f' : Bool → Result (B × Remaining) Wrong)
    → ((secure : Bool) → f' secure ≡ moved_wrong n more (f secure))
    → (cond one (Ok false) (cond two (Ok true) (Err (record { at = n + at; rule = 6 }))) >>= f')
    ≡ moved_wrong n more (cond one (Ok false) (cond two (Ok true) (Err (record { at = at; rule = 6 }))) >>= f)
secure_moves n more at true two f f' h = h false
secure_moves n more at false true f f' h = h true
secure_moves n more at false false f f' h = refl

secure_cuts : {B : Type 0} (min max : ℕ) (left : Remaining) (at : ℕ) (one two : Bool)
    (f : Bool → Result (B × Remaining) Wrong) → ((secure : Bool) → CutsBody min max left (f secure))
    → CutsBody min max left (cond one (Ok false) (cond two (Ok true) (Err (record { at = at; rule = 6 }))) >>= f)
secure_cuts min max left at true two f h = h false
secure_cuts min max left at false true f h = h true
secure_cuts min max left at false false f h = tt

-- what follows the format, the order, the master and the count
abbrev count_behind : Bool → ℕ → List ℕ → ℕ → ℕ × Remaining → Result (BodyHead × Remaining) Wrong
count_behind secure order master at count = guard (ltb count.0 (suc rows_max)) at 7 >>= λ few.
    Ok (record { secure = secure; order = order; master = master; count = count.0 }, count.1)

abbrev master_behind : Bool → ℕ → List ℕ × Remaining → Result (BodyHead × Remaining) Wrong
master_behind secure order master = item U32 master.1 >>= count_behind secure order master.0 master.1.at

abbrev order_behind : Bool → ℕ × Remaining → Result (BodyHead × Remaining) Wrong
order_behind secure order = item (Opaque master_max) order.1 >>= master_behind secure order.0

abbrev format_behind : ℕ → ℕ × Remaining → Result (BodyHead × Remaining) Wrong
format_behind at number = secure_of at number.0 >>= λ secure. item U32 number.1 >>= order_behind secure

head_is : (left : Remaining) → head_at left ≡ (item U32 left >>= format_behind left.at)
unfolding head_at
head_is left = refl

count_moves : (secure : Bool) (order : ℕ) (master : List ℕ) (at n : ℕ) (more : List ℕ) (count : ℕ × Remaining)
    → count_behind secure order master (n + at) (count.0, onward n more count.1)
    ≡ moved_wrong n more (count_behind secure order master at count)
count_moves secure order master at n more count =
    guard_moves n more (ltb count.0 (suc rows_max)) at 7
    (λ few. Ok (record { secure = secure; order = order; master = master; count = count.0 }, count.1))
    (λ few. Ok (record { secure = secure; order = order; master = master; count = count.0 }, onward n more count.1)) refl

master_moves : (secure : Bool) (order n : ℕ) (more : List ℕ) (master : List ℕ × Remaining) → Enough 4 master.1 more
    → master_behind secure order (master.0, onward n more master.1)
    ≡ moved_wrong n more (master_behind secure order master)
master_moves secure order n more master enough =
    ap (λ r. r >>= count_behind secure order master.0 (n + master.1.at))
    (item_moves U32 4 4 n more master.1 local_word enough)
    ∙ bind_moved n more (item U32 master.1) (count_behind secure order master.0 master.1.at)
    (count_behind secure order master.0 (n + master.1.at))
    (λ count is. count_moves secure order master.0 master.1.at n more count)

order_moves : (secure : Bool) (n : ℕ) (more : List ℕ) (order : ℕ × Remaining) → Enough 72 order.1 more
    → order_behind secure (order.0, onward n more order.1) ≡ moved_wrong n more (order_behind secure order)
order_moves secure n more order enough =
    ap (λ r. r >>= master_behind secure order.0)
    (item_moves (Opaque master_max) 4 68 n more order.1 local_master
    (enough_less 68 72 order.1 more (omega arith) enough))
    ∙ bind_moved n more (item (Opaque master_max) order.1) (master_behind secure order.0) (master_behind secure order.0)
    (λ master is. master_moves secure order.0 n more master
    (enough_then 4 68 4 order.1 (item (Opaque master_max) order.1) master more
    (item_cuts (Opaque master_max) 4 68 order.1 local_master) is enough))

format_moves : (at n : ℕ) (more : List ℕ) (number : ℕ × Remaining) → Enough 76 number.1 more
    → format_behind (n + at) (number.0, onward n more number.1) ≡ moved_wrong n more (format_behind at number)
format_moves at n more number enough =
    secure_moves n more at (eqb number.0 1) (eqb number.0 2) (λ secure. item U32 number.1 >>= order_behind secure)
    (λ secure. item U32 (onward n more number.1) >>= order_behind secure) (λ secure.
    ap (λ r. r >>= order_behind secure)
    (item_moves U32 4 4 n more number.1 local_word (enough_less 4 76 number.1 more (omega arith) enough))
    ∙ bind_moved n more (item U32 number.1) (order_behind secure) (order_behind secure)
    (λ order is. order_moves secure n more order
    (enough_then 4 4 72 number.1 (item U32 number.1) order more (item_cuts U32 4 4 number.1 local_word) is enough)))

head_moves : (n : ℕ) (more : List ℕ) (left : Remaining) → Enough 80 left more
    → head_at (onward n more left) ≡ moved_wrong n more (head_at left)
head_moves n more left enough =
    head_is (onward n more left)
    ∙ ap (λ r. r >>= format_behind (n + left.at))
    (item_moves U32 4 4 n more left local_word (enough_less 4 80 left more (omega arith) enough))
    ∙ bind_moved n more (item U32 left) (format_behind left.at) (format_behind (n + left.at))
    (λ number is. format_moves left.at n more number
    (enough_then 4 4 76 left (item U32 left) number more (item_cuts U32 4 4 left local_word) is enough))
    ∙ ap (moved_wrong n more) (sym (head_is left))

head_cuts : (left : Remaining) → CutsBody 16 80 left (head_at left)
unfolding head_at
head_cuts left =
    bind_cuts 4 4 12 76 left (item U32 left) (format_behind left.at) (item_cuts U32 4 4 left local_word) (λ number.
    secure_cuts 12 76 number.1 left.at (eqb number.0 1) (eqb number.0 2)
    (λ secure. item U32 number.1 >>= order_behind secure) (λ secure.
    bind_cuts 4 4 8 72 number.1 (item U32 number.1) (order_behind secure) (item_cuts U32 4 4 number.1 local_word) (λ order.
    bind_cuts 4 68 4 4 order.1 (item (Opaque master_max) order.1) (master_behind secure order.0)
    (item_cuts (Opaque master_max) 4 68 order.1 local_master) (λ master.
    bind_cuts 4 4 0 0 master.1 (item U32 master.1) (count_behind secure order.0 master.0 master.1.at)
    (item_cuts U32 4 4 master.1 local_word) (λ count.
    guard_cuts {B = BodyHead} 0 0 count.1 (ltb count.0 (suc rows_max)) master.1.at 7
    (λ few. Ok (record { secure = secure; order = order.0; master = master.0; count = count.0 }, count.1))
    (ok_cuts {V = BodyHead} (record { secure = secure; order = order.0; master = master.0; count = count.0 }) count.1))))))

-- what was read at the front of a window was read of all that begins with it
pub head_ahead : (window more : List ℕ) (head : BodyHead) (rest : Remaining) → Enough 80 (rest_of window 0) more
    → head_at (rest_of window 0) ≡ Ok (head, rest)
    → (head_at (behind 0 window more 0) ≡ Ok (head, behind 0 window more rest.at)) × (rest.at ≤ length window)
head_ahead window more head rest enough is =
    let c = cut_of 16 80 (rest_of window 0) (head_at (rest_of window 0)) (head, rest) (head_cuts (rest_of window 0)) is in
    let behind_zero : rest.at ≡ 0 + c.count = ap (λ (u : Remaining). u.at) c.cut in
    let at : rest.at ≡ c.count = omega (arith, behind_zero) in
    let bytes : rest.bytes ≡ drop rest.at window =
    ap (λ (u : Remaining). u.bytes) c.cut ∙ ap (λ (k : ℕ). drop k window) (sym at) in
    let place : rest ≡ rest_of window rest.at = ap (λ (l : List ℕ). record { at = rest.at; bytes = l }) bytes in (
      head_moves 0 more (rest_of window 0) enough ∙ ap (moved_wrong 0 more) is
          ∙ ap (λ (u : Remaining). Ok (head, u)) (onward_is 0 window more rest place),
      omega (arith, at, c.there),
    )

pub head_refused : (window more : List ℕ) (wrong : Wrong) → Enough 80 (rest_of window 0) more
    → head_at (rest_of window 0) ≡ Err wrong → head_at (behind 0 window more 0) ≡ Err (wrong_on 0 wrong)
head_refused window more wrong enough is = head_moves 0 more (rest_of window 0) enough ∙ ap (moved_wrong 0 more) is

-- ---- rows that are read one after another

pub reads_none : (count : ℕ) (last : Option (List ℕ)) (from : Remaining) → ReadsOn count last from count last from
reads_none count last from = record {
  rows = [];
  same = sym (before_none (rows_at count last from));
  number = omega arith;
}

pub reads_more : (count : ℕ) (last : Option (List ℕ)) (from : Remaining) (left : ℕ) (now : Option (List ℕ))
    (rest new : Remaining) (row : Row) → ReadsOn count last from left now rest → 0 < left → row_at now rest ≡ Ok (row, new)
    → ReadsOn count last from (left - 1) (Some row.0) new
reads_more count last from left now rest new row h some is =
    let e : left ≡ suc (left - 1) = omega arith in
    let step : rows_at left now rest ≡ before (row ∷ []) (rows_at (left - 1) (Some row.0) new) =
    ap (λ (n : ℕ). rows_at n now rest) e ∙ rows_step (left - 1) now rest new row is in
    record {
      rows = h.rows ++ row ∷ [];
      same = h.same ∙ ap (before h.rows) step
          ∙ before_before h.rows (row ∷ []) (rows_at (left - 1) (Some row.0) new);
      number = omega (arith, h.number, length-append h.rows (row ∷ []));
    }

pub reads_stop : (count : ℕ) (last : Option (List ℕ)) (from : Remaining) (left : ℕ) (now : Option (List ℕ))
    (rest : Remaining) (wrong : Wrong) → ReadsOn count last from left now rest → 0 < left → row_at now rest ≡ Err wrong
    → rows_at count last from ≡ Err wrong
reads_stop count last from left now rest wrong h some is =
    let e : left ≡ suc (left - 1) = omega arith in
    h.same ∙ ap (before h.rows) (ap (λ (n : ℕ). rows_at n now rest) e ∙ rows_stop (left - 1) now rest wrong is)

pub reads_then : (count : ℕ) (last : Option (List ℕ)) (from : Remaining) (mid : ℕ) (now : Option (List ℕ))
    (rest : Remaining) (left : ℕ) (new : Option (List ℕ)) (end : Remaining) → ReadsOn count last from mid now rest
    → ReadsOn mid now rest left new end → ReadsOn count last from left new end
reads_then count last from mid now rest left new end h k = record {
  rows = h.rows ++ k.rows;
  same = h.same ∙ ap (before h.rows) k.same ∙ before_before h.rows k.rows (rows_at left new end);
  number = omega (arith, h.number, k.number, length-append h.rows k.rows);
}

pub reads_then_wrong : (count : ℕ) (last : Option (List ℕ)) (from : Remaining) (mid : ℕ) (now : Option (List ℕ))
    (rest : Remaining) (wrong : Wrong) → ReadsOn count last from mid now rest → rows_at mid now rest ≡ Err wrong
    → rows_at count last from ≡ Err wrong
reads_then_wrong count last from mid now rest wrong h is = h.same ∙ ap (before h.rows) is

pub reads_all : (count : ℕ) (last : Option (List ℕ)) (from : Remaining) (now : Option (List ℕ)) (rest : Remaining)
    → ReadsOn count last from 0 now rest
    → (rows : List Row) × (rows_at count last from ≡ Ok (rows, rest)) × (length rows ≡ count)
reads_all count last from now rest h = (
  h.rows,
  h.same ∙ ap (λ (l : List Row). Ok (l, rest)) (append-nil h.rows),
  omega (arith, h.number),
)

-- ---- the rows of a window

-- of this many rows of a window so many were read, and this is left of it
pub record HasPassed (count : ℕ) (first : Option (List ℕ)) (window : List ℕ) (is_last : Bool) (rows : ℕ)
    (last : Option (List ℕ)) (rest : Remaining) : Type 0 where
  pub reads : (n : ℕ) (more : List ℕ) → MayFollow is_last more
      → ReadsOn count first (behind n window more 0) (count - rows) last (behind n window more rest.at)
  pub place : rest ≡ rest_of window rest.at
  pub within : rest.at ≤ length window
  pub few : rows ≤ count
  pub begun : rows ≡ 0 → rest.at ≡ 0

pub passed_none : (count : ℕ) (first : Option (List ℕ)) (window : List ℕ) (is_last : Bool) (rest : Remaining)
    → rest ≡ rest_of window 0 → HasPassed count first window is_last 0 first rest
passed_none count first window is_last rest is =
    let at : rest.at ≡ 0 = ap (λ (u : Remaining). u.at) is in
    record {
      reads = λ n more may.
          let e : count ≡ count - 0 = omega arith in
          subst (λ (k : ℕ). ReadsOn count first (behind n window more 0) k first (behind n window more rest.at)) e
          (subst (λ (k : ℕ). ReadsOn count first (behind n window more 0) count first (behind n window more k)) (sym at)
          (reads_none count first (behind n window more 0)));
      place = is ∙ ap (rest_of window) (sym at);
      within = omega (arith, at);
      few = omega arith;
      begun = λ none. at;
    }

-- enough of a window is left for a row
enough_left : (window : List ℕ) (is_last : Bool) (rest : Remaining) (more : List ℕ) → rest ≡ rest_of window rest.at
    → has_row is_last (length window - rest.at) ≡ true → MayFollow is_last more → Enough row_max rest more
enough_left window true rest more place there may = inr (may refl)
enough_left window false rest more place there may =
    let long : row_max ≤ length window - rest.at = grind (arith, nat_tests) in
    inl (omega (arith, long, ap (λ (u : Remaining). length u.bytes) place, length-drop rest.at window))

pub passed_more : (count : ℕ) (first : Option (List ℕ)) (window : List ℕ) (is_last : Bool) (rows : ℕ)
    (last : Option (List ℕ)) (rest new : Remaining) (row : Row) → HasPassed count first window is_last rows last rest
    → rows < count → has_row is_last (length window - rest.at) ≡ true → row_at last rest ≡ Ok (row, new)
    → HasPassed count first window is_last (rows + 1) (Some row.0) new
passed_more count first window is_last rows last rest new row h lt there is =
    let c = cut_of 8 131080 rest (row_at last rest) (row, new) (row_cuts last rest) is in
    let at : new.at ≡ rest.at + c.count = ap (λ (u : Remaining). u.at) c.cut in
    let size : length rest.bytes ≡ length window - rest.at =
    ap (λ (u : Remaining). length u.bytes) h.place ∙ length-drop rest.at window in
    let bytes : new.bytes ≡ drop new.at window =
    ap (λ (u : Remaining). u.bytes) c.cut ∙ ap (λ (u : Remaining). drop c.count u.bytes) h.place
    ∙ drop-drop c.count rest.at window
    ∙ ap (λ (k : ℕ). drop k window) (let e : rest.at + c.count ≡ new.at = omega (arith, at) in e) in
    let place : new ≡ rest_of window new.at = ap (λ (l : List ℕ). record { at = new.at; bytes = l }) bytes in
    record {
      reads = λ n more may.
          let e : count - rows - 1 ≡ count - (rows + 1) = omega arith in
          let moved_row : row_at last (behind n window more rest.at) ≡ Ok (row, behind n window more new.at) =
          ap (row_at last) (sym (onward_is n window more rest h.place))
          ∙ row_moves last n more rest (enough_left window is_last rest more h.place there may)
          ∙ ap (moved_wrong n more) is
          ∙ ap (λ (u : Remaining). Ok (row, u)) (onward_is n window more new place) in
          subst (λ (k : ℕ). ReadsOn count first (behind n window more 0) k (Some row.0) (behind n window more new.at)) e
          (reads_more count first (behind n window more 0) (count - rows) last (behind n window more rest.at)
          (behind n window more new.at) row (h.reads n more may) (omega arith) moved_row);
      place = place;
      within = omega (arith, at, size, c.there, h.within);
      few = omega arith;
      begun = λ none. absurd (omega (arith, none));
    }

pub passed_wrong : (count : ℕ) (first : Option (List ℕ)) (window : List ℕ) (is_last : Bool) (rows : ℕ)
    (last : Option (List ℕ)) (rest : Remaining) (wrong : Wrong) → HasPassed count first window is_last rows last rest
    → rows < count → has_row is_last (length window - rest.at) ≡ true → row_at last rest ≡ Err wrong
    → (n : ℕ) (more : List ℕ) → MayFollow is_last more
    → rows_at count first (behind n window more 0) ≡ Err (record { at = n + wrong.at; rule = wrong.rule })
passed_wrong count first window is_last rows last rest wrong h lt there is n more may =
    let moved_row : row_at last (behind n window more rest.at) ≡ Err (wrong_on n wrong) =
    ap (row_at last) (sym (onward_is n window more rest h.place))
    ∙ row_moves last n more rest (enough_left window is_last rest more h.place there may)
    ∙ ap (moved_wrong n more) is in
    reads_stop count first (behind n window more 0) (count - rows) last (behind n window more rest.at) (wrong_on n wrong)
    (h.reads n more may) (omega arith) moved_row

-- at least one row was passed, where there is one and the window has room for it
pub passed_some : (count : ℕ) (first : Option (List ℕ)) (window : List ℕ) (is_last : Bool) (rows : ℕ)
    (last : Option (List ℕ)) (rest : Remaining) → HasPassed count first window is_last rows last rest
    → has_row is_last (length window - rest.at) ≡ false → 0 < count → has_row is_last (length window) ≡ true → 0 < rows
passed_some count first window is_last zero last rest h ended some there =
    let at = h.begun refl in
    let same : length window - rest.at ≡ length window = omega (arith, at) in
    absurd (let e : true ≡ false = sym there ∙ ap (has_row is_last) (sym same) ∙ ended in cc)
passed_some count first window is_last (suc rows) last rest h ended some there = omega arith

-- what is wrong stands within the window
pub passed_wrong_within : (count : ℕ) (first : Option (List ℕ)) (window : List ℕ) (is_last : Bool) (rows : ℕ)
    (last : Option (List ℕ)) (rest : Remaining) (wrong : Wrong) → HasPassed count first window is_last rows last rest
    → row_at last rest ≡ Err wrong → wrong.at ≤ length window
passed_wrong_within count first window is_last rows last rest wrong h is =
    subst (Within (length window)) is (row_within (length window) last rest
    (omega (arith, ap (λ (u : Remaining). length u.bytes) h.place, length-drop rest.at window, h.within)))
