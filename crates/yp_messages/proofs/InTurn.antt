-- A list of names that is read item by item.
use Rattle.std.proofs.Common.{◌≡◌, ℕ, ◌+◌, ◌<◌, Bool, true, false, cond, List, [], ◌∷◌, ◌++◌, length, Option, Some}
use Rattle.std.proofs.Common.{None, Result, Ok, Err, refl, sym, ap, ◌∙◌, append_assoc, arith}
use Rattle.std.proofs.lemmas.List.{append-nil, length-append}
use Rattle.yp_xdr.specs.declared.fault.XdrFault.{XdrFault}
use Rattle.yp_xdr.specs.Kind.{ListOf}
use Rattle.yp_xdr.specs.Spelling.{word, spelling}
use Rattle.yp_xdr.specs.Reading.{Remaining, ◌>>=◌, bool_at, some_at, cons_at, reading}
use Rattle.yp_xdr.specs.inside.Reading.{BeginsWith, IsBytes}
use Rattle.yp_xdr.specs.inside.Laws.{ListIsReadInTurn}
use Rattle.yp_messages.specs.Messages.{name}
use Rattle.yp_messages.specs.inside.MapLists.{map_item}

abbrev Answer : Type 0
Answer = Result (List (List ℕ) × Remaining) XdrFault

-- names in front of others
abbrev prepend : List (List ℕ) → List (List ℕ) × Remaining → Answer
prepend names others = Ok (names ++ others.0, others.1)

-- one name in front of others
abbrev cons : List ℕ → List (List ℕ) × Remaining → Answer
cons v others = Ok (v ∷ others.0, others.1)

-- a name and the others behind it
abbrev and_others : (Remaining → Answer) → List ℕ × Remaining → Answer
and_others others one = others one.1 >>= cons one.0

abbrev is_there : List ℕ × Remaining → Result (Option (List ℕ) × Remaining) XdrFault
is_there one = Ok (Some one.0, one.1)

-- an item by its boolean, and a list by that of its first item
abbrev item_by : Result (Bool × Remaining) XdrFault → Result (Option (List ℕ) × Remaining) XdrFault
item_by r = r >>= λ more. cond more.0 (some_at (reading name) more.1) (Ok (None, more.1))

abbrev list_by : (Remaining → Answer) → Result (Bool × Remaining) XdrFault → Answer
list_by others r = r >>= λ more. cond more.0 (cons_at (reading name) others more.1) (Ok ([], more.1))

-- two answers of one step are one
same_answer : {A : Type 0} (x y : A) (r : Result A XdrFault) → r ≡ Ok x → r ≡ Ok y → x ≡ y
same_answer x y r e f = cc

-- what reading the whole gives, by the names that were read and the reading of what is left
abbrev pub SoFar : Remaining → Remaining → List (List ℕ) → Type 0
SoFar first left names = reading (ListOf name) first ≡ (reading (ListOf name) left >>= prepend names)

in_front : (r : Answer) → r ≡ (r >>= prepend [])
in_front (Ok others) = refl
in_front (Err fault) = refl

-- before anything was read
pub begins : (first : Remaining) → SoFar first first []
begins first = in_front (reading (ListOf name) first)

-- ---- one item

some_in : (v : List ℕ) (rest : Remaining) (others : Remaining → Answer) (s : Result (List ℕ × Remaining) XdrFault)
    → (s >>= is_there) ≡ Ok (Some v, rest) → (s >>= and_others others) ≡ (others rest >>= cons v)
some_in v rest others (Err fault) e = absurd cc
some_in v rest others (Ok one) e =
    let answer = same_answer (Some one.0, one.1) (Some v, rest) (is_there one) refl e in
    let there : Some one.0 ≡ Some v = ap (λ (y : Option (List ℕ) × Remaining). y.0) answer in
    let value : one.0 ≡ v = cc in
    let left : one.1 ≡ rest = ap (λ (y : Option (List ℕ) × Remaining). y.1) answer in
    rw (value, left) refl

more_in : (v : List ℕ) (rest : Remaining) (others : Remaining → Answer) (r : Result (Bool × Remaining) XdrFault)
    → item_by r ≡ Ok (Some v, rest)
    → list_by others r ≡ (others rest >>= cons v)
more_in v rest others (Err fault) e = absurd cc
more_in v rest others (Ok (false, left)) e =
    let there : None ≡ Some v =
    ap (λ (y : Option (List ℕ) × Remaining). y.0) (same_answer (None, left) (Some v, rest) (Ok (None, left)) refl e) in
    absurd cc
more_in v rest others (Ok (true, left)) e = some_in v rest others (reading name left) e

none_in : (rest : Remaining) (others : Remaining → Answer) (s : Result (List ℕ × Remaining) XdrFault)
    → (s >>= is_there) ≡ Ok (None, rest) → (s >>= and_others others) ≡ Ok ([], rest)
none_in rest others (Err fault) e = absurd cc
none_in rest others (Ok one) e =
    let there : Some one.0 ≡ None =
    ap (λ (y : Option (List ℕ) × Remaining). y.0)
    (same_answer (Some one.0, one.1) (None, rest) (is_there one) refl e) in
    absurd cc

end_in : (rest : Remaining) (others : Remaining → Answer) (r : Result (Bool × Remaining) XdrFault)
    → item_by r ≡ Ok (None, rest)
    → list_by others r ≡ Ok ([], rest)
end_in rest others (Err fault) e = absurd cc
end_in rest others (Ok (false, left)) e =
    let same : left ≡ rest =
    ap (λ (y : Option (List ℕ) × Remaining). y.1) (same_answer (None, left) (None, rest) (Ok (None, left)) refl e) in
    rw same refl
end_in rest others (Ok (true, left)) e = none_in rest others (reading name left) e

err_in : (fault : XdrFault) (others : Remaining → Answer) (s : Result (List ℕ × Remaining) XdrFault)
    → (s >>= is_there) ≡ Err fault → (s >>= and_others others) ≡ Err fault
err_in fault others (Err other) e = let same : other ≡ fault = cc in rw same refl
err_in fault others (Ok one) e = absurd cc

fault_in : (fault : XdrFault) (others : Remaining → Answer) (r : Result (Bool × Remaining) XdrFault)
    → item_by r ≡ Err fault
    → list_by others r ≡ Err fault
fault_in fault others (Err other) e = let same : other ≡ fault = cc in rw same refl
fault_in fault others (Ok (false, left)) e = absurd cc
fault_in fault others (Ok (true, left)) e = err_in fault others (reading name left) e

-- ---- the whole list

one_more : (names : List (List ℕ)) (v : List ℕ) (r : Answer)
    → ((r >>= cons v) >>= prepend names) ≡ (r >>= prepend (names ++ v ∷ []))
one_more names v (Ok others) =
    ap (λ (xs : List (List ℕ)). Ok (xs, others.1)) (sym (append_assoc names (v ∷ []) others.0))
one_more names v (Err fault) = refl

-- after one more name
pub goes_on : (turn : ListIsReadInTurn) (first left rest : Remaining) (names : List (List ℕ)) (v : List ℕ)
    → IsBytes left.bytes → SoFar first left names
    → reading map_item left ≡ Ok (Some v, rest) → SoFar first rest (names ++ v ∷ [])
goes_on turn first left rest names v are_bytes so_far e =
    let others = reading (ListOf name) in
    let item : reading (ListOf name) left ≡ (others rest >>= cons v) =
    turn name left are_bytes ∙ more_in v rest others (bool_at left) e in
    so_far ∙ ap (λ (r : Answer). r >>= prepend names) item ∙ one_more names v (others rest)

-- at the end of the list
pub ends : (turn : ListIsReadInTurn) (first left rest : Remaining) (names : List (List ℕ)) → IsBytes left.bytes
    → SoFar first left names
    → reading map_item left ≡ Ok (None, rest) → reading (ListOf name) first ≡ Ok (names, rest)
ends turn first left rest names are_bytes so_far e =
    let item : reading (ListOf name) left ≡ Ok ([], rest) =
    turn name left are_bytes ∙ end_in rest (reading (ListOf name)) (bool_at left) e in
    so_far ∙ ap (λ (r : Answer). r >>= prepend names) item
    ∙ ap (λ (xs : List (List ℕ)). Ok (xs, rest)) (append-nil names)

-- at an item that is refused
pub fails : (turn : ListIsReadInTurn) (first left : Remaining) (names : List (List ℕ)) (fault : XdrFault)
    → IsBytes left.bytes → SoFar first left names
    → reading map_item left ≡ Err fault → reading (ListOf name) first ≡ Err fault
fails turn first left names fault are_bytes so_far e =
    let item : reading (ListOf name) left ≡ Err fault =
    turn name left are_bytes ∙ fault_in fault (reading (ListOf name)) (bool_at left) e in
    so_far ∙ ap (λ (r : Answer). r >>= prepend names) item

-- an item takes some bytes
pub shrinks : (v : List ℕ) (old new : Remaining) → BeginsWith map_item (Some v) old new
    → length new.bytes < length old.bytes
shrinks v old new b =
    let front : length b.front ≡ 4 + length (spelling name v) =
    ap length b.spells.spelled ∙ length-append (word 1) (spelling name v) in
    omega (arith, front, ap length b.parts, length-append b.front new.bytes)
