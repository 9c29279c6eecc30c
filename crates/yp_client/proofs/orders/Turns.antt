-- Steps that are made one behind the other.
use Rattle.std.proofs.Common.{◌≡◌, ℕ, ◌+◌, ◌<◌, ◌≤◌, List, [], ◌∷◌, ◌++◌, length, get_or, take, drop, Some, Result, Ok, Err, refl}
use Rattle.std.proofs.Common.{sym, ap, ◌∙◌, subst, append_assoc, arith, inl, min}
use Rattle.std.specs.Prelude.{slice_get, map, All}
use Rattle.std.specs.Option.{option_map}
use Rattle.std.specs.List.{enumerate_from}
use Rattle.std.proofs.lemmas.List.{take_more, take_all, take-append-drop, map-append}
use Rattle.std.proofs.lemmas.List.Elements.{All-append, All-cons}
use Rattle.std.proofs.lemmas.List.FromFn.{length-enumerate_from, get_or-enumerate_from}
use Rattle.std.proofs.lemmas.Option.{slice_get_within, get_or_from_slice_get, slice_get-map, slice_get_read, slice_get-get_or}
use Rattle.yp_io.specs.Counts.{last_count}
use Rattle.yp_io.specs.declared.stream.Peer.{Peer}
use Rattle.yp_io.specs.Dials.{Dialing, GoesBack}
use Rattle.yp_client.specs.declared.fault.ClientFault.{ClientFault}
use Rattle.yp_client.specs.States.{ClientState}
use Rattle.yp_client.specs.inside.Dialed.{IsConnected}
use Rattle.yp_client.specs.declared.query.fault.QueryFault.{QueryFault}
use Rattle.yp_client.specs.declared.query.fault.QueryFault.TheVariants.{Dial, NoMemory}
use Rattle.yp_client.specs.query.Asked.{Outcome, CallIsMade, IsUnlessMemory}
use Rattle.yp_client.specs.query.Scenes.{Dials}
use Rattle.yp_client.specs.orders.InTurn.{Step, EachMade, StopsAt, InTurn, InMemory}
use Rattle.yp_client.specs.inside.orders.Asked.{told}

-- the front of a list with one item more
pub one_more : {A : Type 0} (items : List A) (i : ℕ) (item : A) → slice_get items i ≡ Some item
    → take (i + 1) items ≡ take i items ++ item ∷ []
one_more items i item there =
    take_more items i item (slice_get_within items i item there)
    ∙ ap (λ x. take i items ++ x ∷ []) (get_or_from_slice_get items i item item there)

-- one step more
each_more : {A V S : Type 0} (step : A → Step V S) (items : List A) (values : List V) (item : A) (value : V)
    (old mid new : S) → EachMade step items values old mid → step item (Ok value) mid new
    → EachMade step (items ++ item ∷ []) (values ++ value ∷ []) old new
each_more {S} step [] [] item value old mid new made one =
    let P : S → Type 0 = λ s. step item (Ok value) s new in
    (new, subst P made one, refl)
each_more step [] (v ∷ values) item value old mid new made one = absurd made
each_more step (i ∷ items) [] item value old mid new made one = absurd made
each_more step (i ∷ items) (v ∷ values) item value old mid new made one =
    (made.0, made.1, each_more step items values item value made.0 mid new made.2 one)

module _ {A V S : Type 0} (step : A → Step V S) (items : List A) where
  -- the next of a list
  pub made_next : (i : ℕ) (item : A) (values : List V) (value : V) (old mid new : S) → slice_get items i ≡ Some item
      → EachMade step (take i items) values old mid → step item (Ok value) mid new
      → EachMade step (take (i + 1) items) (values ++ value ∷ []) old new
  made_next i item values value old mid new there made one =
      rw (one_more items i item there) (each_more step (take i items) values item value old mid new made one)

  -- or a fault there
  pub stops_next : (i : ℕ) (item : A) (values : List V) (fault : QueryFault) (old mid new : S)
      → slice_get items i ≡ Some item → EachMade step (take i items) values old mid → step item (Err fault) mid new
      → StopsAt step items fault old new
  stops_next i item values fault old mid new there made stops = record {
    front = take i items;
    item = item;
    rest = drop (i + 1) items;
    whole = sym (take-append-drop (i + 1) items) ∙ ap (λ (l : List A). l ++ drop (i + 1) items) (one_more items i item there)
        ∙ append_assoc (take i items) (item ∷ []) (drop (i + 1) items);
    values = values;
    mid = mid;
    made = made;
    stops = stops;
  }

  -- all of it
  pub made_all : (i : ℕ) (values : List V) (old new : S) → length items ≤ i → EachMade step (take i items) values old new
      → EachMade step items values old new
  made_all i values old new past made =
      subst (λ (l : List A). EachMade step l values old new) (take_all i items past) made

-- an element of a list, seen by a view
pub viewed : {A B : Type 0} (view : A → B) (xs : List A) (i : ℕ) (x : A) → i < length xs → x ≡ get_or xs i x
    → slice_get (map view xs) i ≡ Some (view x)
viewed view xs i x within is =
    slice_get-map view xs i ∙ ap (option_map view) (slice_get_read xs (length xs) i x refl within is)

-- one of a list, and its number
pub numbered : {A : Type 0} (xs : List A) (i : ℕ) (x : A) → slice_get xs i ≡ Some x
    → slice_get (enumerate_from 0 xs) i ≡ Some (i, x)
numbered {A} xs i x there =
    let within = slice_get_within xs i x there in
    let long = length-enumerate_from 0 xs in
    let inside : i < length (enumerate_from 0 xs) = omega (arith, within, long) in
    let start : 0 + i ≡ i = omega arith in
    let value = get_or_from_slice_get xs i x x there in
    let pair : get_or (enumerate_from 0 xs) i (i, x) ≡ (i, x) =
    get_or-enumerate_from 0 xs i (i, x) within
    ∙ ap (λ (n : ℕ). (n, get_or xs i x)) start ∙ ap (λ (a : A). (i, a)) value in
    slice_get-get_or (enumerate_from 0 xs) i (i, x) inside ∙ ap (λ (p : ℕ × A). Some p) pair

-- what holds of all holds of one, and of one more
pub one_of_all : {A : Type 0} (P : A → Type 0) (items : List A) (i : ℕ) (item : A) → All P items
    → slice_get items i ≡ Some item → P item
one_of_all P items i item all there =
    subst P (get_or_from_slice_get items i item item there) (all i item (slice_get_within items i item there))

pub all_and_one : {A : Type 0} (P : A → Type 0) (items : List A) (item : A) → All P items → P item
    → All P (items ++ item ∷ [])
all_and_one P items item all one =
    All-append P items (item ∷ []) all (All-cons P item [] one (λ k d lt. absurd (omega arith)))

-- a list that is pushed to, seen by a view
pub pushed : {A B : Type 0} (view : A → B) (xs ys : List A) (x : A) → ys ≡ xs ++ x ∷ [] → map view ys ≡ map view xs ++ view x ∷ []
pushed view xs ys x is = ap (map view) is ∙ map-append view xs (x ∷ [])

-- ---- what is told

-- a fault that is handed on
pub stop_told : {A V X S : Type 0} (step : A → Step V S) (items : List A) (view : X → List V) (result : Result X QueryFault)
    (fault told_fault : QueryFault) (old new : S) → result ≡ Err fault → fault ≡ told_fault
    → StopsAt step items told_fault old new → InTurn step items (told view result) old new
stop_told {X} step items view result fault told_fault old new is same stops =
    let whole : result ≡ Err told_fault = is ∙ ap (λ (f : QueryFault). Err f) same in
    subst (λ (r : Result X QueryFault). InTurn step items (told view r) old new) (sym whole) stops

-- memory ran out behind a call
pub call_forgone : {X V : Type 0} (limit : ℕ) (call : ℕ → List ℕ) (answers : ℕ → List ℕ → Result X ClientFault → Type 0)
    (means : Result X ClientFault → Outcome V) (outcome : Outcome V) (old new : ClientState)
    → CallIsMade limit call answers means outcome old new → CallIsMade limit call answers means (Err NoMemory) old new
call_forgone limit call answers means outcome old new did = record { answer = did.answer; calls = did.calls; meant = tt }

-- what a step comes to in memory
pub in_memory : {V S : Type 0} (step : Step V S) (outcome : Outcome V) (old new : S) → step outcome old new
    → InMemory step outcome old new
in_memory step (Ok value) old new did = (Ok value, did, refl)
in_memory step (Err NoMemory) old new did = (Err NoMemory, did, tt)
in_memory step (Err fault) old new did = (Err fault, did, refl)

-- ---- a wire

-- A client of a wire that came made calls, and the wire went back. No call comes to the fault of a dial.
pub dialed : {V : Type 0} (calls : Step V ClientState) (peer : Peer) (outcome : Outcome V) (first last : ClientState)
    (old mid new : Dialing) → IsConnected peer first old mid → calls outcome first last
    → GoesBack last.wire mid.past new.past → min (mid.faults + last.reads + last.writes) last_count ≤ new.faults
    → (outcome ≡ Err Dial → ⊥) → Dials peer (IsUnlessMemory calls) outcome old new
dialed calls peer (Err Dial) first last old mid new comes did back count never = absurd (never refl)
dialed calls peer (Ok value) first last old mid new comes did back count never = record {
  first = first;
  last = last;
  dialed = record {
    middle = mid.past;
    comes = comes.comes;
    begins = comes.begins;
    goes_back = back;
    counted = omega (arith, count, comes.counted);
  };
  converses = inl did;
}
dialed calls peer (Err fault) first last old mid new comes did back count never = record {
  first = first;
  last = last;
  dialed = record {
    middle = mid.past;
    comes = comes.comes;
    begins = comes.begins;
    goes_back = back;
    counted = omega (arith, count, comes.counted);
  };
  converses = inl did;
}

-- ---- servers in turn

module _ {V : Type 0} (calls : Step V ClientState) (others : List Peer) (i : ℕ) (d : Peer) (values : List V)
    (old mid new : Dialing) (within : i < length others)
    (made : EachMade (λ peer. InMemory (Dials peer (IsUnlessMemory calls))) (take i others) values old mid) where
  there : slice_get others i ≡ Some (get_or others i d)
  there = slice_get-get_or others i d within

  pub other_next : (value : V) → Dials (get_or others i d) (IsUnlessMemory calls) (Ok value) mid new
      → EachMade (λ peer. InMemory (Dials peer (IsUnlessMemory calls))) (take (i + 1) others) (values ++ value ∷ []) old new
  other_next value did =
      made_next (λ peer. InMemory (Dials peer (IsUnlessMemory calls))) others i (get_or others i d) values value old mid new
      there made (in_memory (Dials (get_or others i d) (IsUnlessMemory calls)) (Ok value) mid new did)

  pub other_stops : (fault : QueryFault) → Dials (get_or others i d) (IsUnlessMemory calls) (Err fault) mid new
      → StopsAt (λ peer. InMemory (Dials peer (IsUnlessMemory calls))) others fault old new
  other_stops fault did =
      stops_next (λ peer. InMemory (Dials peer (IsUnlessMemory calls))) others i (get_or others i d) values fault old mid new
      there made (in_memory (Dials (get_or others i d) (IsUnlessMemory calls)) (Err fault) mid new did)

  -- memory ran out for what it came to
  pub other_forgone : (value : V) → Dials (get_or others i d) (IsUnlessMemory calls) (Ok value) mid new
      → StopsAt (λ peer. InMemory (Dials peer (IsUnlessMemory calls))) others NoMemory old new
  other_forgone value did =
      stops_next (λ peer. InMemory (Dials peer (IsUnlessMemory calls))) others i (get_or others i d) values NoMemory old mid new
      there made (Ok value, did, tt)
