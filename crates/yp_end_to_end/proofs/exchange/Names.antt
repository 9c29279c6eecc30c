-- The names of a domain's maps: how many and how long they are, and how they are said.
use Rattle.std.proofs.Common.{◌≡◌, ℕ, suc, ◌+◌, ◌*◌, ◌≤◌, Bool, true, false, cond, List, [], ◌∷◌, ◌++◌, length, filter, Result, Ok, Err, refl, ap, ◌∙◌, arith, All, Less, Equal, Greater}
use Rattle.std.specs.Prelude.{flat_map, not, ◌==◌}
use Rattle.std.specs.Ordering.{match_ordering}
use Rattle.std.specs.declared.cmp.Ordering.{Ordering}
use Rattle.std.proofs.lemmas.List.{length-append, length-map}
use Rattle.std.proofs.lemmas.List.Elements.{All-head, All-tail, All-cons, All-nil, All-filter, All-map}
use Rattle.yp_xdr.specs.Kind.{Boolean, ListOf, Value}
use Rattle.yp_xdr.specs.Spelling.{word, opaque, spelling, present}
use Rattle.yp_xdr.specs.inside.Spelling.{Fits}
use Rattle.yp_xdr.specs.Reading.{Remaining}
use Rattle.yp_xdr.specs.inside.Laws.{WrittenIsReadAgain}
use Rattle.yp_rpc.specs.inside.Laws.{IsWord}
use Rattle.yp_messages.specs.declared.stat.YpStat.{YpStat}
use Rattle.yp_messages.specs.declared.stat.YpStat.TheVariants.{True, Badargs, Nodom}
use Rattle.yp_messages.specs.Numbers.{name_max}
use Rattle.yp_messages.specs.Statuses.{stat, stat_number}
use Rattle.yp_messages.specs.Messages.{name}
use Rattle.yp_messages.specs.MapLists.{map_list}
use Rattle.yp_board.specs.Catalogues.{Name, name_cmp, inserted, listed, serves, maps_max}
use Rattle.yp_client.specs.declared.fault.ClientFault.{ClientFault}
use Rattle.yp_client.specs.Results.{◌>>=◌, item, behind_true, maps_of}
use Rattle.yp_client.specs.inside.Results.{served_of}
use Rattle.yp_answer.specs.Maps.{Maps}
use Rattle.yp_answer.specs.Results.{is_listed, maps_in, maps_listed}
use Rattle.yp_answer.specs.Reply.{success}
use Rattle.yp_answer.specs.Served.{AreServed}
use Rattle.yp_end_to_end.specs.exchange.Told.{told, names_in}
use Rattle.yp_end_to_end.proofs.exchange.Heads.{results_again}
use Rattle.yp_end_to_end.proofs.exchange.Values.{last_again, stat_fits, said_with, behind_again, then_said}
use Rattle.yp_end_to_end.proofs.exchange.Lengths.{opaque_short}

-- ---- names in order

-- what holds of names holds of them with one more
inserted_all : (P : Name → Type 0) (one : Name) (names : List Name) → P one → All P names → All P (inserted one names)
inserted_all P one [] is all = All-cons P one [] is all
inserted_all P one (other ∷ names) is all = by (name_cmp one other) (inserted_all P one names is (All-tail P other names all))
  where
    first : P other
    first = All-head P other names all

    rest : All P names
    rest = All-tail P other names all

    by : (o : Ordering) → All P (inserted one names) → All P (match_ordering o (one ∷ other ∷ names) (one ∷ names) (other ∷ inserted one names))
    by Less later = All-cons P one (other ∷ names) is all
    by Equal later = All-cons P one names is rest
    by Greater later = All-cons P other (inserted one names) first later

listed_all : (P : Name → Type 0) (names : List Name) → All P names → All P (listed names)
listed_all P [] all = all
listed_all P (one ∷ names) all = inserted_all P one (listed names) (All-head P one names all) (listed_all P names (All-tail P one names all))

-- and no more than one is more
inserted_count : (one : Name) (names : List Name) → length (inserted one names) ≤ suc (length names)
inserted_count one [] = omega arith
inserted_count one (other ∷ names) = by (name_cmp one other) (inserted_count one names)
  where
    by : (o : Ordering) → length (inserted one names) ≤ suc (length names) → length (match_ordering o (one ∷ other ∷ names) (one ∷ names) (other ∷ inserted one names)) ≤ suc (suc (length names))
    by Less later = omega arith
    by Equal later = omega arith
    by Greater later = omega arith

listed_count : (names : List Name) → length (listed names) ≤ length names
listed_count [] = omega arith
listed_count (one ∷ names) = omega (arith, inserted_count one (listed names), listed_count names)

filter_count : {X : Type 0} (p : X → Bool) (xs : List X) → length (filter p xs) ≤ length xs
filter_count p [] = omega arith
filter_count p (x ∷ xs) = by (p x) (filter_count p xs)
  where
    by : (b : Bool) → length (filter p xs) ≤ length xs → length (cond b (x ∷ filter p xs) (filter p xs)) ≤ suc (length xs)
    by true later = omega arith
    by false later = omega arith

-- ---- the names that are listed

pub maps_short : (maps : Maps) (domain : List ℕ) → AreServed maps → All (λ bytes. length bytes ≤ name_max) (maps_in maps domain)
maps_short maps domain served =
    let names : All (λ (n : Name). length n.1 ≤ name_max) maps.catalogue.maps = λ k d h. (served.catalogue.maps k d h).within in
    All-map (λ (bytes : List ℕ). length bytes ≤ name_max) (λ (n : Name). n.1) (filter (is_listed maps domain) (listed maps.catalogue.maps))
    (All-filter (is_listed maps domain) (λ (n : Name). length n.1 ≤ name_max) (listed maps.catalogue.maps)
    (listed_all (λ (n : Name). length n.1 ≤ name_max) maps.catalogue.maps names))

pub maps_few : (maps : Maps) (domain : List ℕ) → AreServed maps → length (maps_in maps domain) ≤ maps_max
maps_few maps domain served =
    let named = filter (is_listed maps domain) (listed maps.catalogue.maps) in
    omega (arith, length-map named (λ (n : Name). n.1), filter_count (is_listed maps domain) (listed maps.catalogue.maps), listed_count maps.catalogue.maps, served.catalogue.count)

-- each takes at most 76 bytes
pub names_len : (names : List (List ℕ)) → All (λ bytes. length bytes ≤ name_max) names → length (flat_map (present (spelling name)) names) ≤ 76 * length names
names_len [] short = omega arith
names_len (one ∷ names) short =
    omega (
      arith,
      length-append (word 1 ++ opaque one) (flat_map (present (spelling name)) names),
      length-append (word 1) (opaque one),
      opaque_short one,
      All-head (λ bytes. length bytes ≤ name_max) one names short,
      names_len names (All-tail (λ bytes. length bytes ≤ name_max) one names short),
    )

-- ---- what is said

names_fit : (names : List (List ℕ)) → All (λ bytes. length bytes ≤ name_max) names → Fits (ListOf name) names
names_fit names short = λ k d h. let s = short k d h in (s, omega (arith, s))

-- a list behind a status
list_said : WrittenIsReadAgain → (xid : ℕ) (s : YpStat) (names : List (List ℕ)) → IsWord xid → All (λ bytes. length bytes ≤ name_max) names
    → maps_of xid (success xid map_list (stat_number s, names)) ≡ said_with s names
list_said law xid s names x short =
    let list : Value map_list = (stat_number s, names) in
    let left : Remaining = record { at = 24; bytes = spelling map_list list } in
    let behind : Remaining = record { at = 28; bytes = spelling (ListOf name) names } in
    ap (λ (r : Result Remaining ClientFault). r >>= λ l. behind_true l >>= λ rest. item map_list l >>= λ list. Ok list.0.1) (results_again law map_list xid list x)
    ∙ ap (λ (r : Result Remaining ClientFault). r >>= λ rest. item map_list left >>= λ list. Ok list.0.1) (behind_again law s 24 (spelling (ListOf name) names))
    ∙ ap (λ (r : Result (Value map_list × Remaining) ClientFault). said_with s behind >>= λ rest. r >>= λ list. Ok list.0.1)
    (last_again law map_list list 24 (stat_fits s, names_fit names short))
    ∙ then_said s behind names (λ rest. Ok names) refl

pub names_said : WrittenIsReadAgain → (maps : Maps) (xid : ℕ) (domain : List ℕ) → AreServed maps → IsWord xid
    → maps_of xid (success xid map_list (maps_listed maps domain)) ≡ told (names_in maps domain)
names_said law maps xid domain served x = by (length domain == 0) (not (serves domain maps.catalogue))
  where
    by : (a b : Bool) → maps_of xid (success xid map_list (cond a (stat_number Badargs, []) (cond b (stat_number Nodom, []) (stat_number True, maps_in maps domain))))
        ≡ told (cond a (Err Badargs) (cond b (Err Nodom) (Ok (maps_in maps domain))))
    by true b = list_said law xid Badargs [] x (All-nil (λ bytes. length bytes ≤ name_max))
    by false true = list_said law xid Nodom [] x (All-nil (λ bytes. length bytes ≤ name_max))
    by false false = list_said law xid True (maps_in maps domain) x (maps_short maps domain served)

pub served_said : WrittenIsReadAgain → (xid : ℕ) (b : Bool) → IsWord xid → served_of xid (success xid Boolean b) ≡ Ok b
served_said law xid b x =
    ap (λ (left : Result Remaining ClientFault). left >>= λ l. item Boolean l >>= λ served. Ok served.0) (results_again law Boolean xid b x)
    ∙ ap (λ (read : Result (Bool × Remaining) ClientFault). read >>= λ served. Ok served.0) (last_again law Boolean b 24 tt)

-- ---- how long a reply with names is

list_len : (s : YpStat) (names : List (List ℕ)) → All (λ bytes. length bytes ≤ name_max) names → length names ≤ maps_max → 24 + length (spelling map_list (stat_number s, names)) ≤ 262144
list_len s names short few =
    omega (arith, names_len names short, length-append (flat_map (present (spelling name)) names) (word 0), length-append (spelling stat (stat_number s)) (spelling (ListOf name) names))

pub names_within : (maps : Maps) (domain : List ℕ) → AreServed maps → 24 + length (spelling map_list (maps_listed maps domain)) ≤ 262144
names_within maps domain served = by (length domain == 0) (not (serves domain maps.catalogue))
  where
    by : (a b : Bool) → 24 + length (spelling map_list (cond a (stat_number Badargs, []) (cond b (stat_number Nodom, []) (stat_number True, maps_in maps domain)))) ≤ 262144
    by true b = list_len Badargs [] (All-nil (λ bytes. length bytes ≤ name_max)) (omega arith)
    by false true = list_len Nodom [] (All-nil (λ bytes. length bytes ≤ name_max)) (omega arith)
    by false false = list_len True (maps_in maps domain) (maps_short maps domain served) (maps_few maps domain served)
