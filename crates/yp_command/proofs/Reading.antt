-- Further words, read one after the other.
use Rattle.std.proofs.Common.{◌≡◌, ℕ, ◌+◌, ◌<◌, ◌≤◌, Bool, true, false, cond, List, [], ◌∷◌, ◌++◌, length, drop, take}
use Rattle.std.proofs.Common.{Option, Some, None, Result, Ok, Err, refl, sym, ◌∙◌, ap, subst, add-one, arith, length-drop}
use Rattle.std.specs.Prelude.{slice_get, nat_lt, nat_le, ◌==◌, ◌||◌, map}
use Rattle.std.specs.List.{list_any}
use Rattle.std.specs.Option.{ok_or, option_and_then}
use Rattle.std.proofs.Math.Seq.{drop-cons}
use Rattle.std.proofs.lemmas.Bool.Decides.{nat_tests}
use Rattle.std.proofs.lemmas.List.{nil_from_length, length-take-le, length-map}
use Rattle.std.proofs.lemmas.Option.{slice_get_within, get_or_from_slice_get, slice_get-get_or}
use Rattle.yp_io.specs.declared.stream.Peer.{Peer}
use Rattle.yp_binding.specs.Kept.{servers_max}
use Rattle.yp_binding.specs.Rounds.{is_same_peer}
use Rattle.yp_board.specs.Catalogues.{Name, is_same, maps_max}
use Rattle.yp_command.specs.Forms.{Host}
use Rattle.yp_command.specs.Forms as form
use Rattle.yp_command.specs.Words.{word, each, served, servers, stores_and_hosts, ◌>>=◌}
use Rattle.yp_command.specs.Words.{is_new_store, is_new_server, compared}

-- a word that is there, and those behind it
there : (at : ℕ) (words : List (List ℕ)) (text : List ℕ) → slice_get words at ≡ Some text
    → drop at words ≡ text ∷ drop (at + 1) words
there at words text e =
    let first = get_or_from_slice_get words at text [] e in
    let behind = drop-cons words at [] (slice_get_within words at text e) in
    let one = add-one at in
    cc

no_more : (at : ℕ) (words : List (List ℕ)) → length words ≤ at → drop at words ≡ []
no_more at words past = nil_from_length (drop at words) (omega (arith, past, length-drop at words))

-- a word that says a value is there
found : {A : Type 0} (form : List ℕ → Option A) (at : ℕ) (words : List (List ℕ)) (value : A)
    → word at form words ≡ Ok value
    → (text : List ℕ) × (drop at words ≡ text ∷ drop (at + 1) words) × (ok_or (form text) at ≡ Ok value)
found {A} form at words value e =
    (elim (slice_get words at) as
    (λ o. slice_get words at ≡ o → ok_or (option_and_then form o) at ≡ Ok value
    → (text : List ℕ) × (drop at words ≡ text ∷ drop (at + 1) words) × (ok_or (form text) at ≡ Ok value)) [
      | Some text ↦ λ is e. (text, there at words text is, e)
      | None ↦ λ is e. absurd cc
    ]) refl e

-- and one that says none is the wrong one
lacking : {A : Type 0} (form : List ℕ → Option A) (at : ℕ) (words : List (List ℕ)) (wrong : ℕ) → at < length words
    → word at form words ≡ Err wrong
    → (text : List ℕ) × (drop at words ≡ text ∷ drop (at + 1) words) × (ok_or (form text) at ≡ Err wrong)
lacking {A} form at words wrong within e =
    let is = slice_get-get_or words at [] within in
    (elim (slice_get words at) as
    (λ o. slice_get words at ≡ o → ok_or (option_and_then form o) at ≡ Err wrong
    → (text : List ℕ) × (drop at words ≡ text ∷ drop (at + 1) words) × (ok_or (form text) at ≡ Err wrong)) [
      | Some text ↦ λ is e. (text, there at words text is, e)
      | None ↦ λ none e. absurd cc
    ]) refl e

-- ---- words of one form

pub each_more : {A : Type 0} (form : List ℕ → Option A) (at : ℕ) (values : List A) (words : List (List ℕ)) (value : A)
    → word at form words ≡ Ok value
    → each form at values (drop at words) ≡ each form (at + 1) (values ++ value ∷ []) (drop (at + 1) words)
each_more form at values words value e =
    let (text, is, says) = found form at words value e in
    rw (is, says) refl

pub each_wrong : {A : Type 0} (form : List ℕ → Option A) (at : ℕ) (values : List A) (words : List (List ℕ)) (wrong : ℕ)
    → at < length words → word at form words ≡ Err wrong → each form at values (drop at words) ≡ Err wrong
each_wrong form at values words wrong within e =
    let (text, is, says) = lacking form at words wrong within e in
    rw (is, says) refl

pub each_all : {A : Type 0} (form : List ℕ → Option A) (at : ℕ) (values : List A) (words : List (List ℕ))
    → length words ≤ at → each form at values (drop at words) ≡ Ok values
each_all form at values words past = rw (no_more at words past) refl

-- ---- servers

pub servers_more : (at : ℕ) (hosts : List Host) (words : List (List ℕ)) (host : Host)
    → word at form.host words ≡ Ok host
    → is_new_server hosts host ≡ true
    → servers at hosts (drop at words) ≡ servers (at + 1) (hosts ++ host ∷ []) (drop (at + 1) words)
servers_more at hosts words host e new =
    let (text, is, says) = found form.host at words host e in
    rw (is, says, new) refl

pub servers_known : (at : ℕ) (hosts : List Host) (words : List (List ℕ)) (host : Host)
    → word at form.host words ≡ Ok host → is_new_server hosts host ≡ false → servers at hosts (drop at words) ≡ Err at
servers_known at hosts words host e known =
    let (text, is, says) = found form.host at words host e in
    rw (is, says, known) refl

pub servers_wrong : (at : ℕ) (hosts : List Host) (words : List (List ℕ)) (wrong : ℕ) → at < length words
    → word at form.host words ≡ Err wrong → servers at hosts (drop at words) ≡ Err wrong
servers_wrong at hosts words wrong within e =
    let (text, is, says) = lacking form.host at words wrong within e in
    rw (is, says) refl

pub servers_all : (at : ℕ) (hosts : List Host) (words : List (List ℕ)) → length words ≤ at
    → servers at hosts (drop at words) ≡ Ok hosts
servers_all at hosts words past = rw (no_more at words past) refl

-- a server whose address is none of those of the servers before it, which are fewer than 64
pub new_server : (peers : List Peer) (count : ℕ) (hosts : List Host) (host : Host) → length peers ≡ servers_max
    → count ≤ servers_max → take count peers ≡ map (λ host. host.1) hosts
    → list_any (is_same_peer host.1) (take count peers) ≡ false → (count ≡ servers_max → ⊥)
    → is_new_server hosts host ≡ true
new_server peers count hosts host all within same known full =
    let other : list_any (is_same_peer host.1) (map (λ host. host.1) hosts) ≡ false =
    subst (λ (l : List Peer). list_any (is_same_peer host.1) l ≡ false) same known in
    let len = length-take-le count peers (omega (arith, within, all)) in
    let long = length-map hosts (λ host. host.1) in
    let under : length hosts < servers_max = omega (arith, within, len, long, ap length same, full) in
    let room : nat_lt (length hosts) servers_max ≡ true = grind (arith, nat_tests) in
    rw (other, room) refl

-- and one that is known, or behind 64 others, is the wrong one
pub known_server : (peers : List Peer) (count : ℕ) (hosts : List Host) (host : Host)
    → take count peers ≡ map (λ host. host.1) hosts → list_any (is_same_peer host.1) (take count peers) ≡ true
    → is_new_server hosts host ≡ false
known_server peers count hosts host same known =
    let other : list_any (is_same_peer host.1) (map (λ host. host.1) hosts) ≡ true =
    subst (λ (l : List Peer). list_any (is_same_peer host.1) l ≡ true) same known in
    rw other refl

pub last_server : (peers : List Peer) (count : ℕ) (hosts : List Host) (host : Host) → length peers ≡ servers_max
    → take count peers ≡ map (λ host. host.1) hosts
    → list_any (is_same_peer host.1) (take count peers) ≡ false → count ≡ servers_max
    → is_new_server hosts host ≡ false
last_server peers count hosts host all same known full =
    let other : list_any (is_same_peer host.1) (map (λ host. host.1) hosts) ≡ false =
    subst (λ (l : List Peer). list_any (is_same_peer host.1) l ≡ false) same known in
    let len = length-take-le count peers (omega (arith, full, all)) in
    let long = length-map hosts (λ host. host.1) in
    let none : length hosts ≡ servers_max = omega (arith, full, len, long, ap length same) in
    let room : nat_lt (length hosts) servers_max ≡ false = grind (arith, nat_tests) in
    rw (other, room) refl

-- ---- the maps and hosts of a server

some_of : {A : Type 0} (said : Option A) (at : ℕ) (value : A) → ok_or said at ≡ Ok value → said ≡ Some value
some_of None at value e = absurd cc
some_of (Some other) at value e = let same : other ≡ value = cc in rw same refl

none_of : {A : Type 0} (said : Option A) (at wrong : ℕ) → ok_or said at ≡ Err wrong → said ≡ None
none_of None at wrong e = refl
none_of (Some value) at wrong e = absurd cc

pub room_left : (n : ℕ) → n ≤ maps_max → (n == maps_max) ≡ false → n < maps_max
room_left n within other = grind (arith, nat_tests)

pub no_room : (n : ℕ) → (n == maps_max) ≡ true → n ≡ maps_max
no_room n same = grind (arith, nat_tests)

-- a test of views is a test of what is viewed
pub any_viewed : {X : Type 0} (test : Name → Bool) (view : X → Name) (all : List X)
    → list_any test (map view all) ≡ list_any (λ one. test (view one)) all
any_viewed test view [] = refl
any_viewed test view (one ∷ all) = ap (λ b. test (view one) || b) (any_viewed test view all)

-- a map that isn't one of those before it, which are fewer than 64
pub new_store : (stores : List Name) (store : Name) → list_any (is_same store) stores ≡ false
    → length stores < maps_max → is_new_store stores store ≡ true
new_store stores store other under =
    let room : nat_lt (length stores) maps_max ≡ true = grind (arith, nat_tests) in
    rw (other, room) refl

pub known_store : (stores : List Name) (store : Name) → list_any (is_same store) stores ≡ true
    → is_new_store stores store ≡ false
known_store stores store known = rw known refl

pub last_store : (stores : List Name) (store : Name) → list_any (is_same store) stores ≡ false
    → length stores ≡ maps_max → is_new_store stores store ≡ false
last_store stores store other full =
    let room : nat_lt (length stores) maps_max ≡ false = grind (arith, nat_tests) in
    rw (other, room) refl

pub served_store : (at : ℕ) (stores : List Name) (hosts : List Host) (words : List (List ℕ)) (store : Name)
    → word at form.store words ≡ Ok store → is_new_store stores store ≡ true
    → served at stores hosts (drop at words) ≡ served (at + 1) (stores ++ store ∷ []) hosts (drop (at + 1) words)
served_store at stores hosts words store e new =
    let (text, is, says) = found form.store at words store e in
    rw (is, some_of (form.store text) at store says, new) refl

pub served_known : (at : ℕ) (stores : List Name) (hosts : List Host) (words : List (List ℕ)) (store : Name)
    → word at form.store words ≡ Ok store → is_new_store stores store ≡ false
    → served at stores hosts (drop at words) ≡ Err at
served_known at stores hosts words store e known =
    let (text, is, says) = found form.store at words store e in
    rw (is, some_of (form.store text) at store says, known) refl

pub served_host : (at : ℕ) (stores : List Name) (hosts : List Host) (words : List (List ℕ)) (host : Host) (other : ℕ)
    → at < length words → word at form.store words ≡ Err other → word at form.host words ≡ Ok host
    → served at stores hosts (drop at words) ≡ served (at + 1) stores (hosts ++ host ∷ []) (drop (at + 1) words)
served_host at stores hosts words host other within e is =
    let (text, here, says) = lacking form.store at words other within e in
    let (again, there, named) = found form.host at words host is in
    let same : again ≡ text = cc in
    let named' : ok_or (form.host text) at ≡ Ok host =
    subst (λ (w : List ℕ). ok_or (form.host w) at ≡ Ok host) same named in
    rw (here, none_of (form.store text) at other says, named') refl

pub served_wrong : (at : ℕ) (stores : List Name) (hosts : List Host) (words : List (List ℕ)) (other wrong : ℕ)
    → at < length words → word at form.store words ≡ Err other → word at form.host words ≡ Err wrong
    → served at stores hosts (drop at words) ≡ Err wrong
served_wrong at stores hosts words other wrong within e is =
    let (text, here, says) = lacking form.store at words other within e in
    let (again, there, none) = lacking form.host at words wrong within is in
    let same : again ≡ text = cc in
    let none' : ok_or (form.host text) at ≡ Err wrong =
    subst (λ (w : List ℕ). ok_or (form.host w) at ≡ Err wrong) same none in
    rw (here, none_of (form.store text) at other says, none') refl

-- so the maps and hosts of a server are read, or none of the words says a map
pub all_read : (at : ℕ) (words : List (List ℕ)) (read : Result (List Name × List Host) ℕ)
    → served at [] [] (drop at words) ≡ read
    → stores_and_hosts at words ≡ (read >>= λ all. cond (nat_le 1 (length all.0)) (Ok all) (Err (length words)))
all_read at words read e = rw e refl

pub served_all : (at : ℕ) (stores : List Name) (hosts : List Host) (words : List (List ℕ)) → length words ≤ at
    → served at stores hosts (drop at words) ≡ Ok (stores, hosts)
served_all at stores hosts words past = rw (no_more at words past) refl

-- ---- servers that are compared

pub compared_more : (at : ℕ) (peers : List Peer) (domain : List ℕ) (words : List (List ℕ)) (peer : Peer) (next : List ℕ)
    → ok_or (form.address domain) at ≡ Ok peer → word at form.text words ≡ Ok next
    → compared at peers domain (drop at words) ≡ compared (at + 1) (peers ++ peer ∷ []) next (drop (at + 1) words)
compared_more at peers domain words peer next address e =
    let (text, is, says) = found form.text at words next e in
    rw (is, address, says) refl

-- a word before another is no address
pub compared_early : (at : ℕ) (peers : List Peer) (domain : List ℕ) (words : List (List ℕ)) (wrong : ℕ)
    → at < length words → ok_or (form.address domain) at ≡ Err wrong
    → compared at peers domain (drop at words) ≡ Err wrong
compared_early at peers domain words wrong within none =
    let behind = drop-cons words at [] within in
    rw (behind, none) refl

pub compared_wrong : (at : ℕ) (peers : List Peer) (domain : List ℕ) (words : List (List ℕ)) (peer : Peer) (wrong : ℕ)
    → at < length words → ok_or (form.address domain) at ≡ Ok peer → word at form.text words ≡ Err wrong
    → compared at peers domain (drop at words) ≡ Err wrong
compared_wrong at peers domain words peer wrong within address e =
    let (text, is, says) = lacking form.text at words wrong within e in
    rw (is, address, says) refl
