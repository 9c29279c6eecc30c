-- The pings of a round by their places.
use Rattle.std.proofs.Common.{◌≡◌, ℕ, zero, suc, ◌+◌, ◌-◌, ◌*◌, ◌%◌, ◌^◌}
use Rattle.std.proofs.Common.{◌<◌, ◌≤◌, Bool, true, false, cond, ltb, eqb, List, []}
use Rattle.std.proofs.Common.{◌∷◌, ◌++◌, length, take, Option, Some, None, refl, sym, ap, ◌∙◌, arith, inl, inr}
use Rattle.std.specs.Prelude.{option_map}
use Rattle.std.specs.List.{slice_get, find}
use Rattle.std.proofs.lemmas.Bool.{cases_eq, ne_eqb, le-ltb, lt-ltb}
use Rattle.std.proofs.lemmas.Bool.Decides.{Decides-eqb, nat_tests}
use Rattle.std.proofs.lemmas.List.{length-append, length-map}
use Rattle.yp_io.specs.declared.stream.Peer.{Peer}
use Rattle.yp_binding.specs.declared.binder.Ping.{Ping}
use Rattle.yp_binding.specs.declared.event.Binding.{Binding}
use Rattle.yp_binding.specs.declared.event.Event.{Event}
use Rattle.yp_binding.specs.Events.{binding_of}
use Rattle.yp_binding.specs.Rounds.{Bindings, target, targets_of, targets_from, targets, round_begin, ping_at, pings_from}
use Rattle.yp_binding.specs.Rounds.{round_of, out, first_number, ping_with, next_ping_of, target_of, taken_at, taken_from}
use Rattle.yp_binding.proofs.Lists.{slice_get-front, slice_get-behind}

-- the ping at a place is to the target there
pub ping_there : (number : ℕ) (to : List Binding) (place : ℕ)
    → slice_get (pings_from number to) place ≡ option_map (ping_at (number + place)) (slice_get to place)
ping_there number [] place = refl
ping_there number (one ∷ others) zero = let same : number + 0 ≡ number = omega arith in rw same refl
ping_there number (one ∷ others) (suc place) =
    let same : number + 1 + place ≡ number + suc place = omega arith in
    ping_there (number + 1) others place
    ∙ ap (λ (n : ℕ). option_map (ping_at n) (slice_get others place)) same

-- the place of an xid
abbrev pub place_of : (number xid : ℕ) → ℕ
place_of number xid = (xid + (2 ^ 32 - number % 2 ^ 32)) % 2 ^ 32

-- what stands at a place, if it is below a count
abbrev pub below : {X : Type 0} → (place count : ℕ) → Option X → Option X
below place count found = cond (ltb place count) found None

suc_tests : (a b : ℕ) → ltb (suc a) (suc b) ≡ ltb a b
suc_tests a b = grind (arith, nat_tests)

found_first : (number xid : ℕ) (one : Binding) (count : ℕ) (others : List Ping) → xid < 2 ^ 32 → number % 2 ^ 32 ≡ xid
    → find (λ ping. eqb ping.xid xid) (ping_at number one ∷ others)
    ≡ below (place_of number xid) (suc count) (Some (ping_at (number + place_of number xid) one))
found_first number xid one count others low is =
    let same : eqb (number % 2 ^ 32) xid ≡ true = (Decides-eqb (number % 2 ^ 32) xid).1 is in
    let place : place_of number xid ≡ 0 = omega (arith, is) in
    let add : number + 0 ≡ number = omega arith in
    let under : ltb 0 (suc count) ≡ true = lt-ltb 0 (suc count) (omega arith) in
    rw (same, place, add, under) refl

pub found : (number xid : ℕ) (to : List Binding) (count : ℕ) → xid < 2 ^ 32 → count ≤ length to
    → find (λ ping. eqb ping.xid xid) (take count (pings_from number to))
    ≡ below (place_of number xid) count
    (option_map (ping_at (number + place_of number xid)) (slice_get to (place_of number xid)))
found number xid to zero low few =
    let over : ltb (place_of number xid) 0 ≡ false = le-ltb (place_of number xid) 0 (omega arith) in rw over refl
found number xid [] (suc count) low few = absurd (omega (arith, few))
found number xid (one ∷ others) (suc count) low few =
    elim (cases_eq (number % 2 ^ 32) xid) [
      | inl is ↦
          let place : place_of number xid ≡ 0 = omega (arith, is) in
          found_first number xid one count (take count (pings_from (number + 1) others)) low is
          ∙ ap (λ (k : ℕ). below (place_of number xid) (suc count)
          (option_map (ping_at (number + place_of number xid)) (slice_get (one ∷ others) k))) (sym place)
      | inr differs ↦
          let other : eqb (number % 2 ^ 32) xid ≡ false = ne_eqb (number % 2 ^ 32) xid differs in
          let place : place_of number xid ≡ suc (place_of (number + 1) xid) = omega (arith, differs) in
          let same : number + 1 + place_of (number + 1) xid ≡ number + suc (place_of (number + 1) xid) = omega arith in
          rw (other, place, suc_tests (place_of (number + 1) xid) count)
          (found (number + 1) xid others count low (omega (arith, few))
          ∙ ap (λ (n : ℕ). below (place_of (number + 1) xid) count
          (option_map (ping_at n) (slice_get others (place_of (number + 1) xid)))) same)
    ]

-- the ping that is out with an xid, by its place
pub ping_by : (bindings : Bindings) (xid : ℕ) → xid < 2 ^ 32 → out bindings.events ≤ length (targets bindings)
    → ping_with bindings xid
    ≡ below (place_of (first_number bindings.events) xid) (out bindings.events)
    (option_map (ping_at (first_number bindings.events + place_of (first_number bindings.events) xid))
    (slice_get (targets bindings) (place_of (first_number bindings.events) xid)))
ping_by bindings xid low few = found (first_number bindings.events) xid (targets bindings) (out bindings.events) low few

-- the next ping, by its target
pub next_by : (bindings : Bindings) (pinged : ℕ) → pinged ≡ out bindings.events
    → next_ping_of bindings
    ≡ option_map (ping_at (first_number bindings.events + pinged)) (slice_get (targets bindings) pinged)
next_by bindings pinged is =
    ap (λ (n : ℕ). slice_get (round_of bindings) n) (sym is)
    ∙ ping_there (first_number bindings.events) (targets bindings) pinged

-- ---- the targets of domains from one on

-- the targets of the domain at the front, and of the others
pub targets_step : (servers : List Peer) (events : List Event) (domain n place : ℕ) → domain < n
    → slice_get (targets_from servers events domain (n - domain)) place
    ≡ slice_get (targets_of servers domain (binding_of domain events)
    ++ targets_from servers events (domain + 1) (n - (domain + 1))) place
targets_step servers events domain n place lt =
    let more : n - domain ≡ suc (n - (domain + 1)) = omega (arith, lt) in rw more refl

pub target_front : (servers : List Peer) (events : List Event) (domain n place : ℕ) → domain < n
    → place < length (targets_of servers domain (binding_of domain events))
    → slice_get (targets_from servers events domain (n - domain)) place
    ≡ slice_get (targets_of servers domain (binding_of domain events)) place
target_front servers events domain n place lt front =
    targets_step servers events domain n place lt
    ∙ slice_get-front (targets_of servers domain (binding_of domain events))
    (targets_from servers events (domain + 1) (n - (domain + 1))) place front

pub target_behind : (servers : List Peer) (events : List Event) (domain n place : ℕ) → domain < n
    → length (targets_of servers domain (binding_of domain events)) ≤ place
    → slice_get (targets_from servers events domain (n - domain)) place
    ≡ slice_get (targets_from servers events (domain + 1) (n - (domain + 1)))
    (place - length (targets_of servers domain (binding_of domain events)))
target_behind servers events domain n place lt behind =
    targets_step servers events domain n place lt
    ∙ slice_get-behind (targets_of servers domain (binding_of domain events))
    (targets_from servers events (domain + 1) (n - (domain + 1))) place behind

-- all of them
pub targets_all : (bindings : Bindings) (n place : ℕ) → n ≡ length bindings.domains
    → slice_get (targets bindings) place
    ≡ slice_get (targets_from bindings.servers (round_begin bindings.events) 0 (n - 0)) place
unfolding targets
targets_all bindings n place is = let same : n - 0 ≡ length bindings.domains = omega (arith, is) in rw same refl

-- behind the last domain there is none
pub targets_none : (servers : List Peer) (events : List Event) (domain n place : ℕ) → n ≤ domain
    → None ≡ slice_get (targets_from servers events domain (n - domain)) place
targets_none servers events domain n place le = let none : n - domain ≡ 0 = omega (arith, le) in rw none refl

-- ---- offers

same_target : (n : ℕ) (o : Option Binding) → option_map target_of (option_map (ping_at n) o) ≡ o
same_target n None = refl
same_target n (Some to) = refl

below_map : (n place count : ℕ) (o : Option Binding)
    → option_map target_of (below place count (option_map (ping_at n) o)) ≡ below place count o
below_map n place count o = by_test (ltb place count)
  where
    by_test : (b : Bool) → option_map target_of (cond b (option_map (ping_at n) o) None) ≡ cond b o None
    by_test true = same_target n o
    by_test false = refl

pub pinged_by : (bindings : Bindings) (xid : ℕ) → xid < 2 ^ 32 → out bindings.events ≤ length (targets bindings)
    → option_map target_of (ping_with bindings xid)
    ≡ below (place_of (first_number bindings.events) xid) (out bindings.events)
    (slice_get (targets bindings) (place_of (first_number bindings.events) xid))
pinged_by bindings xid low few =
    let number = first_number bindings.events in
    ap (λ (o : Option Ping). option_map target_of o) (ping_by bindings xid low few)
    ∙ below_map (number + place_of number xid) (place_of number xid) (out bindings.events)
    (slice_get (targets bindings) (place_of number xid))

pub taken_none : (bindings : Bindings) (from : Peer) (o : Option Ping) → None ≡ option_map target_of o
    → None ≡ taken_from bindings from o
taken_none bindings from None e = refl
taken_none bindings from (Some ping) e = absurd cc

pub taken_some : (bindings : Bindings) (from : Peer) (o : Option Ping) (to : Binding)
    → Some to ≡ option_map target_of o
    → taken_at to (binding_of to.domain bindings.events) from ≡ taken_from bindings from o
taken_some bindings from None to e = absurd cc
taken_some bindings from (Some ping) to e =
    let same : to ≡ target_of ping = cc in
    ap (λ (t : Binding). taken_at t (binding_of t.domain bindings.events) from) same

-- by the place of the xid
pub pinged_out : (bindings : Bindings) (xid place pinged : ℕ) → xid < 2 ^ 32 → pinged ≡ out bindings.events
    → pinged ≤ length (targets bindings) → place ≡ place_of (first_number bindings.events) xid → place < pinged
    → slice_get (targets bindings) place ≡ option_map target_of (ping_with bindings xid)
pinged_out bindings xid place pinged low is few at lt =
    let number = first_number bindings.events in
    let under : ltb (place_of number xid) (out bindings.events) ≡ true =
    lt-ltb (place_of number xid) (out bindings.events) (omega (arith, is, at, lt)) in
    ap (λ (k : ℕ). slice_get (targets bindings) k) at
    ∙ sym (ap (λ (b : Bool). cond b (slice_get (targets bindings) (place_of number xid)) None) under)
    ∙ sym (pinged_by bindings xid low (omega (arith, is, few)))

pub pinged_not : (bindings : Bindings) (xid place pinged : ℕ) → xid < 2 ^ 32 → pinged ≡ out bindings.events
    → pinged ≤ length (targets bindings) → place ≡ place_of (first_number bindings.events) xid → pinged ≤ place
    → None ≡ option_map target_of (ping_with bindings xid)
pinged_not bindings xid place pinged low is few at le =
    let number = first_number bindings.events in
    let over : ltb (place_of number xid) (out bindings.events) ≡ false =
    le-ltb (place_of number xid) (out bindings.events) (omega (arith, is, at, le)) in
    sym (ap (λ (b : Bool). cond b (slice_get (targets bindings) (place_of number xid)) None) over)
    ∙ sym (pinged_by bindings xid low (omega (arith, is, few)))

-- ---- a round has few pings

targets_few : (servers : List Peer) (domain : ℕ) (asked : Option Peer) → length servers ≤ 64
    → length (targets_of servers domain asked) ≤ 64
targets_few servers domain None few = omega (arith, few, length-map servers (target domain))
targets_few servers domain (Some server) few = omega arith

round_few : (servers : List Peer) (events : List Event) (domain n : ℕ) → length servers ≤ 64
    → length (targets_from servers events domain n) ≤ 64 * n
round_few servers events domain zero few = omega arith
round_few servers events domain (suc n) few =
    let here = targets_of servers domain (binding_of domain events) in
    let more = targets_from servers events (domain + 1) n in
    omega (
      arith,
      targets_few servers domain (binding_of domain events) few,
      round_few servers events (domain + 1) n few,
      length-append here more,
    )

pub targets_bound : (bindings : Bindings) → length bindings.servers ≤ 64 → length bindings.domains ≤ 8
    → length (targets bindings) ≤ 512
unfolding targets
targets_bound bindings few_servers few =
    let bound =
    round_few bindings.servers (round_begin bindings.events) 0 (length bindings.domains) few_servers in
    omega (arith, bound, few)
