-- What a fetch makes of the wires of a dial.
use Rattle.std.proofs.Common.{◌≡◌, ◌⊎◌, inl, inr, ℕ, zero, suc, ◌+◌, ◌≤◌, Bool, true, false, if◌then◌else◌, ◌==◌, ◌||◌, List, [], ◌∷◌, ◌++◌, length, Option, None, Some, Ok, Err, refl, sym, ◌∙◌, ap, subst, append_assoc, arith}
use Rattle.std.specs.Option.{ok_or}
use Rattle.std.proofs.lemmas.List.{append-nil, length_push}
use Rattle.yp_io.specs.Dials.{Connected, connected, Wires, WireState, Dialing, DialTells, WireComes, GoesBack}
use Rattle.yp_messages.specs.declared.transfer.XfrStat.{XfrStat}
use Rattle.yp_transfer.specs.declared.calling_back.Asker.{Asker}
use Rattle.yp_transfer.specs.CallBack.{CallsBack}
use Rattle.yp_io.specs.declared.stream.Peer.{Peer}
use Rattle.yp_client.specs.States.{ClientState, IsFirst}
use Rattle.yp_transfer.specs.declared.fault.XfrFault.TheVariants.{Maddr, Rpc, Badargs, NoMemory}
use Rattle.yp_transfer.specs.HostTable.{HostList, find}
use Rattle.yp_transfer.specs.Fetching.{Wanted, FetchOutcome}
use Rattle.yp_transfer.specs.Fetched.{place_of, Fetched, IsFetched}
use Rattle.yp_transfer.specs.Dialing.{ByAddress, FetchesFrom}
use Rattle.yp_host.specs.workers.Wires.{AtLeast, GainsAtLeast, CoversBy}

-- ---- at least so many

module _ {X : Type 0} (P : X → Type 0) where
  -- one more, which counts or doesn't
  more_others : (count : ℕ) (xs : List X) (x : X) → AtLeast P count xs → AtLeast P count (xs ++ x ∷ [])
  more_others count [] x least = inl least
  more_others count (y ∷ ys) x least = elim least [
    | inl rest ↦ inl (more_others count ys x rest)
    | inr one ↦ inr (one.0, (one.1.0, one.1.1, more_others one.1.0 ys x one.1.2))
  ]

  one_more : (count : ℕ) (xs : List X) (x : X) → P x → AtLeast P count xs → AtLeast P (suc count) (xs ++ x ∷ [])
  one_more count [] x holds least = inr (holds, (count, refl, least))
  one_more count (y ∷ ys) x holds least = elim least [
    | inl rest ↦ inl (one_more count ys x holds rest)
    | inr one ↦ inr (one.0, (count, refl, subst (λ (n : ℕ). AtLeast P n (ys ++ x ∷ [])) (sym one.1.1) (one_more one.1.0 ys x holds one.1.2)))
  ]

  -- fewer
  at_least_none : (xs : List X) → AtLeast P 0 xs
  at_least_none [] = refl
  at_least_none (x ∷ xs) = inl (at_least_none xs)

  at_least_fewer : (fewer more : ℕ) (xs : List X) → fewer ≤ more → AtLeast P more xs → AtLeast P fewer xs
  at_least_fewer zero more xs le least = at_least_none xs
  at_least_fewer (suc fewer) more [] le least = absurd (omega (arith, le, least))
  at_least_fewer (suc fewer) more (x ∷ xs) le least = elim least [
    | inl rest ↦ inl (at_least_fewer (suc fewer) more xs le rest)
    | inr one ↦ inr (one.0, (fewer, refl, at_least_fewer fewer one.1.0 xs (let is = one.1.1 in omega (arith, le, is)) one.1.2))
  ]

-- ---- of a wire

-- a wire that counts, or doesn't
module _ (P : Connected → Type 0) (more : ℕ) (dialed : Connected) (left : WireState) (which : (more ≡ 0) ⊎ ((more ≡ 1) × P dialed)) where
  enough : (count : ℕ) (gained : List Connected) → AtLeast P count gained → AtLeast P (count + more) (gained ++ dialed ∷ [])
  enough count gained least = elim which [
    | inl none ↦ subst (λ (n : ℕ). AtLeast P n (gained ++ dialed ∷ [])) (omega (arith, none))
        (more_others P count gained dialed least)
    | inr one ↦ let is = one.0 in subst (λ (n : ℕ). AtLeast P n (gained ++ dialed ∷ [])) (omega (arith, is))
        (one_more P count gained dialed one.1 least)
  ]

  gains : (count : ℕ) (start old middle new : Wires) → middle ≡ record { came = old.came ++ dialed ∷ []; back = old.back }
      → new ≡ record { came = middle.came; back = middle.back ++ left ∷ [] } → GainsAtLeast P start old count
      → GainsAtLeast P start new (count + more)
  gains count start old middle new comes back was =
      let came : new.came ≡ old.came ++ dialed ∷ [] = ap (λ (w : Wires). w.came) back ∙ ap (λ (w : Wires). w.came) comes in
      let went : new.back ≡ old.back ++ left ∷ [] = ap (λ (w : Wires). w.back) back ∙ ap (λ (w : Wires). w.back ++ left ∷ []) comes in
      let one = ap length came ∙ length_push old.came dialed in
      let other = ap length went ∙ length_push old.back left in
      let fair = was.fair in record {
        gained = was.gained ++ dialed ∷ [];
        came = came ∙ ap (λ (l : List Connected). l ++ dialed ∷ []) was.came ∙ append_assoc start.came was.gained (dialed ∷ []);
        fair = omega (arith, one, other, fair);
        enough = enough count was.gained was.enough;
      }

  pub covers_wire : (count : ℕ) (start old middle new : Option Wires) → WireComes dialed old middle → GoesBack left middle new
      → CoversBy P start old count → CoversBy P start new (count + more)
  covers_wire count None old middle new comes back covers = tt
  covers_wire count (Some start) None middle None comes back covers = λ fair. covers fair
  covers_wire count (Some start) None middle (Some new) comes back covers = λ fair. absurd (covers fair)
  covers_wire count (Some start) (Some old) None new comes back covers = absurd comes
  covers_wire count (Some start) (Some old) (Some middle) None comes back covers = λ fair.
      let was = covers fair in
      let kept = was.fair in
      let one = ap (λ (w : Wires). length w.came) comes ∙ length_push old.came dialed in
      let other = ap (λ (w : Wires). length w.back) comes in
      absurd (omega (arith, one, other, kept, back))
  covers_wire count (Some start) (Some old) (Some middle) (Some new) comes back covers = λ fair.
      gains count start old middle new comes back (covers fair)

-- what a wire tells that is just dialed is fetched from its first byte on
pub from_first : (wanted : Wanted) (outcome : FetchOutcome) (first : ClientState) (stream : List ℕ) → IsFirst first
    → Fetched wanted (place_of first.xid first.place stream) outcome → Fetched wanted (place_of 1 0 stream) outcome
from_first wanted outcome first stream begins fetched =
    subst (λ (n : ℕ). Fetched wanted (place_of 1 n stream) outcome) begins.place
    (subst (λ (n : ℕ). Fetched wanted (place_of n first.place stream) outcome) begins.xid fetched)

-- ---- of a fetch

-- nothing is counted where the source isn't asked, or memory runs out
abbrev pub IsUnasked : (FetchOutcome → ℕ) → Type 0
IsUnasked count =
    (count (Err Rpc) ≡ 0) × (count (Err Maddr) ≡ 0) × (count (Err Badargs) ≡ 0) × (count (Err NoMemory) ≡ 0)

-- what counts at most one for a fetch, and that by a wire with P
module _ (P : Connected → Type 0) (count : FetchOutcome → ℕ) (unasked : IsUnasked count)
    (untold : (peer : Peer) (output : Option (List ℕ)) → P (connected peer None output))
    (few : (outcome : FetchOutcome) → (count outcome ≡ 0) ⊎ (count outcome ≡ 1)) (wanted : Wanted) (outcome : FetchOutcome)
    (by_bytes : (peer : Peer) (stream : List ℕ) (output : Option (List ℕ))
    → Fetched wanted (place_of 1 0 stream) outcome → (count outcome ≡ 0) ⊎ P (connected peer (Some stream) output)) where
  by_wire : (peer : Peer) (first last : ClientState) → IsFirst first
      → IsFetched wanted outcome first last → (input : Option (List ℕ)) → first.wire.input ≡ input
      → (count outcome ≡ 0) ⊎ P (connected peer input first.wire.output)
  by_wire peer first last begins fetched None is = inr (untold peer first.wire.output)
  by_wire peer first last begins fetched (Some stream) is = elim (fetched stream is) [
    | inl one ↦ by_bytes peer stream first.wire.output (from_first wanted outcome first stream begins one)
    | inr other ↦ elim other [
      | inl fails ↦ inl (ap count fails.0 ∙ unasked.0)
      | inr memory ↦ inl (ap count memory ∙ unasked.3)
    ]
  ]

  counts_once : (dialed : Connected) → (count outcome ≡ 0) ⊎ P dialed
      → (count outcome ≡ 0) ⊎ ((count outcome ≡ 1) × P dialed)
  counts_once dialed which = elim (few outcome) [
    | inl none ↦ inl none
    | inr one ↦ elim which [ inl none ↦ inl none | inr holds ↦ inr (one, holds) ]
  ]

  module _ (start : Option Wires) (counted : ℕ) (old new : Dialing)
      (covers : CoversBy P start old.past counted) where
    same : count outcome ≡ 0 → new.past ≡ old.past → CoversBy P start new.past (counted + count outcome)
    same none past =
        subst (λ (p : Option Wires). CoversBy P start p (counted + count outcome)) (sym past)
        (subst (λ (n : ℕ). CoversBy P start old.past n) (omega (arith, none)) covers)

    by_peer : (peer : Peer) → ByAddress wanted (Ok peer) outcome old new
        → CoversBy P start new.past (counted + count outcome)
    by_peer peer goes = elim goes [
      | inl none ↦ same (ap count none.0 ∙ unasked.0) none.1.none
      | inr wire ↦ covers_wire P (count outcome) (connected peer wire.first.wire.input wire.first.wire.output) wire.last.wire
          (counts_once (connected peer wire.first.wire.input wire.first.wire.output)
          (by_wire peer wire.first wire.last wire.dialed.begins wire.fetched wire.first.wire.input refl))
          counted start old.past wire.dialed.middle new.past wire.dialed.comes wire.dialed.goes_back covers
    ]

    by_address : (empty : Bool) (found : Option Peer)
        → ByAddress wanted (if empty then Err Badargs else ok_or found Maddr) outcome old new
        → CoversBy P start new.past (counted + count outcome)
    by_address true found stops = same (ap count stops.0 ∙ unasked.2) (ap (λ (d : Dialing). d.past) stops.1)
    by_address false None stops = same (ap count stops.0 ∙ unasked.1) (ap (λ (d : Dialing). d.past) stops.1)
    by_address false (Some peer) goes = by_peer peer goes

    pub fetched_counts : (hosts : HostList) (source : List ℕ) → FetchesFrom hosts source wanted outcome old new
        → CoversBy P start new.past (counted + count outcome)
    fetched_counts hosts source fetches =
        by_address (length wanted.domain == 0 || length wanted.map == 0 || length source == 0) (find source hosts) fetches

module _ (P : Connected → Type 0) where
  -- before the first
  pub covers_none : (start : Option Wires) → CoversBy P start start 0
  covers_none None = tt
  covers_none (Some start) = λ fair. record { gained = []; came = sym (append-nil start.came); fair = fair; enough = refl }

  -- none of another kind
  pub covers_no_others : (Q : Connected → Type 0) (start now : Option Wires) (count : ℕ) → CoversBy Q start now count
      → CoversBy P start now 0
  covers_no_others Q None now count covers = tt
  covers_no_others Q (Some start) None count covers = covers
  covers_no_others Q (Some start) (Some now) count covers = λ fair. let was = covers fair in record {
    gained = was.gained;
    came = was.came;
    fair = was.fair;
    enough = at_least_none P was.gained;
  }

  -- fewer are covered, too
  pub covers_fewer : (start now : Option Wires) (fewer more : ℕ) → fewer ≤ more → CoversBy P start now more
      → CoversBy P start now fewer
  covers_fewer None now fewer more le covers = tt
  covers_fewer (Some start) None fewer more le covers = covers
  covers_fewer (Some start) (Some now) fewer more le covers = λ fair. let was = covers fair in record {
    gained = was.gained;
    came = was.came;
    fair = was.fair;
    enough = at_least_fewer P fewer more was.gained le was.enough;
  }

  pub same_wires : (start old new : Option Wires) (count : ℕ) → new ≡ old → CoversBy P start old count
      → CoversBy P start new count
  same_wires start old new count is covers = subst (λ (p : Option Wires). CoversBy P start p count) (sym is) covers

-- a letter leaves the wires
pub calls_back_past : (wants : Bool) (asker : Asker) (stat : XfrStat) (old new : DialTells)
    → CallsBack wants asker stat old new → new.past ≡ old.past
calls_back_past true asker stat old new posts = posts.past
calls_back_past false asker stat old new same = ap (λ (d : DialTells). d.past) same

-- and its faults don't fall
pub calls_back_faults : (wants : Bool) (asker : Asker) (stat : XfrStat) (old new : DialTells)
    → CallsBack wants asker stat old new → old.faults ≤ new.faults
calls_back_faults true asker stat old new posts = posts.never_falls
calls_back_faults false asker stat old new same =
    let is = ap (λ (d : DialTells). d.faults) same in omega (arith, is)
