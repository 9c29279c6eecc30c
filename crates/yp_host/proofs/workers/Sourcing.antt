-- The versions that a fetch gave, and the sources that failed.
use Rattle.std.proofs.Common.{◌≡◌, ◌⊎◌, inl, inr, ℕ, ◌+◌, ◌<◌, ◌≤◌, Bool, true, false, if◌then◌else◌, ◌==◌, ◌||◌, List, length, Option, None, Some, Ok, Err, refl, ap, subst, arith}
use Rattle.std.specs.Option.{ok_or}
use Rattle.std.proofs.lemmas.Bool.{ne_eqb}
use Rattle.yp_io.specs.Counts.{HasRisen, last_count}
use Rattle.yp_io.specs.declared.stream.Peer.{Peer}
use Rattle.yp_io.specs.Dials.{Wires, Dialing, connected}
use Rattle.yp_transfer.specs.declared.fault.XfrFault.{XfrFault}
use Rattle.yp_transfer.specs.declared.fault.XfrFault.TheVariants.{Maddr, Rpc, Nodom, Nomap, Yperr, Xfrerr, Age, Skew, Dbm, Badargs, File, Refused, NoMemory}
use Rattle.yp_transfer.specs.HostTable.{HostList, find}
use Rattle.yp_transfer.specs.Fetching.{Wanted, wanted_of, FetchOutcome, against_order, against_names}
use Rattle.yp_transfer.specs.Fetched.{place_of, Fetched}
use Rattle.yp_transfer.specs.Dialing.{ByAddress, FetchesFrom, FetchesOnWire}
use Rattle.yp_transfer.specs.inside.Laws.{FetchedIsOne}
use Rattle.yp_host.specs.workers.Wires.{BytesGiveVersion, IsGood, IsBad, CoversBy, CoversSources}
use Rattle.yp_host.specs.inside.workers.Wires.{sources_in, versions_in}
use Rattle.yp_host.proofs.workers.Dialing.{fetched_counts, covers_wire, covers_none, from_first, same_wires}
use Rattle.yp_host.proofs.workers.Leading.{Leads, leads, to_version, to_fault, only_age}

-- ---- a version

pub few_versions : (outcome : FetchOutcome) → (versions_in outcome ≡ 0) ⊎ (versions_in outcome ≡ 1)
few_versions (Ok version) = inr refl
few_versions (Err why) = inl refl

-- bytes that give a version give it where none is shown
good : (wanted : Wanted) (peer : Peer) (stream : List ℕ) (output : Option (List ℕ)) (outcome : FetchOutcome)
    → Fetched wanted (place_of 1 0 stream) outcome
    → (versions_in outcome ≡ 0) ⊎ IsGood (connected peer (Some stream) output)
good wanted peer stream output (Err why) fetched = inl refl
good wanted peer stream output (Ok version) fetched =
    let first = place_of 1 0 stream in
    let unshown = wanted_of wanted.domain wanted.map None false in
    let found = leads wanted first version fetched in inr record {
      wanted = unshown;
      unshown = refl;
      version = version;
      fetched = to_version unshown first version found.1 found.0 refl;
    }

pub fetched_versions : (start : Option Wires) (versions : ℕ) (wanted : Wanted) (outcome : FetchOutcome) (old new : Dialing)
    → CoversBy IsGood start old.past versions → (hosts : HostList) (source : List ℕ) → FetchesFrom hosts source wanted outcome old new
    → CoversBy IsGood start new.past (versions + versions_in outcome)
fetched_versions start versions wanted outcome old new covers hosts source fetches =
    fetched_counts IsGood versions_in (refl, refl, refl, refl) (λ peer output. tt) few_versions wanted outcome
    (λ peer stream output. good wanted peer stream output outcome) start versions old new covers hosts source fetches

-- ---- a source that failed

few_sources : (outcome : FetchOutcome) → (sources_in outcome ≡ 0) ⊎ (sources_in outcome ≡ 1)
few_sources (Ok version) = inl refl
few_sources (Err (Age shown offered)) = inl refl
few_sources (Err NoMemory) = inl refl
few_sources (Err Maddr) = inr refl
few_sources (Err Rpc) = inr refl
few_sources (Err Nodom) = inr refl
few_sources (Err Nomap) = inr refl
few_sources (Err (Yperr stat)) = inr refl
few_sources (Err (Xfrerr at)) = inr refl
few_sources (Err (Skew first second)) = inr refl
few_sources (Err Dbm) = inr refl
few_sources (Err Badargs) = inr refl
few_sources (Err File) = inr refl
few_sources (Err Refused) = inr refl

-- bytes by which it failed give no version: where they gave one, they would have given it here, or too low an order
module _ (law : FetchedIsOne) (wanted : Wanted) (stream : List ℕ) (outcome : FetchOutcome) (names : against_names wanted ≡ None)
    (fetched : Fetched wanted (place_of 1 0 stream) outcome) (failed : sources_in outcome ≡ 1) where
  other : (else' : FetchOutcome) → Fetched wanted (place_of 1 0 stream) else' → sources_in else' ≡ 0 → ⊥
  other else' fetched' none =
      let same = ap sources_in (law wanted (place_of 1 0 stream) outcome else' fetched fetched') in
      omega (arith, same, none, failed)

  by_against : (gives : BytesGiveVersion stream) (found : Leads (place_of 1 0 stream) gives.version) (against : Option XfrFault)
      → against_order wanted found.order ≡ against → ⊥
  by_against gives found None is =
      other (Ok gives.version) (to_version wanted (place_of 1 0 stream) gives.version found names is) refl
  by_against gives found (Some fault) is =
      other (Err fault) (to_fault wanted (place_of 1 0 stream) gives.version found names fault is)
      (only_age wanted found.order fault is)

  bad : BytesGiveVersion stream → ⊥
  bad gives =
      let found = (leads gives.wanted (place_of 1 0 stream) gives.version gives.fetched).1 in
      by_against gives found (against_order wanted found.order) refl

-- so it failed by a wire that gives no version, or by a fault of the dial
module _ (law : FetchedIsOne) (peer : Peer) (wanted : Wanted) (outcome : FetchOutcome) (old new : Dialing)
    (names : against_names wanted ≡ None) (failed : sources_in outcome ≡ 1)
    (wire : FetchesOnWire peer wanted outcome old new) where
  by_input : (input : Option (List ℕ)) → wire.first.wire.input ≡ input
      → IsBad (connected peer input wire.first.wire.output) ⊎ HasRisen old.faults new.faults
  by_input None is = inl tt
  by_input (Some stream) is = elim (wire.fetched stream is) [
    | inl one ↦ inl (bad law wanted stream outcome names (from_first wanted outcome wire.first stream wire.dialed.begins one) failed)
    | inr more ↦ elim more [
      | inl fails ↦ inr (wire.cause fails)
      | inr memory ↦ let none = ap sources_in memory in absurd (omega (arith, none, failed))
    ]
  ]

  by_wire : IsBad (connected peer wire.first.wire.input wire.first.wire.output) ⊎ HasRisen old.faults new.faults
  by_wire = by_input wire.first.wire.input refl

-- the counts after a fetch, by the wires that give no version
module _ (start : Option Wires) (faults sources more : ℕ) (old new : Dialing)
    (covers : CoversSources start old.past faults old.faults sources)
    (stays : new.faults < last_count → old.faults ≤ new.faults) where
  -- none of them came
  by_fault : CoversBy IsBad start new.past covers.bad → (more ≡ 0) ⊎ ((more ≡ 1) × HasRisen old.faults new.faults)
      → CoversSources start new.past faults new.faults (sources + more)
  by_fault wires why = record {
    bad = covers.bad;
    wires = wires;
    counted = λ below. let kept = stays below in let was = covers.counted (omega (arith, below, kept)) in elim why [
      | inl none ↦ omega (arith, below, kept, was, none)
      | inr one ↦ let is = one.0 in let risen = one.1 in omega (arith, below, was, is, risen)
    ];
  }

  -- one came
  by_bad : CoversBy IsBad start new.past (covers.bad + 1) → more ≡ 1
      → CoversSources start new.past faults new.faults (sources + more)
  by_bad wires one = record {
    bad = covers.bad + 1;
    wires = wires;
    counted = λ below. let kept = stays below in let was = covers.counted (omega (arith, below, kept)) in
        omega (arith, kept, was, one);
  }

module _ (law : FetchedIsOne) (start : Option Wires) (faults sources : ℕ) (wanted : Wanted) (outcome : FetchOutcome) (old new : Dialing)
    (names : against_names wanted ≡ None) (covers : CoversSources start old.past faults old.faults sources) where
  -- with a wire that isn't counted
  uncounted : (peer : Peer) (wire : FetchesOnWire peer wanted outcome old new)
      → CoversBy IsBad start new.past (covers.bad + 0)
  uncounted peer wire =
      covers_wire IsBad 0 (connected peer wire.first.wire.input wire.first.wire.output) wire.last.wire (inl refl) covers.bad start old.past wire.dialed.middle new.past
      wire.dialed.comes wire.dialed.goes_back covers.wires

  by_peer : (peer : Peer) → FetchesOnWire peer wanted outcome old new
      → CoversSources start new.past faults new.faults (sources + sources_in outcome)
  by_peer peer wire =
      let counted = wire.dialed.counted in
      let stays : new.faults < last_count → old.faults ≤ new.faults = λ below. omega (arith, below, counted) in
      let same = subst (λ (n : ℕ). CoversBy IsBad start new.past n) (omega arith) (uncounted peer wire) in
      elim (few_sources outcome) [
        | inl none ↦ by_fault start faults sources (sources_in outcome) old new covers stays same (inl none)
        | inr one ↦ elim (by_wire law peer wanted outcome old new names one wire) [
          | inl bad ↦ by_bad start faults sources (sources_in outcome) old new covers stays
              (covers_wire IsBad 1 (connected peer wire.first.wire.input wire.first.wire.output) wire.last.wire (inr (refl, bad)) covers.bad start old.past wire.dialed.middle
              new.past wire.dialed.comes wire.dialed.goes_back covers.wires) one
          | inr risen ↦ by_fault start faults sources (sources_in outcome) old new covers stays same (inr (one, risen))
        ]
      ]

  by_address : (peer : Peer) → ByAddress wanted (Ok peer) outcome old new
      → CoversSources start new.past faults new.faults (sources + sources_in outcome)
  by_address peer goes = elim goes [
    | inl none ↦
        let risen = none.1.cause in
        by_fault start faults sources (sources_in outcome) old new covers (λ below. omega (arith, below, risen))
        (same_wires IsBad start old.past new.past covers.bad none.1.none covers.wires) (inr (ap sources_in none.0, risen))
    | inr wire ↦ by_peer peer wire
  ]

  sought : (empty : Bool) (found : Option Peer) (known : Peer) → empty ≡ false → Some known ≡ found
      → ByAddress wanted (if empty then Err Badargs else ok_or found Maddr) outcome old new
      → CoversSources start new.past faults new.faults (sources + sources_in outcome)
  sought true found known named is goes = absurd cc
  sought false None known named is goes = absurd cc
  sought false (Some peer) known named is goes = by_address peer goes

-- ---- names that aren't empty

no_names : (domain map : List ℕ) → 0 < length domain → 0 < length map → (length domain == 0 || length map == 0) ≡ false
no_names domain map one two =
    let first : (length domain == 0) ≡ false = ne_eqb (length domain) 0 (omega arith) in
    let second : (length map == 0) ≡ false = ne_eqb (length map) 0 (omega arith) in
    rw (first, second)

no_source : (domain map source : List ℕ) → 0 < length domain → 0 < length map → 0 < length source
    → (length domain == 0 || length map == 0 || length source == 0) ≡ false
no_source domain map source one two three =
    let first : (length domain == 0) ≡ false = ne_eqb (length domain) 0 (omega arith) in
    let second : (length map == 0) ≡ false = ne_eqb (length map) 0 (omega arith) in
    let third : (length source == 0) ≡ false = ne_eqb (length source) 0 (omega arith) in
    rw (first, second, third)

pub fetched_sources : FetchedIsOne → (start : Option Wires) (faults sources : ℕ) (wanted : Wanted) (outcome : FetchOutcome)
    (old new : Dialing) → CoversSources start old.past faults old.faults sources → (hosts : HostList) (source : List ℕ)
    → 0 < length wanted.domain → 0 < length wanted.map → 0 < length source → (known : Peer) → Some known ≡ find source hosts
    → FetchesFrom hosts source wanted outcome old new
    → CoversSources start new.past faults new.faults (sources + sources_in outcome)
fetched_sources law start faults sources wanted outcome old new covers hosts source domain map named known is fetches =
    sought law start faults sources wanted outcome old new
    (ap (λ (b : Bool). if b then Some Badargs else None) (no_names wanted.domain wanted.map domain map)) covers
    (length wanted.domain == 0 || length wanted.map == 0 || length source == 0) (find source hosts)
    known (no_source wanted.domain wanted.map source domain map named) is fetches

-- ---- otherwise

-- before the first
pub sources_none : (start : Option Wires) (faults : ℕ) → CoversSources start start faults faults 0
sources_none start faults = record {
  bad = 0;
  wires = covers_none IsBad start;
  counted = λ below. omega arith;
}

-- fewer are covered, too
pub sources_fewer : (start now : Option Wires) (faults faults' fewer more : ℕ) → fewer ≤ more
    → CoversSources start now faults faults' more → CoversSources start now faults faults' fewer
sources_fewer start now faults faults' fewer more le covers = record {
  bad = covers.bad;
  wires = covers.wires;
  counted = λ below. let was = covers.counted below in omega (arith, le, was);
}

-- the wires are as they were, and the count of faults hasn't fallen
pub same_sources : (start old new : Option Wires) (faults before now sources : ℕ) → new ≡ old → before ≤ now
    → CoversSources start old faults before sources → CoversSources start new faults now sources
same_sources start old new faults before now sources is stays covers = record {
  bad = covers.bad;
  wires = same_wires IsBad start old new covers.bad is covers.wires;
  counted = λ below. let was = covers.counted (omega (arith, below, stays)) in omega (arith, stays, was);
}
