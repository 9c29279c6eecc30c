-- The versions that are known to be fetched, and the wires that gave them.
use Rattle.std.proofs.Common.{◌≡◌, ◌⊎◌, inl, inr, ℕ, zero, suc, ◌<◌, false, List, [], ◌∷◌, ◌++◌, length, get_or, Option, None, Some, Ok, Err, IfOk, IfErr, refl, sym, subst, arith}
use Rattle.std.specs.List.{Contains}
use Rattle.std.proofs.lemmas.List.Elements.{Contains-append_left, Contains-append_right, Contains-append_cases}
use Rattle.yp_io.specs.declared.stream.Peer.{Peer}
use Rattle.yp_io.specs.Dials.{Wires, Dialing, connected}
use Rattle.yp_version.specs.Versions.{MapVersion}
use Rattle.yp_publisher.specs.sharing.Tracing.{FetchLog}
use Rattle.yp_publisher.specs.inside.sharing.Tracing.{IsBeginning}
use Rattle.yp_transfer.specs.HostTable.{HostList}
use Rattle.yp_transfer.specs.Fetching.{Wanted, wanted_of, FetchOutcome}
use Rattle.yp_transfer.specs.Fetched.{place_of, Fetched}
use Rattle.yp_transfer.specs.Dialing.{FetchesFrom}
use Rattle.yp_host.specs.workers.Wires.{GivesVersion, CameByWire, AllCameByWire, CoversBy, IsGood}
use Rattle.yp_host.specs.inside.workers.Wires.{versions_in}
use Rattle.yp_host.proofs.workers.Dialing.{fetched_counts, covers_no_others}
use Rattle.yp_host.proofs.workers.Leading.{leads, to_version}
use Rattle.yp_host.proofs.workers.Sourcing.{few_versions}

-- bytes that give a version to whoever wants it give it where none is shown
gives : (version : MapVersion) (wanted : Wanted) (peer : Peer) (stream : List ℕ) (output : Option (List ℕ))
    → Fetched wanted (place_of 1 0 stream) (Ok version)
    → (versions_in (Ok version) ≡ 0) ⊎ GivesVersion version (connected peer (Some stream) output)
gives version wanted peer stream output fetched =
    let first = place_of 1 0 stream in
    let unshown = wanted_of wanted.domain wanted.map None false in
    let found = leads wanted first version fetched in inr record {
      wanted = unshown;
      unshown = refl;
      fetched = to_version unshown first version found.1 found.0 refl;
    }

module _ (start : Option Wires) (wanted : Wanted) (old new : Dialing) (hosts : HostList) (source : List ℕ) where
  -- what came by a wire came by it after a fetch, too
  still_came : (outcome : FetchOutcome) (version : MapVersion) → FetchesFrom hosts source wanted outcome old new
      → CameByWire start old.past version → CameByWire start new.past version
  still_came outcome version fetches came =
      fetched_counts (GivesVersion version) (λ one. 0) (refl, refl, refl, refl) (λ peer output. tt) (λ one. inl refl) wanted outcome
      (λ peer stream output fetched. inl refl) start 1 old new came hosts source fetches

  -- and so did what it gave
  now_came : (counted : ℕ) (version : MapVersion) → FetchesFrom hosts source wanted (Ok version) old new
      → CoversBy IsGood start old.past counted → CameByWire start new.past version
  now_came counted version fetches covers =
      fetched_counts (GivesVersion version) versions_in (refl, refl, refl, refl) (λ peer output. tt) few_versions wanted (Ok version)
      (gives version wanted) start 0 old new (covers_no_others (GivesVersion version) IsGood start old.past counted covers) hosts source
      fetches

  all_still : (outcome : FetchOutcome) (fetches : FetchLog) → FetchesFrom hosts source wanted outcome old new
      → AllCameByWire start old.past fetches → AllCameByWire start new.past fetches
  all_still outcome fetches from all = λ version among. still_came outcome version from (all version among)

  all_more : (counted : ℕ) (version : MapVersion) (fetches : FetchLog) → FetchesFrom hosts source wanted (Ok version) old new
      → CoversBy IsGood start old.past counted → AllCameByWire start old.past fetches
      → AllCameByWire start new.past (fetches ++ version ∷ [])
  all_more counted version fetches from covers all = λ one among. elim (Contains-append_cases fetches (version ∷ []) one among) [
    | inl before ↦ still_came (Ok version) one from (all one before)
    | inr last ↦ subst (λ (v : MapVersion). CameByWire start new.past v) (only one last.0 last.1 last.2) (now_came counted version from covers)
  ] where
    only : (one : MapVersion) (k : ℕ) → k < length (version ∷ []) → get_or (version ∷ []) k one ≡ one → version ≡ one
    only one zero within is = is
    only one (suc k) within is = absurd (omega (arith, within))

  -- the log of what was fetched after a fetch
  pub all_noted : (counted : ℕ) (outcome : FetchOutcome) (before after : FetchLog)
      → FetchesFrom hosts source wanted outcome old new → CoversBy IsGood start old.past counted
      → AllCameByWire start old.past before
      → IfOk outcome (λ version. (after ≡ before) ⊎ (after ≡ before ++ version ∷ [])) → IfErr outcome (λ why. after ≡ before)
      → AllCameByWire start new.past after
  all_noted counted (Ok version) before after from covers all added kept = elim added [
    | inl same ↦ subst (λ (l : FetchLog). AllCameByWire start new.past l) (sym same) (all_still (Ok version) before from all)
    | inr more ↦ subst (λ (l : FetchLog). AllCameByWire start new.past l) (sym more) (all_more counted version before from covers all)
  ]
  all_noted counted (Err why) before after from covers all added kept =
      subst (λ (l : FetchLog). AllCameByWire start new.past l) (sym kept) (all_still (Err why) before from all)

-- before the first
pub all_none : (start : Option Wires) → AllCameByWire start start []
all_none start = λ version among. absurd (let within = among.1 in omega (arith, within))

-- the wires are as they were
pub all_same : (start old new : Option Wires) (fetches : FetchLog) → new ≡ old → AllCameByWire start old fetches
    → AllCameByWire start new fetches
all_same start old new fetches is all = subst (λ (p : Option Wires). AllCameByWire start p fetches) (sym is) all

-- what is known of them is a front
pub all_known : (start now : Option Wires) (front fetches : FetchLog) → IsBeginning front fetches → AllCameByWire start now fetches
    → AllCameByWire start now front
all_known start now front fetches begins all = λ version among.
    all version (subst (λ (l : FetchLog). Contains l version) (sym begins.1) (Contains-append_left front begins.0 version among))

-- the last of them is one
pub noted_last : (fetches : FetchLog) (version : MapVersion) → Contains (fetches ++ version ∷ []) version
noted_last fetches version = Contains-append_right fetches (version ∷ []) version (0, omega arith, refl)
