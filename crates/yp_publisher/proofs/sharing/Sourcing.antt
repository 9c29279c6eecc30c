-- Where the versions come from that installs and reopens leave, and what they are counted by.
use Rattle.std.proofs.Common.{◌≡◌, ◌≢◌, ◌⊎◌, inl, inr, ℕ, zero, suc, ◌+◌, ◌<◌, ◌≤◌, List, [], ◌∷◌, ◌++◌, length, slice_get, slice_set, slice_index_or, Option, None, Some, option_map, false, if◌then◌else◌, ◌==◌, eqb, OnOk, IfErr, Result, Ok, Err, refl, sym, ◌∙◌, ap, subst, arith}
use Rattle.std.specs.List.{All}
use Rattle.std.specs.Option.{option_or}
use Rattle.std.proofs.lemmas.List.{append-nil, append_assoc, length-append}
use Rattle.std.proofs.lemmas.List.Sums.{fold-append}
use Rattle.std.proofs.lemmas.Option.{slice_get-map, get_or_from_slice_get}
use Rattle.std.proofs.lemmas.Bool.{ne_eqb}
use Rattle.yp_version.specs.Versions.{MapVersion}
use Rattle.yp_board.specs.Catalogues.{Catalogue}
use Rattle.yp_board.specs.Logs.{Log, shown}
use Rattle.yp_board.specs.Views.{IsFront}
use Rattle.yp_map_file.specs.declared.fault.SlotFault.{SlotFault}
use Rattle.yp_publisher.specs.declared.install.Origin.{Origin}
use Rattle.yp_publisher.specs.declared.install.Origin.TheVariants.{Built, Fetched}
use Rattle.yp_publisher.specs.declared.install.InstallFault.{InstallFault}
use Rattle.yp_publisher.specs.declared.install.InstallFault.TheVariants as fault
use Rattle.yp_publisher.specs.Standing.{MapStanding, Level, Behind, StoredMap, Published, OfMap, At, IsSameElsewhere, versions, Shows}
use Rattle.yp_publisher.specs.Keeping.{Keeping}
use Rattle.yp_publisher.specs.Installs.{OfferedVersion, Refusal, install_refusal, not_following, no_further, LeavesEither, GoesOnRising, IsUnopposed, Installs, Refuses}
use Rattle.yp_publisher.specs.Opens.{Opens, StaysBehind}
use Rattle.yp_publisher.specs.Rising.{PublisherState, publisher_state, InstallsNewer, Reopens, with_shown}
use Rattle.yp_publisher.specs.inside.Rising.{IsStart}
use Rattle.yp_publisher.specs.Grown.{AreTold}
use Rattle.yp_publisher.specs.declared.sharing.locked.ShareFault.{ShareFault}
use Rattle.yp_publisher.specs.declared.sharing.locked.ShareFault.TheVariants.{Shut, Unfit, Untold}
use Rattle.yp_publisher.specs.sharing.Shares.{offer_behind}
use Rattle.yp_publisher.specs.inside.sharing.Shares.{candidate, OpensAndInstalls, IsNotInstalled}
use Rattle.yp_publisher.specs.sharing.Failures.{disks_of}
use Rattle.yp_publisher.specs.inside.sharing.Failures.{made_by}
use Rattle.yp_publisher.specs.sharing.Sources.{Building, IsBuiltBy, AreFrom, AreBehind, IsSourced}
use Rattle.yp_publisher.specs.inside.sharing.Sources.{IsBuiltThere, fetched_in, IsSourcedAt}
use Rattle.yp_publisher.proofs.sharing.Failing.{of_map, the_map, level_refusal}
use Rattle.yp_publisher.proofs.Growing.{front_then}
use Rattle.yp_publisher.proofs.sharing.Installing.{opened_front}
use Rattle.yp_publisher.proofs.sharing.Telling.{opened_then, offered_then, shut_then}
use Rattle.yp_publisher.proofs.sharing.Leading.{maps_tell}

-- ---- one more entry

from_built : (Is : Building) (log more : Log) (entry : ℕ × MapVersion) (built others : ℕ)
    → IsBuiltBy Is (log ++ more) entry.0 (shown entry.0 (log ++ more)) entry.1 → AreFrom Is log more built others
    → AreFrom Is log (more ++ entry ∷ []) (suc built) others
from_built Is log [] entry built others is from =
    inl (subst (λ (l : Log). IsBuiltBy Is l entry.0 (shown entry.0 l) entry.1) (append-nil log) is, (built, refl, from))
from_built Is log (next ∷ more) entry built others is from =
    let there : IsBuiltBy Is ((log ++ next ∷ []) ++ more) entry.0 (shown entry.0 ((log ++ next ∷ []) ++ more)) entry.1 =
    subst (λ (l : Log). IsBuiltBy Is l entry.0 (shown entry.0 l) entry.1) (sym (append_assoc log (next ∷ []) more)) is in
    elim from [
      | inl first ↦ inl (
        first.0,
        (
          suc first.1.0,
          ap suc first.1.1,
          from_built Is (log ++ next ∷ []) more entry first.1.0 others there first.1.2,
        ),
      )
      | inr first ↦ inr (first.0, first.1, from_built Is (log ++ next ∷ []) more entry built first.0 there first.2)
    ]

from_other : (Is : Building) (log more : Log) (entry : ℕ × MapVersion) (built others : ℕ)
    → AreFrom Is log more built others → AreFrom Is log (more ++ entry ∷ []) built (suc others)
from_other Is log [] entry built others from = inr (others, refl, from)
from_other Is log (next ∷ more) entry built others from = elim from [
  | inl first ↦ inl (
    first.0,
    (
      first.1.0,
      first.1.1,
      from_other Is (log ++ next ∷ []) more entry first.1.0 others first.1.2,
    ),
  )
  | inr first ↦ inr (
    suc first.0,
    ap suc first.1,
    from_other Is (log ++ next ∷ []) more entry built first.0 first.2,
  )
]

-- what is shown of the other maps
shown_elsewhere : (number other : ℕ) (version : MapVersion) (log : Log) → other ≢ number
    → shown other (with_shown number version log) ≡ shown other log
shown_elsewhere number other version log ne =
    let e : eqb number other ≡ false = ne_eqb number other (λ same. ne (sym same)) in
    fold-append (λ (so_far : Option MapVersion) (entry : ℕ × MapVersion). if entry.0 == other then Some entry.1
    else so_far) None log ((number, version) ∷ []) ∙ rw e refl

-- ---- maps that are behind

-- what was built of what was shown up to a log was so up to a later one
built_later : (Is : Building) (old new : Log) (number : ℕ) (last : Option MapVersion) (version : MapVersion) → IsFront old new
    → IsBuiltBy Is old number last version → IsBuiltBy Is new number last version
built_later Is old new number last version front built = (built.0, front_then built.0 old new built.1 front, built.2)

-- by a later log that shows the same of them
behind_same : (Is : Building) (old new : Log) (number : ℕ) (standings : List MapStanding) (left : ℕ) → IsFront old new
    → ((i : ℕ) (failed : MapVersion) → slice_get standings i ≡ Some (Behind failed)
    → shown (number + i) new ≡ shown (number + i) old)
    → AreBehind Is old number standings left → AreBehind Is new number standings left
behind_same Is old new number [] left front same behind = behind
behind_same Is old new number (Level ∷ more) left front same behind =
    behind_same Is old new (suc number) more left front
    (λ i failed is. subst (λ (n : ℕ). shown n new ≡ shown n old) (omega arith) (same (suc i) failed is)) behind
behind_same Is old new number (Behind failed ∷ more) left front same behind =
    let here : shown number new ≡ shown number old =
    subst (λ (n : ℕ). shown n new ≡ shown n old) (omega arith) (same zero failed refl) in
    let rest : (left : ℕ) → AreBehind Is old (suc number) more left → AreBehind Is new (suc number) more left = λ left.
    behind_same Is old new (suc number) more left front
    (λ i failed is. subst (λ (n : ℕ). shown n new ≡ shown n old) (omega arith) (same (suc i) failed is)) in
    elim behind [
      | inl built ↦ inl (
        subst (λ (last : Option MapVersion). IsBuiltBy Is new number last failed) (sym here)
            (built_later Is old new number (shown number old) failed front built.0),
        rest left built.1,
      )
      | inr other ↦ inr (other.0, other.1, rest other.0 other.2)
    ]

none_behind : (Is : Building) (log : Log) (number : ℕ) (standings : List MapStanding)
    → All (λ standing. standing ≡ Level) standings → AreBehind Is log number standings 0
none_behind Is log number [] all = refl
none_behind Is log number (Level ∷ more) all =
    none_behind Is log (suc number) more (λ k d lt. all (suc k) d (omega (arith, lt)))
none_behind Is log number (Behind failed ∷ more) all =
    let e : Behind failed ≡ Level = all zero Level (omega arith) in absurd cc

-- one more map is behind
more_behind : (Is : Building) (log : Log) (number i : ℕ) (version : MapVersion) (standings : List MapStanding) (left : ℕ)
    → slice_get standings i ≡ Some Level → AreBehind Is log number standings left
    → AreBehind Is log number (slice_set standings i (Behind version)) (suc left)
more_behind Is log number i version [] left here behind = absurd cc
more_behind Is log number zero version (Level ∷ more) left here behind = inr (left, refl, behind)
more_behind Is log number zero version (Behind failed ∷ more) left here behind = absurd cc
more_behind Is log number (suc i) version (Level ∷ more) left here behind =
    more_behind Is log (suc number) i version more left here behind
more_behind Is log number (suc i) version (Behind failed ∷ more) left here behind = elim behind [
  | inl built ↦ inl (built.0, more_behind Is log (suc number) i version more left here built.1)
  | inr other ↦ inr (suc other.0, ap suc other.1, more_behind Is log (suc number) i version more other.0 here other.2)
]

built_behind : (Is : Building) (log : Log) (number i : ℕ) (version : MapVersion) (standings : List MapStanding) (left : ℕ)
    → slice_get standings i ≡ Some Level → IsBuiltBy Is log (number + i) (shown (number + i) log) version
    → AreBehind Is log number standings left
    → AreBehind Is log number (slice_set standings i (Behind version)) left
built_behind Is log number i version [] left here is behind = absurd cc
built_behind Is log number zero version (Level ∷ more) left here is behind =
    inl (subst (λ (n : ℕ). IsBuiltBy Is log n (shown n log) version) (omega arith) is, behind)
built_behind Is log number zero version (Behind failed ∷ more) left here is behind = absurd cc
built_behind Is log number (suc i) version (Level ∷ more) left here is behind =
    built_behind Is log (suc number) i version more left here
    (subst (λ (n : ℕ). IsBuiltBy Is log n (shown n log) version) (omega arith) is) behind
built_behind Is log number (suc i) version (Behind failed ∷ more) left here is behind =
    let there : IsBuiltBy Is log (suc number + i) (shown (suc number + i) log) version = subst (λ (n : ℕ). IsBuiltBy Is log n (shown n log) version) (omega arith) is in
    elim behind [
      | inl built ↦ inl (built.0, built_behind Is log (suc number) i version more left here there built.1)
      | inr other ↦ inr (other.0, other.1, built_behind Is log (suc number) i version more other.0 here there other.2)
    ]

-- one map less is behind: it was behind a version that was built there, or one less is behind another
abbrev FewerBehind : Building → Log → ℕ → ℕ → MapVersion → List MapStanding → ℕ → Type 0
FewerBehind Is log number i failed standings left =
    (IsBuiltBy Is log (number + i) (shown (number + i) log) failed × AreBehind Is log number (slice_set standings i Level) left)
    ⊎ ((fewer : ℕ) × (left ≡ suc fewer) × AreBehind Is log number (slice_set standings i Level) fewer)

fewer_behind : (Is : Building) (log : Log) (number i : ℕ) (failed : MapVersion) (standings : List MapStanding) (left : ℕ)
    → slice_get standings i ≡ Some (Behind failed) → AreBehind Is log number standings left
    → FewerBehind Is log number i failed standings left
fewer_behind Is log number i failed [] left here behind = absurd cc
fewer_behind Is log number zero failed (Level ∷ more) left here behind = absurd cc
fewer_behind Is log number zero failed (Behind version ∷ more) left here behind =
    let same : version ≡ failed = cc in
    elim behind [
      | inl built ↦ inl (
        subst (λ (n : ℕ). IsBuiltBy Is log n (shown n log) failed) (omega arith)
            (subst (λ (v : MapVersion). IsBuiltBy Is log number (shown number log) v) same built.0),
        built.1,
      )
      | inr other ↦ inr other
    ]
fewer_behind Is log number (suc i) failed (Level ∷ more) left here behind =
    elim (fewer_behind Is log (suc number) i failed more left here behind) [
      | inl built ↦ inl (subst (λ (n : ℕ). IsBuiltBy Is log n (shown n log) failed) (omega arith) built.0, built.1)
      | inr other ↦ inr other
    ]
fewer_behind Is log number (suc i) failed (Behind version ∷ more) left here behind = elim behind [
  | inl first ↦ elim (fewer_behind Is log (suc number) i failed more left here first.1) [
    | inl built ↦ inl (subst (λ (n : ℕ). IsBuiltBy Is log n (shown n log) failed) (omega arith) built.0, inl (first.0, built.1))
    | inr other ↦ inr (other.0, other.1, inl (first.0, other.2))
  ]
  | inr first ↦ elim (fewer_behind Is log (suc number) i failed more first.0 here first.2) [
    | inl built ↦ inl (subst (λ (n : ℕ). IsBuiltBy Is log n (shown n log) failed) (omega arith) built.0, inr (first.0, first.1, built.1))
    | inr other ↦ inr (first.0, first.1, inr (other.0, other.1, other.2))
  ]
]

-- ---- from a moment to the next

level_there : (standings : List MapStanding) (i : ℕ) (failed : MapVersion) → slice_get standings i ≡ Some (Behind failed)
    → slice_get (slice_set standings i Level) i ≡ Some Level
level_there [] i failed here = absurd cc
level_there (standing ∷ more) zero failed here = refl
level_there (standing ∷ more) (suc i) failed here = level_there more i failed here

not_grown : (number : ℕ) (version : MapVersion) (log : Log) → with_shown number version log ≡ log → ⊥
not_grown number version log same =
    let long = length-append log ((number, version) ∷ []) in
    let count : length (with_shown number version log) ≡ length log = ap length same in
    omega (arith, long, count)

-- fewer built ones and more others
pub sourced_less : (Is : Building) (first now : PublisherState) (made fewer fetched more : ℕ) → fewer ≤ made → fetched ≤ more
    → IsSourced Is first now made fetched → IsSourced Is first now fewer more
sourced_less Is first now made fewer fetched more le ge sourced = record {
  more = sourced.more;
  grown = sourced.grown;
  built = sourced.built;
  others = sourced.others;
  left = sourced.left;
  entries = sourced.entries;
  behind = sourced.behind;
  least = let least = sourced.least in omega (arith, least, le);
  most = let most = sourced.most in omega (arith, most, ge);
}

module _ (Is : Building) (first old : PublisherState) (made fetched : ℕ) (sourced : IsSourced Is first old made fetched)
    (number : ℕ) (version : MapVersion) (standings : List MapStanding) where
  -- no version was shown
  then_stands : (left limit : ℕ) → AreBehind Is old.log 0 standings left → sourced.others + left ≤ limit
      → IsSourced Is first (record { log = old.log; standings = standings }) made limit
  then_stands left limit behind le = record {
    more = sourced.more;
    grown = sourced.grown;
    built = sourced.built;
    others = sourced.others;
    left = left;
    entries = sourced.entries;
    behind = behind;
    least = sourced.least;
    most = le;
  }

  -- a version was shown of a level map
  abbrev then_shown : PublisherState
  then_shown = record { log = with_shown number version old.log; standings = standings }

  grown_then : with_shown number version old.log ≡ first.log ++ (sourced.more ++ (number, version) ∷ [])
  grown_then = ap (λ (l : Log). l ++ (number, version) ∷ []) sourced.grown
      ∙ append_assoc first.log sourced.more ((number, version) ∷ [])

  module _ (left : ℕ) (level : slice_get standings number ≡ Some Level) (behind : AreBehind Is old.log 0 standings left) where
    behind_then : AreBehind Is (with_shown number version old.log) 0 standings left
    behind_then = behind_same Is old.log (with_shown number version old.log) 0 standings left ((number, version) ∷ [], refl)
        (λ i failed is. shown_elsewhere number (0 + i) version old.log (λ e.
        let same : i ≡ number = omega (arith, e) in
        let found : Some (Behind failed) ≡ Some Level = sym is ∙ ap (slice_get standings) same ∙ level in cc))
        behind

    then_built : (limit : ℕ) → IsBuiltBy Is old.log number (shown number old.log) version → sourced.others + left ≤ limit
        → IsSourced Is first then_shown (made + 1) limit
    then_built limit is le = record {
      more = sourced.more ++ (number, version) ∷ [];
      grown = grown_then;
      built = suc sourced.built;
      others = sourced.others;
      left = left;
      entries = from_built Is first.log sourced.more (number, version) sourced.built sourced.others
          (subst (λ (l : Log). IsBuiltBy Is l number (shown number l) version) sourced.grown is) sourced.entries;
      behind = behind_then;
      least = let least = sourced.least in omega (arith, least);
      most = le;
    }

    then_other : (limit : ℕ) → suc sourced.others + left ≤ limit → IsSourced Is first then_shown made limit
    then_other limit le = record {
      more = sourced.more ++ (number, version) ∷ [];
      grown = grown_then;
      built = sourced.built;
      others = suc sourced.others;
      left = left;
      entries = from_other Is first.log sourced.more (number, version) sourced.built sourced.others sourced.entries;
      behind = behind_then;
      least = sourced.least;
      most = le;
    }

-- a reopen
sourced_reopened : (Is : Building) (first old new : PublisherState) (made fetched number : ℕ) → Reopens number old new
    → IsSourced Is first old made fetched → IsSourced Is first new made fetched
sourced_reopened Is first old new made fetched number reopens sourced = elim reopens [
  | inl same ↦ subst (λ (m : PublisherState). IsSourced Is first m made fetched) (sym same) sourced
  | inr opened ↦
      let failed = opened.0 in
      let standings = slice_set old.standings number Level in
      let most = sourced.most in
      let level : slice_get standings number ≡ Some Level = level_there old.standings number failed opened.1 in
      let fewer = fewer_behind Is old.log 0 number failed old.standings sourced.left opened.1 sourced.behind in
      elim opened.2 [
        | inl stays ↦ subst (λ (m : PublisherState). IsSourced Is first m made fetched) (sym stays) (elim fewer [
          | inl built ↦ then_stands Is first old made fetched sourced number failed standings sourced.left fetched built.1 most
          | inr other ↦
              let less : sourced.left ≡ suc other.0 = other.1 in
              then_stands Is first old made fetched sourced number failed standings other.0 fetched other.2 (omega (arith, most, less))
        ])
        | inr shows ↦ subst (λ (m : PublisherState). IsSourced Is first m made fetched) (sym shows) (elim fewer [
          | inl built ↦ sourced_less Is first (then_shown Is first old made fetched sourced number failed standings)
              (made + 1) made fetched fetched (omega arith) (omega arith)
              (then_built Is first old made fetched sourced number failed standings sourced.left level built.1 fetched
              (subst (λ (n : ℕ). IsBuiltBy Is old.log n (shown n old.log) failed) (omega arith) built.0) most)
          | inr other ↦
              let less : sourced.left ≡ suc other.0 = other.1 in
              then_other Is first old made fetched sourced number failed standings other.0 level other.2 fetched
              (omega (arith, most, less))
        ])
      ]
]

-- ---- an install

module _ (Is : Building) (first old new : PublisherState) (made fetched number : ℕ) (version : MapVersion)
    (sourced : IsSourced Is first old made fetched) where
  abbrev Now : (made fetched : ℕ) → Type 0
  Now made fetched = IsSourced Is first new made fetched

  -- of a version that wasn't built
  installs_other : InstallsNewer number version old new → Now made (fetched + 1)
  installs_other installs = elim installs [
    | inl same ↦ sourced_less Is first new made made fetched (fetched + 1) (omega arith) (omega arith)
        (subst (λ (m : PublisherState). IsSourced Is first m made fetched) (sym same) sourced)
    | inr newer ↦
        let stores = newer.1 in
        let most = sourced.most in
        elim stores.1 [
          | inl shows ↦ subst (λ (m : PublisherState). IsSourced Is first m made (fetched + 1)) (sym shows)
              (then_other Is first old made fetched sourced number version old.standings sourced.left stores.0 sourced.behind
              (fetched + 1) (omega (arith, most)))
          | inr stands ↦ subst (λ (m : PublisherState). IsSourced Is first m made (fetched + 1)) (sym stands)
              (then_stands Is first old made fetched sourced number version (slice_set old.standings number (Behind version))
              (suc sourced.left) (fetched + 1)
              (more_behind Is old.log 0 number version old.standings sourced.left stores.0 sourced.behind) (omega (arith, most)))
        ]
  ]

  module _ (is : IsBuiltBy Is old.log number (shown number old.log) version) where
    shows_one : slice_get old.standings number ≡ Some Level
        → new ≡ record old { log = with_shown number version old.log } → Now (made + 1) fetched
    shows_one level shows = subst (λ (m : PublisherState). IsSourced Is first m (made + 1) fetched) (sym shows)
        (then_built Is first old made fetched sourced number version old.standings sourced.left level sourced.behind
        fetched is sourced.most)

    -- of one that was built
    installs_built : InstallsNewer number version old new → Now made fetched
    installs_built installs = elim installs [
      | inl same ↦ subst (λ (m : PublisherState). IsSourced Is first m made fetched) (sym same) sourced
      | inr newer ↦
          let stores = newer.1 in
          elim stores.1 [
            | inl shows ↦ sourced_less Is first new (made + 1) made fetched fetched (omega arith) (omega arith)
                (shows_one stores.0 shows)
            | inr stands ↦ subst (λ (m : PublisherState). IsSourced Is first m made fetched) (sym stands)
                (then_stands Is first old made fetched sourced number version (slice_set old.standings number (Behind version))
                sourced.left fetched
                (built_behind Is old.log 0 number version old.standings sourced.left stores.0
                (subst (λ (n : ℕ). IsBuiltBy Is old.log n (shown n old.log) version) (omega arith) is) sourced.behind) sourced.most)
          ]
    ]

    -- and that was shown
    shows_built : InstallsNewer number version old new → new.log ≡ with_shown number version old.log
        → Now (made + 1) fetched
    shows_built installs grown = elim installs [
      | inl same ↦ absurd (not_grown number version old.log (sym grown ∙ ap (λ (m : PublisherState). m.log) same))
      | inr newer ↦ elim newer.1.1 [
        | inl shows ↦ shows_one newer.1.0 shows
        | inr stands ↦ absurd (not_grown number version old.log (sym grown ∙ ap (λ (m : PublisherState). m.log) stands))
      ]
    ]

-- ---- the calls of a publisher

nothing_first : (first other : Option Refusal) → option_or first other ≡ None → first ≡ None
nothing_first None other none = refl
nothing_first (Some why) other none = absurd cc

-- a version that nothing stands against follows what is shown of its level map
pub follows_shown : {D B : Type 0} (keeping : Keeping D B) (number : ℕ) (offered : OfferedVersion) (published : Published D B)
    (kept : StoredMap D) → slice_get published.maps number ≡ Some kept → kept.standing ≡ Level
    → Shows (keeping.log published.board) (versions published.maps)
    → install_refusal published.catalogue.own offered kept ≡ None
    → not_following published.catalogue.own offered (shown number (keeping.log published.board)) ≡ None
follows_shown {D} keeping number offered published kept here level shows none =
    let own = published.catalogue.own in
    let there : slice_get (versions published.maps) number ≡ Some kept.version =
    slice_get-map (λ (k : StoredMap D). k.version) published.maps number ∙ ap (option_map (λ (k : StoredMap D). k.version)) here in
    let version : slice_index_or (versions published.maps) number None ≡ kept.version =
    get_or_from_slice_get (versions published.maps) number kept.version None there in
    subst (λ (last : Option MapVersion). not_following own offered last ≡ None) (sym (shows number ∙ version))
    (nothing_first (not_following own offered kept.version) (no_further kept.generation)
    (sym (level_refusal own offered kept level) ∙ none))

module _ {D B : Type 0} (keeping : Keeping D B) (Is : Building) (first : PublisherState) where
  abbrev SourcedAt : Published D B → (made fetched : ℕ) → Type 0
  SourcedAt published made fetched = IsSourcedAt keeping Is first published made fetched

  at_less : (published : Published D B) (made fewer fetched more : ℕ) → fewer ≤ made → fetched ≤ more
      → SourcedAt published made fetched → SourcedAt published fewer more
  at_less published made fewer fetched more le ge sourced = λ start told.
      sourced_less Is first (publisher_state keeping.log published) made fewer fetched more le ge (sourced start told)

  module _ (number : ℕ) (version : MapVersion) (own : List ℕ) (made fetched : ℕ) where
    sourced_middle : (old middle : Published D B) → number < length old.maps → Opens keeping number old middle
        → SourcedAt old made fetched → SourcedAt middle made fetched
    sourced_middle old middle within opens sourced = λ start.
        opened_then keeping number old middle opens.upheld.elsewhere within (sourced start) opens
        (sourced_reopened Is first (publisher_state keeping.log old) (publisher_state keeping.log middle) made fetched number)

    sourced_shut : (why : SlotFault) (old new : Published D B) → number < length old.maps
        → StaysBehind keeping number why old new → SourcedAt old made fetched → SourcedAt new made fetched
    sourced_shut why old new within stays sourced = λ start.
        shut_then keeping number old new stays.upheld.elsewhere within (sourced start) why stays
        (λ same before. subst (λ (m : PublisherState). IsSourced Is first m made fetched) (sym same) before)

    -- what is offered of a level map
    module _ (old new : Published D B) (within : number < length old.maps)
        (level : OfMap number old.maps (λ m. m.standing ≡ Level))
        (shows : Shows (keeping.log old.board) (versions old.maps)) (own_is : old.catalogue.own ≡ own)
        (sourced : SourcedAt old made fetched) where
      abbrev offered : Origin → OfferedVersion
      offered origin = offer_behind number version origin (keeping.log old.board)

      unchanged : new ≡ old → SourcedAt new made fetched
      unchanged same = subst (λ (p : Published D B). SourcedAt p made fetched) (sym same) sourced

      offered_fetched : IsSameElsewhere number old.maps new.maps
          → At number old.maps new.maps (LeavesEither keeping.history (offered Fetched).version)
          → GoesOnRising keeping number (offered Fetched) old new → SourcedAt new made (fetched + 1)
      offered_fetched elsewhere leaves rising = λ start.
          offered_then keeping number old new elsewhere within (sourced start) (offered Fetched) refl leaves rising
          (λ installs before. installs_other Is first (publisher_state keeping.log old) (publisher_state keeping.log new) made
          fetched number (offered Fetched).version before installs)

      module _ (built : IsBuiltThere Is (keeping.log old.board) number own version Built) where
        built_there : IsUnopposed number (offered Built) old
            → IsBuiltBy Is (keeping.log old.board) number (shown number (keeping.log old.board)) (offered Built).version
        built_there unopposed =
            let kept = the_map old.maps number within in
            let last = shown number (keeping.log old.board) in
            let none = of_map (λ k. install_refusal old.catalogue.own (offered Built) k ≡ None) number old.maps kept.0 kept.1 unopposed in
            let stands = of_map (λ m. m.standing ≡ Level) number old.maps kept.0 kept.1 level in (
              built.0,
              built.1,
              built.2 last (subst (λ (name : List ℕ). not_following name (offered Built) last ≡ None) own_is
                  (follows_shown keeping number (offered Built) old kept.0 kept.1 stands shows none)),
            )

        installed_built : Installs keeping number (offered Built) old new → SourcedAt new (made + 1) fetched
        installed_built installs = λ start.
            offered_then keeping number old new installs.upheld.elsewhere within (sourced start) (offered Built) refl
            installs.meanwhile installs.rising
            (λ newer before. shows_built Is first (publisher_state keeping.log old) (publisher_state keeping.log new) made fetched
            number (offered Built).version before (built_there installs.unopposed) newer installs.log)

        changed_built : (why : InstallFault) → Refuses keeping number (offered Built) why old new
            → IsUnopposed number (offered Built) old → SourcedAt new made fetched
        changed_built why refuses unopposed = λ start.
            offered_then keeping number old new refuses.upheld.elsewhere within (sourced start) (offered Built) refl
            refuses.meanwhile refuses.rising
            (λ newer before. installs_built Is first (publisher_state keeping.log old) (publisher_state keeping.log new) made
            fetched number (offered Built).version before (built_there unopposed) newer)

        refused_built : (why : InstallFault) → Refuses keeping number (offered Built) why old new
            → SourcedAt new made fetched
        refused_built fault.Behind refuses = unchanged refuses.left
        refused_built (fault.Refused master) refuses = unchanged refuses.left
        refused_built (fault.Age last order) refuses = unchanged refuses.left
        refused_built fault.GenerationsSpent refuses = unchanged refuses.left
        refused_built fault.DiskFault refuses = changed_built fault.DiskFault refuses refuses.cause
        refused_built fault.NoMemory refuses = elim refuses.left [
          | inl same ↦ unchanged same
          | inr fails ↦ changed_built fault.NoMemory refuses fails.unopposed
        ]

    module _ (old new : Published D B) (within : number < length old.maps) (own_is : old.catalogue.own ≡ own)
        (sourced : SourcedAt old made fetched) where
      -- what holds behind an opening
      module _ (middle : Published D B) (opens : Opens keeping number old middle) where
        within_middle : number < length middle.maps
        within_middle = let count = opens.upheld.elsewhere.count in omega (arith, within, count)

        own_middle : middle.catalogue.own ≡ own
        own_middle = ap (λ (c : Catalogue). c.own) opens.upheld.catalogue ∙ own_is

        built_middle : IsBuiltThere Is (keeping.log old.board) number own version Built
            → IsBuiltThere Is (keeping.log middle.board) number own version Built
        built_middle built = (
          built.0,
          front_then built.0 (keeping.log old.board) (keeping.log middle.board) built.1
              (opened_front keeping number old middle within opens),
          built.2,
        )

      installed_as_built : IsBuiltThere Is (keeping.log old.board) number own version Built → OpensAndInstalls keeping (candidate number version Built) old new
          → SourcedAt new (made + 1) fetched
      installed_as_built built is =
          installed_built is.middle new (within_middle is.middle is.opens) is.opens.level is.opens.upheld.shows
          (own_middle is.middle is.opens) (sourced_middle old is.middle within is.opens sourced)
          (built_middle is.middle is.opens built) is.installs

      installed_as_fetched : OpensAndInstalls keeping (candidate number version Fetched) old new → SourcedAt new made (fetched + 1)
      installed_as_fetched is =
          offered_fetched is.middle new (within_middle is.middle is.opens) is.opens.level is.opens.upheld.shows
          (own_middle is.middle is.opens) (sourced_middle old is.middle within is.opens sourced)
          is.installs.upheld.elsewhere is.installs.meanwhile is.installs.rising

      after_refusal : (origin : Origin) (why : ShareFault) → IsBuiltThere Is (keeping.log old.board) number own version origin
          → IsNotInstalled keeping (candidate number version origin) why old new
          → SourcedAt new made (fetched + fetched_in origin)
      after_refusal origin (Shut why) built is =
          at_less new made made fetched (fetched + fetched_in origin) (omega arith) (omega arith)
          (sourced_shut why old new within is sourced)
      after_refusal Built (Unfit why) built is =
          at_less new made made fetched (fetched + 0) (omega arith) (omega arith)
          (refused_built is.middle new (within_middle is.middle is.opens) is.opens.level is.opens.upheld.shows
          (own_middle is.middle is.opens) (sourced_middle old is.middle within is.opens sourced)
          (built_middle is.middle is.opens built) why is.refuses)
      after_refusal Fetched (Unfit why) built is =
          offered_fetched is.middle new (within_middle is.middle is.opens) is.opens.level is.opens.upheld.shows
          (own_middle is.middle is.opens) (sourced_middle old is.middle within is.opens sourced)
          is.refuses.upheld.elsewhere is.refuses.meanwhile is.refuses.rising
      after_refusal origin Untold built is = absurd is

-- behind an install or a refusal
pub sourced_after : {T D B : Type 0} (keeping : Keeping D B) (Is : Building) (first : PublisherState) (number : ℕ)
    (version : MapVersion) (origin : Origin) (own : List ℕ) (made fetched : ℕ) (old new : Published D B)
    (r : Result T ShareFault) → number < length old.maps → old.catalogue.own ≡ own
    → IsBuiltThere Is (keeping.log old.board) number own version origin → OnOk r (OpensAndInstalls keeping (candidate number version origin) old new)
    → IfErr r (λ why. IsNotInstalled keeping (candidate number version origin) why old new)
    → IsSourcedAt keeping Is first old made fetched
    → IsSourcedAt keeping Is first new (made + made_by origin r) (fetched + fetched_in origin)
sourced_after keeping Is first number version Built own made fetched old new (Ok done) within own_is built is none sourced =
    at_less keeping Is first new (made + 1) (made + 1) fetched (fetched + 0) (omega arith) (omega arith)
    (installed_as_built keeping Is first number version own made fetched old new within own_is sourced built is)
sourced_after keeping Is first number version Fetched own made fetched old new (Ok done) within own_is built is none sourced =
    at_less keeping Is first new made (made + 0) (fetched + 1) (fetched + 1) (omega arith) (omega arith)
    (installed_as_fetched keeping Is first number version own made fetched old new within own_is sourced is)
sourced_after keeping Is first number version Built own made fetched old new (Err why) within own_is built none is sourced =
    at_less keeping Is first new made (made + 0) (fetched + 0) (fetched + 0) (omega arith) (omega arith)
    (after_refusal keeping Is first number version own made fetched old new within own_is sourced Built why built is)
sourced_after keeping Is first number version Fetched own made fetched old new (Err why) within own_is built none is sourced =
    at_less keeping Is first new made (made + 0) (fetched + 1) (fetched + 1) (omega arith) (omega arith)
    (after_refusal keeping Is first number version own made fetched old new within own_is sourced Fetched why built is)

-- before the first one
pub sourced_at_first : {D B : Type 0} (keeping : Keeping D B) (Is : Building) (first : PublisherState) (published : Published D B)
    (made fetched : ℕ) → publisher_state keeping.log published ≡ first → made ≡ 0
    → IsSourcedAt keeping Is first published made fetched
sourced_at_first keeping Is first published made fetched is none = λ start told.
    subst (λ (m : PublisherState). IsSourced Is first m made fetched) (sym is) (record {
      more = [];
      grown = sym (append-nil first.log);
      built = 0;
      others = 0;
      left = 0;
      entries = (refl, refl);
      behind = none_behind Is first.log 0 first.standings start.level;
      least = omega (arith, none);
      most = omega arith;
    })

-- at the last one
pub sourced_at_last : {D B : Type 0} (keeping : Keeping D B) (Is : Building) (first : PublisherState) (published : Published D B)
    (made fewer fetched : ℕ) → fewer ≤ made → IsSourcedAt keeping Is first published made fetched → IsStart first
    → AreTold keeping.history (disks_of published.maps)
    → IsSourced Is first (publisher_state keeping.log published) fewer fetched
sourced_at_last keeping Is first published made fewer fetched le sourced start told =
    sourced_less Is first (publisher_state keeping.log published) made fewer fetched fetched le (omega arith)
    (sourced start (maps_tell keeping.history published.maps told))
