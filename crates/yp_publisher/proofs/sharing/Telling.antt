-- What holds of a publisher's moments while its disks tell what a crash may leave of them.
use Rattle.std.proofs.Common.{◌≡◌, inl, inr, ℕ, suc, ◌<◌, List, [], ◌∷◌, length, map, slice_get, Option, None, Some, IfSome, IsSome, false, refl, sym, ap, subst, arith, ◌∙◌}
use Rattle.std.proofs.lemmas.Bool.{cases_eq}
use Rattle.yp_io.specs.Disk.{History, HistoryGoesOn}
use Rattle.yp_map_file.specs.declared.fault.SlotFault.{SlotFault}
use Rattle.yp_publisher.specs.Standing.{MapStanding, StoredMap, Published, OfMap, At, IsSameElsewhere}
use Rattle.yp_publisher.specs.Keeping.{Keeping}
use Rattle.yp_publisher.specs.Installs.{OfferedVersion, LeavesEither, GoesOnRising}
use Rattle.yp_publisher.specs.Opens.{StandsMeanwhile, Opens, IsStillBehind, StaysBehind}
use Rattle.yp_publisher.specs.Rising.{PublisherState, publisher_state, InstallsNewer, Reopens}
use Rattle.yp_publisher.specs.inside.sharing.Moments.{MapsTell}
use Rattle.yp_publisher.proofs.sharing.Failing.{told_before, at_map, of_map, the_map}

-- they told it before one of them went on
tell_before : {D : Type 0} (history : D → Option History) (number : ℕ) (old new : List (StoredMap D))
    → IsSameElsewhere number old new → (before after : StoredMap D) → slice_get old number ≡ Some before
    → slice_get new number ≡ Some after → HistoryGoesOn (history before.disk) (history after.disk) → MapsTell history new
    → MapsTell history old
tell_before {D} history number old new elsewhere before after here there goes told = λ other. elim (cases_eq other number) [
  | inl e ↦
      let now = of_map (λ k. IsSome (history k.disk)) number new after there (told number) in
      subst (λ (n : ℕ). OfMap n old (λ k. IsSome (history k.disk))) (sym e)
      (subst (λ (o : Option (StoredMap D)). IfSome o (λ k. IsSome (history k.disk))) (sym here)
      (told_before (history before.disk) (history after.disk) goes now))
  | inr ne ↦ subst (λ (o : Option (StoredMap D)). IfSome o (λ k. IsSome (history k.disk))) (elsewhere.others other ne)
      (told other)
]

-- ---- maps that all stand as they stood

standings_same : {D : Type 0} (old new : List (StoredMap D)) → length new ≡ length old
    → ((other : ℕ) → At other old new (λ x y. y.standing ≡ x.standing))
    → map (λ (k : StoredMap D). k.standing) new ≡ map (λ (k : StoredMap D). k.standing) old
standings_same [] [] count same = refl
standings_same [] (y ∷ new) count same = absurd (omega (arith, count))
standings_same (x ∷ old) [] count same = absurd (omega (arith, count))
standings_same (x ∷ old) (y ∷ new) count same =
    rw (same 0, standings_same old new (omega (arith, count)) (λ other. same (suc other))) refl

at_same : {D : Type 0} (here there : Option (StoredMap D)) → there ≡ here
    → IfSome here (λ x. IfSome there (λ y. y.standing ≡ x.standing))
at_same {D} here there e = subst (λ (o : Option (StoredMap D)). IfSome here (λ x. IfSome o (λ y. y.standing ≡ x.standing))) (sym e) (one here)
  where
    one : (o : Option (StoredMap D)) → IfSome o (λ x. IfSome o (λ y. y.standing ≡ x.standing))
    one None = tt
    one (Some kept) = refl

still_stand : {D : Type 0} (history : D → Option History) (why : SlotFault) (here there : Option (StoredMap D))
    → IfSome here (λ x. IfSome there (IsStillBehind history why x)) → IfSome here (λ x. IfSome there (λ y. y.standing ≡ x.standing))
still_stand history why None there still = tt
still_stand history why (Some x) None still = tt
still_stand {D} history why (Some x) (Some y) still = ap (λ (k : StoredMap D). k.standing) still.same

-- ---- the calls of a publisher, of one map, while the others stay

module _ {D B : Type 0} (keeping : Keeping D B) (number : ℕ) (old new : Published D B)
    (elsewhere : IsSameElsewhere number old.maps new.maps) (within : number < length old.maps) where
  abbrev now_of : Published D B → PublisherState
  now_of = publisher_state keeping.log

  was : (kept : StoredMap D) × (slice_get old.maps number ≡ Some kept)
  was = the_map old.maps number within

  is : (kept : StoredMap D) × (slice_get new.maps number ≡ Some kept)
  is = the_map new.maps number (let count = elsewhere.count in omega (arith, within, count))

  -- what follows of the moment before follows of the one behind
  module _ {P Q : Type 0} (before : MapsTell keeping.history old.maps → P) where
    told_then : HistoryGoesOn (keeping.history was.0.disk) (keeping.history is.0.disk)
        → (IsSome (keeping.history was.0.disk) → P → Q) → MapsTell keeping.history new.maps → Q
    told_then goes step = λ told.
        let all = tell_before keeping.history number old.maps new.maps elsewhere was.0 is.0 was.1 is.1 goes told in
        step (of_map (λ k. IsSome (keeping.history k.disk)) number old.maps was.0 was.1 (all number)) (before all)

    pub opened_then : Opens keeping number old new → (Reopens number (now_of old) (now_of new) → P → Q)
        → MapsTell keeping.history new.maps → Q
    opened_then opens step =
        let meanwhile = at_map (StandsMeanwhile keeping.history) number old.maps new.maps was.0 is.0 was.1 is.1 opens.meanwhile in
        told_then meanwhile.no_more.goes_on (λ told. step
        (of_map (λ m. IsSome (keeping.history m.disk) → Reopens number (now_of old) (now_of new)) number old.maps was.0 was.1
        opens.rising told))

    pub offered_then : (offer : OfferedVersion) → offer.force ≡ false
        → At number old.maps new.maps (LeavesEither keeping.history offer.version)
        → GoesOnRising keeping number offer old new
        → (InstallsNewer number offer.version (now_of old) (now_of new) → P → Q)
        → MapsTell keeping.history new.maps → Q
    offered_then offer unforced leaves rising step =
        let meanwhile = at_map (LeavesEither keeping.history offer.version) number old.maps new.maps was.0 is.0 was.1 is.1 leaves in
        told_then meanwhile.goes_on (λ told. step (rising unforced))

    pub shut_then : (why : SlotFault) → StaysBehind keeping number why old new → (now_of new ≡ now_of old → P → Q)
        → MapsTell keeping.history new.maps → Q
    shut_then why stays step =
        let meanwhile = at_map (StandsMeanwhile keeping.history) number old.maps new.maps was.0 is.0 was.1 is.1 stays.meanwhile in
        let stand = standings_same old.maps new.maps elsewhere.count (λ other. elim (cases_eq other number) [
          | inl e ↦ subst (λ (n : ℕ). At n old.maps new.maps (λ x y. y.standing ≡ x.standing)) (sym e)
              (still_stand keeping.history why (slice_get old.maps number) (slice_get new.maps number) stays.still)
          | inr ne ↦ at_same (slice_get old.maps other) (slice_get new.maps other) (elsewhere.others other ne)
        ]) in
        told_then meanwhile.no_more.goes_on (λ told. step
        (ap (λ (b : B). record { log = keeping.log b; standings = map (λ (k : StoredMap D). k.standing) new.maps }) stays.not_shown
        ∙ ap (λ (l : List MapStanding). record { log = keeping.log old.board; standings = l }) stand))
