-- Where installs and reopens lead, and that a log rises there.
use Rattle.std.proofs.Common.{◌≡◌, inl, inr, ℕ, ◌<◌, List, [], ◌∷◌, ◌++◌, length, slice_get, Option, Some, IfSome, IsSome, option_map, false, OnOk, IfErr, Result, Ok, Err, refl, sym, ◌∙◌, ap, subst, arith}
use Rattle.std.specs.List.{AllByRecursion}
use Rattle.std.proofs.lemmas.List.{length-map}
use Rattle.std.proofs.lemmas.Option.{slice_get_cases, slice_get-map, get_or_from_slice_get}
use Rattle.yp_io.specs.Disk.{History}
use Rattle.yp_version.specs.Versions.{MapVersion}
use Rattle.yp_map_file.specs.declared.fault.SlotFault.{SlotFault}
use Rattle.yp_publisher.specs.declared.install.Origin.{Origin}
use Rattle.yp_publisher.specs.Standing.{StoredMap, Published, At, IsSameElsewhere}
use Rattle.yp_publisher.specs.Keeping.{Keeping}
use Rattle.yp_publisher.specs.Installs.{OfferedVersion, LeavesEither, GoesOnRising}
use Rattle.yp_publisher.specs.Opens.{Opens, StaysBehind}
use Rattle.yp_publisher.specs.Rising.{PublisherState, publisher_state, IsRisingLog}
use Rattle.yp_publisher.specs.inside.Rising.{Steps, Follow, IsStart}
use Rattle.yp_publisher.specs.Grown.{AreTold}
use Rattle.yp_publisher.specs.inside.Laws.{LogRises}
use Rattle.yp_publisher.specs.declared.sharing.locked.ShareFault.{ShareFault}
use Rattle.yp_publisher.specs.declared.sharing.locked.ShareFault.TheVariants.{Shut, Unfit, Untold}
use Rattle.yp_publisher.specs.sharing.Shares.{offer_behind}
use Rattle.yp_publisher.specs.inside.sharing.Shares.{candidate, OpensAndInstalls, IsNotInstalled}
use Rattle.yp_publisher.specs.sharing.Failures.{disks_of}
use Rattle.yp_publisher.specs.inside.sharing.Moments.{LeadsTo, MapsTell, IsLed}
use Rattle.yp_publisher.proofs.sharing.Telling.{opened_then, offered_then, shut_then}

-- ---- one step more

follow_on : (first middle last : PublisherState) (moments : List PublisherState) → Follow first (moments ++ middle ∷ [])
    → Steps middle last → Follow first ((moments ++ middle ∷ []) ++ last ∷ [])
follow_on first middle last [] follow step = (follow.0, (step, tt))
follow_on first middle last (next ∷ moments) follow step =
    (follow.0, follow_on next middle last moments follow.1 step)

leads_on : (first middle last : PublisherState) → LeadsTo first middle → Steps middle last → LeadsTo first last
leads_on first middle last leads step = record {
  moments = leads.moments ++ middle ∷ [];
  follow = follow_on first middle last leads.moments leads.follow step;
}

-- before the first step
pub led_at_first : {D B : Type 0} (keeping : Keeping D B) (first : PublisherState) (published : Published D B)
    → publisher_state keeping.log published ≡ first → IsLed keeping first published
led_at_first keeping first published is = λ told. record { moments = []; follow = (inr (0, inl is), tt) }

-- disks of maps that tell it
pub maps_tell : {D : Type 0} (history : D → Option History) (maps : List (StoredMap D)) → AreTold history (disks_of maps)
    → MapsTell history maps
maps_tell {D} history maps told = λ number. elim (slice_get_cases maps number).1 [
  | inl here ↦
      let kept = here.0 in
      let there : slice_get (disks_of maps) number ≡ Some kept.disk =
      slice_get-map (λ (k : StoredMap D). k.disk) maps number ∙ ap (option_map (λ (k : StoredMap D). k.disk)) here.2 in
      let long = length-map maps (λ (k : StoredMap D). k.disk) in
      let inside : number < length maps = here.1 in
      subst (λ (o : Option (StoredMap D)). IfSome o (λ k. IsSome (history k.disk))) (sym here.2)
      (subst (λ (d : D). IsSome (history d)) (get_or_from_slice_get (disks_of maps) number kept.disk kept.disk there)
      (told number kept.disk (omega (arith, long, inside))))
  | inr past ↦ subst (λ (o : Option (StoredMap D)). IfSome o (λ k. IsSome (history k.disk))) (sym past.1) tt
]

-- ---- the calls of a publisher

module _ {D B : Type 0} (keeping : Keeping D B) (first : PublisherState) (number : ℕ) where
  abbrev now_of : Published D B → PublisherState
  now_of = publisher_state keeping.log

  -- a step of one map, while the others stay
  module _ (old new : Published D B) (elsewhere : IsSameElsewhere number old.maps new.maps)
      (within : number < length old.maps) where
    opened : Opens keeping number old new → IsLed keeping first old → IsLed keeping first new
    opened opens led = opened_then keeping number old new elsewhere within led opens
        (λ reopens leads. leads_on first (now_of old) (now_of new) leads (inr (number, reopens)))

    offered : (offer : OfferedVersion) → offer.force ≡ false → At number old.maps new.maps (LeavesEither keeping.history offer.version)
        → GoesOnRising keeping number offer old new → IsLed keeping first old → IsLed keeping first new
    offered offer unforced leaves rising led =
        offered_then keeping number old new elsewhere within led offer unforced leaves rising
        (λ installs leads. leads_on first (now_of old) (now_of new) leads (inl (number, offer.version, installs)))

    shut : (why : SlotFault) → StaysBehind keeping number why old new → IsLed keeping first old → IsLed keeping first new
    shut why stays led = shut_then keeping number old new elsewhere within led why stays
        (λ same leads. leads_on first (now_of old) (now_of new) leads (inr (number, inl same)))

  module _ (version : MapVersion) (origin : Origin) (old new : Published D B) (within : number < length old.maps)
      (led : IsLed keeping first old) where
    led_middle : (middle : Published D B) → Opens keeping number old middle
        → (number < length middle.maps) × IsLed keeping first middle
    led_middle middle opens =
        let count = opens.upheld.elsewhere.count in
        (omega (arith, within, count), opened old middle opens.upheld.elsewhere within opens led)

    led_installed : OpensAndInstalls keeping (candidate number version origin) old new → IsLed keeping first new
    led_installed is =
        let middle = led_middle is.middle is.opens in
        offered is.middle new is.installs.upheld.elsewhere middle.0
        (offer_behind number version origin (keeping.log is.middle.board)) refl is.installs.meanwhile is.installs.rising middle.1

    led_refused : (why : ShareFault) → IsNotInstalled keeping (candidate number version origin) why old new → IsLed keeping first new
    led_refused (Shut why) is = shut old new is.upheld.elsewhere within why is led
    led_refused (Unfit why) is =
        let middle = led_middle is.middle is.opens in
        offered is.middle new is.refuses.upheld.elsewhere middle.0
        (offer_behind number version origin (keeping.log is.middle.board)) refl is.refuses.meanwhile is.refuses.rising middle.1
    led_refused Untold is = absurd is

-- behind an install or a refusal
pub led_after : {T D B : Type 0} (keeping : Keeping D B) (first : PublisherState) (number : ℕ) (version : MapVersion) (origin : Origin)
    (old new : Published D B) (r : Result T ShareFault) → number < length old.maps
    → OnOk r (OpensAndInstalls keeping (candidate number version origin) old new)
    → IfErr r (λ why. IsNotInstalled keeping (candidate number version origin) why old new)
    → IsLed keeping first old → IsLed keeping first new
led_after keeping first number version origin old new (Ok done) within installed none led =
    led_installed keeping first number version origin old new within led installed
led_after keeping first number version origin old new (Err why) within none refused led =
    led_refused keeping first number version origin old new within led why refused

-- ---- the log at the last moment

last_of : (P : PublisherState → Type 0) (moments : List PublisherState) (last : PublisherState) → AllByRecursion P (moments ++ last ∷ []) → P last
last_of P [] last all = all.0
last_of P (moment ∷ moments) last all = last_of P moments last all.1

-- from a start it rises
pub rises : LogRises → {D B : Type 0} (keeping : Keeping D B) (first : PublisherState) (published : Published D B)
    → IsLed keeping first published → IsStart first → AreTold keeping.history (disks_of published.maps)
    → IsRisingLog (keeping.log published.board)
rises law keeping first published led start told =
    let now = publisher_state keeping.log published in
    let leads = led (maps_tell keeping.history published.maps told) in
    last_of (λ moment. IsRisingLog moment.log) (first ∷ leads.moments) now
    (law first (leads.moments ++ now ∷ []) start leads.follow)
