-- Why versions aren't installed.
use Rattle.std.proofs.Common.{◌≡◌, ◌<◌, Bool, true, not, ◌&&◌, leb, if◌then◌else◌, IfSome, option_map, slice_get, arith}
use Rattle.std.proofs.Common.{subst, List, ℕ, Option, Some, None, IsSome, is_some, false, refl, sym, ◌∙◌, ap}
use Rattle.std.proofs.lemmas.Bool.Decides.{nat_tests}
use Rattle.std.proofs.lemmas.Option.{slice_get-map, unwrap_or-slice_get}
use Rattle.std.specs.Option.{unwrap_or, option_or}
use Rattle.std.specs.declared.alloc.Global.{Global}
use Rattle.std.specs.declared.sync.Arc.{Arc}
use Rattle.yp_version.specs.Versions.{MapVersion}
use Rattle.yp_publisher.specs.inside.Shared.{standing_of}
use Rattle.yp_board.specs.Logs.{Log, shown}
use Rattle.yp_publisher.specs.Rising.{IsNewer}
use Rattle.yp_publisher.specs.Standing.{Level, StoredMap, OfMap, Shows, versions}
use Rattle.yp_publisher.specs.Installs.{OfferedVersion, Refusal, IsBehind, HasMaster, IsNotNewer, is_behind, is_foreign}
use Rattle.yp_publisher.specs.Installs.{is_no_newer, not_following, no_further, install_refusal}

first_some : (a b : Option Refusal) → IsSome a → option_or a b ≡ a
first_some None b some = cc
first_some (Some r) b some = refl

-- a map without a failed version is level
pub none_level : (failed : Option (Arc MapVersion Global)) → is_some failed ≡ false → standing_of failed ≡ Level
none_level None is_none = refl
none_level (Some v) is_none = cc

-- what doesn't follow the version that is shown of a level map is refused for that
pub refusal_from : {D : Type 0} (own : List ℕ) (offered : OfferedVersion) (kept : StoredMap D) (shown : MapVersion)
    → kept.standing ≡ Level → kept.version ≡ Some shown
    → IsSome (not_following own offered (Some shown))
    → install_refusal own offered kept ≡ not_following own offered (Some shown)
refusal_from own offered kept shown level version some =
    rw (level, version) (first_some (not_following own offered (Some shown)) (no_further kept.generation) some)

-- ---- where nothing stands against it

front : (behind : Bool) (x y : Option Refusal) → (if behind then Some IsBehind else option_or x y) ≡ None → x ≡ None
front true x y none = cc
front false None y none = refl
front false (Some r) y none = cc

later : (foreign old : Bool) (a b : Refusal) → (if foreign then Some a else if old then Some b else None) ≡ None
    → old ≡ false
later true old a b none = cc
later false true a b none = cc
later false false a b none = refl

newer_than : (own : List ℕ) (offered : OfferedVersion) (shown : Option MapVersion) → not_following own offered shown ≡ None
    → offered.force ≡ false → IfSome shown (λ last. last.order < offered.version.order)
newer_than own offered None none free = tt
newer_than own offered (Some shown) none free =
    let old = later (is_foreign own offered.origin shown) (is_no_newer offered shown) (HasMaster shown.master)
    (IsNotNewer shown.order offered.version.order) none in
    let over : leb offered.version.order shown.order ≡ false =
    subst (λ (b : Bool). (not b && leb offered.version.order shown.order) ≡ false) free old in
    grind (arith, nat_tests)

-- a version that isn't refused and isn't forced is newer than the one that is shown
pub newer : {D : Type 0} (own : List ℕ) (offered : OfferedVersion) (kept : StoredMap D) → install_refusal own offered kept ≡ None
    → offered.force ≡ false → IfSome kept.version (λ last. last.order < offered.version.order)
newer own offered kept none free =
    newer_than own offered kept.version
    (front (is_behind kept.standing) (not_following own offered kept.version) (no_further kept.generation) none)
    free

newer_than_kept : {D : Type 0} (own : List ℕ) (offered : OfferedVersion) (kept : Option (StoredMap D))
    → IfSome kept (λ k. install_refusal own offered k ≡ None) → offered.force ≡ false
    → IfSome (unwrap_or (option_map (λ (k : StoredMap D). k.version) kept) None) (λ last. last.order < offered.version.order)
newer_than_kept own offered None none free = tt
newer_than_kept own offered (Some kept) none free = newer own offered kept none free

-- the same of what the board shows
pub newer_shown : {D : Type 0} (own : List ℕ) (offered : OfferedVersion) (maps : List (StoredMap D)) (n : ℕ) (log : Log)
    → OfMap n maps (λ kept. install_refusal own offered kept ≡ None) → Shows log (versions maps) → offered.force ≡ false
    → IsNewer n offered.version log
newer_shown {D} own offered maps n log none shows free =
    let f : StoredMap D → Option MapVersion = λ kept. kept.version in
    let is : shown n log ≡ unwrap_or (option_map f (slice_get maps n)) None =
    shows n ∙ sym (unwrap_or-slice_get (versions maps) n None)
    ∙ ap (λ (o : Option (Option MapVersion)). unwrap_or o None) (slice_get-map f maps n) in
    subst (λ (o : Option MapVersion). IfSome o (λ last. last.order < offered.version.order)) (sym is)
    (newer_than_kept own offered (slice_get maps n) none free)
