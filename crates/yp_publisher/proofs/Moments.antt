-- What a crash leaves at the moments of a call, and how a map stands after it.
use Rattle.std.proofs.Common.{◌≡◌, ◌≢◌, ◌⊎◌, inl, inr, ℕ, List, Option, Some, None, IfSome, IsSome, IsNone, Err, []}
use Rattle.std.proofs.Common.{length, ◌≤◌, option_map, subst, ap, ◌∙◌, sym, refl}
use Rattle.yp_io.specs.Counts.{HasRisen}
use Rattle.yp_io.specs.Disk.{History, HistoryGoesOn, LeftBetween, LeavesOnly, MayLeave, IsReadAnImage, IsDurable, after_sync}
use Rattle.yp_version.specs.Versions.{MapVersion}
use Rattle.yp_map_file.specs.inside.Laws.{FileIsBounded}
use Rattle.yp_map_file.specs.Slots.{IsSound}
use Rattle.yp_map_file.specs.inside.Slots.{IsAsBeforeOr}
use Rattle.yp_map_file.specs.declared.fault.SlotFault.{SlotFault}
use Rattle.yp_map_file.specs.declared.fault.SlotFault.TheVariants as fault
use Rattle.yp_map_file.specs.Loads.{Loads}
use Rattle.yp_map_file.specs.Stands.{Nothing, Stored, Damaged, stands, file_max}
use Rattle.yp_publisher.specs.Keeping.{Keeping}
use Rattle.yp_publisher.specs.Opens.{IsOpenCause}
use Rattle.yp_publisher.specs.Standing.{MapStanding, Level, Behind, StoredMap, StandsAs, stands_for}

-- what holds of all that is left at some moment holds of all that is left of it in other words
pub weaker : {P Q : List ℕ → Type 0} (old new : Option History) → ((image : List ℕ) → P image → Q image)
    → LeavesOnly old new P → LeavesOnly old new Q
weaker old new f l = record { goes_on = l.goes_on; each = λ image left. f image (l.each image left) }

-- a disk that is left alone leaves what it might leave
pub left_alone : {P : List ℕ → Type 0} (history : Option History) → HistoryGoesOn history history
    → ((image : List ℕ) → LeftBetween history history image → MayLeave history image)
    → ((image : List ℕ) → MayLeave history image → P image) → LeavesOnly history history P
left_alone history stays only each = record { goes_on = stays; each = λ image left. each image (only image left) }

-- the images of a level map
pub level_image : (standing : MapStanding) (version : Option MapVersion) (image : List ℕ) → standing ≡ Level
    → StandsAs standing version image → stands image ≡ stands_for version
level_image standing version image level stood = subst (λ (s : MapStanding). StandsAs s version image) level stood

-- a commit leaves what was shown or the new version
pub either : (old new : Option History) (shown : Option MapVersion) (version : MapVersion) → IsReadAnImage old
    → ((image : List ℕ) → MayLeave old image → stands image ≡ stands_for shown)
    → LeavesOnly old new (IsAsBeforeOr version old) → LeavesOnly old new (StandsAs (Behind version) shown)
either None new shown version reads stood l = record { goes_on = l.goes_on; each = λ image left. absurd left }
either (Some h) new shown version reads stood l = record {
  goes_on = l.goes_on;
  each = λ image left. elim (l.each image left) [
    | inl same ↦ inl (same
        ∙ stood h.state.reads reads)
    | inr stored ↦ inr stored
  ];
}

-- the same of a map that is level by what is kept of it
pub level_either : {D : Type 0} (H : D
    → Option History) (kept : StoredMap D) (disk new : D) (generation : ℕ) (shown : Option MapVersion)
    (standing : MapStanding) (version : MapVersion)
    → record { disk = disk; generation = generation; version = shown; standing = standing } ≡ kept
    → kept.standing ≡ Level
    → ((image : List ℕ) → MayLeave (H disk) image → StandsAs standing shown image) → IsReadAnImage (H disk)
    → LeavesOnly (H disk) (H new) (IsAsBeforeOr version (H disk))
    → LeavesOnly (H disk) (H new) (StandsAs (Behind version) shown)
level_either {D} H kept disk new generation shown standing version is level images reads l =
    let now : standing ≡ Level = ap (λ (k : StoredMap D). k.standing) is ∙ level in
    either (H disk) (H new) shown version reads (λ image left. level_image standing shown image now (images image left))
    l

pub install_moments : {D : Type 0} (H : D
    → Option History) (kept : StoredMap D) (disk new : D) (generation : ℕ) (shown : Option MapVersion)
    (standing : MapStanding) (version : MapVersion)
    → record { disk = disk; generation = generation; version = shown; standing = standing } ≡ kept
    → kept.standing ≡ Level
    → LeavesOnly (H disk) (H new) (StandsAs (Behind version) shown)
    → LeavesOnly (H kept.disk) (H new) (λ image. StandsAs kept.standing kept.version image
    ⊎ (stands image ≡ Stored version))
install_moments {D} H kept disk new generation shown standing version is level all =
    let P : StoredMap D → Type 0 = λ k. LeavesOnly (H k.disk) (H new) (StandsAs (Behind version) k.version) in
    weaker (H kept.disk) (H new)
    (λ image stood. elim stood [
      | inl same ↦ inl
          (subst (λ (s : MapStanding). StandsAs s kept.version image) (sym level) same)
      | inr stored ↦ inr stored
    ])
    (subst P is all)

-- what holds of each moment of a call holds of what a crash leaves after it
pub at_end : {P : List ℕ → Type 0} (old new : Option History)
    → ((image : List ℕ) → HistoryGoesOn old new → MayLeave new image → LeftBetween old new image)
    → LeavesOnly old new P → (image : List ℕ) → MayLeave new image → P image
at_end old new counts all image left = all.each image (counts image all.goes_on left)

-- ---- opened again

-- what is shown after a file was loaded again: what it stood for, or what was shown where nothing stood
abbrev pub IsSettled : (shown found after : Option MapVersion) → Type 0
IsSettled shown found after = (after ≡ found) ⊎ ((found ≡ None) × (after ≡ shown))

-- where nothing stands in a file that stands so, nothing is shown
nothing_shown : (standing : MapStanding) (shown : Option MapVersion) (image : List ℕ) → StandsAs standing shown image
    → stands image ≡ Nothing → stands image ≡ stands_for shown
nothing_shown Level shown image stood nothing = stood
nothing_shown (Behind failed) shown image stood nothing =
    elim stood [ inl same ↦ same | inr stored ↦ absurd (let e : Nothing ≡ Stored failed = sym nothing ∙ stored in cc) ]

-- what is shown then is what the file stood for, where that is told
pub settled : (old : Option History) (standing : MapStanding) (shown found after : Option MapVersion)
    → IsReadAnImage old
    → ((image : List ℕ) → MayLeave old image → StandsAs standing shown image)
    → IfSome old (λ h. stands h.state.reads ≡ stands_for found)
    → IsSettled shown found after → IfSome old (λ h. stands h.state.reads ≡ stands_for after)
settled None standing shown found after reads images stood is = tt
settled (Some h) standing shown found after reads images stood is = elim is [
  | inl same ↦ stood ∙ ap stands_for (sym same)
  | inr kept ↦ nothing_shown standing shown h.state.reads (images h.state.reads reads) (stood ∙ ap stands_for kept.0)
      ∙ ap stands_for (sym kept.1)
]

stands_is : (shown : Option MapVersion) (version : MapVersion) → stands_for shown ≡ Stored version
    → shown ≡ Some version
stands_is None version e = cc
stands_is (Some v) version e = let same : v ≡ version = cc in ap (λ (w : MapVersion). Some w) same

-- a version that stands in the file of a map that is behind, and isn't the one that was shown, is the failed one
pub was_failed : (old : Option History) (failed version : MapVersion) (shown : Option MapVersion) → IsReadAnImage old
    → ((image : List ℕ) → MayLeave old image → StandsAs (Behind failed) shown image)
    → IfSome old (λ h. stands h.state.reads ≡ Stored version) → shown ≢ Some version → IsSome old → version ≡ failed
was_failed None failed version shown reads images stood another told = cc
was_failed (Some h) failed version shown reads images stood another told = elim (images h.state.reads reads) [
  | inl same ↦ absurd (another (stands_is shown version (sym same ∙ stood)))
  | inr stored ↦ let e : Stored version ≡ Stored failed = sym stood ∙ stored in cc
]

-- after a load that was done whatever a crash leaves stands for what the file stood for
pub level_after : (old new : Option History) (version : Option MapVersion) → new ≡ option_map after_sync old
    → IsDurable new → IfSome old (λ h. stands h.state.reads ≡ stands_for version)
    → (image : List ℕ) → MayLeave new image → stands image ≡ stands_for version
level_after None new version synced durable stood image left =
    absurd (subst (λ (h : Option History). MayLeave h image) synced left)
level_after (Some h) new version synced durable stood image left =
    let P : Option History → Type 0 = λ k. IsDurable k → MayLeave k image → stands image ≡ stands_for version in
    let here : P (Some (after_sync h)) = λ d l. ap stands (d image l) ∙ stood in
    subst P (sym synced) here durable left

-- nothing that stands so is damaged
never : (standing : MapStanding) (shown : Option MapVersion) (image : List ℕ) (at rule : ℕ)
    → StandsAs standing shown image → stands image ≡ Damaged at rule → ⊥
never Level None image at rule stood damaged = let e : Nothing ≡ Damaged at rule = sym stood ∙ damaged in cc
never Level (Some v) image at rule stood damaged = let e : Stored v ≡ Damaged at rule = sym stood ∙ damaged in cc
never (Behind w) None image at rule stood damaged = elim stood [
  | inl same ↦ let e : Nothing ≡ Damaged at rule = sym same ∙ damaged in cc
  | inr stored ↦ let e : Stored w ≡ Damaged at rule = sym stored ∙ damaged in cc
]
never (Behind w) (Some v) image at rule stood damaged = elim stood [
  | inl same ↦ let e : Stored v ≡ Damaged at rule = sym same ∙ damaged in cc
  | inr stored ↦ let e : Stored w ≡ Damaged at rule = sym stored ∙ damaged in cc
]

-- why a file of a map that is behind isn't loaded
pub open_cause : {D B : Type 0} (keeping : Keeping D B) (before after : StoredMap D) (why : SlotFault)
    → IsReadAnImage (keeping.history before.disk)
    → ((image : List ℕ) → MayLeave (keeping.history before.disk) image → StandsAs before.standing before.version image)
    → IfSome (keeping.history before.disk) (λ h. Loads (stands h.state.reads) (Err why))
    → (why ≡ fault.DiskFault → HasRisen (keeping.faults before.disk) (keeping.faults after.disk))
    → IsOpenCause keeping why before after
open_cause keeping before after fault.DiskFault reads images loads risen = risen refl
open_cause keeping before after fault.NoMemory reads images loads risen = tt
open_cause keeping before after (fault.Damaged at rule) reads images loads risen =
    untold (keeping.history before.disk) reads images loads where
      untold : (old : Option History) → IsReadAnImage old
          → ((image : List ℕ) → MayLeave old image → StandsAs before.standing before.version image)
          → IfSome old (λ h. Loads (stands h.state.reads) (Err (fault.Damaged at rule))) → IsNone old
      untold None reads images loads = refl
      untold (Some h) reads images loads =
          absurd (never before.standing before.version h.state.reads at rule (images h.state.reads reads) loads)

-- ---- the bound

for_sound : (version : Option MapVersion) → IsSound (stands_for version)
for_sound None = tt
for_sound (Some version) = tt

is_sound : (standing : MapStanding) (shown : Option MapVersion) (image : List ℕ) → StandsAs standing shown image
    → IsSound (stands image)
is_sound Level shown image stood = subst IsSound (sym stood) (for_sound shown)
is_sound (Behind failed) shown image stood =
    elim stood [ inl same ↦ subst IsSound (sym same) (for_sound shown) | inr stored ↦ subst IsSound (sym stored) tt ]

-- what stands so isn't larger than the largest file
pub few : FileIsBounded → (standing : MapStanding) (shown : Option MapVersion) (image : List ℕ)
    → StandsAs standing shown image → length image ≤ file_max
few bounded standing shown image stood = (bounded image [] (is_sound standing shown image stood) tt).0
