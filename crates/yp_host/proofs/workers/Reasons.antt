-- What follows what is shown, and what doesn't.
use Rattle.std.proofs.Common.{◌≡◌, inl, inr, ℕ, ◌<◌, ◌≤◌, Bool, true, false, not, ◌&&◌, List, Option, Some, None, nat_le, bytes_eq}
use Rattle.std.proofs.Common.{if◌then◌else◌, IsSome, refl, sym, ◌∙◌, ap}
use Rattle.std.proofs.lemmas.Bool.Decides.{leb_tells}
use Rattle.yp_version.specs.Versions.{MapVersion}
use Rattle.yp_texts.specs.After.{other_master, HasLaterOrder}
use Rattle.yp_publisher.specs.declared.install.Origin.{Origin}
use Rattle.yp_publisher.specs.declared.install.Origin.TheVariants.{Built}
use Rattle.yp_publisher.specs.Installs.{Refusal, HasMaster, IsNotNewer, offer, not_following}

-- the refusal of a version that is built here, by both tests
abbrev verdict : MapVersion → MapVersion → Bool → Bool → Option Refusal
verdict version last own newer =
    if not own then Some (HasMaster last.master)
    else if not false && newer then Some (IsNotNewer last.order version.order) else None

-- what follows comes from here, and its order is higher
pub followed : (own : List ℕ) (version : MapVersion) (last : Option MapVersion)
    → not_following own (offer version Built false) last ≡ None → (other_master own last ≡ None) × HasLaterOrder last version
followed own version None h = (refl, tt)
followed own version (Some last) h = by_tests (bytes_eq last.master own) (nat_le version.order last.order) refl refl h where
  by_tests : (same lower : Bool) → bytes_eq last.master own ≡ same → nat_le version.order last.order ≡ lower
      → verdict version last same lower ≡ None → (other_master own (Some last) ≡ None) × (last.order < version.order)
  by_tests false lower e f v = absurd (cc)
  by_tests true true e f v = absurd (cc)
  by_tests true false e f v = (
    ap (λ (b : Bool). if b then None else Some last.master) e,
    elim (leb_tells version.order last.order) [
      | inl is ↦ absurd (let c : true ≡ false = sym is.0 ∙ f in cc)
      | inr isnt ↦ isnt.1
    ],
  )

-- what has another master doesn't come from here
pub of_another : (own : List ℕ) (version : MapVersion) (last : Option MapVersion) (master : List ℕ)
    → not_following own (offer version Built false) last ≡ Some (HasMaster master)
    → (name : List ℕ) × (other_master own last ≡ Some name)
of_another own version None master h = absurd (cc)
of_another own version (Some last) master h = by_tests (bytes_eq last.master own) (nat_le version.order last.order) refl h where
  by_tests : (same lower : Bool) → bytes_eq last.master own ≡ same → verdict version last same lower ≡ Some (HasMaster master)
      → (name : List ℕ) × (other_master own (Some last) ≡ Some name)
  by_tests false lower e v = (last.master, ap (λ (b : Bool). if b then None else Some last.master) e)
  by_tests true true e v = absurd (cc)
  by_tests true false e v = absurd (cc)

-- a version that isn't newer stands behind one of an order that isn't lower
pub not_lower : (own : List ℕ) (version : MapVersion) (last : Option MapVersion) (shown offered : ℕ)
    → not_following own (offer version Built false) last ≡ Some (IsNotNewer shown offered)
    → (before : MapVersion) × (last ≡ Some before) × (version.order ≤ before.order)
not_lower own version None shown offered h = absurd (cc)
not_lower own version (Some last) shown offered h =
    by_tests (bytes_eq last.master own) (nat_le version.order last.order) refl h where
      by_tests : (same lower : Bool) → nat_le version.order last.order ≡ lower
          → verdict version last same lower ≡ Some (IsNotNewer shown offered)
          → (before : MapVersion) × (Some last ≡ Some before) × (version.order ≤ before.order)
      by_tests false lower e v = absurd (cc)
      by_tests true false e v = absurd (cc)
      by_tests true true e v = (
        last,
        refl,
        elim (leb_tells version.order last.order) [
          | inl is ↦ is.1
          | inr isnt ↦ absurd (let c : true ≡ false = sym e ∙ isnt.0 in cc)
        ],
      )

-- where something stands against a version, something is shown
pub something_stands : (own : List ℕ) (version : MapVersion) (origin : Origin) (last : Option MapVersion) (why : Refusal)
    → not_following own (offer version origin false) last ≡ Some why → IsSome last
something_stands own version origin None why h = absurd (cc)
something_stands own version origin (Some last) why h = refl
