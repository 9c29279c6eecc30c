-- A version that follows the one that is shown may be installed, as far as the generations go.
use Rattle.std.proofs.Common.{◌≡◌, ℕ, ◌<◌, Bool, true, false, cond, not, List, [], ◌∷◌, Option, None, Some, refl, sym, ap, ◌∙◌, arith}
use Rattle.std.specs.Prelude.{bytes_eq, nat_le, IfSome}
use Rattle.std.specs.Option.{option_or}
use Rattle.std.proofs.lemmas.Bool.Decides.{nat_tests}
use Rattle.yp_version.specs.Versions.{MapVersion}
use Rattle.yp_texts.specs.After.{other_master, HasLaterOrder}
use Rattle.yp_publisher.specs.declared.install.Origin.TheVariants as Origin
use Rattle.yp_publisher.specs.Standing.{MapStanding, Level, Behind, StoredMap, OfMap}
use Rattle.yp_publisher.specs.Installs.{offer, install_refusal, is_behind, not_following, no_further}
use Rattle.yp_publisher.specs.Installs as installs
use Rattle.yp_command_maps.specs.inside.Build.{IsAccepted}

-- the refusals of an install, by its tests
by_tests : (same : Bool) (order shown : ℕ) (master : List ℕ) → cond same None (Some master) ≡ None → shown < order
    → cond (not same) (Some (installs.HasMaster master)) (cond (nat_le order shown) (Some (installs.IsNotNewer shown order)) None) ≡ None
by_tests false order shown master e newer = absurd cc
by_tests true order shown master e newer = let le : nat_le order shown ≡ false = grind (arith, nat_tests) in rw le refl

follows : (own : List ℕ) (last : Option MapVersion) (version : MapVersion) → other_master own last ≡ None → HasLaterOrder last version
    → not_following own (offer version Origin.Built false) last ≡ None
follows own None version same newer = refl
follows own (Some last) version same newer = by_tests (bytes_eq last.master own) version.order last.order last.master same newer

at_level : (standing : MapStanding) (other : Option installs.Refusal) → standing ≡ Level → cond (is_behind standing) (Some installs.IsBehind) other ≡ other
at_level Level other e = refl
at_level (Behind failed) other e = absurd cc

accepted : {D : Type 0} (own : List ℕ) (last : Option MapVersion) (version : MapVersion) (kept : StoredMap D) → other_master own last ≡ None → HasLaterOrder last version
    → last ≡ kept.version → kept.standing ≡ Level → IsAccepted own version kept
accepted own last version kept same newer shown level = record {
  level = level;
  cause =
      at_level kept.standing (option_or (not_following own (offer version Origin.Built false) kept.version) (no_further kept.generation)) level
      ∙ ap (λ (l : Option MapVersion). option_or (not_following own (offer version Origin.Built false) l) (no_further kept.generation)) (sym shown)
      ∙ ap (λ (cause : Option installs.Refusal). option_or cause (no_further kept.generation)) (follows own last version same newer);
}

-- so it is accepted for the only map
pub accepted_only : {D : Type 0} (own other : List ℕ) (last : Option MapVersion) (version : MapVersion) (maps : List (StoredMap D)) → own ≡ other → other_master other last ≡ None → HasLaterOrder last version
    → OfMap 0 maps (λ kept. last ≡ kept.version) → OfMap 0 maps (λ kept. kept.standing ≡ Level) → OfMap 0 maps (IsAccepted own version)
accepted_only own other last version [] is same newer shown level = tt
accepted_only own other last version (kept ∷ maps) is same newer shown level = accepted own last version kept (ap (λ (o : List ℕ). other_master o last) is ∙ same) newer shown level
