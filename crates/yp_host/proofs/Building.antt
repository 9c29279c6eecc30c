-- A version that is built follows the one that is shown, and why one isn't built.
use Rattle.std.proofs.Common.{◌≡◌, ◌⊎◌, inl, inr, ℕ, false, List, Option, Some, None, Result, Ok, Err, IfSome, OnOk, IfOk, IfErr, slice_get, is_some, refl, sym, ap, subst}
use Rattle.yp_version.specs.Versions.{MapVersion}
use Rattle.yp_messages.specs.declared.transfer.XfrStat.{XfrStat}
use Rattle.yp_texts.specs.declared.reading.Reading.{Reading}
use Rattle.yp_texts.specs.declared.fault.BuildFault.{BuildFault}
use Rattle.yp_texts.specs.declared.fault.BuildFault.TheVariants as fault
use Rattle.yp_texts.specs.Builds.{order_max}
use Rattle.yp_texts.specs.After.{Material, HasFault, basis_of, other_master, last_order, built_after}
use Rattle.yp_publisher.specs.declared.install.Origin.TheVariants.{Built}
use Rattle.yp_publisher.specs.Installs.{offer, not_following}
use Rattle.yp_publisher.specs.Standing.{StoredMap, OfMap}
use Rattle.yp_answer.specs.Causes.{Told, OfText, MaterialIsTold, is_of_another, HasBadLine}
use Rattle.yp_answer.specs.inside.Causes.{build_stat}
use Rattle.yp_host.specs.Anew.{IsUnbuilt}
use Rattle.yp_host.specs.inside.Anew.{task_from}

-- ---- why a version isn't built

module _ (told : Told) (faults faults' : ℕ) (reading : Reading) (name own : List ℕ) (last : Option MapVersion) (material : Material)
    (same : other_master own last ≡ None) (of_told : MaterialIsTold told name material) where
  abbrev Unbuilt : XfrStat → Type 0
  Unbuilt stat = IsUnbuilt told faults faults' (task_from (OfText reading name) own last) stat

  of_own : is_of_another (task_from (OfText reading name) own last) ≡ false
  of_own = ap (λ (o : Option (List ℕ)). is_some o) same

  line : (f : BuildFault) → (f ≡ fault.NoMemory → ⊥) → (f ≡ fault.OrderSpent → ⊥)
      → (f ≡ fault.NoMemory) ⊎ (built_after (basis_of reading own None last) material ≡ Err (HasFault f))
      → HasBadLine told reading name own last
  line f memory spent cause = elim cause [
    | inl e ↦ absurd (memory e)
    | inr e ↦ record { material = material; of_told = of_told; fault = f; of_row = spent; cause = e }
  ]

  pub unbuilt : (f : BuildFault) → (f ≡ fault.NoMemory) ⊎ (built_after (basis_of reading own None last) material ≡ Err (HasFault f))
      → (f ≡ fault.OrderSpent → last_order last ≡ Some order_max) → Unbuilt (build_stat f)
  unbuilt fault.OrderSpent cause spent = (of_own, spent refl)
  unbuilt fault.NoMemory cause spent = of_own
  unbuilt (fault.KeyLong at) cause spent = (of_own, line (fault.KeyLong at) (λ e. cc) (λ e. cc) cause)
  unbuilt (fault.ValueLong at) cause spent = (of_own, line (fault.ValueLong at) (λ e. cc) (λ e. cc) cause)
  unbuilt (fault.TooManyRows at) cause spent = (of_own, line (fault.TooManyRows at) (λ e. cc) (λ e. cc) cause)
  unbuilt (fault.TooBig at) cause spent = (of_own, line (fault.TooBig at) (λ e. cc) (λ e. cc) cause)

-- ---- results

pub on_ok : {T E P Q : Type 0} (r : Result T E) → (P → Q) → OnOk r P → OnOk r Q
on_ok (Ok x) f h = f h
on_ok (Err e) f h = tt

pub if_ok : {T E : Type 0} {P Q : T → Type 0} (r : Result T E) → ((x : T) → P x → Q x) → IfOk r P → IfOk r Q
if_ok (Ok x) f h = f x h
if_ok (Err e) f h = tt

pub if_err : {T E : Type 0} {P Q : E → Type 0} (r : Result T E) → ((e : E) → P e → Q e) → IfErr r P → IfErr r Q
if_err (Ok x) f h = tt
if_err (Err e) f h = f e h

pub if_some : {A : Type 0} {P Q : A → Type 0} (o : Option A) → ((x : A) → P x → Q x) → IfSome o P → IfSome o Q
if_some None f h = tt
if_some (Some x) f h = f x h

-- ---- at a map

-- what follows the version that is shown of a map follows the one that is kept of it
pub follows_at : {D : Type 0} (version : MapVersion) (own name : List ℕ) (now : Option MapVersion) (number : ℕ) (maps : List (StoredMap D))
    → not_following name (offer version Built false) now ≡ None → name ≡ own → OfMap number maps (λ kept. kept.version ≡ now)
    → OfMap number maps (λ kept. not_following own (offer version Built false) kept.version ≡ None)
follows_at version own name now number maps follows same kept =
    let here : not_following own (offer version Built false) now ≡ None = subst (λ (o : List ℕ). not_following o (offer version Built false) now ≡ None) same follows in
    if_some (slice_get maps number) (λ map is. subst (λ (s : Option MapVersion). not_following own (offer version Built false) s ≡ None) (sym is) here) kept
