-- A version that is held of a map is one of the log.
use Rattle.std.proofs.Common.{◌≡◌, ℕ, ◌<◌, ◌⊎◌, Bool, true, false, cond, eqb, List, [], ◌∷◌, ◌++◌, Option, Some}
use Rattle.std.proofs.Common.{None, Result, Ok, Err, refl, ap, ◌∙◌, subst, append_assoc, not, ◌&&◌, nat_le, arith, inl, inr}
use Rattle.std.specs.Prelude.{All, IfSome, length, ◌||◌, ◌==◌, fold}
use Rattle.std.specs.Option.{ok_or, option_and_then}
use Rattle.std.proofs.lemmas.List.Elements.{All-head, All-tail, All-nil, All-cons}
use Rattle.yp_messages.specs.declared.stat.YpStat.{YpStat}
use Rattle.yp_messages.specs.declared.stat.YpStat.TheVariants.{Badargs, Nodom, Nomap, Yperr}
use Rattle.yp_version.specs.Versions.{MapVersion, IsVersion}
use Rattle.yp_board.specs.Logs.{Log, shown}
use Rattle.yp_board.specs.Views.{IsFront}
use Rattle.yp_board.specs.Catalogues.{Catalogue, find, serves}
use Rattle.yp_answer.specs.Maps.{Maps, version_of, map_check, guarded, row_check}
use Rattle.yp_answer.specs.Served.{AreServed, maps_on}

shown_from : (map : ℕ) (so_far : Option MapVersion) (log : Log) → IfSome so_far IsVersion
    → All (λ entry. IsVersion entry.1) log
    → IfSome (fold (λ so_far entry. cond (eqb entry.0 map) (Some entry.1) so_far) so_far log) IsVersion
shown_from map so_far [] is all = is
shown_from map so_far (entry ∷ log) is all =
    shown_from map (cond (eqb entry.0 map) (Some entry.1) so_far) log (chosen (eqb entry.0 map))
    (All-tail (λ entry. IsVersion entry.1) entry log all)
  where
    chosen : (b : Bool) → IfSome (cond b (Some entry.1) so_far) IsVersion
    chosen true = All-head (λ entry. IsVersion entry.1) entry log all
    chosen false = is

-- what the check of a map comes to
checked : Bool → Bool → Option MapVersion → Result MapVersion YpStat
checked a b version = cond a (Err Badargs) (cond b (Err Nodom) (ok_or version Nomap))

checked_ok : (a b : Bool) (held : Option MapVersion) (version : MapVersion) → checked a b held ≡ Ok version
    → (a ≡ false) × (b ≡ false) × (held ≡ Some version)
unfolding checked
checked_ok true b held version is = absurd cc
checked_ok false true held version is = absurd cc
checked_ok false false None version is = absurd cc
checked_ok false false (Some other) version is =
    let same : other ≡ version = cc in (refl, refl, ap (λ (v : MapVersion). Some v) same)

-- a version that is held
pub record IsHeld (maps : Maps) (domain map : List ℕ) (version : MapVersion) : Type 0 where
  pub names : (length domain == 0 || length map == 0) ≡ false
  pub served : not (serves domain maps.catalogue) ≡ false
  pub held : version_of maps domain map ≡ Some version

pub is_held : (maps : Maps) (domain map : List ℕ) (version : MapVersion) → map_check maps domain map ≡ Ok version
    → IsHeld maps domain map version
unfolding checked
is_held maps domain map version is =
    let parts = checked_ok (length domain == 0 || length map == 0) (not (serves domain maps.catalogue))
    (version_of maps domain map) version is in
    record { names = parts.0; served = parts.1; held = parts.2 }

-- where another log shows the same of it, the same is held
pub held_again : (catalogue : Catalogue) (log other : Log) (domain map : List ℕ) (version : MapVersion)
    → map_check (maps_on catalogue log) domain map ≡ Ok version
    → version_of (maps_on catalogue other) domain map ≡ version_of (maps_on catalogue log) domain map
    → map_check (maps_on catalogue other) domain map ≡ Ok version
unfolding checked
held_again catalogue log other domain map version is same =
    ap (λ (held : Option MapVersion). checked (length domain == 0 || length map == 0)
    (not (serves domain catalogue)) held) same ∙ is

-- the number of a map of which a version is held
pub record HasNumber (catalogue : Catalogue) (domain map : List ℕ) (log : Log) (version : MapVersion) : Type 0 where
  pub number : ℕ
  pub found : find domain map catalogue ≡ Some number
  pub shows : shown number log ≡ Some version

number_of : (found : Option ℕ) (log : Log) (version : MapVersion)
    → option_and_then (λ number. shown number log) found ≡ Some version
    → (number : ℕ) × (found ≡ Some number) × (shown number log ≡ Some version)
number_of None log version is = absurd cc
number_of (Some number) log version is = (number, refl, is)

pub has_number : (catalogue : Catalogue) (domain map : List ℕ) (log : Log) (version : MapVersion)
    → map_check (maps_on catalogue log) domain map ≡ Ok version → HasNumber catalogue domain map log version
has_number catalogue domain map log version is =
    let parts = number_of (find domain map catalogue) log version
    (is_held (maps_on catalogue log) domain map version is).held in
    record { number = parts.0; found = parts.1; shows = parts.2 }

version_sound : (maps : Maps) (number : Option ℕ) → AreServed maps
    → IfSome (option_and_then (λ n. shown n maps.log) number) IsVersion
version_sound maps None served = tt
version_sound maps (Some number) served = shown_from number None maps.log tt served.versions

-- a version that is held is within its limits
pub held_sound : (maps : Maps) (domain map : List ℕ) (version : MapVersion) → AreServed maps
    → map_check maps domain map ≡ Ok version → IsVersion version
held_sound maps domain map version served is =
    subst (λ (v : Option MapVersion). IfSome v IsVersion) (is_held maps domain map version is).held
    (version_sound maps (find domain map maps.catalogue) served)

-- its rows are shown to a caller, where it isn't secure or the port is one of the system's
guarded_ok : (port : ℕ) (version : MapVersion) → (version.secure ≡ false) ⊎ (port < 1024)
    → guarded port (Ok version) ≡ Ok version
guarded_ok port version (inl plain) =
    ap (λ (b : Bool). cond (b && nat_le 1024 port) (Err Yperr) (Ok version)) plain
guarded_ok port version (inr low) = by version.secure
  where
    high : nat_le 1024 port ≡ false
    high = grind (arith, low)

    by : (b : Bool) → cond (b && nat_le 1024 port) (Err Yperr) (Ok version) ≡ Ok version
    by true = ap (λ (c : Bool). cond c (Err Yperr) (Ok version)) high
    by false = refl

pub rows_held : (maps : Maps) (port : ℕ) (domain map : List ℕ) (version : MapVersion)
    → (version.secure ≡ false) ⊎ (port < 1024) → map_check maps domain map ≡ Ok version
    → row_check maps port domain map ≡ Ok version
rows_held maps port domain map version may is =
    ap (λ (held : Result MapVersion YpStat). guarded port held) is ∙ guarded_ok port version may

-- rows that are shown are those of the version that is held
guarded_is : (port : ℕ) (held : Result MapVersion YpStat) (version : MapVersion) → guarded port held ≡ Ok version
    → held ≡ Ok version
guarded_is port (Err stat) version is = is
guarded_is port (Ok other) version is = by (other.secure && nat_le 1024 port) is
  where
    by : (b : Bool) → cond b (Err Yperr) (Ok other) ≡ Ok version → (let o : Result MapVersion YpStat = Ok other in o) ≡ Ok version
    by true e = absurd cc
    by false e = e

pub rows_of_held : (maps : Maps) (port : ℕ) (domain map : List ℕ) (version : MapVersion)
    → row_check maps port domain map ≡ Ok version → map_check maps domain map ≡ Ok version
rows_of_held maps port domain map version is = guarded_is port (map_check maps domain map) version is

-- ---- fronts of a log

front_all : (P : ℕ × MapVersion → Type 0) (front more : Log) → All P (front ++ more) → All P front
front_all P [] more all = All-nil P
front_all P (entry ∷ front) more all =
    All-cons P entry front (All-head P entry (front ++ more) all)
    (front_all P front more (All-tail P entry (front ++ more) all))

pub served_before : (catalogue : Catalogue) (old new : Log) → IsFront old new → AreServed (maps_on catalogue new)
    → AreServed (maps_on catalogue old)
served_before catalogue old new front served = record {
  catalogue = served.catalogue;
  versions = front_all (λ entry. IsVersion entry.1) old front.0
      (subst (λ (log : Log). All (λ entry. IsVersion entry.1) log) front.1 served.versions);
}

pub front_then : (a b c : Log) → IsFront a b → IsFront b c → IsFront a c
front_then a b c one other =
    (one.0 ++ other.0, other.1 ∙ ap (λ (log : Log). log ++ other.0) one.1 ∙ append_assoc a one.0 other.0)
