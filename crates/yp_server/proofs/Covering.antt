-- What the faults of disks cover, said of the disks alone.
use Rattle.std.proofs.Common.{◌≡◌, inl, inr, ℕ, ◌+◌, ◌<◌, ◌≤◌, List, length, slice_get, Option, Some, IfSome, option_map, sym, ap, ◌∙◌, subst, arith}
use Rattle.std.specs.List.{All}
use Rattle.std.proofs.lemmas.List.{length-map}
use Rattle.std.proofs.lemmas.Option.{slice_get_cases, slice_get-map, get_or_from_slice_get}
use Rattle.yp_io.specs.Disk.{History}
use Rattle.yp_map_file.specs.Slots.{HasGeneration}
use Rattle.yp_publisher.specs.Standing.{StoredMap, OfMap, IsNumbered}
use Rattle.yp_publisher.specs.inside.sharing.Failures as failures
use Rattle.yp_publisher.specs.sharing.Failures.{faults_over, disks_of}
use Rattle.yp_publisher.specs.inside.sharing.Failures.{Covers}
use Rattle.yp_server.specs.Counting.{DiskTellsFaults}

module _ {D : Type 0} (history : D → Option History) (faults : D → ℕ) (maps : List (StoredMap D))
    (numbered : (number : ℕ) → OfMap number maps (IsNumbered history))
    (well : All (DiskTellsFaults history faults) (disks_of maps)) where
  all_well : (number : ℕ) → OfMap number maps (failures.MapTellsFaults history faults)
  all_well number = elim (slice_get_cases maps number).1 [
    | inl here ↦
        let kept = here.0 in
        let there : slice_get (disks_of maps) number ≡ Some kept.disk =
        slice_get-map (λ (k : StoredMap D). k.disk) maps number ∙ ap (option_map (λ (k : StoredMap D). k.disk)) here.2 in
        let long = length-map maps (λ (k : StoredMap D). k.disk) in
        let inside : number < length maps = here.1 in
        let is : DiskTellsFaults history faults kept.disk = subst (DiskTellsFaults history faults)
        (get_or_from_slice_get (disks_of maps) number kept.disk kept.disk there)
        (well number kept.disk (omega (arith, long, inside))) in
        let named : IsNumbered history kept = subst (λ (o : Option (StoredMap D)). IfSome o (IsNumbered history)) here.2 (numbered number) in
        subst (λ (o : Option (StoredMap D)). IfSome o (failures.MapTellsFaults history faults)) (sym here.2) record {
          told = is.told;
          counts = is.counts;
          unspent = λ level spent. is.unspent (subst (HasGeneration (history kept.disk)) spent (named level));
        }
    | inr past ↦ subst (λ (o : Option (StoredMap D)). IfSome o (failures.MapTellsFaults history faults)) (sym past.1) tt
  ]

-- what was charged is covered by the faults of the disks
pub covered : {D : Type 0} (history : D → Option History) (faults : D → ℕ) (started charged : ℕ) (maps : List (StoredMap D))
    (disks : List D) → disks ≡ disks_of maps → ((number : ℕ) → OfMap number maps (IsNumbered history))
    → Covers history faults started maps charged → All (DiskTellsFaults history faults) disks
    → started + charged ≤ faults_over faults disks
covered history faults started charged maps disks is numbered covers well =
    let here = covers (all_well history faults maps numbered (subst (All (DiskTellsFaults history faults)) is well)) in
    let same = ap (faults_over faults) is in
    omega (arith, here, same)
