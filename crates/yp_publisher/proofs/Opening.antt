-- Disks that were opened, or weren't, and the publisher that is opened over them.
use Rattle.std.proofs.Common.{◌≡◌, ◌++◌, ℕ, List, [], ◌∷◌, map, Option, sym, subst, arith}
use Rattle.std.specs.List.{All, AllByRecursion, AllZip}
use Rattle.std.proofs.lemmas.List.Elements.{All-from_recursion}
use Rattle.yp_io.specs.Disk.{History}
use Rattle.yp_io.specs.inside.DiskLaws.{stays, only_now}
use Rattle.yp_map_file.specs.declared.fault.SlotFault.{SlotFault}
use Rattle.yp_map_file.specs.declared.fault.SlotFault.TheVariants as slot
use Rattle.yp_publisher.specs.Standing.{MapStanding, Level, StoredMap}
use Rattle.yp_publisher.specs.Opens.{IsOpened, OpeningStopped}
use Rattle.yp_publisher.specs.Begins.{IsUnwritten, IsUnopened}
use Rattle.yp_publisher.specs.inside.Begins.{open_fault}
use Rattle.yp_publisher.proofs.Moments.{left_alone}

module _ {D : Type 0} (history : D → Option History) (faults : D → ℕ) where
  uncalled : (disk : D) → IsUnwritten history faults disk disk
  uncalled disk = record {
    moments = left_alone (history disk) (stays (history disk)) (only_now (history disk))
        (λ image left. left);
    never_falls = omega arith;
  }

  pub opened_zip : (disks : List D) (opened : List (StoredMap D)) → AllZip (IsOpened history faults) disks opened
      → AllZip (IsUnwritten history faults) disks (map (λ kept. kept.disk) opened)
  opened_zip [] [] all = tt
  opened_zip [] (kept ∷ opened) all = absurd all
  opened_zip (disk ∷ disks) [] all = absurd all
  opened_zip (disk ∷ disks) (kept ∷ opened) all =
      (record { moments = all.0.moments; never_falls = all.0.never_falls }, opened_zip disks opened all.1)

  uncalled_zip : (disks : List D) → AllZip (IsUnwritten history faults) disks disks
  uncalled_zip [] = tt
  uncalled_zip (disk ∷ disks) = (uncalled disk, uncalled_zip disks)

  zip_then : (a b c d : List D) → AllZip (IsUnwritten history faults) a b → AllZip (IsUnwritten history faults) c d
      → AllZip (IsUnwritten history faults) (a ++ c) (b ++ d)
  zip_then [] [] c d first second = second
  zip_then [] (y ∷ b) c d first second = absurd first
  zip_then (x ∷ a) [] c d first second = absurd first
  zip_then (x ∷ a) (y ∷ b) c d first second = (first.0, zip_then a b c d first.1 second)

  pub stopped_zip : (old new : List D) (number : ℕ) (fault : SlotFault) → OpeningStopped history faults old new number fault
      → AllZip (IsUnwritten history faults) old new
  stopped_zip old new number fault stopped =
      let refused : IsUnwritten history faults stopped.before stopped.after =
      record { moments = stopped.refused.moments; never_falls = stopped.refused.never_falls } in
      let all = zip_then stopped.front (map (λ kept. kept.disk) stopped.opened) (stopped.before ∷ stopped.rest)
      (stopped.after ∷ stopped.rest)
      (opened_zip stopped.front stopped.opened stopped.each) (refused, uncalled_zip stopped.rest) in
      subst (λ (l : List D). AllZip (IsUnwritten history faults) l new) (sym stopped.old_is)
      (subst (λ (l : List D). AllZip (IsUnwritten history faults) (stopped.front ++ stopped.before ∷ stopped.rest) l)
      (sym stopped.new_is) all)

  -- why none is opened
  pub unopened : (old new : List D) (number : ℕ) (fault : SlotFault) → OpeningStopped history faults old new number fault
      → IsUnopened history faults (open_fault number fault) old new
  unopened old new number slot.NoMemory stopped = stopped_zip old new number slot.NoMemory stopped
  unopened old new number slot.DiskFault stopped = (λ (e : slot.DiskFault ≡ slot.NoMemory). cc, stopped)
  unopened old new number (slot.Damaged at rule) stopped = (λ (e : slot.Damaged at rule ≡ slot.NoMemory). cc, stopped)

  -- all are level then
  all_level : (disks : List D) (maps : List (StoredMap D)) → AllZip (IsOpened history faults) disks maps
      → AllByRecursion (λ (standing : MapStanding). standing ≡ Level) (map (λ (kept : StoredMap D). kept.standing) maps)
  all_level [] [] all = tt
  all_level [] (kept ∷ maps) all = absurd all
  all_level (disk ∷ disks) [] all = absurd all
  all_level (disk ∷ disks) (kept ∷ maps) all = (all.0.level, all_level disks maps all.1)

  pub level : (disks : List D) (maps : List (StoredMap D)) → AllZip (IsOpened history faults) disks maps
      → All (λ (standing : MapStanding). standing ≡ Level) (map (λ (kept : StoredMap D). kept.standing) maps)
  level disks maps all =
      All-from_recursion (λ (standing : MapStanding). standing ≡ Level) (map (λ (kept : StoredMap D). kept.standing) maps)
      (all_level disks maps all)
