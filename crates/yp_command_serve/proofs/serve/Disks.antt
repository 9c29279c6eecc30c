-- What is left of disks where maps weren't served, and how often they have failed.
use Rattle.std.proofs.Common.{◌≡◌, ℕ, ◌+◌, ◌<◌, List, [], ◌∷◌, ◌++◌, length, map, Option, refl, sym, ap, ◌∙◌, subst, arith}
use Rattle.std.specs.List.{AllZip}
use Rattle.std.proofs.lemmas.List.{length-append, length-map}
use Rattle.yp_io.specs.Counts.{HasRisen}
use Rattle.yp_io.specs.Disk.{History}
use Rattle.yp_io.specs.inside.DiskLaws.{stays, only_now}
use Rattle.yp_map_file.specs.declared.fault.SlotFault.{SlotFault}
use Rattle.yp_map_file.specs.declared.fault.SlotFault.TheVariants as fault
use Rattle.yp_board.specs.Catalogues.{name_view}
use Rattle.yp_board.specs.declared.catalog.MapName.{MapName}
use Rattle.yp_publisher.specs.Begins.{IsUnwritten}
use Rattle.yp_publisher.specs.Opens.{IsOpened, OpeningStopped}
use Rattle.yp_publisher.specs.Standing.{StoredMap}
use Rattle.yp_command.specs.declared.office.disks.NamedDisk.{NamedDisk}
use Rattle.yp_command.specs.office.Disks.{names_of, disks_of, total_faults, faults_of}

module _ {D : Type 0} (history : D → Option History) (faults : D → ℕ) where
  -- disks that stay
  pub nothing_written : (disks : List D) → AllZip (IsUnwritten history faults) disks disks
  nothing_written [] = tt
  nothing_written (disk ∷ disks) = (
    record {
      moments = record { goes_on = stays (history disk); each = λ image left. only_now (history disk) image left };
      never_falls = omega arith;
    },
    nothing_written disks,
  )

  -- disks that were opened, before others
  front_written : (front : List D) (opened : List (StoredMap D)) (old new : List D)
      → AllZip (IsOpened history faults) front opened → AllZip (IsUnwritten history faults) old new
      → AllZip (IsUnwritten history faults) (front ++ old) (map (λ (k : StoredMap D). k.disk) opened ++ new)
  front_written [] [] old new each rest = rest
  front_written [] (kept ∷ opened) old new each rest = absurd each
  front_written (disk ∷ front) [] old new each rest = absurd each
  front_written (disk ∷ front) (kept ∷ opened) old new each rest = (
    record { moments = each.0.moments; never_falls = each.0.never_falls },
    front_written front opened old new each.1 rest,
  )

  -- disks that were all opened
  pub opened_written : (old : List D) (opened : List (StoredMap D)) (new : List D) → AllZip (IsOpened history faults) old opened
      → new ≡ map (λ (k : StoredMap D). k.disk) opened → AllZip (IsUnwritten history faults) old new
  opened_written old opened new each is = subst (λ (l : List D). AllZip (IsUnwritten history faults) old l) (sym is) (all old opened each)
    where
      all : (front : List D) (opened : List (StoredMap D)) → AllZip (IsOpened history faults) front opened
          → AllZip (IsUnwritten history faults) front (map (λ (k : StoredMap D). k.disk) opened)
      all [] [] each = tt
      all [] (kept ∷ opened) each = absurd each
      all (disk ∷ front) [] each = absurd each
      all (disk ∷ front) (kept ∷ opened) each =
          (record { moments = each.0.moments; never_falls = each.0.never_falls }, all front opened each.1)

  -- disks of which one was refused
  pub stopped_written : (old new : List D) (number : ℕ) (why : SlotFault)
      → OpeningStopped history faults old new number why → AllZip (IsUnwritten history faults) old new
  stopped_written old new number why stopped =
      let refused = stopped.refused in
      let here : AllZip (IsUnwritten history faults) (stopped.before ∷ stopped.rest) (stopped.after ∷ stopped.rest) =
      (record { moments = refused.moments; never_falls = refused.never_falls }, nothing_written stopped.rest) in
      rw (stopped.old_is, stopped.new_is)
      (front_written stopped.front stopped.opened (stopped.before ∷ stopped.rest) (stopped.after ∷ stopped.rest)
      stopped.each here)

  -- the faults of disks that were opened haven't fallen, and those of one behind them rose
  total_rose : (front : List D) (opened : List (StoredMap D)) (before after : D) (rest : List D)
      → AllZip (IsOpened history faults) front opened → HasRisen (faults before) (faults after)
      → HasRisen (total_faults faults (front ++ before ∷ rest))
      (total_faults faults (map (λ (k : StoredMap D). k.disk) opened ++ after ∷ rest))
  total_rose [] [] before after rest each risen = omega (arith, risen)
  total_rose [] (kept ∷ opened) before after rest each risen = absurd each
  total_rose (disk ∷ front) [] before after rest each risen = absurd each
  total_rose (disk ∷ front) (kept ∷ opened) before after rest each risen =
      let here = each.0.never_falls in
      let more = total_rose front opened before after rest each.1 risen in
      omega (arith, here, more)

  pub stopped_risen : (old new : List (NamedDisk D)) (number : ℕ)
      → OpeningStopped history faults (disks_of old) (disks_of new) number fault.DiskFault
      → HasRisen (faults_of faults old) (faults_of faults new)
  stopped_risen old new number stopped =
      let risen = total_rose stopped.front stopped.opened stopped.before stopped.after stopped.rest stopped.each
      (stopped.refused.disk_fault refl) in
      let was : faults_of faults old ≡ total_faults faults (stopped.front ++ stopped.before ∷ stopped.rest) =
      ap (total_faults faults) stopped.old_is in
      let is : faults_of faults new
      ≡ total_faults faults (map (λ (k : StoredMap D). k.disk) stopped.opened ++ stopped.after ∷ stopped.rest) =
      ap (total_faults faults) stopped.new_is in
      omega (arith, risen, was, is)

  -- as many disks were opened as stood in front
  opened_count : (front : List D) (opened : List (StoredMap D)) → AllZip (IsOpened history faults) front opened
      → length opened ≡ length front
  opened_count [] [] each = refl
  opened_count [] (kept ∷ opened) each = absurd each
  opened_count (disk ∷ front) [] each = absurd each
  opened_count (disk ∷ front) (kept ∷ opened) each = omega (arith, opened_count front opened each.1)

  -- as many disks come back as there were, and the one that was refused is among them
  pub stopped_count : (old new : List D) (number : ℕ) (why : SlotFault)
      → OpeningStopped history faults old new number why → (length new ≡ length old) × (number < length old)
  stopped_count old new number why stopped =
      let was : length old ≡ length stopped.front + length (stopped.before ∷ stopped.rest) =
      ap length stopped.old_is ∙ length-append stopped.front (stopped.before ∷ stopped.rest) in
      let is : length new ≡ length (map (λ (k : StoredMap D). k.disk) stopped.opened) + length (stopped.after ∷ stopped.rest) =
      ap length stopped.new_is
      ∙ length-append (map (λ (k : StoredMap D). k.disk) stopped.opened) (stopped.after ∷ stopped.rest) in
      let mapped = length-map stopped.opened (λ (k : StoredMap D). k.disk) in
      let front = opened_count stopped.front stopped.opened stopped.each in
      (omega (arith, was, is, mapped, front), omega (arith, was, stopped.number_is))

  pub all_opened : (disks : List D) (maps : List (StoredMap D)) → AllZip (IsOpened history faults) disks maps
      → length maps ≡ length disks
  all_opened = opened_count

-- as many names as disks
pub same_count : {D : Type 0} (named : List (NamedDisk D)) (names : List MapName) (disks : List D)
    → disks ≡ disks_of named → map name_view names ≡ names_of named → length disks ≡ length names
same_count {D} named names disks of_disks of_names =
    ap length of_disks ∙ length-map named (λ (d : NamedDisk D). d.disk)
    ∙ sym (length-map named (λ (d : NamedDisk D). name_view d.name)) ∙ sym (ap length of_names)
    ∙ length-map names name_view
