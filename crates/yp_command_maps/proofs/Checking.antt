-- A file that was checked, where nothing failed.
use Rattle.std.proofs.Common.{◌≡◌, ◌⊎◌, inl, inr, ℕ, ◌+◌, List, [], ◌∷◌, ◌++◌, length, map, Option, None, Some, refl, sym, ap, ◌∙◌, subst, arith}
use Rattle.std.specs.Prelude.{IfSome, IsTrue}
use Rattle.std.proofs.lemmas.List.{length-append}
use Rattle.yp_io.specs.Counts.{HasRisen}
use Rattle.yp_io.specs.Disk.{History}
use Rattle.yp_version.specs.Versions.{MapVersion}
use Rattle.yp_map_file.specs.Stands.{Stored, stands}
use Rattle.yp_board.specs.declared.catalog.MapName.{MapName}
use Rattle.yp_board.specs.Catalogues.{Name, name_view}
use Rattle.yp_command.specs.declared.office.status.Status.{Status}
use Rattle.yp_command.specs.declared.office.status.Status.TheVariants.{Done, Usage, ReadFault, WriteFault, Torn, TooLong, NoMemory, Damaged, NoVersion, DiskFault, Rows, OrderSpent, Refused, GenerationsSpent, Enough}
use Rattle.yp_command.specs.declared.office.disks.NamedDisk.{NamedDisk}
use Rattle.yp_command.specs.declared.office.office.Office.{Office}
use Rattle.yp_command.specs.office.Disks.{names_of, history_of, IsOnlyRead}
use Rattle.yp_command.specs.office.Seeing.{Seeing, output, DiskFails, WriteFails}
use Rattle.yp_texts.specs.Dumps.{first_unfit}
use Rattle.yp_command_maps.specs.Inspect.{Inspects}
use Rattle.yp_command_maps.specs.Check.{Checks, check_may_end}
use Rattle.yp_command_maps.specs.Dump.{Dumps, dump_may_end}

-- a version that stands is told, but for faults and want of memory
pub checked_whole : (store : Name) (file : List ℕ) (version : MapVersion) (status : Status) (before after : Option (List ℕ)) → Checks store file status before after → stands file ≡ Stored version
    → (status ≡ WriteFault → ⊥) → ((map : MapName) → status ≡ DiskFault map → ⊥) → (status ≡ Done) ⊎ (status ≡ NoMemory)
checked_whole store file version Done before after h stood writes disks = inl refl
checked_whole store file version NoMemory before after h stood writes disks = inr refl
checked_whole store file version WriteFault before after h stood writes disks = absurd (writes refl)
checked_whole store file version (DiskFault map) before after h stood writes disks = absurd (disks map refl)
checked_whole store file version (NoVersion map) before after h stood writes disks = let none = h.1 in absurd cc
checked_whole store file version (Damaged map at rule) before after h stood writes disks = let broken = h.1 in absurd cc
checked_whole store file version _ before after h stood writes disks = absurd h

-- a check reads nothing that can fail
pub not_read : (status : Status) → IsTrue (check_may_end status) → status ≡ ReadFault → ⊥
not_read ReadFault may e = absurd cc
not_read status may e = let no : IsTrue (check_may_end ReadFault) = subst (λ (s : Status). IsTrue (check_may_end s)) e may in absurd cc

-- rows that are told, but for faults and want of memory
pub dumped_whole : (store : Name) (file : List ℕ) (version : MapVersion) (status : Status) (before after : Option (List ℕ)) → Dumps store file status before after
    → stands file ≡ Stored version → first_unfit 1 version.rows ≡ None
    → (status ≡ WriteFault → ⊥) → ((map : MapName) → status ≡ DiskFault map → ⊥) → (status ≡ Done) ⊎ (status ≡ NoMemory)
dumped_whole store file version Done before after h stood fits writes disks = inl refl
dumped_whole store file version NoMemory before after h stood fits writes disks = inr refl
dumped_whole store file version WriteFault before after h stood fits writes disks = absurd (writes refl)
dumped_whole store file version (DiskFault map) before after h stood fits writes disks = absurd (disks map refl)
dumped_whole store file version (NoVersion map) before after h stood fits writes disks = let none = h.1 in absurd cc
dumped_whole store file version (Damaged map at rule) before after h stood fits writes disks = let broken = h.1 in absurd cc
dumped_whole store file version (Rows row rule) before after h stood fits writes disks =
    let same : Stored h.0 ≡ Stored version = sym h.1 ∙ stood in
    let rows : first_unfit 1 h.0.rows ≡ Some h.2.0 = h.2.1 in
    absurd (let no : h.0 ≡ version = cc in let none : first_unfit 1 h.0.rows ≡ None = subst (λ (v : MapVersion). first_unfit 1 v.rows ≡ None) (sym no) fits in cc)
dumped_whole store file version _ before after h stood fits writes disks = absurd h

-- it reads nothing that can fail
pub dump_not_read : (status : Status) → IsTrue (dump_may_end status) → status ≡ ReadFault → ⊥
dump_not_read ReadFault may e = absurd cc
dump_not_read status may e = let no : IsTrue (dump_may_end ReadFault) = subst (λ (s : Status). IsTrue (dump_may_end s)) e may in absurd cc

-- one name, one disk
pub one_name : {D : Type 0} (disks : List (NamedDisk D)) (name : Name) → names_of disks ≡ name ∷ [] → length disks ≡ 1
one_name [] name h = absurd cc
one_name (disk ∷ []) name h = refl
one_name (disk ∷ another ∷ more) name h = absurd (omega (arith, ap length h))

-- as many names as disks
pub named_one : {D : Type 0} (names : List MapName) (disks : List (NamedDisk D)) → map name_view names ≡ names_of disks
    → length disks ≡ 1 → length names ≡ 1
named_one [] [] e one = absurd (omega (arith, one))
named_one [] (disk ∷ disks) e one = absurd cc
named_one (name ∷ names) [] e one = absurd cc
named_one (name ∷ []) (disk ∷ disks) e one = refl
named_one (name ∷ other ∷ names) (disk ∷ []) e one = absurd (omega (arith, ap length e))
named_one (name ∷ other ∷ names) (disk ∷ another ∷ disks) e one = absurd (omega (arith, one))

-- the one that was popped is the only one
pub popped : {D : Type 0} (old rest : List (NamedDisk D)) (one : NamedDisk D) → old ≡ rest ++ one ∷ [] → length old ≡ 1 → rest ≡ []
popped old [] one e h = refl
popped old (disk ∷ rest) one e h = absurd (omega (arith, ap length e, h, length-append rest (one ∷ [])))

told_more : {A : Type 0} (o : Option A) (P Q : A → Type 0) → ((x : A) → P x → Q x) → IfSome o P → IfSome o Q
told_more None P Q f h = tt
told_more (Some x) P Q f h = f x h

-- what was done to the only disk, and to the sink
pub record Inspected {S K D C A I T : Type 0} (seen : Seeing S K D C A I T) (Tells : List ℕ → Status → Option (List ℕ) → Option (List ℕ) → Type 0)
    (status : Status) (before after : NamedDisk D) (old new : K) : Type 0 where
  pub tells : IfSome (seen.disk.history before.disk) (λ h. Tells h.state.reads status (seen.sink.output old) (seen.sink.output new))
  pub unwritten : IsOnlyRead (seen.disk.history before.disk) (seen.disk.history after.disk)
  pub write_fault : status ≡ WriteFault → HasRisen (seen.sink.faults old) (seen.sink.faults new)
  pub disk_fault : (map : MapName) → status ≡ DiskFault map → HasRisen (seen.disk.faults before.disk) (seen.disk.faults after.disk)
  pub name : after.name ≡ before.name
  pub read_fault : status ≡ ReadFault → ⊥

-- so it was done to the office, where a version that can be told is, but for faults and want of memory
pub inspected_only : {S K D C A I T : Type 0} (seen : Seeing S K D C A I T) (Tells : List ℕ → Status → Option (List ℕ) → Option (List ℕ) → Type 0)
    (CanBeTold : MapVersion → Type 0) (status : Status) (old new : Office S K D C A I T) (before after : NamedDisk D)
    → ((file : List ℕ) (version : MapVersion) (was is : Option (List ℕ)) → Tells file status was is → stands file ≡ Stored version → CanBeTold version
    → (status ≡ WriteFault → ⊥) → ((map : MapName) → status ≡ DiskFault map → ⊥) → (status ≡ Done) ⊎ (status ≡ NoMemory))
    → old.disks.items ≡ before ∷ [] → new.disks.items ≡ after ∷ [] → new ≡ record old { wire = record old.wire { sink = new.wire.sink }; disks = new.disks }
    → Inspected seen Tells status before after old.wire.sink new.wire.sink → Inspects seen Tells CanBeTold status old new
inspected_only {S} {K} {D} {C} {A} {I} {T} seen Tells CanBeTold status old new before after whole first last stays did =
    let told : history_of seen.disk.history old.disks.items ≡ seen.disk.history before.disk = ap (λ (l : List (NamedDisk D)). history_of seen.disk.history l) first in
    let tells : IfSome (history_of seen.disk.history old.disks.items) (λ h. Tells h.state.reads status (output seen old) (output seen new)) = rw told did.tells in
    let risen : (map : MapName) → status ≡ DiskFault map → DiskFails seen old new = λ map e. rw (first, last) (omega (arith, did.disk_fault map e)) in
    record {
      tells = tells;
      unwritten = rw (first, last) did.unwritten;
      complete = λ version. told_more (history_of seen.disk.history old.disks.items) (λ h. Tells h.state.reads status (output seen old) (output seen new)) _
          (λ h is stood can disks writes. whole h.state.reads version (output seen old) (output seen new) is stood can (λ e. writes (did.write_fault e)) (λ map e. disks (risen map e))) tells;
      causes = record { read_fault = λ e. absurd (did.read_fault e); write_fault = did.write_fault; disk_fault = risen };
      names = rw (first, last) (ap (λ name. name_view name ∷ []) did.name);
      stays = stays;
    }
