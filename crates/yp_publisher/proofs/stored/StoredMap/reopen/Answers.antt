use Rattle.std.proofs.Common.{◌≡◌, inl, inr, List, ℕ, true, option_map, subst, sym, rules}
use Rattle.std.specs.Arc.{arc_value}
use Rattle.std.proofs.lemmas.Result.{err_from_is_err_and}
use Rattle.yp_io.specs.Disk.{MayLeave}
use Rattle.yp_map_file.specs.Slots.{HasGeneration}
use Rattle.yp_map_file.specs.inside.Slots.{SlotModel, is_ready}
use Rattle.yp_map_file.specs.Stands.{stands}
use Rattle.yp_publisher.specs.Keeping.{keeping_of}
use Rattle.yp_publisher.specs.Opens.{IsOpenCause, IsWhatStood}
use Rattle.yp_publisher.specs.Standing.{StoredMap, Level, stands_for}
use Rattle.yp_publisher.specs.inside.Shared.{standing_of}
use Rattle.yp_publisher.proofs.Moments.{IsSettled, settled, level_after, open_cause}
use Rattle.yp_publisher.proofs.stored.StoredMap.reopen.Goals as goal
use Rattle.yp_publisher.proofs.stored.StoredMap.reopen.Goals.{in-Some+then-not-is_shown+in_ok-show+in-Some-1}
use Rattle.yp_publisher.proofs.stored.StoredMap.reopen.Goals.{in-Some+then-not-is_shown+in_ok-show+in-None-1}
use Rattle.yp_publisher.proofs.stored.StoredMap.reopen.Goals.{in-Some+else-not-is_shown, in_default}

pub returns-in_err-version-clause-cause : goal.returns-in_err-version-clause-cause
returns-in_err-version-clause-cause g c =
    let p = err_from_is_err_and c.from_residual.result c.from_residual.ensures.1 in
    let H = g.D.Disk.history in
    let i = c.self.inside in
    let why = c.in_err-version.field-0.0 in
    let K = keeping_of H g.D.Disk.faults g.B.Show.log in
    let inside : StoredMap g.row.D.Denot = record {
      disk = i.slot.disk;
      generation = i.slot.generation;
      version = option_map arc_value i.version;
      standing = standing_of i.failed;
    } in
    let after : StoredMap g.row.D.Denot = record {
      disk = c.load_shared.new.slot.disk;
      generation = c.load_shared.new.slot.generation;
      version = option_map arc_value i.version;
      standing = standing_of i.failed;
    } in
    let cause = open_cause K inside after why (g.met.D.Disk.reads_image i.slot.disk)
    c.self.invariant.images c.in_err-version.ensures.loads (search rules) in
    rw (p.1, p.2) (subst (λ (k : StoredMap g.row.D.Denot). IsOpenCause K why k after) c.self.view_is cause)

pub returns-clause-standing : goal.returns-clause-standing
returns-clause-standing g c =
    let H = g.D.Disk.history in
    let i = c.self.inside in
    let m = c.match-branch-2.self-inside in
    let after = option_map arc_value m.version in
    let is : IsSettled (option_map arc_value i.version) (option_map arc_value c.in_ok-version.field-0) after =
    elim c.match-branch-2.branch [
      | in-Some+then-not-is_shown+in_ok-show+in-Some-1 w ↦ inl (search rules)
      | in-Some+then-not-is_shown+in_ok-show+in-None-1 w ↦ inl (search rules)
      | in-Some+else-not-is_shown w ↦ inl (search rules)
      | in_default w ↦ inr (search rules)
    ] in
    let same : m.slot ≡ c.load_shared.new.slot = elim c.match-branch-2.branch [
      | in-Some+then-not-is_shown+in_ok-show+in-Some-1 w ↦ search rules
      | in-Some+then-not-is_shown+in_ok-show+in-None-1 w ↦ search rules
      | in-Some+else-not-is_shown w ↦ search rules
      | in_default w ↦ search rules
    ] in
    let stood = settled (H i.slot.disk) (standing_of i.failed) (option_map arc_value i.version)
    (option_map arc_value c.in_ok-version.field-0) after (g.met.D.Disk.reads_image i.slot.disk)
    c.self.invariant.images
    c.in_ok-version.ensures.loads is in
    let end = level_after (H i.slot.disk) (H c.load_shared.new.slot.disk)
    after c.in_ok-version.ensures.synced c.in_ok-version.ensures.durable stood in
    let images = subst (λ (s : SlotModel g.row.D.Denot). (image : List ℕ) → MayLeave (H s.disk) image
    → stands image ≡ stands_for after) (sym same) end in
    images

pub invariant_of-self-2 : goal.invariant_of-self-2
invariant_of-self-2 g c =
    let H = g.D.Disk.history in
    let i = c.self.inside in
    let m = c.match-branch-2.self-inside in
    let after = option_map arc_value m.version in
    let is : IsSettled (option_map arc_value i.version) (option_map arc_value c.in_ok-version.field-0) after =
    elim c.match-branch-2.branch [
      | in-Some+then-not-is_shown+in_ok-show+in-Some-1 w ↦ inl (search rules)
      | in-Some+then-not-is_shown+in_ok-show+in-None-1 w ↦ inl (search rules)
      | in-Some+else-not-is_shown w ↦ inl (search rules)
      | in_default w ↦ inr (search rules)
    ] in
    let same : m.slot ≡ c.load_shared.new.slot = elim c.match-branch-2.branch [
      | in-Some+then-not-is_shown+in_ok-show+in-Some-1 w ↦ search rules
      | in-Some+then-not-is_shown+in_ok-show+in-None-1 w ↦ search rules
      | in-Some+else-not-is_shown w ↦ search rules
      | in_default w ↦ search rules
    ] in
    let stood = settled (H i.slot.disk) (standing_of i.failed) (option_map arc_value i.version)
    (option_map arc_value c.in_ok-version.field-0) after (g.met.D.Disk.reads_image i.slot.disk)
    c.self.invariant.images
    c.in_ok-version.ensures.loads is in
    let end = level_after (H i.slot.disk) (H c.load_shared.new.slot.disk)
    after c.in_ok-version.ensures.synced c.in_ok-version.ensures.durable stood in
    let images = subst (λ (s : SlotModel g.row.D.Denot). (image : List ℕ) → MayLeave (H s.disk) image
    → stands image ≡ stands_for after) (sym same) end in
    let ready = subst (λ (s : SlotModel g.row.D.Denot). is_ready s.stage ≡ true) (sym same) c.in_ok-version.ensures.ready in
    let numbered = subst (λ (s : SlotModel g.row.D.Denot). HasGeneration (H s.disk) s.generation)
    (sym same) c.in_ok-version.ensures.numbered in
    record { ready = λ level. ready; numbered = λ level. numbered; images = images }

pub returns-clause-stood : goal.returns-clause-stood
returns-clause-stood g c = λ behind.
    let H = g.D.Disk.history in
    let i = c.self.inside in
    let m = c.match-branch-2.self-inside in
    let after = option_map arc_value m.version in
    let is : IsSettled (option_map arc_value i.version) (option_map arc_value c.in_ok-version.field-0) after =
    elim c.match-branch-2.branch [
      | in-Some+then-not-is_shown+in_ok-show+in-Some-1 w ↦ inl (search rules)
      | in-Some+then-not-is_shown+in_ok-show+in-None-1 w ↦ inl (search rules)
      | in-Some+else-not-is_shown w ↦ inl (search rules)
      | in_default w ↦ inr (search rules)
    ] in
    let same : m.slot ≡ c.load_shared.new.slot = elim c.match-branch-2.branch [
      | in-Some+then-not-is_shown+in_ok-show+in-Some-1 w ↦ search rules
      | in-Some+then-not-is_shown+in_ok-show+in-None-1 w ↦ search rules
      | in-Some+else-not-is_shown w ↦ search rules
      | in_default w ↦ search rules
    ] in
    let stood = settled (H i.slot.disk) (standing_of i.failed) (option_map arc_value i.version)
    (option_map arc_value c.in_ok-version.field-0) after (g.met.D.Disk.reads_image i.slot.disk)
    c.self.invariant.images
    c.in_ok-version.ensures.loads is in
    let now : StoredMap g.row.D.Denot = record {
      disk = m.slot.disk;
      generation = m.slot.generation;
      version = after;
      standing = Level;
    } in
    let generation = subst (λ (s : SlotModel g.row.D.Denot). HasGeneration (H i.slot.disk) s.generation)
    (sym same) c.in_ok-version.ensures.generation in
    subst (λ (k : StoredMap g.row.D.Denot). IsWhatStood H k.disk now) c.self.view_is (record {
      version = stood;
      generation = generation;
    })
