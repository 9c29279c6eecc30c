-- What a build on the only map of a publisher does to its disk.
use Rattle.std.proofs.Common.{◌≡◌, ◌⊎◌, ◌≤◌, ◌+◌, inl, inr, ⊎_elim, ℕ, Bool, true, false, cond, List, [], ◌∷◌, ◌++◌, length, map, Option, Some, None, Result, Ok, Err, refl, sym, ap, ◌∙◌, subst, arith}
use Rattle.std.specs.Prelude.{IfSome, IfOk, IfErr, OnOk, IsTrue, nat_lt}
use Rattle.std.specs.List.{AllZip}
use Rattle.std.proofs.lemmas.Bool.Decides.{nat_tests}
use Rattle.std.proofs.lemmas.List.{length-append}
use Rattle.yp_io.specs.Counts.{HasRisen}
use Rattle.yp_io.specs.Texts.{text_max}
use Rattle.yp_io.specs.Disk.{History, LeavesOnly, MayLeave}
use Rattle.yp_io.specs.inside.DiskLaws.{stays, only_now, goes_on, splits, counts_now}
use Rattle.yp_version.specs.Versions.{MapVersion}
use Rattle.yp_map_file.specs.Commits.{generation_of, winning}
use Rattle.yp_map_file.specs.Stands.{Stands, file_max, stands}
use Rattle.yp_publisher.specs.Standing.{StoredMap, Level, OfMap, At, stands_for}
use Rattle.yp_publisher.specs.declared.open.OpenFault.{OpenFault}
use Rattle.yp_publisher.specs.declared.open.OpenFault.TheVariants as opening
use Rattle.yp_publisher.specs.Begins.{IsUnwritten, IsUnopened}
use Rattle.yp_publisher.specs.Opens.{IsOpened, DiskIsRefused, OpeningStopped}
use Rattle.yp_map_file.specs.declared.fault.SlotFault.{SlotFault}
use Rattle.yp_map_file.specs.declared.fault.SlotFault.TheVariants as slot
use Rattle.yp_map_file.specs.Loads.{Loads}
use Rattle.yp_map_file.specs.Stands as stood
use Rattle.yp_command_maps.specs.Disks.{DiskTells, only_tells}
use Rattle.yp_command_maps.specs.declared.build.Built.{Built}
use Rattle.yp_command_maps.specs.declared.build.BuildStop.{BuildStop}
use Rattle.yp_command_maps.specs.declared.build.BuildStop.TheVariants as stop
use Rattle.yp_command_maps.specs.Build.{Job, build_inputs, Unplanned, IsLong, IsDamaged, over, offered, with_generation}
use Rattle.yp_command_maps.specs.Build.{planned, StandsForPlan, IsBeforeOrPlanned, PlanIsStored, LeavesFew}
use Rattle.yp_command_maps.specs.inside.Build.{stop_of_open, plan_of, is_early, StopsBuild, IsBuiltAsPlanned}
use Rattle.yp_command_maps.specs.inside.Build.{IsShownOrPlanned, BuildsOn}

-- ---- options and results

err_more : {T E : Type 0} (r : Result T E) (P Q : E → Type 0) → ((e : E) → P e → Q e) → IfErr r P → IfErr r Q
err_more (Ok x) P Q f h = tt
err_more (Err e) P Q f h = f e h

ok_more : {T E : Type 0} (r : Result T E) (P Q : T → Type 0) → ((x : T) → P x → Q x) → IfOk r P → IfOk r Q
ok_more (Ok x) P Q f h = f x h
ok_more (Err e) P Q f h = tt

on_ok_more : {T E : Type 0} (r : Result T E) (P Q : Type 0) → (P → Q) → OnOk r P → OnOk r Q
on_ok_more (Ok x) P Q f h = f h
on_ok_more (Err e) P Q f h = tt

-- ---- the plan

over_is : (job : Job) (text : List ℕ) (now generation : ℕ) (version : Option MapVersion) → over job text now generation (stands_for version) ≡ with_generation generation (offered job text now version)
over_is job text now generation None = refl
over_is job text now generation (Some last) = refl

short : (text : List ℕ) (job : Job) (plan : Result MapVersion Unplanned) (long : Bool) → long ≡ false → cond long (Err IsLong) plan ≡ plan
short text job plan true e = absurd cc
short text job plan false e = refl

-- what is planned by the file is what is planned by what is shown
planned_is : {D : Type 0} (job : Job) (text : List ℕ) (now : ℕ) (kept : StoredMap D) (h : History) → length text ≤ text_max → stands h.state.reads ≡ stands_for kept.version
    → kept.generation ≡ generation_of (winning h.state.reads) → plan_of job text now kept ≡ planned job (build_inputs text now h)
planned_is job text now kept h few stood numbers =
    sym (short text job (over job text now (generation_of (winning h.state.reads)) (stands h.state.reads)) (nat_lt text_max (length text)) (grind (arith, nat_tests))
    ∙ ap (λ (s : Stands). over job text now (generation_of (winning h.state.reads)) s) stood
    ∙ over_is job text now (generation_of (winning h.state.reads)) kept.version
    ∙ ap (λ (n : ℕ). with_generation n (offered job text now kept.version)) (sym numbers))

-- where the history is told, the plan is that of the file
told_plan : {D : Type 0} (history : Option History) (job : Job) (text : List ℕ) (now : ℕ) (kept : StoredMap D) (P : History → Result MapVersion Unplanned → Type 0) → length text ≤ text_max
    → IfSome history (λ h. stands h.state.reads ≡ stands_for kept.version) → IfSome history (λ h. kept.generation ≡ generation_of (winning h.state.reads))
    → ((h : History) → stands h.state.reads ≡ stands_for kept.version → kept.generation ≡ generation_of (winning h.state.reads) → P h (plan_of job text now kept))
    → IfSome history (λ h. P h (planned job (build_inputs text now h)))
told_plan None job text now kept P few stood numbers f = tt
told_plan (Some h) job text now kept P few stood numbers f = subst (P h) (planned_is job text now kept h few stood numbers) (f h stood numbers)

-- ---- disks

-- one call after another
pub then : (old middle new : Option History) (P Q R : List ℕ → Type 0) → ((image : List ℕ) → P image → R image) → ((image : List ℕ) → Q image → R image)
    → LeavesOnly old middle P → LeavesOnly middle new Q → LeavesOnly old new R
then old middle new P Q R f g first second = record {
  goes_on = goes_on old middle new first.goes_on second.goes_on;
  each = λ image left. ⊎_elim (λ h. f image (first.each image h)) (λ h. g image (second.each image h)) (splits old middle new image first.goes_on second.goes_on left);
}

-- where nothing is done
pub nothing_left : (history : Option History) (P : List ℕ → Type 0) → ((image : List ℕ) → MayLeave history image → P image) → LeavesOnly history history P
nothing_left history P f = record { goes_on = stays history; each = λ image left. f image (only_now history image left) }

-- what a build on the only map of a publisher did to it
pub record Renews {D : Type 0} (history : D → Option History) (faults : D → ℕ) (job : Job) (text : List ℕ) (now : ℕ) (result : Result Built BuildStop) (old new : List (StoredMap D)) : Type 0 where
  pub built : IfOk result (λ made. OfMap 0 old (λ kept. IsBuiltAsPlanned (plan_of job text now kept) kept.generation made))
  pub stopped : IfErr result (λ why. OfMap 0 old (λ kept. StopsBuild (plan_of job text now kept) why))
  pub stored : OnOk result (At 0 old new (λ before after. (image : List ℕ) → MayLeave (history after.disk) image → StandsForPlan (plan_of job text now before) image))
  pub any_moment : At 0 old new (λ before after. LeavesOnly (history before.disk) (history after.disk) (IsShownOrPlanned (plan_of job text now before) before))
  pub few : At 0 old new (λ before after. LeavesFew (history before.disk) (history after.disk))
  pub early : IfErr result (λ why. IsTrue (is_early why) → new ≡ old)
  pub count : length new ≡ 1
  pub never_falls : At 0 old new (λ before after. faults before.disk ≤ faults after.disk)
  pub cause : IfErr result (λ why. why ≡ stop.Disk → At 0 old new (λ before after. HasRisen (faults before.disk) (faults after.disk)))

module _ {D : Type 0} (history : D → Option History) (faults : D → ℕ) (job : Job) (text : List ℕ) (now : ℕ) (short : length text ≤ text_max) (result : Result Built BuildStop) where
  module _ (disk : D) (before after : StoredMap D) (opened : IsOpened history faults disk before) (did : Renews history faults job text now result (before ∷ []) (after ∷ [])) where
    by_plan : (P : History → Result MapVersion Unplanned → Type 0) → ((h : History) → stands h.state.reads ≡ stands_for before.version → before.generation ≡ generation_of (winning h.state.reads) → P h (plan_of job text now before))
        → IfSome (history disk) (λ h. P h (planned job (build_inputs text now h)))
    by_plan P f = told_plan (history disk) job text now before P short opened.stood.version opened.stood.generation f

    moments : IfSome (history disk) (λ h. LeavesOnly (history disk) (history after.disk) (IsBeforeOrPlanned job (build_inputs text now h) (history disk)))
    moments =
        by_plan (λ h plan. LeavesOnly (history disk) (history after.disk) (λ image. MayLeave (history disk) image ⊎ ((stands image ≡ stands h.state.reads) ⊎ StandsForPlan plan image))) (λ h stood numbers.
        then (history disk) (history before.disk) (history after.disk) (MayLeave (history disk)) (IsShownOrPlanned (plan_of job text now before) before)
        (λ image. MayLeave (history disk) image ⊎ ((stands image ≡ stands h.state.reads) ⊎ StandsForPlan (plan_of job text now before) image))
        (λ image left. inl left) (λ image left. inr (⊎_elim (λ e. inl (e ∙ sym stood)) (λ p. inr p) left)) opened.moments did.any_moment)

    few_left : LeavesFew (history disk) (history after.disk)
    few_left =
        then (history disk) (history before.disk) (history after.disk) (MayLeave (history disk)) (λ image. MayLeave (history before.disk) image ⊎ (length image ≤ file_max))
        (λ image. MayLeave (history disk) image ⊎ (length image ≤ file_max)) (λ image left. inl left)
        (λ image left. ⊎_elim (λ now. inl (opened.moments.each image (counts_now (history disk) (history before.disk) image opened.moments.goes_on now))) (λ few. inr few) left) opened.moments did.few

    early_left : (why : BuildStop) → after ∷ [] ≡ before ∷ [] → LeavesOnly (history disk) (history after.disk) (MayLeave (history disk))
    early_left why same =
        let is : before ≡ after = cc in
        subst (λ (k : StoredMap D). LeavesOnly (history disk) (history k.disk) (MayLeave (history disk))) is opened.moments

    on_one : BuildsOn job text now result (only_tells history faults (disk ∷ [])) (only_tells history faults (after.disk ∷ []))
    on_one = record {
      built = ok_more result (λ made. IsBuiltAsPlanned (plan_of job text now before) before.generation made)
          (λ made. IfSome (history disk) (λ h. IsBuiltAsPlanned (planned job (build_inputs text now h)) (generation_of (winning h.state.reads)) made))
          (λ made is. by_plan (λ h plan. IsBuiltAsPlanned plan (generation_of (winning h.state.reads)) made) (λ h stood numbers. subst (λ (n : ℕ). IsBuiltAsPlanned (plan_of job text now before) n made) numbers is)) did.built;
      stopped = err_more result (λ why. StopsBuild (plan_of job text now before) why) (λ why. IfSome (history disk) (λ h. StopsBuild (planned job (build_inputs text now h)) why))
          (λ why is. by_plan (λ h plan. StopsBuild plan why) (λ h stood numbers. is)) did.stopped;
      stored = on_ok_more result ((image : List ℕ) → MayLeave (history after.disk) image → StandsForPlan (plan_of job text now before) image)
          (IfSome (history disk) (λ h. PlanIsStored job (build_inputs text now h) (history after.disk)))
          (λ is. by_plan (λ h plan. (image : List ℕ) → MayLeave (history after.disk) image → StandsForPlan plan image) (λ h stood numbers. is)) did.stored;
      any_moment = moments;
      few = few_left;
      early = err_more result (λ why. IsTrue (is_early why) → after ∷ [] ≡ before ∷ []) (λ why. IsTrue (is_early why) → LeavesOnly (history disk) (history after.disk) (MayLeave (history disk)))
          (λ why same early. early_left why (same early)) did.early;
      never_falls = omega (arith, opened.never_falls, did.never_falls);
      cause = err_more result (λ why. why ≡ stop.Disk → HasRisen (faults before.disk) (faults after.disk)) (λ why. why ≡ stop.Disk → HasRisen (faults disk + 0) (faults after.disk + 0))
          (λ why risen is. omega (arith, opened.never_falls, risen is)) did.cause;
    }

  pub over_only : (disks news : List D) (old new : List (StoredMap D)) → length disks ≡ 1 → AllZip (IsOpened history faults) disks old → news ≡ map (λ (kept : StoredMap D). kept.disk) new
      → Renews history faults job text now result old new
      → BuildsOn job text now result (only_tells history faults disks) (only_tells history faults news)
  over_only [] news old new one opened same did = absurd (omega (arith, one))
  over_only (disk ∷ another ∷ more) news old new one opened same did = absurd (omega (arith, one))
  over_only (disk ∷ []) news [] new one opened same did = absurd opened
  over_only (disk ∷ []) news (before ∷ more) [] one opened same did = absurd (omega (arith, did.count))
  over_only (disk ∷ []) news (before ∷ more) (after ∷ another ∷ rest) one opened same did = absurd (omega (arith, did.count))
  over_only (disk ∷ []) news (before ∷ other ∷ more) (after ∷ []) one opened same did = absurd opened.1
  over_only (disk ∷ []) news (before ∷ []) (after ∷ []) one opened same did = rw same (on_one disk before after opened.0 did)

pub all_told : {A : Type 0} (o : Option A) (P : A → Type 0) → ((x : A) → P x) → IfSome o P
all_told None P f = tt
all_told (Some x) P f = f x

-- where nothing was done since memory ran out
pub forgone : (job : Job) (text : List ℕ) (now : ℕ) (old : DiskTells) → BuildsOn job text now (Err stop.NoMemory) old old
forgone job text now old = record {
  built = tt;
  stopped = all_told old.history _ (λ h. tt);
  stored = tt;
  any_moment = all_told old.history (λ h. LeavesOnly old.history old.history (IsBeforeOrPlanned job (build_inputs text now h) old.history)) (λ h. nothing_left old.history _ (λ image left. inl left));
  few = nothing_left old.history _ (λ image left. inl left);
  early = λ early. absurd cc;
  never_falls = omega arith;
  cause = λ is. absurd (let no : stop.NoMemory ≡ stop.Disk = is in cc);
}

-- the same of equal disks
pub same_disks : {D : Type 0} (history : D → Option History) (faults : D → ℕ) (job : Job) (text : List ℕ) (now : ℕ) (result : Result Built BuildStop) (old olds new news : List D) → olds ≡ old → news ≡ new
    → BuildsOn job text now result (only_tells history faults olds) (only_tells history faults new)
    → BuildsOn job text now result (only_tells history faults old) (only_tells history faults news)
same_disks history faults job text now result old olds new news first second h = rw (sym first, second) h

-- ---- where no publisher was opened

-- the only disk is the one that was refused
pub by_front : {D : Type 0} (history : D → Option History) (faults : D → ℕ) (front : List D) (opened : List (StoredMap D)) (b a : D) (rest : List D) (before after : D) (P : D → D → Type 0)
    → before ∷ [] ≡ front ++ b ∷ rest
    → after ∷ [] ≡ map (λ (kept : StoredMap D). kept.disk) opened ++ a ∷ rest → AllZip (IsOpened history faults) front opened → P b a → P before after
by_front {D} history faults [] [] b a rest before after P first last each h =
    let one : b ≡ before = cc in
    let two : a ≡ after = cc in
    subst (λ (d : D). P d after) one (subst (λ (d : D). P b d) two h)
by_front history faults [] (kept ∷ opened) b a rest before after P first last each h = absurd each
by_front history faults (disk ∷ front) opened b a rest before after P first last each h =
    absurd (omega (arith, ap length first, length-append front (b ∷ rest)))

stops_at : (job : Job) (text : List ℕ) (now : ℕ) (short : length text ≤ text_max) (h : History) (at rule : ℕ) → stands h.state.reads ≡ stood.Damaged at rule → planned job (build_inputs text now h) ≡ Err (IsDamaged at rule)
stops_at job text now few h at rule damaged =
    short text job (over job text now (generation_of (winning h.state.reads)) (stands h.state.reads)) (nat_lt text_max (length text)) (grind (arith, nat_tests))
    ∙ ap (λ (s : Stands). over job text now (generation_of (winning h.state.reads)) s) damaged

module _ {D : Type 0} (history : D → Option History) (faults : D → ℕ) (job : Job) (text : List ℕ) (now : ℕ) (few : length text ≤ text_max) where
  unwritten_only : (why : BuildStop) (before after : D) → IsUnwritten history faults before after
      → IfSome (history before) (λ h. StopsBuild (planned job (build_inputs text now h)) why) → (why ≡ stop.Disk → HasRisen (faults before) (faults after))
      → BuildsOn job text now (Err why) (only_tells history faults (before ∷ [])) (only_tells history faults (after ∷ []))
  unwritten_only why before after kept stopped cause = record {
    built = tt;
    stopped = stopped;
    stored = tt;
    any_moment = all_told (history before) (λ h. LeavesOnly (history before) (history after) (IsBeforeOrPlanned job (build_inputs text now h) (history before)))
        (λ h. record { goes_on = kept.moments.goes_on; each = λ image left. inl (kept.moments.each image left) });
    few = record { goes_on = kept.moments.goes_on; each = λ image left. inl (kept.moments.each image left) };
    early = λ early. kept.moments;
    never_falls = omega (arith, kept.never_falls);
    cause = λ is. omega (arith, cause is);
  }

  damaged_told : (told : Option History) (fault : SlotFault) → IfSome told (λ h. Loads (stands h.state.reads) (Err fault)) → IfSome told (λ h. StopsBuild (planned job (build_inputs text now h)) (stop_of_open (opening.Refused 0 fault)))
  damaged_told None fault h = tt
  damaged_told (Some told) (slot.Damaged at rule) h = stops_at job text now few told at rule h
  damaged_told (Some told) slot.DiskFault h = tt
  damaged_told (Some told) slot.NoMemory h = tt

  disk_cause : (fault : SlotFault) → stop_of_open (opening.Refused 0 fault) ≡ stop.Disk → fault ≡ slot.DiskFault
  disk_cause (slot.Damaged at rule) e = absurd (let no : stop.Damaged at rule ≡ stop.Disk = e in cc)
  disk_cause slot.DiskFault e = refl
  disk_cause slot.NoMemory e = absurd (let no : stop.NoMemory ≡ stop.Disk = e in cc)

  same_stop : (number : ℕ) (fault : SlotFault) → stop_of_open (opening.Refused 0 fault) ≡ stop_of_open (opening.Refused number fault)
  same_stop number (slot.Damaged at rule) = refl
  same_stop number slot.DiskFault = refl
  same_stop number slot.NoMemory = refl

  refused_one : (number : ℕ) (fault : SlotFault) (before after : D) → IsUnwritten history faults before after → OpeningStopped history faults (before ∷ []) (after ∷ []) number fault
      → BuildsOn job text now (Err (stop_of_open (opening.Refused number fault))) (only_tells history faults (before ∷ [])) (only_tells history faults (after ∷ []))
  refused_one number fault before after kept stopped =
      let refused = by_front history faults stopped.front stopped.opened stopped.before stopped.after stopped.rest before after (λ b a. DiskIsRefused history faults b a fault) stopped.old_is stopped.new_is stopped.each stopped.refused in
      subst (λ (why : BuildStop). BuildsOn job text now (Err why) (only_tells history faults (before ∷ [])) (only_tells history faults (after ∷ []))) (same_stop number fault)
      (unwritten_only (stop_of_open (opening.Refused 0 fault)) before after kept (damaged_told (history before) fault refused.cause) (λ e. refused.disk_fault (disk_cause fault e)))

  by_fault : (fault : OpenFault) (before after : D) → IsUnwritten history faults before after → IsUnopened history faults fault (before ∷ []) (after ∷ [])
      → BuildsOn job text now (Err (stop_of_open fault)) (only_tells history faults (before ∷ [])) (only_tells history faults (after ∷ []))
  by_fault (opening.Refused number fault) before after kept why = refused_one number fault before after kept why.1
  by_fault opening.NoMemory before after kept why =
      unwritten_only stop.NoMemory before after kept (all_told (history before) _ (λ h. tt)) (λ e. absurd (let no : stop.NoMemory ≡ stop.Disk = e in cc))

  pub refused_only : (fault : OpenFault) (disks news : List D) → length disks ≡ 1 → AllZip (IsUnwritten history faults) disks news → IsUnopened history faults fault disks news
      → BuildsOn job text now (Err (stop_of_open fault)) (only_tells history faults disks) (only_tells history faults news)
  refused_only fault [] news one all why = absurd (omega (arith, one))
  refused_only fault (disk ∷ another ∷ more) news one all why = absurd (omega (arith, one))
  refused_only fault (disk ∷ []) [] one all why = absurd all
  refused_only fault (disk ∷ []) (after ∷ other ∷ more) one all why = absurd all.1
  refused_only fault (disk ∷ []) (after ∷ []) one all why = by_fault fault disk after all.0 why

  pub level_only : (disks : List D) (maps : List (StoredMap D)) → AllZip (IsOpened history faults) disks maps → OfMap 0 maps (λ kept. kept.standing ≡ Level)
  level_only [] [] all = tt
  level_only [] (kept ∷ maps) all = absurd all
  level_only (disk ∷ disks) [] all = absurd all
  level_only (disk ∷ disks) (kept ∷ maps) all = all.0.level

-- as many after as before
pub zip_one : {A B : Type 0} (R : A → B → Type 0) (xs : List A) (ys : List B) → length xs ≡ 1 → AllZip R xs ys → length ys ≡ 1
zip_one R [] ys one all = absurd (omega (arith, one))
zip_one R (x ∷ another ∷ more) ys one all = absurd (omega (arith, one))
zip_one R (x ∷ []) [] one all = absurd all
zip_one R (x ∷ []) (y ∷ []) one all = refl
zip_one R (x ∷ []) (y ∷ other ∷ ys) one all = absurd all.1
