-- What a build does to an office, by what was read, built and told.
use Rattle.std.proofs.Common.{◌≡◌, ◌⊎◌, inl, inr, ℕ, ◌+◌, ◌<◌, Bool, true, false, cond, List, ◌++◌, length, Option, Some, None, Result, Ok, Err, refl, sym, ap, ◌∙◌, subst, arith}
use Rattle.std.specs.Prelude.{IfSome, IfOk, IfErr, OnOk, IsTrue, nat_lt}
use Rattle.std.proofs.lemmas.List.{length-append}
use Rattle.std.proofs.lemmas.Bool.Decides.{nat_tests}
use Rattle.std.specs.Io.KnownBytes.{Consumes}
use Rattle.yp_io.specs.Counts.{HasRisen}
use Rattle.yp_io.specs.Disk.{History, LeavesOnly, MayLeave}
use Rattle.yp_io.specs.inside.DiskLaws.{stays, only_now}
use Rattle.yp_io.specs.Texts.{text_max}
use Rattle.yp_version.specs.Versions.{MapVersion}
use Rattle.yp_map_file.specs.Commits.{generation_of, winning}
use Rattle.yp_map_file.specs.Stands.{stands}
use Rattle.yp_board.specs.declared.catalog.MapName.{MapName}
use Rattle.yp_board.specs.Catalogues.{name_view}
use Rattle.yp_texts.specs.declared.fault.BuildFault.{BuildFault}
use Rattle.yp_texts.specs.declared.fault.BuildFault.TheVariants as fault
use Rattle.yp_command.specs.declared.office.office.Office.{Office}
use Rattle.yp_command.specs.declared.office.status.Status.{Status}
use Rattle.yp_command.specs.declared.office.status.Status.TheVariants.{Done, ReadFault, WriteFault, TooLong, NoMemory, Damaged, DiskFault, Rows, OrderSpent, Refused, GenerationsSpent}
use Rattle.yp_command.specs.office.Disks.{names_of}
use Rattle.yp_command.specs.office.Seeing.{Seeing, input, output, history, moment, ReadFails, WriteFails, DiskFails, HasCauses}
use Rattle.yp_command_maps.specs.declared.build.Built.{Built}
use Rattle.yp_command_maps.specs.declared.build.BuildStop.{BuildStop}
use Rattle.yp_command_maps.specs.declared.build.BuildStop.TheVariants as stop
use Rattle.yp_io.specs.declared.whole.Unread.{Unread}
use Rattle.yp_io.specs.declared.whole.Unread.TheVariants as unread
use Rattle.yp_io.specs.inside.Streams.{ReadingStopped}
use Rattle.yp_command_maps.specs.Disks.{disk_tells}
use Rattle.yp_command_maps.specs.Build.{Job, BuildInputs, build_inputs, Unplanned, IsLong, planned, over, Builds}
use Rattle.yp_command_maps.specs.Build.{JobDoes, AtBuildInputs, TellsLine, fault_status, tells_stored, may_have_written}
use Rattle.yp_command_maps.specs.Build.{PlanIsStored, IsBeforeOrPlanned, LeavesFew, build_line}
use Rattle.yp_command_maps.specs.inside.Build.{BuildsOn, IsBuildEnd, IsStatusOfStop, unread_status, is_early}
use Rattle.yp_command_maps.proofs.Telling.{at_site, at_more, end_told, built_whole}

-- ---- a status by what stopped the build

fault_not_stored : (why : BuildFault) → IsTrue (tells_stored (fault_status why)) → ⊥
fault_not_stored fault.OrderSpent told_it = absurd cc
fault_not_stored fault.NoMemory told_it = absurd cc
fault_not_stored (fault.KeyLong line) told_it = absurd cc
fault_not_stored (fault.ValueLong line) told_it = absurd cc
fault_not_stored (fault.TooManyRows line) told_it = absurd cc
fault_not_stored (fault.TooBig line) told_it = absurd cc

not_stored : (store : MapName) (why : BuildStop) (status : Status) → IsStatusOfStop store why status → IsTrue (tells_stored status) → ⊥
not_stored store (stop.Damaged at rule) status is told_it = let wrong : IsTrue (tells_stored (Damaged store at rule)) = subst (λ (s : Status). IsTrue (tells_stored s)) is told_it in absurd cc
not_stored store (stop.Master master) status is told_it = let wrong : IsTrue (tells_stored (Refused master)) = subst (λ (s : Status). IsTrue (tells_stored s)) is told_it in absurd cc
not_stored store (stop.Fault why) status is told_it = fault_not_stored why (subst (λ (s : Status). IsTrue (tells_stored s)) is told_it)
not_stored store stop.Spent status is told_it = let wrong : IsTrue (tells_stored (GenerationsSpent store)) = subst (λ (s : Status). IsTrue (tells_stored s)) is told_it in absurd cc
not_stored store stop.Disk status is told_it = let wrong : IsTrue (tells_stored (DiskFault store)) = subst (λ (s : Status). IsTrue (tells_stored s)) is told_it in absurd cc
not_stored store stop.NoMemory status is told_it = let wrong : IsTrue (tells_stored NoMemory) = subst (λ (s : Status). IsTrue (tells_stored s)) is told_it in absurd cc

was_early : (store : MapName) (why : BuildStop) (status : Status) → IsStatusOfStop store why status → may_have_written status ≡ false → IsTrue (is_early why)
was_early store (stop.Damaged at rule) status is mild = refl
was_early store (stop.Master master) status is mild = refl
was_early store (stop.Fault why) status is mild = refl
was_early store stop.Spent status is mild = refl
was_early store stop.Disk status is mild = absurd (let told_it : true ≡ false = subst (λ (s : Status). may_have_written s ≡ false) is mild in cc)
was_early store stop.NoMemory status is mild = absurd (let told_it : true ≡ false = subst (λ (s : Status). may_have_written s ≡ false) is mild in cc)

fault_no_disk : (why : BuildFault) (map : MapName) → fault_status why ≡ DiskFault map → ⊥
fault_no_disk fault.OrderSpent map e = cc
fault_no_disk fault.NoMemory map e = cc
fault_no_disk (fault.KeyLong line) map e = cc
fault_no_disk (fault.ValueLong line) map e = cc
fault_no_disk (fault.TooManyRows line) map e = cc
fault_no_disk (fault.TooBig line) map e = cc

fault_no_read : (why : BuildFault) → fault_status why ≡ ReadFault → ⊥
fault_no_read fault.OrderSpent e = cc
fault_no_read fault.NoMemory e = cc
fault_no_read (fault.KeyLong line) e = cc
fault_no_read (fault.ValueLong line) e = cc
fault_no_read (fault.TooManyRows line) e = cc
fault_no_read (fault.TooBig line) e = cc

was_disk : (store : MapName) (why : BuildStop) (status : Status) (map : MapName) → IsStatusOfStop store why status → status ≡ DiskFault map → why ≡ stop.Disk
was_disk store (stop.Damaged at rule) status map is e = absurd (let wrong : Damaged store at rule ≡ DiskFault map = sym is ∙ e in cc)
was_disk store (stop.Master master) status map is e = absurd (let wrong : Refused master ≡ DiskFault map = sym is ∙ e in cc)
was_disk store (stop.Fault why) status map is e = absurd (fault_no_disk why map (sym is ∙ e))
was_disk store stop.Spent status map is e = absurd (let wrong : GenerationsSpent store ≡ DiskFault map = sym is ∙ e in cc)
was_disk store stop.Disk status map is e = refl
was_disk store stop.NoMemory status map is e = absurd (let wrong : NoMemory ≡ DiskFault map = sym is ∙ e in cc)

no_read : (store : MapName) (why : BuildStop) (status : Status) → IsStatusOfStop store why status → status ≡ ReadFault → ⊥
no_read store (stop.Damaged at rule) status is e = let wrong : Damaged store at rule ≡ ReadFault = sym is ∙ e in cc
no_read store (stop.Master master) status is e = let wrong : Refused master ≡ ReadFault = sym is ∙ e in cc
no_read store (stop.Fault why) status is e = fault_no_read why (sym is ∙ e)
no_read store stop.Spent status is e = let wrong : GenerationsSpent store ≡ ReadFault = sym is ∙ e in cc
no_read store stop.Disk status is e = let wrong : DiskFault store ≡ ReadFault = sym is ∙ e in cc
no_read store stop.NoMemory status is e = let wrong : NoMemory ≡ ReadFault = sym is ∙ e in cc

-- ---- and of a line that was told

pub line_written : (text : List ℕ) (status : Status) (before after : Option (List ℕ)) → TellsLine text status before after → may_have_written status ≡ false → ⊥
line_written text Done before after told mild = cc
line_written text WriteFault before after told mild = cc
line_written text _ before after told mild = told

pub line_no_disk : (text : List ℕ) (status : Status) (before after : Option (List ℕ)) (map : MapName) → TellsLine text status before after → status ≡ DiskFault map → ⊥
line_no_disk text Done before after map told e = cc
line_no_disk text WriteFault before after map told e = cc
line_no_disk text _ before after map told e = told

line_no_read : (text : List ℕ) (status : Status) (before after : Option (List ℕ)) → TellsLine text status before after → status ≡ ReadFault → ⊥
line_no_read text Done before after told e = cc
line_no_read text WriteFault before after told e = cc
line_no_read text _ before after told e = told

-- ---- both

module _ (store : MapName) where
  end_early : (result : Result Built BuildStop) (status : Status) (before after : Option (List ℕ)) (P : Type 0) → IsBuildEnd store result status before after → may_have_written status ≡ false
      → IfErr result (λ why. IsTrue (is_early why) → P) → P
  end_early (Ok made) status before after P end mild h = absurd (line_written (build_line (name_view store) made.order made.rows made.generation) status before after end mild)
  end_early (Err why) status before after P end mild h = h (was_early store why status end.0 mild)

  end_disk : (result : Result Built BuildStop) (status : Status) (before after : Option (List ℕ)) (map : MapName) (P : Type 0) → IsBuildEnd store result status before after → status ≡ DiskFault map
      → IfErr result (λ why. why ≡ stop.Disk → P) → P
  end_disk (Ok made) status before after map P end e h = absurd (line_no_disk (build_line (name_view store) made.order made.rows made.generation) status before after map end e)
  end_disk (Err why) status before after map P end e h = h (was_disk store why status map end.0 e)

  end_read : (result : Result Built BuildStop) (status : Status) (before after : Option (List ℕ)) → IsBuildEnd store result status before after → status ≡ ReadFault → ⊥
  end_read (Ok made) status before after end e = line_no_read (build_line (name_view store) made.order made.rows made.generation) status before after end e
  end_read (Err why) status before after end e = no_read store why status end.0 e

all_told : {A : Type 0} (o : Option A) (P : A → Type 0) → ((x : A) → P x) → IfSome o P
all_told None P f = tt
all_told (Some x) P f = f x

some_more : {A : Type 0} (o : Option A) (P Q : A → Type 0) → ((x : A) → P x → Q x) → IfSome o P → IfSome o Q
some_more None P Q f h = tt
some_more (Some x) P Q f h = f x h

stored_when : (store : MapName) (result : Result Built BuildStop) (status : Status) (before after : Option (List ℕ)) (told : Option History) (P : History → Type 0) → IsBuildEnd store result status before after
    → OnOk result (IfSome told P) → IfSome told (λ h. IsTrue (tells_stored status) → P h)
stored_when store (Ok made) status before after told P end h = some_more told P (λ h. IsTrue (tells_stored status) → P h) (λ x p told_it. p) h
stored_when store (Err why) status before after told P end h = all_told told (λ h. IsTrue (tells_stored status) → P h) (λ x told_it. absurd (not_stored store why status end.0 told_it))

-- what was read, built and told
pub record Ended {S K D C A I T : Type 0} (seen : Seeing S K D C A I T) (job : Job) (store : MapName) (text : List ℕ) (now : ℕ) (result : Result Built BuildStop) (status : Status) (old new : Office S K D C A I T) : Type 0 where
  pub named : name_view store ≡ job.store
  pub read : IfSome (input seen old) (λ bytes. bytes ≡ text)
  pub clock : IfSome (moment seen old) (λ told. now ≡ told)
  pub builds : BuildsOn job text now result (disk_tells seen old) (disk_tells seen new)
  pub ends : IsBuildEnd store result status (output seen old) (output seen new)
  pub write_fault : status ≡ WriteFault → WriteFails seen old new
  pub names : names_of new.disks.items ≡ names_of old.disks.items
  pub told : moment seen new ≡ moment seen old
  pub stays : new ≡ record old { wire = new.wire; disks = new.disks; clock = new.clock }

pub build_does : {S K D C A I T : Type 0} (seen : Seeing S K D C A I T) (job : Job) (store : MapName) (text : List ℕ) (now : ℕ) (result : Result Built BuildStop) (status : Status) (old new : Office S K D C A I T)
    → Ended seen job store text now result status old new → JobDoes seen job status old new
build_does seen job store text now result status old new did =
    let h = history seen old in
    let at : (P : BuildInputs → Type 0) → IfSome h (λ told. P (build_inputs text now told)) → AtBuildInputs seen old P =
    λ P is. at_site (input seen old) h (moment seen old) text now P did.read did.clock is in
    let before = output seen old in
    let after = output seen new in
    let tells : AtBuildInputs seen old (λ inputs. Builds job inputs status before after) =
    at (λ inputs. Builds job inputs status before after) (end_told h job text now store result status before after did.named did.ends did.builds.built did.builds.stopped) in
    let disk : (map : MapName) → status ≡ DiskFault map → DiskFails seen old new =
    λ map e. end_disk store result status before after map (DiskFails seen old new) did.ends e did.builds.cause in
    let read : status ≡ ReadFault → ⊥ = λ e. end_read store result status before after did.ends e in
    record {
      tells = tells;
      stored = at (λ inputs. IsTrue (tells_stored status) → PlanIsStored job inputs (history seen new))
          (stored_when store result status before after h (λ told. PlanIsStored job (build_inputs text now told) (history seen new)) did.ends did.builds.stored);
      any_moment = at (λ inputs. LeavesOnly h (history seen new) (IsBeforeOrPlanned job inputs h)) did.builds.any_moment;
      few = did.builds.few;
      early = λ mild. end_early store result status before after (LeavesOnly h (history seen new) (MayLeave h)) did.ends mild did.builds.early;
      complete = λ version. at_more (input seen old) h (moment seen old) (λ inputs. Builds job inputs status before after)
          (λ inputs. planned job inputs ≡ Ok version → (ReadFails seen old new → ⊥) → (DiskFails seen old new → ⊥) → (WriteFails seen old new → ⊥) → (status ≡ Done) ⊎ (status ≡ NoMemory))
          (λ inputs is plan reads disks writes. built_whole job inputs version status before after is plan read (λ e. writes (did.write_fault e)) (λ map e. disks (disk map e))) tells;
      causes = record { read_fault = λ e. absurd (read e); write_fault = did.write_fault; disk_fault = disk };
      names = did.names;
      told = did.told;
      stays = did.stays;
    }

-- ---- where the text wasn't read

long_plan : (job : Job) (inputs : BuildInputs) (rest : Result MapVersion Unplanned) (long : Bool) → long ≡ true → cond long (Err IsLong) rest ≡ Err IsLong
long_plan job inputs rest true e = refl
long_plan job inputs rest false e = absurd cc

too_long : (job : Job) (bytes : List ℕ) (left : Option (List ℕ)) (piece : List ℕ) (now : ℕ) (h : History) → Consumes (Some bytes) left piece → text_max < 0 + length piece
    → planned job (build_inputs bytes now h) ≡ Err IsLong
too_long job bytes None piece now h taken long = absurd taken
too_long job bytes (Some rest) piece now h taken long =
    long_plan job (build_inputs bytes now h) (over job bytes now (generation_of (winning h.state.reads)) (stands h.state.reads)) (nat_lt text_max (length bytes))
    (let longer : text_max < length bytes = omega (arith, long, ap length taken, length-append piece rest) in grind (arith, nat_tests))

unread_built : (job : Job) (why : Unread) (bytes : List ℕ) (left : Option (List ℕ)) (now : ℕ) (h : History) (before : Option (List ℕ)) → ReadingStopped text_max (Some bytes) left 0 why
    → Builds job (build_inputs bytes now h) (unread_status why) before before
unread_built job unread.Failed bytes left now h before stopped = refl
unread_built job unread.NoMemory bytes left now h before stopped = refl
unread_built job unread.TooLong bytes left now h before stopped = (too_long job bytes left stopped.piece now h stopped.taken (stopped.over refl), refl, refl)

at_unread : (job : Job) (why : Unread) (told left : Option (List ℕ)) (old : Option History) (clock : Option ℕ) (before : Option (List ℕ)) → ReadingStopped text_max told left 0 why
    → IfSome told (λ bytes. IfSome old (λ h. IfSome clock (λ now. Builds job (build_inputs bytes now h) (unread_status why) before before)))
at_unread job why None left old clock before stopped = tt
at_unread job why (Some bytes) left old clock before stopped = all_told old _ (λ h. all_told clock _ (λ now. unread_built job why bytes left now h before stopped))

unread_not_stored : (why : Unread) → IsTrue (tells_stored (unread_status why)) → ⊥
unread_not_stored unread.Failed told_it = absurd cc
unread_not_stored unread.NoMemory told_it = absurd cc
unread_not_stored unread.TooLong told_it = absurd cc

unread_not_write : (why : Unread) → unread_status why ≡ WriteFault → ⊥
unread_not_write unread.Failed e = cc
unread_not_write unread.NoMemory e = cc
unread_not_write unread.TooLong e = cc

unread_not_disk : (why : Unread) (map : MapName) → unread_status why ≡ DiskFault map → ⊥
unread_not_disk unread.Failed map e = cc
unread_not_disk unread.NoMemory map e = cc
unread_not_disk unread.TooLong map e = cc

unread_cause : (why : Unread) → unread_status why ≡ ReadFault → why ≡ unread.Failed
unread_cause unread.Failed e = refl
unread_cause unread.NoMemory e = absurd (let wrong : NoMemory ≡ ReadFault = e in cc)
unread_cause unread.TooLong e = absurd (let wrong : TooLong text_max ≡ ReadFault = e in cc)

left_alone : (told : Option History) (P : List ℕ → Type 0) → ((image : List ℕ) → MayLeave told image → P image) → LeavesOnly told told P
left_alone told P f = record { goes_on = stays told; each = λ image left. f image (only_now told image left) }

pub unread_does : {S K D C A I T : Type 0} (seen : Seeing S K D C A I T) (job : Job) (why : Unread) (source : S) (old : Office S K D C A I T)
    → ReadingStopped text_max (input seen old) (seen.source.input source) 0 why → (why ≡ unread.Failed → HasRisen (seen.source.faults old.wire.source) (seen.source.faults source))
    → JobDoes seen job (unread_status why) old (record old { wire = record old.wire { source = source } })
unread_does {S} {K} {D} {C} {A} {I} {T} seen job why source old stopped cause =
    let new : Office S K D C A I T = record old { wire = record old.wire { source = source } } in
    let h = history seen old in
    let output = output seen old in
    let tells : AtBuildInputs seen old (λ inputs. Builds job inputs (unread_status why) output output) = at_unread job why (input seen old) (seen.source.input source) h (moment seen old) output stopped in
    record {
      tells = tells;
      stored = all_told (input seen old) _ (λ bytes. all_told h _ (λ told. all_told (moment seen old) _ (λ now told_it. absurd (unread_not_stored why told_it))));
      any_moment = all_told (input seen old) _ (λ bytes. all_told h _ (λ told. all_told (moment seen old) _ (λ now. left_alone h _ (λ image left. inl left))));
      few = left_alone h _ (λ image left. inl left);
      early = λ mild. left_alone h (MayLeave h) (λ image left. left);
      complete = λ version. at_more (input seen old) h (moment seen old) (λ inputs. Builds job inputs (unread_status why) output output)
          (λ inputs. planned job inputs ≡ Ok version → (ReadFails seen old new → ⊥) → (DiskFails seen old new → ⊥) → (WriteFails seen old new → ⊥) → (unread_status why ≡ Done) ⊎ (unread_status why ≡ NoMemory))
          (λ inputs is plan reads disks writes. built_whole job inputs version (unread_status why) output output is plan
          (λ e. reads (cause (unread_cause why e))) (λ e. absurd (unread_not_write why e)) (λ map e. absurd (unread_not_disk why map e))) tells;
      causes = record { read_fault = λ e. cause (unread_cause why e); write_fault = λ e. absurd (unread_not_write why e); disk_fault = λ map e. absurd (unread_not_disk why map e) };
      names = refl;
      told = refl;
      stays = refl;
    }
