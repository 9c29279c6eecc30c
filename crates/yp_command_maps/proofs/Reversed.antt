-- What `revnet` does to an office, by what was done to its disks and told.
use Rattle.std.proofs.Common.{◌≡◌, ◌⊎◌, inl, inr, ℕ, ◌+◌, ◌<◌, true, false, List, [], ◌∷◌, ◌++◌, length, Option, Some, None}
use Rattle.std.proofs.Common.{Result, Ok, Err, refl, sym, ap, ◌∙◌, subst, arith}
use Rattle.std.specs.Prelude.{IfSome, IfErr, OnOk, IsTrue}
use Rattle.std.specs.Io.KnownBytes.{Appends}
use Rattle.yp_io.specs.Counts.{HasRisen}
use Rattle.yp_io.specs.Disk.{History, LeavesOnly, MayLeave}
use Rattle.yp_io.specs.Streams.{AppendsFront}
use Rattle.yp_version.specs.Versions.{MapVersion}
use Rattle.yp_netgroup.specs.reverse.Refused.{RefusesRow}
use Rattle.yp_version.specs.Drafts.{empty_draft}
use Rattle.yp_map_file.specs.Commits.{generation_of, winning}
use Rattle.yp_map_file.specs.Stands.{Stands, Stored, stands}
use Rattle.yp_map_file.specs.Stands as stood
use Rattle.yp_board.specs.Catalogues.{Name, name_view}
use Rattle.yp_board.specs.declared.catalog.MapName.{MapName}
use Rattle.yp_texts.specs.Builds.{order_after}
use Rattle.yp_texts.specs.After.{other_master, last_order}
use Rattle.yp_publisher.specs.Standing.{stands_for}
use Rattle.yp_command.specs.declared.office.office.Office.{Office}
use Rattle.yp_command.specs.declared.office.status.Status.{Status}
use Rattle.yp_command.specs.declared.office.status.Status.TheVariants.{Done, ReadFault, WriteFault, NoMemory, Damaged, NoVersion}
use Rattle.yp_command.specs.declared.office.status.Status.TheVariants.{DiskFault, Rows, OrderSpent, Refused, GenerationsSpent}
use Rattle.yp_command.specs.office.Disks.{names_of, faults_at}
use Rattle.yp_command.specs.office.Seeing.{Seeing, output, moment, WriteFails, DiskFails}
use Rattle.yp_command_maps.specs.declared.build.Built.{Built}
use Rattle.yp_command_maps.specs.Build.{build_line, TellsLine, tells_stored, may_have_written}
use Rattle.yp_command_maps.specs.Revnet.{Job, job_of, RevnetInputs, revnet_inputs, HasNextOrder, FileVersions, AreFileVersions, ReverseIsPlanned, ReverseIsHindered}
use Rattle.yp_command_maps.specs.Revnet.{CanReverse, StopsRevnet, is_stop}
use Rattle.yp_command_maps.specs.Revnet.{revnet_may_end, OfMade, StandsForVersion, line_of, Reverses, AtFiles}
use Rattle.yp_command_maps.specs.Revnet.{IsBeforeOrMade}
use Rattle.yp_command_maps.specs.inside.Revnet.{Ends, two_tell, Renews}
use Rattle.yp_command_maps.specs.Revnet.{OwnDiskFails}
use Rattle.yp_command_maps.specs.Revnet.{store_history, netgroup_history, AtRevnetInputs, RevnetDoes}
use Rattle.yp_command_maps.specs.inside.Revnet.{IsToldEnd}
use Rattle.yp_command_maps.proofs.OnDisk.{nothing_left}
use Rattle.yp_command_maps.proofs.Ending.{line_written, line_no_disk}
use Rattle.yp_command_maps.proofs.Reversing.{at_each, at_all, unread}

-- ---- what is told

stop_told : (job : Job) (inputs : RevnetInputs) (made : Option MapVersion) (status : Status) (before : Option (List ℕ))
    → StopsRevnet job inputs status → Reverses job inputs made status before before
stop_told job inputs made Done before stops = absurd stops
stop_told job inputs made WriteFault before stops = absurd stops
stop_told job inputs made _ before stops = (stops, refl)

line_is : (job : Job) (inputs : RevnetInputs) (store : Name) (version : MapVersion) (built : Built) → store ≡ job.store
    → built ≡ record {
      order = version.order;
      rows = length version.rows;
      generation = generation_of (winning inputs.file) + 1;
    } → build_line store built.order built.rows built.generation ≡ line_of job inputs version
line_is job inputs store version built named is =
    ap (λ (n : Name). build_line n built.order built.rows built.generation) named
    ∙ ap (λ (b : Built). build_line job.store b.order b.rows b.generation) is

line_told : (job : Job) (inputs : RevnetInputs) (store : Name) (made : Option MapVersion) (built : Built) (status : Status)
    (before after : Option (List ℕ)) → store ≡ job.store → Ends job inputs made (Ok built)
    → TellsLine (build_line store built.order built.rows built.generation) status before after
    → Reverses job inputs made status before after
line_told job inputs store None built status before after named ends told = absurd ends
line_told job inputs store (Some version) built Done before after named ends told =
    subst (λ (l : List ℕ). Appends before after l) (line_is job inputs store version built named ends) told
line_told job inputs store (Some version) built WriteFault before after named ends told =
    subst (λ (l : List ℕ). AppendsFront l before after) (line_is job inputs store version built named ends) told
line_told job inputs store (Some version) built _ before after named ends told = absurd told

end_told : (job : Job) (inputs : RevnetInputs) (store : Name) (made : Option MapVersion) (result : Result Built Status)
    (status : Status) (before after : Option (List ℕ)) → store ≡ job.store → Ends job inputs made result
    → IsToldEnd store result status before after → Reverses job inputs made status before after
end_told job inputs store made (Ok built) status before after named ends told =
    line_told job inputs store made built status before after named ends told
end_told job inputs store made (Err why) status before after named ends told =
    subst (λ (s : Status). Reverses job inputs made s before after) (sym told.0)
    (subst (λ (o : Option (List ℕ)). Reverses job inputs made why before o) (sym told.1)
    (stop_told job inputs made why before ends))

-- ---- what follows from the status

stop_not_stored : (status : Status) → is_stop status ≡ true → IsTrue (tells_stored status) → ⊥
stop_not_stored Done stop told_it = absurd cc
stop_not_stored WriteFault stop told_it = absurd cc
stop_not_stored _ stop told_it = absurd cc

stored_when : (store : Name) (result : Result Built Status) (status : Status) (before after : Option (List ℕ)) (P : Type 0)
    → IfErr result (λ why. is_stop why ≡ true) → IsToldEnd store result status before after → OnOk result P
    → IsTrue (tells_stored status) → P
stored_when store (Ok built) status before after P stop told h told_it = h
stored_when store (Err why) status before after P stop told h told_it =
    absurd (stop_not_stored why stop (subst (λ (s : Status). IsTrue (tells_stored s)) told.0 told_it))

early_when : (store : Name) (result : Result Built Status) (status : Status) (before after : Option (List ℕ)) (P : Type 0)
    → IsToldEnd store result status before after → IfErr result (λ why. may_have_written why ≡ false → P)
    → may_have_written status ≡ false → P
early_when store (Ok built) status before after P told h mild =
    absurd (line_written (build_line store built.order built.rows built.generation) status before after told mild)
early_when store (Err why) status before after P told h mild =
    h (subst (λ (s : Status). may_have_written s ≡ false) told.0 mild)

disk_when : (store : Name) (result : Result Built Status) (status : Status) (before after : Option (List ℕ))
    (P : MapName → Type 0) (map : MapName) → IsToldEnd store result status before after
    → IfErr result (λ why. (map : MapName) → why ≡ DiskFault map → P map) → status ≡ DiskFault map → P map
disk_when store (Ok built) status before after P map told h e =
    absurd (line_no_disk (build_line store built.order built.rows built.generation) status before after map told e)
disk_when store (Err why) status before after P map told h e = h map (sym told.0 ∙ e)

no_read : (status : Status) → IsTrue (revnet_may_end status) → status ≡ ReadFault → ⊥
no_read status may e = let no : IsTrue (revnet_may_end ReadFault) = subst (λ (s : Status). IsTrue (revnet_may_end s)) e may in absurd cc

-- ---- complete

last_same : (one two : Option MapVersion) → stands_for one ≡ stands_for two → one ≡ two
last_same None None e = refl
last_same None (Some v) e = absurd cc
last_same (Some v) None e = absurd cc
last_same (Some v) (Some w) e = let is : v ≡ w = cc in ap (λ (x : MapVersion). Some x) is

not_damaged : (last : Option MapVersion) (at rule : ℕ) → stands_for last ≡ stood.Damaged at rule → ⊥
not_damaged None at rule e = cc
not_damaged (Some version) at rule e = cc

module _ (job : Job) (inputs : RevnetInputs) (free : CanReverse job inputs) where
  last_is : (held : FileVersions) → AreFileVersions inputs held → held.last ≡ free.held.last
  last_is held is = last_same held.last free.held.last (sym is.last ∙ free.is_held.last)

  netgroup_is : (held : FileVersions) → AreFileVersions inputs held → held.netgroup ≡ free.held.netgroup
  netgroup_is held is = let e : Stored held.netgroup ≡ Stored free.held.netgroup = sym is.netgroup ∙ free.is_held.netgroup in cc

  not_refused : (master : List ℕ) (held : FileVersions) → AreFileVersions inputs held → other_master job.name held.last ≡ Some master → ⊥
  not_refused master held is other =
      let no : None ≡ Some master = sym free.has_order.own ∙ ap (other_master job.name) (sym (last_is held is)) ∙ other in cc

  not_spent : (held : FileVersions) → AreFileVersions inputs held → order_after (last_order held.last) inputs.now ≡ None → ⊥
  not_spent held is none =
      let no : None ≡ Some free.order =
      sym none ∙ ap (λ (l : Option MapVersion). order_after (last_order l) inputs.now) (last_is held is) ∙ free.has_order.next in cc

  order_is : (held : FileVersions) (order : ℕ) → AreFileVersions inputs held → HasNextOrder job.name inputs.now held.last order → order ≡ free.order
  order_is held order is has =
      let e : Some order ≡ Some free.order =
      sym has.next ∙ ap (λ (l : Option MapVersion). order_after (last_order l) inputs.now) (last_is held is) ∙ free.has_order.next in cc

  fits_all : (held : FileVersions) (order row rule : ℕ) → AreFileVersions inputs held → HasNextOrder job.name inputs.now held.last order
      → RefusesRow held.netgroup.rows job.field (empty_draft order job.name) row rule → ⊥
  fits_all held order row rule is has refuses =
      free.fits row rule
      (subst (λ (n : ℕ). RefusesRow free.held.netgroup.rows job.field (empty_draft n job.name) row rule) (order_is held order is has)
      (subst (λ (v : MapVersion). RefusesRow v.rows job.field (empty_draft order job.name) row rule) (netgroup_is held is) refuses))

  -- where nothing is in the way, the version is stored and told, but for faults and want of memory
  whole : (made : Option MapVersion) (status : Status) (before after : Option (List ℕ)) → Reverses job inputs made status before after
      → (status ≡ WriteFault → ⊥) → ((map : MapName) → status ≡ DiskFault map → ⊥) → (status ≡ Done) ⊎ (status ≡ NoMemory)
  whole made Done before after h writes disks = inl refl
  whole made NoMemory before after h writes disks = inr refl
  whole made WriteFault before after h writes disks = absurd (writes refl)
  whole made (DiskFault map) before after h writes disks = absurd (disks map refl)
  whole made (Damaged map at rule) before after h writes disks =
      elim h.0 [
        | inl two ↦ absurd (not_damaged free.held.last at rule (sym free.is_held.last ∙ two.1))
        | inr three ↦ absurd (let no : Stored free.held.netgroup ≡ stood.Damaged at rule = sym free.is_held.netgroup ∙ three.2 in cc)
      ]
  whole made (NoVersion map) before after h writes disks =
      absurd (let no : Stored free.held.netgroup ≡ stood.Nothing = sym free.is_held.netgroup ∙ h.0.2 in cc)
  whole made (Refused master) before after h writes disks = absurd (not_refused master.items h.0.held h.0.is_held h.0.unmade)
  whole made OrderSpent before after h writes disks = absurd (not_spent h.0.held h.0.is_held h.0.unmade.1)
  whole made (Rows row rule) before after h writes disks =
      absurd (fits_all h.0.held h.0.unmade.0 row rule h.0.is_held h.0.unmade.1 h.0.unmade.2)
  whole made (GenerationsSpent map) before after h writes disks =
      absurd (omega (arith, free.generation, h.0.1.last))
  whole made _ before after h writes disks = absurd h.0

-- ---- the office

-- what holds at the moment holds where it is told
at_moment : (clock : Option ℕ) (now : ℕ) (P : ℕ → Type 0) → IfSome clock (λ told. now ≡ told) → P now → IfSome clock P
at_moment None now P told h = tt
at_moment (Some moment) now P told h = subst P told h

some_more : {A : Type 0} (o : Option A) (P Q : A → Type 0) → ((x : A) → P x → Q x) → IfSome o P → IfSome o Q
some_more None P Q f h = tt
some_more (Some x) P Q f h = f x h

-- what was done to the disks, and told
pub record Acted {S K D C A I T : Type 0} (seen : Seeing S K D C A I T) (name : List ℕ) (store : Name) (now : ℕ)
    (result : Result Built Status) (status : Status) (old new : Office S K D C A I T) : Type 0 where
  pub clock : IfSome (moment seen old) (λ told. now ≡ told)
  pub renews : Renews (job_of name store) now result (two_tell seen.disk.history seen.disk.faults old.disks.items)
      (two_tell seen.disk.history seen.disk.faults new.disks.items)
  pub own_disk : IfErr result (λ why. (map : MapName) → why ≡ DiskFault map → OwnDiskFails store (name_view map)
      (faults_at seen.disk.faults 0 old.disks.items) (faults_at seen.disk.faults 0 new.disks.items)
      (faults_at seen.disk.faults 1 old.disks.items) (faults_at seen.disk.faults 1 new.disks.items))
  pub stop : IfErr result (λ why. is_stop why ≡ true)
  pub ends : IsToldEnd store result status (output seen old) (output seen new)
  pub may_end : IsTrue (revnet_may_end status)
  pub write_fault : status ≡ WriteFault → WriteFails seen old new
  pub names : names_of new.disks.items ≡ names_of old.disks.items
  pub told : moment seen new ≡ moment seen old
  pub stays : new ≡ record old {
    wire = record old.wire { sink = new.wire.sink };
    disks = new.disks;
    clock = new.clock;
  }

pub revnet_does : {S K D C A I T : Type 0} (seen : Seeing S K D C A I T) (name : List ℕ) (store : Name) (now : ℕ)
    (result : Result Built Status) (status : Status) (old new : Office S K D C A I T)
    → Acted seen name store now result status old new → RevnetDoes seen name store status old new
revnet_does seen name store now result status old new did =
    let job = job_of name store in
    let file = store_history seen old in
    let netgroup = netgroup_history seen old in
    let before = output seen old in
    let after = output seen new in
    let made = did.renews.made in
    let at : (P : RevnetInputs → Type 0) → AtFiles file netgroup now P → AtRevnetInputs seen old P =
    λ P h. at_moment (moment seen old) now (λ n. AtFiles file netgroup n P) did.clock h in
    let tells : AtFiles file netgroup now (λ inputs. Reverses job inputs made status before after) =
    at_each file netgroup now (λ inputs. Ends job inputs made result) (λ inputs. Reverses job inputs made status before after)
    (λ h n ends. end_told job (revnet_inputs h n now) store made result status before after refl ends did.ends) did.renews.ends in
    let disk : (map : MapName) → status ≡ DiskFault map → DiskFails seen old new =
    λ map e. disk_when store result status before after (λ map. DiskFails seen old new) map did.ends did.renews.cause e in
    record {
      made = made;
      planned = some_more made (λ version. AtFiles file netgroup now (λ inputs. ReverseIsPlanned job inputs version))
          (λ version. AtRevnetInputs seen old (λ inputs. ReverseIsPlanned job inputs version))
          (λ version h. at (λ inputs. ReverseIsPlanned job inputs version) h) did.renews.planned;
      tells = at (λ inputs. Reverses job inputs made status before after) tells;
      stored = stored_when store result status before after ((image : List ℕ) → MayLeave (store_history seen new) image → StandsForVersion made image)
          did.stop did.ends did.renews.stored;
      any_moment = did.renews.any_moment;
      few = did.renews.few;
      early = early_when store result status before after (LeavesOnly file (store_history seen new) (MayLeave file)) did.ends did.renews.early;
      only_read = did.renews.only_read;
      complete = at (λ inputs. CanReverse job inputs → (DiskFails seen old new → ⊥) → (WriteFails seen old new → ⊥) → (status ≡ Done) ⊎ (status ≡ NoMemory))
          (at_each file netgroup now (λ inputs. Reverses job inputs made status before after)
          (λ inputs. CanReverse job inputs → (DiskFails seen old new → ⊥) → (WriteFails seen old new → ⊥) → (status ≡ Done) ⊎ (status ≡ NoMemory))
          (λ h n is free disks writes. whole job (revnet_inputs h n now) free made status before after is (λ e. writes (did.write_fault e)) (λ map e. disks (disk map e)))
          tells);
      causes = record { read_fault = λ e. absurd (no_read status did.may_end e); write_fault = did.write_fault; disk_fault = disk };
      own_disk = λ map e.
          disk_when store result status before after
          (λ map. OwnDiskFails store (name_view map)
          (faults_at seen.disk.faults 0 old.disks.items) (faults_at seen.disk.faults 0 new.disks.items)
          (faults_at seen.disk.faults 1 old.disks.items) (faults_at seen.disk.faults 1 new.disks.items))
          map did.ends did.own_disk e;
      names = did.names;
      told = did.told;
      stays = did.stays;
    }

all_told : {A : Type 0} (o : Option A) (P : A → Type 0) → ((x : A) → P x) → IfSome o P
all_told None P f = tt
all_told (Some x) P f = f x

-- where memory ran out before anything was done
pub forgone : {S K D C A I T : Type 0} (seen : Seeing S K D C A I T) (name : List ℕ) (store : Name)
    (old : Office S K D C A I T) → RevnetDoes seen name store NoMemory old old
forgone seen name store old =
    let job = job_of name store in
    let file = store_history seen old in
    let netgroup = netgroup_history seen old in
    record {
      made = None;
      planned = tt;
      tells = all_told (moment seen old) (λ now. AtFiles file netgroup now (λ inputs. Reverses job inputs None NoMemory (output seen old) (output seen old)))
          (λ now. at_all file netgroup now (λ inputs. Reverses job inputs None NoMemory (output seen old) (output seen old)) (λ h n. (tt, refl)));
      stored = λ told_it. absurd cc;
      any_moment = nothing_left file _ (λ image left. inl left);
      few = nothing_left file _ (λ image left. inl left);
      early = λ mild. nothing_left file (MayLeave file) (λ image left. left);
      only_read = unread netgroup;
      complete = all_told (moment seen old)
          (λ now. AtFiles file netgroup now (λ inputs. CanReverse job inputs → (DiskFails seen old old → ⊥) → (WriteFails seen old old → ⊥) → (NoMemory ≡ Done) ⊎ (NoMemory ≡ NoMemory)))
          (λ now. at_all file netgroup now (λ inputs. CanReverse job inputs → (DiskFails seen old old → ⊥) → (WriteFails seen old old → ⊥) → (NoMemory ≡ Done) ⊎ (NoMemory ≡ NoMemory))
          (λ h n free disks writes. inr refl));
      causes = record { read_fault = λ e. absurd cc; write_fault = λ e. absurd cc; disk_fault = λ map e. absurd cc };
      own_disk = λ map e. absurd cc;
      names = refl;
      told = refl;
      stays = refl;
    }
