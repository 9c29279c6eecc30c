-- What a build tells, by what it did.
use Rattle.std.proofs.Common.{◌≡◌, ◌⊎◌, inl, inr, ℕ, ◌+◌, List, [], ◌++◌, length, take, Option, Some, None, Result, Ok, Err, refl, sym, ap, ◌∙◌, subst, arith}
use Rattle.std.specs.Prelude.{IfSome, IfOk, IfErr}
use Rattle.std.proofs.lemmas.List.{append-nil}
use Rattle.std.specs.Io.KnownBytes.{Appends, Consumes, IsAtEnd}
use Rattle.yp_io.specs.Disk.{History}
use Rattle.yp_io.specs.Streams.{AppendsFront}
use Rattle.yp_version.specs.Versions.{MapVersion}
use Rattle.yp_map_file.specs.Commits.{generation_of, winning}
use Rattle.yp_board.specs.declared.catalog.MapName.{MapName}
use Rattle.yp_board.specs.Catalogues.{Name, name_view}
use Rattle.yp_texts.specs.declared.fault.BuildFault.{BuildFault}
use Rattle.yp_texts.specs.declared.fault.BuildFault.TheVariants as fault
use Rattle.yp_command_maps.specs.declared.build.Built.{Built}
use Rattle.yp_command_maps.specs.declared.build.BuildStop.{BuildStop}
use Rattle.yp_command_maps.specs.declared.build.BuildStop.TheVariants as stop
use Rattle.yp_command.specs.declared.office.status.Status.{Status}
use Rattle.yp_command.specs.declared.office.status.Status.TheVariants.{Done, Usage, ReadFault, WriteFault, Torn, TooLong, NoMemory, Damaged, NoVersion, DiskFault, Rows, OrderSpent, Refused, GenerationsSpent, Enough}
use Rattle.yp_texts.specs.After.{HasFault}
use Rattle.yp_command_maps.specs.Build.{Job, BuildInputs, build_inputs, Unplanned, Hinders, build_line, planned, Builds}
use Rattle.yp_command_maps.specs.Build.{fault_status, TellsLine}
use Rattle.yp_command_maps.specs.inside.Build.{StopsBuild, IsBuiltAsPlanned, IsStatusOfStop, IsBuildEnd}

-- a text that was read to the end is the whole input
pub whole_text : (input left : Option (List ℕ)) (text : List ℕ) → Consumes input left text → IsAtEnd left → IfSome input (λ bytes. bytes ≡ text)
whole_text None left text read end = tt
whole_text (Some bytes) None text read end = absurd read
whole_text (Some bytes) (Some rest) text read end = read ∙ ap (λ (l : List ℕ). text ++ l) end ∙ append-nil text

-- what holds of the text and the moment holds where they are told
pub at_site : (input : Option (List ℕ)) (history : Option History) (moment : Option ℕ) (text : List ℕ) (now : ℕ) (P : BuildInputs → Type 0) → IfSome input (λ bytes. bytes ≡ text)
    → IfSome moment (λ told. now ≡ told) → IfSome history (λ h. P (build_inputs text now h))
    → IfSome input (λ bytes. IfSome history (λ h. IfSome moment (λ told. P (build_inputs bytes told h))))
at_site None history moment text now P read told h = tt
at_site (Some bytes) None moment text now P read told h = tt
at_site (Some bytes) (Some history) None text now P read told h = tt
at_site (Some bytes) (Some history) (Some moment) text now P read told h =
    let with_now : P (build_inputs text moment history) = subst (λ (n : ℕ). P (build_inputs text n history)) told h in
    subst (λ (t : List ℕ). P (build_inputs t moment history)) (sym read) with_now

-- the line of what was stored is that of the planned version
line_is : (store other : Name) (version : MapVersion) (generation : ℕ) (made : Built) → other ≡ store → made.order ≡ version.order → made.rows ≡ length version.rows → made.generation ≡ generation + 1
    → build_line other made.order made.rows made.generation ≡ build_line store version.order (length version.rows) (generation + 1)
line_is store other version generation made named order rows numbers =
    ap (λ (n : Name). build_line n made.order made.rows made.generation) named ∙ ap (λ (n : ℕ). build_line store n made.rows made.generation) order
    ∙ ap (λ (n : ℕ). build_line store version.order n made.generation) rows ∙ ap (λ (n : ℕ). build_line store version.order (length version.rows) n) numbers

done_told : (job : Job) (inputs : BuildInputs) (store : Name) (made : Built) (status : Status) (before after : Option (List ℕ)) → store ≡ job.store
    → TellsLine (build_line store made.order made.rows made.generation) status before after → IsBuiltAsPlanned (planned job inputs) (generation_of (winning inputs.file)) made
    → Builds job inputs status before after
done_told job inputs store made Done before after named told built =
    (built.version, built.planned, subst (λ (l : List ℕ). Appends before after l) (line_is job.store store built.version (generation_of (winning inputs.file)) made named built.order built.rows built.numbered) told)
done_told job inputs store made WriteFault before after named told built = (
  built.version,
  built.planned,
  subst (λ (l : List ℕ). AppendsFront l before after)
      (line_is job.store store built.version (generation_of (winning inputs.file)) made named built.order built.rows built.numbered) told,
)
done_told job inputs store made _ before after named told built = absurd told

fault_told : (job : Job) (inputs : BuildInputs) (why : BuildFault) (before : Option (List ℕ)) → planned job inputs ≡ Err (Hinders (HasFault why)) → Builds job inputs (fault_status why) before before
fault_told job inputs fault.OrderSpent before plan = (plan, refl)
fault_told job inputs fault.NoMemory before plan = refl
fault_told job inputs (fault.KeyLong line) before plan = (fault.KeyLong line, plan, refl, refl)
fault_told job inputs (fault.ValueLong line) before plan = (fault.ValueLong line, plan, refl, refl)
fault_told job inputs (fault.TooManyRows line) before plan = (fault.TooManyRows line, plan, refl, refl)
fault_told job inputs (fault.TooBig line) before plan = (fault.TooBig line, plan, refl, refl)

stop_told : (job : Job) (inputs : BuildInputs) (store : MapName) (why : BuildStop) (before : Option (List ℕ)) (status : Status) → name_view store ≡ job.store → IsStatusOfStop store why status
    → StopsBuild (planned job inputs) why → Builds job inputs status before before
stop_told job inputs store (stop.Damaged at rule) before status named is plan =
    subst (λ (s : Status). Builds job inputs s before before) (sym is) (plan, named, refl)
stop_told job inputs store (stop.Master master) before status named is plan = subst (λ (s : Status). Builds job inputs s before before) (sym is) (plan, refl)
stop_told job inputs store (stop.Fault why) before status named is plan = subst (λ (s : Status). Builds job inputs s before before) (sym is) (fault_told job inputs why before plan)
stop_told job inputs store stop.Spent before status named is plan = subst (λ (s : Status). Builds job inputs s before before) (sym is) (plan, named, refl)
stop_told job inputs store stop.Disk before status named is plan = subst (λ (s : Status). Builds job inputs s before before) (sym is) (named, refl)
stop_told job inputs store stop.NoMemory before status named is plan = subst (λ (s : Status). Builds job inputs s before before) (sym is) refl

some_both : {A : Type 0} (o : Option A) (P Q : A → Type 0) → ((x : A) → P x → Q x) → IfSome o P → IfSome o Q
some_both None P Q f h = tt
some_both (Some x) P Q f h = f x h

-- what is told where the text was read whole
pub end_told : (history : Option History) (job : Job) (text : List ℕ) (now : ℕ) (store : MapName) (r : Result Built BuildStop) (status : Status) (before after : Option (List ℕ)) → name_view store ≡ job.store
    → IsBuildEnd store r status before after
    → IfOk r (λ made. IfSome history (λ h. IsBuiltAsPlanned (planned job (build_inputs text now h)) (generation_of (winning h.state.reads)) made))
    → IfErr r (λ why. IfSome history (λ h. StopsBuild (planned job (build_inputs text now h)) why))
    → IfSome history (λ h. Builds job (build_inputs text now h) status before after)
end_told history job text now store (Ok made) status before after named end built stopped =
    some_both history (λ h. IsBuiltAsPlanned (planned job (build_inputs text now h)) (generation_of (winning h.state.reads)) made) (λ h. Builds job (build_inputs text now h) status before after)
    (λ h b. done_told job (build_inputs text now h) (name_view store) made status before after named end b) built
end_told history job text now store (Err why) status before after named end built stopped =
    some_both history (λ h. StopsBuild (planned job (build_inputs text now h)) why) (λ h. Builds job (build_inputs text now h) status before after)
    (λ h plan. subst (λ (o : Option (List ℕ)). Builds job (build_inputs text now h) status before o) (sym end.1) (stop_told job (build_inputs text now h) store why before status named end.0 plan)) stopped

-- ---- complete

-- what follows at each inputs follows where all is told
pub at_more : (input : Option (List ℕ)) (history : Option History) (moment : Option ℕ) (P Q : BuildInputs → Type 0) → ((inputs : BuildInputs) → P inputs → Q inputs)
    → IfSome input (λ bytes. IfSome history (λ h. IfSome moment (λ told. P (build_inputs bytes told h))))
    → IfSome input (λ bytes. IfSome history (λ h. IfSome moment (λ told. Q (build_inputs bytes told h))))
at_more None history moment P Q f h = tt
at_more (Some bytes) None moment P Q f h = tt
at_more (Some bytes) (Some history) None P Q f h = tt
at_more (Some bytes) (Some history) (Some now) P Q f h = f (build_inputs bytes now history) h

-- a version that is planned is stored and told, but for faults and want of memory
pub built_whole : (job : Job) (inputs : BuildInputs) (version : MapVersion) (status : Status) (before after : Option (List ℕ)) → Builds job inputs status before after → planned job inputs ≡ Ok version
    → (status ≡ ReadFault → ⊥) → (status ≡ WriteFault → ⊥) → ((map : MapName) → status ≡ DiskFault map → ⊥) → (status ≡ Done) ⊎ (status ≡ NoMemory)
built_whole job inputs version Done before after h plan reads writes disks = inl refl
built_whole job inputs version NoMemory before after h plan reads writes disks = inr refl
built_whole job inputs version ReadFault before after h plan reads writes disks = absurd (reads refl)
built_whole job inputs version WriteFault before after h plan reads writes disks = absurd (writes refl)
built_whole job inputs version (DiskFault map) before after h plan reads writes disks = absurd (disks map refl)
built_whole job inputs version (TooLong at) before after h plan reads writes disks = let no = h.0 in absurd cc
built_whole job inputs version (Damaged map at rule) before after h plan reads writes disks = let no = h.0 in absurd cc
built_whole job inputs version (Refused master) before after h plan reads writes disks = let no = h.0 in absurd cc
built_whole job inputs version OrderSpent before after h plan reads writes disks = let no = h.0 in absurd cc
built_whole job inputs version (Rows row rule) before after h plan reads writes disks = let no = h.1 in absurd cc
built_whole job inputs version (GenerationsSpent map) before after h plan reads writes disks = let no = h.0 in absurd cc
built_whole job inputs version _ before after h plan reads writes disks = absurd h
