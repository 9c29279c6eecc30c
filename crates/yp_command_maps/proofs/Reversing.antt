-- What `revnet` does to its disks, by what was loaded, made and stored.
use Rattle.std.proofs.Common.{◌≡◌, ◌⊎◌, inl, inr, ⊎_elim, ℕ, ◌+◌, ◌≤◌, true, false, List, [], ◌∷◌, ◌++◌, length, Option, Some, None}
use Rattle.std.proofs.Common.{Result, Ok, Err, refl, sym, ap, ◌∙◌, subst, arith, option_map}
use Rattle.std.specs.Prelude.{IfSome, IfErr, OnOk}
use Rattle.std.specs.Result.{IsErrAnd}
use Rattle.yp_io.specs.Counts.{HasRisen}
use Rattle.yp_io.specs.Disk.{History, LeavesOnly, MayLeave, after_sync}
use Rattle.yp_version.specs.Rows.{Row}
use Rattle.yp_version.specs.Versions.{MapVersion}
use Rattle.yp_netgroup.specs.declared.reverse.field.Field.{Field}
use Rattle.yp_map_file.specs.declared.fault.SlotFault.{SlotFault}
use Rattle.yp_map_file.specs.declared.fault.SlotFault.TheVariants as slot
use Rattle.yp_map_file.specs.Commits.{generation_of, winning}
use Rattle.yp_map_file.specs.Loads.{Loads}
use Rattle.yp_map_file.specs.Slots.{IsAsBefore, HasGeneration}
use Rattle.yp_map_file.specs.Stands.{Stored, file_max, stands}
use Rattle.yp_map_file.specs.Stands as stood
use Rattle.yp_board.specs.Catalogues.{Name, name_view}
use Rattle.yp_board.specs.declared.catalog.MapName.{MapName}
use Rattle.yp_publisher.specs.Standing.{stands_for}
use Rattle.yp_command.specs.Words.{netgroup_of}
use Rattle.yp_command.specs.office.Files.{Fails}
use Rattle.yp_command.specs.declared.office.status.Status.{Status}
use Rattle.yp_command.specs.declared.office.status.Status.TheVariants.{NoMemory, Damaged, NoVersion, DiskFault}
use Rattle.yp_command.specs.declared.office.status.Status.TheVariants.{Rows, OrderSpent, Refused, GenerationsSpent}
use Rattle.yp_command_maps.specs.declared.build.Built.{Built}
use Rattle.yp_command_maps.specs.Build.{LeavesFew, may_have_written}
use Rattle.yp_command.specs.declared.office.disks.NamedDisk.{NamedDisk}
use Rattle.yp_command.specs.office.Disks.{names_of, faults_at, IsOnlyRead}
use Rattle.yp_command_maps.specs.Revnet.{Job, RevnetInputs, revnet_inputs, IsReverseVersion, IsUnmade, FileVersions, AreFileVersions, ReverseIsPlanned, ReverseIsHindered, MapFileIsSound}
use Rattle.yp_command_maps.specs.Revnet.{OwnDiskFails, IsSpent, StopsRevnet, AtFiles, StandsForVersion, IsBeforeOrMade}
use Rattle.yp_command_maps.specs.inside.Revnet.{StopsCommit, Ends, RevnetTells, revnet_tells, both_tell, two_tell, Renews}
use Rattle.yp_io.specs.inside.DiskLaws.{counts_now}
use Rattle.yp_command_maps.proofs.OnDisk.{then, nothing_left}

-- ---- what two files hold

-- what holds of both, where it holds of each
pub at_files : (old netgroup : Option History) (now : ℕ) (P Q : History → Type 0) (R : RevnetInputs → Type 0)
    → ((h n : History) → P h → Q n → R (revnet_inputs h n now)) → IfSome old P → IfSome netgroup Q
    → AtFiles old netgroup now R
at_files None netgroup now P Q R f p q = tt
at_files (Some h) None now P Q R f p q = tt
at_files (Some h) (Some n) now P Q R f p q = f h n p q

pub at_each : (old netgroup : Option History) (now : ℕ) (P Q : RevnetInputs → Type 0)
    → ((h n : History) → P (revnet_inputs h n now) → Q (revnet_inputs h n now)) → AtFiles old netgroup now P
    → AtFiles old netgroup now Q
at_each None netgroup now P Q f p = tt
at_each (Some h) None now P Q f p = tt
at_each (Some h) (Some n) now P Q f p = f h n p

pub at_all : (old netgroup : Option History) (now : ℕ) (P : RevnetInputs → Type 0) → ((h n : History) → P (revnet_inputs h n now))
    → AtFiles old netgroup now P
at_all None netgroup now P f = tt
at_all (Some h) None now P f = tt
at_all (Some h) (Some n) now P f = f h n

pub always : {A : Type 0} (o : Option A) → IfSome o (λ x. Unit {0})
always None = tt
always (Some x) = tt

abbrev pub numbers : (order rows generation : ℕ) → Built
numbers order rows generation = record { order = order; rows = rows; generation = generation }

-- ---- what is handed on

pub err_same : {T : Type 0} (result : Result T Status) (status : Status) (P : Status → Type 0)
    → IsErrAnd result (λ other. other ≡ status) → P status → IfErr result P
err_same (Ok x) status P is h = tt
err_same (Err other) status P is h = subst P (sym is) h

-- two disks are taken from the end of a list that has these two alone
pub no_rest : {D : Type 0} (rest : List (NamedDisk D)) (first second : NamedDisk D) (a b : Name)
    → names_of ((rest ++ first ∷ []) ++ second ∷ []) ≡ a ∷ b ∷ [] → rest ≡ []
no_rest [] first second a b h = refl
no_rest (x ∷ []) first second a b h = absurd cc
no_rest (x ∷ y ∷ []) first second a b h = absurd cc
no_rest (x ∷ y ∷ z ∷ more) first second a b h = absurd cc

-- so each is at its place
pub two_faults : {D : Type 0} (faults : D → ℕ) (disks middle rest : List (NamedDisk D)) (first second : NamedDisk D)
    → disks ≡ middle ++ second ∷ [] → middle ≡ rest ++ first ∷ [] → rest ≡ []
    → (faults_at faults 0 disks ≡ faults first.disk) × (faults_at faults 1 disks ≡ faults second.disk)
two_faults {D} faults disks middle rest first second last before none =
    let whole : disks ≡ first ∷ second ∷ [] = last
    ∙ ap (λ (l : List (NamedDisk D)). l ++ second ∷ []) (before ∙ ap (λ (l : List (NamedDisk D)). l ++ first ∷ []) none) in (
      ap (λ (l : List (NamedDisk D)). faults_at faults 0 l) whole,
      ap (λ (l : List (NamedDisk D)). faults_at faults 1 l) whole,
    )

-- the disk that is blamed, where its counts are told otherwise
pub own_disk_as : (result : Result Built Status) (store : Name) (a a' b b' x x' y y' : ℕ)
    → x ≡ a → x' ≡ a' → y ≡ b → y' ≡ b'
    → IfErr result (λ why. (map : MapName) → why ≡ DiskFault map → OwnDiskFails store (name_view map) a a' b b')
    → IfErr result (λ why. (map : MapName) → why ≡ DiskFault map → OwnDiskFails store (name_view map) x x' y y')
own_disk_as result store a a' b b' x x' y y' first first' second second' h =
    let Blames : ℕ → ℕ → ℕ → ℕ → Type 0 = λ p p' q q'. IfErr result
    (λ why. (map : MapName) → why ≡ DiskFault map → OwnDiskFails store (name_view map) p p' q q') in
    subst (λ (n : ℕ). Blames n x' y y') (sym first)
    (subst (λ (n : ℕ). Blames a n y y') (sym first')
    (subst (λ (n : ℕ). Blames a a' n y') (sym second)
    (subst (λ (n : ℕ). Blames a a' b n) (sym second') h)))

-- so what the two disks tell is what the list of them tells
pub listed_tells : {D : Type 0} (history : D → Option History) (faults : D → ℕ) (disks middle rest : List (NamedDisk D))
    (first second : NamedDisk D) → disks ≡ middle ++ second ∷ [] → middle ≡ rest ++ first ∷ [] → rest ≡ []
    → both_tell history faults first.disk second.disk ≡ two_tell history faults disks
listed_tells {D} history faults disks middle rest first second last before none =
    let whole : disks ≡ first ∷ second ∷ [] = last
    ∙ ap (λ (l : List (NamedDisk D)). l ++ second ∷ []) (before ∙ ap (λ (l : List (NamedDisk D)). l ++ first ∷ []) none) in
    let sum : faults first.disk + faults second.disk ≡ faults first.disk + (faults second.disk + 0) = omega arith in
    ap (λ (n : ℕ). revnet_tells (history first.disk) (history second.disk) n) sum
    ∙ ap (λ (l : List (NamedDisk D)). two_tell history faults l) (sym whole)

pub renews_err : (job : Job) (now : ℕ) (old new : RevnetTells) (result : Result Built Status) (status : Status)
    → IsErrAnd result (λ other. other ≡ status) → Renews job now (Err status) old new → Renews job now result old new
renews_err job now old new (Ok built) status is h = absurd is
renews_err job now old new (Err other) status is h =
    subst (λ (s : Status). Renews job now (Err s) old new) (sym is) h

-- a count rises with one of its parts
pub risen_first : (a a' b b' : ℕ) → HasRisen a a' → b ≤ b' → HasRisen (a + b) (a' + b')
risen_first a a' b b' h le = omega (arith, h, le)

pub risen_second : (a a' b b' : ℕ) → a ≤ a' → HasRisen b b' → HasRisen (a + b) (a' + b')
risen_second a a' b b' le h = omega (arith, h, le)

pub risen_later : (a a' a'' : ℕ) → a ≤ a' → HasRisen a' a'' → HasRisen a a''
risen_later a a' a'' le h = omega (arith, h, le)

abbrev pub fails : SlotFault → Result (Option MapVersion) SlotFault
fails fault = Err fault

-- what was built, of equal numbers
pub built_is : (order order' rows rows' generation generation' : ℕ) → order ≡ order' → rows ≡ rows'
    → generation ≡ generation' → numbers order rows generation ≡ numbers order' rows' generation'
built_is order order' rows rows' generation generation' o r g =
    ap (λ (n : ℕ). numbers n rows generation) o ∙ ap (λ (n : ℕ). numbers order' n generation) r
    ∙ ap (λ (n : ℕ). numbers order' rows' n) g

-- the same of equal parts
pub renews_as : (job job' : Job) (now : ℕ) (result : Result Built Status) (old new : RevnetTells) → job ≡ job'
    → Renews job now result old new → Renews job' now result old new
renews_as job job' now result old new same h = subst (λ (j : Job). Renews j now result old new) same h

-- the same of what is told in other words
pub renews_at : (job : Job) (now : ℕ) (result : Result Built Status) (was is old new : RevnetTells) → was ≡ old
    → is ≡ new → Renews job now result was is → Renews job now result old new
renews_at job now result was is old new a b h =
    subst (λ (t : RevnetTells). Renews job now result old t) b
    (subst (λ (t : RevnetTells). Renews job now result t is) a h)

pub made_behind : (job : Job) (now : ℕ) (last last' : Option MapVersion) (rows : List Row) (version : MapVersion)
    → last ≡ last' → IsReverseVersion job.name job.field now last rows version
    → IsReverseVersion job.name job.field now last' rows version
made_behind job now last last' rows version same h =
    subst (λ (l : Option MapVersion). IsReverseVersion job.name job.field now l rows version) same h

pub unmade_behind : (job : Job) (now : ℕ) (last last' : Option MapVersion) (rows : List Row) (status : Status)
    → last ≡ last' → IsUnmade job.name job.field now last rows status → IsUnmade job.name job.field now last' rows status
unmade_behind job now last last' rows status same h =
    subst (λ (l : Option MapVersion). IsUnmade job.name job.field now l rows status) same h

-- ---- a file that wasn't loaded

store_stops : (job : Job) (inputs : RevnetInputs) (store : Name) (fault : SlotFault) (status : Status) → store ≡ job.store
    → Fails store fault status → Loads (stands inputs.file) (Err fault) → StopsRevnet job inputs status
store_stops job inputs store (slot.Damaged at rule) (Damaged map at' rule') named fails loads =
    inl (fails.0 ∙ named, loads ∙ ap (λ (n : ℕ). stood.Damaged n rule) (sym fails.1) ∙ ap (stood.Damaged at') (sym fails.2))
store_stops job inputs store (slot.Damaged at rule) _ named fails loads = absurd fails
store_stops job inputs store slot.DiskFault (DiskFault map) named fails loads = inl (fails ∙ named)
store_stops job inputs store slot.DiskFault _ named fails loads = absurd fails
store_stops job inputs store slot.NoMemory NoMemory named fails loads = tt
store_stops job inputs store slot.NoMemory _ named fails loads = absurd fails

netgroup_stops : (job : Job) (inputs : RevnetInputs) (netgroup : Name) (fault : SlotFault) (status : Status)
    → netgroup ≡ netgroup_of job.store → MapFileIsSound inputs → Fails netgroup fault status
    → Loads (stands inputs.netgroup) (Err fault) → StopsRevnet job inputs status
netgroup_stops job inputs netgroup (slot.Damaged at rule) (Damaged map at' rule') named sound fails loads =
    inr (
      fails.0 ∙ named,
      sound,
      loads ∙ ap (λ (n : ℕ). stood.Damaged n rule) (sym fails.1) ∙ ap (stood.Damaged at') (sym fails.2),
    )
netgroup_stops job inputs netgroup (slot.Damaged at rule) _ named sound fails loads = absurd fails
netgroup_stops job inputs netgroup slot.DiskFault (DiskFault map) named sound fails loads = inr (fails ∙ named)
netgroup_stops job inputs netgroup slot.DiskFault _ named sound fails loads = absurd fails
netgroup_stops job inputs netgroup slot.NoMemory NoMemory named sound fails loads = tt
netgroup_stops job inputs netgroup slot.NoMemory _ named sound fails loads = absurd fails

disk_fault_is : (store : Name) (fault : SlotFault) (status : Status) (map : MapName) → Fails store fault status
    → status ≡ DiskFault map → fault ≡ slot.DiskFault
disk_fault_is store (slot.Damaged at rule) (Damaged map at' rule') other fails e = absurd cc
disk_fault_is store (slot.Damaged at rule) _ other fails e = absurd fails
disk_fault_is store slot.DiskFault status other fails e = refl
disk_fault_is store slot.NoMemory NoMemory other fails e = absurd cc
disk_fault_is store slot.NoMemory _ other fails e = absurd fails

-- and it names the map
pub disk_fault_names : (store : Name) (fault : SlotFault) (status : Status) (map : MapName) → Fails store fault status
    → status ≡ DiskFault map → (fault ≡ slot.DiskFault) × (name_view map ≡ store)
disk_fault_names store fault status map fails e =
    let is = disk_fault_is store fault status map fails e in
    let told : Fails store fault (DiskFault map) = subst (λ (s : Status). Fails store fault s) e fails in
    (is, subst (λ (f : SlotFault). Fails store f (DiskFault map)) is told)

-- the disk of this map is blamed where nothing else is
pub made_no_disk : (name : List ℕ) (field : Field) (now : ℕ) (last : Option MapVersion) (rows : List Row) (status : Status)
    (map : MapName) → IsUnmade name field now last rows status → status ≡ DiskFault map → ⊥
made_no_disk name field now last rows status map h e = subst (λ (s : Status). IsUnmade name field now last rows s) e h

pub stops_names : (store : Name) (generation : ℕ) (status : Status) (map : MapName) → StopsCommit store generation status
    → status ≡ DiskFault map → name_view map ≡ store
stops_names store generation status map h e = subst (λ (s : Status). StopsCommit store generation s) e h

-- what was loaded is what the file stands for
pub loaded_is : (file : stood.Stands) (last : Option MapVersion) → Loads file (Ok last) → file ≡ stands_for last
loaded_is file None loads = loads
loaded_is file (Some version) loads = loads

sound_of : (h n : History) (now : ℕ) (last : Option MapVersion) → Loads (stands h.state.reads) (Ok last)
    → MapFileIsSound (revnet_inputs h n now)
sound_of h n now last loads = record { last = last; stood = loaded_is (stands h.state.reads) last loads }

-- ---- a disk that is only read

pub unread : (history : Option History) → IsOnlyRead history history
unread history = record { same = inl refl; any_moment = nothing_left history (MayLeave history) (λ image left. left) }

more_left : (old new : Option History) (P Q : List ℕ → Type 0) → ((image : List ℕ) → P image → Q image)
    → LeavesOnly old new P → LeavesOnly old new Q
more_left old new P Q f left = record { goes_on = left.goes_on; each = λ image h. f image (left.each image h) }

-- a sync leaves what is read
same_reads : (old mid : Option History) (image : List ℕ) → (mid ≡ old) ⊎ (mid ≡ option_map after_sync old)
    → IsAsBefore mid image → IsAsBefore old image
same_reads old mid image (inl e) h = subst (λ (o : Option History). IsAsBefore o image) e h
same_reads None mid image (inr e) h = tt
same_reads (Some old) mid image (inr e) h = subst (λ (o : Option History). IsAsBefore o image) e h

-- ---- where nothing is stored

module _ (job : Job) (now : ℕ) (old netgroup : Option History) (faults : ℕ) where
  -- nothing is made
  pub not_made : (status : Status) (new netgroup' : Option History) (faults' : ℕ) → LeavesOnly old new (MayLeave old)
      → IsOnlyRead netgroup netgroup' → AtFiles old netgroup now (λ inputs. StopsRevnet job inputs status)
      → ((map : MapName) → status ≡ DiskFault map → HasRisen faults faults')
      → Renews job now (Err status) (revnet_tells old netgroup faults) (revnet_tells new netgroup' faults')
  not_made status new netgroup' faults' left only stops cause = record {
    made = None;
    planned = tt;
    ends = stops;
    stored = tt;
    any_moment = more_left old new (MayLeave old) (IsBeforeOrMade old None) (λ image h. inl h) left;
    few = more_left old new (MayLeave old) (λ image. MayLeave old image ⊎ (length image ≤ file_max)) (λ image h. inl h) left;
    early = λ mild. left;
    only_read = only;
    cause = cause;
  }

  -- the file of the map isn't loaded
  pub store_unloaded : (store : Name) (fault : SlotFault) (status : Status) (new : Option History) (faults' : ℕ)
      → store ≡ job.store → Fails store fault status → IfSome old (λ h. Loads (stands h.state.reads) (Err fault))
      → LeavesOnly old new (MayLeave old) → (fault ≡ slot.DiskFault → HasRisen faults faults')
      → Renews job now (Err status) (revnet_tells old netgroup faults) (revnet_tells new netgroup faults')
  store_unloaded store fault status new faults' named fails loads left cause =
      not_made status new netgroup faults' left (unread netgroup)
      (at_files old netgroup now (λ h. Loads (stands h.state.reads) (Err fault)) (λ n. Unit {0}) (λ inputs. StopsRevnet job inputs status)
      (λ h n loaded any. store_stops job (revnet_inputs h n now) store fault status named fails loaded) loads (always netgroup))
      (λ map e. cause (disk_fault_is store fault status map fails e))

  module _ (mid : Option History) (last : Option MapVersion) (loads : IfSome old (λ h. Loads (stands h.state.reads) (Ok last)))
      (left : LeavesOnly old mid (MayLeave old)) (netgroup' : Option History) (only : IsOnlyRead netgroup netgroup') where
    -- that of the netgroups isn't
    pub netgroup_unloaded : (name : Name) (fault : SlotFault) (status : Status) (faults' : ℕ)
        → name ≡ netgroup_of job.store → Fails name fault status
        → IfSome netgroup (λ n. Loads (stands n.state.reads) (Err fault))
        → (fault ≡ slot.DiskFault → HasRisen faults faults')
        → Renews job now (Err status) (revnet_tells old netgroup faults) (revnet_tells mid netgroup' faults')
    netgroup_unloaded name fault status faults' named fails none cause =
        not_made status mid netgroup' faults' left only
        (at_files old netgroup now (λ h. Loads (stands h.state.reads) (Ok last))
        (λ n. Loads (stands n.state.reads) (Err fault)) (λ inputs. StopsRevnet job inputs status)
        (λ h n loaded unloaded. netgroup_stops job (revnet_inputs h n now) name fault status named (sound_of h n now last loaded) fails unloaded)
        loads none)
        (λ map e. cause (disk_fault_is name fault status map fails e))

    -- or stands for nothing
    pub none_stands : (map : MapName) (faults' : ℕ) → name_view map ≡ netgroup_of job.store
        → IfSome netgroup (λ n. Loads (stands n.state.reads) (Ok None))
        → Renews job now (Err (NoVersion map)) (revnet_tells old netgroup faults)
        (revnet_tells mid netgroup' faults')
    none_stands map faults' named none =
        not_made (NoVersion map) mid netgroup' faults' left only
        (at_files old netgroup now (λ h. Loads (stands h.state.reads) (Ok last))
        (λ n. Loads (stands n.state.reads) (Ok None)) (λ inputs. StopsRevnet job inputs (NoVersion map))
        (λ h n loaded nothing. (named, sound_of h n now last loaded, nothing)) loads none)
        (λ other e. absurd cc)

    module _ (groups : MapVersion) (stored : IfSome netgroup (λ n. Loads (stands n.state.reads) (Ok (Some groups)))) where
      held_at : (P : RevnetInputs → Type 0)
          → ((h n : History) → AreFileVersions (revnet_inputs h n now) (record { last = last; netgroup = groups }) → P (revnet_inputs h n now))
          → AtFiles old netgroup now P
      held_at P f =
          at_files old netgroup now (λ h. Loads (stands h.state.reads) (Ok last))
          (λ n. Loads (stands n.state.reads) (Ok (Some groups))) P
          (λ h n one two. f h n (record { last = loaded_is (stands h.state.reads) last one; netgroup = two })) loads stored

      unmade_stops : (inputs : RevnetInputs) (status : Status) → AreFileVersions inputs (record { last = last; netgroup = groups })
          → IsUnmade job.name job.field inputs.now last groups.rows status → StopsRevnet job inputs status
      unmade_stops inputs (Refused master) held why =
          record { held = record { last = last; netgroup = groups }; is_held = held; unmade = why }
      unmade_stops inputs OrderSpent held why =
          record { held = record { last = last; netgroup = groups }; is_held = held; unmade = why }
      unmade_stops inputs (Rows row rule) held why =
          record { held = record { last = last; netgroup = groups }; is_held = held; unmade = why }
      unmade_stops inputs NoMemory held why = tt
      unmade_stops inputs _ held why = absurd why

      unmade_no_disk : (status : Status) (map : MapName) → IsUnmade job.name job.field now last groups.rows status
          → status ≡ DiskFault map → ⊥
      unmade_no_disk status map why e =
          subst (λ (s : Status). IsUnmade job.name job.field now last groups.rows s) e why

      -- no version is made
      pub unmade : (status : Status) (faults' : ℕ) → IsUnmade job.name job.field now last groups.rows status
          → Renews job now (Err status) (revnet_tells old netgroup faults) (revnet_tells mid netgroup' faults')
      unmade status faults' why =
          not_made status mid netgroup' faults' left only
          (held_at (λ inputs. StopsRevnet job inputs status) (λ h n held. unmade_stops (revnet_inputs h n now) status held why))
          (λ map e. absurd (unmade_no_disk status map why e))

      module _ (version : MapVersion) (is_made : IsReverseVersion job.name job.field now last groups.rows version)
          (same : (mid ≡ old) ⊎ (mid ≡ option_map after_sync old)) (generation : ℕ) (numbered : HasGeneration old generation)
          (new : Option History) (moments : LeavesOnly mid new (IsBeforeOrMade mid (Some version)))
          (few : LeavesFew mid new) where
        planned_at : (h n : History) → AreFileVersions (revnet_inputs h n now) (record { last = last; netgroup = groups })
            → ReverseIsPlanned job (revnet_inputs h n now) version
        planned_at h n held =
            record { held = record { last = last; netgroup = groups }; is_held = held; made = is_made }

        planned : AtFiles old netgroup now (λ inputs. ReverseIsPlanned job inputs version)
        planned = held_at (λ inputs. ReverseIsPlanned job inputs version) planned_at

        any_moment : LeavesOnly old new (IsBeforeOrMade old (Some version))
        any_moment =
            then old mid new (MayLeave old) (IsBeforeOrMade mid (Some version)) (IsBeforeOrMade old (Some version))
            (λ image h. inl h) (λ image h. ⊎_elim (λ before. inl (now_before image before))
            (λ after. inr (⊎_elim (λ stays. inl (same_reads old mid image same stays)) (λ is. inr is) after)) h) left moments
          where
            now_before : (image : List ℕ) → MayLeave mid image → MayLeave old image
            now_before image h = left.each image (counts_now old mid image left.goes_on h)

        few_left : LeavesFew old new
        few_left =
            then old mid new (MayLeave old) (λ image. MayLeave mid image ⊎ (length image ≤ file_max))
            (λ image. MayLeave old image ⊎ (length image ≤ file_max)) (λ image h. inl h)
            (λ image h. ⊎_elim (λ before. inl (left.each image (counts_now old mid image left.goes_on before))) (λ is. inr is) h)
            left few

        -- a version is made, but isn't stored
        pub unstored : (store : Name) (status : Status) (faults' : ℕ) → store ≡ job.store
            → StopsCommit store generation status → (may_have_written status ≡ false → new ≡ mid)
            → ((map : MapName) → status ≡ DiskFault map → HasRisen faults faults')
            → Renews job now (Err status) (revnet_tells old netgroup faults) (revnet_tells new netgroup' faults')
        unstored store status faults' named stops early cause = record {
          made = Some version;
          planned = planned;
          ends = ends_at status stops;
          stored = tt;
          any_moment = any_moment;
          few = few_left;
          early = λ mild. subst (λ (o : Option History). LeavesOnly old o (MayLeave old)) (sym (early mild)) left;
          only_read = only;
          cause = cause;
        }
          where
            ends_at : (status : Status) → StopsCommit store generation status
                → AtFiles old netgroup now (λ inputs. StopsRevnet job inputs status)
            ends_at (GenerationsSpent map) stops =
                spent_at old netgroup now (held_at (λ inputs. ReverseIsPlanned job inputs version) planned_at) numbered
              where
                spent_at : (old netgroup : Option History) (now : ℕ) → AtFiles old netgroup now (λ inputs. ReverseIsPlanned job inputs version)
                    → HasGeneration old generation → AtFiles old netgroup now (λ inputs. StopsRevnet job inputs (GenerationsSpent map))
                spent_at None netgroup now plan number = tt
                spent_at (Some h) None now plan number = tt
                spent_at (Some h) (Some n) now plan number =
                    (stops.0 ∙ named, record { version = version; planned = plan; last = sym number ∙ stops.1 })
            ends_at (DiskFault map) stops =
                at_all old netgroup now (λ inputs. StopsRevnet job inputs (DiskFault map)) (λ h n. inl (stops ∙ named))
            ends_at _ stops = absurd stops

        -- the version is stored
        pub renewed : (built : Built) (faults' : ℕ)
            → built ≡ record { order = version.order; rows = length version.rows; generation = generation + 1 }
            → ((image : List ℕ) → MayLeave new image → StandsForVersion (Some version) image)
            → Renews job now (Ok built) (revnet_tells old netgroup faults) (revnet_tells new netgroup' faults')
        renewed built faults' is stands = record {
          made = Some version;
          planned = planned;
          ends = ends_at old netgroup numbered;
          stored = stands;
          any_moment = any_moment;
          few = few_left;
          early = tt;
          only_read = only;
          cause = tt;
        }
          where
            with_generation : ℕ → Built
            with_generation n = record { order = version.order; rows = length version.rows; generation = n + 1 }

            ends_at : (old netgroup : Option History) → HasGeneration old generation
                → AtFiles old netgroup now (λ inputs. Ends job inputs (Some version) (Ok built))
            ends_at None netgroup number = tt
            ends_at (Some h) None number = tt
            ends_at (Some h) (Some n) number = is ∙ ap with_generation number
