-- What a session did, by what serving its connection came to.
use Rattle.std.proofs.Common.{◌≡◌, ℕ, ◌<◌, List, [], ◌∷◌, ◌++◌, length, map, Option, Some, None, Result, Ok, Err, refl, sym, ap, ◌∙◌, subst, arith, inl, inr}
use Rattle.std.specs.Prelude.{IfOk, IfErr, OnErr, IfSome, slice_get}
use Rattle.std.specs.List.{AllZip}
use Rattle.std.proofs.lemmas.List.{append-nil, length-append, length-map}
use Rattle.yp_io.specs.Counts.{HasRisen}
use Rattle.yp_io.specs.Disk.{History}
use Rattle.yp_io.specs.inside.DiskLaws.{stays, only_now}
use Rattle.yp_map_file.specs.declared.fault.SlotFault.{SlotFault}
use Rattle.yp_map_file.specs.declared.fault.SlotFault.TheVariants as fault
use Rattle.yp_io.specs.declared.stream.Peer.{Peer}
use Rattle.yp_board.specs.Catalogues.{Name, Catalogue, name_view}
use Rattle.yp_board.specs.declared.catalog.MapName.{MapName}
use Rattle.yp_publisher.specs.Standing.{StoredMap}
use Rattle.yp_publisher.specs.Opens.{IsOpened, OpeningStopped}
use Rattle.yp_answer.specs.session.Wires.{Wire, SeesMore}
use Rattle.yp_answer.specs.declared.session.session.End.{End}
use Rattle.yp_answer.specs.declared.session.session.End.TheVariants as ends
use Rattle.yp_publisher.specs.declared.open.OpenFault.{OpenFault}
use Rattle.yp_publisher.specs.declared.open.OpenFault.TheVariants as opening
use Rattle.yp_publisher.specs.Begins.{IsUnopened, IsUnwritten}
use Rattle.yp_publisher.specs.Keeping.{Keeping}
use Rattle.yp_host.specs.Locals.{Telling}
use Rattle.yp_publisher.specs.Grown.{AtDisk, LeavesOr}
use Rattle.yp_host.specs.Connections.{Service, service_of, Connection, ServesConnection}
use Rattle.yp_command.specs.declared.office.disks.NamedDisk.{NamedDisk}
use Rattle.yp_command.specs.declared.office.status.Status.{Status}
use Rattle.yp_command.specs.declared.office.status.Status.TheVariants.{Done, ReadFault, WriteFault, Torn, TooLong, NoMemory, Damaged, DiskFault, Enough}
use Rattle.yp_command.specs.office.Files.{Fails}
use Rattle.yp_command_serve.specs.Served.{status_of}
use Rattle.yp_command.specs.office.Disks.{names_of, disks_of, total_faults, faults_of}
use Rattle.yp_command_serve.specs.Session.{SessionDeclines, Sessions}
use Rattle.yp_command_serve.specs.inside.Session.{TellsSessionEnd, HasMapNumber}

-- ---- its status

-- the end of a session has its status
end_told : {D B E : Type 0} (service : Service D B E) (end : End) (status : Status) (old new : Connection D E) (wires : List Wire) → ServesConnection service end old new wires → TellsSessionEnd (Ok end) [] status
    → Sessions service status old new wires
end_told service ends.Clean status old new wires serves is = subst (λ s. Sessions service s old new wires) (sym is) serves
end_told service (ends.Torn at) status old new wires serves is = subst (λ s. Sessions service s old new wires) (sym is) serves
end_told service (ends.TooLong at) status old new wires serves is = subst (λ s. Sessions service s old new wires) (sym is) serves
end_told service ends.ReadFault status old new wires serves is = subst (λ s. Sessions service s old new wires) (sym is) serves
end_told service ends.WriteFault status old new wires serves is = subst (λ s. Sessions service s old new wires) (sym is) serves
end_told service ends.Enough status old new wires serves is = subst (λ s. Sessions service s old new wires) (sym is) serves

-- want of memory is told of anything that wasn't served
memory_told : {D B E : Type 0} (service : Service D B E) (why : OpenFault) (status : Status) (old new : Connection D E) → SessionDeclines service why old new [] → status ≡ NoMemory
    → Sessions service status old new []
memory_told service why status old new declines is =
    subst (λ s. Sessions service s old new []) (sym is) (record { unseen = refl; wire = declines.wire; desk = declines.desk; cause = declines.unwritten; unwritten = declines.unwritten })

-- a fault of a file is told with its map
fault_told : {D B E : Type 0} (service : Service D B E) (number : ℕ) (why : SlotFault) (store : Name) (status : Status) (old new : Connection D E) → SessionDeclines service (opening.Refused number why) old new []
    → slice_get service.catalogue.maps number ≡ Some store → Fails store why status → Sessions service status old new []
fault_told service number (fault.Damaged at rule) store (Damaged map at' rule') old new declines found fails = record {
  number = number;
  named = found ∙ ap (λ (n : Name). Some n) (sym fails.0);
  declines = rw (fails.1, fails.2) declines;
}
fault_told service number fault.DiskFault store (DiskFault map) old new declines found fails = record {
  number = number;
  named = found ∙ ap (λ (n : Name). Some n) (sym fails);
  declines = declines;
}
fault_told service number fault.NoMemory store NoMemory old new declines found fails = memory_told service (opening.Refused number fault.NoMemory) NoMemory old new declines refl
fault_told service number why store status old new declines found fails = absurd fails

-- what wasn't served is told
unserved_told : {D B E : Type 0} (service : Service D B E) (why : OpenFault) (names : List Name) (status : Status) (old new : Connection D E) → service.catalogue.maps ≡ names
    → SessionDeclines service why old new [] → TellsSessionEnd (Err why) names status → Sessions service status old new []
unserved_told service opening.NoMemory names status old new same declines is = memory_told service opening.NoMemory status old new declines is
unserved_told service (opening.Refused number why) names status old new same declines (inl is) = memory_told service (opening.Refused number why) status old new declines is
unserved_told service (opening.Refused number why) names status old new same declines (inr (store, found, fails)) =
    fault_told service number why store status old new declines (ap (λ (l : List Name). slice_get l number) same ∙ found) fails

-- what was served or not is told, with what a witness saw
session_told : {D B E : Type 0} (service : Service D B E) (served : Result End OpenFault) (names : List Name) (status : Status) (old new : Connection D E) (before after : List Wire) → service.catalogue.maps ≡ names
    → IfOk served (λ end. SeesMore before after (ServesConnection service end old new)) → IfErr served (λ why. SessionDeclines service why old new []) → OnErr served (after ≡ before) → TellsSessionEnd served names status
    → SeesMore before after (Sessions service status old new)
session_told service (Ok end) names status old new before after same serves declines unseen is =
    record { more = serves.more; behind = serves.behind; done = end_told service end status old new serves.more serves.done is }
session_told service (Err why) names status old new before after same serves declines unseen is =
    record { more = []; behind = unseen ∙ sym (append-nil before); done = unserved_told service why names status old new same declines is }

-- ---- where nothing was done

nothing_written : {D : Type 0} (history : D → Option History) (faults : D → ℕ) (disks : List D) → AllZip (IsUnwritten history faults) disks disks
nothing_written history faults [] = tt
nothing_written history faults (disk ∷ disks) =
    (record { moments = record { goes_on = stays (history disk); each = λ image left. only_now (history disk) image left }; never_falls = omega arith }, nothing_written history faults disks)

leaves_or : {D : Type 0} (history : D → Option History) (P : List ℕ → Type 0) (disk : Option D) → IfSome disk (λ before. IfSome disk (LeavesOr history P before))
leaves_or history P None = tt
leaves_or history P (Some disk) = record { goes_on = stays (history disk); each = λ image left. inl (only_now (history disk) image left) }

pub nothing_more : {D : Type 0} (history : D → Option History) (P : List ℕ → Type 0) (disks : List D) (number : ℕ) → AtDisk number disks disks (LeavesOr history P)
nothing_more history P disks number = leaves_or history P (slice_get disks number)

pub nothing_served : {D B E : Type 0} (service : Service D B E) (connection : Connection D E) (wires : List Wire) → SeesMore wires wires (Sessions service NoMemory connection connection)
nothing_served service connection wires = record {
  more = [];
  behind = sym (append-nil wires);
  done = record {
    unseen = refl;
    wire = refl;
    desk = refl;
    cause = nothing_written service.keeping.history service.keeping.faults connection.disks;
    unwritten = nothing_written service.keeping.history service.keeping.faults connection.disks;
  };
}

-- ---- faults of disks

-- those of disks that were opened haven't fallen, and one behind them rose
total_rose : {D : Type 0} (history : D → Option History) (faults : D → ℕ) (front : List D) (opened : List (StoredMap D)) (before after : D) (rest : List D) → AllZip (IsOpened history faults) front opened
    → HasRisen (faults before) (faults after) → HasRisen (total_faults faults (front ++ before ∷ rest)) (total_faults faults (map (λ (k : StoredMap D). k.disk) opened ++ after ∷ rest))
total_rose history faults [] [] before after rest each risen = omega (arith, risen)
total_rose history faults [] (kept ∷ opened) before after rest each risen = absurd each
total_rose history faults (disk ∷ front) [] before after rest each risen = absurd each
total_rose history faults (disk ∷ front) (kept ∷ opened) before after rest each risen =
    let here = each.0.never_falls in
    let more = total_rose history faults front opened before after rest each.1 risen in
    omega (arith, here, more)

pub stopped_risen : {D : Type 0} (history : D → Option History) (faults : D → ℕ) (old new : List (NamedDisk D)) (number : ℕ) → OpeningStopped history faults (disks_of old) (disks_of new) number fault.DiskFault
    → HasRisen (faults_of faults old) (faults_of faults new)
stopped_risen {D} history faults old new number stopped =
    let risen = total_rose history faults stopped.front stopped.opened stopped.before stopped.after stopped.rest stopped.each (stopped.refused.disk_fault refl) in
    let was : faults_of faults old ≡ total_faults faults (stopped.front ++ stopped.before ∷ stopped.rest) = ap (total_faults faults) stopped.old_is in
    let is : faults_of faults new ≡ total_faults faults (map (λ (k : StoredMap D). k.disk) stopped.opened ++ stopped.after ∷ stopped.rest) = ap (total_faults faults) stopped.new_is in
    omega (arith, risen, was, is)

-- no other status than that of a disk's fault comes of one
end_no_fault : (end : End) (map : MapName) → status_of end ≡ DiskFault map → ⊥
end_no_fault ends.Clean map e = cc
end_no_fault (ends.Torn at) map e = cc
end_no_fault (ends.TooLong at) map e = cc
end_no_fault ends.ReadFault map e = cc
end_no_fault ends.WriteFault map e = cc
end_no_fault ends.Enough map e = cc

pub fault_risen : {D : Type 0} (history : D → Option History) (faults : D → ℕ) (served : Result End OpenFault) (names : List Name) (status : Status) (map : MapName) (old new : List (NamedDisk D))
    → TellsSessionEnd served names status → status ≡ DiskFault map → IfErr served (λ why. IsUnopened history faults why (disks_of old) (disks_of new)) → HasRisen (faults_of faults old) (faults_of faults new)
fault_risen history faults (Ok end) names status map old new tells e cause = absurd (end_no_fault end map (sym tells ∙ e))
fault_risen history faults (Err opening.NoMemory) names status map old new tells e cause = absurd (let none : NoMemory ≡ DiskFault map = sym tells ∙ e in cc)
fault_risen history faults (Err (opening.Refused number why)) names status map old new (inl tells) e cause = absurd (let none : NoMemory ≡ DiskFault map = sym tells ∙ e in cc)
fault_risen history faults (Err (opening.Refused number (fault.Damaged at rule))) names status map old new (inr (store, found, fails)) e cause =
    absurd (subst (λ s. Fails store (fault.Damaged at rule) s) e fails)
fault_risen history faults (Err (opening.Refused number fault.DiskFault)) names status map old new (inr (store, found, fails)) e cause = stopped_risen history faults old new number cause.1
fault_risen history faults (Err (opening.Refused number fault.NoMemory)) names status map old new (inr (store, found, fails)) e cause =
    absurd (subst (λ s. Fails store fault.NoMemory s) e fails)

-- a write fault is told as one
pub write_told : (served : Result End OpenFault) (names : List Name) (status : Status) → served ≡ Ok ends.WriteFault → TellsSessionEnd served names status → status ≡ WriteFault
write_told served names status e tells = subst (λ (s : Result End OpenFault). TellsSessionEnd s names status) e tells

pub read_told : (served : Result End OpenFault) (names : List Name) (status : Status) → TellsSessionEnd served names status → status ≡ ReadFault → served ≡ Ok ends.ReadFault
read_told (Ok ends.Clean) names status tells e = absurd (let none : Done ≡ ReadFault = sym tells ∙ e in cc)
read_told (Ok (ends.Torn at)) names status tells e = absurd (let none : Torn at ≡ ReadFault = sym tells ∙ e in cc)
read_told (Ok (ends.TooLong at)) names status tells e = absurd (let none : TooLong at ≡ ReadFault = sym tells ∙ e in cc)
read_told (Ok ends.ReadFault) names status tells e = refl
read_told (Ok ends.WriteFault) names status tells e = absurd (let none : WriteFault ≡ ReadFault = sym tells ∙ e in cc)
read_told (Ok ends.Enough) names status tells e = absurd (let none : Enough ≡ ReadFault = sym tells ∙ e in cc)
read_told (Err opening.NoMemory) names status tells e = absurd (let none : NoMemory ≡ ReadFault = sym tells ∙ e in cc)
read_told (Err (opening.Refused number why)) names status (inl tells) e = absurd (let none : NoMemory ≡ ReadFault = sym tells ∙ e in cc)
read_told (Err (opening.Refused number (fault.Damaged at rule))) names status (inr (store, found, fails)) e = absurd (subst (λ s. Fails store (fault.Damaged at rule) s) e fails)
read_told (Err (opening.Refused number fault.DiskFault)) names status (inr (store, found, fails)) e = absurd (subst (λ s. Fails store fault.DiskFault s) e fails)
read_told (Err (opening.Refused number fault.NoMemory)) names status (inr (store, found, fails)) e = absurd (subst (λ s. Fails store fault.NoMemory s) e fails)

-- ---- the whole

-- why a connection wasn't served, with what it left
err_declines : {D B E : Type 0} (service : Service D B E) (served : Result End OpenFault) (old new : Connection D E)
    → IfErr served (λ why. IsUnopened service.keeping.history service.keeping.faults why old.disks new.disks) → OnErr served (new.wire ≡ old.wire) → OnErr served (new.desk ≡ old.desk)
    → OnErr served (AllZip (IsUnwritten service.keeping.history service.keeping.faults) old.disks new.disks) → IfErr served (λ why. SessionDeclines service why old new [])
err_declines service (Ok end) old new cause wire desk unwritten = tt
err_declines service (Err why) old new cause wire desk unwritten = record { unseen = refl; wire = wire; desk = desk; cause = cause; unwritten = unwritten }

-- the same catalogue, and disks under their names
pub record IsNamedSo {D : Type 0} (catalogue given : Catalogue) (names : List Name) (old new : List D) (before after : List (NamedDisk D)) : Type 0 where
  pub catalogue_is : catalogue ≡ given
  pub names_are : given.maps ≡ names
  pub old_are : old ≡ disks_of before
  pub new_are : new ≡ disks_of after

pub session_served : {D B E : Type 0} (keeping : Keeping D B) (telling : Telling E) (catalogue given : Catalogue) (peer : Peer) (served : Result End OpenFault) (names : List Name) (status : Status)
    (old new : Connection D E) (first last : List Wire) (before after : List (NamedDisk D)) → IsNamedSo catalogue given names old.disks new.disks before after
    → IfOk served (λ end. SeesMore first last (ServesConnection (service_of keeping telling catalogue peer) end old new))
    → IfErr served (λ why. IsUnopened keeping.history keeping.faults why old.disks new.disks) → OnErr served (new.wire ≡ old.wire) → OnErr served (new.desk ≡ old.desk)
    → OnErr served (last ≡ first) → OnErr served (AllZip (IsUnwritten keeping.history keeping.faults) old.disks new.disks) → TellsSessionEnd served names status
    → SeesMore first last (Sessions (service_of keeping telling given peer) status (record old { disks = disks_of before }) (record new { disks = disks_of after }))
session_served {D} {B} {E} keeping telling catalogue given peer served names status old new first last before after is serves cause wire desk unseen unwritten tells =
    let service = service_of keeping telling catalogue peer in
    let same : service.catalogue.maps ≡ names = ap (λ (c : Catalogue). c.maps) is.catalogue_is ∙ is.names_are in
    let did = session_told service served names status old new first last same serves (err_declines service served old new cause wire desk unwritten) unseen tells in
    let Told : Catalogue → List D → List D → Type 0 =
    λ c l l'. SeesMore first last (Sessions (service_of keeping telling c peer) status (record old { disks = l }) (record new { disks = l' })) in
    subst (Told given (disks_of before)) is.new_are (subst (λ (l : List D). Told given l new.disks) is.old_are (subst (λ (c : Catalogue). Told c old.disks new.disks) is.catalogue_is did))

-- P of each disk, under their names
pub each_named : {D : Type 0} (P : D → D → Type 0) (old new : List D) (before after : List (NamedDisk D)) → old ≡ disks_of before → new ≡ disks_of after
    → ((number : ℕ) → AtDisk number old new P) → (number : ℕ) → AtDisk number (disks_of before) (disks_of after) P
each_named {D} P old new before after is are each =
    subst (λ (l : List D). (number : ℕ) → AtDisk number (disks_of before) l P) are (subst (λ (l : List D). (number : ℕ) → AtDisk number l new P) is each)

pub cause_named : {D : Type 0} (history : D → Option History) (faults : D → ℕ) (served : Result End OpenFault) (old new : List D) (before after : List (NamedDisk D)) → old ≡ disks_of before → new ≡ disks_of after
    → IfErr served (λ why. IsUnopened history faults why old new) → IfErr served (λ why. IsUnopened history faults why (disks_of before) (disks_of after))
cause_named {D} history faults served old new before after is are cause =
    subst (λ (l : List D). IfErr served (λ why. IsUnopened history faults why (disks_of before) l)) are
    (subst (λ (l : List D). IfErr served (λ why. IsUnopened history faults why l new)) is cause)

-- what the same wire tells is the same
pub wires_same : {X W : Type 0} (wire : X → W) (served : Result End OpenFault) (old new : X) → OnErr served (new ≡ old) → OnErr served (wire new ≡ wire old)
wires_same wire (Ok end) old new same = tt
wires_same wire (Err why) old new same = ap wire same

-- ---- the number of a map that wasn't opened

pub same_count : {D : Type 0} (named : List (NamedDisk D)) (names : List MapName) (disks : List D) → disks ≡ disks_of named → map name_view names ≡ names_of named → length disks ≡ length names
same_count {D} named names disks of_disks of_names =
    ap length of_disks ∙ length-map named (λ (d : NamedDisk D). d.disk) ∙ sym (length-map named (λ (d : NamedDisk D). name_view d.name))
    ∙ sym (ap length of_names) ∙ length-map names name_view

pub number_within : {D : Type 0} (history : D → Option History) (faults : D → ℕ) (served : Result End OpenFault) (old new : List D) (count : ℕ) → length old ≡ count
    → IfErr served (λ why. IsUnopened history faults why old new) → HasMapNumber served count
number_within history faults (Ok end) old new count e cause = tt
number_within history faults (Err opening.NoMemory) old new count e cause = tt
number_within history faults (Err (opening.Refused number why)) old new count e cause =
    let stopped = cause.1 in
    omega (arith, stopped.number_is, ap length stopped.old_is, length-append stopped.front (stopped.before ∷ stopped.rest), e)
