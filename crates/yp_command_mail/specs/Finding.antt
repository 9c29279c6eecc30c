-- What a push finds in the files of its map and of the servers of the domain.
use Rattle.std.specs.Prelude.{◌≡◌, ℕ, Bool, true, false, List, Option, Some, None, Result, Ok, Err}
use Rattle.std.specs.Prelude.{IfSome, IsErrOf}
use Rattle.yp_io.specs.Counts.{HasRisen}
use Rattle.yp_io.specs.Disk.{History}
use Rattle.yp_version.specs.Versions.{MapVersion}
use Rattle.yp_map_file.specs.declared.fault.SlotFault.{SlotFault}
use Rattle.yp_map_file.specs.declared.fault.SlotFault.TheVariants as slot
use Rattle.yp_map_file.specs.Loads.{Loads}
use Rattle.yp_map_file.specs.Stands.{stands}
use Rattle.yp_board.specs.Catalogues.{Name, name_view}
use Rattle.yp_command.specs.Words.{is_ypservers, ypservers_of}
use Rattle.yp_command.specs.declared.office.disks.NamedDisk.{NamedDisk}
use Rattle.yp_command.specs.declared.office.status.Status.{Status}
use Rattle.yp_command.specs.declared.office.status.Status.TheVariants.{NoVersion}
use Rattle.yp_command.specs.office.Disks.{names_of, faults_of, faults_at, told_at, IsOnlyRead}
use Rattle.yp_command.specs.office.Files.{Fails}
use Rattle.yp_command_mail.specs.declared.finding.Found.{Found}
use Rattle.yp_command_mail.specs.declared.finding.LoadedFiles.{LoadedFiles}
use Rattle.yp_command_mail.specs.declared.finding.PushStop.{PushStop}
use Rattle.yp_command_mail.specs.declared.finding.PushStop.TheVariants as stop
use Rattle.yp_command_mail.specs.declared.finding.Which.{Which}
use Rattle.yp_command_mail.specs.declared.finding.Which.TheVariants.{Store, Servers}

-- what was loaded of a file, or why nothing was
abbrev pub Load : Type 0
Load = Result (Option MapVersion) SlotFault

-- the version of a map that is also that of the servers
abbrev pub found_alone : Option MapVersion → Result Found PushStop
found_alone None = Err (stop.NoVersion Store)
found_alone (Some version) = Ok (record { order = version.order; servers = version })

-- the versions of both maps, or the first of them that has none
abbrev pub found_both : Option MapVersion → Option MapVersion → Result Found PushStop
found_both None servers = Err (stop.NoVersion Store)
found_both (Some version) None = Err (stop.NoVersion Servers)
found_both (Some version) (Some servers) = Ok (record { order = version.order; servers = servers })

-- What is found in loaded files, or the first reason why nothing is: the map's file wasn't loaded, or that of the
-- servers wasn't, or the map has no version, or that of the servers has none.
abbrev pub judged : Load → Option Load → Result Found PushStop
judged (Err fault) servers = Err (stop.Unloaded Store fault)
judged (Ok last) None = found_alone last
judged (Ok last) (Some (Err fault)) = Err (stop.Unloaded Servers fault)
judged (Ok last) (Some (Ok servers)) = found_both last servers

-- the map of a reason
abbrev pub which_of : Name → Which → Name
which_of store Store = store
which_of store Servers = ypservers_of store

-- The status of a reason: it names the map.
abbrev pub StopsPush : Name → PushStop → Status → Type 0
StopsPush store (stop.Unloaded which fault) status = Fails (which_of store which) fault status
StopsPush store (stop.NoVersion which) (NoVersion map) = name_view map ≡ which_of store which
StopsPush store (stop.NoVersion which) _ = ⊥

-- what was loaded is what a disk's file stands for
abbrev pub LoadsFrom : Option History → Load → Type 0
LoadsFrom history load = IfSome history (λ h. Loads (stands h.state.reads) load)

-- The file of the servers was loaded, unless the map of the servers is the map that is pushed.
abbrev pub LoadsServers : Bool → Option History → Option Load → Type 0
LoadsServers true history load = load ≡ None
LoadsServers false history None = ⊥
LoadsServers false history (Some load) = LoadsFrom history load

-- The files of a map and of the servers were loaded from the first and the second disk, to which nothing was written.
-- A fault of a disk is that of the file's own.
pub record LoadsMaps {D : Type 0} (history : D → Option History) (faults : D → ℕ) (store : Name) (loaded : LoadedFiles)
    (old new : List (NamedDisk D)) : Type 0 where
  pub file : LoadsFrom (told_at history 0 old) loaded.file
  pub servers : LoadsServers (is_ypservers store) (told_at history 1 old) loaded.servers
  pub file_read : IsOnlyRead (told_at history 0 old) (told_at history 0 new)
  pub servers_read : is_ypservers store ≡ false → IsOnlyRead (told_at history 1 old) (told_at history 1 new)
  pub file_cause : IsErrOf loaded.file slot.DiskFault → HasRisen (faults_of faults old) (faults_of faults new)
  pub file_own : IsErrOf loaded.file slot.DiskFault → HasRisen (faults_at faults 0 old) (faults_at faults 0 new)
  pub servers_cause : IfSome loaded.servers
      (λ load. IsErrOf load slot.DiskFault → HasRisen (faults_of faults old) (faults_of faults new))
  pub servers_own : IfSome loaded.servers
      (λ load. IsErrOf load slot.DiskFault → HasRisen (faults_at faults 1 old) (faults_at faults 1 new))
  pub names : names_of new ≡ names_of old
