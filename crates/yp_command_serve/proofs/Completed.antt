-- A session over files that aren't damaged ends as its input does.
use Rattle.std.proofs.Common.{◌≡◌, ℕ, suc, List, [], ◌∷◌, ◌++◌, Option, Some, None, refl, sym, ap, ◌∙◌, subst, arith, inl, inr, ◌⊎◌}
use Rattle.std.specs.Prelude.{All, IfSome}
use Rattle.yp_io.specs.Disk.{History}
use Rattle.yp_rpc.specs.Records.{Cut}
use Rattle.yp_map_file.specs.declared.fault.SlotFault.TheVariants as fault
use Rattle.yp_map_file.specs.Stands.{stands}
use Rattle.yp_map_file.specs.Stands as stood
use Rattle.yp_board.specs.declared.catalog.MapName.{MapName}
use Rattle.yp_publisher.specs.Opens.{OpeningStopped}
use Rattle.yp_answer.specs.Numbers.{record_max}
use Rattle.yp_answer.specs.declared.session.session.End.{End}
use Rattle.yp_answer.specs.declared.session.session.End.TheVariants as ends
use Rattle.yp_answer.specs.session.Progress.{begun}
use Rattle.yp_answer.specs.session.Wires.{Wire}
use Rattle.yp_host.specs.Connections.{Service, Connection, ServesConnection, local_conduct}
use Rattle.yp_answer.specs.session.Runs.{dialogue_at}
use Rattle.yp_command.specs.declared.office.disks.NamedDisk.{NamedDisk}
use Rattle.yp_command.specs.declared.office.status.Status.{Status}
use Rattle.yp_command.specs.declared.office.status.Status.TheVariants.{Done, ReadFault, WriteFault, Torn, TooLong, NoMemory, Damaged, DiskFault, Enough}
use Rattle.yp_command.specs.office.Disks.{disks_of}
use Rattle.yp_command_serve.specs.Served.{IsStatusOf, status_of}
use Rattle.yp_command_serve.specs.Session.{Sessions, DiskIsSound}
use Rattle.yp_command_serve.proofs.Ended.{CutLaws, status_of_end}

-- one of the disks, under its name
record IsAmong {D : Type 0} (P : NamedDisk D → Type 0) (disk : D) : Type 0 where
  named : NamedDisk D
  is : named.disk ≡ disk
  holds : P named

among : {D : Type 0} (P : NamedDisk D → Type 0) (disks : List (NamedDisk D)) (front : List D) (disk : D) (rest : List D) → disks_of disks ≡ front ++ disk ∷ rest → All P disks → IsAmong P disk
among P [] [] disk rest e all = absurd cc
among P [] (first ∷ front) disk rest e all = absurd cc
among P (one ∷ disks) [] disk rest e all = record { named = one; is = cc; holds = all 0 one (omega arith) }
among P (one ∷ disks) (first ∷ front) disk rest e all =
    let tail : disks_of disks ≡ front ++ disk ∷ rest = cc in
    among P disks front disk rest tail (λ k d lt. all (suc k) d (omega (arith, lt)))

-- a file that isn't damaged isn't refused as one
sound_not_damaged : (history : Option History) (told : History) (at rule : ℕ) → history ≡ Some told → ((at rule : ℕ) → stands told.state.reads ≡ stood.Damaged at rule → ⊥)
    → IfSome history (λ h. stands h.state.reads ≡ stood.Damaged at rule) → ⊥
sound_not_damaged None told at rule e sound damaged = absurd cc
sound_not_damaged (Some h) told at rule e sound damaged =
    let same : h ≡ told = cc in
    sound at rule (subst (λ (x : History). stands x.state.reads ≡ stood.Damaged at rule) same damaged)

damaged_never : {D : Type 0} (history : D → Option History) (faults : D → ℕ) (disks : List (NamedDisk D)) (old new : List D) (number at rule : ℕ) → old ≡ disks_of disks → All (DiskIsSound history) disks
    → OpeningStopped history faults old new number (fault.Damaged at rule) → ⊥
damaged_never {D} history faults disks old new number at rule are all stopped =
    let found = among (DiskIsSound history) disks stopped.front stopped.before stopped.rest (sym are ∙ stopped.old_is) all in
    let told : history stopped.before ≡ Some found.holds.told = ap history (sym found.is) ∙ found.holds.tells in
    sound_not_damaged (history stopped.before) found.holds.told at rule told found.holds.sound stopped.refused.cause

module _ (laws : CutLaws) {D B E : Type 0} (service : Service D B E) (old new : Connection D E) (wires : List Wire) (disks : List (NamedDisk D)) (stream : List ℕ) (messages : List (List ℕ)) (rest : List ℕ)
    (told : old.wire.source.input ≡ Some stream) (cut : Cut record_max stream messages rest) (are : old.disks ≡ disks_of disks) (all : All (DiskIsSound service.keeping.history) disks) where
  -- a connection that was served ends as its input
  served_ends : (end : End) → ServesConnection service end old new wires → (end ≡ ends.ReadFault → ⊥) → (end ≡ ends.WriteFault → ⊥) → IsStatusOf stream messages rest (status_of end)
  served_ends end h reads writes =
      status_of_end laws stream messages rest cut (local_conduct service.keeping service.telling) service.peer (dialogue_at h.start old.wire begun) (dialogue_at h.finish new.wire h.progress) wires told refl
      end h.runs reads writes

  pub session_completes : (status : Status) → Sessions service status old new wires → (status ≡ ReadFault → ⊥) → (status ≡ WriteFault → ⊥) → ((map : MapName) → status ≡ DiskFault map → ⊥)
      → IsStatusOf stream messages rest status ⊎ (status ≡ NoMemory)
  session_completes Done h reads writes disk = inl (served_ends ends.Clean h (λ e. cc) (λ e. cc))
  session_completes (Torn at) h reads writes disk = inl (served_ends (ends.Torn at) h (λ e. cc) (λ e. cc))
  session_completes (TooLong at) h reads writes disk = inl (served_ends (ends.TooLong at) h (λ e. cc) (λ e. cc))
  session_completes Enough h reads writes disk = inl (served_ends ends.Enough h (λ e. cc) (λ e. cc))
  session_completes ReadFault h reads writes disk = absurd (reads refl)
  session_completes WriteFault h reads writes disk = absurd (writes refl)
  session_completes (DiskFault map) h reads writes disk = absurd (disk map refl)
  session_completes NoMemory h reads writes disk = inr refl
  session_completes (Damaged map at rule) h reads writes disk =
      absurd (damaged_never service.keeping.history service.keeping.faults disks old.disks new.disks h.number at rule are all h.declines.cause.1)
  session_completes status h reads writes disk = absurd h
