-- A server over files that aren't damaged, with no fault, is done.
use Rattle.std.proofs.Common.{◌≡◌, ◌⊎◌, inl, inr, ℕ, suc, List, [], ◌∷◌, ◌++◌, Option, Some, None, refl, sym, ap, ◌∙◌, subst, arith}
use Rattle.std.specs.Prelude.{All, IfSome}
use Rattle.yp_io.specs.Counts.{HasRisen}
use Rattle.yp_io.specs.Disk.{History}
use Rattle.yp_map_file.specs.Slots.{IsSound}
use Rattle.yp_map_file.specs.Stands.{stands}
use Rattle.yp_map_file.specs.Stands as stood
use Rattle.yp_command.specs.declared.office.status.Status.{Status}
use Rattle.yp_command.specs.declared.office.status.Status.TheVariants.{Done, WriteFault, NoMemory, Damaged, DiskFault}
use Rattle.yp_command.specs.declared.office.status.Status.TheVariants.{ListenFault, InboxFault}
use Rattle.yp_command.specs.office.Disks.{disks_of}
use Rattle.yp_command.specs.office.Seeing.{Seeing, WriteFails, DiskFails}
use Rattle.yp_command_serve.specs.serve.Hosting.{OutsideTells}
use Rattle.yp_command_serve.specs.serve.Serve.{Job, SomeInboxFails, ServesOrRefuses, HasServeCauses, IsUndamaged}

module _ {D : Type 0} (history : D → Option History) where
  -- a file of which this is told isn't damaged
  untold : (told : Option History) (known : History) (at rule : ℕ) → told ≡ Some known
      → IsSound (stands known.state.reads) → IfSome told (λ h. stands h.state.reads ≡ stood.Damaged at rule) → ⊥
  untold None known at rule e sound damaged = absurd cc
  untold (Some h) known at rule e sound damaged =
      let same : known ≡ h = cc in
      subst IsSound damaged (subst (λ (x : History). IsSound (stands x.state.reads)) same sound)

  -- nor is one of those that aren't
  undamaged : (disks front : List D) (disk : D) (rest : List D) (at rule : ℕ) → disks ≡ front ++ disk ∷ rest
      → All (IsUndamaged history) disks → IfSome (history disk) (λ h. stands h.state.reads ≡ stood.Damaged at rule) → ⊥
  undamaged [] [] disk rest at rule e all damaged = absurd cc
  undamaged [] (first ∷ front) disk rest at rule e all damaged = absurd cc
  undamaged (one ∷ disks) [] disk rest at rule e all damaged =
      let same : one ≡ disk = cc in
      let is = all 0 one (omega arith) in
      untold (history disk) is.told at rule (ap history (sym same) ∙ is.tells) is.sound damaged
  undamaged (one ∷ disks) (first ∷ front) disk rest at rule e all damaged =
      let tail : disks ≡ front ++ disk ∷ rest = cc in
      undamaged disks front disk rest at rule tail (λ k d lt. all (suc k) d (omega (arith, lt))) damaged

module _ {S K D C A I T : Type 0} (seen : Seeing S K D C A I T) (job : Job) (old new : OutsideTells S K D C A I T) (logged : List ℕ) where
  pub completes : (status : Status) → ServesOrRefuses seen job status old new logged
      → HasServeCauses seen status old new → All (IsUndamaged seen.disk.history) (disks_of old.office.disks.items)
      → (HasRisen old.doors.listen.faults new.doors.listen.faults → ⊥) → (SomeInboxFails seen old new → ⊥) → (DiskFails seen old.office new.office → ⊥)
      → (WriteFails seen old.office new.office → ⊥) → (status ≡ Done) ⊎ (status ≡ NoMemory)
  completes Done serves causes sound listen inbox disk write = inl refl
  completes NoMemory serves causes sound listen inbox disk write = inr refl
  completes WriteFault serves causes sound listen inbox disk write = absurd (write (causes.write_fault refl))
  completes ListenFault serves causes sound listen inbox disk write = absurd (listen (causes.listen_fault refl))
  completes InboxFault serves causes sound listen inbox disk write = absurd (inbox (causes.inbox_fault refl))
  completes (DiskFault map) serves causes sound listen inbox disk write = absurd (disk (causes.disk_fault map refl))
  completes (Damaged map at rule) serves causes sound listen inbox disk write =
      let stopped = serves.0.stopped in
      absurd (undamaged seen.disk.history (disks_of old.office.disks.items) stopped.front stopped.before stopped.rest at rule
      stopped.old_is sound stopped.refused.cause)
  completes status serves causes sound listen inbox disk write = absurd serves.tells
