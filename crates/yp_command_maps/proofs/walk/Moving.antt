-- What a walk did to its inbox and to the disk of its map, by what came of it.
use Rattle.std.proofs.Common.{◌≡◌, ℕ, List, [], ◌∷◌, length, map, Option, Some, None, Result, Ok, Err, refl, sym, ap, subst}
use Rattle.std.proofs.Common.{arith}
use Rattle.std.specs.Prelude.{IfSome, option_map}
use Rattle.yp_io.specs.Disk.{History}
use Rattle.yp_version.specs.Versions.{MapVersion}
use Rattle.yp_map_file.specs.declared.fault.SlotFault.TheVariants as slot
use Rattle.yp_board.specs.declared.catalog.MapName.{MapName}
use Rattle.yp_board.specs.Catalogues.{Name, name_view}
use Rattle.yp_publisher.specs.declared.install.Installed.{Installed}
use Rattle.yp_transfer.specs.declared.fault.XfrFault.{XfrFault}
use Rattle.yp_transfer.specs.Fetching.{Wanted, wanted_of, FetchOutcome}
use Rattle.yp_command.specs.declared.office.disks.NamedDisk.{NamedDisk}
use Rattle.yp_command.specs.office.Disks.{names_of}
use Rattle.yp_command_maps.specs.declared.xfr.XfrStop.TheVariants as stop
use Rattle.yp_command_maps.specs.Xfr.{Job}
use Rattle.yp_command_maps.specs.inside.Xfr.{StoresFetched, KeepsLoaded}
use Rattle.yp_command_maps.specs.declared.walk.walk.WalkStop.{WalkStop}
use Rattle.yp_command_maps.specs.declared.walk.walk.WalkStop.TheVariants as walk
use Rattle.yp_command_maps.specs.declared.walk.walker.Came.{Came}
use Rattle.yp_command_maps.specs.declared.walk.walker.Came.TheVariants.{Outcome as HasOutcome, Spent, Failed as HasFailed}
use Rattle.yp_command_maps.specs.walk.Turns.{WalksTo}
use Rattle.yp_command_maps.specs.walk.Walk.{WalkTells, StoresWalk, WalksInVain}
use Rattle.yp_command_maps.specs.inside.walk.Walk.{Moved}

module _ (job : Job) (turns : ℕ) (old new : WalkTells) where
  -- a walk over the order of a version that is shown
  abbrev Walked : Option MapVersion → Came → Type 0
  Walked shows came =
      WalksTo job.host.1 (wanted_of job.store.0 job.store.1 (option_map (λ version. version.order) shows) job.force)
      turns came old.inbox new.inbox

  module _ (shows : Option MapVersion) where
    stored : (outcome : FetchOutcome) (result : Result Installed XfrFault) → Walked shows (HasOutcome outcome)
        → StoresFetched job shows outcome result old.disk new.disk → StoresWalk job turns result old new
    stored outcome result walks stores = record {
      held = stores.held;
      outcome = outcome;
      walks = subst (λ (v : Option MapVersion). Walked v (HasOutcome outcome)) (sym stores.shown) walks;
      stores = stores.stores;
    }

    vain : (came : Came) → Walked shows came
        → KeepsLoaded shows old.disk.history new.disk.history old.disk.faults new.disk.faults
        → WalksInVain job turns came old new
    vain came walks kept = record {
      held = kept.held;
      is_held = kept.is_held;
      walks = subst (λ (v : Option MapVersion). Walked v came) (sym kept.shown) walks;
      unwritten = kept.unwritten;
    }

    pub moved_ok : (outcome : FetchOutcome) (installed : Installed)
        → WalksTo job.host.1 (wanted_of job.store.0 job.store.1 (option_map (λ version. version.order) shows)
        job.force) turns (HasOutcome outcome) old.inbox new.inbox
        → StoresFetched job shows outcome (Ok installed) old.disk new.disk
        → Moved job turns (Ok installed) old new
    moved_ok outcome installed walks stores =
        record { moves = stored outcome (Ok installed) walks stores; few = stores.few }

    pub moved_fault : (outcome : FetchOutcome) (why : XfrFault)
        → WalksTo job.host.1 (wanted_of job.store.0 job.store.1 (option_map (λ version. version.order) shows)
        job.force) turns (HasOutcome outcome) old.inbox new.inbox
        → StoresFetched job shows outcome (Err why) old.disk new.disk
        → Moved job turns (Err (walk.Transfer (stop.Fault why))) old new
    moved_fault outcome why walks stores =
        record { moves = stored outcome (Err why) walks stores; few = stores.few }

    pub moved_spent : WalksTo job.host.1 (wanted_of job.store.0 job.store.1
        (option_map (λ version. version.order) shows) job.force) turns Spent old.inbox new.inbox
        → KeepsLoaded shows old.disk.history new.disk.history old.disk.faults new.disk.faults
        → Moved job turns (Err walk.Unanswered) old new
    moved_spent walks kept = record { moves = vain Spent walks kept; few = kept.few }

    pub moved_failed : WalksTo job.host.1 (wanted_of job.store.0 job.store.1
        (option_map (λ version. version.order) shows) job.force) turns HasFailed old.inbox new.inbox
        → KeepsLoaded shows old.disk.history new.disk.history old.disk.faults new.disk.faults
        → Moved job turns (Err walk.InboxFault) old new
    moved_failed walks kept = record { moves = vain HasFailed walks kept; few = kept.few }

    all_told : (o : Option History) (P : History → Type 0) → ((h : History) → P h) → IfSome o P
    all_told None P f = tt
    all_told (Some h) P f = f h

    -- memory ran out before the walk was begun
    pub moved_unbegun : KeepsLoaded shows old.disk.history new.disk.history old.disk.faults new.disk.faults
        → Moved job turns (Err (walk.Transfer (stop.Unloaded slot.NoMemory))) old new
    moved_unbegun kept = record {
      moves = record {
        cause = all_told old.disk.history _ (λ h. tt);
        disk_fault = λ e. absurd cc;
        unwritten = kept.unwritten;
      };
      few = kept.few;
    }

-- one name, one disk
pub one_name : {D : Type 0} (disks : List (NamedDisk D)) (name : Name) → names_of disks ≡ name ∷ [] → length disks ≡ 1
one_name [] name h = absurd cc
one_name (disk ∷ []) name h = refl
one_name (disk ∷ another ∷ more) name h = absurd (omega (arith, ap length h))

-- as many names as disks
pub named_one : {D : Type 0} (names : List MapName) (disks : List (NamedDisk D)) → map name_view names ≡ names_of disks
    → length disks ≡ 1 → length names ≡ 1
named_one [] [] e one = absurd (omega (arith, one))
named_one [] (disk ∷ disks) e one = absurd cc
named_one (name ∷ names) [] e one = absurd cc
named_one (name ∷ []) (disk ∷ disks) e one = refl
named_one (name ∷ other ∷ names) (disk ∷ []) e one = absurd (omega (arith, ap length e))
named_one (name ∷ other ∷ names) (disk ∷ another ∷ disks) e one = absurd (omega (arith, one))
