-- What a walk does to an office, by what was moved and told.
use Rattle.std.proofs.Common.{◌≡◌, ◌⊎◌, inl, inr, ℕ, Bool, true, false, List, Option, Result, Ok, Err, refl, sym, ap, ◌∙◌, subst}
use Rattle.std.specs.Prelude.{OnErr, IsTrue}
use Rattle.yp_io.specs.Counts.{HasRisen}
use Rattle.yp_map_file.specs.declared.fault.SlotFault.TheVariants as slot
use Rattle.yp_board.specs.declared.catalog.MapName.{MapName}
use Rattle.yp_publisher.specs.declared.install.Installed.{Installed}
use Rattle.yp_command.specs.declared.office.office.Office.{Office}
use Rattle.yp_command.specs.declared.office.status.Status.{Status}
use Rattle.yp_command.specs.declared.office.status.Status.TheVariants.{WriteFault, DiskFault, InboxFault}
use Rattle.yp_command.specs.office.Disks.{names_of}
use Rattle.yp_command.specs.office.Seeing.{Seeing, output, WriteFails, DiskFails, InboxFails}
use Rattle.yp_command_maps.specs.declared.xfr.XfrStop.TheVariants as stop
use Rattle.yp_command_maps.specs.Xfr.{Job, XfrDeclines, xfr_may_end}
use Rattle.yp_command_maps.specs.declared.walk.walk.WalkStop.{WalkStop}
use Rattle.yp_command_maps.specs.declared.walk.walk.WalkStop.TheVariants as walk
use Rattle.yp_command_maps.specs.declared.walk.walker.Came.TheVariants.{Spent, Failed as HasFailed}
use Rattle.yp_command_maps.specs.walk.Walk.{walker_tells, Walks, WalksForNothing, WalkDoes}
use Rattle.yp_command_maps.specs.inside.walk.Walk.{WalkMoves, Moved, is_unmailed, IsWalkEnd}

-- no transfer ends with a fault of the inbox
pub no_inbox : (status : Status) → IsTrue (xfr_may_end status) → status ≡ InboxFault → ⊥
no_inbox status may e =
    let no : IsTrue (xfr_may_end InboxFault) = subst (λ (s : Status). IsTrue (xfr_may_end s)) e may in absurd cc

module _ {S K D C A I T : Type 0} (seen : Seeing S K D C A I T) (job : Job) (turns : ℕ) (old new : Office S K D C A I T)
  where
    -- what was moved and told
    pub record Told (result : Result Installed WalkStop) (status : Status) : Type 0 where
      pub moved : Moved job turns result (walker_tells seen old) (walker_tells seen new)
      pub unmailed : is_unmailed result ≡ true → new.inbox ≡ old.inbox
      pub silent : OnErr result (new.wire.sink ≡ old.wire.sink)
      pub ends : IsWalkEnd job.store turns result status (output seen old) (output seen new)
      pub write_fault : status ≡ WriteFault → WriteFails seen old new
      pub disk : (map : MapName) → status ≡ DiskFault map → result ≡ Err (walk.Transfer (stop.Unloaded slot.DiskFault))
      pub inbox : status ≡ InboxFault → result ≡ Err walk.InboxFault
      pub failed : result ≡ Err walk.InboxFault → InboxFails seen old new
      pub names : names_of new.disks.items ≡ names_of old.disks.items
      pub stays : new ≡ record old {
        wire = record old.wire { sink = new.wire.sink };
        disks = new.disks;
        inbox = new.inbox;
      }

    silent_stays : new.wire.sink ≡ old.wire.sink
        → new ≡ record old { wire = record old.wire { sink = new.wire.sink }; disks = new.disks; inbox = new.inbox }
        → new ≡ record old { disks = new.disks; inbox = new.inbox }
    silent_stays sink stays =
        stays ∙ ap (λ (k : K). record old { wire = record old.wire { sink = k }; disks = new.disks; inbox = new.inbox }) sink

    only_disks : new.inbox ≡ old.inbox → new ≡ record old { disks = new.disks; inbox = new.inbox }
        → new ≡ record old { disks = new.disks }
    only_disks inbox stays = stays ∙ ap (λ (i : I). record old { disks = new.disks; inbox = i }) inbox

    does : (result : Result Installed WalkStop) (status : Status) → Told result status
        → Walks seen job turns status old new
        ⊎ (WalksForNothing seen job turns status old new ⊎ XfrDeclines seen job status old new)
    does (Ok installed) status told =
        inl (record { result = Ok installed; did = told.moved.moves; tells = told.ends })
    does (Err (walk.Transfer (stop.Fault why))) status told =
        inl (record { result = Err why; did = told.moved.moves; tells = told.ends })
    does (Err (walk.Transfer (stop.Unloaded why))) status told = inr (inr (record {
      why = why;
      did = told.moved.moves;
      tells = told.ends.0;
      stays = only_disks (told.unmailed refl) (silent_stays told.silent told.stays);
    }))
    does (Err walk.Unanswered) status told = inr (inl (record {
      came = Spent;
      did = told.moved.moves;
      tells = told.ends.0;
      stays = silent_stays told.silent told.stays;
    }))
    does (Err walk.InboxFault) status told = inr (inl (record {
      came = HasFailed;
      did = told.moved.moves;
      tells = told.ends.0;
      stays = silent_stays told.silent told.stays;
    }))

    disk_fault : (result : Result Installed WalkStop) (status : Status) (map : MapName) → Told result status
        → status ≡ DiskFault map → DiskFails seen old new
    disk_fault result status map told e =
        (subst (λ (r : Result Installed WalkStop). WalkMoves job turns r (walker_tells seen old) (walker_tells seen new))
        (told.disk map e) told.moved.moves).disk_fault refl

    pub walk_does : (result : Result Installed WalkStop) (status : Status) → Told result status
        → WalkDoes seen job turns status old new
    walk_does result status told = record {
      does = does result status told;
      few = told.moved.few;
      write_fault = told.write_fault;
      disk_fault = λ map e. disk_fault result status map told e;
      inbox_fault = λ e. told.failed (told.inbox e);
      names = told.names;
      stays = told.stays;
    }
