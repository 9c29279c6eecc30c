-- What a transfer does to an office, by what was moved and told.
use Rattle.std.proofs.Common.{◌≡◌, ◌⊎◌, inl, inr, ℕ, Bool, true, false, List, Option, Result, Ok, Err, refl, sym, ap, ◌∙◌, subst}
use Rattle.std.specs.Prelude.{OnErr}
use Rattle.yp_map_file.specs.declared.fault.SlotFault.{SlotFault}
use Rattle.yp_map_file.specs.declared.fault.SlotFault.TheVariants as slot
use Rattle.yp_board.specs.Catalogues.{Name}
use Rattle.yp_board.specs.declared.catalog.MapName.{MapName}
use Rattle.yp_publisher.specs.declared.install.Installed.{Installed}
use Rattle.yp_transfer.specs.declared.fault.XfrFault.{XfrFault}
use Rattle.yp_transfer.specs.declared.fault.XfrFault.TheVariants as fault
use Rattle.yp_command.specs.declared.office.office.Office.{Office}
use Rattle.yp_command.specs.declared.office.status.Status.{Status}
use Rattle.yp_command.specs.declared.office.status.Status.TheVariants.{Done, WriteFault, NoMemory, Damaged, DiskFault, Xfr}
use Rattle.yp_command.specs.office.Files.{Fails}
use Rattle.yp_command.specs.office.Disks.{names_of}
use Rattle.yp_command.specs.office.Seeing.{Seeing, output, history, WriteFails, DiskFails}
use Rattle.yp_command_maps.specs.declared.xfr.XfrStop.{XfrStop}
use Rattle.yp_command_maps.specs.declared.xfr.XfrStop.TheVariants as stop
use Rattle.yp_command_maps.specs.Disks.{disk_tells}
use Rattle.yp_command_maps.specs.Build.{TellsLine, LeavesFew}
use Rattle.yp_command_maps.specs.Xfr.{Job, xfr_line, TellsXfr, dialing}
use Rattle.yp_command_maps.specs.inside.Xfr.{XfrMoves, is_undialed, IsXfrEnd}
use Rattle.yp_command_maps.specs.Xfr.{XfrTransfers, XfrDeclines, XfrDoes}

-- ---- no status of a transfer tells a fault of the disk, but where its file isn't loaded

line_no_disk : (text : List ℕ) (status : Status) (before after : Option (List ℕ)) (map : MapName)
    → TellsLine text status before after → status ≡ DiskFault map → ⊥
line_no_disk text Done before after map told e = cc
line_no_disk text WriteFault before after map told e = cc
line_no_disk text _ before after map told e = told

fault_no_disk : (store : Name) (why : XfrFault) (status : Status) (before after : Option (List ℕ)) (map : MapName)
    → TellsXfr store (Err why) status before after → status ≡ DiskFault map → ⊥
fault_no_disk store fault.NoMemory status before after map told e =
    let wrong : NoMemory ≡ DiskFault map = sym told.0 ∙ e in cc
fault_no_disk store why status before after map told e =
    let wrong : Xfr why ≡ DiskFault map = sym told.0 ∙ e in cc

was_disk : (store : Name) (why : SlotFault) (status : Status) (map : MapName) → Fails store why status
    → status ≡ DiskFault map → why ≡ slot.DiskFault
was_disk store (slot.Damaged at rule) (Damaged other a r) map fails e = absurd cc
was_disk store slot.DiskFault status map fails e = refl
was_disk store slot.NoMemory NoMemory map fails e = absurd cc
was_disk store _ _ map fails e = absurd fails

-- and none tells a fault of the output

not_loaded_no_write : (store : Name) (why : SlotFault) (status : Status) → Fails store why status → status ≡ WriteFault
    → ⊥
not_loaded_no_write store (slot.Damaged at rule) (Damaged other a r) fails e = cc
not_loaded_no_write store slot.DiskFault (DiskFault map) fails e = cc
not_loaded_no_write store slot.NoMemory NoMemory fails e = cc
not_loaded_no_write store _ _ fails e = fails

fault_no_write : (store : Name) (why : XfrFault) (status : Status) (before after : Option (List ℕ))
    → TellsXfr store (Err why) status before after → status ≡ WriteFault → ⊥
fault_no_write store fault.NoMemory status before after told e = let wrong : NoMemory ≡ WriteFault = sym told.0 ∙ e in cc
fault_no_write store why status before after told e = let wrong : Xfr why ≡ WriteFault = sym told.0 ∙ e in cc

pub stopped_no_write : (store : Name) (why : XfrStop) (status : Status) (before after : Option (List ℕ))
    → IsXfrEnd store (Err why) status before after → status ≡ WriteFault → ⊥
stopped_no_write store (stop.Fault why) status before after ends e = fault_no_write store why status before after ends e
stopped_no_write store (stop.Unloaded why) status before after ends e =
    not_loaded_no_write store why status ends.0 e

-- a fault of the disk is told where its file isn't loaded, and nowhere else
pub end_disk : (store : Name) (done : Result Installed XfrStop) (status : Status) (before after : Option (List ℕ))
    (map : MapName) → IsXfrEnd store done status before after → status ≡ DiskFault map
    → done ≡ Err (stop.Unloaded slot.DiskFault)
end_disk store (Ok installed) status before after map ends e =
    absurd (line_no_disk (xfr_line store installed.order installed.generation) status before after map ends e)
end_disk store (Err (stop.Fault why)) status before after map ends e =
    absurd (fault_no_disk store why status before after map ends e)
end_disk store (Err (stop.Unloaded why)) status before after map ends e =
    ap (λ (w : SlotFault). Err (stop.Unloaded w)) (was_disk store why status map ends.0 e)

module _ {S K D C A I T : Type 0} (seen : Seeing S K D C A I T) (job : Job) (old new : Office S K D C A I T) where
  -- what was moved and told
  pub record Told (result : Result Installed XfrStop) (status : Status) : Type 0 where
    pub moves : XfrMoves job result (dialing seen old) (dialing seen new) (disk_tells seen old) (disk_tells seen new)
    pub few : LeavesFew (history seen old) (history seen new)
    pub undialed : is_undialed result ≡ true → new.dial ≡ old.dial
    pub silent : OnErr result (new.wire.sink ≡ old.wire.sink)
    pub letters : seen.dial.letters new.dial ≡ seen.dial.letters old.dial
    pub ends : IsXfrEnd job.store result status (output seen old) (output seen new)
    pub write_fault : status ≡ WriteFault → WriteFails seen old new
    pub disk : (map : MapName) → status ≡ DiskFault map → result ≡ Err (stop.Unloaded slot.DiskFault)
    pub names : names_of new.disks.items ≡ names_of old.disks.items
    pub stays : new ≡ record old {
      wire = record old.wire { sink = new.wire.sink };
      disks = new.disks;
      dial = new.dial;
    }

  only_disks : new.dial ≡ old.dial → new.wire.sink ≡ old.wire.sink
      → new ≡ record old { wire = record old.wire { sink = new.wire.sink }; disks = new.disks; dial = new.dial }
      → new ≡ record old { disks = new.disks }
  only_disks dial sink stays =
      stays
      ∙ ap (λ (d : A). record old { wire = record old.wire { sink = new.wire.sink }; disks = new.disks; dial = d }) dial
      ∙ ap (λ (k : K). record old { wire = record old.wire { sink = k }; disks = new.disks }) sink

  does : (result : Result Installed XfrStop) (status : Status) → Told result status
      → XfrTransfers seen job status old new ⊎ XfrDeclines seen job status old new
  does (Ok installed) status told = inl (record { result = Ok installed; did = told.moves; tells = told.ends })
  does (Err (stop.Fault why)) status told = inl (record { result = Err why; did = told.moves; tells = told.ends })
  does (Err (stop.Unloaded why)) status told = inr (record {
    why = why;
    did = told.moves;
    tells = told.ends.0;
    stays = only_disks (told.undialed refl) told.silent told.stays;
  })

  disk_fault : (result : Result Installed XfrStop) (status : Status) (map : MapName) → Told result status
      → status ≡ DiskFault map → DiskFails seen old new
  disk_fault result status map told e =
      let is = told.disk map e in
      (subst (λ (r : Result Installed XfrStop). XfrMoves job r (dialing seen old) (dialing seen new)
      (disk_tells seen old) (disk_tells seen new)) is told.moves).disk_fault refl

  pub xfr_does : (result : Result Installed XfrStop) (status : Status) → Told result status
      → XfrDoes seen job status old new
  xfr_does result status told = record {
    does = does result status told;
    few = told.few;
    write_fault = told.write_fault;
    disk_fault = λ map e. disk_fault result status map told e;
    names = told.names;
    letters = told.letters;
    stays = told.stays;
  }
