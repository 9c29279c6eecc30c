-- What every command keeps: the names of the disks, and the moment that the clock tells.
use Rattle.std.proofs.Common.{◌≡◌, List, refl, ap, ◌∙◌}
use Rattle.yp_answer.specs.session.Wires.{Wire}
use Rattle.yp_command.specs.Words.{Meaning, Once, Session, Serve, Check, Dump, Build, Load, Xfr, Walk, Sample, Push, Bind}
use Rattle.yp_command.specs.Words.{Portmap, CallMapper, Ask, Orders, Revnet}
use Rattle.yp_command.specs.declared.office.office.Office.{Office}
use Rattle.yp_command.specs.declared.office.status.Status.{Status}
use Rattle.yp_command.specs.office.Disks.{names_of}
use Rattle.yp_command.specs.office.Seeing.{Seeing, moment}
use Rattle.yp_command_serve.specs.Served.{witnessed}
use Rattle.yp_program.specs.Commands.{AloneDoes}

-- both
pub record KeepsOffice {S K D C A I T : Type 0} (seen : Seeing S K D C A I T) (old new : Office S K D C A I T) : Type 0 where
  pub names : names_of new.disks.items ≡ names_of old.disks.items
  pub told : moment seen new ≡ moment seen old

module _ {S K D C A I T : Type 0} (seen : Seeing S K D C A I T) (status : Status) (old new : Office S K D C A I T) (before after : List Wire) where
  by_stays : (all : Office S K D C A I T) → new ≡ all → names_of all.disks.items ≡ names_of old.disks.items → moment seen all ≡ moment seen old → KeepsOffice seen old new
  by_stays all same names told = record {
    names = ap (λ (o : Office S K D C A I T). names_of o.disks.items) same ∙ names;
    told = ap (λ (o : Office S K D C A I T). seen.clock.moment o.clock) same ∙ told;
  }

  pub command_keeps : (meaning : Meaning) → AloneDoes seen meaning status (witnessed old before) (witnessed new after) → KeepsOffice seen old new
  unfolding AloneDoes
  command_keeps (Once store rows) h = by_stays (record old { wire = new.wire }) h.stays refl refl
  command_keeps (Session own peer stores hosts) h = record { names = h.names; told = h.told }
  command_keeps (Serve own port workers connections turns stores hosts log) h = absurd h.0
  command_keeps (Check store) h = record { names = h.0.names; told = ap (λ (o : Office S K D C A I T). seen.clock.moment o.clock) h.0.stays }
  command_keeps (Dump store) h = record { names = h.0.names; told = ap (λ (o : Office S K D C A I T). seen.clock.moment o.clock) h.0.stays }
  command_keeps (Build name store flag) h = record { names = h.0.does.names; told = h.0.does.told }
  command_keeps (Load name store flag) h = record { names = h.0.names; told = h.0.told }
  command_keeps (Xfr name force store host flag) h = record {
    names = h.0.does.names;
    told = ap (λ (o : Office S K D C A I T). seen.clock.moment o.clock) h.0.does.stays;
  }
  command_keeps (Walk name force store host port turns flag) h = record {
    names = h.0.does.names;
    told = ap (λ (o : Office S K D C A I T). seen.clock.moment o.clock) h.0.does.stays;
  }
  command_keeps (Revnet name store) h = record { names = h.0.names; told = h.0.told }
  command_keeps (Sample start count) h = by_stays (record old { wire = record old.wire { sink = new.wire.sink } }) h.0.stays refl refl
  command_keeps (Push name port window turns store hosts) h = record { names = h.0.loads.names; told = h.0.told }
  command_keeps (Bind port policy turns domain hosts) h = by_stays (record old { wire = record old.wire { sink = new.wire.sink }; inbox = new.inbox }) h.0.stays refl refl
  command_keeps (Portmap port turns) h = by_stays (record old { wire = record old.wire { sink = new.wire.sink }; inbox = new.inbox }) h.0.stays refl refl
  command_keeps (CallMapper port turns peer call) h = by_stays (record old { wire = record old.wire { sink = new.wire.sink }; inbox = new.inbox }) h.0.stays refl refl
  command_keeps (Ask peer question) h = by_stays (record old { wire = record old.wire { sink = new.wire.sink }; dial = new.dial }) h.0.stays refl refl
  command_keeps (Orders first others domain) h = by_stays (record old { wire = record old.wire { sink = new.wire.sink }; dial = new.dial }) h.0.stays refl refl
