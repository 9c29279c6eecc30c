-- The steps of a call back.
use Rattle.std.specs.Prelude.{◌≡◌, ◌⊎◌, ℕ, ◌≤◌, List, Option}
use Rattle.yp_io.specs.Counts.{HasRisen}
use Rattle.yp_io.specs.Dials.{DialTells, Sending, GainsItem}
use Rattle.yp_messages.specs.declared.transfer.XfrStat.{XfrStat}
use Rattle.yp_transfer.specs.declared.calling_back.Asker.{Asker}
use Rattle.yp_transfer.specs.CallBack.{question, port_told, call_to}

-- A port mapper was asked for the port of a caller, and tells this one, or none.
pub record TellsPort (asker : Asker) (port : Option ℕ) (old new : Option (List Sending)) : Type 0 where
  pub came : Option (List ℕ)
  pub asked : GainsItem (question asker came) old new
  pub is_told : port ≡ port_told asker.transid came

-- The status was posted to a port of a caller, or the dial failed; its wires stay.
pub record TellsAt (port : ℕ) (asker : Asker) (stat : XfrStat) (old new : DialTells) : Type 0 where
  pub past : new.past ≡ old.past
  pub never_falls : old.faults ≤ new.faults
  pub told : GainsItem (call_to asker stat port) old.letters new.letters
      ⊎ ((new.letters ≡ old.letters) × HasRisen old.faults new.faults)
