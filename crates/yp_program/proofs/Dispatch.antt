-- What holds of equal commands, statuses, offices and wires.
use Rattle.std.proofs.Common.{◌≡◌, List}
use Rattle.std.specs.Prelude.{IsTrue}
use Rattle.yp_answer.specs.session.Wires.{Wire}
use Rattle.yp_command.specs.Words.{Meaning}
use Rattle.yp_command.specs.declared.office.office.Office.{Office}
use Rattle.yp_command.specs.declared.office.status.Status.{Status}
use Rattle.yp_command.specs.office.Seeing.{Seeing, IsPassedOn}
use Rattle.yp_command_serve.specs.Served.{witnessed}
use Rattle.yp_program.specs.Commands.{AloneDoes, may_end}

module _ {S K D C A I T : Type 0} (seen : Seeing S K D C A I T) (old : Office S K D C A I T) where
  pub same_does : (before : List Wire) (meaning meant : Meaning) (status told : Status) (new now : Office S K D C A I T) (after wires : List Wire) → meaning ≡ meant → status ≡ told → new ≡ now → after ≡ wires
      → AloneDoes seen meant told (witnessed old before) (witnessed now wires) → AloneDoes seen meaning status (witnessed old before) (witnessed new after)
  same_does before meaning meant status told new now after wires a b c d h = rw (a, b, c, d) h

  pub same_passed : (status told : Status) (new now : Office S K D C A I T) → status ≡ told → new ≡ now → IsPassedOn seen told old now → IsPassedOn seen status old new
  same_passed status told new now b c h = rw (b, c) h

pub same_end : (meaning meant : Meaning) (status told : Status) → meaning ≡ meant → status ≡ told → IsTrue (may_end meant told) → IsTrue (may_end meaning status)
same_end meaning meant status told a b h = rw (a, b) h
