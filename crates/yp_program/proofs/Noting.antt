-- What was logged, and the note behind it.
use Rattle.std.proofs.Common.{◌≡◌, ℕ, ◌≤◌, List, [], Option, refl, arith}
use Rattle.std.proofs.KnownBytes.{Appends-trans}
use Rattle.std.specs.Io.KnownBytes.{Appends}
use Rattle.yp_io.specs.Counts.{HasRisen}
use Rattle.yp_command.specs.Words.{Meaning, Serve}
use Rattle.yp_command.specs.declared.office.status.Status.{Status}
use Rattle.yp_command.specs.office.Seeing.{Seeing}
use Rattle.yp_command.specs.office.Status.{note}
use Rattle.yp_command_serve.specs.Served.{Witnessed}
use Rattle.yp_command_serve.specs.serve.Hosting.{OutsideTells}
use Rattle.yp_program.specs.Commands.{AloneDoes, CommandDoes, IsNoted, in_office}

pub noted : (status : Status) (logged : List ℕ) (a b c : Option (List ℕ)) (x y z : ℕ) → x ≤ y → y ≤ z
    → (¬ HasRisen x y → Appends a b logged) → (¬ HasRisen y z → Appends b c (note status))
    → IsNoted x z a c logged status
noted status logged a b c x y z first later here behind = λ fine.
    Appends-trans a b c logged (note status) (here (λ rose. fine (omega (arith, first, later, rose))))
    (behind (λ rose. fine (omega (arith, first, later, rose))))

module _ {S K D C A I T : Type 0} (seen : Seeing S K D C A I T) (status : Status) where
  -- a command that serves no listener logs nothing
  pub logs_nothing : (meaning : Meaning) (old new : Witnessed (OutsideTells S K D C A I T))
      → new.reached.doors ≡ old.reached.doors → AloneDoes seen meaning status (in_office old) (in_office new)
      → CommandDoes seen meaning status old new []
  unfolding AloneDoes
  logs_nothing (Serve own port workers connections turns stores hosts log) old new same does = absurd does.0
  logs_nothing meaning old new same does = (does, same, refl)
