-- What is told where nothing fails.
use Rattle.std.proofs.Common.{◌≡◌, ℕ, List, [], ◌∷◌, Option, inl, inr}
use Rattle.yp_command.specs.declared.office.status.Status.{Status}
use Rattle.yp_command.specs.declared.office.status.Status.TheVariants.{WriteFault}
use Rattle.yp_command_mail.specs.Telling.{TellsText}

-- an output that doesn't fail is told with the status that was wanted
pub told_whole : (text : List ℕ) (wanted status : Status) (before after : Option (List ℕ))
    → TellsText text wanted status before after → (status ≡ WriteFault → ⊥) → status ≡ wanted
told_whole [] wanted status before after h never = h.0
told_whole (byte ∷ text) wanted status before after (inl h) never = h.0
told_whole (byte ∷ text) wanted status before after (inr h) never = absurd (never h.0)
