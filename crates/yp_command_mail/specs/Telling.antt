-- What a command over an inbox tells, and what it may change of its office.
use Rattle.std.specs.Prelude.{◌≡◌, ◌⊎◌, ℕ, List, [], ◌∷◌, Option}
use Rattle.std.specs.Io.KnownBytes.{Appends}
use Rattle.yp_io.specs.Streams.{AppendsFront}
use Rattle.yp_rpc.specs.Turns.{InboxTells, inbox_tells}
use Rattle.yp_command.specs.declared.office.status.Status.{Status}
use Rattle.yp_command.specs.declared.office.status.Status.TheVariants.{WriteFault, InboxFault}
use Rattle.yp_command.specs.declared.office.office.Office.{Office}
use Rattle.yp_command.specs.office.Seeing.{Seeing, output, WriteFails, InboxFails}

-- A text is printed, with the status that was wanted, or a front of it where the output failed. Nothing is printed of
-- an empty one.
abbrev pub TellsText : List ℕ → (wanted status : Status) → Option (List ℕ) → Option (List ℕ) → Type 0
TellsText [] wanted status before after = (status ≡ wanted) × (after ≡ before)
TellsText (byte ∷ text) wanted status before after =
    ((status ≡ wanted) × Appends before after (byte ∷ text))
    ⊎ ((status ≡ WriteFault) × AppendsFront (byte ∷ text) before after)

-- what the inbox of an office tells
abbrev pub box : {S K D C A I T : Type 0} → Seeing S K D C A I T → Office S K D C A I T → InboxTells
box seen office = inbox_tells seen.inbox.past seen.inbox.turns seen.inbox.quiets office.inbox

-- what is told at a moment by an inbox, and by an output: all that it has taken
pub record MailTells : Type 0 where
  pub box : InboxTells
  pub output : Option (List ℕ)

abbrev pub mail_tells : InboxTells → Option (List ℕ) → MailTells
mail_tells box output = record { box = box; output = output }

-- what the inbox and the output of an office tell
abbrev pub mail_seen : {S K D C A I T : Type 0} → Seeing S K D C A I T → Office S K D C A I T → MailTells
mail_seen seen office = mail_tells (box seen office) (output seen office)

-- A fault that is told has its cause.
pub record HasInboxCauses {S K D C A I T : Type 0} (seen : Seeing S K D C A I T) (status : Status)
    (old new : Office S K D C A I T) : Type 0 where
  pub write_fault : status ≡ WriteFault → WriteFails seen old new
  pub inbox_fault : status ≡ InboxFault → InboxFails seen old new

-- The inbox took turns, and the output took a text. Nothing else changed.
abbrev pub IsMailing : {S K D C A I T : Type 0} → (old new : Office S K D C A I T) → Type 0
IsMailing old new = new ≡ record old { wire = record old.wire { sink = new.wire.sink }; inbox = new.inbox }
