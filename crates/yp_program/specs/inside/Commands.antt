-- Commands that serve no listener, and the status of words that are no sentence.
use Rattle.std.specs.Prelude.{⊤}
use Rattle.yp_command.specs.Words.{Meaning, Serve}
use Rattle.yp_command.specs.declared.words.ParseFault.{ParseFault}
use Rattle.yp_command.specs.declared.words.ParseFault.TheVariants as fault
use Rattle.yp_command.specs.declared.office.status.Status.{Status}
use Rattle.yp_command.specs.declared.office.status.Status.TheVariants.{Usage, NoMemory}

-- the command serves no listener
abbrev pub IsAlone : Meaning → Type 0
IsAlone (Serve own port workers connections turns stores hosts log) = ⊥
IsAlone meaning = ⊤

-- the status of words that weren't parsed
abbrev pub parse_status : ParseFault → Status
parse_status (fault.Usage word) = Usage word
parse_status fault.NoMemory = NoMemory
