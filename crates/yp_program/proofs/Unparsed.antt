-- What is done for words that weren't parsed.
use Rattle.std.proofs.Common.{◌≡◌, ℕ, [], Result, Ok, Err, refl, inr, true}
use Rattle.yp_command.specs.Words.{Meaning, Once, Session, Serve, Check, Dump, Build, Load, Xfr, Walk, Sample, Push}
use Rattle.yp_command.specs.Words.{Bind, Portmap, CallMapper, Ask, Orders, Revnet}
use Rattle.yp_command.specs.inside.Words.{IsSentenceOfWords, IsUsage}
use Rattle.yp_command.specs.declared.words.ParseFault.{ParseFault}
use Rattle.yp_command.specs.declared.words.ParseFault.TheVariants as fault
use Rattle.yp_command_serve.specs.Served.{Witnessed}
use Rattle.yp_command_serve.specs.serve.Hosting.{OutsideTells}
use Rattle.yp_command.specs.declared.office.status.Status.TheVariants.{Usage, NoMemory}
use Rattle.yp_command.specs.office.Seeing.{Seeing}
use Rattle.yp_program.specs.Commands.{Does, MayEnd, may_end}
use Rattle.yp_program.specs.inside.Commands.{parse_status}

usage_may : (command : Result Meaning ℕ) (word : ℕ) → command ≡ Err word → MayEnd command (Usage word)
usage_may (Ok meaning) word e = absurd cc
usage_may (Err other) word e = let same : other ≡ word = cc in rw same refl

command_may : (meaning : Meaning) → may_end meaning NoMemory ≡ true
unfolding may_end
command_may (Once store rows) = refl
command_may (Session own peer stores hosts) = refl
command_may (Serve own port workers connections turns stores hosts log) = refl
command_may (Check store) = refl
command_may (Dump store) = refl
command_may (Build name store flag) = refl
command_may (Load name store flag) = refl
command_may (Xfr name force store host flag) = refl
command_may (Walk name force store host port turns flag) = refl
command_may (Revnet name store) = refl
command_may (Sample start count) = refl
command_may (Push name port window turns store hosts) = refl
command_may (Bind port policy turns domain hosts) = refl
command_may (Portmap port turns) = refl
command_may (CallMapper port turns peer call) = refl
command_may (Ask peer question) = refl
command_may (Orders first others domain) = refl

memory_may : (command : Result Meaning ℕ) → IsSentenceOfWords command → MayEnd command NoMemory
memory_may (Ok meaning) h = command_may meaning
memory_may (Err word) h = absurd h

pub unparsed_may : (command : Result Meaning ℕ) (why : ParseFault) → IsUsage command why → MayEnd command (parse_status why)
unparsed_may command (fault.Usage word) h = usage_may command word h
unparsed_may command fault.NoMemory h = memory_may command h

module _ {S K D C A I T : Type 0} (seen : Seeing S K D C A I T) (outside : Witnessed (OutsideTells S K D C A I T)) where
  usage_does : (command : Result Meaning ℕ) (word : ℕ) → command ≡ Err word → Does seen command (Usage word) outside outside []
  usage_does (Ok meaning) word e = absurd cc
  usage_does (Err other) word e = let same : other ≡ word = cc in rw same (refl, refl, refl)

  memory_does : (command : Result Meaning ℕ) → IsSentenceOfWords command → Does seen command NoMemory outside outside []
  memory_does (Ok meaning) h = inr (record { takes_memory = h; told = refl; stays = refl; unlogged = refl })
  memory_does (Err word) h = absurd h

  pub unparsed_does : (command : Result Meaning ℕ) (why : ParseFault) → IsUsage command why → Does seen command (parse_status why) outside outside []
  unparsed_does command (fault.Usage word) h = usage_does command word h
  unparsed_does command fault.NoMemory h = memory_does command h
