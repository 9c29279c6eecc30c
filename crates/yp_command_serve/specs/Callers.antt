-- What the program answers without a server: the calls of nobody, who is let to no MAKE.
use Rattle.std.specs.Prelude.{ℕ, List, Option}
use Rattle.yp_answer.specs.declared.procedure.Path.TheVariants.{Stream}
use Rattle.yp_answer.specs.Maps.{Maps}
use Rattle.yp_answer.specs.Reply.{reply, reply_at_once}
use Rattle.yp_command.specs.Words.{nobody}

-- the reply to a record from nobody, or silence
abbrev pub reply_to : Maps → List ℕ → Option (List ℕ)
reply_to maps message = reply_at_once (reply Stream maps nobody message)
