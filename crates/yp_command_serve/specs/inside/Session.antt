-- How the end of a session is told, with the names of its maps.
use Rattle.std.specs.Prelude.{◌≡◌, ◌<◌, ℕ, List}
use Rattle.std.specs.Prelude.{Result, Ok, Err, ⊤}
use Rattle.yp_board.specs.Catalogues.{Name}
use Rattle.yp_publisher.specs.declared.open.OpenFault.{OpenFault}
use Rattle.yp_publisher.specs.declared.open.OpenFault.TheVariants as opening
use Rattle.yp_answer.specs.declared.session.session.End.{End}
use Rattle.yp_command.specs.inside.office.Files.{TellsOf}
use Rattle.yp_command_serve.specs.Served.{status_of}
use Rattle.yp_command.specs.declared.office.status.Status.{Status}
use Rattle.yp_command.specs.declared.office.status.Status.TheVariants.{NoMemory}

-- How a connection ended, or why it wasn't served, is told by this status, where maps have these names.
abbrev pub TellsSessionEnd : Result End OpenFault → List Name → Status → Type 0
TellsSessionEnd (Ok end) names status = status ≡ status_of end
TellsSessionEnd (Err opening.NoMemory) names status = status ≡ NoMemory
TellsSessionEnd (Err (opening.Refused number why)) names status = TellsOf names number why status

-- the number of a map whose file wasn't loaded is that of one of so many
abbrev pub HasMapNumber : Result End OpenFault → ℕ → Type 0
HasMapNumber (Err (opening.Refused number why)) count = number < count
HasMapNumber served count = ⊤
