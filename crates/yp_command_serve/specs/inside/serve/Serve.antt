-- The order of `serve` as the code has it, its limits, and its end as it is told.
use Rattle.std.specs.Prelude.{◌≡◌, ◌<◌, ℕ, List, map, Option, Result, Ok, Err}
use Rattle.std.specs.Prelude.{⊤}
use Rattle.yp_board.specs.Catalogues.{Name, name_view}
use Rattle.yp_command.specs.Words.{host_view}
use Rattle.yp_command.specs.declared.command.ServeJob.{ServeJob}
use Rattle.yp_command.specs.declared.office.status.Status.{Status}
use Rattle.yp_command.specs.declared.office.status.Status.TheVariants.{NoMemory}
use Rattle.yp_command.specs.inside.office.Files.{TellsOf}
use Rattle.yp_command_serve.specs.declared.serve.resources.NotHosted.{NotHosted}
use Rattle.yp_command_serve.specs.declared.serve.resources.NotHosted.TheVariants as unhosted
use Rattle.yp_command_serve.specs.declared.serve.tally.Hosted.{Hosted}
use Rattle.yp_command_serve.specs.serve.Serve.{Job, serve_job_of, TellsServed}

-- ---- what is asked for

abbrev pub serve_job_view : ServeJob → Job
serve_job_view job =
    serve_job_of job.name.items job.connections job.turns (map name_view job.stores.items)
    (map host_view job.hosts.items) job.log

-- ---- what is told

-- What is told at the end: what was served, or why nobody was.
abbrev pub TellsServeEnd : Result Hosted NotHosted → List Name → Status → Option (List ℕ) → Option (List ℕ) → Type 0
TellsServeEnd (Ok hosted) names status before after = TellsServed hosted status before after
TellsServeEnd (Err unhosted.NoMemory) names status before after = status ≡ NoMemory
TellsServeEnd (Err (unhosted.Unloaded number why)) names status before after = TellsOf names number why status

-- the number of a map whose file wasn't loaded is that of one of so many
abbrev pub IsWithin : ℕ → NotHosted → Type 0
IsWithin count unhosted.NoMemory = ⊤
IsWithin count (unhosted.Unloaded number why) = number < count
