-- What is made of a map, by its parts, and as the code has it.
use Rattle.std.specs.Prelude.{ℕ, List, Option, option_map}
use Rattle.yp_version.specs.Versions.{MapVersion}
use Rattle.yp_texts.specs.declared.reading.Reading.{Reading}
use Rattle.yp_texts.specs.Readings.{source_of}
use Rattle.yp_answer.specs.Make.{map_name}
use Rattle.yp_answer.specs.Causes.{Matter, OfText, Task, task_with}
use Rattle.yp_host.specs.declared.anew.BuildTask.{BuildTask}

abbrev pub task_from : Matter → (own : List ℕ) → (last : Option MapVersion) → Task
task_from matter own last = record { matter = matter; own = own; last = last }

-- what is shown of the netgroups
abbrev pub netgroups_in : BuildTask → Option MapVersion
netgroups_in task = option_map (λ version. version.now) task.netgroups

-- what is shown of the map
abbrev pub shown_in : BuildTask → Option MapVersion
shown_in task = option_map (λ version. version.now) task.shown

-- what is made of the text of the map, which is read so
abbrev pub task_of_text : Reading → BuildTask → Task
task_of_text reading task =
    task_from (OfText reading (source_of reading (map_name task.job.map task.catalog.now))) task.catalog.now.own
    (shown_in task)

abbrev pub task_view : BuildTask → Task
task_view task = task_with task.catalog.now task.job (netgroups_in task) (shown_in task)
