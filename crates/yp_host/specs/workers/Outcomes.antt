-- What transfers come to.
use Rattle.yp_io.specs.Counts.{next_count}
use Rattle.yp_host.specs.declared.workers.outcome.Group.{Group}
use Rattle.yp_host.specs.declared.workers.outcome.Group.TheVariants.{NoAddress, NoMemory, File, Source, Reached}
use Rattle.yp_host.specs.declared.workers.outcome.Outcomes.{Outcomes}

-- the outcomes with one more transfer of this group
abbrev pub counted_in : Group → Outcomes → Outcomes
counted_in NoAddress outcomes = record outcomes { no_address = next_count outcomes.no_address }
counted_in NoMemory outcomes = record outcomes { no_memory = next_count outcomes.no_memory }
counted_in File outcomes = record outcomes { file = next_count outcomes.file }
counted_in Source outcomes = record outcomes { source = next_count outcomes.source }
counted_in Reached outcomes = record outcomes { reached = next_count outcomes.reached }
