use Rattle.std.proofs.Common.{rules}
use Rattle.yp_map_file.proofs.Steps.{quiet_image}
use Rattle.yp_map_file.proofs.slot.Slot.survey.Goals as goal

pub returns-clause-durable : goal.returns-clause-durable
returns-clause-durable g c = rw c.release.ensures.same (search (rules, quiet_image))
