use Rattle.std.proofs.Common.{ap, ◌∙◌}
use Rattle.yp_command_serve.specs.Sample.{tally_of}
use Rattle.yp_command_serve.proofs.sample.sampled.Goals as goal

pub returns-in-Ok-tally_of-clause-tally : goal.returns-in-Ok-tally_of-clause-tally
returns-in-Ok-tally_of-clause-tally g c = c.in-Ok-tally_of.ensures ∙ ap tally_of c.in-Ok.ensures.version
