use Rattle.yp_answer.proofs.ReadArguments.{reads_arguments, fits_arguments}
use Rattle.yp_answer.proofs.arguments.read_arguments.Goals as goal

pub returns-clause-read : goal.returns-clause-read
returns-clause-read g c = reads_arguments _ _ _ c.read.result _ _ c.new.ensures c.read.ensures.read

pub returns-clause-fits : goal.returns-clause-fits
returns-clause-fits g c = fits_arguments _ _ c.read.result _ _ c.read.ensures.spelled
