use Rattle.yp_publisher.proofs.Rises.{log_rises}
use Rattle.yp_publisher.proofs.laws.log_rises.Goals as goal

pub returns : goal.returns
returns c = log_rises
