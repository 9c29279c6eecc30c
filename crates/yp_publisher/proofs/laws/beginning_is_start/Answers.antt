use Rattle.yp_publisher.proofs.Begins.{beginning_is_start}
use Rattle.yp_publisher.proofs.laws.beginning_is_start.Goals as goal

pub returns : goal.returns
returns c = beginning_is_start
