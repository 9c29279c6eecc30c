use Rattle.std.proofs.Common.{arith}
use Rattle.yp_publisher.proofs.Begins.{starts_at}
use Rattle.yp_publisher.proofs.laws.starts_are_shown.Goals as goal

pub returns : goal.returns
returns c = λ versions number. starts_at versions 0 number number (omega arith)
