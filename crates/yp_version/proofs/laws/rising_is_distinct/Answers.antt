use Rattle.yp_version.proofs.Unique.{rising_is_distinct}
use Rattle.yp_version.proofs.laws.rising_is_distinct.Goals as goal

pub returns : goal.returns
returns c = rising_is_distinct
