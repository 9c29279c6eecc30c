use Rattle.yp_version.proofs.Unique.{rising_stays}
use Rattle.yp_version.proofs.laws.rising_stays.Goals as goal

pub returns : goal.returns
returns c = rising_stays
