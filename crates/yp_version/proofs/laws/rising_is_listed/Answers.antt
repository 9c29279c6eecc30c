use Rattle.yp_version.proofs.Unique.{rising_is_listed}
use Rattle.yp_version.proofs.laws.rising_is_listed.Goals as goal

pub returns : goal.returns
returns c = rising_is_listed
