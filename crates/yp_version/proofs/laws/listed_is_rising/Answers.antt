use Rattle.yp_version.proofs.Listed.{listed_rises}
use Rattle.yp_version.proofs.laws.listed_is_rising.Goals as goal

pub returns : goal.returns
returns c = listed_rises
