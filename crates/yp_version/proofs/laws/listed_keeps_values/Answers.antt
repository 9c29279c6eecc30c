use Rattle.yp_version.proofs.Listed.{value_of-listed}
use Rattle.yp_version.proofs.laws.listed_keeps_values.Goals as goal

pub returns : goal.returns
returns c = value_of-listed
