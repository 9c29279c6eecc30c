use Rattle.yp_version.proofs.Moved.{listed_moves}
use Rattle.yp_version.proofs.laws.listed_is_permutation.Goals as goal

pub returns : goal.returns
returns c = listed_moves
