use Rattle.yp_end_to_end.proofs.transfer.Between.{shown_between}
use Rattle.yp_end_to_end.proofs.transfer.laws.shown_between.Goals as goal

pub returns : goal.returns
returns c = shown_between
