use Rattle.yp_transfer.proofs.walk.Along.{told_is_whole}
use Rattle.yp_transfer.proofs.walk.laws.told_is_whole.Goals as goal

pub returns : goal.returns
returns c = told_is_whole c.rising_is_distinct.ensures
