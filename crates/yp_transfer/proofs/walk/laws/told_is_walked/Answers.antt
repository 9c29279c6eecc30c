use Rattle.yp_transfer.proofs.walk.Along.{told_is_walked}
use Rattle.yp_transfer.proofs.walk.laws.told_is_walked.Goals as goal

pub returns : goal.returns
returns c = told_is_walked c.rising_is_distinct.ensures
