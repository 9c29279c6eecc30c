use Rattle.yp_texts.proofs.Behind.{built_is_built_behind}
use Rattle.yp_texts.proofs.laws.built_is_built_behind.Goals as goal

pub returns : goal.returns
returns c = built_is_built_behind
