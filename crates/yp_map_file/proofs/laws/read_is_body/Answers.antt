use Rattle.yp_map_file.proofs.Whole.{body_is_spelled}
use Rattle.yp_map_file.proofs.laws.read_is_body.Goals as goal

pub returns : goal.returns
returns c = body_is_spelled c.read_is_spelled.ensures
