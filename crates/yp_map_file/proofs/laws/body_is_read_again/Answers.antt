use Rattle.std.proofs.Common.{ap, ◌∙◌}
use Rattle.yp_map_file.specs.Bodies.{body_at}
use Rattle.yp_map_file.proofs.Again.{body_again}
use Rattle.yp_map_file.proofs.laws.body_is_read_again.Goals as goal

pub returns : goal.returns
returns c = λ bytes version is. ap body_at is.spelled ∙ body_again c.written_is_read_again.ensures version is.within
