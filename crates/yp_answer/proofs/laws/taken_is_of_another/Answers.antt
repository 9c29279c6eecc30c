use Rattle.yp_rpc.specs.Judging.{judged}
use Rattle.yp_answer.specs.Procedures.{programs_on}
use Rattle.yp_answer.proofs.Opened.{taken_is_asked}
use Rattle.yp_answer.proofs.Untaken.{taken_is_unmastered}
use Rattle.yp_answer.proofs.laws.taken_is_of_another.Goals as goal

pub returns : goal.returns
returns c = λ path maps peer message bytes taken version e is.
    taken_is_unmastered maps peer bytes taken version (taken_is_asked path maps peer message (judged (programs_on path) message) bytes taken e) is
