use Rattle.yp_answer.proofs.MakeAnswers.{make_answered}
use Rattle.yp_answer.proofs.laws.make_is_answered.Goals as goal

pub returns : goal.returns
returns c = make_answered
