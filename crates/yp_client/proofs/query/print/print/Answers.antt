use Rattle.std.proofs.Common.{◌≡◌, ◌++◌, ℕ, List, Bool, true, false, Option}
use Rattle.std.specs.Prelude.{IsSomeAnd}
use Rattle.yp_io.specs.Streams.{AppendsFront}
use Rattle.yp_client.specs.Questions.{ByteQuestion}
use Rattle.yp_client.specs.declared.query.answer.Answer.{Answer}
use Rattle.yp_client.specs.declared.query.answer.Answer.TheVariants.{Membership}
use Rattle.yp_client.specs.inside.query.Answers.{answer_text, answer_outcome}
use Rattle.yp_client.specs.query.Scenes.{outcome_text}
use Rattle.yp_client.proofs.query.Putting.{front_behind}
use Rattle.yp_client.proofs.query.print.print.Goals as goal

-- the text of an answer is that of what it comes to
answer_front : (question : ByteQuestion) (answer : Answer) (before after : Option (List ℕ))
    → AppendsFront (answer_text answer) before after
    → IsSomeAnd (outcome_text question (answer_outcome answer)) (λ text. AppendsFront text before after)
answer_front question (Membership true) before after h = h
answer_front question (Membership false) before after h = h
answer_front question answer before after h = h

pub returns-in-Err-end-clause-prints : goal.returns-in-Err-end-clause-prints
returns-in-Err-end-clause-prints g c = λ question.
    let put = c.in-Ok.ensures.puts in
    let waits = c.print_answer.new.text in
    let whole : answer_text c.args.answer.now ≡ put.0 ++ waits = rw c.in_ok-text.ensures at put.2 in
    answer_front question c.args.answer.now _ _
    (rw whole (front_behind put.0 waits _ _ _ put.1 c.in-Err-end.ensures.front))
