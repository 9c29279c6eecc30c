-- The names and the key of a question are within their limits.
use Rattle.std.specs.Prelude.{◌≤◌, length}
use Rattle.yp_messages.specs.Numbers.{name_max, key_max}
use Rattle.yp_client.specs.declared.question.Question.TheVariants.{Cat, Catk, Match, Which, Poll, Maps, Innetgr}
use Rattle.yp_client.specs.declared.question.Question.TheVariants.{Pull, Make}
use Rattle.yp_client.specs.Questions.{ByteQuestion}

-- its names and its key are within their limits
abbrev pub QuestionIsWithin : ByteQuestion → Type 0
QuestionIsWithin (Cat domain map) = (length domain ≤ name_max) × (length map ≤ name_max)
QuestionIsWithin (Catk domain map) = (length domain ≤ name_max) × (length map ≤ name_max)
QuestionIsWithin (Match domain map key) =
    (length domain ≤ name_max) × (length map ≤ name_max) × (length key ≤ key_max)
QuestionIsWithin (Which domain map) = (length domain ≤ name_max) × (length map ≤ name_max)
QuestionIsWithin (Poll domain map) = (length domain ≤ name_max) × (length map ≤ name_max)
QuestionIsWithin (Maps domain) = length domain ≤ name_max
QuestionIsWithin (Pull domain map source) =
    (length domain ≤ name_max) × (length map ≤ name_max) × (length source ≤ name_max)
QuestionIsWithin (Make domain map) = (length domain ≤ name_max) × (length map ≤ name_max)
QuestionIsWithin (Innetgr domain group host user user_domain) = length domain ≤ name_max
