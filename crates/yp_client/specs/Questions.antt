-- What a client asks of a server.
use Rattle.std.specs.Prelude.{ℕ, List, Vec}
use Rattle.std.specs.Option.{option_map}
use Rattle.std.specs.declared.alloc.Global.{Global}
use Rattle.yp_client.specs.declared.question.Question.{Question}
use Rattle.yp_client.specs.declared.question.Question.TheVariants.{Cat, Catk, Match, Which, Poll, Maps, Innetgr}
use Rattle.yp_client.specs.declared.question.Question.TheVariants.{Pull, Make}

-- a question, each name and key of which is replaced
abbrev pub question_map : {A B : Type 0} → (A → B) → Question A → Question B
question_map f (Cat domain map) = Cat (f domain) (f map)
question_map f (Catk domain map) = Catk (f domain) (f map)
question_map f (Match domain map key) = Match (f domain) (f map) (f key)
question_map f (Which domain map) = Which (f domain) (f map)
question_map f (Poll domain map) = Poll (f domain) (f map)
question_map f (Maps domain) = Maps (f domain)
question_map f (Pull domain map source) = Pull (f domain) (f map) (f source)
question_map f (Make domain map) = Make (f domain) (f map)
question_map f (Innetgr domain group host user user_domain) =
    Innetgr (f domain) (f group) (option_map f host) (option_map f user) (option_map f user_domain)

-- a question in bytes
abbrev pub ByteQuestion : Type 0
ByteQuestion = Question (List ℕ)

abbrev pub bytes_of : Question (Vec ℕ Global) → ByteQuestion
bytes_of question = question_map (λ bytes. bytes.items) question
