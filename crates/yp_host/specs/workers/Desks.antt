-- What a desk has that workers share.
use Rattle.std.specs.Prelude.{ℕ, List, Option, None}
use Rattle.yp_answer.specs.Causes.{Told}

-- texts are told, and no moment is: between two looks at the clock of another thread's desk it may have gone on
abbrev pub texts_alone : (List ℕ → Option (List ℕ)) → Told
texts_alone text = record { text = text; moment = None }
