-- What was put of a reply.
use Rattle.std.specs.Prelude.{◌≡◌, ℕ, Bool, true, false, List, ◌++◌, take, Option, None}
use Rattle.std.specs.Io.KnownBytes.{Appends}
use Rattle.yp_answer.specs.session.Runs.{sent_reply}
use Rattle.yp_answer.specs.inside.session.Cuts.{OpenReply, rest_of}

-- The whole reply was put, but for what is left of it where it is open; or, where memory ran out, a front of it was.
abbrev pub Puts : Option (List ℕ) → Bool → Option OpenReply → Option (List ℕ) → Option (List ℕ) → Type 0
Puts answer false stream old new =
    (out : List ℕ) × Appends old new out × (sent_reply answer ≡ out ++ rest_of stream)
Puts answer true stream old new =
    (stream ≡ None) × (n : ℕ) × Appends old new (take n (sent_reply answer))
