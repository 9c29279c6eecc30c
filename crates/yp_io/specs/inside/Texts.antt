-- The first text of a name.
use Rattle.std.specs.Prelude.{ℕ, List, [], ◌∷◌, Option, None, Some, bytes_eq, if◌then◌else◌}

abbrev pub text_of : List ℕ → List (List ℕ × List ℕ) → Option (List ℕ)
text_of name [] = None
text_of name (text ∷ texts) = if bytes_eq text.0 name then Some text.1 else text_of name texts
