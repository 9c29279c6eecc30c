-- The blanks in a text of a row (netgroup(5), hosts(5)).
use Rattle.std.specs.Prelude.{ℕ, ◌-◌, Bool, ◌||◌, ◌==◌, List, length, take, drop}
use Rattle.std.specs.List.{prefix_len, suffix_len}

-- a space or a tab
abbrev pub is_blank : ℕ → Bool
is_blank b = b == 32 || b == 9

abbrev pub without_front_blanks : List ℕ → List ℕ
without_front_blanks text = drop (prefix_len is_blank text) text

abbrev pub without_back_blanks : List ℕ → List ℕ
without_back_blanks text = take (length text - suffix_len is_blank text) text

-- freed of the blanks at both ends
abbrev pub bare : List ℕ → List ℕ
bare text = without_back_blanks (without_front_blanks text)
