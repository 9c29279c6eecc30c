-- What stands in a line: fields (passwd(5), group(5)), words (hosts(5), services(5), netgroup(5)), and comments (these
-- and protocols(5)).
use Rattle.std.specs.Prelude.{ℕ, Bool, not, ◌==◌, List, length}
use Rattle.std.specs.List.{slice_split, filter, before_first, after_first}
use Rattle.yp_version.specs.Blanks.{is_blank, without_front_blanks, bare}

abbrev pub is_colon : ℕ → Bool
is_colon b = b == 58

abbrev pub is_number_sign : ℕ → Bool
is_number_sign b = b == 35

-- the fields, with a colon between each two
abbrev pub fields : List ℕ → List (List ℕ)
fields line = slice_split is_colon line

abbrev pub is_filled : List ℕ → Bool
is_filled piece = not (length piece == 0)

-- the words, with blanks between each two
abbrev pub words : List ℕ → List (List ℕ)
words line = filter is_filled (slice_split is_blank line)

-- what follows the first word and the blanks after it
abbrev pub after_word : List ℕ → List ℕ
after_word line = without_front_blanks (after_first is_blank (without_front_blanks line))

-- the line without its comment, then without the blanks at both ends
abbrev pub uncommented : List ℕ → List ℕ
uncommented line = bare (before_first is_number_sign line)
