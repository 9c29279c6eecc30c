use Rattle.std.proofs.Common.{◌≡◌, ◌+◌, drop}
use Rattle.std.specs.List.{position_or_len}
use Rattle.yp_version.specs.Blanks.{is_blank}
use Rattle.yp_texts.proofs.words.place_of_blank.Given as goal

abbrev pub invariant-loop-i : goal.invariant-loop-i
invariant-loop-i l = l.i + position_or_len is_blank (drop l.i l.line) ≡ position_or_len is_blank l.line
