use Rattle.std.proofs.Common.{◌≡◌, ◌+◌, ◌<◌, ◌≤◌, ℕ, List, ◌∷◌, ◌++◌, length}
use Rattle.yp_texts.specs.Lines.{Line, lines_from, joined}
use Rattle.yp_texts.proofs.lines.join.Given as goal

abbrev pub invariant-loop-buffer : goal.invariant-loop-buffer
invariant-loop-buffer l = record {
  some : 0 < length l.rest;
  within : length l.rest ≤ length l.text;
  numbers : l.next + length l.rest ≤ l.number + length l.text;
  joined_after : (line : List ℕ) (more : List Line) → joined (lines_from l.next l.rest) ≡ (l.next, line) ∷ more
      → joined (lines_from l.number l.text) ≡ (l.number, l.buffer.items ++ line) ∷ more;
}

abbrev pub decreases-loop-buffer : goal.decreases-loop-buffer
decreases-loop-buffer l = length l.rest
