use Rattle.std.proofs.Common.{◌≡◌, ℕ, ◌+◌, ◌-◌, true, false, not, ◌&&◌, ◌==◌, List, ◌∷◌, ◌++◌, [], length, take, sym}
use Rattle.std.proofs.Common.{ap, ◌∙◌, arith}
use Rattle.yp_texts.specs.Lines.{goes_on, lines_from, joined}
use Rattle.yp_texts.proofs.LineLists.{joined-cut, append-joined, whole_lines-alone, some_if_continued}
use Rattle.yp_texts.proofs.LineLists.{goes_on_if_continued}
use Rattle.yp_texts.proofs.lines.join.Goals as goal

pub loop-buffer-preserved : goal.loop-buffer-preserved
loop-buffer-preserved c =
    let line = c.cut_line.result.0.now in
    let rest = c.cut_line.result.1.now in
    let front = take (length line - 1) line in
    let on : (true && (not (length rest == 0) && goes_on line)) ≡ true = sym c.is_continued.ensures
    ∙ c.if-is_continued.true in
    let items : c.push.new.self.items ≡ (c.loop-buffer.buffer.items ++ front) ++ 32 ∷ [] = c.in_ok-push.ensures.items
    ∙ ap (λ front. front ++ 32 ∷ []) c.in_ok-extend_from_slice.ensures.items in
    record {
      some = some_if_continued rest (goes_on line) on;
      within = omega (arith, c.cut_line.ensures.shorter);
      numbers = omega (arith, c.cut_line.ensures.shorter);
      joined_after = λ next more h.
          c.loop-buffer.invariant.joined_after (front ++ 32 ∷ next) more
          (joined-cut c.loop-buffer.next c.loop-buffer.rest.now line rest c.cut_line.ensures.lines
          (goes_on_if_continued (not (length rest == 0)) (goes_on line) on) next more h)
          ∙ ap (λ (bytes : List ℕ). (c.args.number, bytes) ∷ more) (sym (ap (λ bytes. bytes ++ next) items
          ∙ append-joined c.loop-buffer.buffer.items front next));
    }

pub returns-else-is_continued-clause-lines : goal.returns-else-is_continued-clause-lines
returns-else-is_continued-clause-lines c =
    let line = c.cut_line.result.0.now in
    let rest = c.cut_line.result.1.now in
    let alone : (true && (not (length rest == 0) && goes_on line)) ≡ false = sym c.is_continued.ensures
    ∙ c.if-is_continued.false in
    c.loop-buffer.invariant.joined_after line (joined (lines_from (c.loop-buffer.next + 1) rest))
    (whole_lines-alone true c.loop-buffer.next c.loop-buffer.rest.now line rest c.cut_line.ensures.lines alone)
    ∙ ap (λ (bytes : List ℕ). (c.args.number, bytes) ∷ joined (lines_from (c.loop-buffer.next + 1) rest))
    (sym c.in_ok-extend_from_slice-2.ensures.items)
