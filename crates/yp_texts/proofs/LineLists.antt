-- The lines of a text, taken off at its front.
use Rattle.std.proofs.Common.{◌≡◌, ℕ, suc, ◌+◌, ◌<◌, Bool, true, false, not, eqb, List, [], ◌∷◌, ◌++◌, length, get_or}
use Rattle.std.proofs.Common.{append_assoc, ◌&&◌, ◌==◌, refl, sym, ap, ◌∙◌, inl, inr, arith, rules, tests}
use Rattle.std.specs.List.{slice_split, list_any, position_or_len, before_first, after_first, enumerate_from}
use Rattle.std.proofs.lemmas.Bool.{cases_lt, false_from_ne_true}
use Rattle.std.proofs.lemmas.List.{take_all, drop_all}
use Rattle.std.proofs.lemmas.List.Folds.{list_any_at}
use Rattle.std.proofs.lemmas.List.Splits.{slice_split_at, slice_split_first, slice_split_none, length-slice_split}
use Rattle.std.proofs.lemmas.List.Sums.{fails_before_first}
use Rattle.yp_texts.specs.Lines.{Line, is_line_feed, without_empty_end, lines, lines_from, goes_on, before_last_byte}
use Rattle.yp_texts.specs.Lines.{put_before, joined, whole_lines}

without_empty_end-cons : (piece : List ℕ) (pieces : List (List ℕ)) → 0 < length pieces
    → without_empty_end (piece ∷ pieces) ≡ piece ∷ without_empty_end pieces
without_empty_end-cons piece [] some = absurd (omega arith)
without_empty_end-cons piece (next ∷ more) some = refl

without_empty_end-alone : (text : List ℕ) → 0 < length text → without_empty_end (text ∷ []) ≡ text ∷ []
without_empty_end-alone [] some = absurd (omega arith)
without_empty_end-alone (b ∷ text) some = let filled : eqb (length (b ∷ text)) 0 ≡ false = search (rules, tests) in
    rw filled

-- a line ends at the first line feed, or at the end of the text
pub lines-cut : (text : List ℕ) → 0 < length text
    → lines text ≡ before_first is_line_feed text ∷ lines (after_first is_line_feed text)
lines-cut text some =
    elim (cases_lt (position_or_len is_line_feed text) (length text)) [
      | inl h ↦ ap without_empty_end (slice_split_first is_line_feed text 0 h)
          ∙ without_empty_end-cons (before_first is_line_feed text)
          (slice_split is_line_feed (after_first is_line_feed text))
          (omega (arith, length-slice_split is_line_feed (after_first is_line_feed text)))
      | inr h ↦
          let all : before_first is_line_feed text ≡ text = take_all (position_or_len is_line_feed text) text h in
          let none : after_first is_line_feed text ≡ [] =
          drop_all (position_or_len is_line_feed text + 1) text (omega arith) in
          ap without_empty_end (slice_split_none is_line_feed text
          (λ k d below. fails_before_first is_line_feed text k d (omega arith))) ∙ without_empty_end-alone text some
          ∙ sym (rw (all, none) refl)
    ]

-- a line is what stands before a line feed, where none stands in it
pub lines-ended : (line rest : List ℕ) → list_any is_line_feed line ≡ false
    → lines (line ++ 10 ∷ rest) ≡ line ∷ lines rest
lines-ended line rest none =
    let no_feed : (k d : ℕ) → k < length line → is_line_feed (get_or line k d) ≡ false =
    λ k d below. false_from_ne_true (is_line_feed (get_or line k d))
    (λ feed. let some : list_any is_line_feed line ≡ true = list_any_at is_line_feed line k d below feed in cc) in
    ap without_empty_end (slice_split_at is_line_feed line 10 rest no_feed refl)
    ∙ without_empty_end-cons line (slice_split is_line_feed rest)
    (omega (arith, length-slice_split is_line_feed rest))

pub lines_from-cut : (number : ℕ) (text line rest : List ℕ) → lines text ≡ line ∷ lines rest
    → lines_from number text ≡ (number, line) ∷ lines_from (number + 1) rest
lines_from-cut number text line rest e = ap (enumerate_from number) e

-- ---- continuation lines

put_before-end : (line : Line) → put_before line [] ≡ line ∷ []
put_before-end line = refl

put_before-stays : (line : Line) (more : List Line) → goes_on line.1 ≡ false → put_before line more ≡ line ∷ more
put_before-stays line [] e = refl
put_before-stays line (next ∷ more) e = rw e

put_before-goes_on : (line next : Line) (more : List Line) → goes_on line.1 ≡ true
    → put_before line (next ∷ more) ≡ (line.0, before_last_byte line.1 ++ 32 ∷ next.1) ∷ more
put_before-goes_on line next more e = rw e

-- a line that goes on, before the line that the rest of the text begins with
pub joined-cut : (number : ℕ) (text line rest : List ℕ) → lines text ≡ line ∷ lines rest → goes_on line ≡ true
    → (next : List ℕ) (more : List Line) → joined (lines_from (number + 1) rest) ≡ (number + 1, next) ∷ more
    → joined (lines_from number text) ≡ (number, before_last_byte line ++ 32 ∷ next) ∷ more
joined-cut number text line rest e on next more h =
    ap joined (lines_from-cut number text line rest e) ∙ ap (put_before (number, line)) h
    ∙ put_before-goes_on (number, line) (number + 1, next) more on

pub append-joined : (buffer front next : List ℕ)
    → ((buffer ++ front) ++ 32 ∷ []) ++ next ≡ buffer ++ (front ++ 32 ∷ next)
append-joined buffer front next = simp append_assoc

-- ---- a first line, alone or with the lines in which it goes on

goes_on-alone : (n : ℕ) (on : Bool) → (true && (not (suc n == 0) && on)) ≡ false → on ≡ false
goes_on-alone n on alone = search (rules, tests)

pub whole_lines-alone : (joins : Bool) (number : ℕ) (text line rest : List ℕ) → lines text ≡ line ∷ lines rest
    → (joins && (not (length rest == 0) && goes_on line)) ≡ false
    → whole_lines joins number text ≡ (number, line) ∷ whole_lines joins (number + 1) rest
whole_lines-alone false number text line rest e alone = lines_from-cut number text line rest e
whole_lines-alone true number text line [] e alone = ap joined (lines_from-cut number text line [] e)
whole_lines-alone true number text line (b ∷ rest) e alone = ap joined (lines_from-cut number text line (b ∷ rest) e)
    ∙ put_before-stays (number, line) (joined (lines_from (number + 1) (b ∷ rest)))
    (goes_on-alone (length rest) (goes_on line) alone)

pub whole_lines-joined : (joins more : Bool) (number next : ℕ) (text line rest : List ℕ) → (joins && more) ≡ true
    → joined (lines_from number text) ≡ (number, line) ∷ joined (lines_from next rest)
    → whole_lines joins number text ≡ (number, line) ∷ whole_lines joins next rest
whole_lines-joined false more number next text line rest on e = cc
whole_lines-joined true more number next text line rest on e = e

pub some_if_continued : (more : List ℕ) (on : Bool) → (true && (not (length more == 0) && on)) ≡ true → 0 < length more
some_if_continued [] on e = cc
some_if_continued (b ∷ more) on e = omega arith

pub goes_on_if_continued : (some on : Bool) → (true && (some && on)) ≡ true → on ≡ true
goes_on_if_continued false on e = cc
goes_on_if_continued true on e = e
