-- The words of a line, taken off at its front.
use Rattle.std.proofs.Common.{◌≡◌, ℕ, suc, ◌+◌, ◌<◌, ◌≤◌, Bool, true, false, List, [], ◌∷◌, length, drop, refl, sym, ap}
use Rattle.std.proofs.Common.{◌∙◌, inl, inr, arith, rules, tests}
use Rattle.std.specs.List.{slice_split, filter, prefix_len, position_or_len, before_first, after_first}
use Rattle.std.proofs.lemmas.Bool.{cases_lt}
use Rattle.std.proofs.lemmas.List.{take_all, drop_all}
use Rattle.std.proofs.lemmas.List.Splits.{slice_split-cons_yes, slice_split_first, slice_split_none}
use Rattle.std.proofs.lemmas.List.Sums.{prefix_len-drop_no, prefix_len-drop_all, prefix_len_stops, fails_before_first}
use Rattle.yp_version.specs.Blanks.{is_blank, without_front_blanks}
use Rattle.yp_texts.specs.Words.{is_filled, words}

is_filled-cons : (b : ℕ) (piece : List ℕ) → is_filled (b ∷ piece) ≡ true
is_filled-cons b piece = search (rules, tests)

module _ (p : ℕ → Bool) where
  abbrev pieces : List ℕ → List (List ℕ)
  pieces line = filter is_filled (slice_split p line)

  abbrev trimmed : List ℕ → List ℕ
  trimmed line = drop (prefix_len p line) line

  trimmed-cons_yes : (b : ℕ) (line : List ℕ) → p b ≡ true → trimmed (b ∷ line) ≡ trimmed line
  trimmed-cons_yes b line e = let more : 1 + prefix_len p line ≡ suc (prefix_len p line) = omega arith in rw (e, more)

  trimmed-cons_no : (b : ℕ) (line : List ℕ) → p b ≡ false → trimmed (b ∷ line) ≡ b ∷ line
  trimmed-cons_no b line e = rw e

  pieces-cons_yes : (b : ℕ) (line : List ℕ) → p b ≡ true → pieces (b ∷ line) ≡ pieces line
  pieces-cons_yes b line e = ap (filter is_filled) (slice_split-cons_yes p b line e)

  pieces-trimmed_step : (b : ℕ) (line : List ℕ) (passes : Bool) → p b ≡ passes → pieces (trimmed line) ≡ pieces line
      → pieces (trimmed (b ∷ line)) ≡ pieces (b ∷ line)
  pieces-trimmed_step b line true e h = ap pieces (trimmed-cons_yes b line e) ∙ h ∙ sym (pieces-cons_yes b line e)
  pieces-trimmed_step b line false e h = ap pieces (trimmed-cons_no b line e)

  -- what passes at the front of a line changes no pieces
  pub pieces-trimmed : (line : List ℕ) → pieces (trimmed line) ≡ pieces line
  pieces-trimmed [] = refl
  pieces-trimmed (b ∷ line) = pieces-trimmed_step b line (p b) refl (pieces-trimmed line)

  before-cons_no : (b : ℕ) (line : List ℕ) → p b ≡ false → before_first p (b ∷ line) ≡ b ∷ before_first p line
  before-cons_no b line e = let more : 1 + position_or_len p line ≡ suc (position_or_len p line) = omega arith in
      rw (e, more)

  pieces-kept : (b : ℕ) (line : List ℕ) (parts : List (List ℕ)) → p b ≡ false
      → filter is_filled (before_first p (b ∷ line) ∷ parts) ≡ before_first p (b ∷ line) ∷ filter is_filled parts
  pieces-kept b line parts e = let filled : is_filled (before_first p (b ∷ line)) ≡ true =
      ap is_filled (before-cons_no b line e) ∙ is_filled-cons b _ in rw filled

  -- a line in which nothing passes
  alone : (xs : List ℕ) → length xs ≤ position_or_len p xs → is_filled xs ≡ true
      → filter is_filled (xs ∷ []) ≡ before_first p xs ∷ pieces (after_first p xs)
  alone xs h filled =
      let all : before_first p xs ≡ xs = take_all (position_or_len p xs) xs h in
      let none : after_first p xs ≡ [] = drop_all (position_or_len p xs + 1) xs (omega arith) in
      rw (all, none, filled)

  pieces-cons_no : (b : ℕ) (line : List ℕ) → p b ≡ false
      → pieces (b ∷ line) ≡ before_first p (b ∷ line) ∷ pieces (after_first p (b ∷ line))
  pieces-cons_no b line e =
      elim (cases_lt (position_or_len p (b ∷ line)) (length (b ∷ line))) [
        | inl h ↦ ap (filter is_filled) (slice_split_first p (b ∷ line) 0 h)
            ∙ pieces-kept b line (slice_split p (after_first p (b ∷ line))) e
        | inr h ↦ ap (filter is_filled)
            (slice_split_none p (b ∷ line) (λ k d below. fails_before_first p (b ∷ line) k d (omega arith)))
            ∙ alone (b ∷ line) h (is_filled-cons b line)
      ]

  pieces-first_step : (b : ℕ) (line : List ℕ) (passes : Bool) → p b ≡ passes → prefix_len p (b ∷ line) ≡ 0
      → pieces (b ∷ line) ≡ before_first p (b ∷ line) ∷ pieces (after_first p (b ∷ line))
  pieces-first_step b line true e none = let some : 1 + prefix_len p line ≡ 0 = rw e at none in absurd (omega arith)
  pieces-first_step b line false e none = pieces-cons_no b line e

  -- what does not pass at the front begins the first of the pieces
  pub pieces-first : (line : List ℕ) → prefix_len p line ≡ 0 → 0 < length line
      → pieces line ≡ before_first p line ∷ pieces (after_first p line)
  pieces-first [] none some = absurd (omega arith)
  pieces-first (b ∷ line) none some = pieces-first_step b line (p b) refl none

  prefix_len-trimmed : (line : List ℕ) → prefix_len p (trimmed line) ≡ 0
  prefix_len-trimmed line =
      elim (cases_lt (prefix_len p line) (length line)) [
        | inl h ↦ prefix_len-drop_no p line (prefix_len p line) 0 h (prefix_len_stops p line 0 h)
        | inr h ↦ prefix_len-drop_all p line (prefix_len p line) h
      ]

  pieces-nil : (line : List ℕ) → length line ≡ 0 → pieces line ≡ []
  pieces-nil [] none = refl
  pieces-nil (b ∷ line) none = absurd (omega arith)

-- a line is cut at its first blank, after those at its front
pub words-cut : (line bare : List ℕ) → bare ≡ without_front_blanks line → 0 < length bare
    → words line ≡ before_first is_blank bare ∷ words (after_first is_blank bare)
words-cut line bare e some =
    let none : prefix_len is_blank bare ≡ 0 = ap (prefix_len is_blank) e ∙ prefix_len-trimmed is_blank line in
    sym (pieces-trimmed is_blank line) ∙ sym (ap words e) ∙ pieces-first is_blank bare none some

pub words-none : (line : List ℕ) → length (without_front_blanks line) ≡ 0 → words line ≡ []
words-none line none = sym (pieces-trimmed is_blank line) ∙ pieces-nil is_blank (without_front_blanks line) none
