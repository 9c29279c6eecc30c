-- The book whose history is a log, and what the steps on it tell.
use Rattle.std.specs.Prelude.{ℕ, ◌≡◌, ◌<◌, ◌≤◌, ◌+◌, true, List, [], ◌∷◌, ◌++◌, length, nat_lt}
use Rattle.logbook.specs.Pages.{Cell, cell, Step, View, Book, Named, Nib, nib, may_write, may_make}

-- The first word of a book counts its words. Of those, the first two are at home, and one more for each entry of the
-- log. So an entry comes with the first word that isn't at home, and only whoever has the pen of that one makes the log
-- longer.
pub record IsCounted {E : Type 0} (cells : List Cell) (log : List E) : Type 0 where
  pub count : cell cells 0 ≡ (length cells, true)
  pub home : (key : ℕ) → 0 < key → key < length cells → (cell cells key).1 ≡ nat_lt key (length log + 2)
  pub within : length log + 2 ≤ length cells

-- the first word of a book
abbrev pub head_of : Book → Named
head_of book = record { tracked = true; key = 0; book = book }

-- the right to bring home the word that the next entry comes with
pub record IsNext {E : Type 0} (log : List E) (pen : Nib) : Type 0 where
  pub right : pen.right ≡ may_write
  pub key : pen.key ≡ length log + 2

-- where there were as many words as expected, there is one more, and the right to make it
abbrev pub OpensHistory : {E : Type 0} → Step E → View E ℕ → ℕ → View E ℕ → Type 0
OpensHistory step before found after = found ≡ step.old → after.1.0 ≡ nib may_make step.old 0

-- the entry stands behind all that had been seen
abbrev pub Adds : {E : Type 0} → Step E → View E ℕ → ℕ → View E ℕ → Type 0
Adds step before found after = after.0 ≡ before.0 ++ step.ask ∷ []

-- the log is no longer than the pen tells, and the pen is as it was
abbrev pub Looks : {E : Type 0} → Step E → View E ℕ → ℕ → View E ℕ → Type 0
Looks step before found after = (length after.0 + 2 ≤ before.1.0.key) × (after.1.0 ≡ before.1.0)
