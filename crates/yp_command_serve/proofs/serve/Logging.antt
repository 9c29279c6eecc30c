-- Lines of a log, one behind the other.
use Rattle.std.proofs.Common.{◌≡◌, ℕ, ◌≤◌, List, [], ◌∷◌, ◌++◌, true, Option, Result, Ok, Err, refl, sym, ap, ◌∙◌, subst}
use Rattle.std.proofs.Common.{append_assoc, arith}
use Rattle.std.proofs.KnownBytes.{Appends-nil, Appends-trans}
use Rattle.std.proofs.lemmas.List.{append-nil}
use Rattle.std.proofs.lemmas.List.Concat.{flat_map-append}
use Rattle.std.specs.Io.KnownBytes.{Appends}
use Rattle.std.specs.Option.{option_map_or}
use Rattle.std.specs.Prelude.{OnOk, OnErr, ⊤}
use Rattle.yp_io.specs.Counts.{HasRisen, CountsFaults}
use Rattle.yp_io.specs.declared.stream.Failed.{Failed}
use Rattle.yp_board.specs.Catalogues.{Name}
use Rattle.yp_host.specs.declared.workers.outcome.Totals.{Totals}
use Rattle.yp_command_serve.specs.serve.Log.{LogLine, line_text, lines_text, totals_text, IsLog}
use Rattle.yp_command_serve.specs.inside.serve.Log.{WritesLines}

-- three pieces, one behind the other
pub three : (a b c d first second third : List ℕ) → b ≡ a ++ first → c ≡ b ++ second → d ≡ c ++ third
    → d ≡ a ++ (first ++ (second ++ third))
three a b c d first second third p q r =
    r ∙ ap (λ (l : List ℕ). l ++ third) (q ∙ ap (λ (l : List ℕ). l ++ second) p)
    ∙ append_assoc (a ++ first) second third ∙ append_assoc a first (second ++ third)

module _ (maps : List Name) where
  pub no_lines : (a : Option (List ℕ)) → WritesLines maps a a
  no_lines a = record { lines = []; written = Appends-nil a }

  pub one_line : (line : LogLine) (a b : Option (List ℕ)) (text : List ℕ) → text ≡ line_text maps line
      → Appends a b text → WritesLines maps a b
  one_line line a b text is h = record {
    lines = line ∷ [];
    written = subst (λ (t : List ℕ). Appends a b t) (sym (append-nil (line_text maps line)))
        (subst (λ (t : List ℕ). Appends a b t) is h);
  }

  pub more_lines : (a b c : Option (List ℕ)) → WritesLines maps a b → WritesLines maps b c → WritesLines maps a c
  more_lines a b c first second = record {
    lines = first.lines ++ second.lines;
    written = subst (λ (t : List ℕ). Appends a c t)
        (sym (flat_map-append (line_text maps) first.lines second.lines))
        (Appends-trans a b c (lines_text maps first.lines) (lines_text maps second.lines) first.written second.written);
  }

  -- the same where they were written
  pub line_written : (line : LogLine) (a b : Option (List ℕ)) (text : List ℕ) (did : Result ⊤ Failed)
      → text ≡ line_text maps line → OnOk did (Appends a b text) → OnOk did (WritesLines maps a b)
  line_written line a b text (Ok done) is h = one_line line a b text is h
  line_written line a b text (Err why) is h = tt

  pub more_written : (a b c : Option (List ℕ)) (did : Result ⊤ Failed) → WritesLines maps a b
      → OnOk did (WritesLines maps b c) → OnOk did (WritesLines maps a c)
  more_written a b c (Ok done) first second = more_lines a b c first second
  more_written a b c (Err why) first second = tt

  -- Lines, and what stands behind them, are the log, unless the notes have failed.
  pub logged : (totals : Option Totals) (a b c : Option (List ℕ)) (told done : Result ⊤ Failed) (x y z : ℕ)
      → OnOk told (WritesLines maps a b) → CountsFaults x y told
      → OnOk done (Appends b c (option_map_or totals_text totals [])) → (told ≡ Ok tt → CountsFaults y z done)
      → OnErr told (z ≡ y)
      → (text : List ℕ) × IsLog true maps totals text × (¬ HasRisen x z → Appends a c text)
  logged totals a b c (Ok heard) (Ok done) x y z lines counts last cause stays = (
    lines_text maps lines.lines ++ option_map_or totals_text totals [],
    (lines.lines, refl),
    λ fine. Appends-trans a b c (lines_text maps lines.lines) (option_map_or totals_text totals []) lines.written last,
  )
  logged totals a b c (Ok heard) (Err why) x y z lines counts last cause stays = (
    option_map_or totals_text totals [],
    ([], refl),
    let rose = (cause refl).risen in λ fine. absurd (fine (omega (arith, counts.never_falls, rose))),
  )
  logged totals a b c (Err why) done x y z lines counts last cause stays = (
    option_map_or totals_text totals [],
    ([], refl),
    λ fine. absurd (fine (omega (arith, counts.risen, stays))),
  )

  -- and their count of faults hasn't fallen
  pub grown : (told done : Result ⊤ Failed) (x y z : ℕ) → CountsFaults x y told → (told ≡ Ok tt → CountsFaults y z done)
      → OnErr told (z ≡ y) → x ≤ z
  grown (Ok heard) done x y z counts cause stays =
      let later = (cause refl).never_falls in omega (arith, counts.never_falls, later)
  grown (Err why) done x y z counts cause stays = omega (arith, counts.never_falls, stays)

-- notes that stay as they are have no new fault
pub stays_count : {N : Type 0} (faults : N → ℕ) (old new : N) (told : Result ⊤ Failed) → OnErr told (new ≡ old)
    → OnErr told (faults new ≡ faults old)
stays_count faults old new (Ok heard) same = tt
stays_count faults old new (Err why) same = ap faults same
