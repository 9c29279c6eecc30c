use Rattle.std.proofs.Common.{◌≡◌, ℕ, List, [], ◌∷◌, ◌++◌, map, ap, rules}
use Rattle.yp_version.specs.Drafts.{Draft}
use Rattle.yp_texts.specs.Words.{words}
use Rattle.yp_texts.specs.Rows.{LineRow, at_line, name_rows}
use Rattle.yp_texts.specs.inside.Pushes.{Pushed}
use Rattle.yp_texts.proofs.Pushing.{pushed-left, pushed-more, pushed-stopped}
use Rattle.yp_texts.proofs.push.push_names.Goals as goal

-- the rows of names that are left, with the first of them in front
next_name : (number : ℕ) (line rest name more : List ℕ) (draft now : Draft) (rows : List LineRow)
    → words rest ≡ name ∷ words more → Pushed draft rows (at_line number (map (λ word. (word, line)) (words rest))) now
    → Pushed draft rows ((number, (name, line)) ∷ [] ++ at_line number (map (λ word. (word, line)) (words more))) now
next_name number line rest name more draft now rows e so_far =
    let names : List (List ℕ) → List LineRow = λ names. at_line number (map (λ word. (word, line)) names) in
    pushed-left draft rows (names (words rest)) (names (name ∷ words more)) now (ap names e) so_far

pub returns-in_err-push_row-clause-stopped : goal.returns-in_err-push_row-clause-stopped
returns-in_err-push_row-clause-stopped c =
    let rows = at_line c.args.number (name_rows c.args.line.now) in
    let first : List LineRow = (c.args.number, (c.in-Some-cut_word.name.now, c.args.line.now)) ∷ [] in
    let left = at_line c.args.number (map (λ word. (word, c.args.line.now)) (words c.in-Some-cut_word.later.now)) in
    let so_far = next_name c.args.number c.args.line.now c.loop-name.rest.now c.in-Some-cut_word.name.now
    c.in-Some-cut_word.later.now c.args.into.now c.loop-name.into rows c.in-Some-cut_word.ensures.words
    c.loop-name.invariant in
    let stopped = pushed-stopped c.args.into.now rows first left c.loop-name.into c.push_row.new.into
    c.in_err-push_row.field-0.0 so_far c.in_err-push_row.ensures.stopped in
    search rules

pub loop-name-preserved : goal.loop-name-preserved
loop-name-preserved c =
    let rows = at_line c.args.number (name_rows c.args.line.now) in
    let first : List LineRow = (c.args.number, (c.in-Some-cut_word.name.now, c.args.line.now)) ∷ [] in
    let left = at_line c.args.number (map (λ word. (word, c.args.line.now)) (words c.in-Some-cut_word.later.now)) in
    let so_far = next_name c.args.number c.args.line.now c.loop-name.rest.now c.in-Some-cut_word.name.now
    c.in-Some-cut_word.later.now c.args.into.now c.loop-name.into rows c.in-Some-cut_word.ensures.words
    c.loop-name.invariant in
    pushed-more c.args.into.now rows first left c.loop-name.into c.push_row.new.into so_far
    c.in_ok-push_row.ensures.fits c.in_ok-push_row.ensures.rows
