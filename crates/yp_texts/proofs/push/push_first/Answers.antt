use Rattle.std.proofs.Common.{◌≡◌, ℕ, ◌+◌, true, false, not, ◌&&◌, ◌==◌, List, ◌∷◌, ◌++◌, length, sym, ap, ◌∙◌, rules}
use Rattle.std.proofs.Common.{tests}
use Rattle.std.specs.List.{flat_map}
use Rattle.yp_texts.specs.declared.reading.Reading.{Reading}
use Rattle.yp_texts.specs.Lines.{goes_on, whole_lines}
use Rattle.yp_texts.specs.Rows.{goes_over_lines, line_rows, rows_from}
use Rattle.yp_texts.proofs.LineLists.{whole_lines-alone, whole_lines-joined}
use Rattle.yp_texts.proofs.Pushing.{stopped-first}
use Rattle.yp_texts.proofs.push.push_first.Goals as goal

rows_from-cut : (reading : Reading) (number next : ℕ) (text line rest : List ℕ)
    → whole_lines (goes_over_lines reading) number text ≡ (number, line) ∷ whole_lines (goes_over_lines reading) next rest
    → rows_from reading number text ≡ line_rows reading (number, line) ++ rows_from reading next rest
rows_from-cut reading number next text line rest e = ap (flat_map (line_rows reading)) e

pub returns-in_err-push_line-clause-stopped : goal.returns-in_err-push_line-clause-stopped
returns-in_err-push_line-clause-stopped c =
    let reading = c.args.reading in
    let number = c.args.number in
    let text = c.args.text.now in
    let line = c.join.new.buffer.items in
    let rest = c.in_ok-rest.rest.now in
    let more = not (length c.cut_line.result.1.now == 0) && goes_on c.cut_line.result.0.now in
    let on : (goes_over_lines reading && more) ≡ true = ap (λ goes. goes && more) (sym c.goes_over_lines.ensures)
    ∙ sym c.is_continued.ensures ∙ c.if-is_continued.true in
    let cut = rows_from-cut reading number c.in_ok-rest.next text line rest
    (whole_lines-joined (goes_over_lines reading) more number c.in_ok-rest.next text line rest on c.in_ok-rest.ensures.lines) in
    let joined : c.as_slice.result.now ≡ line = c.as_slice.ensures.value in
    let stopped = stopped-first c.args.into.now (rows_from reading number text) (line_rows reading (number, line))
    (rows_from reading c.in_ok-rest.next rest) c.push_line.new.into c.in_err-push_line.field-0.0 cut
    (rw joined at c.in_err-push_line.ensures.stopped) in
    search rules

pub returns-in_err-push_line-2-clause-stopped : goal.returns-in_err-push_line-2-clause-stopped
returns-in_err-push_line-2-clause-stopped c =
    let reading = c.args.reading in
    let number = c.args.number in
    let text = c.args.text.now in
    let line = c.cut_line.result.0.now in
    let rest = c.cut_line.result.1.now in
    let alone : (goes_over_lines reading && (not (length rest == 0) && goes_on line)) ≡ false = search (rules, tests) in
    let cut = rows_from-cut reading number (number + 1) text line rest
    (whole_lines-alone (goes_over_lines reading) number text line rest c.cut_line.ensures.lines alone) in
    let stopped = stopped-first c.args.into.now (rows_from reading number text) (line_rows reading (number, line))
    (rows_from reading (number + 1) rest)
    c.push_line-2.new.into c.in_err-push_line-2.field-0.0 cut c.in_err-push_line-2.ensures.stopped in
    search rules
