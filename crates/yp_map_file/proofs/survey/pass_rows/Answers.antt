use Rattle.std.proofs.Common.{◌≡◌, ◌-◌, true, length, option_map, arith, sym, ◌∙◌}
use Rattle.std.proofs.lemmas.Result.{err_from_is_err_and}
use Rattle.yp_xdr.specs.inside.Cursor.{unread}
use Rattle.yp_map_file.specs.inside.Surveys.{has_row}
use Rattle.yp_map_file.proofs.Windows.{passed_none, passed_more, passed_wrong, passed_wrong_within}
use Rattle.yp_map_file.proofs.survey.pass_rows.Goals as goal

pub loop-rows-init : goal.loop-rows-init
loop-rows-init c = record {
  passed = passed_none c.args.count (option_map (λ last. last.now) c.args.last) c.args.window.now c.args.is_last
      (unread c.new-cursor.result) c.new-cursor.ensures;
}

pub overflow_sub-window : goal.overflow_sub-window
overflow_sub-window c = omega (arith, c.at-at.ensures.place, c.loop-rows.invariant.passed.within)

pub loop-rows-preserved : goal.loop-rows-preserved
loop-rows-preserved c =
    let room : has_row c.args.is_last (length c.args.window.now - c.loop-rows.cursor.at) ≡ true =
    rw c.at-at.ensures.place at (sym c.has_row.ensures ∙ c.if-has_row.true) in
    record {
      passed = passed_more c.args.count (option_map (λ last. last.now) c.args.last) c.args.window.now c.args.is_last
          c.loop-rows.rows (option_map (λ last. last.now) c.loop-rows.last) (unread c.loop-rows.cursor)
          (unread c.read_row.new.cursor) (c.in_ok-key.key.now, c.in_ok-key.field-0-1.now) c.loop-rows.invariant.passed
          c.loop-rows-test.true room c.in_ok-key.ensures.read;
    }

pub returns-in_err-key-clause-wrong : goal.returns-in_err-key-clause-wrong
returns-in_err-key-clause-wrong c =
    let room : has_row c.args.is_last (length c.args.window.now - c.loop-rows.cursor.at) ≡ true =
    rw c.at-at.ensures.place at (sym c.has_row.ensures ∙ c.if-has_row.true) in
    let p = err_from_is_err_and c.from_residual.result c.from_residual.ensures.1 in
    rw (p.1, p.2) (passed_wrong c.args.count (option_map (λ last. last.now) c.args.last) c.args.window.now
    c.args.is_last c.loop-rows.rows (option_map (λ last. last.now) c.loop-rows.last) (unread c.loop-rows.cursor)
    c.in_err-key.field-0.0 c.loop-rows.invariant.passed c.loop-rows-test.true room c.in_err-key.ensures.read)

pub returns-in_err-key-clause-wrong_within : goal.returns-in_err-key-clause-wrong_within
returns-in_err-key-clause-wrong_within c =
    let p = err_from_is_err_and c.from_residual.result c.from_residual.ensures.1 in
    rw (p.1, p.2) (passed_wrong_within c.args.count (option_map (λ last. last.now) c.args.last) c.args.window.now
    c.args.is_last c.loop-rows.rows (option_map (λ last. last.now) c.loop-rows.last) (unread c.loop-rows.cursor)
    c.in_err-key.field-0.0 c.loop-rows.invariant.passed c.in_err-key.ensures.read)
