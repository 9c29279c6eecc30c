use Rattle.std.proofs.Common.{◌≡◌, ◌+◌, true, false, ◌++◌, slice_get, Some, inr, sym, ap, ◌∙◌}
use Rattle.yp_version.specs.Rows.{Row}
use Rattle.yp_texts.specs.Dumps.{dump_line, is_fit_key, is_fit_value}
use Rattle.yp_texts.proofs.Dumping.{dump_text-more, first_unfit-more, first_unfit-key, first_unfit-value}
use Rattle.yp_texts.proofs.dumps.dump.Goals as goal

pub returns-then-not-is_fit_key-clause-cause : goal.returns-then-not-is_fit_key-clause-cause
returns-then-not-is_fit_key-clause-cause c =
    let rows = c.args.version.now.rows in
    let i = c.loop-i.i in
    let row : Row = (c.in-Some.key.now, c.in-Some.value.now) in
    let there : slice_get rows i ≡ Some row = sym c.in-Some.ensures.row in
    let key : is_fit_key row.0 ≡ false = sym c.is_fit_key.ensures ∙ c.if-not-is_fit_key.true in
    inr (c.loop-i.invariant.fits ∙ first_unfit-key rows i row there (i + 1) key)

pub returns-then-not-is_fit_value-clause-cause : goal.returns-then-not-is_fit_value-clause-cause
returns-then-not-is_fit_value-clause-cause c =
    let rows = c.args.version.now.rows in
    let i = c.loop-i.i in
    let row : Row = (c.in-Some.key.now, c.in-Some.value.now) in
    let there : slice_get rows i ≡ Some row = sym c.in-Some.ensures.row in
    let key : is_fit_key row.0 ≡ true = sym c.is_fit_key.ensures ∙ c.if-not-is_fit_key.false in
    let value : is_fit_value row.1 ≡ false = sym c.is_fit_value.ensures ∙ c.if-not-is_fit_value.true in
    inr (c.loop-i.invariant.fits ∙ first_unfit-value rows i row there (i + 1) key value)

pub loop-i-preserved : goal.loop-i-preserved
loop-i-preserved c =
    let rows = c.args.version.now.rows in
    let i = c.loop-i.i in
    let row : Row = (c.in-Some.key.now, c.in-Some.value.now) in
    let there : slice_get rows i ≡ Some row = sym c.in-Some.ensures.row in
    let key : is_fit_key row.0 ≡ true = sym c.is_fit_key.ensures ∙ c.if-not-is_fit_key.false in
    let value : is_fit_value row.1 ≡ true = sym c.is_fit_value.ensures ∙ c.if-not-is_fit_value.false in
    record {
      text = c.in_ok-put_line.ensures
          ∙ ap (λ bytes. bytes ++ dump_line row) c.loop-i.invariant.text ∙ sym (dump_text-more rows i row there);
      fits = c.loop-i.invariant.fits ∙ first_unfit-more rows i row there (i + 1) key value;
    }
