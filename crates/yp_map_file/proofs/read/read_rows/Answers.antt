use Rattle.std.proofs.Common.{◌≡◌, ◌++◌, ◌∷◌, [], None, Err, option_map, arith, rules}
use Rattle.yp_xdr.specs.inside.Cursor.{unread}
use Rattle.yp_map_file.specs.Bodies.{rows_at}
use Rattle.yp_map_file.specs.declared.wrong.BodyFault.TheVariants.{Wrong}
use Rattle.yp_map_file.proofs.Rows.{has_read_stop, has_read_more}
use Rattle.yp_map_file.proofs.read.read_rows.Goals as goal

pub returns-in_err-key-clause-read : goal.returns-in_err-key-clause-read
returns-in_err-key-clause-read c =
    let stop : rows_at c.args.count None (unread c.args.cursor.now) ≡ Err c.in_err-key.field-0.0 =
    has_read_stop c.args.count (unread c.args.cursor.now) c.loop-number.places.items c.loop-number._number (option_map (λ last. last.now) c.loop-number.last)
    (unread c.loop-number.cursor) c.in_err-key.field-0.0 c.loop-number.invariant.rows c.loop-number-test.true c.in_err-key.ensures.read in
    let failed : c.from_residual-in_err-key.result ≡ Err (Wrong c.in_err-key.field-0.0) = search rules in
    rw failed stop

pub loop-number-preserved : goal.loop-number-preserved
loop-number-preserved c =
    let place = c.in_ok-key.ensures.place in
    let at = c.at-place.ensures.place in
    let pushed : c.push.new.self.items ≡ c.loop-number.places.items ++ c.loop-number.cursor.at ∷ [] = search rules in
    record {
      rows = has_read_more c.args.count (unread c.args.cursor.now) c.loop-number.places.items c.push.new.self.items c.loop-number._number
          (option_map (λ last. last.now) c.loop-number.last) (unread c.loop-number.cursor) (unread c.read_row.new.cursor)
          c.in_ok-key.key.now c.in_ok-key.field-0-1.now c.loop-number.invariant.rows c.loop-number-test.true c.in_ok-key.ensures.read place pushed;
      passed = omega (arith, c.in_ok-key.ensures.passed, c.loop-number.invariant.passed);
    }
