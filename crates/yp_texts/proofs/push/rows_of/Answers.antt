use Rattle.std.proofs.Common.{arith, rules}
use Rattle.yp_texts.specs.Rows.{rows_from, rows}
use Rattle.yp_texts.proofs.Pushing.{pushed-then, stopped-then, stopped-cause}
use Rattle.yp_texts.proofs.push.rows_of.Goals as goal

pub returns-in_err-more-clause-cause : goal.returns-in_err-more-clause-cause
returns-in_err-more-clause-cause c =
    let stopped = stopped-then c.args.into.now (rows c.args.reading c.args.text.now)
    (rows_from c.args.reading c.loop-rest.number c.loop-rest.rest.now)
    c.loop-rest.into c.push_first.new.into c.in_err-more.field-0.0 c.loop-rest.invariant.pushed
    c.in_err-more.ensures.stopped in
    let cause = stopped-cause c.args.into.now (rows c.args.reading c.args.text.now)
    c.push_first.new.into c.in_err-more.field-0.0 stopped in
    search rules

pub returns-in_err-more-clause-stopped : goal.returns-in_err-more-clause-stopped
returns-in_err-more-clause-stopped c =
    let stopped = stopped-then c.args.into.now (rows c.args.reading c.args.text.now)
    (rows_from c.args.reading c.loop-rest.number c.loop-rest.rest.now)
    c.loop-rest.into c.push_first.new.into c.in_err-more.field-0.0 c.loop-rest.invariant.pushed
    c.in_err-more.ensures.stopped in
    search rules

pub loop-rest-preserved : goal.loop-rest-preserved
loop-rest-preserved c = record {
  numbers = omega (arith, c.in_ok-more.ensures.numbers);
  pushed = pushed-then c.args.into.now (rows c.args.reading c.args.text.now)
      (rows_from c.args.reading c.loop-rest.number c.loop-rest.rest.now)
      (rows_from c.args.reading c.in_ok-more.next c.in_ok-more.more.now)
      c.loop-rest.into c.push_first.new.into c.loop-rest.invariant.pushed c.in_ok-more.ensures.pushed;
}
