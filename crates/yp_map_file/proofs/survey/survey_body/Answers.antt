use Rattle.std.proofs.Common.{◌+◌, arith}
use Rattle.std.proofs.lemmas.Result.{err_from_is_err_and}
use Rattle.yp_map_file.proofs.Surveying.{survey_front_fault, survey_rows_fault, survey_more, survey_whole}
use Rattle.yp_map_file.proofs.survey.survey_body.Goals as goal

pub returns-in_err-summary-clause-stands : goal.returns-in_err-summary-clause-stands
returns-in_err-summary-clause-stands g c =
    let p = err_from_is_err_and c.from_residual.result c.from_residual.ensures.1 in
    rw (p.1, p.2) (survey_front_fault (g.D.Disk.history c.args.disk.now) c.args.entry.now c.in_err-summary.field-0.0
    c.in_err-summary.ensures.front)

pub returns-in_err-end-clause-stands : goal.returns-in_err-end-clause-stands
returns-in_err-end-clause-stands g c =
    let stop = c.from_residual-in_err-end in
    let p = err_from_is_err_and stop.result stop.ensures.1 in
    rw (p.1, p.2) (survey_rows_fault (g.D.Disk.history c.args.disk.now) c.args.entry.now c.in_ok-summary.summary
    c.in_ok-summary.start c.in_err-end.field-0.0 c.in_ok-summary.ensures.front
    (rw c.survey_front.ensures.same at c.in_err-end.ensures.ends))

pub returns-then-end-entry-clause-stands : goal.returns-then-end-entry-clause-stands
returns-then-end-entry-clause-stands g c =
    let e = c.args.entry.now in
    rw c.fault_at.ensures (survey_more (g.D.Disk.history c.args.disk.now) e c.in_ok-summary.summary
    c.in_ok-summary.start c.in_ok-end.end (e.place + (c.in_ok-end.end + 0)) c.requires c.in_ok-summary.ensures.front
    (rw c.survey_front.ensures.same at c.in_ok-end.ensures.ends) c.if-end-entry.true (omega arith))

pub returns-clause-stands : goal.returns-clause-stands
returns-clause-stands g c =
    survey_whole (g.D.Disk.history c.args.disk.now) c.args.entry.now c.in_ok-summary.summary c.in_ok-summary.start
    c.in_ok-end.end c.in_ok-summary.ensures.front (rw c.survey_front.ensures.same at c.in_ok-end.ensures.ends)
    (omega (arith, c.if-end-entry.false))
