use Rattle.std.proofs.Common.{sym, ◌∙◌, ◌≤◌, length, arith}
use Rattle.yp_map_file.specs.Stands.{file_max}
use Rattle.yp_map_file.proofs.Judging.{judge_nobody, judge_both, judged_only, judged, judged_wrong}
use Rattle.std.proofs.lemmas.Result.{err_from_is_err_and}
use Rattle.yp_map_file.proofs.load.judge.Goals as goal
use Rattle.yp_map_file.proofs.load.judge.Goals.{in-Nobody, in-Only+in_ok-judge_winner-in-Only}

pub returns-in-Both-clause-judges : goal.returns-in-Both-clause-judges
returns-in-Both-clause-judges c = λ file front len.
    let long : 64 ≤ length file = omega arith in
    let small : length file ≤ file_max = omega arith in
    judge_both file c.args.cells.now front long small (sym c.of.ensures ∙ c.in-Both.is)

pub returns-in_err-judge_winner-in-Only-clause-judges : goal.returns-in_err-judge_winner-in-Only-clause-judges
returns-in_err-judge_winner-in-Only-clause-judges c = λ file front len.
    let long : 64 ≤ length file = omega arith in
    let small : length file ≤ file_max = omega arith in
    let le : 64 ≤ c.args.len = c.requires.long in
    let p = err_from_is_err_and c.from_residual.result c.from_residual.ensures.1 in
    rw (p.1, p.2) (judged_wrong file c.args.cells.now front long small c.in-Only.cell
    c.in_err-judge_winner-in-Only.field-0.0 (sym c.of.ensures
    ∙ c.in-Only.is) (c.in_err-judge_winner-in-Only.ensures.judges file front len le))

pub returns-clause-judges : goal.returns-clause-judges
returns-clause-judges c = λ file front len.
    let long : 64 ≤ length file = omega arith in
    let small : length file ≤ file_max = omega arith in
    let le : 64 ≤ c.args.len = c.requires.long in
    elim c.match-of.branch [
      | in-Nobody w ↦ judged file c.args.cells.now c.match-of.target _ c.is_open.result w.target-is c.is_open.ensures
          (judge_nobody file c.args.cells.now front long small (sym c.of.ensures ∙ w.in-Nobody.is))
      | in-Only+in_ok-judge_winner-in-Only w ↦
          judged file c.args.cells.now c.match-of.target _ c.is_open.result w.target-is c.is_open.ensures
          (judged_only file c.args.cells.now front long small w.in-Only.cell w.other.result _ w.other.ensures
          w.in_ok-judge_winner-in-Only.ensures.entry (sym c.of.ensures
          ∙ w.in-Only.is) (w.in_ok-judge_winner-in-Only.ensures.judges file front len le))
    ]
