use Rattle.std.proofs.Common.{◌≡◌, true, false, sym, ap, ◌∙◌, arith}
use Rattle.yp_version.specs.Rows.{Row}
use Rattle.yp_answer.specs.Maps.{Maps, maps_of}
use Rattle.yp_command_serve.specs.Sample.{is_matched}
use Rattle.yp_command_serve.proofs.Counted.{row_yes, row_no, row_there}
use Rattle.yp_command_serve.proofs.sample.count_matched.Goals.{in-Some+in_ok-is_matched+then-branch, in-Some+in_ok-is_matched+else-branch, in_default}
use Rattle.yp_command_serve.proofs.sample.count_matched.Goals as goal

pub loop-i-preserved : goal.loop-i-preserved
loop-i-preserved c =
    let so_far = c.loop-i.invariant in
    let maps = maps_of c.args.board.now in
    let rows = c.args.version.now.rows in
    elim c.match-row.branch [
      | in-Some+in_ok-is_matched+then-branch w ↦
          let row : Row = (w.in-Some.key.now, w.in-Some.value.now) in
          let counts : is_matched maps row ≡ true = sym (w.in_ok-is_matched.ensures.matched ∙ ap (λ (m : Maps). is_matched m row) so_far.maps) ∙ w.if-branch.true in
          record {
            count = omega (arith, w.matched-is, so_far.count, row_yes (is_matched maps) rows c.loop-i.i row w.in-Some.ensures.row counts);
            maps = ap maps_of w.board-is ∙ w.is_matched.ensures.maps ∙ so_far.maps;
            few = omega (arith, w.matched-is, so_far.few);
          }
      | in-Some+in_ok-is_matched+else-branch w ↦
          let row : Row = (w.in-Some.key.now, w.in-Some.value.now) in
          let fails : is_matched maps row ≡ false = sym (w.in_ok-is_matched.ensures.matched ∙ ap (λ (m : Maps). is_matched m row) so_far.maps) ∙ w.if-branch.false in
          record {
            count = omega (arith, w.matched-is, so_far.count, row_no (is_matched maps) rows c.loop-i.i row w.in-Some.ensures.row fails);
            maps = ap maps_of w.board-is ∙ w.is_matched.ensures.maps ∙ so_far.maps;
            few = omega (arith, w.matched-is, so_far.few);
          }
      | in_default w ↦ absurd (row_there rows c.loop-i.i w.in_default.ensures.row (omega (arith, c.loop-i-test.true, c.len-i-end.ensures.len)))
    ]
