use Rattle.std.proofs.Common.{◌≡◌, ◌+◌, ◌-◌, min, length, take, arith, ◌∙◌, option_map}
use Rattle.std.proofs.lemmas.List.{length-take}
use Rattle.yp_map_file.specs.declared.survey.Progress.{Progress}
use Rattle.yp_map_file.proofs.Surveying.{step_told, step_wrong, window_has_row}
use Rattle.yp_map_file.proofs.survey.step.Goals as goal

pub returns-in-Err-clause-steps : goal.returns-in-Err-clause-steps
returns-in-Err-clause-steps g c =
    let n = c.in_ok-count.count in
    let window = take n c.look.new.buf in
    rw c.fault_at.ensures (step_wrong (g.D.Disk.history c.args.disk.now) c.args.entry.now window c.args.progress n
    c.in-Err.wrong c.in_ok-count.ensures.bytes (rw c.bytes_of.ensures at c.in-Err.ensures.wrong))

pub returns-clause-steps : goal.returns-clause-steps
returns-clause-steps g c =
    let n = c.in_ok-count.count in
    let window = take n c.look.new.buf in
    let passed = c.in-Ok.passed in
    let next : Progress = record {
      at = c.args.progress.at + passed.at;
      left = c.args.progress.left - passed.rows;
      last = c.in_ok-copy_of.field-0;
    } in
    step_told (g.D.Disk.history c.args.disk.now) c.args.entry.now window c.args.progress next n passed.rows passed.at
    (option_map (λ last. last.now) passed.last) c.in_ok-count.ensures.bytes
    (rw c.bytes_of.ensures at c.in-Ok.ensures.reads) c.in-Ok.ensures.within (λ i. next.at) (λ i. next.left)
    c.in_ok-copy_of.ensures

pub returns-clause-fewer : goal.returns-clause-fewer
returns-clause-fewer g c =
    let n = c.in_ok-count.count in
    let e = c.args.entry.now in
    let size : length c.look.new.buf ≡ 1048576 = c.look.ensures.size ∙ c.requires.room in
    let count : n ≡ min (e.len - c.args.progress.at) 1048576 = omega (arith, c.in_ok-count.ensures.count, size) in
    let len : length (take n c.look.new.buf) ≡ n = omega (arith, length-take n c.look.new.buf, count, size) in
    let room = window_has_row n (e.len - c.args.progress.at) (length (take n c.look.new.buf)) count len in
    omega (arith, c.in-Ok.ensures.some c.requires.some room, c.in-Ok.ensures.few)
