use Rattle.std.proofs.Common.{◌≡◌, ◌+◌, ◌≤◌, ℕ, List, length, take, drop, rules, arith, sym, subst, IfSome}
use Rattle.std.proofs.lemmas.List.{take_at}
use Rattle.yp_map_file.specs.inside.Surveys.{body_of}
use Rattle.yp_map_file.proofs.Surveying.{look_told}
use Rattle.yp_map_file.proofs.survey.look.Goals as goal

pub returns-clause-bytes : goal.returns-clause-bytes
returns-clause-bytes g c =
    let n = c.min-count.result in
    let e = c.args.entry.now in
    let len : length c.read.new.buf ≡ n = search rules in
    let fits : c.args.at + n ≤ e.len = omega (arith, c.min-count.ensures, c.requires.within) in
    let piece = c.read.new.buf in
    let same = take_at piece (drop n c.args.buf.now) n len in
    subst (λ (b : List ℕ). IfSome (g.D.Disk.history c.args.disk.now) (λ h.
    b ≡ take n (drop c.args.at (body_of e h.state.reads)))) (sym same)
    (look_told (g.D.Disk.history c.args.disk.now) e c.args.at n piece len fits c.in_ok-read.ensures.bytes)
