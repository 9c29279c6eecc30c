use Rattle.std.proofs.Common.{ap}
use Rattle.std.proofs.lemmas.Result.{err_from_is_err_and}
use Rattle.yp_client.specs.declared.all.AllReply.{AllReply}
use Rattle.yp_client.specs.inside.Windows.{waiting}
use Rattle.yp_client.proofs.LocalItem.{results_cut}
use Rattle.yp_client.proofs.Passing.{pass_within, passed, cut_count, head_ahead, head_refused}
use Rattle.yp_client.proofs.all.AllReply.read_head.Goals as goal

pub returns-in_err-results-clause-says : goal.returns-in_err-results-clause-says
returns-in_err-results-clause-says c = λ more may.
    let p = err_from_is_err_and c.from_residual.result c.from_residual.ensures.1 in
    rw (p.1, p.2) (head_refused _ c.args.self.now c.args.buf.now more _ c.requires.item may
    c.in_err-results.ensures.says)

pub pass-requires-clause-within : goal.pass-requires-clause-within
pass-requires-clause-within c =
    let w = waiting c.args.self.now c.args.buf.now in
    let cut = cut_count 12 432 w _ c.at.result (results_cut _ w _ c.in_ok-results.ensures.says) c.at.ensures.place in
    pass_within c.args.self.now c.args.buf.now c.at.result c.requires.stands cut.0

pub returns-clause-says : goal.returns-clause-says
returns-clause-says c = λ more may.
    let w = waiting c.args.self.now c.args.buf.now in
    let cut = cut_count 12 432 w _ c.at.result (results_cut _ w _ c.in_ok-results.ensures.says) c.at.ensures.place in
    let there = passed c.args.self.now c.pass.new.self c.args.buf.now c.at.result c.requires.stands cut.0
    c.pass.ensures in
    head_ahead _ c.args.self.now c.pass.new.self c.args.buf.now more _ c.at.result c.requires.item may
    c.requires.begin there
    (ap (λ (r : AllReply). r.at) c.pass.ensures) c.at.ensures.place c.in_ok-results.ensures.says

pub returns-clause-total : goal.returns-clause-total
returns-clause-total c =
    let w = waiting c.args.self.now c.args.buf.now in
    let cut = cut_count 12 432 w _ c.at.result (results_cut _ w _ c.in_ok-results.ensures.says) c.at.ensures.place in
    let there = passed c.args.self.now c.pass.new.self c.args.buf.now c.at.result c.requires.stands cut.0
    c.pass.ensures in
    there.total

pub returns-clause-stands : goal.returns-clause-stands
returns-clause-stands c =
    let w = waiting c.args.self.now c.args.buf.now in
    let cut = cut_count 12 432 w _ c.at.result (results_cut _ w _ c.in_ok-results.ensures.says) c.at.ensures.place in
    let there = passed c.args.self.now c.pass.new.self c.args.buf.now c.at.result c.requires.stands cut.0
    c.pass.ensures in
    there.stands
