use Rattle.std.proofs.Common.{◌+◌, ◌≤◌, length, ap, arith}
use Rattle.yp_client.specs.declared.all.AllReply.{AllReply}
use Rattle.yp_client.specs.Limits.{all_max}
use Rattle.yp_client.specs.inside.Windows.{waiting}
use Rattle.yp_client.proofs.Passing.{pass_within, passed, cut_count, item_cut, item_in, item_ahead, item_refused}
use Rattle.yp_client.proofs.all.AllReply.next_row.Goals as goal

pub pass-requires-clause-within : goal.pass-requires-clause-within
pass-requires-clause-within c =
    let w = waiting c.args.self.now c.args.buf.now in
    let cut = cut_count 4 131088 w _ c.at.result
    (item_cut w _ _ (rw c.new-cursor.ensures at c.in-Ok.ensures.says)) c.at.ensures.place in
    pass_within c.args.self.now c.args.buf.now c.at.result c.requires.stands cut.0

pub pass-requires-clause-place : goal.pass-requires-clause-place
pass-requires-clause-place c =
    let w = waiting c.args.self.now c.args.buf.now in
    let cut = cut_count 4 131088 w _ c.at.result
    (item_cut w _ _ (rw c.new-cursor.ensures at c.in-Ok.ensures.says)) c.at.ensures.place in
    let count : c.args.self.now.at + length w ≤ all_max = c.requires.count in
    omega (arith, cut.0)

pub further-requires : goal.further-requires
further-requires c =
    let w = waiting c.args.self.now c.args.buf.now in
    let count : c.args.self.now.at + length w ≤ all_max = c.requires.count in
    (0 + length w, item_in w c.in-Err.fault (rw c.new-cursor.ensures at c.in-Err.ensures.says), omega arith)

pub returns-in-Ok-clause-says : goal.returns-in-Ok-clause-says
returns-in-Ok-clause-says c = λ more may.
    let w = waiting c.args.self.now c.args.buf.now in
    let says = rw c.new-cursor.ensures at c.in-Ok.ensures.says in
    let cut = cut_count 4 131088 w _ c.at.result (item_cut w _ _ says) c.at.ensures.place in
    let there = passed c.args.self.now c.pass.new.self c.args.buf.now c.at.result c.requires.stands cut.0
    c.pass.ensures in
    item_ahead c.args.self.now c.pass.new.self c.args.buf.now more _ _ c.at.result c.requires.item may there
    (ap (λ (r : AllReply). r.at) c.pass.ensures) c.at.ensures.place says

pub returns-in-Ok-clause-forward : goal.returns-in-Ok-clause-forward
returns-in-Ok-clause-forward c =
    let w = waiting c.args.self.now c.args.buf.now in
    let cut = cut_count 4 131088 w _ c.at.result
    (item_cut w _ _ (rw c.new-cursor.ensures at c.in-Ok.ensures.says)) c.at.ensures.place in
    omega (arith, cut.1, ap (λ (r : AllReply). r.at) c.pass.ensures)

pub returns-in-Ok-clause-total : goal.returns-in-Ok-clause-total
returns-in-Ok-clause-total c =
    let w = waiting c.args.self.now c.args.buf.now in
    let cut = cut_count 4 131088 w _ c.at.result
    (item_cut w _ _ (rw c.new-cursor.ensures at c.in-Ok.ensures.says)) c.at.ensures.place in
    let there = passed c.args.self.now c.pass.new.self c.args.buf.now c.at.result c.requires.stands cut.0
    c.pass.ensures in
    there.total

pub returns-in-Ok-clause-stands : goal.returns-in-Ok-clause-stands
returns-in-Ok-clause-stands c =
    let w = waiting c.args.self.now c.args.buf.now in
    let cut = cut_count 4 131088 w _ c.at.result
    (item_cut w _ _ (rw c.new-cursor.ensures at c.in-Ok.ensures.says)) c.at.ensures.place in
    let there = passed c.args.self.now c.pass.new.self c.args.buf.now c.at.result c.requires.stands cut.0
    c.pass.ensures in
    there.stands

pub returns-in-Err-clause-says : goal.returns-in-Err-clause-says
returns-in-Err-clause-says c = λ more may.
    rw c.further.ensures (item_refused c.args.self.now c.args.buf.now more c.in-Err.fault c.requires.item may
    (rw c.new-cursor.ensures at c.in-Err.ensures.says))
