use Rattle.std.proofs.Common.{◌≡◌, length, ap, arith}
use Rattle.std.proofs.lemmas.Result.{err_from_is_err_and}
use Rattle.yp_client.specs.declared.all.AllReply.{AllReply}
use Rattle.yp_client.specs.inside.Windows.{waiting, progress}
use Rattle.yp_client.proofs.Waiting.{no_piece_earlier, underway_within, underway_same}
use Rattle.yp_client.proofs.Filling.{grows_nothing, grows_then, pushed_nothing, ready, ready_next, ready_ended}
use Rattle.yp_client.proofs.Filling.{ready_underway, at_falls}
use Rattle.yp_client.proofs.all.AllReply.push_rows.Goals as goal

pub loop-self-init : goal.loop-self-init
loop-self-init g c = record {
  so_far = pushed_nothing _ _ _ _;
  underway = c.requires.underway;
  kept = grows_nothing _;
  few = c.requires.few;
  stands = c.requires.stands;
  never_fell = omega arith;
}

pub returns-in_err-have_item-clause-cause : goal.returns-in_err-have_item-clause-cause
returns-in_err-have_item-clause-cause g c = λ front start place reached.
    let p = err_from_is_err_and c.from_residual.result c.from_residual.ensures.1 in
    rw (p.1, p.2) (no_piece_earlier place (g.S.Source.faults c.args.source.now) (g.S.Source.faults c.loop-self.source)
    (g.S.Source.faults c.have_item.new.source) start _ _ c.loop-self.invariant.never_fell
    (c.in_err-have_item.ensures.cause _ start place (c.loop-self.invariant.so_far.given front start place reached)))

pub push_next-requires-clause-count : goal.push_next-requires-clause-count
push_next-requires-clause-count g c =
    let now = progress (g.S.Source.input c.have_item.new.source) c.have_item.new.reader c.have_item.new.self.whole in
    let h = ready _ _ _ c.loop-self.self c.have_item.new.self _ c.loop-self.buf c.have_item.new.buf _ _ now
    c.loop-self.invariant.so_far c.loop-self.invariant.underway c.in_ok-have_item.ensures.more
    c.have_item.ensures.same in
    underway_within _ now h.underway

pub loop-self-smaller : goal.loop-self-smaller
loop-self-smaller g c =
    let at : c.have_item.new.self.at ≡ c.loop-self.self.at = ap (λ (r : AllReply). r.at) c.have_item.ensures.same in
    let now = progress (g.S.Source.input c.have_item.new.source) c.have_item.new.reader c.have_item.new.self.whole in
    let h = ready _ _ _ c.loop-self.self c.have_item.new.self _ c.loop-self.buf c.have_item.new.buf _ _ now
    c.loop-self.invariant.so_far c.loop-self.invariant.underway c.in_ok-have_item.ensures.more
    c.have_item.ensures.same in
    at_falls c.loop-self.self.at c.push_next.new.self.at
    (length (waiting c.push_next.new.self c.have_item.new.buf)) now
    (omega (arith, at, c.in-Ok-true.ensures.forward)) (underway_same _ _ now c.push_next.ensures.total h.underway)

pub loop-self-preserved : goal.loop-self-preserved
loop-self-preserved g c =
    let now = progress (g.S.Source.input c.have_item.new.source) c.have_item.new.reader c.have_item.new.self.whole in
    let h = ready _ _ _ c.loop-self.self c.have_item.new.self _ c.loop-self.buf c.have_item.new.buf _ _ now
    c.loop-self.invariant.so_far c.loop-self.invariant.underway c.in_ok-have_item.ensures.more
    c.have_item.ensures.same in
    let n = ready_next _ _ _ _ c.have_item.new.self c.push_next.new.self _ c.have_item.new.buf _ _ _ h
    (λ more n may. rw c.in-Ok-true.field-0-test at (c.in-Ok-true.ensures.advances more n may))
    c.in-Ok-true.ensures.forward c.push_next.ensures.total c.push_next.ensures.same in
    record {
      so_far = n.so_far;
      underway = n.underway;
      kept = grows_then _ _ _ c.loop-self.invariant.kept c.push_next.ensures.kept;
      few = c.push_next.ensures.few;
      stands = c.push_next.ensures.stands;
      never_fell = omega (arith, c.loop-self.invariant.never_fell, c.have_item.ensures.counted);
    }

pub returns-in-Ok-false-clause-pushes : goal.returns-in-Ok-false-clause-pushes
returns-in-Ok-false-clause-pushes g c =
    let now = progress (g.S.Source.input c.have_item.new.source) c.have_item.new.reader c.have_item.new.self.whole in
    let h = ready _ _ _ c.loop-self.self c.have_item.new.self _ c.loop-self.buf c.have_item.new.buf _ _ now
    c.loop-self.invariant.so_far c.loop-self.invariant.underway c.in_ok-have_item.ensures.more
    c.have_item.ensures.same in
    ready_ended _ _ _ _ c.have_item.new.self c.push_next.new.self _ c.have_item.new.buf _ _ _ _ h
    (λ more n may. rw c.in-Ok-false.field-0-test at (c.in-Ok-false.ensures.advances more n may))
    c.push_next.ensures.same

pub returns-in-Ok-false-clause-kept : goal.returns-in-Ok-false-clause-kept
returns-in-Ok-false-clause-kept g c = grows_then _ _ _ c.loop-self.invariant.kept c.push_next.ensures.kept

pub returns-in-Ok-false-clause-underway : goal.returns-in-Ok-false-clause-underway
returns-in-Ok-false-clause-underway g c =
    let now = progress (g.S.Source.input c.have_item.new.source) c.have_item.new.reader c.have_item.new.self.whole in
    let h = ready _ _ _ c.loop-self.self c.have_item.new.self _ c.loop-self.buf c.have_item.new.buf _ _ now
    c.loop-self.invariant.so_far c.loop-self.invariant.underway c.in_ok-have_item.ensures.more
    c.have_item.ensures.same in
    ready_underway _ _ _ c.have_item.new.self c.push_next.new.self _ c.have_item.new.buf _ _ _ h
    c.push_next.ensures.total c.push_next.ensures.same

pub returns-in-Err-clause-pushes : goal.returns-in-Err-clause-pushes
returns-in-Err-clause-pushes g c =
    let now = progress (g.S.Source.input c.have_item.new.source) c.have_item.new.reader c.have_item.new.self.whole in
    let h = ready _ _ _ c.loop-self.self c.have_item.new.self _ c.loop-self.buf c.have_item.new.buf _ _ now
    c.loop-self.invariant.so_far c.loop-self.invariant.underway c.in_ok-have_item.ensures.more
    c.have_item.ensures.same in
    ready_ended _ _ _ _ c.have_item.new.self c.push_next.new.self _ c.have_item.new.buf _ _ _ _ h
    c.in-Err.ensures.advances c.push_next.ensures.same

pub returns-in-Err-clause-kept : goal.returns-in-Err-clause-kept
returns-in-Err-clause-kept g c = grows_then _ _ _ c.loop-self.invariant.kept c.push_next.ensures.kept

pub returns-in-Err-clause-underway : goal.returns-in-Err-clause-underway
returns-in-Err-clause-underway g c =
    let now = progress (g.S.Source.input c.have_item.new.source) c.have_item.new.reader c.have_item.new.self.whole in
    let h = ready _ _ _ c.loop-self.self c.have_item.new.self _ c.loop-self.buf c.have_item.new.buf _ _ now
    c.loop-self.invariant.so_far c.loop-self.invariant.underway c.in_ok-have_item.ensures.more
    c.have_item.ensures.same in
    ready_underway _ _ _ c.have_item.new.self c.push_next.new.self _ c.have_item.new.buf _ _ _ h
    c.push_next.ensures.total c.push_next.ensures.same
