use Rattle.std.proofs.Common.{arith, refl}
use Rattle.yp_answer.specs.session.Wires.{wire_of}
use Rattle.yp_answer.specs.session.Progress.{begun}
use Rattle.yp_answer.specs.session.Hosts.{conduct_of}
use Rattle.yp_answer.specs.session.Runs.{dialogue_at}
use Rattle.yp_answer.specs.declared.session.session.End.TheVariants.{Enough}
use Rattle.yp_answer.proofs.session.Sessions.{SoFar-none, SoFar-more, Runs-of, ends_by, falls_then, answered_flushed, answered_falls, ended_flushed, ended_falls, read_fault, write_fault}
use Rattle.yp_answer.proofs.session.session.Session.run.Goals as goal

pub loop-init : goal.loop-init
loop-init g c =
    let conduct = conduct_of g.H.View.seen g.H.Host.told g.H.Host.counts g.H.View.stepped g.H.Host.made g.H.Host.carried in
    let wire = wire_of g.S.Source g.K.Sink in
    record {
      so_far = rw c.begin.ensures (SoFar-none conduct c.args.peer (dialogue_at c.args.host.now (wire c.args.wire.now) begun) (g.W.Witness.wires c.args.witness.now));
      counts = record { reads = omega arith; writes = omega arith };
      flushed = λ old. old;
    }

pub returns-in-Ended : goal.returns-in-Ended
returns-in-Ended g c =
    let conduct = conduct_of g.H.View.seen g.H.Host.told g.H.Host.counts g.H.View.stepped g.H.Host.made g.H.Host.carried in
    let wire = wire_of g.S.Source g.K.Sink in
    let so_far = c.loop.invariant in
    let old = dialogue_at c.args.host.now (wire c.args.wire.now) begun in
    let last = dialogue_at c.loop.host (wire c.loop.wire) c.loop.self in
    let new = dialogue_at c.step.new.host (wire c.step.new.wire) c.step.new.self in
    let end = c.in-Ended.end in
    let does = c.in-Ended.ensures in
    let falls = ended_falls conduct c.args.peer last new end does in
    record {
      runs = record {
        more = _;
        behind = so_far.so_far.watched;
        done = Runs-of conduct c.args.peer c.args.most c.loop.counter end old last new _ _ (omega arith) (omega arith) refl so_far.so_far
            (ends_by conduct c.args.peer c.args.most c.loop.counter end last new c.loop-test.true does);
      };
      flushed = λ other old_flushed. ended_flushed conduct c.args.peer last new end does (λ e. other cc) (so_far.flushed old_flushed);
      counts = falls_then so_far.counts falls;
      read_fault = λ is. read_fault conduct c.args.peer old.wire last new so_far.counts end is does;
      write_fault = λ is. write_fault conduct c.args.peer old.wire last new so_far.counts end is does;
    }

pub loop-preserved : goal.loop-preserved
loop-preserved g c =
    let conduct = conduct_of g.H.View.seen g.H.Host.told g.H.Host.counts g.H.View.stepped g.H.Host.made g.H.Host.carried in
    let wire = wire_of g.S.Source g.K.Sink in
    let so_far = c.loop.invariant in
    let old = dialogue_at c.args.host.now (wire c.args.wire.now) begun in
    let last = dialogue_at c.loop.host (wire c.loop.wire) c.loop.self in
    let new = dialogue_at c.step.new.host (wire c.step.new.wire) c.step.new.self in
    let does = c.in-Answered.ensures in
    let falls = answered_falls conduct c.args.peer last new does in
    record {
      so_far = SoFar-more conduct c.args.peer c.loop.counter old last new _ _ _ so_far.so_far does c.answered.ensures;
      counts = falls_then so_far.counts falls;
      flushed = λ old_flushed. answered_flushed conduct c.args.peer last new does (so_far.flushed old_flushed);
    }

pub returns : goal.returns
returns g c =
    let conduct = conduct_of g.H.View.seen g.H.Host.told g.H.Host.counts g.H.View.stepped g.H.Host.made g.H.Host.carried in
    let wire = wire_of g.S.Source g.K.Sink in
    let so_far = c.loop.invariant in
    let old = dialogue_at c.args.host.now (wire c.args.wire.now) begun in
    let last = dialogue_at c.loop.host (wire c.loop.wire) c.loop.self in
    record {
      runs = record {
        more = _;
        behind = so_far.so_far.watched;
        done = Runs-of conduct c.args.peer c.args.most c.loop.counter Enough old last last _ _ (omega arith) (omega arith) refl so_far.so_far (omega arith, refl);
      };
      flushed = λ other old_flushed. so_far.flushed old_flushed;
      counts = so_far.counts;
      read_fault = λ is. absurd cc;
      write_fault = λ is. absurd cc;
    }
