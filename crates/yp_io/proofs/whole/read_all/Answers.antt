use Rattle.std.proofs.Common.{arith, rules}
use Rattle.yp_io.proofs.Streams.{reads_nothing, reads_both, stopped_behind}
use Rattle.yp_io.proofs.whole.read_all.Goals as goal

pub loop-text-init : goal.loop-text-init
loop-text-init g c =
    let input = g.S.Source.input c.args.source.now in
    record {
      read = rw c.new-text.ensures.items (reads_nothing input);
      limit = rw c.new-text.ensures.items (search rules);
      room = search rules;
      never_falls = omega arith;
    }

pub returns-in-Ok-eq0-clause-text : goal.returns-in-Ok-eq0-clause-text
returns-in-Ok-eq0-clause-text g c =
    let h = c.in-Ok-eq0.ensures.read in
    rw h.added (reads_both _ _ _ _ h.piece c.loop-text.invariant.read h.taken)

pub loop-text-preserved : goal.loop-text-preserved
loop-text-preserved g c =
    let h = c.in-Ok.ensures.read in
    record {
      read = rw h.added (reads_both _ _ _ _ h.piece c.loop-text.invariant.read h.taken);
      limit = c.in-Ok.ensures.limit;
      room = search rules;
      never_falls = omega (arith, c.loop-text.invariant.never_falls, c.read_more.ensures.never_falls);
    }

pub returns-in-Err-clause-stopped : goal.returns-in-Err-clause-stopped
returns-in-Err-clause-stopped g c =
    stopped_behind _ _ _ _ c.loop-text.text.items c.in-Err.unread c.loop-text.invariant.read c.in-Err.ensures.stopped
