use Rattle.std.proofs.Common.{◌≡◌, ◌+◌, take, drop}
use Rattle.yp_texts.specs.Dumps.{dump_text, first_unfit}
use Rattle.yp_texts.proofs.dumps.dump.Given as goal

abbrev pub invariant-loop-i : goal.invariant-loop-i
invariant-loop-i l = record {
  text : l.text.items ≡ dump_text (take l.i l.version.rows);
  fits : first_unfit 1 l.version.rows ≡ first_unfit (l.i + 1) (drop l.i l.version.rows);
}
