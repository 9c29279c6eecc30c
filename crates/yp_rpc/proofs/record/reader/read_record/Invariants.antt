-- How far a record has come.
use Rattle.std.proofs.Common.{◌+◌, ◌-◌, ◌≤◌, length}
use Rattle.yp_rpc.specs.Records.{empty_max}
use Rattle.yp_rpc.proofs.Fragments.{HasFilled}
use Rattle.yp_rpc.proofs.record.reader.read_record.Given as goal

abbrev pub invariant-fragments : goal.invariant-fragments
invariant-fragments g l = record {
  fits : l.len ≤ length l.buf;
  few : l.empty ≤ empty_max;
  begun : HasFilled (g.S.Source.input l.fn.source) (g.S.Source.input l.source) l.buf l.len l.empty l.place l.end;
  never_fell : g.S.Source.faults l.fn.source ≤ g.S.Source.faults l.source;
}

-- what is left of the buffer and of the empty fragments
abbrev pub decreases-fragments : goal.decreases-fragments
decreases-fragments g l = (length l.buf - l.len) + (empty_max - l.empty)
