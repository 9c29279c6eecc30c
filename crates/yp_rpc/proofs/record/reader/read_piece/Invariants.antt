-- How far `read_piece` has come.
use Rattle.std.proofs.Common.{ℕ, ◌+◌, ◌-◌, ◌≤◌, List, Option}
use Rattle.yp_rpc.specs.Records.{empty_max}
use Rattle.yp_rpc.specs.inside.Pieces.{HasGiven}
use Rattle.yp_rpc.specs.Parts.{part_of}
use Rattle.yp_rpc.proofs.record.reader.read_piece.Given as goal

abbrev pub invariant-loop-part : goal.invariant-loop-part
invariant-loop-part g l = record {
  given : (front : List ℕ) (start : Option (List ℕ))
      → HasGiven l.limit front start (g.S.Source.input l.fn.source) (part_of l.fn.part)
      → HasGiven l.limit front start (g.S.Source.input l.source) (part_of l.part);
  never_fell : g.S.Source.faults l.fn.source ≤ g.S.Source.faults l.source;
}

abbrev pub decreases-loop-part : goal.decreases-loop-part
decreases-loop-part g l = (empty_max - l.part.empty) + (1 - l.part.left)
