-- How far the walk along the chain of a bucket has come.
use Rattle.std.proofs.Common.{length}
use Rattle.yp_version.specs.Tables.{bucket_of, is_in, linked, number_in, IsMarked}
use Rattle.yp_version.specs.inside.Tables.{has_key}
use Rattle.yp_version.proofs.Chains.{Walks}
use Rattle.yp_version.proofs.table.Table.find.Given as goal

abbrev pub invariant-loop-row : goal.invariant-loop-row
invariant-loop-row l = Walks (is_in l.self.hasher (length l.self.heads.items) l.slab.rows (bucket_of l.self.hasher (length l.self.heads.items) l.key))
    (has_key l.key l.slab.rows) (length l.self.before.items) (linked l.link)
    × IsMarked l.self.hasher l.slab.rows l.link

abbrev pub decreases-loop-row : goal.decreases-loop-row
decreases-loop-row l = number_in l.link
