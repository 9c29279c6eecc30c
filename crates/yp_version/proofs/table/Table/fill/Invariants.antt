-- How many rows are in the chains.
use Rattle.yp_version.specs.Tables.{HasChains}
use Rattle.yp_version.proofs.table.Table.fill.Given as goal

abbrev pub invariant-loop-row : goal.invariant-loop-row
invariant-loop-row l = HasChains l.self.hasher l.self.heads.items l.self.before.items l.slab.rows l.row
