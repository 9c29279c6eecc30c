-- What a table says of rows.
use Rattle.std.specs.Prelude.{◌≡◌, ◌<◌, List, length}
use Rattle.yp_version.specs.Rows.{Row}
use Rattle.yp_version.specs.Tables.{HasChains}
use Rattle.yp_version.specs.declared.table.Table.{Table}

-- the table is that of the first of these rows, as many as it has
abbrev pub IsTable : Table → List Row → Type 0
IsTable table rows = HasChains table.hasher table.heads.items table.before.items rows (length table.before.items)

-- A table has all rows.
abbrev pub HasAll : Table → List Row → Type 0
HasAll table rows = length table.before.items ≡ length rows

-- where it has buckets, it is the table of all these rows
abbrev pub IsWhole : Table → List Row → Type 0
IsWhole table rows = 0 < length table.heads.items → IsTable table rows × HasAll table rows
