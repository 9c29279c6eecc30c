-- A row as it stands in a reply.
use Rattle.yp_version.specs.Rows.{Row}
use Rattle.yp_client.specs.declared.all.ListedRow.{ListedRow}

abbrev pub row_view : ListedRow → Row
row_view row = (row.key.now, row.value.now)
