-- What the code keeps of rows as they stand.
use Rattle.std.specs.Prelude.{List, map}
use Rattle.yp_version.specs.Rows.{Row}
use Rattle.yp_version.specs.inside.Slabs.{AreRowsAt, row_from}
use Rattle.yp_version.specs.declared.spelled_rows.SpelledRows.TheInside.{Inside}

-- the rows at their places
abbrev pub rows_of : Inside → List Row
rows_of inside = map (row_from inside.bytes.now) inside.places.now

-- they stand at their places
abbrev pub IsSpelled : Inside → Type 0
IsSpelled inside = AreRowsAt inside.bytes.now inside.places.now
