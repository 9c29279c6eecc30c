-- A version of a map: its order, its master, whether it is secure, and its rows.
use Rattle.std.specs.Prelude.{ℕ, ◌+◌, ◌^◌, ◌<◌, ◌≤◌, Bool, false, List, length, All}
use Rattle.yp_version.specs.Limits.{key_max, value_max, master_max, rows_max, body_max}
use Rattle.yp_version.specs.Rows.{Row, IsRising, padded, rows_len}

-- a version; its rows stand in rising order of their keys
pub record MapVersion : Type 0 where
  pub order : ℕ
  pub master : List ℕ
  pub secure : Bool
  pub rows : List Row

-- the bytes of its stored body: format, order, the master behind its length, the count of rows, and the rows
abbrev pub body_len : MapVersion → ℕ
body_len version = 16 + padded (length version.master) + rows_len version.rows

-- what holds of every version
pub record IsVersion (version : MapVersion) : Type 0 where
  pub order : version.order < 2 ^ 32
  pub master : length version.master ≤ master_max
  pub rising : IsRising version.rows
  pub keys : All (λ row. length row.0 ≤ key_max) version.rows
  pub values : All (λ row. length row.1 ≤ value_max) version.rows
  pub count : length version.rows ≤ rows_max
  pub body : body_len version ≤ body_max

-- a version of these rows that isn't secure
abbrev pub unmarked : ℕ → List ℕ → List Row → MapVersion
unmarked order master rows = record { order = order; master = master; secure = false; rows = rows }
