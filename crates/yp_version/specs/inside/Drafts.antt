-- What holds of every draft.
use Rattle.std.specs.Prelude.{◌^◌, ◌<◌, ◌≤◌, length, All}
use Rattle.yp_version.specs.Limits.{key_max, value_max, master_max, rows_max, body_max}
use Rattle.yp_version.specs.inside.Rows.{HasDistinctKeys}
use Rattle.yp_version.specs.Drafts.{Draft, draft_len}

-- what holds of every draft
pub record IsDraft (draft : Draft) : Type 0 where
  pub order : draft.order < 2 ^ 32
  pub master : length draft.master ≤ master_max
  pub distinct : HasDistinctKeys draft.rows
  pub keys : All (λ row. length row.0 ≤ key_max) draft.rows
  pub values : All (λ row. length row.1 ≤ value_max) draft.rows
  pub count : length draft.rows ≤ rows_max
  pub body : draft_len draft ≤ body_max
