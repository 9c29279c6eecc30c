-- What pushing rows leaves as it was.
use Rattle.std.proofs.Common.{◌≡◌, ℕ, Bool, true, false, cond, List, [], ◌∷◌, ◌++◌, refl, ap, ◌∙◌}
use Rattle.std.specs.Prelude.{is_some}
use Rattle.yp_version.specs.Rows.{Row, value_of, listed}
use Rattle.yp_version.specs.Versions.{MapVersion}
use Rattle.yp_version.specs.Drafts.{Draft, with_row, with_rows}
use Rattle.yp_command_serve.specs.Once.{once_draft, once_version}

-- a row leaves the order and the master
row_keeps : (draft : Draft) (row : Row) → ((with_row draft row).order ≡ draft.order) × ((with_row draft row).master ≡ draft.master)
row_keeps draft row =
    elim (is_some (value_of row.0 draft.rows)) as (λ (there : Bool). ((cond there draft (record draft { rows = draft.rows ++ row ∷ [] })).order ≡ draft.order)
    × ((cond there draft (record draft { rows = draft.rows ++ row ∷ [] })).master ≡ draft.master)) [
      | true ↦ (refl, refl)
      | false ↦ (refl, refl)
    ]

-- and so do rows
pub rows_keep : (draft : Draft) (rows : List Row) → ((with_rows draft rows).order ≡ draft.order) × ((with_rows draft rows).master ≡ draft.master)
rows_keep draft [] = (refl, refl)
rows_keep draft (row ∷ rows) =
    let rest = rows_keep (with_row draft row) rows in
    let first = row_keeps draft row in
    (rest.0 ∙ first.0, rest.1 ∙ first.1)

-- what is finished is the version of the rows
pub once_finished : (rows : List Row) (start draft : Draft) (version : MapVersion) → start ≡ once_draft → draft ≡ with_rows start rows
    → version ≡ record { order = draft.order; master = draft.master; secure = false; rows = listed draft.rows } → version ≡ once_version rows
once_finished rows start draft version begins pushed is =
    let all : draft ≡ with_rows once_draft rows = pushed ∙ ap (λ (d : Draft). with_rows d rows) begins in
    let kept = rows_keep once_draft rows in
    is ∙ ap (λ (d : Draft). record { order = d.order; master = d.master; secure = false; rows = listed d.rows }) all
    ∙ ap (λ (order : ℕ). record { order = order; master = (with_rows once_draft rows).master; secure = false; rows = listed (with_rows once_draft rows).rows }) kept.0
    ∙ ap (λ (master : List ℕ). record { order = 1; master = master; secure = false; rows = listed (with_rows once_draft rows).rows }) kept.1
