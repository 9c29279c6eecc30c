-- The order of a version that is built.
use Rattle.std.proofs.Common.{◌≡◌, ℕ, ◌+◌, ◌<◌, max, Bool, true, false, List, [], ◌∷◌, Option, Some, None, Result, Ok}
use Rattle.std.proofs.Common.{Err, if◌then◌else◌, ◌==◌, arith, refl, sym, ◌∙◌, ap, is_some}
use Rattle.std.specs.Option.{option_map_or}
use Rattle.yp_version.specs.Rows.{Row, value_of}
use Rattle.yp_version.specs.Versions.{MapVersion}
use Rattle.yp_version.specs.Drafts.{Draft, with_new, with_row, with_rows, empty_draft}
use Rattle.yp_texts.specs.declared.reading.Reading.{Reading}
use Rattle.yp_texts.specs.declared.fault.BuildFault.{BuildFault}
use Rattle.yp_texts.specs.declared.fault.BuildFault.TheVariants as fault
use Rattle.yp_texts.specs.Rows.{LineRow, rows}
use Rattle.yp_texts.specs.Pushes.{plain, first_fault}
use Rattle.yp_texts.specs.Builds.{order_max, order_after, finished, filled, built}
use Rattle.yp_texts.specs.After.{last_order, secured, HasLaterOrder}

with_row_order : (draft : Draft) (row : Row) → (with_row draft row).order ≡ draft.order
with_row_order draft row = elim (is_some (value_of row.0 draft.rows)) as
    (λ (b : Bool). (if b then draft else with_new draft row).order ≡ draft.order) [ true ↦ refl | false ↦ refl ]

with_rows_order : (draft : Draft) (rows : List Row) → (with_rows draft rows).order ≡ draft.order
with_rows_order draft [] = refl
with_rows_order draft (row ∷ rows) = with_rows_order (with_row draft row) rows ∙ with_row_order draft row

abbrev fills : Draft → List LineRow → Option BuildFault → Result MapVersion BuildFault
fills draft rows fault = option_map_or (λ f. Err f) fault (Ok (finished (with_rows draft (plain rows))))

-- the version of a draft has its order
pub filled_order : (draft : Draft) (rows : List LineRow) (version : MapVersion) → filled draft rows ≡ Ok version
    → draft.order ≡ version.order
filled_order draft rows version h = finishes (first_fault draft rows) h where
  finishes : (fault : Option BuildFault) → fills draft rows fault ≡ Ok version → draft.order ≡ version.order
  finishes None e =
      let same : finished (with_rows draft (plain rows)) ≡ version = cc in
      sym (with_rows_order draft (plain rows)) ∙ ap (λ (v : MapVersion). v.order) same
  finishes (Some f) e = absurd (cc)

-- a version that is built has the order that follows the last one
built_order : (reading : Reading) (text : List ℕ) (previous : Option ℕ) (now : ℕ) (master : List ℕ) (version : MapVersion)
    → built reading text previous now master ≡ Ok version → order_after previous now ≡ Some version.order
built_order reading text previous now master version h = builds (order_after previous now) h where
  builds : (order : Option ℕ)
      → option_map_or (λ o. filled (empty_draft o master) (rows reading text)) order (Err fault.OrderSpent) ≡ Ok version
      → order ≡ Some version.order
  builds None e = absurd (cc)
  builds (Some o) e = ap (λ (n : ℕ). Some n) (filled_order (empty_draft o master) (rows reading text) version e)

-- and that order is over the last one
order_rises : (last now order : ℕ) → order_after (Some last) now ≡ Some order → last < order
order_rises last now order h = rises (last == order_max) h where
  rises : (b : Bool) → (if b then None else Some (max (last + 1) now)) ≡ Some order → last < order
  rises true e = absurd (cc)
  rises false e = let same : max (last + 1) now ≡ order = cc in omega arith

pub built_over : (reading : Reading) (text : List ℕ) (last : Option MapVersion) (now : ℕ) (own : List ℕ) (flag : Option Bool)
    (version : MapVersion)
    → built reading text (last_order last) now own ≡ Ok version → HasLaterOrder last (secured flag last version)
built_over reading text None now own flag version h = tt
built_over reading text (Some last) now own flag version h =
    order_rises last.order now version.order (built_order reading text (Some last.order) now own version h)
