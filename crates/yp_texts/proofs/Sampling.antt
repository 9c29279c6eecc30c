-- Rows of samples fit into a version.
use Rattle.std.proofs.Common.{◌≡◌, ℕ, suc, ◌+◌, ◌-◌, ◌<◌, ◌≤◌, Bool, true, false, [], ◌∷◌, ◌++◌, length, refl, sym, ap}
use Rattle.std.proofs.Common.{subst, ◌∙◌, ◌⊎◌, inl, inr, arith, rules, tests, lit<, lit≤, length-append}
use Rattle.std.specs.Option.{option_map_or}
use Rattle.std.specs.Prelude.{Result, Ok, Err, OnOk, IfErr, Option, Some, None, is_some, nat_lt, nat_le, if◌then◌else◌}
use Rattle.std.proofs.lemmas.Fmt.{length-decimal-le}
use Rattle.std.proofs.lemmas.List.Sums.{sum_by-append}
use Rattle.yp_version.specs.Limits.{key_max, value_max, rows_max, body_max}
use Rattle.yp_version.specs.Rows.{Row, value_of, padded, row_len}
use Rattle.yp_version.specs.Drafts.{Draft, draft_len, refused, refused_new, with_row, with_rows}
use Rattle.yp_version.specs.declared.builder.VersionFault.{VersionFault}
use Rattle.yp_texts.specs.declared.fault.BuildFault.{BuildFault}
use Rattle.yp_texts.specs.declared.fault.BuildFault.TheVariants.{NoMemory}
use Rattle.yp_texts.specs.Pushes.{fault_at}
use Rattle.yp_texts.specs.inside.Pushes.{Stopped}
use Rattle.yp_texts.proofs.Pushing.{stopped-cause}
use Rattle.yp_texts.specs.Samples.{number_after, sample_key, sample_value, samples}
use Rattle.yp_texts.specs.inside.Samples.{samples_len}

padded-le : (n : ℕ) → padded n ≤ n + 3
padded-le n = omega arith

length-sample_value : (i : ℕ) → i < rows_max → length (sample_value i) ≤ 7
length-sample_value i h = omega (arith, length-decimal-le 6 i (lit< tt) (omega arith) (omega arith))

row_len-sample : (i x : ℕ) → i < rows_max → row_len (sample_key x, sample_value i) ≤ 30
row_len-sample i x h = omega (arith, padded-le (length (sample_value i)), length-sample_value i h)

not_le : (m n : ℕ) → n < m → nat_le m n ≡ false
not_le m n h = search (rules, tests)

not_lt : (m n : ℕ) → n ≤ m → nat_lt m n ≡ false
not_lt m n h = search (rules, tests)

refused_new-none : (draft : Draft) (row : Row) → length draft.rows < rows_max → draft_len draft + row_len row ≤ body_max
    → refused_new draft row ≡ None
refused_new-none draft row rows body =
    rw (not_le rows_max (length draft.rows) rows, not_lt body_max (draft_len draft + row_len row) body)

none_either_way : (there : Bool) (refusal : Option VersionFault) → refusal ≡ None
    → (if there then None else refusal) ≡ None
none_either_way true refusal e = refl
none_either_way false refusal e = e

refused-none : (draft : Draft) (row : Row) → length row.0 ≤ key_max → length row.1 ≤ value_max
    → length draft.rows < rows_max → draft_len draft + row_len row ≤ body_max → refused draft row ≡ None
refused-none draft row key value rows body =
    rw (not_lt key_max (length row.0) key, not_lt value_max (length row.1) value)
    (none_either_way (is_some (value_of row.0 draft.rows)) (refused_new draft row)
    (refused_new-none draft row rows body))

pub sample-fits : (draft : Draft) (i x : ℕ) → i < rows_max → length draft.rows ≤ i → draft_len draft ≤ samples_len i
    → refused draft (sample_key x, sample_value i) ≡ None
sample-fits draft i x place rows body =
    refused-none draft (sample_key x, sample_value i) (lit≤ tt) (omega (arith, length-sample_value i place))
    (omega arith) (omega (arith, row_len-sample i x place))

longer-rows : (there : Bool) (draft : Draft) (row : Row)
    → length (if there then draft else record draft { rows = draft.rows ++ row ∷ [] }).rows ≤ length draft.rows + 1
longer-rows true draft row = omega arith
longer-rows false draft row = omega (arith, length-append draft.rows (row ∷ []))

longer-body : (there : Bool) (draft : Draft) (row : Row)
    → draft_len (if there then draft
    else record draft { rows = draft.rows ++ row ∷ [] }) ≤ draft_len draft + row_len row
longer-body true draft row = omega arith
longer-body false draft row = omega (arith, sum_by-append row_len draft.rows (row ∷ []))

pub sample-rows : (draft : Draft) (i x : ℕ) → length draft.rows ≤ i
    → length (with_row draft (sample_key x, sample_value i)).rows ≤ i + 1
sample-rows draft i x rows = omega
    (arith, longer-rows (is_some (value_of (sample_key x) draft.rows)) draft (sample_key x, sample_value i))

pub sample-body : (draft : Draft) (i x : ℕ) → i < rows_max → draft_len draft ≤ samples_len i
    → draft_len (with_row draft (sample_key x, sample_value i)) ≤ samples_len (i + 1)
sample-body draft i x place body =
    omega (
      arith,
      longer-body (is_some (value_of (sample_key x) draft.rows)) draft
          (sample_key x, sample_value i),
      row_len-sample i x place,
    )

-- ---- what a push of such a row answers

pub sample-ok : (r : Result (Unit {0}) BuildFault) (draft now : Draft) (i x : ℕ) → i < rows_max
    → draft_len draft ≤ samples_len i → OnOk r (now ≡ with_row draft (sample_key x, sample_value i))
    → OnOk r (draft_len now ≤ samples_len (i + 1))
sample-ok (Ok _) draft now i x place body e = let P : Draft → Type 0 = λ d. draft_len d ≤ samples_len (i + 1) in
    subst P (sym e) (sample-body draft i x place body)
sample-ok (Err fault) draft now i x place body e = tt

memory_alone : (line : ℕ) (refusal : Option VersionFault) (fault : BuildFault) → refusal ≡ None
    → (fault ≡ NoMemory) ⊎ (option_map_or (λ fault. Some (fault_at line fault)) refusal None ≡ Some fault)
    → fault ≡ NoMemory
memory_alone line refusal fault e (inl memory) = memory
memory_alone line refusal fault e (inr refused) = let no : None ≡ Some fault = rw e at refused in cc

pub sample-err : (r : Result (Unit {0}) BuildFault) (draft now : Draft) (line i x : ℕ) → i < rows_max
    → length draft.rows ≤ i → draft_len draft ≤ samples_len i
    → IfErr r (Stopped draft ((line, (sample_key x, sample_value i)) ∷ []) now) → IfErr r (λ fault. fault ≡ NoMemory)
sample-err (Ok _) draft now line i x place rows body stopped = tt
sample-err (Err fault) draft now line i x place rows body stopped =
    memory_alone line (refused draft (sample_key x, sample_value i)) fault (sample-fits draft i x place rows body)
    (stopped-cause draft ((line, (sample_key x, sample_value i)) ∷ []) now fault stopped)

-- ---- the rows that are left

samples-cut : (i x n : ℕ) → i < n
    → samples i x (n - i) ≡ (sample_key (number_after x), sample_value i) ∷ samples (i + 1) (number_after x)
    (n - (i + 1))
samples-cut i x n h = let more : n - i ≡ suc (n - (i + 1)) = omega arith in rw more

pub samples-left : (all draft now : Draft) (i x next n : ℕ) → i < n → next ≡ number_after x
    → now ≡ with_row draft (sample_key next, sample_value i) → all ≡ with_rows draft (samples i x (n - i))
    → all ≡ with_rows now (samples (i + 1) next (n - (i + 1)))
samples-left all draft now i x next n h e row left = rw (row, e) (left ∙ ap (with_rows draft) (samples-cut i x n h))

-- all rows were pushed
pub samples-none : (all draft : Draft) (i x n : ℕ) → n ≤ i → all ≡ with_rows draft (samples i x (n - i))
    → all ≡ draft
samples-none all draft i x n h left =
    let none : n - i ≡ 0 = omega (arith, h) in left ∙ ap (λ (k : ℕ). with_rows draft (samples i x k)) none
