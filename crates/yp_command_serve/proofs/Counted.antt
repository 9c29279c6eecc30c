-- The numbers that are told.
use Rattle.std.proofs.Common.{◌≡◌, ℕ, ◌+◌, ◌<◌, Bool, true, false, cond, List, [], length, take, get_or, count_by, Option, Some, None, refl, sym, ap, ◌∙◌}
use Rattle.std.specs.Prelude.{bytes_eq, slice_get}
use Rattle.std.proofs.lemmas.Option.{slice_get_within, get_or_from_slice_get, slice_get-get_or}
use Rattle.std.proofs.lemmas.List.Sums.{count_by_more_yes, count_by_more_no}
use Rattle.yp_version.specs.Rows.{Row}
use Rattle.yp_version.specs.Versions.{MapVersion, body_len}
use Rattle.yp_answer.specs.Maps.{Maps}
use Rattle.yp_command_serve.specs.Callers.{reply_to}
use Rattle.yp_command_serve.specs.Sample.{sample_maps, sample_match, sample_all, value_reply, is_reply, is_matched, reply_len, tally_of}

module _ (maps : Maps) (call : List ℕ) (key value bytes : List ℕ) where
  -- no reply
  pub unmatched : (some : Bool) → call ≡ sample_match key → reply_to maps call ≡ cond some (Some bytes) None → some ≡ false → false ≡ is_matched maps (key, value)
  unmatched true is answered none = absurd cc
  unmatched false is answered none =
      sym (ap (λ (r : Option (List ℕ)). is_reply r (value_reply value)) (ap (reply_to maps) (sym is) ∙ answered))

  -- a reply
  pub matched_is : (some : Bool) → call ≡ sample_match key → reply_to maps call ≡ cond some (Some bytes) None → some ≡ true → bytes_eq bytes (value_reply value) ≡ is_matched maps (key, value)
  matched_is false is answered there = absurd cc
  matched_is true is answered there =
      sym (ap (λ (r : Option (List ℕ)). is_reply r (value_reply value)) (ap (reply_to maps) (sym is) ∙ answered))

-- a row more
pub row_yes : (p : Row → Bool) (rows : List Row) (i : ℕ) (row : Row) → Some row ≡ slice_get rows i → p row ≡ true → count_by p (take (i + 1) rows) ≡ count_by p (take i rows) + 1
row_yes p rows i row is counts = count_by_more_yes p rows i row (slice_get_within rows i row (sym is)) (ap p (get_or_from_slice_get rows i row row (sym is)) ∙ counts)

pub row_no : (p : Row → Bool) (rows : List Row) (i : ℕ) (row : Row) → Some row ≡ slice_get rows i → p row ≡ false → count_by p (take (i + 1) rows) ≡ count_by p (take i rows)
row_no p rows i row is fails = count_by_more_no p rows i row (slice_get_within rows i row (sym is)) (ap p (get_or_from_slice_get rows i row row (sym is)) ∙ fails)

-- there is a row
pub row_there : (rows : List Row) (i : ℕ) → None ≡ slice_get rows i → i < length rows → ⊥
row_there rows i none lt =
    let some = slice_get-get_or rows i ([], []) lt in
    let both : None ≡ Some (get_or rows i ([], [])) = none ∙ some in
    absurd cc

-- all numbers of a version
pub tally_is : (version : MapVersion) (maps : Maps) (rows body all matched : ℕ) → maps ≡ sample_maps version → rows ≡ length version.rows → body ≡ body_len version
    → all ≡ reply_len (reply_to maps sample_all) → matched ≡ count_by (is_matched maps) version.rows
    → record { rows = rows; body = body; all = all; matched = matched } ≡ tally_of version
tally_is version maps rows body all matched shown r b a m = rw (r, b, a, m, shown) refl
