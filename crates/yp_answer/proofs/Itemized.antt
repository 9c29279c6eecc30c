-- The parts of ALL's reply by their numbers.
use Rattle.std.proofs.Common.{◌≡◌, ℕ, zero, suc, ◌+◌, ◌<◌, ◌≤◌, List, [], ◌∷◌, ◌++◌, length, map, slice_get, Option, Some, None, option_map, refl, sym, ap, ◌∙◌, arith}
use Rattle.std.proofs.lemmas.Option.{slice_get_within, slice_get_past, same_Some, none-some}
use Rattle.std.proofs.lemmas.List.{length-map}
use Rattle.yp_xdr.specs.Kind.{Value}
use Rattle.yp_xdr.specs.Spelling.{spelling}
use Rattle.yp_messages.specs.Messages.{key_val}
use Rattle.yp_messages.specs.inside.Messages.{all_item}
use Rattle.yp_version.specs.inside.Bodies.{spelled_row}
use Rattle.yp_version.specs.Rows.{Row}
use Rattle.yp_answer.specs.Results.{row_item}
use Rattle.yp_answer.specs.inside.Items.{spelled_item}

-- the parts of items
abbrev pub parts_of : List (Value key_val) → List (List ℕ)
parts_of items = map (spelling all_item) (map (λ item. Some item) items ++ None ∷ [])

-- a row by its number
pub row_part : (rows : List Row) (i : ℕ) (row : Row) → slice_get rows i ≡ Some row → slice_get (parts_of (map row_item rows)) i ≡ Some (spelling all_item (Some (row_item row)))
row_part [] i row there = absurd (omega (arith, slice_get_within [] i row there))
row_part (r ∷ rows) zero row there =
    let same : r ≡ row = cc in
    ap (λ (x : Row). Some (spelling all_item (Some (row_item x)))) same
row_part (r ∷ rows) (suc i) row there = row_part rows i row there

-- the end behind the last row
end_at : (rows : List Row) → slice_get (parts_of (map row_item rows)) (length rows) ≡ Some (spelling all_item None)
end_at [] = refl
end_at (r ∷ rows) = end_at rows

pub end_part : (rows : List Row) (i : ℕ) → i ≡ length rows → slice_get (parts_of (map row_item rows)) i ≡ Some (spelling all_item None)
end_part rows i is = ap (slice_get (parts_of (map row_item rows))) is ∙ end_at rows

-- how many parts there are
pub length-parts_of : (items : List (Value key_val)) → length (parts_of items) ≡ length items + 1
length-parts_of [] = refl
length-parts_of (item ∷ items) = omega (arith, length-parts_of items)

-- nothing behind the end
pub past_part : (rows : List Row) (i : ℕ) → length rows < i → slice_get (parts_of (map row_item rows)) i ≡ None
past_part rows i past = slice_get_past (parts_of (map row_item rows)) i (omega (arith, length-parts_of (map row_item rows), length-map rows row_item))

-- a row that is spelled, by its number
pub spelled_part : (rows : List Row) (i : ℕ) (key val : List ℕ) → Some (key, val) ≡ option_map spelled_row (slice_get rows i)
    → Some (spelled_item (key, val)) ≡ slice_get (parts_of (map row_item rows)) i
spelled_part rows i key val there = by (slice_get rows i) refl
  where
    by : (row : Option Row) → slice_get rows i ≡ row → Some (spelled_item (key, val)) ≡ slice_get (parts_of (map row_item rows)) i
    by None e = absurd (none-some (key, val) (sym (there ∙ ap (option_map spelled_row) e)))
    by (Some row) e =
        let same : (key, val) ≡ spelled_row row = same_Some (key, val) (spelled_row row) (there ∙ ap (option_map spelled_row) e) in
        ap (λ (p : List ℕ × List ℕ). Some (spelled_item p)) same
        ∙ sym (row_part rows i row e)

-- it is one of the rows
pub spelled_within : (rows : List Row) (i : ℕ) (row : List ℕ × List ℕ) → Some row ≡ option_map spelled_row (slice_get rows i) → i < length rows
spelled_within [] i row there = absurd (none-some row (sym there))
spelled_within (r ∷ rows) zero row there = omega arith
spelled_within (r ∷ rows) (suc i) row there = omega (arith, spelled_within rows i row there)

-- where no row is spelled, the rows have ended
pub no_row_spelled : (rows : List Row) (i : ℕ) → None ≡ option_map spelled_row (slice_get rows i) → length rows ≤ i
no_row_spelled [] i none = omega arith
no_row_spelled (r ∷ rows) zero none = absurd (none-some (spelled_row r) none)
no_row_spelled (r ∷ rows) (suc i) none = omega (arith, no_row_spelled rows i none)

-- where there is no row, the rows have ended
pub no_row_there : (rows : List Row) (i : ℕ) → slice_get rows i ≡ None → length rows ≤ i
no_row_there [] i none = omega arith
no_row_there (r ∷ rows) zero none = absurd cc
no_row_there (r ∷ rows) (suc i) none = omega (arith, no_row_there rows i none)

-- where there is no part, the parts have ended
pub no_part_there : (parts : List (List ℕ)) (i : ℕ) → slice_get parts i ≡ None → length parts ≤ i
no_part_there [] i none = omega arith
no_part_there (part ∷ parts) zero none = absurd cc
no_part_there (part ∷ parts) (suc i) none = omega (arith, no_part_there parts i none)
