-- How long what is spelled is.
use Rattle.std.proofs.Common.{◌≡◌, ℕ, ◌+◌, List, [], ◌∷◌, ◌++◌, length, refl, sym, ◌∙◌, arith}
use Rattle.std.specs.List.{flat_map}
use Rattle.std.proofs.lemmas.List.{length-append, length-replicate}
use Rattle.std.proofs.lemmas.List.Sums.{sum_by-cons}
use Rattle.yp_xdr.specs.Kind.{U32, Opaque}
use Rattle.yp_xdr.specs.Spelling.{word, padding, padding_len, opaque, fixed, spelling}
use Rattle.yp_version.specs.Limits.{key_max, value_max, master_max}
use Rattle.yp_version.specs.Rows.{Row, padded, row_len, rows_len}
use Rattle.yp_version.specs.Versions.{MapVersion, body_len}
use Rattle.yp_version.specs.Bodies.{front_bytes, head_bytes, format}
use Rattle.yp_version.specs.inside.Bodies.{row_bytes, body}

pub length_opaque : (max : ℕ) (content : List ℕ) → length (spelling (Opaque max) content) ≡ 4 + padded (length content)
unfolding opaque fixed
length_opaque max content =
    let zeros : length (padding (length content)) ≡ padding_len (length content) =
    length-replicate (padding_len (length content)) 0 in
    omega (arith, length-append (word (length content)) (fixed content), length-append content (padding (length content)))

pub length_row : (row : Row) → length (row_bytes row) ≡ row_len row
unfolding row_bytes
length_row row = omega (
  arith,
  length-append (spelling (Opaque key_max) row.0) (spelling (Opaque value_max) row.1),
  length_opaque key_max row.0,
  length_opaque value_max row.1,
)

pub length_rows : (rows : List Row) → length (flat_map row_bytes rows) ≡ rows_len rows
length_rows [] = refl
length_rows (row ∷ rows) =
    let one = length_row row in
    let others = length_rows rows in
    length-append (row_bytes row) (flat_map row_bytes rows)
    ∙ (let e : length (row_bytes row) + length (flat_map row_bytes rows) ≡ row_len row + rows_len rows =
    omega arith in e) ∙ sym (sum_by-cons row_len row rows)

pub length_front : (number order : ℕ) (master : List ℕ) (count : ℕ) → length (front_bytes number order master count) ≡ 16 + padded (length master)
unfolding front_bytes
length_front number order master count =
    let a = spelling U32 number in
    let b = spelling U32 order in
    let c = spelling (Opaque master_max) master in
    let d = spelling U32 count in
    omega (arith, length-append (a ++ b ++ c) d, length-append (a ++ b) c, length-append a b, length_opaque master_max master)

-- a body is as long as its parts
pub length_body : (v : MapVersion) → length (body v) ≡ body_len v
length_body v = omega (
  arith,
  length-append (head_bytes v) (flat_map row_bytes v.rows),
  length_front (format v.secure) v.order v.master (length v.rows),
  length_rows v.rows,
)
