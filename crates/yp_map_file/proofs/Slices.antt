-- Parts of a file that a crash or a write leaves as they were.
use Rattle.std.proofs.Common.{◌≡◌, ℕ, ◌+◌, ◌-◌, ◌<◌, ◌≤◌, max, List, ◌++◌, length, get_or, take, drop, sym, ap, ◌∙◌}
use Rattle.std.proofs.Common.{arith, length-append, length-take, length-drop}
use Rattle.std.proofs.lemmas.List.{get_or-take, get_or-drop, get_or-append_right, get_or_append_left, take_all}
use Rattle.std.proofs.lemmas.Grind.{same_number_lists}
use Rattle.yp_io.specs.Disk.{overwritten}
use Rattle.yp_map_file.specs.Cells.{bytes_at}

pub length_bytes_at : (s k : ℕ) (f : List ℕ) → s + k ≤ length f → length (bytes_at s k f) ≡ k
unfolding bytes_at
length_bytes_at s k f fits = omega (arith, length-take k (drop s f), length-drop s f)

-- files that agree at each place of a part have the same part
pub same_bytes : (s k : ℕ) (f c : List ℕ) → s + k ≤ length f → s + k ≤ length c
    → ((x : ℕ) → s ≤ x → x < s + k → get_or c x 0 ≡ get_or f x 0) → bytes_at s k c ≡ bytes_at s k f
unfolding bytes_at
same_bytes s k f c fits fits_c same =
    let len_f : length (bytes_at s k f) ≡ k = length_bytes_at s k f fits in
    let len_c : length (bytes_at s k c) ≡ k = length_bytes_at s k c fits_c in
    same_number_lists (bytes_at s k c) (bytes_at s k f) (len_c ∙ sym len_f) (λ i lt.
    let within : i < k = omega (arith, len_c) in
    get_or-take k (drop s c) i 0 within ∙ get_or-drop s c i 0 ∙ same (s + i) (omega arith) (omega arith)
    ∙ sym (get_or-take k (drop s f) i 0 within ∙ get_or-drop s f i 0))

-- ---- a write

module _ (at : ℕ) (piece f : List ℕ) (within : at ≤ length f) where
  pub length-overwritten : length (overwritten at piece f) ≡ max (length f) (at + length piece)
  length-overwritten = omega (
    arith,
    length-append (take at f ++ piece) (drop (at + length piece) f),
    length-append
        (take at f) piece,
    length-take at f,
    length-drop (at + length piece) f,
  )

  front : length (take at f) ≡ at
  front = omega (arith, length-take at f)

  both : length (take at f ++ piece) ≡ at + length piece
  both = omega (arith, length-append (take at f) piece, front)

  -- before it and behind it all is as it was
  pub overwritten_before : (x : ℕ) → x < at → get_or (overwritten at piece f) x 0 ≡ get_or f x 0
  overwritten_before x lt =
      get_or_append_left (take at f ++ piece) (drop (at + length piece) f) 0 x (omega (arith, both))
      ∙ get_or_append_left (take at f) piece 0 x (omega (arith, front))
      ∙ get_or-take at f x 0 lt

  pub overwritten_behind : (x : ℕ) → at + length piece ≤ x → get_or (overwritten at piece f) x 0 ≡ get_or f x 0
  overwritten_behind x le =
      get_or-append_right (take at f ++ piece) (drop (at + length piece) f) (at + length piece) x 0 both le
      ∙ get_or-drop (at + length piece) f (x - (at + length piece)) 0
      ∙ ap (λ (n : ℕ). get_or f n 0) (let e : at + length piece + (x - (at + length piece)) ≡ x = omega arith in e)

  -- and in it stands the piece
  pub overwritten_there : (i : ℕ) → i < length piece → get_or (overwritten at piece f) (at + i) 0 ≡ get_or piece i 0
  overwritten_there i lt =
      get_or_append_left (take at f ++ piece) (drop (at + length piece) f) 0 (at + i) (omega (arith, both))
      ∙ get_or-append_right (take at f) piece at (at + i) 0 front (omega arith)
      ∙ ap (λ (n : ℕ). get_or piece n 0) (let e : at + i - at ≡ i = omega arith in e)

  pub part_there : (i k : ℕ) → i + k ≤ length piece → bytes_at (at + i) k (overwritten at piece f) ≡ bytes_at i k piece
  unfolding bytes_at
  part_there i k fits =
      let n = length-overwritten in
      let len_c : length (bytes_at (at + i) k (overwritten at piece f)) ≡ k =
      length_bytes_at (at + i) k (overwritten at piece f) (omega arith) in
      let len_p : length (bytes_at i k piece) ≡ k = length_bytes_at i k piece fits in
      same_number_lists (bytes_at (at + i) k (overwritten at piece f)) (bytes_at i k piece) (len_c ∙ sym len_p) (λ j lt.
      let inside : j < k = omega (arith, len_c) in
      get_or-take k (drop (at + i) (overwritten at piece f)) j 0 inside
      ∙ get_or-drop (at + i) (overwritten at piece f) j 0
      ∙ ap (λ (n : ℕ). get_or (overwritten at piece f) n 0) (let e : at + i + j ≡ at + (i + j) = omega arith in e)
      ∙ overwritten_there (i + j) (omega arith)
      ∙ sym (get_or-take k (drop i piece) j 0 inside ∙ get_or-drop i piece j 0))

  pub whole_there : bytes_at at (length piece) (overwritten at piece f) ≡ piece
  unfolding bytes_at
  whole_there =
      ap (λ (n : ℕ). bytes_at n (length piece) (overwritten at piece f)) (let e : at ≡ at + 0 = omega arith in e)
      ∙ part_there 0 (length piece) (omega arith)
      ∙ take_all (length piece) piece (omega arith)
