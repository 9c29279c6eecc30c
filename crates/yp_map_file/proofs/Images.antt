-- What a crash leaves of a file while ranges of it are written.
use Rattle.std.proofs.Common.{◌≡◌, ℕ, ◌+◌, ◌<◌, ◌≤◌, true, false, eqb, ltb, leb, List, [], ◌∷◌, length, refl, ap, inl}
use Rattle.std.proofs.Common.{inr, ⊎_elim, ◌⊎◌, arith}
use Rattle.std.proofs.lemmas.Bool.{cases_lt, le-ltb}
use Rattle.std.proofs.lemmas.Bool.Decides.{nat_tests}
use Rattle.yp_io.specs.Disk.{DiskState, is_written, IsImage}
use Rattle.yp_version.specs.Limits.{body_max}
use Rattle.yp_map_file.specs.declared.cells.Cell.{Cell}
use Rattle.yp_map_file.specs.declared.cells.Entry.{Entry}
use Rattle.yp_map_file.specs.Cells.{open_gate, bytes_at, number_at, cell_place, is_open, filler, entry}
use Rattle.yp_map_file.specs.Stands.{has_room}
use Rattle.yp_map_file.proofs.Slices.{same_bytes}

-- ---- room for a body

pub record Room (e : Entry) (n : ℕ) : Type 0 where
  pub behind : 64 ≤ e.place
  pub some : 0 < e.len
  pub body : e.len ≤ body_max
  pub file : e.place + e.len ≤ n

pub room_facts : (e : Entry) (n : ℕ) → has_room e n ≡ true → Room e n
room_facts e n h = record {
  behind = grind (arith, nat_tests);
  some = grind (arith, nat_tests);
  body = grind (arith, nat_tests);
  file = grind (arith, nat_tests);
}

pub has_room_from : (e : Entry) (n : ℕ) → Room e n → has_room e n ≡ true
has_room_from e n r = let a = r.behind in let b = r.some in let c = r.body in let d = r.file in grind (arith, nat_tests)

-- ---- an image keeps what isn't written

abbrev pub Outside : List (ℕ × ℕ) → ℕ → ℕ → Type 0
Outside ranges s k = (x : ℕ) → s ≤ x → x < s + k → is_written ranges x ≡ false

pub outside_none : (s k : ℕ) → Outside [] s k
outside_none s k x le lt = refl

is_written_apart : (a b x : ℕ) (ranges : List (ℕ × ℕ)) → (x < a) ⊎ (b ≤ x) → is_written ranges x ≡ false
    → is_written ((a, b) ∷ ranges) x ≡ false
is_written_apart a b x ranges (inl lt) h = let e : leb a x ≡ false = grind (arith, nat_tests) in rw (e, h) refl
is_written_apart a b x ranges (inr le) h = let e : ltb x b ≡ false = le-ltb _ _ le in elim (cases_lt x a) [
  | inl lt ↦ let e2 : leb a x ≡ false = grind (arith, nat_tests) in rw (e2, h) refl
  | inr ge ↦ let e2 : leb a x ≡ true = grind (arith, nat_tests) in rw (e2, e, h) refl
]

pub outside_more : (a b s k : ℕ) (ranges : List (ℕ × ℕ)) → (s + k ≤ a) ⊎ (b ≤ s) → Outside ranges s k
    → Outside ((a, b) ∷ ranges) s k
outside_more a b s k ranges apart o x le lt =
    is_written_apart a b x ranges (⊎_elim (λ before. inl (omega arith)) (λ behind. inr (omega arith)) apart) (o x le lt)

pub outside_part : (ranges : List (ℕ × ℕ)) (s k i j : ℕ) → Outside ranges s k → s ≤ i → i + j ≤ s + k
    → Outside ranges i j
outside_part ranges s k i j o le fits x le_x lt_x = o x (omega arith) (omega arith)

module _ (state : DiskState) (c : List ℕ) (image : IsImage state c) where
  pub bytes_kept : (s k : ℕ) → s + k ≤ length state.synced → Outside state.written s k
      → bytes_at s k c ≡ bytes_at s k state.synced
  bytes_kept s k fits o =
      let len = image.no_shorter in
      same_bytes s k state.synced c fits (omega arith) (λ x le lt. image.others_stay x (omega arith) (o x le lt))

  pub gate_kept : (cell : Cell) → cell_place cell < length state.synced → Outside state.written (cell_place cell) 1
      → is_open cell c ≡ is_open cell state.synced
  unfolding is_open
  gate_kept cell lt o = ap (λ (n : ℕ). eqb n open_gate)
      (image.others_stay (cell_place cell) lt (o (cell_place cell) (omega arith) (omega arith)))

  number_kept : (s : ℕ) → s + 8 ≤ length state.synced → Outside state.written s 8
      → number_at s c ≡ number_at s state.synced
  number_kept s fits o = let same = bytes_kept s 8 fits o in rw same refl

  pub entry_kept : (cell : Cell) → cell_place cell + 32 ≤ length state.synced
      → Outside state.written (cell_place cell + 8) 24 → entry cell c ≡ entry cell state.synced
  unfolding entry
  entry_kept cell fits o =
      let p = cell_place cell in
      let g = number_kept (p + 8) (omega arith)
      (outside_part state.written (p + 8) 24 (p + 8) 8 o (omega arith) (omega arith)) in
      let q = number_kept (p + 16) (omega arith)
      (outside_part state.written (p + 8) 24 (p + 16) 8 o (omega arith) (omega arith)) in
      let n = number_kept (p + 24) (omega arith)
      (outside_part state.written (p + 8) 24 (p + 24) 8 o (omega arith) (omega arith)) in
      rw (g, q, n) refl

  pub filler_kept : (cell : Cell) → cell_place cell + 32 ≤ length state.synced
      → Outside state.written (cell_place cell + 1) 7 → filler cell c ≡ filler cell state.synced
  unfolding filler
  filler_kept cell fits o = bytes_kept (cell_place cell + 1) 7 (omega arith) o
