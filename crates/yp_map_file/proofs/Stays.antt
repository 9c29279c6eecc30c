-- What each part of a commit leaves of the winner, at each moment.
use Rattle.std.proofs.Common.{◌≡◌, ℕ, ◌+◌, ◌<◌, ◌≤◌, true, false, List, [], ◌∷◌, length, Option, Some, None, refl, sym}
use Rattle.std.proofs.Common.{ap, subst, ◌∙◌, inl, inr, ⊎_elim, ◌⊎◌, arith}
use Rattle.yp_io.specs.Disk.{DiskState, longest, IsImage}
use Rattle.yp_xdr.specs.Reading.{first_nonzero}
use Rattle.yp_map_file.specs.declared.cells.Cell.{Cell}
use Rattle.yp_map_file.specs.declared.cells.Cell.TheVariants.{First, Second}
use Rattle.yp_map_file.specs.declared.cells.Entry.{Entry}
use Rattle.yp_map_file.specs.Cells.{cell_place, is_open, entry}
use Rattle.yp_map_file.specs.inside.Cells.{other}
use Rattle.yp_map_file.specs.Bodies.{body_at}
use Rattle.yp_map_file.specs.Stands.{file_max, has_room, by_body}
use Rattle.yp_map_file.specs.inside.Stands.{standing}
use Rattle.yp_map_file.proofs.Sits.{Beats, SitsIn, Sits}
use Rattle.yp_map_file.proofs.Images.{room_facts, has_room_from, Outside, outside_none, outside_more, outside_part}
use Rattle.yp_map_file.proofs.Images.{bytes_kept, gate_kept, entry_kept, filler_kept}

-- ---- the two cells

pub cell_below : (t : Cell) → cell_place t + 32 ≤ 64
cell_below First = omega arith
cell_below Second = omega arith

pub cells_apart : (t : Cell) → (cell_place t + 32 ≤ cell_place (other t)) ⊎ (cell_place (other t) + 32 ≤ cell_place t)
cells_apart First = inl (omega arith)
cells_apart Second = inr (omega arith)

pub other-other : (t : Cell) → other (other t) ≡ t
other-other First = refl
other-other Second = refl

-- ---- what isn't written stays

-- these ranges touch neither the winner's cell nor its body
abbrev pub SparesIn : List (ℕ × ℕ) → Cell → Option Entry → Type 0
SparesIn ranges t None = Unit {0}
SparesIn ranges t (Some e) = Outside ranges e.place e.len

pub record Spares (ranges : List (ℕ × ℕ)) (n : ℕ) (t : Cell) (w : Option Entry) : Type 0 where
  pub cell : Outside ranges (cell_place (other t)) 32
  pub body : SparesIn ranges t w
  pub longest : longest ranges n ≤ file_max

-- the file still stands for what it stood for
pub record Stays (f c : List ℕ) (t : Cell) (w : Option Entry) : Type 0 where
  pub sits : Sits c t w
  pub same : standing w c ≡ standing w f

module _ (state : DiskState) (c : List ℕ) (image : IsImage state c) where
  abbrev f : List ℕ
  f = state.synced

  -- the body of an entry that has room in the file
  pub body_stays : (e : Entry) → has_room e (length f) ≡ true → Outside state.written e.place e.len
      → (has_room e (length c) ≡ true) × (standing (Some e) c ≡ standing (Some e) f)
  body_stays e room o =
      let r = room_facts e (length f) room in
      let len = image.no_shorter in
      let same = bytes_kept state c image e.place e.len r.file o in (
        has_room_from e (length c) (record {
          behind = r.behind;
          some = r.some;
          body = r.body;
          file = omega (arith, r.file);
        }),
        ap (λ (b : List ℕ). by_body e.place (body_at b)) same,
      )

  -- the winner's cell and its body
  pub beats_stays : (t : Cell) (e : Entry) → 64 ≤ length f → Beats f t e
      → Outside state.written (cell_place (other t)) 32 → Outside state.written e.place e.len
      → (is_open t c ≡ true → (entry t c).generation < e.generation) → Beats c t e
  beats_stays t e long b o_cell o_body loses =
      let u = other t in
      let below = cell_below u in
      let gate = gate_kept state c image u (omega arith)
      (outside_part state.written (cell_place u) 32 (cell_place u) 1 o_cell (omega arith) (omega arith)) in
      let numbers = entry_kept state c image u (omega arith)
      (outside_part state.written (cell_place u) 32 (cell_place u + 8) 24 o_cell (omega arith) (omega arith)) in
      let zeros = filler_kept state c image u (omega arith)
      (outside_part state.written (cell_place u) 32 (cell_place u + 1) 7 o_cell (omega arith) (omega arith)) in
      record {
        gate = gate ∙ b.gate;
        numbers = numbers ∙ b.numbers;
        zeros = ap first_nonzero zeros
            ∙ b.zeros;
        room = (body_stays e b.room o_body).0;
        loses = loses;
      }

  -- where the cell that is written reads as closed in the end
  stays_in : (t : Cell) (w : Option Entry) → 64 ≤ length f → SitsIn f t w → Spares state.written (length f) t w
      → is_open t c ≡ false → SitsIn c t w × (standing w c ≡ standing w f)
  stays_in t None long e spares shut =
      let P : Cell → Type 0 = λ t. (is_open t c ≡ false) × Outside state.written (cell_place (other t)) 32 in
      let at_first : P First = subst P e.first (shut, spares.cell) in
      let second = gate_kept state c image Second (omega arith)
      (outside_part state.written 32 32 32 1 at_first.1 (omega arith) (omega arith)) in
      (record { first = e.first; shut_first = at_first.0; shut_second = second ∙ e.shut_second }, refl)
  stays_in t (Some e) long b spares shut = (
    beats_stays t e long b spares.cell spares.body (λ is. absurd (let no : true ≡ false = sym is ∙ shut in
        cc)),
    (body_stays e b.room spares.body).1,
  )

  pub stays_closed : (t : Cell) (w : Option Entry) → Sits f t w → Spares state.written (length f) t w
      → is_open t c ≡ false → Stays f c t w
  stays_closed t w s spares shut =
      let k = stays_in t w s.long s.cells spares shut in
      let shorter = image.no_shorter in
      let longer = image.no_longer in
      let within = spares.longest in
      let long = s.long in
      record { sits = record { long = omega arith; small = omega arith; cells = k.0 }; same = k.1 }

  -- where its number stays, whether it reads as closed or not
  pub stays_older : (t : Cell) (e : Entry) → Sits f t (Some e) → is_open t f ≡ true
      → Spares state.written (length f) t (Some e) → Outside state.written (cell_place t + 8) 24 → Stays f c t (Some e)
  stays_older t e s was_open spares o =
      let below = cell_below t in
      let long = s.long in
      let numbers = entry_kept state c image t (omega arith) o in
      let b = s.cells in
      let lt : (entry t c).generation < e.generation = subst (λ (x : Entry). x.generation < e.generation) (sym numbers)
      (b.loses was_open) in
      let shorter = image.no_shorter in
      let longer = image.no_longer in
      let within = spares.longest in
      record {
        sits = record {
          long = omega arith;
          small = omega arith;
          cells = beats_stays t e s.long b spares.cell spares.body (λ _. lt);
        };
        same = (body_stays e b.room spares.body).1;
      }

-- ---- closing

-- the ranges of a one-byte write at a cell's gate
abbrev pub gate_range : Cell → List (ℕ × ℕ)
gate_range t = (cell_place t, cell_place t + 1) ∷ []

gate_spares_in : (f : List ℕ) (t : Cell) (w : Option Entry) → SitsIn f t w → SparesIn (gate_range t) t w
gate_spares_in f t None s = tt
gate_spares_in f t (Some e) b =
    let r = room_facts e (length f) b.room in
    let below = cell_below t in
    let behind = r.behind in
    outside_more (cell_place t) (cell_place t + 1) e.place e.len [] (inr (omega arith)) (outside_none e.place e.len)

pub gate_spares : (f : List ℕ) (t : Cell) (w : Option Entry) → Sits f t w → Spares (gate_range t) (length f) t w
gate_spares f t w s =
    let below = cell_below t in
    let long = s.long in
    let small = s.small in
    record {
      cell = outside_more (cell_place t) (cell_place t + 1) (cell_place (other t)) 32 []
          (⊎_elim (λ h. inr (omega arith)) (λ h. inl (omega arith)) (cells_apart t))
          (outside_none (cell_place (other t)) 32);
      body = gate_spares_in f t w s.cells;
      longest = omega arith;
    }

pub gate_spares_numbers : (t : Cell) → Outside (gate_range t) (cell_place t + 8) 24
gate_spares_numbers t = outside_more (cell_place t) (cell_place t + 1) (cell_place t + 8) 24 [] (inr (omega arith))
    (outside_none (cell_place t + 8) 24)
