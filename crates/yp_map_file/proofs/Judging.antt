-- The first 64 bytes of a file say all that its cells do.
use Rattle.std.proofs.Common.{◌≡◌, ℕ, ◌+◌, ◌<◌, ◌≤◌, Bool, true, false, eqb, ltb, List, length, get_or, take, Option}
use Rattle.std.proofs.Common.{Some, None, Ok, Err, refl, sym, ap, subst, ◌∙◌, arith, length-take}
use Rattle.std.proofs.lemmas.Bool.{le-ltb}
use Rattle.std.proofs.lemmas.Bool.Decides.{nat_tests}
use Rattle.std.proofs.lemmas.List.{get_or-take}
use Rattle.yp_xdr.specs.Reading.{first_nonzero}
use Rattle.yp_map_file.specs.declared.cells.Cell.{Cell}
use Rattle.yp_map_file.specs.declared.cells.Cell.TheVariants.{First, Second}
use Rattle.yp_map_file.specs.declared.cells.Entry.{Entry}
use Rattle.yp_map_file.specs.declared.cells.Winner.{Winner}
use Rattle.yp_map_file.specs.declared.cells.Winner.TheVariants.{Nobody, Both, Only}
use Rattle.yp_map_file.specs.declared.fault.SlotFault.{SlotFault}
use Rattle.yp_map_file.specs.declared.fault.SlotFault.TheVariants as fault
use Rattle.yp_map_file.specs.Cells.{bytes_at, cell_place, is_open, filler, entry, winner}
use Rattle.yp_map_file.specs.inside.Cells.{other}
use Rattle.yp_map_file.specs.Stands.{file_max, has_room, by_entry, by_winner, Damaged, stands}
use Rattle.yp_map_file.specs.inside.Stands.{standing}
use Rattle.yp_map_file.specs.Commits.{winner_entry, winning}
use Rattle.yp_map_file.specs.inside.Commits.{loser, target}
use Rattle.yp_map_file.specs.Slots.{IsSound}
use Rattle.yp_map_file.specs.inside.Slots.{IsKnown}
use Rattle.yp_map_file.specs.inside.Loads.{Judges, JudgesWinner}
use Rattle.yp_map_file.proofs.Slices.{same_bytes}
use Rattle.yp_map_file.proofs.Stays.{cell_below}
use Rattle.yp_map_file.proofs.Steps.{laid_long}

module _ (file cells : List ℕ) (front : take 64 file ≡ cells) (long : 64 ≤ length file) where
  byte_same : (x : ℕ) → x < 64 → get_or cells x 0 ≡ get_or file x 0
  byte_same x lt = ap (λ (l : List ℕ). get_or l x 0) (sym front) ∙ get_or-take 64 file x 0 lt

  length_cells : length cells ≡ 64
  length_cells = ap length (sym front) ∙ (let e : length (take 64 file) ≡ 64 = omega (arith, length-take 64 file) in e)

  bytes_same : (s k : ℕ) → s + k ≤ 64 → bytes_at s k cells ≡ bytes_at s k file
  bytes_same s k fits = let len = length_cells in
      same_bytes s k file cells (omega arith) (omega arith) (λ x le lt. byte_same x (omega arith))

  pub open_same : (cell : Cell) → is_open cell cells ≡ is_open cell file
  unfolding is_open
  open_same cell = let below = cell_below cell in ap (λ (n : ℕ). eqb n 1) (byte_same (cell_place cell) (omega arith))

  pub entry_same : (cell : Cell) → entry cell cells ≡ entry cell file
  unfolding entry
  entry_same cell =
      let below = cell_below cell in
      let g = bytes_same (cell_place cell + 8) 8 (omega arith) in
      let p = bytes_same (cell_place cell + 16) 8 (omega arith) in
      let n = bytes_same (cell_place cell + 24) 8 (omega arith) in
      rw (g, p, n) refl

  pub filler_same : (cell : Cell) → filler cell cells ≡ filler cell file
  unfolding filler
  filler_same cell = let below = cell_below cell in bytes_same (cell_place cell + 1) 7 (omega arith)

  pub winner_same : winner cells ≡ winner file
  unfolding winner
  winner_same = rw (open_same First, open_same Second, entry_same First, entry_same Second) refl

  -- rule 3
  pub judge_filler : (cell : Cell) (n : ℕ) → first_nonzero (filler cell cells) ≡ Some n
      → by_winner (Only cell) file ≡ Damaged (cell_place cell + 1 + n) 3
  unfolding by_winner
  judge_filler cell n is = let dirt : first_nonzero (filler cell file) ≡ Some n =
      ap first_nonzero (sym (filler_same cell)) ∙ is in rw dirt refl

  -- rule 4
  pub judge_room : (cell : Cell) → first_nonzero (filler cell cells) ≡ None
      → has_room (entry cell cells) (length file) ≡ false
      → by_winner (Only cell) file ≡ Damaged (cell_place cell + 16) 4
  unfolding by_winner by_entry
  judge_room cell clean full =
      let dirt : first_nonzero (filler cell file) ≡ None = ap first_nonzero (sym (filler_same cell)) ∙ clean in
      let room : has_room (entry cell file) (length file) ≡ false =
      ap (λ (e : Entry). has_room e (length file)) (sym (entry_same cell)) ∙ full in
      rw (dirt, room) refl

  -- neither
  pub judge_entry : (cell : Cell) → first_nonzero (filler cell cells) ≡ None
      → has_room (entry cell cells) (length file) ≡ true
      → by_winner (Only cell) file ≡ standing (Some (entry cell cells)) file
  unfolding by_winner by_entry
  judge_entry cell clean fits =
      let dirt : first_nonzero (filler cell file) ≡ None = ap first_nonzero (sym (filler_same cell)) ∙ clean in
      let room : has_room (entry cell file) (length file) ≡ true =
      ap (λ (e : Entry). has_room e (length file)) (sym (entry_same cell)) ∙ fits in
      rw (dirt, room) refl ∙ ap (λ (e : Entry). standing (Some e) file) (sym (entry_same cell))

  module _ (small : length file ≤ file_max) where
    stands_by_winner : (w : Winner) → winner cells ≡ w → stands file ≡ by_winner w file
    unfolding stands
    stands_by_winner w is =
        let not_big : ltb file_max (length file) ≡ false = le-ltb _ _ small in
        let not_short : ltb (length file) 64 ≡ false = le-ltb _ _ long in
        rw (not_big, not_short) (ap (λ (v : Winner). by_winner v file) (sym winner_same ∙ is))

    known_by_winner : (w : Winner) → winner cells ≡ w → IsSound (stands file)
        → IsKnown (record {
          long = true;
          target = loser w;
          gate_open = is_open (loser w) cells;
          winner = winner_entry w cells;
        }) file
    unfolding target winning
    known_by_winner w is sound =
        let not_short : ltb (length file) 64 ≡ false = le-ltb _ _ long in
        let same : winner file ≡ w = sym winner_same ∙ is in
        record {
          sound = sound;
          long = grind (arith, nat_tests);
          cell = rw (not_short, same) refl;
          gate = open_same (loser w) ∙ ap (λ (f : List ℕ). is_open (loser w) f) (sym (laid_long file long));
          entry = winner_entry_same w ∙ rw (not_short, same) refl;
        }
      where
        winner_entry_same : (w : Winner) → winner_entry w cells ≡ winner_entry w file
        winner_entry_same Nobody = refl
        winner_entry_same Both = refl
        winner_entry_same (Only cell) = ap Some (entry_same cell)

    pub judge_nobody : winner cells ≡ Nobody
        → Judges file (Ok (record { long = true; target = First; gate_open = is_open First cells; winner = None }))
    unfolding by_winner
    judge_nobody is = (stands_by_winner Nobody is, known_by_winner Nobody is)

    pub judge_both : winner cells ≡ Both → stands file ≡ Damaged 32 2
    unfolding by_winner
    judge_both is = stands_by_winner Both is

    pub judge_only : (cell : Cell) → winner cells ≡ Only cell
        → by_winner (Only cell) file ≡ standing (Some (entry cell cells)) file
        → Judges file (Ok (record {
          long = true;
          target = other cell;
          gate_open = is_open (other cell) cells;
          winner = Some (entry cell cells);
        }))
    judge_only cell is stood = (stands_by_winner (Only cell) is ∙ stood, known_by_winner (Only cell) is)

    pub judge_wrong : (cell : Cell) (at rule : ℕ) → winner cells ≡ Only cell
        → by_winner (Only cell) file ≡ Damaged at rule → stands file ≡ Damaged at rule
    judge_wrong cell at rule is stood = stands_by_winner (Only cell) is ∙ stood

    pub judged_only : (cell u : Cell) (e : Entry) → u ≡ other cell → e ≡ entry cell cells → winner cells ≡ Only cell
        → by_winner (Only cell) file ≡ standing (Some e) file
        → Judges file (Ok (record { long = true; target = u; gate_open = is_open u cells; winner = Some e }))
    judged_only cell u e u_is e_is is stood =
        let P : Cell → Entry → Type 0 =
        λ v x. Judges file (Ok (record { long = true; target = v; gate_open = is_open v cells; winner = Some x }))
        in
        let there : by_winner (Only cell) file ≡ standing (Some (entry cell cells)) file = stood
        ∙ ap (λ (x : Entry). standing (Some x) file) e_is in
        subst (λ (v : Cell). P v e) (sym u_is)
        (subst (λ (x : Entry). P (other cell) x) (sym e_is) (judge_only cell is there))

-- the same of what the code has for these values
pub judged : (file cells : List ℕ) (p q : Cell × Option Entry) (gate : Bool) → p ≡ q → gate ≡ is_open p.0 cells
    → Judges file (Ok (record { long = true; target = q.0; gate_open = is_open q.0 cells; winner = q.1 }))
    → Judges file (Ok (record { long = true; target = p.0; gate_open = gate; winner = p.1 }))
judged file cells p q gate same gate_is judges =
    let P : Cell × Option Entry → Type 0 =
    λ r. Judges file (Ok (record { long = true; target = r.0; gate_open = is_open r.0 cells; winner = r.1 })) in
    let one : P p = subst P (sym same) judges in
    subst (λ (b : Bool). Judges file (Ok (record { long = true; target = p.0; gate_open = b; winner = p.1 })))
    (sym gate_is) one

-- the fault of the cell that wins is the file's
pub judged_wrong : (file cells : List ℕ) (front : take 64 file ≡ cells) (long : 64 ≤ length file)
    (small : length file ≤ file_max) (cell : Cell) (e : SlotFault) → winner cells ≡ Only cell
    → JudgesWinner cell file (Err e) → Judges file (Err e)
judged_wrong file cells front long small cell (fault.Damaged at rule) is wrong =
    judge_wrong file cells front long small cell at rule is wrong
judged_wrong file cells front long small cell fault.DiskFault is wrong = absurd wrong
judged_wrong file cells front long small cell fault.NoMemory is wrong = absurd wrong
