-- How the cells and the body of a file sit that isn't damaged.
use Rattle.std.proofs.Common.{◌≡◌, ℕ, ◌+◌, ◌<◌, ◌≤◌, Bool, true, false, cond, eqb, ltb, List, length, Option, Some}
use Rattle.std.proofs.Common.{None, refl, sym, ap, subst, ◌∙◌, inl, inr, ◌⊎◌, arith}
use Rattle.std.proofs.lemmas.Bool.{ltb-false, le-ltb, ne_eqb}
use Rattle.std.proofs.lemmas.Bool.Decides.{nat_tests}
use Rattle.yp_xdr.specs.Reading.{first_nonzero}
use Rattle.yp_map_file.specs.declared.cells.Cell.{Cell}
use Rattle.yp_map_file.specs.declared.cells.Cell.TheVariants.{First, Second}
use Rattle.yp_map_file.specs.declared.cells.Entry.{Entry}
use Rattle.yp_map_file.specs.Cells.{cell_place, is_open, filler, entry, greater, winner}
use Rattle.yp_map_file.specs.inside.Cells.{other}
use Rattle.yp_map_file.specs.declared.cells.Winner.{Winner}
use Rattle.yp_map_file.specs.declared.cells.Winner.TheVariants.{Nobody, Both, Only}
use Rattle.yp_map_file.specs.Stands.{file_max, has_room, by_entry, by_filler, by_winner, Stands, Nothing, Damaged, stands}
use Rattle.yp_map_file.specs.inside.Stands.{standing}
use Rattle.yp_map_file.specs.Commits.{winner_entry, winning}
use Rattle.yp_map_file.specs.inside.Commits.{loser, target}
use Rattle.yp_map_file.specs.Slots.{IsSound}

-- the cell t loses to the other one, which has this entry and a body within the file
pub record Beats (f : List ℕ) (t : Cell) (e : Entry) : Type 0 where
  pub gate : is_open (other t) f ≡ true
  pub numbers : entry (other t) f ≡ e
  pub zeros : first_nonzero (filler (other t) f) ≡ None
  pub room : has_room e (length f) ≡ true
  pub loses : is_open t f ≡ true → (entry t f).generation < e.generation

-- neither cell is open, and the first is written next
pub record Empty (f : List ℕ) (t : Cell) : Type 0 where
  pub first : t ≡ First
  pub shut_first : is_open First f ≡ false
  pub shut_second : is_open Second f ≡ false

abbrev pub SitsIn : List ℕ → Cell → Option Entry → Type 0
SitsIn f t None = Empty f t
SitsIn f t (Some e) = Beats f t e

pub record Sits (f : List ℕ) (t : Cell) (w : Option Entry) : Type 0 where
  pub long : 64 ≤ length f
  pub small : length f ≤ file_max
  pub cells : SitsIn f t w

pub bool_cases : (b : Bool) → (b ≡ true) ⊎ (b ≡ false)
bool_cases true = inl refl
bool_cases false = inr refl

-- ---- from the cells to what the definitions say

beats_first : (f : List ℕ) (e : Entry) → Beats f First e → winner f ≡ Only Second
unfolding winner
beats_first f e b = elim (bool_cases (is_open First f)) [
  | inl open_first ↦
      let lt : (entry First f).generation < (entry Second f).generation =
      subst (λ (x : Entry). (entry First f).generation < x.generation) (sym b.numbers) (b.loses open_first) in
      let gate = b.gate in
      let ne : eqb (entry First f).generation (entry Second f).generation ≡ false = ne_eqb _ _ (omega arith) in
      let le : ltb (entry Second f).generation (entry First f).generation ≡ false = le-ltb _ _ (omega arith) in
      rw (open_first, gate, ne, le) refl
  | inr shut_first ↦ let gate = b.gate in rw (shut_first, gate) refl
]

beats_second : (f : List ℕ) (e : Entry) → Beats f Second e → winner f ≡ Only First
unfolding winner
beats_second f e b = elim (bool_cases (is_open Second f)) [
  | inl open_second ↦
      let lt : (entry Second f).generation < (entry First f).generation =
      subst (λ (x : Entry). (entry Second f).generation < x.generation) (sym b.numbers) (b.loses open_second) in
      let gate = b.gate in
      let ne : eqb (entry First f).generation (entry Second f).generation ≡ false = ne_eqb _ _ (omega arith) in
      let gt : ltb (entry Second f).generation (entry First f).generation ≡ true = grind (arith, nat_tests) in
      rw (gate, open_second, ne, gt) refl
  | inr shut_second ↦ let gate = b.gate in rw (gate, shut_second) refl
]

pub beats_winner : (f : List ℕ) (t : Cell) (e : Entry) → Beats f t e → winner f ≡ Only (other t)
beats_winner f First e b = beats_first f e b
beats_winner f Second e b = beats_second f e b

empty_winner : (f : List ℕ) (t : Cell) → Empty f t → winner f ≡ Nobody
unfolding winner
empty_winner f t e = let one = e.shut_first in let two = e.shut_second in rw (one, two) refl

sits_winner : (f : List ℕ) (t : Cell) (w : Option Entry) → SitsIn f t w
    → (winner_entry (winner f) f ≡ w) × (loser (winner f) ≡ t)
sits_winner f t None e = let h = empty_winner f t e in
    (ap (λ (v : Winner). winner_entry v f) h, ap loser h ∙ sym e.first)
sits_winner f First (Some e) b = let h = beats_first f e b in
    (ap (λ (v : Winner). winner_entry v f) h ∙ ap Some b.numbers, ap loser h)
sits_winner f Second (Some e) b = let h = beats_second f e b in
    (ap (λ (v : Winner). winner_entry v f) h ∙ ap Some b.numbers, ap loser h)

pub sits_winning : (f : List ℕ) (t : Cell) (w : Option Entry) → Sits f t w → winning f ≡ w
unfolding winning
sits_winning f t w s = let long : ltb (length f) 64 ≡ false = le-ltb _ _ s.long in rw long (sits_winner f t w s.cells).0

pub sits_target : (f : List ℕ) (t : Cell) (w : Option Entry) → Sits f t w → target f ≡ t
unfolding target
sits_target f t w s = let long : ltb (length f) 64 ≡ false = le-ltb _ _ s.long in rw long (sits_winner f t w s.cells).1

-- the rules 3 and 4 are met by the winner
beats_stands : (f : List ℕ) (t : Cell) (e : Entry) → Beats f t e → by_winner (Only (other t)) f ≡ standing (Some e) f
unfolding by_winner by_entry
beats_stands f t e b = rw (b.zeros, b.numbers, b.room) refl

sits_by_winner : (f : List ℕ) (t : Cell) (w : Option Entry) → SitsIn f t w → by_winner (winner f) f ≡ standing w f
unfolding by_winner
sits_by_winner f t None e = ap (λ (v : Winner). by_winner v f) (empty_winner f t e)
sits_by_winner f t (Some e) b = ap (λ (v : Winner). by_winner v f) (beats_winner f t e b) ∙ beats_stands f t e b

pub sits_stands : (f : List ℕ) (t : Cell) (w : Option Entry) → Sits f t w → stands f ≡ standing w f
unfolding stands
sits_stands f t w s =
    let small : ltb file_max (length f) ≡ false = le-ltb _ _ s.small in
    let long : ltb (length f) 64 ≡ false = le-ltb _ _ s.long in
    rw (small, long) (sits_by_winner f t w s.cells)

-- ---- from what the definitions say to the cells

-- what `winner` makes of the two gates and generations
abbrev pick : Bool → Bool → ℕ → ℕ → Winner
pick a b g h = cond a (cond b (greater g h) (Only First)) (cond b (Only Second) Nobody)

not_nobody : (same less : Bool) → cond same Both (cond less (Only First) (Only Second)) ≡ Nobody → ⊥
not_nobody true less e = absurd cc
not_nobody false true e = absurd cc
not_nobody false false e = absurd cc

is_first : (same less : Bool) → cond same Both (cond less (Only First) (Only Second)) ≡ Only First → less ≡ true
is_first true less e = absurd cc
is_first false true e = refl
is_first false false e = absurd cc

is_second : (same less : Bool) → cond same Both (cond less (Only First) (Only Second)) ≡ Only Second
    → (same ≡ false) × (less ≡ false)
is_second true less e = absurd cc
is_second false true e = absurd cc
is_second false false e = (refl, refl)

pick_nobody : (a b : Bool) (g h : ℕ) → pick a b g h ≡ Nobody → (a ≡ false) × (b ≡ false)
pick_nobody true true g h e = absurd (not_nobody (eqb g h) (ltb h g) e)
pick_nobody true false g h e = absurd cc
pick_nobody false true g h e = absurd cc
pick_nobody false false g h e = (refl, refl)

pick_first : (a b : Bool) (g h : ℕ) → pick a b g h ≡ Only First → (a ≡ true) × (b ≡ true → h < g)
pick_first true true g h e = let lt = is_first (eqb g h) (ltb h g) e in (refl, λ _. grind (arith, nat_tests))
pick_first true false g h e = (refl, λ f. absurd cc)
pick_first false true g h e = absurd cc
pick_first false false g h e = absurd cc

pick_second : (a b : Bool) (g h : ℕ) → pick a b g h ≡ Only Second → (b ≡ true) × (a ≡ true → g < h)
pick_second true true g h e = let k = is_second (eqb g h) (ltb h g) e in (refl, λ _. grind (arith, nat_tests))
pick_second true false g h e = absurd cc
pick_second false true g h e = (refl, λ f. absurd cc)
pick_second false false g h e = absurd cc

-- a winner that isn't damaged has zeros behind its gate
filler_none : (cell : ℕ) (n : Option ℕ) (s : Stands) → IsSound (by_filler cell n s) → (n ≡ None) × IsSound s
filler_none cell None s sound = (refl, sound)
filler_none cell (Some n) s sound = absurd sound

-- and room for its body
entry_room : (cell : ℕ) (room : Bool) (s : Stands) → IsSound (cond room s (Damaged (cell + 16) 4))
    → (room ≡ true) × IsSound s
entry_room cell true s sound = (refl, sound)
entry_room cell false s sound = absurd sound

pub record IsWhole (f : List ℕ) (cell : Cell) : Type 0 where
  pub zeros : first_nonzero (filler cell f) ≡ None
  pub room : has_room (entry cell f) (length f) ≡ true
  pub sound : IsSound (standing (Some (entry cell f)) f)

whole : (f : List ℕ) (cell : Cell) → IsSound (by_winner (Only cell) f) → IsWhole f cell
unfolding by_winner by_entry
whole f cell sound =
    let one = filler_none (cell_place cell) (first_nonzero (filler cell f)) _ sound in
    let two = entry_room (cell_place cell) (has_room (entry cell f) (length f)) (standing (Some (entry cell f)) f)
    one.1 in
    record { zeros = one.0; room = two.0; sound = two.1 }

sits_in_from : (f : List ℕ) (v : Winner) → winner f ≡ v → IsSound (by_winner v f)
    → SitsIn f (loser v) (winner_entry v f)
unfolding winner by_winner
sits_in_from f Nobody e sound = let k = pick_nobody (is_open First f) (is_open Second f) (entry First f).generation
    (entry Second f).generation e in record { first = refl; shut_first = k.0; shut_second = k.1 }
sits_in_from f Both e sound = absurd sound
sits_in_from f (Only First) e sound =
    let k = pick_first (is_open First f) (is_open Second f) (entry First f).generation (entry Second f).generation e in
    let w = whole f First sound in
    record { gate = k.0; numbers = refl; zeros = w.zeros; room = w.room; loses = k.1 }
sits_in_from f (Only Second) e sound =
    let k = pick_second (is_open First f) (is_open Second f) (entry First f).generation (entry Second f).generation e in
    let w = whole f Second sound in
    record { gate = k.0; numbers = refl; zeros = w.zeros; room = w.room; loses = k.1 }

small_from : (b : Bool) (s : Stands) → IsSound (cond b (Damaged file_max 1) s) → (b ≡ false) × IsSound s
small_from true s sound = absurd sound
small_from false s sound = (refl, sound)

-- no file that isn't damaged is over the most bytes
pub sound_small : (f : List ℕ) → IsSound (stands f) → length f ≤ file_max
unfolding stands
sound_small f sound = ltb-false _ _ (small_from (ltb file_max (length f)) _ sound).0

pub sits_from : (f : List ℕ) → IsSound (stands f) → 64 ≤ length f → Sits f (target f) (winning f)
unfolding stands target winning
sits_from f sound le =
    let long : ltb (length f) 64 ≡ false = le-ltb _ _ le in
    let small = small_from (ltb file_max (length f)) _ sound in
    let rest : IsSound (by_winner (winner f) f) = rw long at small.1 in
    record { long = le; small = sound_small f sound; cells = rw long (sits_in_from f (winner f) refl rest) }

-- a file that is shorter than the cells stands for nothing
pub short_stands : (f : List ℕ) → length f < 64 → stands f ≡ Nothing
unfolding stands
short_stands f lt =
    let small : ltb file_max (length f) ≡ false = le-ltb _ _ (omega arith) in
    let short : ltb (length f) 64 ≡ true = grind (arith, nat_tests) in
    rw (small, short) refl
