-- What is known of a file before and after each part of a commit, and what a crash leaves meanwhile.
use Rattle.std.proofs.Common.{◌≡◌, ℕ, ◌+◌, ◌<◌, ◌≤◌, Bool, true, false, ltb, leb, eqb, List, [], ◌∷◌, ◌++◌, length}
use Rattle.std.proofs.Common.{replicate, get_or, Option, Some, None, refl, sym, ap, subst, ◌∙◌, inl, inr, arith}
use Rattle.std.specs.Option.{option_map}
use Rattle.std.proofs.lemmas.Bool.{cases_lt, le-ltb}
use Rattle.std.proofs.lemmas.Bool.Decides.{nat_tests}
use Rattle.std.proofs.lemmas.Grind.{same_number_lists}
use Rattle.std.proofs.lemmas.List.{drop_all, append-nil}
use Rattle.yp_io.specs.Disk.{DiskState, History, is_written, longest, IsImage, overwritten, touched, written_at}
use Rattle.yp_io.specs.Disk.{after_sync, MayLeave, MayLeaveTorn}
use Rattle.yp_map_file.specs.declared.cells.Cell.{Cell}
use Rattle.yp_map_file.specs.declared.cells.Cell.TheVariants.{First}
use Rattle.yp_map_file.specs.declared.cells.Entry.{Entry}
use Rattle.yp_map_file.specs.declared.known.Known.{Known}
use Rattle.yp_map_file.specs.Cells.{cell_place, is_open}
use Rattle.yp_map_file.specs.Stands.{file_max, Nothing, stands}
use Rattle.yp_map_file.specs.inside.Stands.{standing}
use Rattle.yp_map_file.specs.Commits.{winning}
use Rattle.yp_map_file.specs.inside.Commits.{target, laid, closed}
use Rattle.yp_map_file.specs.Slots.{IsSound, IsAsBefore}
use Rattle.yp_map_file.specs.inside.Slots.{ReadIsTold, IsKnown, IsQuiet, Settles, ReadsChanged}
use Rattle.yp_map_file.proofs.Sits.{Sits, sits_winning, sits_target, sits_stands, sits_from, short_stands}
use Rattle.yp_map_file.proofs.Stays.{cell_below, Stays, gate_range, gate_spares, gate_spares_numbers, stays_older}
use Rattle.yp_map_file.proofs.Writes.{gate_written, gate_image}

-- ---- what is known

pub laid_long : (f : List ℕ) → 64 ≤ length f → laid f ≡ f
unfolding laid
laid_long f le = let long : ltb (length f) 64 ≡ false = le-ltb _ _ le in rw long refl

pub known_long : (known : Known) (f : List ℕ) → IsKnown known f → known.long ≡ true → 64 ≤ length f
known_long known f k long = let e : leb 64 (length f) ≡ true = sym k.long ∙ long in grind (arith, nat_tests)

pub known_sits : (known : Known) (f : List ℕ) → IsKnown known f → known.long ≡ true → Sits f known.target known.winner
known_sits known f k long =
    subst (λ (w : Option Entry). Sits f known.target w) (sym k.entry)
    (subst (λ (t : Cell). Sits f t (winning f)) (sym k.cell) (sits_from f k.sound (known_long known f k long)))

pub known_gate : (known : Known) (f : List ℕ) → IsKnown known f → known.long ≡ true
    → known.gate_open ≡ is_open known.target f
known_gate known f k long = k.gate
    ∙ ap (λ (g : List ℕ). is_open known.target g) (laid_long f (known_long known f k long))

pub known_from : (f : List ℕ) (t : Cell) (w : Option Entry) (gate : Bool) → Sits f t w → IsSound (standing w f)
    → gate ≡ is_open t f
    → IsKnown (record { long = true; target = t; gate_open = gate; winner = w }) f
known_from f t w gate s sound is = record {
  sound = subst IsSound (sym (sits_stands f t w s)) sound;
  long = let le = s.long in grind (arith, nat_tests);
  cell = sym (sits_target f t w s);
  gate = is ∙ ap (λ (g : List ℕ). is_open t g) (sym (laid_long f s.long));
  entry = sym (sits_winning f t w s);
}

pub stays_same : (f c : List ℕ) (t : Cell) (w : Option Entry) → Sits f t w → Stays f c t w → stands c ≡ stands f
stays_same f c t w s stays = sits_stands c t w stays.sits ∙ stays.same ∙ sym (sits_stands f t w s)

pub stays_sound : (f c : List ℕ) (t : Cell) (w : Option Entry) → Sits f t w → Stays f c t w → IsSound (stands f)
    → IsSound (standing w c)
stays_sound f c t w s stays sound = subst IsSound (sits_stands f t w s ∙ sym stays.same) sound

-- ---- a disk at rest

-- a state at rest with these bytes, of which these ranges are being written
abbrev pub writing : List ℕ → List (ℕ × ℕ) → DiskState
writing f ranges = record { synced = f; written = ranges; reads = f }

pub quiet_torn : (state : DiskState) (at n : ℕ) (c : List ℕ) → IsQuiet state → IsImage (touched at n state) c
    → IsImage (writing state.reads ((at, at + n) ∷ [])) c
quiet_torn state at n c q image =
    subst (λ (r : List (ℕ × ℕ)). IsImage (record {
      synced = state.reads;
      written = (at, at + n) ∷ r;
      reads = state.reads;
    }) c) q.nothing_written
    (subst (λ (s : List ℕ). IsImage (record { synced = s; written = (at, at + n) ∷ state.written; reads = state.reads })
    c) q.synced image)

pub quiet_image : (state : DiskState) (c : List ℕ) → IsQuiet state → IsImage state c → c ≡ state.reads
quiet_image state c q image =
    let size : length state.synced ≡ length state.reads = ap length q.synced in
    let shorter = image.no_shorter in
    let longer : length c ≤ longest [] (length state.synced) =
    subst (λ (r : List (ℕ × ℕ)). length c ≤ longest r (length state.synced)) q.nothing_written image.no_longer in
    let others : (x : ℕ) → x < length state.synced → get_or c x 0 ≡ get_or state.synced x 0 =
    λ x lt. image.others_stay x lt (ap (λ (r : List (ℕ × ℕ)). is_written r x) q.nothing_written) in
    same_number_lists c state.reads (omega arith) (λ x lt. others x (omega arith)
    ∙ ap (λ (s : List ℕ). get_or s x 0) q.synced)

-- what a crash leaves of it is what it was
pub at_rest : (known : Known) (history : Option History) → Settles known history → (image : List ℕ)
    → MayLeave history image → IsAsBefore history image
at_rest known None s image left = absurd left
at_rest known (Some h) s image left = ap stands (quiet_image h.state image s.quiet left)

-- the history after a piece was written and synced
abbrev pub after : ℕ → List ℕ → Option History → Option History
after at piece history = option_map after_sync (option_map (written_at at piece) history)

pub quiet_after : (h : History) → IsQuiet (after_sync h).state
quiet_after h = record { synced = refl; nothing_written = refl }

-- ---- closing

close_image : (f c : List ℕ) (t : Cell) (w : Option Entry) → Sits f t w → is_open t f ≡ true
    → IsImage (writing f (gate_range t)) c → Stays f c t w
close_image f c t None s was_open image =
    let e = s.cells in
    let P : Cell → Type 0 = λ t. is_open t f ≡ true in
    let first : is_open First f ≡ true = subst P e.first was_open in
    absurd (let no : true ≡ false = sym first ∙ e.shut_first in cc)
close_image f c t (Some e) s was_open image = stays_older (writing f (gate_range t)) c image t e s was_open
    (gate_spares f t (Some e) s) (gate_spares_numbers t)

pub close_torn : (known : Known) (history : Option History) → known.long ≡ true → known.gate_open ≡ true
    → Settles known history → (image : List ℕ) → MayLeaveTorn (cell_place known.target) 1 history image
    → IsAsBefore history image
close_torn known None long gate s image left = absurd left
close_torn known (Some h) long gate s image left =
    let f = h.state.reads in
    let sits = known_sits known f s.file long in
    stays_same f image known.target known.winner sits
    (close_image f image known.target known.winner sits (sym (known_gate known f s.file long)
    ∙ gate) (quiet_torn h.state (cell_place known.target) 1 image s.quiet left))

-- the file once the cell was closed
close_file : (known : Known) (f : List ℕ) → known.long ≡ true → known.gate_open ≡ true → IsKnown known f
    → IsKnown (record known { gate_open = false }) (overwritten (cell_place known.target) (0 ∷ []) f)
    × (closed f ≡ overwritten (cell_place known.target) (0 ∷ []) f)
unfolding closed
close_file known f long gate k =
    let t = known.target in
    let sits = known_sits known f k long in
    let below = cell_below t in
    let size = sits.long in
    let was_open : is_open t f ≡ true = sym (known_gate known f k long) ∙ gate in
    let new = overwritten (cell_place t) (0 ∷ []) f in
    let stays = close_image f new t known.winner sits was_open (gate_image f f t 0 (omega arith)) in
    let shut : is_open t new ≡ false = gate_written f t 0 (omega arith) in
    let known_new = known_from new t known.winner false stays.sits (stays_sound f new t known.winner sits stays k.sound)
    (sym shut) in (
      subst (λ (b : Bool). IsKnown (record { long = b; target = t; gate_open = false; winner = known.winner }) new)
          (sym long) known_new,
      let is_target : target f ≡ t = sym k.cell in rw (is_target, was_open) refl,
    )

pub close_settled : (known : Known) (history : Option History) → known.long ≡ true → known.gate_open ≡ true
    → Settles known history
    → Settles (record known { gate_open = false }) (after (cell_place known.target) (0 ∷ []) history)
    × ReadsChanged closed history (after (cell_place known.target) (0 ∷ []) history)
close_settled known None long gate s = (tt, tt)
close_settled known (Some h) long gate s =
    let file = close_file known h.state.reads long gate s.file in
    (record { quiet = quiet_after (written_at (cell_place known.target) (0 ∷ []) h); file = file.0 }, sym file.1)

-- where it is closed already
pub closed_closed : (known : Known) (history : Option History) → known.long ≡ true → known.gate_open ≡ false
    → Settles known history → ReadsChanged closed history history
unfolding closed
closed_closed known None long gate s = tt
closed_closed known (Some h) long gate s =
    let f = h.state.reads in
    let shut : is_open known.target f ≡ false = sym (known_gate known f s.file long) ∙ gate in
    let is_target : target f ≡ known.target = sym s.file.cell in
    rw (is_target, shut) refl

-- the same of the history that the code has then
pub close_done : (known : Known) (old new : Option History) (at : ℕ) → at ≡ cell_place known.target → known.long ≡ true
    → known.gate_open ≡ true → Settles known old → new ≡ after at (0 ∷ []) old
    → Settles (record known { gate_open = false }) new × ReadsChanged closed old new
close_done known old new at is long gate s done =
    let P : Option History → Type 0 = λ h. Settles (record known { gate_open = false }) h × ReadsChanged closed old h in
    subst P (sym (done ∙ ap (λ (n : ℕ). after n (0 ∷ []) old) is)) (close_settled known old long gate s)

-- ---- laying

short_known : (known : Known) (f : List ℕ) → IsKnown known f → known.long ≡ false → length f < 64
short_known known f k short = let e : leb 64 (length f) ≡ false = sym k.long ∙ short in grind (arith, nat_tests)

pub lay_torn : (known : Known) (history : Option History) → known.long ≡ false → Settles known history
    → (image : List ℕ) → MayLeaveTorn 0 63 history image → IsAsBefore history image
lay_torn known None short s image left = absurd left
lay_torn known (Some h) short s image left =
    let f = h.state.reads in
    let lt = short_known known f s.file short in
    let torn = quiet_torn h.state 0 63 image s.quiet left in
    let longer = torn.no_longer in
    short_stands image (omega arith) ∙ sym (short_stands f lt)

abbrev zeros : ℕ → List ℕ
zeros n = replicate n 0

-- 63 zeros over a shorter file are all of it
lay_first : (f : List ℕ) → length f < 64 → overwritten 0 (zeros 63) f ≡ zeros 63
lay_first f lt = ap (λ (l : List ℕ). zeros 63 ++ l) (drop_all 63 f (omega arith)) ∙ append-nil (zeros 63)

lay_second : overwritten 63 (0 ∷ []) (zeros 63) ≡ zeros 64
lay_second = refl

-- a file with two closed cells
empty_stands : (c : List ℕ) → 64 ≤ length c → length c ≤ file_max → get_or c 0 0 ≡ 0 → get_or c 32 0 ≡ 0
    → Sits c First None
unfolding is_open
empty_stands c long small first second = record {
  long = long;
  small = small;
  cells = record {
    first = refl;
    shut_first = ap (λ (n : ℕ). eqb n 1) first;
    shut_second = ap (λ (n : ℕ). eqb n 1) second;
  };
}

gate_torn : (c : List ℕ) → IsImage (writing (zeros 63) ((63, 64) ∷ [])) c → stands c ≡ Nothing
gate_torn c image =
    let longer = image.no_longer in
    let shorter = image.no_shorter in
    elim (cases_lt (length c) 64) [
      | inl lt ↦ short_stands c lt
      | inr le ↦ sits_stands c First None
          (empty_stands c le (omega arith) (image.others_stay 0 (omega arith) refl)
          (image.others_stay 32 (omega arith) refl))
    ]

pub lay_torn_gate : (known : Known) (old middle : Option History) → known.long ≡ false → Settles known old
    → middle ≡ after 0 (replicate 63 0) old → (image : List ℕ) → MayLeaveTorn 63 1 middle image → IsAsBefore old image
lay_torn_gate known None middle short s is image left =
    absurd (subst (λ (h : Option History). MayLeaveTorn 63 1 h image) is left)
lay_torn_gate known (Some h) middle short s is image left =
    let f = h.state.reads in
    let lt = short_known known f s.file short in
    let torn = quiet_torn (after_sync (written_at 0 (replicate 63 0) h)).state 63 1 image
    (quiet_after (written_at 0 (replicate 63 0) h))
    (subst (λ (h : Option History). MayLeaveTorn 63 1 h image) is left) in
    gate_torn image (subst (λ (g : List ℕ). IsImage (writing g ((63, 64) ∷ [])) image) (lay_first f lt) torn)
    ∙ sym (short_stands f lt)

-- what is known of the file that was laid
zeros_known : (known : Known) (f : List ℕ) → IsKnown known f → length f < 64
    → IsKnown (record known { long = true }) (zeros 64)
unfolding target winning laid is_open
zeros_known known f k lt =
    let short : ltb (length f) 64 ≡ true = grind (arith, nat_tests) in
    let sits = empty_stands (zeros 64) (omega arith) (omega arith) refl refl in
    let cell : known.target ≡ First = k.cell ∙ rw short refl in
    let gate : known.gate_open ≡ is_open known.target (zeros 64) = k.gate ∙ rw short refl in
    let entry : known.winner ≡ None = k.entry ∙ rw short refl in
    record {
      sound = subst IsSound (sym (sits_stands (zeros 64) First None sits)) tt;
      long = refl;
      cell = cell ∙ sym (sits_target (zeros 64) First None sits);
      gate = gate;
      entry = entry ∙ sym (sits_winning (zeros 64) First None sits);
    }

pub lay_done : (known : Known) (old middle new : Option History) → known.long ≡ false → Settles known old
    → middle ≡ after 0 (replicate 63 0) old → new ≡ after 63 (0 ∷ []) middle
    → Settles (record known { long = true }) new × ReadsChanged laid old new
unfolding laid
lay_done known None middle new short s is done =
    let P : Option History → Type 0 = λ h. Settles (record known { long = true }) h × ReadsChanged laid None h in
    subst P (sym (done ∙ ap (after 63 (0 ∷ [])) is)) (tt, tt)
lay_done known (Some h) middle new short s is done =
    let f = h.state.reads in
    let lt = short_known known f s.file short in
    let e : ltb (length f) 64 ≡ true = grind (arith, nat_tests) in
    let P : Option History → Type 0 = λ k. Settles (record known { long = true }) k × ReadsChanged laid (Some h) k in
    let all : overwritten 63 (0 ∷ []) (overwritten 0 (replicate 63 0) f) ≡ zeros 64 =
    ap (overwritten 63 (0 ∷ [])) (lay_first f lt) in
    let one = after_sync (written_at 0 (replicate 63 0) h) in
    subst P (sym (done ∙ ap (after 63 (0 ∷ [])) is)) (
      record {
        quiet = quiet_after (written_at 63 (0 ∷ []) one);
        file = subst (IsKnown (record known { long = true })) (sym all) (zeros_known known f s.file lt);
      },
      all ∙ rw e refl,
    )

-- where it has both cells already
pub laid_laid : (known : Known) (history : Option History) → known.long ≡ true → Settles known history
    → ReadsChanged laid history history
laid_laid known None long s = tt
laid_laid known (Some h) long s = sym (laid_long h.state.reads (known_long known h.state.reads s.file long))

-- a cell that is told to be closed is known to be
pub told_shut : (known : Known) (history : Option History) → known.long ≡ true → Settles known history
    → ReadIsTold (λ file. is_open (target file) file ≡ false) history → known.gate_open ≡ false
told_shut known None long s told = absurd told
told_shut known (Some h) long s told =
    let f = h.state.reads in
    known_gate known f s.file long ∙ subst (λ (t : Cell). is_open t f ≡ false) (sym s.file.cell) told
