-- What the writes of a commit make of a file.
use Rattle.std.proofs.Common.{◌≡◌, ℕ, ◌+◌, ◌-◌, ◌^◌, ◌<◌, ◌≤◌, max, Bool, true, false, cond, eqb, ltb, leb, List, []}
use Rattle.std.proofs.Common.{◌∷◌, length, get_or, Option, Some, None, refl, sym, ap, subst, ◌∙◌, inl, inr, ⊎_elim, ◌⊎◌}
use Rattle.std.proofs.Common.{arith}
use Rattle.std.specs.Int.{w64, from_be_bytes, to_be_bytes}
use Rattle.std.proofs.lemmas.Nat.{from_be_bytes-to_be_bytes_8}
use Rattle.std.proofs.lemmas.Bool.{cases_lt, le-ltb}
use Rattle.std.proofs.lemmas.Bool.Decides.{nat_tests}
use Rattle.yp_io.specs.Disk.{DiskState, is_written, longest, IsImage, overwritten}
use Rattle.yp_xdr.specs.Reading.{first_nonzero}
use Rattle.yp_version.specs.Limits.{body_max}
use Rattle.yp_map_file.specs.declared.cells.Cell.{Cell}
use Rattle.yp_map_file.specs.declared.cells.Cell.TheVariants.{First, Second}
use Rattle.yp_map_file.specs.declared.cells.Entry.{Entry}
use Rattle.yp_map_file.specs.Cells.{open_gate, bytes_at, number_at, cell_place, is_open, filler, entry}
use Rattle.yp_map_file.specs.inside.Cells.{other, entry_bytes}
use Rattle.yp_map_file.specs.Stands.{file_max, has_room}
use Rattle.yp_map_file.specs.Commits.{generation_of}
use Rattle.yp_map_file.specs.inside.Commits.{place_for}
use Rattle.yp_map_file.proofs.Slices.{length-overwritten, overwritten_before, overwritten_behind, overwritten_there}
use Rattle.yp_map_file.proofs.Slices.{part_there, whole_there}
use Rattle.yp_map_file.proofs.Sits.{bool_cases, SitsIn, Sits}
use Rattle.yp_map_file.proofs.Images.{Room, room_facts, Outside, outside_none, outside_more, outside_part, bytes_kept}
use Rattle.yp_map_file.proofs.Images.{gate_kept, entry_kept, filler_kept}
use Rattle.yp_map_file.proofs.Stays.{cell_below, cells_apart, other-other, SparesIn, Spares, Stays, gate_range, gate_spares}
use Rattle.yp_map_file.proofs.Stays.{stays_closed, body_stays}

-- ---- what was written is one of the images

image_self : (f reads : List ℕ) → IsImage (record { synced = f; written = []; reads = reads }) f
image_self f reads = record { no_shorter = omega arith; no_longer = omega arith; others_stay = λ x lt o. refl }

not_written_more : (a b x : ℕ) (ranges : List (ℕ × ℕ)) → is_written ((a, b) ∷ ranges) x ≡ false
    → ((x < a) ⊎ (b ≤ x)) × (is_written ranges x ≡ false)
not_written_more a b x ranges h = elim (cases_lt x a) [
  | inl lt ↦ (inl lt, let e : leb a x ≡ false = grind (arith, nat_tests) in rw e at h)
  | inr ge ↦ elim (cases_lt x b) [
    | inl lt ↦ let e : leb a x ≡ true = grind (arith, nat_tests) in
        let e2 : ltb x b ≡ true = grind (arith, nat_tests) in absurd (let no : true ≡ false = rw (e, e2) at h in cc)
    | inr le ↦ (
      inr le,
      let e : leb a x ≡ true = grind (arith, nat_tests) in let e2 : ltb x b ≡ false = le-ltb _ _ le in
          rw (e, e2) at h,
    )
  ]
]

-- one more write
image_more : (f g reads piece : List ℕ) (ranges : List (ℕ × ℕ)) (at : ℕ) → at ≤ length g
    → IsImage (record { synced = f; written = ranges; reads = reads }) g
    → IsImage (record { synced = f; written = (at, at + length piece) ∷ ranges; reads = reads })
    (overwritten at piece g)
image_more f g reads piece ranges at within image =
    let size = length-overwritten at piece g within in
    let shorter = image.no_shorter in
    let longer = image.no_longer in
    record {
      no_shorter = omega arith;
      no_longer = omega arith;
      others_stay = λ x lt o.
          let h = not_written_more at (at + length piece) x ranges o in
          ⊎_elim (λ before. overwritten_before at piece g within x before)
          (λ behind. overwritten_behind at piece g within x behind) h.0 ∙ image.others_stay x lt h.1;
    }

-- ---- opening

-- a body and its entry stand in the file, and the entry's cell is closed
pub record Fills (f : List ℕ) (t : Cell) (w : Option Entry) (next : Entry) : Type 0 where
  pub sits : Sits f t w
  pub shut : is_open t f ≡ false
  pub numbers : entry t f ≡ next
  pub zeros : first_nonzero (filler t f) ≡ None
  pub room : has_room next (length f) ≡ true
  pub newer : generation_of w < next.generation

-- the old winner, if there was one, now loses
older : (f : List ℕ) (t : Cell) (w : Option Entry) (next : Entry) → SitsIn f t w → generation_of w < next.generation
    → is_open (other t) f ≡ true → (entry (other t) f).generation < next.generation
older f t None next e newer was_open =
    let P : Cell → Type 0 = λ t. is_open (other t) f ≡ true in
    let second : is_open Second f ≡ true = subst P e.first was_open in
    absurd (let no : true ≡ false = sym second ∙ e.shut_second in cc)
older f t (Some e) next b newer was_open = subst (λ (x : Entry). x.generation < next.generation) (sym b.numbers) newer

module _ (state : DiskState) (c : List ℕ) (image : IsImage state c) (t : Cell) (w : Option Entry) (next : Entry)
    (fills : Fills state.synced t w next) (ranges : state.written ≡ gate_range t) where
  abbrev f : List ℕ
  f = state.synced

  outside : (s k : ℕ) → Outside (gate_range t) s k → Outside state.written s k
  outside s k o = subst (λ (r : List (ℕ × ℕ)). Outside r s k) (sym ranges) o

  -- where the gate reads as another byte than 1, nothing has changed
  pub open_shut : is_open t c ≡ false → Stays f c t w
  open_shut shut = stays_closed state c image t w fills.sits
      (subst (λ (r : List (ℕ × ℕ)). Spares r (length f) t w) (sym ranges) (gate_spares f t w fills.sits)) shut

  -- where it reads as 1, the new body counts
  pub open_open : is_open t c ≡ true → Stays f c (other t) (Some next)
  open_open now_open =
      let below = cell_below t in
      let below_other = cell_below (other t) in
      let apart = cells_apart t in
      let long = fills.sits.long in
      let u = other t in
      let r = room_facts next (length f) fills.room in
      let behind = r.behind in
      let at_numbers : Outside state.written (cell_place t + 8) 24 =
      outside _ _ (outside_more (cell_place t) (cell_place t + 1) (cell_place t + 8) 24 [] (inr (omega arith))
      (outside_none (cell_place t + 8) 24)) in
      let at_filler : Outside state.written (cell_place t + 1) 7 =
      outside _ _ (outside_more (cell_place t) (cell_place t + 1) (cell_place t + 1) 7 [] (inr (omega arith))
      (outside_none (cell_place t + 1) 7)) in
      let at_body : Outside state.written next.place next.len =
      outside _ _ (outside_more (cell_place t) (cell_place t + 1) next.place next.len [] (inr (omega arith))
      (outside_none next.place next.len)) in
      let at_other : Outside state.written (cell_place u) 32 =
      outside _ _ (outside_more (cell_place t) (cell_place t + 1) (cell_place u) 32 []
      (⊎_elim (λ h. inr (omega arith)) (λ h. inl (omega arith)) apart) (outside_none (cell_place u) 32)) in
      let numbers : entry t c ≡ next = entry_kept state c image t (omega arith) at_numbers ∙ fills.numbers in
      let zeros : first_nonzero (filler t c) ≡ None =
      ap first_nonzero (filler_kept state c image t (omega arith) at_filler) ∙ fills.zeros in
      let body = body_stays state c image next fills.room at_body in
      let other_gate : is_open u c ≡ is_open u f =
      gate_kept state c image u (omega arith)
      (outside_part state.written (cell_place u) 32 (cell_place u) 1 at_other (omega arith) (omega arith)) in
      let other_numbers : entry u c ≡ entry u f =
      entry_kept state c image u (omega arith)
      (outside_part state.written (cell_place u) 32 (cell_place u + 8) 24 at_other (omega arith) (omega arith)) in
      let loses : is_open u c ≡ true → (entry u c).generation < next.generation =
      λ is. subst (λ (x : Entry). x.generation < next.generation) (sym other_numbers)
      (older f t w next fills.sits.cells fills.newer (sym other_gate ∙ is)) in
      let back = sym (other-other t) in
      let spared = gate_spares f t w fills.sits in
      let most : longest state.written (length f) ≤ file_max =
      subst (λ (r : List (ℕ × ℕ)). longest r (length f) ≤ file_max) (sym ranges) spared.longest in
      let shorter = image.no_shorter in
      let longer = image.no_longer in
      record {
        sits = record {
          long = omega arith;
          small = omega arith;
          cells = record {
            gate = subst (λ (v : Cell). is_open v c ≡ true) back now_open;
            numbers = subst (λ (v : Cell). entry v c ≡ next) back numbers;
            zeros = subst (λ (v : Cell). first_nonzero (filler v c) ≡ None) back zeros;
            room = body.0;
            loses = loses;
          };
        };
        same = body.1;
      }

-- ---- the gate after a one-byte write

pub gate_written : (f : List ℕ) (t : Cell) (byte : ℕ) → cell_place t ≤ length f
    → is_open t (overwritten (cell_place t) (byte ∷ []) f) ≡ eqb byte open_gate
unfolding is_open
gate_written f t byte within =
    let there : get_or (overwritten (cell_place t) (byte ∷ []) f) (cell_place t + 0) 0 ≡ byte =
    overwritten_there (cell_place t) (byte ∷ []) f within 0 (omega arith) in
    let same : cell_place t + 0 ≡ cell_place t = omega arith in
    ap (λ (n : ℕ). eqb n open_gate)
    (subst (λ (n : ℕ). get_or (overwritten (cell_place t) (byte ∷ []) f) n 0 ≡ byte) same there)

pub gate_image : (f reads : List ℕ) (t : Cell) (byte : ℕ) → cell_place t ≤ length f
    → IsImage (record { synced = f; written = gate_range t; reads = reads }) (overwritten (cell_place t) (byte ∷ []) f)
gate_image f reads t byte within = image_more f f reads (byte ∷ []) [] (cell_place t) within (image_self f reads)

-- ---- filling

-- where the body goes
pub record Goes (f : List ℕ) (w : Option Entry) (q n : ℕ) : Type 0 where
  pub behind : 64 ≤ q
  pub within : q ≤ length f
  pub most : q + n ≤ file_max
  pub spares : SparesIn ((q, q + n) ∷ []) First w

apart_spares : (q n : ℕ) (e : Entry) → (q + n ≤ e.place) ⊎ (e.place + e.len ≤ q)
    → SparesIn ((q, q + n) ∷ []) First (Some e)
apart_spares q n e apart = outside_more q (q + n) e.place e.len [] (⊎_elim (λ h. inr h) (λ h. inl h) apart)
    (outside_none e.place e.len)

goes_some : (f : List ℕ) (e : Entry) (n : ℕ) (b : Bool) → b ≡ leb n (e.place - 64) → Room e (length f) → 64 ≤ length f
    → n ≤ body_max → Goes f (Some e) (cond b 64 (e.place + e.len)) n
goes_some f e n true is r long few =
    let behind = r.behind in
    let fits : n ≤ e.place - 64 = let is2 = sym is in grind (arith, nat_tests) in
    record { behind = omega arith; within = long; most = omega arith; spares = apart_spares 64 n e (inl (omega arith)) }
goes_some f e n false is r long few =
    let behind = r.behind in
    let few_old = r.body in
    let file = r.file in
    let past : e.place - 64 < n = let is2 = sym is in grind (arith, nat_tests) in
    record {
      behind = omega arith;
      within = file;
      most = omega arith;
      spares = apart_spares (e.place + e.len) n e (inr (omega arith));
    }

pub goes : (f : List ℕ) (t : Cell) (w : Option Entry) (n : ℕ) → Sits f t w → n ≤ body_max → Goes f w (place_for w n) n
goes f t None n s few = record { behind = omega arith; within = s.long; most = omega arith; spares = tt }
goes f t (Some e) n s few = goes_some f e n (leb n (e.place - 64)) refl (room_facts e (length f) s.cells.room)
    s.long few

spares_any : (ranges : List (ℕ × ℕ)) (t u : Cell) (w : Option Entry) → SparesIn ranges t w → SparesIn ranges u w
spares_any ranges t u None s = tt
spares_any ranges t u (Some e) s = s

-- a range behind the cells
body_outside : (q n s k : ℕ) → 64 ≤ q → s + k ≤ 64 → Outside ((q, q + n) ∷ []) s k
body_outside q n s k behind below = outside_more q (q + n) s k [] (inl (omega arith)) (outside_none s k)

-- the entry's range beside the body's
abbrev pub fill_ranges : Cell → ℕ → ℕ → List (ℕ × ℕ)
fill_ranges t q n = (cell_place t + 1, cell_place t + 1 + 31) ∷ (q, q + n) ∷ []

pub body_spares : (f : List ℕ) (t : Cell) (w : Option Entry) (q n : ℕ) → Sits f t w → Goes f w q n
    → Spares ((q, q + n) ∷ []) (length f) t w
body_spares f t w q n s g =
    let behind = g.behind in
    let most = g.most in
    let small = s.small in
    record {
      cell = body_outside q n (cell_place (other t)) 32 g.behind (cell_below (other t));
      body = spares_any ((q, q + n) ∷ []) First t w g.spares;
      longest = omega arith;
    }

more_spares_in : (f : List ℕ) (t : Cell) (w : Option Entry) (ranges : List (ℕ × ℕ)) → SitsIn f t w → SparesIn ranges t w
    → SparesIn ((cell_place t + 1, cell_place t + 1 + 31) ∷ ranges) t w
more_spares_in f t None ranges s spares = tt
more_spares_in f t (Some e) ranges b spares =
    let r = room_facts e (length f) b.room in
    let behind = r.behind in
    let below = cell_below t in
    outside_more (cell_place t + 1) (cell_place t + 1 + 31) e.place e.len ranges (inr (omega arith)) spares

pub fill_spares : (f : List ℕ) (t : Cell) (w : Option Entry) (q n : ℕ) → Sits f t w → Goes f w q n
    → Spares (fill_ranges t q n) (length f) t w
fill_spares f t w q n s g =
    let one = body_spares f t w q n s g in
    let below = cell_below t in
    let longest = one.longest in
    record {
      cell = outside_more (cell_place t + 1) (cell_place t + 1 + 31) (cell_place (other t)) 32 ((q, q + n) ∷ [])
          (⊎_elim (λ h. inr (omega arith)) (λ h. inl (omega arith)) (cells_apart t)) one.cell;
      body = more_spares_in f t w ((q, q + n) ∷ []) s.cells one.body;
      longest = omega arith;
    }

-- the gate stands beside the ranges of a fill
fill_gate : (t : Cell) (q n : ℕ) → 64 ≤ q → Outside (fill_ranges t q n) (cell_place t) 1
fill_gate t q n behind =
    let below = cell_below t in
    outside_more (cell_place t + 1) (cell_place t + 1 + 31) (cell_place t) 1 ((q, q + n) ∷ []) (inl (omega arith))
    (body_outside q n (cell_place t) 1 behind (omega arith))

-- while the body is written, and while its entry is
pub body_stays_closed : (state : DiskState) (c : List ℕ) (t : Cell) (w : Option Entry) (q n : ℕ) → IsImage state c
    → Sits state.synced t w → is_open t state.synced ≡ false
    → Goes state.synced w q n → state.written ≡ (q, q + n) ∷ [] → Stays state.synced c t w × (is_open t c ≡ false)
body_stays_closed state c t w q n image s shut g ranges =
    let below = cell_below t in
    let long = s.long in
    let o : Outside state.written (cell_place t) 1 =
    subst (λ (r : List (ℕ × ℕ)). Outside r (cell_place t) 1) (sym ranges)
    (body_outside q n (cell_place t) 1 g.behind (omega arith)) in
    let gate : is_open t c ≡ false = gate_kept state c image t (omega arith) o ∙ shut in (
      stays_closed state c image t w s
          (subst (λ (r : List (ℕ × ℕ)). Spares r (length state.synced) t w) (sym ranges)
          (body_spares state.synced t w q n s g)) gate,
      gate,
    )

pub fill_stays_closed : (state : DiskState) (c : List ℕ) (t : Cell) (w : Option Entry) (q n : ℕ) → IsImage state c
    → Sits state.synced t w → is_open t state.synced ≡ false
    → Goes state.synced w q n → state.written ≡ fill_ranges t q n → Stays state.synced c t w × (is_open t c ≡ false)
fill_stays_closed state c t w q n image s shut g ranges =
    let below = cell_below t in
    let long = s.long in
    let o : Outside state.written (cell_place t) 1 =
    subst (λ (r : List (ℕ × ℕ)). Outside r (cell_place t) 1) (sym ranges) (fill_gate t q n g.behind) in
    let gate : is_open t c ≡ false = gate_kept state c image t (omega arith) o ∙ shut in (
      stays_closed state c image t w s
          (subst (λ (r : List (ℕ × ℕ)). Spares r (length state.synced) t w) (sym ranges)
          (fill_spares state.synced t w q n s g)) gate,
      gate,
    )

-- ---- a file that is filled

-- the numbers of an entry fit their eight bytes
pub record Numbers (e : Entry) : Type 0 where
  pub generation : e.generation < 2 ^ 64
  pub place : e.place < 2 ^ 64
  pub len : e.len < 2 ^ 64

number_there : (f : List ℕ) (at i n : ℕ) (piece : List ℕ) → at ≤ length f → i + 8 ≤ length piece → n < 2 ^ 64
    → bytes_at i 8 piece ≡ to_be_bytes w64 n → number_at (at + i) (overwritten at piece f) ≡ n
number_there f at i n piece within fits lt is =
    ap (λ (b : List ℕ). from_be_bytes w64 b) (part_there at piece f within i 8 fits ∙ is)
    ∙ from_be_bytes-to_be_bytes_8 n lt

generation_bytes : (e : Entry) → bytes_at 7 8 (entry_bytes e) ≡ to_be_bytes w64 e.generation
unfolding bytes_at
generation_bytes e = refl

place_bytes : (e : Entry) → bytes_at 15 8 (entry_bytes e) ≡ to_be_bytes w64 e.place
unfolding bytes_at
place_bytes e = refl

len_bytes : (e : Entry) → bytes_at 23 8 (entry_bytes e) ≡ to_be_bytes w64 e.len
unfolding bytes_at
len_bytes e = refl

zero_bytes : (e : Entry) → first_nonzero (bytes_at 0 7 (entry_bytes e)) ≡ None
unfolding bytes_at
zero_bytes e = refl

pub entry_written : (f : List ℕ) (t : Cell) (e : Entry) → cell_place t + 1 ≤ length f → Numbers e
    → entry t (overwritten (cell_place t + 1) (entry_bytes e) f) ≡ e
unfolding entry
entry_written f t e within numbers =
    let at = cell_place t + 1 in
    let new = overwritten (cell_place t + 1) (entry_bytes e) f in
    let g : number_at (cell_place t + 8) new ≡ e.generation =
    subst (λ (n : ℕ). number_at n new ≡ e.generation) (let s : cell_place t + 1 + 7 ≡ cell_place t + 8 =
    omega arith in s) (number_there f (cell_place t + 1) 7 e.generation (entry_bytes e) within
    (omega arith) numbers.generation (generation_bytes e)) in
    let p : number_at (cell_place t + 16) new ≡ e.place =
    subst (λ (n : ℕ). number_at n new ≡ e.place) (let s : cell_place t + 1 + 15 ≡ cell_place t + 16 = omega arith in
    s) (number_there f (cell_place t + 1) 15 e.place (entry_bytes e) within (omega arith) numbers.place
    (place_bytes e)) in
    let n : number_at (cell_place t + 24) new ≡ e.len =
    subst (λ (n : ℕ). number_at n new ≡ e.len) (let s : cell_place t + 1 + 23 ≡ cell_place t + 24 = omega arith in
    s) (number_there f (cell_place t + 1) 23 e.len (entry_bytes e) within (omega arith) numbers.len (len_bytes e))
    in
    λ i. record { generation = g i; place = p i; len = n i }

pub filler_written : (f : List ℕ) (t : Cell) (e : Entry) → cell_place t + 1 ≤ length f
    → first_nonzero (filler t (overwritten (cell_place t + 1) (entry_bytes e) f)) ≡ None
unfolding filler
filler_written f t e within =
    let there : bytes_at (cell_place t + 1 + 0) 7 (overwritten (cell_place t + 1) (entry_bytes e) f) ≡
    bytes_at 0 7 (entry_bytes e) = part_there (cell_place t + 1) (entry_bytes e) f within 0 7 (omega arith) in
    let same : cell_place t + 1 + 0 ≡ cell_place t + 1 = omega arith in
    ap first_nonzero (subst (λ (n : ℕ). bytes_at n 7 (overwritten (cell_place t + 1) (entry_bytes e) f) ≡
    bytes_at 0 7 (entry_bytes e)) same there) ∙ zero_bytes e

-- a file with a body and, behind it in time, its entry
abbrev pub with_body : Cell → Entry → List ℕ → List ℕ → List ℕ
with_body t next body f = overwritten (cell_place t + 1) (entry_bytes next) (overwritten next.place body f)

pub fill_image : (f reads body : List ℕ) (t : Cell) (next : Entry) → cell_place t + 1 ≤ length f → next.place ≤ length f
    → next.len ≡ length body
    → IsImage (record { synced = f; written = fill_ranges t next.place next.len; reads = reads })
    (with_body t next body f)
fill_image f reads body t next within place len =
    let size = length-overwritten next.place body f place in
    let one = image_more f f reads body [] next.place place (image_self f reads) in
    let two = image_more f (overwritten next.place body f) reads (entry_bytes next)
    ((next.place, next.place + length body) ∷ []) (cell_place t + 1) (omega arith) one in
    subst (λ (n : ℕ). IsImage (record {
      synced = f;
      written = (cell_place t + 1, cell_place t + 1 + 31) ∷ (next.place, next.place + n) ∷ [];
      reads = reads;
    })
    (with_body t next body f)) (sym len) two

-- the body stands at its place
pub body_there : (f body : List ℕ) (t : Cell) (next : Entry) → cell_place t + 1 ≤ length f → next.place ≤ length f
    → 64 ≤ next.place → next.len ≡ length body → bytes_at next.place next.len (with_body t next body f) ≡ body
body_there f body t next within place behind len =
    let below = cell_below t in
    let inner = overwritten next.place body f in
    let size : length inner ≡ max (length f) (next.place + length body) = length-overwritten next.place body f place in
    let image = image_more inner inner [] (entry_bytes next) [] (cell_place t + 1) (omega arith) (image_self inner [])
    in
    let kept = bytes_kept (record {
      synced = inner;
      written = (cell_place t + 1, cell_place t + 1 + 31) ∷ [];
      reads = [];
    }) (with_body t next body f) image next.place (length body) (omega arith)
    (outside_more (cell_place t + 1) (cell_place t + 1 + 31) next.place (length body) [] (inr (omega arith))
    (outside_none next.place (length body))) in
    subst (λ (n : ℕ). bytes_at next.place n (with_body t next body f) ≡ body) (sym len) (kept
    ∙ whole_there next.place body f place)

pub length_with_body : (f body : List ℕ) (t : Cell) (next : Entry) → 64 ≤ length f → next.place ≤ length f
    → length (with_body t next body f) ≡ max (length f) (next.place + length body)
length_with_body f body t next long place =
    let below = cell_below t in
    let size = length-overwritten next.place body f place in
    let size2 = length-overwritten (cell_place t + 1) (entry_bytes next) (overwritten next.place body f)
    (omega arith) in
    omega arith

pub length_first : (f body : List ℕ) (q : ℕ) → q ≤ length f
    → length (overwritten q body f) ≡ max (length f) (q + length body)
length_first f body q within = length-overwritten q body f within

-- the other cell's gate beside a one-byte write at this one's
pub apart_gate : (t : Cell) → (cell_place (other t) + 1 ≤ cell_place t) ⊎ (cell_place t + 1 ≤ cell_place (other t))
apart_gate First = inr (omega arith)
apart_gate Second = inl (omega arith)

pub other_gate_kept : (f : List ℕ) (t u : Cell) (byte : ℕ) → cell_place t ≤ length f
    → (cell_place u + 1 ≤ cell_place t) ⊎ (cell_place t + 1 ≤ cell_place u) → cell_place u < length f
    → is_open u (overwritten (cell_place t) (byte ∷ []) f) ≡ is_open u f
other_gate_kept f t u byte within apart inside =
    gate_kept (record { synced = f; written = gate_range t; reads = f }) (overwritten (cell_place t) (byte ∷ []) f)
    (gate_image f f t byte within) u inside
    (outside_more (cell_place t) (cell_place t + 1) (cell_place u) 1 [] apart (outside_none (cell_place u) 1))

pub gate_cases : (t : Cell) (c : List ℕ) → (is_open t c ≡ true) ⊎ (is_open t c ≡ false)
gate_cases t c = bool_cases (is_open t c)
