-- What is known of a file before and after its body is filled in and its cell is opened.
use Rattle.std.proofs.Common.{◌≡◌, ℕ, ◌+◌, ◌-◌, ◌<◌, ◌≤◌, Bool, true, false, cond, leb, List, [], ◌∷◌, length, Option}
use Rattle.std.proofs.Common.{Some, None, Ok, refl, sym, ap, subst, ◌∙◌, inl, inr, ◌⊎◌, arith}
use Rattle.std.specs.Prelude.{IfSome, is_some}
use Rattle.std.specs.Option.{option_map}
use Rattle.std.proofs.lemmas.Bool.Decides.{nat_tests}
use Rattle.yp_io.specs.Disk.{History, IsImage, overwritten, touched, written_at, MayLeaveTorn, IsWithin}
use Rattle.yp_xdr.specs.Reading.{first_nonzero}
use Rattle.yp_version.specs.Limits.{body_max}
use Rattle.yp_version.specs.Versions.{MapVersion}
use Rattle.yp_map_file.specs.declared.cells.Cell.{Cell}
use Rattle.yp_map_file.specs.declared.cells.Entry.{Entry}
use Rattle.yp_map_file.specs.declared.known.Known.{Known}
use Rattle.yp_map_file.specs.Cells.{bytes_at, cell_place, is_open, entry, filler}
use Rattle.yp_map_file.specs.inside.Cells.{other, entry_bytes}
use Rattle.yp_version.specs.inside.Bodies.{body}
use Rattle.yp_map_file.specs.Bodies.{body_at}
use Rattle.yp_map_file.specs.Stands.{file_max, has_room, by_body, Stored, stands}
use Rattle.yp_map_file.specs.inside.Stands.{standing}
use Rattle.yp_map_file.specs.Commits.{generation_max, winning, generation_of}
use Rattle.yp_map_file.specs.inside.Commits.{target, place_for, next_entry, filled, opened}
use Rattle.yp_map_file.specs.Slots.{IsSound, IsAsBefore}
use Rattle.yp_map_file.specs.inside.Slots.{IsKnown, IsQuiet, Settles, IsFilled, Fills, LiesWithin}
use Rattle.yp_map_file.specs.inside.Slots.{IsAsBeforeOrOpened, with_winner, WouldStand, ReadsChanged}
use Rattle.yp_map_file.proofs.Sits.{Sits, sits_winning, sits_target, sits_stands}
use Rattle.yp_map_file.proofs.Images.{has_room_from}
use Rattle.yp_map_file.proofs.Stays.{cell_below, Stays, gate_range}
use Rattle.yp_map_file.proofs.Writes.{gate_written, gate_image, open_shut, open_open, Goes, goes, fill_ranges}
use Rattle.yp_map_file.proofs.Writes.{body_stays_closed, fill_stays_closed, Numbers, entry_written, filler_written}
use Rattle.yp_map_file.proofs.Writes.{with_body, fill_image, body_there, length_with_body}
use Rattle.yp_map_file.proofs.Writes as writes
use Rattle.yp_map_file.proofs.Steps.{known_sits, known_gate, known_from, stays_same, stays_sound, writing, quiet_torn}
use Rattle.yp_map_file.proofs.Steps.{quiet_after, after}

known_shut : (known : Known) (f : List ℕ) → IsKnown known f → known.long ≡ true → known.gate_open ≡ false
    → is_open known.target f ≡ false
known_shut known f k long shut = sym (known_gate known f k long) ∙ shut

-- ---- while the body is written, and while its entry is

pub fill_torn_body : (known : Known) (history : Option History) (n : ℕ) → known.long ≡ true → known.gate_open ≡ false
    → n ≤ body_max → Settles known history
    → (image : List ℕ) → MayLeaveTorn (place_for known.winner n) n history image → IsAsBefore history image
fill_torn_body known None n long shut few s image left = absurd left
fill_torn_body known (Some h) n long shut few s image left =
    let f = h.state.reads in
    let sits = known_sits known f s.file long in
    let q = place_for known.winner n in
    let stays = body_stays_closed (writing f ((q, q + n) ∷ [])) image known.target known.winner q n
    (quiet_torn h.state q n image s.quiet left) sits (known_shut known f s.file long shut)
    (goes f known.target known.winner n sits few) refl in
    stays_same f image known.target known.winner sits stays.0

-- a state at rest, of which two ranges are written
quiet_torn_twice : (h : History) (q : ℕ) (piece : List ℕ) (at n : ℕ) (c : List ℕ) → IsQuiet h.state
    → IsImage (touched at n (written_at q piece h).state) c
    → IsImage (writing h.state.reads ((at, at + n) ∷ (q, q + length piece) ∷ [])) c
quiet_torn_twice h q piece at n c quiet image =
    let f = h.state.reads in
    let rebuilt : IsImage (record {
      synced = h.state.synced;
      written = (at, at + n) ∷ (q, q + length piece) ∷ h.state.written;
      reads = f;
    }) c =
    record { no_shorter = image.no_shorter; no_longer = image.no_longer; others_stay = image.others_stay } in
    subst (λ (r : List (ℕ × ℕ)). IsImage (record {
      synced = f;
      written = (at, at + n) ∷ (q, q + length piece) ∷ r;
      reads = f;
    }) c) quiet.nothing_written
    (subst (λ (s : List ℕ). IsImage (record {
      synced = s;
      written = (at, at + n) ∷ (q, q + length piece) ∷ h.state.written;
      reads = f;
    }) c) quiet.synced rebuilt)

pub fill_torn_entry : (known : Known) (old middle : Option History) (body : List ℕ) → known.long ≡ true
    → known.gate_open ≡ false → length body ≤ body_max → Settles known old
    → middle ≡ option_map (written_at (place_for known.winner (length body)) body) old → (image : List ℕ)
    → MayLeaveTorn (cell_place known.target + 1) 31 middle image → IsAsBefore old image
fill_torn_entry known None middle body long shut few s is image left =
    absurd (subst (λ (h : Option History). MayLeaveTorn (cell_place known.target + 1) 31 h image) is left)
fill_torn_entry known (Some h) middle body long shut few s is image left =
    let f = h.state.reads in
    let n = length body in
    let q = place_for known.winner n in
    let t = known.target in
    let sits = known_sits known f s.file long in
    let torn = quiet_torn_twice h q body (cell_place t + 1) 31 image s.quiet
    (subst (λ (h : Option History). MayLeaveTorn (cell_place t + 1) 31 h image) is left) in
    let stays = fill_stays_closed (writing f (fill_ranges t q n)) image t known.winner q n torn sits
    (known_shut known f s.file long shut) (goes f t known.winner n sits few) refl in
    stays_same f image t known.winner sits stays.0

-- ---- a file that is filled

newer_than : (w : Option Entry) (n : ℕ) → generation_of w < (next_entry w n).generation
newer_than w n = omega arith

module _ (f body : List ℕ) (t : Cell) (w : Option Entry) (sits : Sits f t w) (shut : is_open t f ≡ false)
    (some : 0 < length body) (few : length body ≤ body_max) (unspent : generation_of w < generation_max) where
  abbrev next : Entry
  next = next_entry w (length body)

  abbrev new : List ℕ
  new = with_body t next body f

  filled_goes : Goes f w (place_for w (length body)) (length body)
  filled_goes = goes f t w (length body) sits few

  filled_within : cell_place t + 1 ≤ length f
  filled_within = let below = cell_below t in let long = sits.long in omega arith

  filled_image : IsImage (writing f (fill_ranges t next.place next.len)) new
  filled_image = fill_image f f body t next filled_within filled_goes.within refl

  filled_stays : Stays f new t w × (is_open t new ≡ false)
  filled_stays = fill_stays_closed (writing f (fill_ranges t next.place next.len))
      new t w next.place next.len filled_image sits shut filled_goes refl

  filled_numbers : Numbers next
  filled_numbers = let most = filled_goes.most in
      record { generation = omega arith; place = omega arith; len = omega arith }

  filled_inner : cell_place t + 1 ≤ length (overwritten next.place body f)
  filled_inner =
      let below = cell_below t in
      let long = sits.long in
      let size = writes.length_first f body next.place filled_goes.within in
      omega arith

  filled_room : has_room next (length new) ≡ true
  filled_room =
      let g = filled_goes in
      let behind = g.behind in
      let size = length_with_body f body t next sits.long g.within in
      has_room_from next (length new) (record { behind = g.behind; some = some; body = few; file = omega arith })

  pub filled_fills : writes.Fills new t w next
  filled_fills = record {
    sits = filled_stays.0.sits;
    shut = filled_stays.1;
    numbers = entry_written (overwritten next.place body f) t next filled_inner filled_numbers;
    zeros = filler_written (overwritten next.place body f) t next filled_inner;
    room = filled_room;
    newer = newer_than w (length body);
  }

  pub filled_body : bytes_at next.place next.len new ≡ body
  filled_body = body_there f body t next filled_within filled_goes.within filled_goes.behind refl

  pub filled_lies : LiesWithin next
  filled_lies = record { behind = filled_goes.behind; body = few; file = filled_goes.most }

-- ---- a file whose cell was opened

-- the old winner, if there was one, has the cell that is written next
gate_after : (f c : List ℕ) (t : Cell) (w : Option Entry) (next : Entry) → Sits f t w
    → is_open (other t) c ≡ is_open (other t) f → is_some w ≡ is_open (other t) c
gate_after f c t None next s kept =
    let e = s.cells in
    let P : Cell → Type 0 = λ t. is_open (other t) f ≡ false in
    sym (kept ∙ subst P (sym e.first) e.shut_second)
gate_after f c t (Some e) next s kept = sym (kept ∙ s.cells.gate)

module _ (f : List ℕ) (t : Cell) (w : Option Entry) (next : Entry) (fills : writes.Fills f t w next) where
  abbrev open_file : List ℕ
  open_file = overwritten (cell_place t) (1 ∷ []) f

  within : cell_place t ≤ length f
  within = let below = cell_below t in let long = fills.sits.long in omega arith

  open_stays : Stays f open_file (other t) (Some next)
  open_stays = open_open (writing f (gate_range t)) open_file (gate_image f f t 1 within) t w next fills refl
      (gate_written f t 1 within)

  pub opened_file : opened f ≡ open_file
  unfolding opened
  opened_file = ap (λ (c : Cell). overwritten (cell_place c) (1 ∷ []) f) (sits_target f t w fills.sits)

  pub opened_stands : stands (opened f) ≡ standing (Some next) f
  opened_stands = ap stands opened_file ∙ sits_stands open_file (other t) (Some next) open_stays.sits ∙ open_stays.same

  open_gate_kept : is_open (other t) open_file ≡ is_open (other t) f
  open_gate_kept = writes.other_gate_kept f t (other t) 1 within (writes.apart_gate t)
      (let below = cell_below (other t) in let long = fills.sits.long in omega arith)

  pub opened_known : IsSound (standing (Some next) f)
      → IsKnown (record { long = true; target = other t; gate_open = is_some w; winner = Some next }) open_file
  opened_known sound = known_from open_file (other t) (Some next) (is_some w) open_stays.sits
      (subst IsSound (sym open_stays.same) sound)
      (gate_after f open_file t w next fills.sits open_gate_kept)

  -- what a crash leaves while it is opened
  pub open_image : (c : List ℕ) → IsImage (writing f (gate_range t)) c
      → (stands c ≡ stands f) ⊎ (stands c ≡ stands (opened f))
  open_image c image = elim (writes.gate_cases t c) [
    | inl now_open ↦
        let stays = open_open (writing f (gate_range t)) c image t w next fills refl now_open in
        inr (sits_stands c (other t) (Some next) stays.sits ∙ stays.same ∙ sym opened_stands)
    | inr shut ↦ inl (stays_same f c t w fills.sits
        (open_shut (writing f (gate_range t)) c image t w next fills refl shut))
  ]

-- ---- in the words of the contracts

pub fills_from : (known : Known) (f : List ℕ) (next : Entry) → IsKnown known f → known.long ≡ true
    → known.gate_open ≡ false → IsFilled next f → writes.Fills f known.target known.winner next
fills_from known f next k long shut filled =
    let sits = known_sits known f k long in
    let cell : target f ≡ known.target = sym k.cell in
    let newer = filled.newer in
    let same : generation_of (winning f) ≡ generation_of known.winner = ap generation_of (sym k.entry) in
    record {
      sits = sits;
      shut = known_shut known f k long shut;
      numbers = subst (λ (t : Cell). entry t f ≡ next) cell filled.numbers;
      zeros = subst (λ (t : Cell). first_nonzero (filler t f) ≡ None) cell filled.zeros;
      room = filled.room;
      newer = omega arith;
    }

-- the file once the body and its entry were written
fill_file : (known : Known) (f body : List ℕ) → IsKnown known f → known.long ≡ true → known.gate_open ≡ false
    → 0 < length body → length body ≤ body_max → generation_of known.winner < generation_max
    → IsKnown known (with_body known.target (next_entry known.winner (length body)) body f)
    × (filled body f ≡ with_body known.target (next_entry known.winner (length body)) body f)
unfolding filled
fill_file known f body k long shut some few unspent =
    let t = known.target in
    let w = known.winner in
    let sits = known_sits known f k long in
    let gate = known_shut known f k long shut in
    let stays = (filled_stays f body t w sits gate some few unspent) in
    let new = with_body t (next_entry w (length body)) body f in
    let known_new = known_from new t w false stays.0.sits (stays_sound f new t w sits stays.0 k.sound) (sym stays.1) in
    let cell : target f ≡ t = sym k.cell in
    let entry_is : winning f ≡ w = sym k.entry in (
      subst (λ (b : Bool). IsKnown (record { long = b; target = t; gate_open = known.gate_open; winner = w }) new)
          (sym long) (subst (λ (b : Bool). IsKnown (record { long = true; target = t; gate_open = b; winner = w }) new)
          (sym shut) known_new),
      rw (cell, entry_is) refl,
    )

fill_filled : (known : Known) (f body : List ℕ) → IsKnown known f → known.long ≡ true → known.gate_open ≡ false
    → 0 < length body → length body ≤ body_max → generation_of known.winner < generation_max
    → (version : MapVersion) → body_at body ≡ Ok version
    → IsFilled (next_entry known.winner (length body))
    (with_body known.target (next_entry known.winner (length body)) body f)
    × (stands (opened (with_body known.target (next_entry known.winner (length body)) body f)) ≡ Stored version)
fill_filled known f body k long shut some few unspent version read =
    let t = known.target in
    let w = known.winner in
    let n = length body in
    let next = next_entry w n in
    let sits = known_sits known f k long in
    let gate = known_shut known f k long shut in
    let new = with_body t next body f in
    let fills = filled_fills f body t w sits gate some few unspent in
    let there = filled_body f body t w sits gate some few unspent in
    let stored : standing (Some next) new ≡ Stored version = ap (λ (b : List ℕ). by_body next.place (body_at b)) there
    ∙ ap (by_body next.place) read in
    let cell : t ≡ target new = sym (sits_target new t w fills.sits) in
    let entry_is : w ≡ winning new = sym (sits_winning new t w fills.sits) in
    let same : generation_of w ≡ generation_of (winning new) = ap generation_of entry_is in (
      record {
        numbers = subst (λ (c : Cell). entry c new ≡ next) cell fills.numbers;
        zeros = subst (λ (c : Cell). first_nonzero (filler c new) ≡ None) cell fills.zeros;
        room = fills.room;
        newer = omega arith;
        sound = subst IsSound (sym stored) tt;
      },
      opened_stands new t w next fills ∙ stored,
    )

pub fill_done : (known : Known) (old middle new : Option History) (body : List ℕ) → known.long ≡ true
    → known.gate_open ≡ false → 0 < length body → length body ≤ body_max
    → generation_of known.winner < generation_max → Settles known old → (version : MapVersion)
    → body_at body ≡ Ok version
    → middle ≡ option_map (written_at (place_for known.winner (length body)) body) old
    → new ≡ after (cell_place known.target + 1) (entry_bytes (next_entry known.winner (length body))) middle
    → Settles known new × ReadsChanged (filled body) old new × Fills (next_entry known.winner (length body)) new
    × WouldStand version new
fill_done known None middle new body long shut some few unspent s version read is done =
    let at = cell_place known.target + 1 in
    let bytes = entry_bytes (next_entry known.winner (length body)) in
    let P : Option History → Type 0 = λ h. Settles known h × ReadsChanged (filled body) None h
    × Fills (next_entry known.winner (length body)) h × WouldStand version h in
    subst P (sym (done ∙ ap (after at bytes) is)) (tt, tt, tt, tt)
fill_done known (Some h) middle new body long shut some few unspent s version read is done =
    let at = cell_place known.target + 1 in
    let next = next_entry known.winner (length body) in
    let bytes = entry_bytes next in
    let f = h.state.reads in
    let P : Option History → Type 0 = λ k. Settles known k × ReadsChanged (filled body) (Some h) k × Fills next k
    × WouldStand version k in
    let file = fill_file known f body s.file long shut some few unspent in
    let filled_in = fill_filled known f body s.file long shut some few unspent version read in
    subst P (sym (done ∙ ap (after at bytes) is)) (
      record { quiet = quiet_after (written_at at bytes (written_at next.place body h)); file = file.0 },
      sym file.1,
      filled_in.0,
      filled_in.1,
    )

pub open_torn : (known : Known) (history : Option History) (next : Entry) → known.long ≡ true → known.gate_open ≡ false
    → Settles known history → Fills next history
    → (image : List ℕ) → MayLeaveTorn (cell_place known.target) 1 history image → IsAsBeforeOrOpened history image
open_torn known None next long shut s filled image left = absurd left
open_torn known (Some h) next long shut s filled image left =
    let f = h.state.reads in
    let t = known.target in
    open_image f t known.winner next (fills_from known f next s.file long shut filled) image
    (quiet_torn h.state (cell_place t) 1 image s.quiet left)

pub open_done : (known : Known) (old new : Option History) (next : Entry) (at : ℕ) → at ≡ cell_place known.target
    → known.long ≡ true → known.gate_open ≡ false → Settles known old → Fills next old
    → new ≡ after at (1 ∷ []) old → Settles (with_winner known next) new × ReadsChanged opened old new
open_done known None new next at is long shut s filled done =
    let P : Option History → Type 0 = λ h. Settles (with_winner known next) h × ReadsChanged opened None h in
    subst P (sym (done ∙ ap (λ (n : ℕ). after n (1 ∷ []) None) is)) (tt, tt)
open_done known (Some h) new next at is long shut s filled done =
    let f = h.state.reads in
    let t = known.target in
    let fills = fills_from known f next s.file long shut filled in
    let cell : target f ≡ t = sym s.file.cell in
    let sound : IsSound (standing (Some next) f) = filled.sound in
    let P : Option History → Type 0 = λ k. Settles (with_winner known next) k × ReadsChanged opened (Some h) k in
    subst P (sym (done ∙ ap (λ (n : ℕ). after n (1 ∷ []) (Some h)) is)) (
      record {
        quiet = quiet_after (written_at (cell_place t) (1 ∷ []) h);
        file = opened_known f t known.winner next fills sound;
      },
      sym (opened_file f t known.winner next fills),
    )

-- ---- places

lies_some : (e : Entry) (n : ℕ) (b : Bool) → b ≡ leb n (e.place - 64) → LiesWithin e → n ≤ body_max
    → (64 ≤ cond b 64 (e.place + e.len)) × (cond b 64 (e.place + e.len) + n ≤ file_max)
lies_some e n true is lies few = (omega arith, omega arith)
lies_some e n false is lies few =
    let behind = lies.behind in
    let few_old = lies.body in
    let past : e.place - 64 < n = let is2 = sym is in grind (arith, nat_tests) in
    (omega arith, omega arith)

-- wherever a body goes, it lies within the largest file
pub next_lies : (w : Option Entry) (n : ℕ) → IfSome w LiesWithin → n ≤ body_max → LiesWithin (next_entry w n)
next_lies None n lies few = record { behind = omega arith; body = few; file = omega arith }
next_lies (Some e) n lies few = let k = lies_some e n (leb n (e.place - 64)) refl lies few in
    record { behind = k.0; body = few; file = k.1 }

pub next_within : (known : Known) (history : Option History) (n : ℕ) → known.long ≡ true → Settles known history
    → n ≤ body_max → IsWithin (place_for known.winner n) history
next_within known None n long s few = tt
next_within known (Some h) n long s few =
    let f = h.state.reads in
    (goes f known.target known.winner n (known_sits known f s.file long) few).within

-- the entry is written within the cells, wherever the body went
pub cell_within : (known : Known) (history middle : Option History) (q : ℕ) (body : List ℕ) → known.long ≡ true
    → Settles known history → q ≡ place_for known.winner (length body) → length body ≤ body_max
    → middle ≡ option_map (written_at q body) history → IsWithin (cell_place known.target + 1) middle
cell_within known None middle q body long s place few is = subst (IsWithin (cell_place known.target + 1)) (sym is) tt
cell_within known (Some h) middle q body long s place few is =
    let f = h.state.reads in
    let sits = known_sits known f s.file long in
    let below = cell_below known.target in
    let size_long = sits.long in
    let within : q ≤ length f = subst (λ (n : ℕ). n ≤ length f) (sym place)
    (goes f known.target known.winner (length body) sits few).within in
    let size = writes.length_first f body q within in
    subst (IsWithin (cell_place known.target + 1)) (sym is) (omega arith)

-- ---- in the names that the code has for these values

pub fill_result : (known : Known) (old middle new : Option History) (body bytes : List ℕ) (next : Entry) (p : ℕ)
    → known.long ≡ true → known.gate_open ≡ false → (0 < length body) × (length body ≤ body_max)
    → generation_of known.winner < generation_max → Settles known old → next ≡ next_entry known.winner (length body)
    → p ≡ cell_place known.target → bytes ≡ entry_bytes next
    → middle ≡ option_map (written_at next.place body) old → new ≡ after (p + 1) bytes middle → (version : MapVersion)
    → body_at body ≡ Ok version
    → Settles known new × ReadsChanged (filled body) old new × Fills next new × WouldStand version new
fill_result known old middle new body bytes next p long shut bounds unspent s next_is p_is bytes_is is done version read
    =
    let expected = next_entry known.winner (length body) in
    let first : middle ≡ option_map (written_at expected.place body) old = is
    ∙ ap (λ (e : Entry). option_map (written_at e.place body) old) next_is in
    let second : new ≡ after (cell_place known.target + 1) (entry_bytes expected) middle =
    done ∙ ap (λ (n : ℕ). after (n + 1) bytes middle) p_is
    ∙ ap (λ (b : List ℕ). after (cell_place known.target + 1) b middle) (bytes_is ∙ ap entry_bytes next_is) in
    let all = fill_done known old middle new body long shut bounds.0 bounds.1 unspent s version read first second in
    subst (λ (e : Entry). Settles known new × ReadsChanged (filled body) old new × Fills e new
    × WouldStand version new) (sym next_is) all

pub fill_entry_left : (known : Known) (old middle : Option History) (body : List ℕ) (next : Entry) (p n : ℕ)
    → known.long ≡ true → known.gate_open ≡ false → (0 < length body) × (length body ≤ body_max)
    → Settles known old → next ≡ next_entry known.winner (length body) → p ≡ cell_place known.target → n ≡ 31
    → middle ≡ option_map (written_at next.place body) old → (image : List ℕ) → MayLeaveTorn (p + 1) n middle image
    → IsAsBefore old image
fill_entry_left known old middle body next p n long shut bounds s next_is p_is n_is is image left =
    fill_torn_entry known old middle body long shut bounds.1 s (is
    ∙ ap (λ (e : Entry). option_map (written_at e.place body) old) next_is) image
    (subst (λ (k : ℕ). MayLeaveTorn (cell_place known.target + 1) k middle image) n_is
    (subst (λ (k : ℕ). MayLeaveTorn (k + 1) n middle image) p_is left))

pub fill_body_left : (known : Known) (old : Option History) (body : List ℕ) (next : Entry) → known.long ≡ true
    → known.gate_open ≡ false → (0 < length body) × (length body ≤ body_max)
    → Settles known old → next ≡ next_entry known.winner (length body) → (image : List ℕ)
    → MayLeaveTorn next.place (length body) old image → IsAsBefore old image
fill_body_left known old body next long shut bounds s next_is image left =
    fill_torn_body known old (length body) long shut bounds.1 s image
    (subst (λ (e : Entry). MayLeaveTorn e.place (length body) old image) next_is left)
