-- What is told of a file while it is loaded.
use Rattle.std.proofs.Common.{◌≡◌, ℕ, ◌+◌, ◌-◌, ◌^◌, ◌<◌, ◌≤◌, true, false, ltb, List, length, take, drop, Option, Some}
use Rattle.std.proofs.Common.{None, Result, Ok, Err, refl, sym, ap, subst, ◌∙◌, arith}
use Rattle.std.specs.Prelude.{IfSome, IfOk, slice_range, IsTrue}
use Rattle.std.proofs.lemmas.Bool.Decides.{nat_tests}
use Rattle.yp_io.specs.Disk.{History, HasLength, ReadsAt}
use Rattle.yp_version.specs.Versions.{MapVersion}
use Rattle.yp_map_file.specs.declared.cells.Cell.TheVariants.{First}
use Rattle.yp_map_file.specs.declared.cells.Entry.{Entry}
use Rattle.yp_map_file.specs.declared.fault.SlotFault.{SlotFault}
use Rattle.yp_map_file.specs.declared.fault.SlotFault.TheVariants as fault
use Rattle.yp_map_file.specs.declared.known.Known.{Known}
use Rattle.yp_map_file.specs.declared.wrong.BodyFault.{BodyFault}
use Rattle.yp_map_file.specs.declared.wrong.BodyFault.TheVariants.{Wrong, NoMemory}
use Rattle.yp_map_file.specs.Cells.{bytes_at, is_open}
use Rattle.yp_map_file.specs.Bodies.{body_at}
use Rattle.yp_map_file.specs.Stands.{file_max, has_room, by_body, Damaged, stands}
use Rattle.yp_map_file.specs.inside.Stands.{standing}
use Rattle.yp_map_file.specs.Commits.{winning}
use Rattle.yp_map_file.specs.inside.Commits.{target, laid}
use Rattle.yp_map_file.specs.Slots.{IsSound}
use Rattle.yp_map_file.specs.inside.Slots.{IsKnown}
use Rattle.yp_map_file.specs.inside.Heads.{ReadsBody}
use Rattle.yp_map_file.specs.inside.Loads.{fault_in, FitsIn, Judges, JudgesFile, LoadsBody, HasBody}
use Rattle.yp_map_file.proofs.Sits.{short_stands}
use Rattle.yp_map_file.proofs.Images.{room_facts}
use Rattle.yp_map_file.proofs.Places.{wrong_within}

big_stands : (f : List ℕ) → file_max < length f → stands f ≡ Damaged file_max 1
unfolding stands
big_stands f lt = let big : ltb file_max (length f) ≡ true = grind (arith, nat_tests) in rw big refl

pub judge_big : (history : Option History) (n : ℕ) → HasLength n history → file_max < n
    → IfSome history (λ h. JudgesFile h.state.reads (Err (fault.Damaged file_max 1)))
judge_big None n len lt = tt
judge_big (Some h) n len lt = big_stands h.state.reads (omega arith)

short_known : (f : List ℕ) → length f < 64
    → IsKnown (record { long = false; target = First; gate_open = false; winner = None }) f
unfolding target winning laid is_open
short_known f lt =
    let short : ltb (length f) 64 ≡ true = grind (arith, nat_tests) in
    record {
      sound = subst IsSound (sym (short_stands f lt)) tt;
      long = grind (arith, nat_tests);
      cell = rw short refl;
      gate = rw short refl;
      entry = rw short refl;
    }

pub judge_short : (history : Option History) (n : ℕ) → HasLength n history → n < 64
    → IfSome history (λ h. JudgesFile h.state.reads
    (Ok (record { long = false; target = First; gate_open = false; winner = None })))
judge_short None n len lt = tt
judge_short (Some h) n len lt =
    let below : length h.state.reads < 64 = omega arith in
    (short_stands h.state.reads below, λ sound. short_known h.state.reads below)

judges_file : (file : List ℕ) (r : Result Known SlotFault) → Judges file r → JudgesFile file r
judges_file file (Ok known) j = j
judges_file file (Err (fault.Damaged at rule)) j = j
judges_file file (Err fault.DiskFault) j = tt
judges_file file (Err fault.NoMemory) j = tt

pub judge_told : (history : Option History) (n : ℕ) (cells : List ℕ) (r : Result Known SlotFault) → HasLength n history
    → length cells ≡ 64 → ReadsAt 0 cells history
    → ((file : List ℕ) → take 64 file ≡ cells → length file ≡ n → Judges file r)
    → IfSome history (λ h. JudgesFile h.state.reads r)
judge_told None n cells r len size reads judge = tt
judge_told (Some h) n cells r len size reads judge =
    let f = h.state.reads in
    let front : cells ≡ slice_range f 0 64 = reads ∙ ap (λ (k : ℕ). slice_range f 0 (0 + k)) size in
    judges_file f r (judge f (sym front) (sym len))

body_told : (history : Option History) (n : ℕ) (e : Entry) → HasLength n history → n ≤ file_max → has_room e n ≡ true
    → HasBody e history
body_told None n e len small room =
    let r = room_facts e n room in
    let file = r.file in
    record { lies = record { behind = r.behind; body = r.body; file = omega arith }; within = tt }
body_told (Some h) n e len small room =
    let r = room_facts e n room in
    let file = r.file in
    record { lies = record { behind = r.behind; body = r.body; file = omega arith }; within = omega arith }

some_body : (history : Option History) (n : ℕ) (w : Option Entry) → HasLength n history → n ≤ file_max
    → IfSome w (λ e. IsTrue (has_room e n)) → IfSome w (λ e. HasBody e history)
some_body history n None len small room = tt
some_body history n (Some e) len small room = body_told history n e len small room

pub judge_body : (history : Option History) (n : ℕ) (r : Result Known SlotFault) → HasLength n history → n ≤ file_max
    → IfOk r (λ known. IfSome known.winner (λ e. IsTrue (has_room e n)))
    → IfOk r (λ known. IfSome known.winner (λ e. HasBody e history))
judge_body history n (Ok known) len small room = some_body history n known.winner len small room
judge_body history n (Err e) len small room = tt

-- ---- the body

pub wrong_fits : (place : ℕ) (body : List ℕ) (e : BodyFault) → place + length body < 2 ^ 64
    → ReadsBody (body_at body) (Err e) → FitsIn place e
wrong_fits place body (Wrong wrong) fits is = let le = wrong_within body wrong is in omega arith
wrong_fits place body NoMemory fits is = tt

-- the bytes that a read gave
part : (at n : ℕ) (body f : List ℕ) → length body ≡ n → body ≡ slice_range f at (at + length body)
    → body ≡ bytes_at at n f
unfolding bytes_at
part at n body f len reads =
    let k : at + length body - at ≡ n = omega arith in
    reads ∙ ap (λ (m : ℕ). take m (drop at f)) k

-- what a version that was read says of the file
pub load_version : (history : Option History) (e : Entry) (body : List ℕ) (version : MapVersion) → length body ≡ e.len
    → ReadsAt e.place body history → body_at body ≡ Ok version
    → IfSome history (λ h. LoadsBody (standing (Some e) h.state.reads) (Ok version))
load_version None e body version len reads is = tt
load_version (Some h) e body version len reads is =
    ap (λ (b : List ℕ). by_body e.place (body_at b)) (sym (part e.place e.len body h.state.reads len reads))
    ∙ ap (by_body e.place) is

pub load_wrong : (history : Option History) (e : Entry) (body : List ℕ) (x : BodyFault) → length body ≡ e.len
    → ReadsAt e.place body history → ReadsBody (body_at body) (Err x)
    → IfSome history (λ h. LoadsBody (standing (Some e) h.state.reads) (Err (fault_in e.place x)))
load_wrong None e body x len reads is = tt
load_wrong (Some h) e body (Wrong wrong) len reads is =
    ap (λ (b : List ℕ). by_body e.place (body_at b)) (sym (part e.place e.len body h.state.reads len reads))
    ∙ ap (by_body e.place) is
load_wrong (Some h) e body NoMemory len reads is = tt
