-- What is told of a body while it is surveyed.
use Rattle.std.proofs.Common.{◌≡◌, ℕ, ◌+◌, ◌-◌, ◌<◌, ◌≤◌, min, Bool, true, false, eqb, List, [], ◌++◌, length, take, drop}
use Rattle.std.proofs.Common.{Option, Some, None, Ok, Err, refl, sym, ap, subst, ◌∙◌, arith, inl, inr}
use Rattle.std.specs.Prelude.{IfSome}
use Rattle.std.proofs.lemmas.Bool.{cases_lt}
use Rattle.std.proofs.lemmas.Bool.Decides.{nat_tests}
use Rattle.std.proofs.lemmas.List.{length-take, length-drop, take-take, take-append-drop, drop-append-le, drop-drop}
use Rattle.std.proofs.lemmas.List.{drop-take, nil_from_length}
use Rattle.yp_io.specs.Disk.{History, ReadsAt}
use Rattle.yp_xdr.specs.Reading.{Remaining}
use Rattle.yp_version.specs.Rows.{Row}
use Rattle.yp_version.specs.Versions.{MapVersion}
use Rattle.yp_map_file.specs.declared.cells.Entry.{Entry}
use Rattle.yp_map_file.specs.declared.fault.SlotFault.{SlotFault}
use Rattle.yp_map_file.specs.declared.fault.SlotFault.TheVariants as fault
use Rattle.yp_map_file.specs.declared.survey.Progress.{Progress}
use Rattle.yp_map_file.specs.declared.survey.Summary.{Summary}
use Rattle.yp_map_file.specs.declared.wrong.Wrong.{Wrong}
use Rattle.yp_map_file.specs.Bodies.{◌>>=◌, guard, BodyHead, head_at, rows_at, body_at}
use Rattle.yp_map_file.specs.Cells.{bytes_at}
use Rattle.yp_map_file.specs.Stands.{by_body, Damaged}
use Rattle.yp_map_file.specs.inside.Stands.{standing}
use Rattle.yp_map_file.specs.inside.Loads.{HasBody}
use Rattle.yp_map_file.specs.inside.Surveys.{row_max, has_row, body_of, rest_of, behind, MayFollow, ReadsOn, FindsFault, front_of}
use Rattle.yp_map_file.specs.inside.Surveys.{FindsFront, last_of, StepsOn, FindsEnd, SurveysBody}
use Rattle.yp_map_file.proofs.Local.{Enough}
use Rattle.yp_map_file.proofs.Places.{Within, head_within}
use Rattle.yp_map_file.proofs.Windows.{head_ahead, head_refused, reads_none, reads_then, reads_then_wrong, reads_all}

-- ---- a window of a body

pub look_told : (history : Option History) (e : Entry) (at n : ℕ) (piece : List ℕ) → length piece ≡ n → at + n ≤ e.len
    → ReadsAt (e.place + at) piece history
    → IfSome history (λ h. piece ≡ take n (drop at (body_of e h.state.reads)))
unfolding bytes_at
look_told None e at n piece len fits reads = tt
look_told (Some h) e at n piece len fits reads =
    let f = h.state.reads in
    let k : e.place + at + length piece - (e.place + at) ≡ n = omega arith in
    let whole : e.len ≡ at + (e.len - at) = omega arith in
    let few : n ≤ e.len - at = omega arith in
    reads ∙ ap (λ (m : ℕ). take m (drop (e.place + at) f)) k
    ∙ sym (ap (λ (l : ℕ). take n (drop at (take l (drop e.place f)))) whole
    ∙ ap (take n) (drop-take at (e.len - at) (drop e.place f))
    ∙ take-take n (e.len - at) (drop at (drop e.place f)) few
    ∙ ap (take n) (drop-drop at e.place f))

length_body : (e : Entry) (file : List ℕ) → length (body_of e file) ≤ e.len
unfolding bytes_at
length_body e file = omega (arith, length-take e.len (drop e.place file))

whole_body : (e : Entry) (file : List ℕ) → e.place + e.len ≤ length file → length (body_of e file) ≡ e.len
unfolding bytes_at
whole_body e file fits = omega (arith, length-take e.len (drop e.place file), length-drop e.place file)

-- nothing follows the last window
more_may : (e : Entry) (file : List ℕ) (at n : ℕ) (is_last : Bool) → (is_last ≡ true → n ≡ e.len - at)
    → MayFollow is_last (drop (at + n) (body_of e file))
more_may e file at n is_last ends last =
    let all = ends last in
    nil_from_length (drop (at + n) (body_of e file))
    (omega (arith, length-drop (at + n) (body_of e file), length_body e file))

-- a window and what follows it are what is left of the body
window_is : (body window : List ℕ) (at n k : ℕ) → window ≡ take n (drop at body) → k ≤ length window
    → behind at window (drop (at + n) body) k ≡ rest_of body (at + k)
window_is body window at n k is within =
    let more = drop (at + n) body in
    let joined : window ++ more ≡ drop at body =
    ap (λ (l : List ℕ). l ++ more) is ∙ ap (λ (l : List ℕ). take n (drop at body) ++ l) (sym (drop-drop n at body))
    ∙ take-append-drop n (drop at body) in
    ap (λ (l : List ℕ). record { at = at + k; bytes = l })
    (sym (drop-append-le k window more within) ∙ ap (drop k) joined ∙ drop-drop k at body)

window_start : (body window : List ℕ) (at n : ℕ) → window ≡ take n (drop at body)
    → behind at window (drop (at + n) body) 0 ≡ rest_of body at
window_start body window at n is =
    window_is body window at n 0 is (omega arith)
    ∙ ap (rest_of body) (let e : at + 0 ≡ at = omega arith in e)

has_row_long : (is_last : Bool) (len : ℕ) → row_max ≤ len → has_row is_last len ≡ true
has_row_long true len long = refl
has_row_long false len long = grind (arith, nat_tests)

-- a window that isn't the last has room for a row
pub window_has_row : (n rest len : ℕ) → n ≡ min rest 1048576 → len ≡ n → has_row (eqb n rest) len ≡ true
window_has_row n rest len count same = elim (cases_lt rest 1048576) [
  | inl lt ↦ let all : eqb n rest ≡ true = let e : n ≡ rest = omega arith in grind (arith, nat_tests) in rw all refl
  | inr le ↦ has_row_long (eqb n rest) len (let long : row_max ≤ len = omega arith in long)
]

-- ---- a step

last_ends : (n rest : ℕ) → eqb n rest ≡ true → n ≡ rest
last_ends n rest is = grind (arith, nat_tests)

step_in : (e : Entry) (file window : List ℕ) (old new : Progress) (n rows k : ℕ) (is_last : Bool)
    (last : Option (List ℕ)) → window ≡ take n (drop old.at (body_of e file)) → (is_last ≡ true → n ≡ e.len - old.at)
    → ((n : ℕ) (more : List ℕ) → MayFollow is_last more
    → ReadsOn old.left (last_of old) (behind n window more 0) (old.left - rows) last (behind n window more k))
    → k ≤ length window → new.at ≡ old.at + k → new.left ≡ old.left - rows → last_of new ≡ last
    → StepsOn e.place (body_of e file) old (Ok new)
step_in e file window old new n rows k is_last last is ends reads within at left key =
    let body = body_of e file in
    let more = drop (old.at + n) body in
    let r = reads old.at more (more_may e file old.at n is_last ends) in
    let from = window_start body window old.at n is in
    let to = window_is body window old.at n k is within ∙ ap (rest_of body) (sym at) in
    subst (λ (u : Remaining). ReadsOn old.left (last_of old) u new.left (last_of new) (rest_of body new.at)) from
    (subst (λ (u : Remaining). ReadsOn old.left (last_of old) (behind old.at window more 0) new.left (last_of new) u) to
    (subst (λ (l : Option (List ℕ)). ReadsOn old.left (last_of old) (behind old.at window more 0) new.left l
    (behind old.at window more k)) (sym key)
    (subst (λ (m : ℕ). ReadsOn old.left (last_of old) (behind old.at window more 0) m last (behind old.at window more k))
    (sym left) r)))

pub step_told : (history : Option History) (e : Entry) (window : List ℕ) (old new : Progress) (n rows k : ℕ)
    (last : Option (List ℕ))
    → IfSome history (λ h. window ≡ take n (drop old.at (body_of e h.state.reads)))
    → ((m : ℕ) (more : List ℕ) → MayFollow (eqb n (e.len - old.at)) more
    → ReadsOn old.left (last_of old) (behind m window more 0) (old.left - rows) last (behind m window more k))
    → k ≤ length window → new.at ≡ old.at + k → new.left ≡ old.left - rows → last_of new ≡ last
    → IfSome history (λ h. StepsOn e.place (body_of e h.state.reads) old (Ok new))
step_told None e window old new n rows k last is reads within at left key = tt
step_told (Some h) e window old new n rows k last is reads within at left key =
    step_in e h.state.reads window old new n rows k (eqb n (e.len - old.at)) last is (last_ends n (e.len - old.at)) reads
    within at left key

pub step_wrong : (history : Option History) (e : Entry) (window : List ℕ) (old : Progress) (n : ℕ) (wrong : Wrong)
    → IfSome history (λ h. window ≡ take n (drop old.at (body_of e h.state.reads)))
    → ((m : ℕ) (more : List ℕ) → MayFollow (eqb n (e.len - old.at)) more
    → rows_at old.left (last_of old) (behind m window more 0) ≡ Err (record { at = m + wrong.at; rule = wrong.rule }))
    → IfSome history (λ h. StepsOn e.place (body_of e h.state.reads) old
    (Err (fault.Damaged (e.place + (old.at + wrong.at)) wrong.rule)))
step_wrong None e window old n wrong is reads = tt
step_wrong (Some h) e window old n wrong is reads =
    let body = body_of e h.state.reads in (
      record { at = old.at + wrong.at; rule = wrong.rule },
      ap (rows_at old.left (last_of old)) (sym (window_start body window old.at n is))
          ∙ reads old.at (drop (old.at + n) body)
          (more_may e h.state.reads old.at n (eqb n (e.len - old.at)) (last_ends n (e.len - old.at))),
      refl,
      refl,
    )

-- ---- all rows

-- the rows of a body were read up to here
abbrev pub HasGoneOn : List ℕ → ℕ → ℕ → Progress → Type 0
HasGoneOn body count start now =
    ReadsOn count None (rest_of body start) now.left (last_of now) (rest_of body now.at)

pub gone_none : (history : Option History) (e : Entry) (count start : ℕ)
    → IfSome history (λ h. HasGoneOn (body_of e h.state.reads) count start
    (record { at = start; left = count; last = None }))
gone_none None e count start = tt
gone_none (Some h) e count start = reads_none count None (rest_of (body_of e h.state.reads) start)

pub gone_then : (history : Option History) (e : Entry) (count start : ℕ) (old new : Progress)
    → IfSome history (λ h. HasGoneOn (body_of e h.state.reads) count start old)
    → IfSome history (λ h. StepsOn e.place (body_of e h.state.reads) old (Ok new))
    → IfSome history (λ h. HasGoneOn (body_of e h.state.reads) count start new)
gone_then None e count start old new gone step = tt
gone_then (Some h) e count start old new gone step = let body = body_of e h.state.reads in
    reads_then count None (rest_of body start) old.left (last_of old) (rest_of body old.at) new.left (last_of new)
    (rest_of body new.at) gone step

fault_earlier : (place : ℕ) (body : List ℕ) (count start : ℕ) (old : Progress) (e : SlotFault)
    → HasGoneOn body count start old → FindsFault place (rows_at old.left (last_of old) (rest_of body old.at)) e
    → FindsFault place (rows_at count None (rest_of body start)) e
fault_earlier place body count start old (fault.Damaged at rule) gone found = (
  found.0,
  reads_then_wrong count None (rest_of body start) old.left (last_of old) (rest_of body old.at) found.0 gone found.1,
  found.2,
  found.3,
)
fault_earlier place body count start old fault.DiskFault gone found = tt
fault_earlier place body count start old fault.NoMemory gone found = tt

pub gone_wrong : (history : Option History) (e : Entry) (count start : ℕ) (old : Progress) (f : SlotFault)
    → IfSome history (λ h. HasGoneOn (body_of e h.state.reads) count start old)
    → IfSome history (λ h. StepsOn e.place (body_of e h.state.reads) old (Err f))
    → IfSome history (λ h. FindsEnd e.place (body_of e h.state.reads) count start (Err f))
gone_wrong None e count start old f gone step = tt
gone_wrong (Some h) e count start old f gone step =
    fault_earlier e.place (body_of e h.state.reads) count start old f gone step

pub gone_all : (history : Option History) (e : Entry) (count start : ℕ) (now : Progress) → now.left ≡ 0
    → IfSome history (λ h. HasGoneOn (body_of e h.state.reads) count start now)
    → IfSome history (λ h. FindsEnd e.place (body_of e h.state.reads) count start (Ok now.at))
gone_all None e count start now none gone = tt
gone_all (Some h) e count start now none gone =
    let body = body_of e h.state.reads in
    reads_all count None (rest_of body start) (last_of now) (rest_of body now.at)
    (subst (λ (n : ℕ). ReadsOn count None (rest_of body start) n (last_of now) (rest_of body now.at)) none gone)

-- ---- what stands before the rows

-- the window has all of it, or nothing follows
front_room : (e : Entry) (file window : List ℕ) (n : ℕ) → n ≡ min e.len 80 → length window ≡ n
    → Enough 80 (rest_of window 0) (drop (0 + n) (body_of e file))
front_room e file window n count len = elim (cases_lt e.len 80) [
  | inl lt ↦ inr (nil_from_length (drop (0 + n) (body_of e file))
      (omega (arith, length-drop (0 + n) (body_of e file), length_body e file)))
  | inr le ↦ inl (omega arith)
]

pub front_told : (history : Option History) (e : Entry) (window : List ℕ) (n : ℕ) (summary : Summary) (rest : Remaining)
    → IfSome history (λ h. window ≡ take n (drop 0 (body_of e h.state.reads))) → n ≡ min e.len 80 → length window ≡ n
    → head_at (rest_of window 0) ≡ Ok (front_of summary, rest)
    → IfSome history (λ h. FindsFront e.place (body_of e h.state.reads) (Ok (summary, rest.at)))
front_told None e window n summary rest is count len found = tt
front_told (Some h) e window n summary rest is count len found =
    let body = body_of e h.state.reads in
    let t = head_ahead window (drop (0 + n) body) (front_of summary) rest
    (front_room e h.state.reads window n count len) found in
    ap head_at (sym (window_start body window 0 n is)) ∙ t.0
    ∙ ap (λ (u : Remaining). Ok (front_of summary, u)) (window_is body window 0 n rest.at is t.1
    ∙ ap (rest_of body) (let e : 0 + rest.at ≡ rest.at = omega arith in e))

pub front_wrong : (history : Option History) (e : Entry) (window : List ℕ) (n : ℕ) (wrong : Wrong)
    → IfSome history (λ h. window ≡ take n (drop 0 (body_of e h.state.reads))) → n ≡ min e.len 80 → length window ≡ n
    → head_at (rest_of window 0) ≡ Err wrong
    → IfSome history (λ h. FindsFront e.place (body_of e h.state.reads)
    (Err (fault.Damaged (e.place + (0 + wrong.at)) wrong.rule)))
front_wrong None e window n wrong is count len found = tt
front_wrong (Some h) e window n wrong is count len found =
    let body = body_of e h.state.reads in (
      record { at = 0 + wrong.at; rule = wrong.rule },
      ap head_at (sym (window_start body window 0 n is))
          ∙ head_refused window (drop (0 + n) body) wrong (front_room e h.state.reads window n count len) found,
      refl,
      refl,
    )

pub front_within : (window : List ℕ) (head : BodyHead) (rest : Remaining) → head_at (rest_of window 0) ≡ Ok (head, rest)
    → rest.at ≤ length window
front_within window head rest is = (head_ahead window [] head rest (inr refl) is).1

pub front_wrong_within : (window : List ℕ) (wrong : Wrong) → head_at (rest_of window 0) ≡ Err wrong
    → wrong.at ≤ length window
front_wrong_within window wrong is =
    subst (Within (length window)) is (head_within (length window) (rest_of window 0) (omega arith))

-- ---- a body

body_step : (body : List ℕ) (head : BodyHead) (mid : Remaining) (rows : List Row) (rest : Remaining)
    → head_at (rest_of body 0) ≡ Ok (head, mid) → rows_at head.count None mid ≡ Ok (rows, rest)
    → body_at body ≡ (guard (eqb (length rest.bytes) 0) rest.at 9 >>= λ ended.
    Ok (record { order = head.order; master = head.master; secure = head.secure; rows = rows }))
unfolding body_at
body_step body head mid rows rest one two = rw (one, two) refl

head_step : (body : List ℕ) (wrong : Wrong) → head_at (rest_of body 0) ≡ Err wrong → body_at body ≡ Err wrong
unfolding body_at
head_step body wrong one = rw one refl

rows_step : (body : List ℕ) (head : BodyHead) (mid : Remaining) (wrong : Wrong)
    → head_at (rest_of body 0) ≡ Ok (head, mid) → rows_at head.count None mid ≡ Err wrong → body_at body ≡ Err wrong
unfolding body_at
rows_step body head mid wrong one two = rw (one, two) refl

ended_step : {A : Type 0} (b : Bool) (at : ℕ) (value : A) → b ≡ true → (guard b at 9 >>= λ ended. Ok value) ≡ Ok value
ended_step b at value is = rw is refl

not_ended_step : {A : Type 0} (b : Bool) (at : ℕ) (value : A) → b ≡ false
    → (guard b at 9 >>= λ ended. Ok value) ≡ Err (record { at = at; rule = 9 })
not_ended_step b at value is = rw is refl

-- what is wrong in a body is what its file stands for
wrong_stands : (e : Entry) (file : List ℕ) (wrong : Wrong) (at rule : ℕ) → body_at (body_of e file) ≡ Err wrong
    → at ≡ e.place + wrong.at → rule ≡ wrong.rule → standing (Some e) file ≡ Damaged at rule
wrong_stands e file wrong at rule is place by =
    ap (by_body e.place) is ∙ (λ i. Damaged (sym place i) (sym by i))

front_fault : (e : Entry) (file : List ℕ) (f : SlotFault)
    → FindsFault e.place (head_at (rest_of (body_of e file) 0)) f → SurveysBody (standing (Some e) file) (Err f)
front_fault e file (fault.Damaged at rule) found =
    wrong_stands e file found.0 at rule (head_step (body_of e file) found.0 found.1) found.2 found.3
front_fault e file fault.DiskFault found = tt
front_fault e file fault.NoMemory found = tt

rows_fault : (e : Entry) (file : List ℕ) (summary : Summary) (start : ℕ) (f : SlotFault)
    → head_at (rest_of (body_of e file) 0) ≡ Ok (front_of summary, rest_of (body_of e file) start)
    → FindsFault e.place (rows_at summary.rows None (rest_of (body_of e file) start)) f
    → SurveysBody (standing (Some e) file) (Err f)
rows_fault e file summary start (fault.Damaged at rule) head found =
    wrong_stands e file found.0 at rule
    (rows_step (body_of e file) (front_of summary) (rest_of (body_of e file) start) found.0 head found.1) found.2 found.3
rows_fault e file summary start fault.DiskFault head found = tt
rows_fault e file summary start fault.NoMemory head found = tt

pub survey_front_fault : (history : Option History) (e : Entry) (f : SlotFault)
    → IfSome history (λ h. FindsFront e.place (body_of e h.state.reads) (Err f))
    → IfSome history (λ h. SurveysBody (standing (Some e) h.state.reads) (Err f))
survey_front_fault None e f found = tt
survey_front_fault (Some h) e f found = front_fault e h.state.reads f found

pub survey_rows_fault : (history : Option History) (e : Entry) (summary : Summary) (start : ℕ) (f : SlotFault)
    → IfSome history (λ h. FindsFront e.place (body_of e h.state.reads) (Ok (summary, start)))
    → IfSome history (λ h. FindsEnd e.place (body_of e h.state.reads) summary.rows start (Err f))
    → IfSome history (λ h. SurveysBody (standing (Some e) h.state.reads) (Err f))
survey_rows_fault None e summary start f head found = tt
survey_rows_fault (Some h) e summary start f head found = rows_fault e h.state.reads summary start f head found

pub survey_more : (history : Option History) (e : Entry) (summary : Summary) (start end at : ℕ) → HasBody e history
    → IfSome history (λ h. FindsFront e.place (body_of e h.state.reads) (Ok (summary, start)))
    → IfSome history (λ h. FindsEnd e.place (body_of e h.state.reads) summary.rows start (Ok end)) → end < e.len
    → at ≡ e.place + end
    → IfSome history (λ h. SurveysBody (standing (Some e) h.state.reads) (Err (fault.Damaged at 9)))
survey_more None e summary start end at has head found lt place = tt
survey_more (Some h) e summary start end at has head found lt place =
    let body = body_of e h.state.reads in
    let size = whole_body e h.state.reads has.within in
    let some : eqb (length (drop end body)) 0 ≡ false =
    let n : length (drop end body) ≡ e.len - end = omega (arith, length-drop end body, size) in
    let more : 0 < e.len - end = omega arith in grind (arith, nat_tests) in
    wrong_stands e h.state.reads (record { at = end; rule = 9 }) at 9
    (body_step body (front_of summary) (rest_of body start) found.0 (rest_of body end) head found.1
    ∙ not_ended_step _ end _ some) place refl

pub survey_whole : (history : Option History) (e : Entry) (summary : Summary) (start end : ℕ)
    → IfSome history (λ h. FindsFront e.place (body_of e h.state.reads) (Ok (summary, start)))
    → IfSome history (λ h. FindsEnd e.place (body_of e h.state.reads) summary.rows start (Ok end)) → e.len ≤ end
    → IfSome history (λ h. SurveysBody (standing (Some e) h.state.reads) (Ok summary))
survey_whole None e summary start end head found le = tt
survey_whole (Some h) e summary start end head found le =
    let body = body_of e h.state.reads in
    let none : eqb (length (drop end body)) 0 ≡ true =
    let n : length (drop end body) ≡ 0 = omega (arith, length-drop end body, length_body e h.state.reads) in
    grind (arith, nat_tests) in
    let version : MapVersion = record {
      order = summary.order;
      master = summary.master.items;
      secure = summary.secure;
      rows = found.0;
    } in (
      version,
      ap (by_body e.place)
          (body_step body (front_of summary) (rest_of body start) found.0 (rest_of body end) head found.1
          ∙ ended_step _ end version none),
      record { order = refl; master = refl; secure = refl; rows = sym found.2 },
    )
