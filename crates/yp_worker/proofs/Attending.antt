-- What a worker has done with its guests, from one event to the next.
use Rattle.std.proofs.Common.{◌≡◌, ◌≢◌, ◌⊎◌, inl, inr, ℕ, ◌+◌, ◌<◌, ◌≤◌, ◌==◌, Bool, true, false, List, [], ◌∷◌, ◌++◌, length, map, Option, None, Some, IfSome, option_map, Result, Ok, Err, is_err, is_some, cond, count_by, get_or, refl, sym, ap, subst, ◌∙◌, append_assoc, arith}
use Rattle.std.specs.Prelude.{IsSome, slice_index_or, ⊤}
use Rattle.std.specs.List.{All}
use Rattle.std.proofs.lemmas.Bool.{cases_eq, cases_lt, ne_eqb}
use Rattle.std.proofs.lemmas.List.{append-nil, length_push, map-append, get_or_past}
use Rattle.std.proofs.lemmas.List.Elements.{All-nil, All-cons, All-head, All-tail, All-push, All-append, All-map, All-weaker, All-contains, Contains-append_left, Contains-append_right, Contains-push}
use Rattle.std.proofs.lemmas.List.Sums.{fold-append, get_or-le-sum_by, sum_by-set}
use Rattle.slab.specs.Slab.{Slab, get, slab_len, with_value, Updates}
use Rattle.slab.proofs.SlabLemmas.{ContainsKey-within, Updates-with_value}
use Rattle.yp_io.specs.Counts.{capped, next_count, faults_after}
use Rattle.std.specs.Io.KnownBytes.{Appends, Consumes, append_known}
use Rattle.yp_io.specs.Calls.{ListenerHistory, ClosedConnection, closed_then}
use Rattle.yp_io.specs.Hall.{try_halves_of}
use Rattle.yp_io.specs.declared.called.Called.{Called}
use Rattle.yp_io.specs.declared.stream.Peer.{Peer}
use Rattle.yp_io.specs.declared.ready.TrySource as try_source
use Rattle.yp_io.specs.declared.ready.TrySink as try_sink
use Rattle.yp_board.specs.Catalogues.{Catalogue}
use Rattle.yp_board.specs.Logs.{Log}
use Rattle.yp_board.specs.Views.{Seen, IsFront}
use Rattle.yp_answer.specs.Transfer.{Taken}
use Rattle.yp_answer.specs.session.Hosts.{Conduct}
use Rattle.yp_answer.specs.session.Progress.{begun}
use Rattle.yp_answer.specs.session.Wires.{Wire}
use Rattle.yp_answer.specs.declared.session.conversation.Advance.{Advance}
use Rattle.yp_answer.specs.declared.session.conversation.Advance.TheVariants.{Ended, NoMemory}
use Rattle.yp_answer.specs.declared.session.session.End.{End}
use Rattle.yp_answer.specs.session.Cuts.{Deed, Cut, IsCut}
use Rattle.yp_answer.specs.inside.session.Cuts.{Talk, SeesOn, ComesTo, cut_of, told_by}
use Rattle.yp_answer.specs.inside.session.Errands.{IsDue}
use Rattle.yp_worker.specs.Working.{Working, WorkerStep, Learned, TookOver, Did, IsOwnStep, IsDoneWith, deeds_of, IsTold, TakesStep, TakesSteps}
use Rattle.yp_worker.specs.Receptions.{Terms, IsUnder}
use Rattle.yp_worker.specs.Summing.{Counting, ServedConnection, LeftConnection, ends_of, let_go_of, ended_at, IsOver, HadBefore, WasServed, WasHandedOn, numbers_of, AreApart, IsStepOf}
use Rattle.yp_worker.specs.inside.GuestStates.{GuestState, WaitingGuest}
use Rattle.yp_worker.specs.inside.Guests.{came_with, came_as, IsGuest, Serving, Comes, came_to, closed_door, number_at, let_go_where, IsOwned, IsSeated, HasServed, IsToSeat, IsWaiting, WorksOn, ChangesAt}
use Rattle.yp_worker.specs.inside.Receptions.{IsExpectedCall, Passed}
use Rattle.yp_worker.specs.inside.Summing.{HasEnded}
use Rattle.yp_worker.proofs.Guesting.{left_out, deeds_append, own_deeds, other_deeds}
use Rattle.yp_worker.proofs.Growing.{front_same, front_then}
use Rattle.yp_worker.proofs.Summing.{ends_more}

-- ---- what is there, or isn't

if_weaker : {X : Type 0} (P Q : X → Type 0) (o : Option X) → ((x : X) → o ≡ Some x → P x → Q x) → IfSome o P → IfSome o Q
if_weaker P Q None weaker h = tt
if_weaker P Q (Some x) weaker h = weaker x refl h

pub if_found : {X : Type 0} (P : X → Type 0) (o : Option X) (x : X) → o ≡ Some x → IfSome o P → P x
if_found {X = X} P o x is h = subst (λ (o : Option X). IfSome o P) is h

pub must_be : (b : Bool) → (b ≡ false → ⊥) → b ≡ true
must_be true never = refl
must_be false never = absurd (never refl)

pub if_there : {X : Type 0} (P : X → Type 0) (o : Option X) → ((x : X) → o ≡ Some x → P x) → IfSome o P
if_there P None h = tt
if_there P (Some x) h = h x refl

-- a slab with another value at one key
everywhere : {X : Type 0} (P Q : X → Type 0) (old new : Slab X) (key : ℕ) (slot : Option X) → Updates old new key slot
    → ((other : ℕ) (x : X) → other ≢ key → get old other ≡ Some x → P x → Q x) → IfSome slot Q
    → ((k : ℕ) → IfSome (get old k) P) → (k : ℕ) → IfSome (get new k) Q
everywhere {X = X} P Q old new key slot updates weaker here all k = elim (cases_eq k key) [
  | inl same ↦ subst (λ (n : ℕ). IfSome (get new n) Q) (sym same) (subst (λ (o : Option X). IfSome o Q) (sym updates.changed) here)
  | inr apart ↦ subst (λ (o : Option X). IfSome o Q) (sym (updates.others k apart))
      (if_weaker P Q (get old k) (λ x is h. weaker k x apart is h) (all k))
]

-- no value is in a slab of none
none_counted : {X : Type 0} (o : Option X) → cond (is_some o) 1 0 ≤ 0 → o ≡ None
none_counted None within = refl
none_counted (Some x) within = absurd (omega (arith, within))

nowhere : {X : Type 0} (slab : Slab X) (key : ℕ) → slab_len slab ≡ 0 → get slab key ≡ None
nowhere {X} slab key none = elim (cases_lt key (length slab.slots)) [
  | inl within ↦
      let one = get_or-le-sum_by (λ (o : Option X). cond (is_some o) 1 0) slab.slots key None within in
      none_counted (get slab key) (omega (arith, one, none))
  | inr past ↦ get_or_past slab.slots key None past
]

pub some_there : {X : Type 0} (slab : Slab X) (key : ℕ) (x : X) → get slab key ≡ Some x → 0 < slab_len slab
some_there slab key x there = elim (cases_eq (slab_len slab) 0) [
  | inl none ↦ absurd (let e : None ≡ Some x = sym (nowhere slab key none) ∙ there in cc)
  | inr some ↦ omega (arith, some)
]

pub none_in : {X : Type 0} (slab : Slab X) → slab.slots ≡ [] → slab_len slab ≡ 0
none_in slab empty = ap (λ slots. count_by is_some slots) empty

-- ---- whether a call failed

pub counts_failure : {T E : Type 0} (before after : ℕ) (result : Result T E) → true ≡ is_err result → after ≡ faults_after before result
    → next_count before ≤ after
counts_failure before after (Ok value) failed counts = absurd cc
counts_failure before after (Err why) failed counts = omega (arith, counts)

pub counts_none : {T E : Type 0} (before after : ℕ) (result : Result T E) → false ≡ is_err result → after ≡ faults_after before result
    → after ≡ before
counts_none before after (Ok value) done counts = counts
counts_none before after (Err why) done counts = absurd cc

-- ---- deeds

quiet_deeds : (number : ℕ) (steps : List WorkerStep) (step : WorkerStep) → deeds_of number (step ∷ []) ≡ []
    → deeds_of number (steps ++ step ∷ []) ≡ deeds_of number steps
quiet_deeds number steps step none =
    deeds_append number steps (step ∷ []) ∙ ap (λ (l : List Deed). deeds_of number steps ++ l) none ∙ append-nil (deeds_of number steps)

-- a step of one of the numbers before the next
abbrev IsLow : ℕ → WorkerStep → Type 0
IsLow next (Did number peer deed) = number < next
IsLow next _ = ⊤

none_above : (number : ℕ) (steps : List WorkerStep) → All (IsLow number) steps → deeds_of number steps ≡ []
none_above number [] low = refl
none_above number (Learned ∷ steps) low = none_above number steps (All-tail (IsLow number) Learned steps low)
none_above number (TookOver one known ∷ steps) low = none_above number steps (All-tail (IsLow number) (TookOver one known) steps low)
none_above number (Did one peer deed ∷ steps) low =
    let here : one < number = All-head (IsLow number) (Did one peer deed) steps low in
    let apart : one ≢ number = λ same. absurd (omega (arith, here, same)) in
    left_out (one == number) (deed ∷ deeds_of number steps) (deeds_of number steps) (ne_eqb one number apart)
    ∙ none_above number steps (All-tail (IsLow number) (Did one peer deed) steps low)

-- ---- steps

step_then : {H T : Type 0} (conduct : Conduct H) (counted : H → T) (step : WorkerStep) (steps : List WorkerStep) (first old new : H)
    → TakesSteps conduct counted steps first old → TakesStep conduct counted step old new
    → TakesSteps conduct counted (steps ++ step ∷ []) first new
step_then {H} conduct counted step [] first old new taken does =
    (new, subst (λ (h : H). TakesStep conduct counted step h new) taken does, refl)
step_then conduct counted step (one ∷ steps) first old new taken does =
    (taken.0, taken.1, step_then conduct counted step steps taken.0 old new taken.2 does)

-- brief steps take nothing over
none_taken : {P : Type 0} (before behind : List WorkerStep) (number : ℕ) (known : Log) → All IsOwnStep (before ++ TookOver number known ∷ behind) → P
none_taken [] behind number known brief = absurd (All-head IsOwnStep (TookOver number known) behind brief)
none_taken (step ∷ before) behind number known brief =
    none_taken before behind number known (All-tail IsOwnStep step (before ++ TookOver number known ∷ behind) brief)

-- ---- numbers that are gone

all_insert : {X : Type 0} (P : X → Type 0) (xs ys : List X) (x : X) → All P (xs ++ ys) → P x → All P (xs ++ x ∷ ys)
all_insert P [] ys x all here = All-cons P x ys here all
all_insert P (y ∷ xs) ys x all here =
    All-cons P y (xs ++ x ∷ ys) (All-head P y (xs ++ ys) all) (all_insert P xs ys x (All-tail P y (xs ++ ys) all) here)

apart_insert : (xs ys : List ℕ) (number : ℕ) → AreApart (xs ++ ys) → All (λ other. other ≢ number) (xs ++ ys) → AreApart (xs ++ number ∷ ys)
apart_insert [] ys number apart new = (new, apart)
apart_insert (x ∷ xs) ys number apart new =
    let P : ℕ → Type 0 = λ other. other ≢ number in
    let Q : ℕ → Type 0 = λ other. other ≢ x in (
      all_insert Q xs ys number apart.0 (λ same. All-head P x (xs ++ ys) new (sym same)),
      apart_insert xs ys number apart.1 (All-tail P x (xs ++ ys) new),
    )

abbrev stay_numbers : List ServedConnection → List ℕ
stay_numbers stays = map (λ stay. stay.number) stays

abbrev left_numbers : List LeftConnection → List ℕ
left_numbers left = map (λ one. one.number) left

more_stays : (stays : List ServedConnection) (stay : ServedConnection) (left : List LeftConnection)
    → numbers_of (stays ++ stay ∷ []) left ≡ stay_numbers stays ++ stay.number ∷ left_numbers left
more_stays stays stay left =
    ap (λ (l : List ℕ). l ++ left_numbers left) (map-append (λ (s : ServedConnection). s.number) stays (stay ∷ []))
    ∙ append_assoc (stay_numbers stays) (stay.number ∷ []) (left_numbers left)

of_stays : (P : ℕ → Type 0) (stays : List ServedConnection) (left : List LeftConnection) → All P (numbers_of stays left) → All (λ stay. P stay.number) stays
of_stays P [] left all = All-nil (λ (stay : ServedConnection). P stay.number)
of_stays P (stay ∷ stays) left all =
    let rest = numbers_of stays left in
    All-cons (λ (stay : ServedConnection). P stay.number) stay stays (All-head P stay.number rest all) (of_stays P stays left (All-tail P stay.number rest all))

of_left : (P : ℕ → Type 0) (stays : List ServedConnection) (left : List LeftConnection) → All P (numbers_of stays left) → All (λ one. P one.number) left
of_left P [] [] all = All-nil (λ (one : LeftConnection). P one.number)
of_left P [] (one ∷ left) all =
    let rest = left_numbers left in
    All-cons (λ (one : LeftConnection). P one.number) one left (All-head P one.number rest all) (of_left P [] left (All-tail P one.number rest all))
of_left P (stay ∷ stays) left all = of_left P stays left (All-tail P stay.number (numbers_of stays left) all)

-- ---- a guest as it comes

consumes_none : (input : Option (List ℕ)) → Consumes input input []
consumes_none None = tt
consumes_none (Some bytes) = refl

appends_none : (output : Option (List ℕ)) → Appends output (append_known output []) []
appends_none None = tt
appends_none (Some bytes) = refl

begins : (wire : Wire) → IsCut wire [] (record {
  wire = wire;
  progress = begun;
  incoming = [];
  owed = [];
  rest = [];
  waiting = None;
  settled = true;
  broken = false;
})
begins wire = record {
  spelled = [];
  framed = refl;
  read = consumes_none wire.source.input;
  place = omega arith;
  calls = omega arith;
  put = [];
  lost = [];
  wrote = appends_none wire.sink.output;
  replied = refl;
  whole = λ sound. refl;
  settled = λ yes. (refl, refl, refl, inr (refl, refl));
  order = tt;
  waits = refl;
  faults = omega arith;
}

-- a conversation before its first record
abbrev pub fresh_talk : {S K : Type 0} → Called S K → Talk S K
fresh_talk call = record {
  source = call.wire.source;
  sink = call.wire.sink;
  progress = begun;
  incoming = [];
  owed = [];
  stream = None;
  waiting = None;
  settled = true;
  broken = false;
}

pub new_guest : {S K : Type 0} (source : try_source.Ghosts S) (sink : try_sink.Ghosts K) (past : Option ListenerHistory) (call : Called S K)
    (guest : GuestState S K) → IsExpectedCall (try_halves_of source sink) past call → guest.origin ≡ call.origin → guest.talk ≡ fresh_talk call
    → IsGuest source sink past [] guest
new_guest source sink past call guest is origin talk = rw (origin, talk) (record {
  expected = is.expected;
  fresh = rw is.fresh.as_it_came is.fresh.fresh;
  cut = rw is.fresh.as_it_came (begins (told_by source sink call.wire.source call.wire.sink));
})

-- ---- whose deeds they are

owned_on : {S K : Type 0} (old new : Slab (GuestState S K)) (stays : List ServedConnection) (left : List LeftConnection)
    → ((key : ℕ) (guest : GuestState S K) → get old key ≡ Some guest
    → (now : GuestState S K) × (get new key ≡ Some now) × (now.number ≡ guest.number) × (now.origin.peer ≡ guest.origin.peer))
    → (step : WorkerStep) → IsOwned old stays left step → IsOwned new stays left step
owned_on old new stays left there Learned is = tt
owned_on old new stays left there (TookOver number known) is = tt
owned_on old new stays left there (Did number peer deed) (inl of) =
    let now = there of.0 of.1 of.2 in inl (of.0, now.0, now.1, now.2 ∙ of.3, now.3 ∙ of.4)
owned_on old new stays left there (Did number peer deed) (inr of) = inr of

module _ {H T S K : Type 0} (source : try_source.Ghosts S) (sink : try_sink.Ghosts K) (conduct : Conduct H) (counting : Counting H T)
    (terms : Terms) (past : Option ListenerHistory) where
  abbrev Has : Serving S K → Working H → Type 0
  Has serving worker = HasServed source sink conduct counting terms past serving worker

  abbrev Seat : List WorkerStep → ℕ → GuestState S K → Type 0
  Seat steps next guest = IsSeated source sink conduct counting terms past steps next guest

  -- what was done before a conversation was begun with stays so, as steps are taken
  began_on : (peer : Peer) (number : ℕ) (earlier : List Deed) (steps more : List WorkerStep)
      → HadBefore conduct counting terms peer number earlier steps → HadBefore conduct counting terms peer number earlier (steps ++ more)
  began_on peer number earlier steps more (inl none) = inl none
  began_on peer number earlier steps more (inr over) = inr (record {
    known = over.known;
    left = over.left;
    before = over.before;
    behind = over.behind ++ more;
    steps_are = ap (λ (l : List WorkerStep). l ++ more) over.steps_are ∙ append_assoc over.before (TookOver number over.known ∷ over.behind) more;
    none_before = over.none_before;
  })

  stays_on : (steps more : List WorkerStep) (stay : ServedConnection) → deeds_of stay.number (steps ++ more) ≡ deeds_of stay.number steps
      → WasServed conduct counting terms past steps stay → WasServed conduct counting terms past (steps ++ more) stay
  stays_on steps more stay same was = record {
    before = was.before;
    earlier = was.earlier;
    cut = was.cut;
    expected = was.expected;
    whole = was.whole;
    untaken = was.untaken;
    fresh = was.fresh;
    began = began_on stay.ended.came.peer stay.number was.earlier steps more was.began;
    is_cut = let P : List Deed → Type 0 = λ deeds. IsCut was.before (was.earlier ++ deeds) was.cut in subst P (sym same) was.is_cut;
    over = was.over;
    ended = was.ended;
    calls = was.calls;
  }

  left_on : (steps more : List WorkerStep) (one : LeftConnection) → deeds_of one.number (steps ++ more) ≡ deeds_of one.number steps
      → WasHandedOn past steps one → WasHandedOn past (steps ++ more) one
  left_on steps more one same was = record {
    before = was.before;
    cut = was.cut;
    expected = was.expected;
    whole = was.whole;
    untaken = was.untaken;
    fresh = was.fresh;
    is_cut = let P : List Deed → Type 0 = λ deeds. IsCut was.before deeds was.cut in subst P (sym same) was.is_cut;
  }

  -- a guest that nothing is done for, while steps are taken and more come
  seat_on : (steps more : List WorkerStep) (next next' : ℕ) (guest : GuestState S K) → deeds_of guest.number (steps ++ more) ≡ deeds_of guest.number steps
      → next ≤ next' → Seat steps next guest → Seat (steps ++ more) next' guest
  seat_on steps more next next' guest same later seated = record {
    earlier = seated.earlier;
    began = began_on guest.origin.peer guest.number seated.earlier steps more seated.began;
    is =
        let P : List Deed → Type 0 = λ deeds. IsGuest source sink past (seated.earlier ++ deeds) guest in subst P (sym same) seated.is;
    low = omega (arith, seated.low, later);
    due = seated.due;
  }

  seat_later : (steps : List WorkerStep) (next next' : ℕ) (guest : GuestState S K) → next ≤ next' → Seat steps next guest → Seat steps next' guest
  seat_later steps next next' guest later seated = record {
    earlier = seated.earlier;
    began = seated.began;
    is = seated.is;
    low = omega (arith, seated.low, later);
    due = seated.due;
  }

  -- the number of a guest is one of those before the next
  number_low : (serving : Serving S K) (worker : Working H) (has : Has serving worker) (key number : ℕ)
      → number_at serving.guests key ≡ Some number → number < serving.next
  number_low serving worker has key number is = by_guest (get serving.guests key) (has.guests key) is
    where
      by_guest : (o : Option (GuestState S K)) → IfSome o (Seat has.steps serving.next) → option_map (λ guest. guest.number) o ≡ Some number
          → number < serving.next
      by_guest None seated named = absurd (let e : None ≡ Some number = named in cc)
      by_guest (Some guest) seated named =
          let same : guest.number ≡ number = cc in omega (arith, seated.low, same)

  -- each step is of such a number
  steps_low : (serving : Serving S K) (worker : Working H) (has : Has serving worker) → All (IsLow serving.next) has.steps
  steps_low serving worker has =
      All-weaker (IsOwned serving.guests has.stays has.left) (IsLow serving.next) low has.steps has.owned
    where
      low : (step : WorkerStep) → IsOwned serving.guests has.stays has.left step → IsLow serving.next step
      low Learned is = tt
      low (TookOver number known) is = tt
      low (Did number peer deed) (inl of) =
          number_low serving worker has of.0 number (ap (option_map (λ guest. guest.number)) of.2 ∙ ap (λ (n : ℕ). Some n) of.3)
      low (Did number peer deed) (inr (inl of)) =
          let here = All-contains (λ stay. stay.number < serving.next) has.stays of.0 (of_stays (λ n. n < serving.next) has.stays has.left has.low) of.1 in
          omega (arith, here, of.2)
      low (Did number peer deed) (inr (inr of)) =
          let here = All-contains (λ one. one.number < serving.next) has.left of.0 (of_left (λ n. n < serving.next) has.stays has.left has.low) of.1 in
          omega (arith, here, of.2)

  -- what was done in the conversation of a guest was done with its peer
  alone : (serving : Serving S K) (worker : Working H) (has : Has serving worker) (key : ℕ) (guest : GuestState S K)
      → get serving.guests key ≡ Some guest → All (IsDoneWith guest.number guest.origin.peer) has.steps
  alone serving worker has key guest there =
      All-weaker (IsOwned serving.guests has.stays has.left) (IsDoneWith guest.number guest.origin.peer) with_it has.steps has.owned
    where
      own : number_at serving.guests key ≡ Some guest.number
      own = ap (option_map (λ g. g.number)) there

      with_it : (step : WorkerStep) → IsOwned serving.guests has.stays has.left step → IsDoneWith guest.number guest.origin.peer step
      with_it Learned is = tt
      with_it (TookOver number known) is = tt
      with_it (Did number peer deed) (inl of) = λ same. elim (cases_eq of.0 key) [
        | inl first ↦
            let it : guest ≡ of.1 = let e : Some guest ≡ Some of.1 = sym there ∙ ap (get serving.guests) (sym first) ∙ of.2 in cc in
            sym of.4 ∙ ap (λ (x : GuestState S K). x.origin.peer) (sym it)
        | inr apart ↦ absurd (has.differ of.0 key guest.number apart
            (ap (option_map (λ (g : GuestState S K). g.number)) of.2 ∙ ap (λ (n : ℕ). Some n) (of.3 ∙ same)) own)
      ]
      with_it (Did number peer deed) (inr (inl of)) = λ same.
          absurd (All-contains (λ stay. stay.number ≢ guest.number) has.stays of.0
          (of_stays (λ n. n ≢ guest.number) has.stays has.left (has.gone key guest.number own)) of.1 (of.2 ∙ same))
      with_it (Did number peer deed) (inr (inr of)) = λ same.
          absurd (All-contains (λ one. one.number ≢ guest.number) has.left of.0
          (of_left (λ n. n ≢ guest.number) has.stays has.left (has.gone key guest.number own)) of.1 (of.2 ∙ same))

  -- before the first connection
  pub nobody : (serving : Serving S K) (worker : Working H) → IsUnder conduct terms worker → counting.counted worker.host ≡ counting.none
      → slab_len serving.guests ≡ 0 → serving.tally.connections ≡ 0 → serving.tally.calls ≡ 0 → serving.next ≡ 0
      → IfSome past (λ _. serving.closed ≡ Some []) → serving.closed_count ≡ 0
      → HasServed source sink conduct counting terms past serving worker
  nobody serving worker under none empty connections calls first told closed =
      let unnamed : (key number : ℕ) → number_at serving.guests key ≡ Some number → ⊥ =
      λ key number is. let e : None ≡ Some number = sym (ap (option_map (λ guest. guest.number)) (nowhere serving.guests key empty)) ∙ is in cc in
      record {
        first = worker;
        steps = [];
        stays = [];
        left = [];
        under = under;
        from_none = none;
        takes = refl;
        same = refl;
        own = λ no. All-nil IsOwnStep;
        guests = λ key. subst (λ (o : Option (GuestState S K)). IfSome o (Seat [] serving.next)) (sym (nowhere serving.guests key empty)) tt;
        differ = λ key other number apart is. absurd (unnamed key number is);
        served = All-nil (WasServed conduct counting terms past []);
        handed_on = All-nil (WasHandedOn past []);
        apart = tt;
        low = All-nil (λ number. number < serving.next);
        gone = λ key number is. absurd (unnamed key number is);
        owned = All-nil (IsOwned serving.guests [] []);
        fits = omega (arith, connections, empty);
        bound = omega (arith, first);
        connections_are = connections;
        calls_are = calls;
        told = told;
        closed_are = closed;
        let_go_are = omega arith;
      }

  -- a step was taken that is no deed
  abbrev tells : (serving : Serving S K) (old new : Working H) (step : WorkerStep) → ((number : ℕ) → deeds_of number (step ∷ []) ≡ [])
      → ((stays : List ServedConnection) (left : List LeftConnection) → IsOwned serving.guests stays left step)
      → (old.carries ≡ false → IsOwnStep step) → TakesStep conduct counting.counted step old.host new.host → new.carries ≡ old.carries
      → Has serving old → Has serving new
  tells serving old new step quiet owned brief does same has =
      let steps' = has.steps ++ step ∷ [] in record {
        first = has.first;
        steps = steps';
        stays = has.stays;
        left = has.left;
        under = has.under;
        from_none = has.from_none;
        takes = step_then conduct counting.counted step has.steps has.first.host old.host new.host has.takes does;
        same = has.same ∙ sym same;
        own = λ no. All-push IsOwnStep has.steps step (has.own no) (brief (sym has.same ∙ no));
        guests = λ key. if_weaker (Seat has.steps serving.next) (Seat steps' serving.next) (get serving.guests key)
            (λ guest is h. seat_on has.steps (step ∷ []) serving.next serving.next guest (quiet_deeds guest.number has.steps step (quiet guest.number)) (omega arith) h)
            (has.guests key);
        differ = has.differ;
        served = All-weaker (WasServed conduct counting terms past has.steps) (WasServed conduct counting terms past steps')
            (λ stay h. stays_on has.steps (step ∷ []) stay (quiet_deeds stay.number has.steps step (quiet stay.number)) h) has.stays has.served;
        handed_on = All-weaker (WasHandedOn past has.steps) (WasHandedOn past steps')
            (λ one h. left_on has.steps (step ∷ []) one (quiet_deeds one.number has.steps step (quiet one.number)) h) has.left has.handed_on;
        apart = has.apart;
        low = has.low;
        gone = has.gone;
        owned = All-push (IsOwned serving.guests has.stays has.left) has.steps step has.owned (owned has.stays has.left);
        fits = has.fits;
        bound = has.bound;
        connections_are = has.connections_are;
        calls_are = has.calls_are;
        told = has.told;
        closed_are = has.closed_are;
        let_go_are = has.let_go_are;
      }

  -- its host was told what others showed
  pub learns : (serving : Serving S K) (old new : Working H) → TakesStep conduct counting.counted Learned old.host new.host → new.carries ≡ old.carries
      → HasServed source sink conduct counting terms past serving old → HasServed source sink conduct counting terms past serving new
  learns serving old new does same has = tells serving old new Learned (λ number. refl) (λ stays left. tt) (λ no. tt) does same has

  -- more may be let go
  pub may_let_go : (serving : Serving S K) (worker : Working H) (is_let_go : Bool) (more : ℕ) → let_go_where is_let_go serving.let_go ≤ more
      → HasServed source sink conduct counting terms past serving worker
      → HasServed source sink conduct counting terms past (record serving { let_go = more }) worker
  may_let_go serving worker is_let_go more within has = record {
    first = has.first;
    steps = has.steps;
    stays = has.stays;
    left = has.left;
    under = has.under;
    from_none = has.from_none;
    takes = has.takes;
    same = has.same;
    own = has.own;
    guests = has.guests;
    differ = has.differ;
    served = has.served;
    handed_on = has.handed_on;
    apart = has.apart;
    low = has.low;
    gone = has.gone;
    owned = has.owned;
    fits = has.fits;
    bound = has.bound;
    connections_are = has.connections_are;
    calls_are = has.calls_are;
    told = has.told;
    closed_are = has.closed_are;
    let_go_are = still is_let_go has.let_go_are within;
  }
    where
      still : (b : Bool) → capped 0 (let_go_of has.stays) ≤ serving.let_go → let_go_where b serving.let_go ≤ more
          → capped 0 (let_go_of has.stays) ≤ more
      still true was enough = omega (arith, was, enough)
      still false was enough = omega (arith, was, enough)

  -- there is more room for guests
  pub has_more_room : (old new : Serving S K) (worker : Working H) → new.guests.slots ≡ old.guests.slots → new.tally.connections ≡ old.tally.connections
      → new.tally.calls ≡ old.tally.calls → new.next ≡ old.next → new.closed ≡ old.closed → new.closed_count ≡ old.closed_count → new.let_go ≡ old.let_go
      → HasServed source sink conduct counting terms past old worker → HasServed source sink conduct counting terms past new worker
  has_more_room old new worker slots connections calls next closed closed_count let_go has =
      let at : (key : ℕ) → get new.guests key ≡ get old.guests key = λ key. ap (λ (l : List (Option (GuestState S K))). slice_index_or l key None) slots in
      let named : (key : ℕ) → number_at new.guests key ≡ number_at old.guests key = λ key. ap (option_map (λ guest. guest.number)) (at key) in
      let as_many : came_to new.tally new.guests ≡ came_to old.tally old.guests =
      let count = ap (λ (l : List (Option (GuestState S K))). count_by is_some l) slots in
      omega (arith, connections, count) in record {
        first = has.first;
        steps = has.steps;
        stays = has.stays;
        left = has.left;
        under = has.under;
        from_none = has.from_none;
        takes = has.takes;
        same = has.same;
        own = has.own;
        guests = λ key.
            let F : Option (GuestState S K) → Type 0 = λ o. IfSome o (Seat has.steps new.next) in
            let N : ℕ → Type 0 = λ n. IfSome (get old.guests key) (Seat has.steps n) in
            subst F (sym (at key)) (subst N (sym next) (has.guests key));
        differ = λ one two n apart first second. has.differ one two n apart (sym (named one) ∙ first) (sym (named two) ∙ second);
        served = has.served;
        handed_on = has.handed_on;
        apart = has.apart;
        low = let N : ℕ → Type 0 = λ n. All (λ number. number < n) (numbers_of has.stays has.left) in subst N (sym next) has.low;
        gone = λ key n is. has.gone key n (sym (named key) ∙ is);
        owned = All-weaker (IsOwned old.guests has.stays has.left) (IsOwned new.guests has.stays has.left)
            (owned_on old.guests new.guests has.stays has.left (λ key guest is. (guest, at key ∙ is, refl, refl))) has.steps has.owned;
        fits = let was = has.fits in omega (arith, as_many, next, was);
        bound = let was = has.bound in omega (arith, next, was);
        connections_are = connections ∙ has.connections_are;
        calls_are = calls ∙ has.calls_are;
        told = let F : Option (List ClosedConnection) → Type 0 = λ closed. IfSome past (λ _. closed ≡ Some (ends_of has.stays)) in
            subst F (sym closed) has.told;
        closed_are = closed_count ∙ has.closed_are;
        let_go_are = let F : ℕ → Type 0 = λ n. capped 0 (let_go_of has.stays) ≤ n in
            subst F (sym let_go) has.let_go_are;
      }

  -- ---- a guest comes

  -- one that was accepted
  pub accepted : (serving : Serving S K) (worker : Working H) (call : Called S K) (guest : GuestState S K)
      → HasServed source sink conduct counting terms past serving worker → IsExpectedCall (try_halves_of source sink) past call
      → guest.origin ≡ call.origin → guest.talk ≡ fresh_talk call → guest.number ≡ serving.next
      → IsToSeat source sink conduct counting terms past serving worker guest
  accepted serving worker call guest has is origin talk number = record {
    has = has;
    earlier = [];
    began = inl refl;
    is = new_guest source sink past call guest is origin talk;
    number = number;
    due = let D : Option Taken → Type 0 = λ waits. IfSome waits (IsDue (length terms.catalogue.maps)) in
        subst D (sym (ap (λ (t : Talk S K). t.waiting) talk)) tt;
  }

  -- one that another worker left
  pub taken_over : {F : Type 0} (kept : F → Log) (serving : Serving S K) (old new : Working H) (waiting : WaitingGuest S K F) (guest : GuestState S K)
      → HasServed source sink conduct counting terms past serving old
      → IsWaiting source sink conduct counting terms past kept waiting → IsTold conduct counting.counted old.host new.host
      → IsFront (kept waiting.front) (conduct.seen new.host).known → new.carries ≡ old.carries → old.carries ≡ true
      → guest ≡ record waiting.guest { number = serving.next }
      → IsToSeat source sink conduct counting terms past serving new guest
  taken_over kept serving old new waiting guest has waits told reached same carries is =
      let known = waits.known in
      let further = front_then known (kept waiting.front) (conduct.seen new.host).known waits.covered reached in rw is (record {
        has = tells serving old new (TookOver serving.next known) (λ number. refl) (λ stays left. tt)
            (λ no. absurd (let e : true ≡ false = sym carries ∙ no in cc)) (told, further) same has;
        earlier = waits.deeds;
        began = inr (record {
          known = known;
          left = waits.left;
          before = has.steps;
          behind = [];
          steps_are = refl;
          none_before = none_above serving.next has.steps (steps_low serving old has);
        });
        is = record { expected = waits.is.expected; fresh = waits.is.fresh; cut = waits.is.cut };
        number = refl;
        due = waits.due;
      })

  -- it gets a place
  pub comes : (old new : Serving S K) (worker : Working H) (key : ℕ) (guest : GuestState S K)
      → IsToSeat source sink conduct counting terms past old worker guest → new ≡ record old { guests = new.guests; next = new.next }
      → new.next ≡ old.next + 1 → get old.guests key ≡ None → Updates old.guests new.guests key (Some guest)
      → slab_len new.guests ≡ slab_len old.guests + 1 → old.next + 1 < 18446744073709551616
      → HasServed source sink conduct counting terms past new worker
  comes old new worker key guest seats same more vacant updates count room =
      let has = seats.has in
      let deeds : deeds_of guest.number has.steps ≡ [] =
      let R : ℕ → Type 0 = λ n. All (IsLow n) has.steps in
      none_above guest.number has.steps (subst R (sym seats.number) (steps_low old worker has)) in
      let elsewhere : (other n : ℕ) → other ≢ key → number_at new.guests other ≡ Some n → number_at old.guests other ≡ Some n =
      λ other n apart named. sym (ap (option_map (λ g. g.number)) (updates.others other apart)) ∙ named in
      let here : number_at new.guests key ≡ Some old.next =
      ap (option_map (λ g. g.number)) updates.changed ∙ ap (λ (n : ℕ). Some n) seats.number in
      let own : (n : ℕ) → number_at new.guests key ≡ Some n → n ≡ old.next =
      λ n named. let e : Some old.next ≡ Some n = sym here ∙ named in cc in record {
        first = has.first;
        steps = has.steps;
        stays = has.stays;
        left = has.left;
        under = has.under;
        from_none = has.from_none;
        takes = has.takes;
        same = has.same;
        own = has.own;
        guests = everywhere (Seat has.steps old.next) (Seat has.steps new.next) old.guests new.guests key (Some guest) updates
            (λ other g apart there h. seat_later has.steps old.next new.next g (omega (arith, more)) h)
            (record {
              earlier = seats.earlier;
              began = let N : ℕ → Type 0 = λ n. HadBefore conduct counting terms guest.origin.peer n seats.earlier has.steps in subst N (sym seats.number) seats.began;
              is =
                  let C : List Deed → Type 0 = λ deeds. IsGuest source sink past deeds guest in
                  subst C (sym (ap (λ (l : List Deed). seats.earlier ++ l) deeds ∙ append-nil seats.earlier)) seats.is;
              low = let number = seats.number in omega (arith, number, more);
              due = seats.due;
            }) has.guests;
        differ = λ one two n apart named twice. elim (cases_eq one key) [
          | inl first ↦
              let F : ℕ → Type 0 = λ k. number_at new.guests k ≡ Some n in
              let it = own n (subst F first named) in
              let other : two ≢ key = λ second. apart (first ∙ sym second) in
              let low = number_low old worker has two n (elsewhere two n other twice) in absurd (omega (arith, it, low))
          | inr away ↦ elim (cases_eq two key) [
            | inl second ↦
                let F : ℕ → Type 0 = λ k. number_at new.guests k ≡ Some n in
                let it = own n (subst F second twice) in
                let low = number_low old worker has one n (elsewhere one n away named) in absurd (omega (arith, it, low))
            | inr far ↦ has.differ one two n apart (elsewhere one n away named) (elsewhere two n far twice)
          ]
        ];
        served = has.served;
        handed_on = has.handed_on;
        apart = has.apart;
        low = All-weaker (λ number. number < old.next) (λ number. number < new.next) (λ number h. omega (arith, h, more)) (numbers_of has.stays has.left) has.low;
        gone = λ k n named. elim (cases_eq k key) [
          | inl first ↦
              let F : ℕ → Type 0 = λ k. number_at new.guests k ≡ Some n in
              let it = own n (subst F first named) in
              All-weaker (λ number. number < old.next) (λ number. number ≢ n) (λ number h same_number. absurd (omega (arith, h, it, same_number)))
              (numbers_of has.stays has.left) has.low
          | inr away ↦ has.gone k n (elsewhere k n away named)
        ];
        owned = All-weaker (IsOwned old.guests has.stays has.left) (IsOwned new.guests has.stays has.left)
            (owned_on old.guests new.guests has.stays has.left (λ k g there. (
              g,
              updates.others k (λ at. let e : None ≡ Some g = sym vacant ∙ ap (get old.guests) (sym at) ∙ there in cc) ∙ there,
              refl,
              refl,
            ))) has.steps has.owned;
        fits =
            let tally : new.tally.connections ≡ old.tally.connections = ap (λ (s : Serving S K). s.tally.connections) same in
            let was = has.fits in omega (arith, tally, count, more, was);
        bound = omega (arith, more, room);
        connections_are = ap (λ (s : Serving S K). s.tally.connections) same ∙ has.connections_are;
        calls_are = ap (λ (s : Serving S K). s.tally.calls) same ∙ has.calls_are;
        told = let F : Option (List ClosedConnection) → Type 0 = λ closed. IfSome past (λ _. closed ≡ Some (ends_of has.stays)) in
            subst F (sym (ap (λ (s : Serving S K). s.closed) same)) has.told;
        closed_are = ap (λ (s : Serving S K). s.closed_count) same ∙ has.closed_are;
        let_go_are = let F : ℕ → Type 0 = λ n. capped 0 (let_go_of has.stays) ≤ n in
            subst F (sym (ap (λ (s : Serving S K). s.let_go) same)) has.let_go_are;
      }

  -- ---- a guest goes on

  pub goes : (old new : Serving S K) (before after : Working H) (key : ℕ) (Change : GuestState S K → GuestState S K → Type 0)
      → HasServed source sink conduct counting terms past old before → new ≡ record old { guests = new.guests }
      → (went : ChangesAt key old.guests new.guests Change)
      → WorksOn conduct counting.counted source sink (record { guest = went.was; host = before.host })
      (record { guest = went.now; host = after.host })
      → IfSome went.now.talk.waiting (IsDue (length (conduct.seen after.host).catalogue.maps))
      → after.carries ≡ before.carries → (conduct.seen after.host).catalogue ≡ terms.catalogue
      → HasServed source sink conduct counting terms past new after
  goes old new before after key Change has same went works due kept maps =
      let was = went.was in
      let now = went.now in
      let more = map (Did was.number was.origin.peer) works.deeds in
      let steps' = has.steps ++ more in
      let next : new.next ≡ old.next = ap (λ (s : Serving S K). s.next) same in
      let seat = if_found (Seat has.steps old.next) (get old.guests key) was went.found (has.guests key) in
      let own : number_at old.guests key ≡ Some was.number = ap (option_map (λ g. g.number)) went.found in
      let named : (k : ℕ) → number_at new.guests k ≡ number_at old.guests k = λ k. elim (cases_eq k key) [
        | inl first ↦
            let F : ℕ → Type 0 = λ k. number_at new.guests k ≡ number_at old.guests k in
            subst F (sym first) (ap (option_map (λ g. g.number)) went.updates.changed ∙ ap (λ (n : ℕ). Some n) works.number ∙ sym own)
        | inr away ↦ ap (option_map (λ g. g.number)) (went.updates.others k away)
      ] in
      let there : (k : ℕ) (g : GuestState S K) → get old.guests k ≡ Some g
      → (n : GuestState S K) × (get new.guests k ≡ Some n) × (n.number ≡ g.number) × (n.origin.peer ≡ g.origin.peer) =
      λ k g is. elim (cases_eq k key) [
        | inl first ↦
            let it : was ≡ g = let e : Some was ≡ Some g = sym went.found ∙ ap (get old.guests) (sym first) ∙ is in cc in (
              now,
              ap (get new.guests) first ∙ went.updates.changed,
              works.number ∙ ap (λ (x : GuestState S K). x.number) it,
              ap (λ o. o.peer) works.origin ∙ ap (λ (x : GuestState S K). x.origin.peer) it,
            )
        | inr away ↦ (g, went.updates.others k away ∙ is, refl, refl)
      ] in record {
        first = has.first;
        steps = steps';
        stays = has.stays;
        left = has.left;
        under = has.under;
        from_none = has.from_none;
        takes = works.taken has.first.host has.steps has.takes;
        same = has.same ∙ sym kept;
        own = λ no. All-append IsOwnStep has.steps more (has.own no)
            (All-map IsOwnStep (Did was.number was.origin.peer) works.deeds (λ i d within. tt));
        guests = everywhere (Seat has.steps old.next) (Seat steps' new.next) old.guests new.guests key (Some now) went.updates
            (λ k g away is h.
            let other : g.number ≢ was.number = λ twice.
            has.differ key k was.number (λ e. away (sym e)) own (ap (option_map (λ x. x.number)) is ∙ ap (λ (n : ℕ). Some n) twice) in
            seat_on has.steps more old.next new.next g (other_deeds has.steps was.number g.number was.origin.peer works.deeds other) (omega (arith, next)) h)
            (record {
              earlier = seat.earlier;
              began =
                  let N : ℕ → Type 0 = λ n. HadBefore conduct counting terms now.origin.peer n seat.earlier steps' in
                  let Q : Peer → Type 0 = λ q. HadBefore conduct counting terms q was.number seat.earlier steps' in
                  subst N (sym works.number) (subst Q (sym (ap (λ o. o.peer) works.origin))
                  (began_on was.origin.peer was.number seat.earlier has.steps more seat.began));
              is =
                  let deeds : deeds_of now.number steps' ≡ deeds_of was.number has.steps ++ works.deeds =
                  ap (λ (n : ℕ). deeds_of n steps') works.number ∙ own_deeds has.steps was.number was.origin.peer works.deeds in
                  let C : List Deed → Type 0 = λ deeds. IsGuest source sink past deeds now in
                  subst C (append_assoc seat.earlier (deeds_of was.number has.steps) works.deeds ∙ ap (λ (l : List Deed). seat.earlier ++ l) (sym deeds))
                  (works.own past (seat.earlier ++ deeds_of was.number has.steps) seat.is);
              low = let number = works.number in omega (arith, seat.low, next, number);
              due = let D : Catalogue → Type 0 = λ c. IfSome now.talk.waiting (IsDue (length c.maps)) in subst D maps due;
            }) has.guests;
        differ = λ one two n apart first second. has.differ one two n apart (sym (named one) ∙ first) (sym (named two) ∙ second);
        served =
            let gone = of_stays (λ n. n ≢ was.number) has.stays has.left (has.gone key was.number own) in
            λ i d within. stays_on has.steps more (get_or has.stays i d)
            (other_deeds has.steps was.number (get_or has.stays i d).number was.origin.peer works.deeds (gone i d within))
            (has.served i d within);
        handed_on =
            let gone = of_left (λ n. n ≢ was.number) has.stays has.left (has.gone key was.number own) in
            λ i d within. left_on has.steps more (get_or has.left i d)
            (other_deeds has.steps was.number (get_or has.left i d).number was.origin.peer works.deeds (gone i d within))
            (has.handed_on i d within);
        apart = has.apart;
        low = let N : ℕ → Type 0 = λ n. All (λ number. number < n) (numbers_of has.stays has.left) in subst N (sym next) has.low;
        gone = λ k n is. has.gone k n (sym (named k) ∙ is);
        owned = All-append (IsOwned new.guests has.stays has.left) has.steps more
            (All-weaker (IsOwned old.guests has.stays has.left) (IsOwned new.guests has.stays has.left)
            (owned_on old.guests new.guests has.stays has.left there) has.steps has.owned)
            (All-map (IsOwned new.guests has.stays has.left) (Did was.number was.origin.peer) works.deeds
            (λ i d within. inl (key, now, went.updates.changed, works.number, ap (λ o. o.peer) works.origin)));
        fits =
            let tally : new.tally.connections ≡ old.tally.connections = ap (λ (s : Serving S K). s.tally.connections) same in
            let count = went.count in let was = has.fits in omega (arith, tally, count, next, was);
        bound = let was = has.bound in omega (arith, next, was);
        connections_are = ap (λ (s : Serving S K). s.tally.connections) same ∙ has.connections_are;
        calls_are = ap (λ (s : Serving S K). s.tally.calls) same ∙ has.calls_are;
        told = let F : Option (List ClosedConnection) → Type 0 = λ closed. IfSome past (λ _. closed ≡ Some (ends_of has.stays)) in
            subst F (sym (ap (λ (s : Serving S K). s.closed) same)) has.told;
        closed_are = ap (λ (s : Serving S K). s.closed_count) same ∙ has.closed_are;
        let_go_are = let F : ℕ → Type 0 = λ n. capped 0 (let_go_of has.stays) ≤ n in
            subst F (sym (ap (λ (s : Serving S K). s.let_go) same)) has.let_go_are;
      }

  -- ---- a guest is gone

  -- its place is nobody's, and those of others are as they were
  empties : (old new : Slab (GuestState S K)) (key : ℕ) → Updates old new key None → (k n : ℕ) → number_at new k ≡ Some n → (k ≢ key) × (number_at old k ≡ Some n)
  empties old new key updates k n named =
      let away : k ≢ key = λ first. let e : None ≡ Some n =
      sym (ap (option_map (λ (g : GuestState S K). g.number)) (ap (get new) first ∙ updates.changed)) ∙ named in cc in
      (away, sym (ap (option_map (λ g. g.number)) (updates.others k away)) ∙ named)

  -- a guest's connection was closed
  pub leaves : (old new : Serving S K) (worker : Working H) (key : ℕ) (guest : GuestState S K) (is_let_go : Bool)
      → HasServed source sink conduct counting terms past old worker
      → get old.guests key ≡ Some guest → Updates old.guests new.guests key None → slab_len new.guests + 1 ≡ slab_len old.guests
      → new.tally.connections ≡ old.tally.connections + 1 → new.tally.calls ≡ capped old.tally.calls guest.talk.progress.calls → new.next ≡ old.next
      → new.closed ≡ closed_then old.closed (ended_at (came_as source sink guest) (told_by source sink guest.talk.source guest.talk.sink) ∷ [])
      → new.closed_count ≡ next_count old.closed_count → let_go_where is_let_go old.let_go ≤ new.let_go
      → (is_let_go ≡ false → IsOver terms.most (cut_of source sink guest.talk))
      → HasServed source sink conduct counting terms past new worker
  leaves old new worker key guest is_let_go has there updates count connections calls next closed closed_count let_go over =
      let stay = stay_of in
      let as_many : came_to new.tally new.guests ≡ came_to old.tally old.guests = omega (arith, connections, count) in
      let seat = if_found (Seat has.steps old.next) (get old.guests key) guest there (has.guests key) in
      let own : number_at old.guests key ≡ Some guest.number = ap (option_map (λ g. g.number)) there in
      let longer = length_push has.stays stay in
      let numbers = more_stays has.stays stay has.left in record {
        first = has.first;
        steps = has.steps;
        stays = has.stays ++ stay ∷ [];
        left = has.left;
        under = has.under;
        from_none = has.from_none;
        takes = has.takes;
        same = has.same;
        own = has.own;
        guests = everywhere (Seat has.steps old.next) (Seat has.steps new.next) old.guests new.guests key None updates
            (λ k g apart is h. seat_later has.steps old.next new.next g (omega (arith, next)) h) tt has.guests;
        differ = λ one two n apart first second. has.differ one two n apart
            (empties old.guests new.guests key updates one n first).1 (empties old.guests new.guests key updates two n second).1;
        served = All-push (WasServed conduct counting terms past has.steps) has.stays stay has.served (record {
          before = came_with source sink guest;
          earlier = seat.earlier;
          cut = cut_of source sink guest.talk;
          expected = seat.is.expected;
          whole = refl;
          untaken = refl;
          fresh = seat.is.fresh;
          began = seat.began;
          is_cut = seat.is.cut;
          over = over;
          ended = refl;
          calls = refl;
        });
        handed_on = has.handed_on;
        apart = subst AreApart (sym numbers) (apart_insert (stay_numbers has.stays) (left_numbers has.left) guest.number has.apart (has.gone key guest.number own));
        low =
            let L : List ℕ → Type 0 = λ l. All (λ number. number < new.next) l in
            subst L (sym numbers) (all_insert (λ number. number < new.next) (stay_numbers has.stays) (left_numbers has.left) guest.number
            (All-weaker (λ number. number < old.next) (λ number. number < new.next) (λ number h. omega (arith, h, next)) (numbers_of has.stays has.left) has.low)
            (let here = seat.low in omega (arith, here, next)));
        gone = λ k n named.
            let was = empties old.guests new.guests key updates k n named in
            let L : List ℕ → Type 0 = λ l. All (λ number. number ≢ n) l in
            subst L (sym numbers) (all_insert (λ number. number ≢ n) (stay_numbers has.stays) (left_numbers has.left) guest.number (has.gone k n was.1)
            (λ twice. has.differ key k guest.number (λ e. was.0 (sym e)) own (was.1 ∙ ap (λ (m : ℕ). Some m) (sym twice))));
        owned = All-weaker (IsOwned old.guests has.stays has.left) (IsOwned new.guests (has.stays ++ stay ∷ []) has.left) hers has.steps has.owned;
        fits = let was = has.fits in omega (arith, as_many, next, was);
        bound = let was = has.bound in omega (arith, next, was);
        connections_are = let was = has.connections_are in omega (arith, connections, was, longer);
        calls_are =
            calls ∙ ap (λ (n : ℕ). capped n guest.talk.progress.calls) has.calls_are
            ∙ sym (fold-append (λ (n : ℕ) (s : ServedConnection). capped n s.calls) 0 has.stays (stay ∷ []));
        told = ends_more old.closed new.closed has.stays stay past has.told closed;
        closed_are = let was = has.closed_are in omega (arith, longer, was, closed_count);
        let_go_are =
            let more = fold-append (λ (n : ℕ) (s : ServedConnection). n + cond s.let_go 1 0) 0 has.stays (stay ∷ []) in
            by_case is_let_go more let_go;
      }
    where
      stay_of : ServedConnection
      stay_of = record {
        ended = ended_at (came_as source sink guest) (told_by source sink guest.talk.source guest.talk.sink);
        calls = guest.talk.progress.calls;
        number = guest.number;
        let_go = is_let_go;
      }

      by_case : (b : Bool) → let_go_of (has.stays ++ stay_of ∷ []) ≡ let_go_of has.stays + cond b 1 0 → let_go_where b old.let_go ≤ new.let_go
          → capped 0 (let_go_of (has.stays ++ stay_of ∷ [])) ≤ new.let_go
      by_case true more within = let was = has.let_go_are in omega (arith, more, within, was)
      by_case false more within = let was = has.let_go_are in omega (arith, more, within, was)

      hers : (step : WorkerStep) → IsOwned old.guests has.stays has.left step → IsOwned new.guests (has.stays ++ stay_of ∷ []) has.left step
      hers Learned is = tt
      hers (TookOver number known) is = tt
      hers (Did number peer deed) (inl of) = elim (cases_eq of.0 key) [
        | inl first ↦
            let it : guest ≡ of.1 = let e : Some guest ≡ Some of.1 = sym there ∙ ap (get old.guests) (sym first) ∙ of.2 in cc in
            inr (inl (
              stay_of,
              Contains-push has.stays stay_of,
              ap (λ (x : GuestState S K). x.number) it ∙ of.3,
              ap (λ (x : GuestState S K). x.origin.peer) it ∙ of.4,
            ))
        | inr apart ↦ inl (of.0, of.1, updates.others of.0 apart ∙ of.2, of.3, of.4)
      ]
      hers (Did number peer deed) (inr (inl of)) =
          inr (inl (of.0, Contains-append_left has.stays (stay_of ∷ []) of.0 of.1, of.2, of.3))
      hers (Did number peer deed) (inr (inr of)) = inr (inr of)

  -- one that took nothing over did nothing before a conversation began
  none_before : (peer : Peer) (number : ℕ) (earlier : List Deed) (steps : List WorkerStep) → HadBefore conduct counting terms peer number earlier steps
      → All IsOwnStep steps → earlier ≡ []
  none_before peer number earlier steps (inl none) all = none
  none_before peer number earlier steps (inr over) all =
      none_taken over.before over.behind number over.known (subst (λ (l : List WorkerStep). All IsOwnStep l) over.steps_are all)

  -- a guest that is to be left stands behind what was done in its conversation
  pub may_leave : {F : Type 0} (kept : F → Log) (serving : Serving S K) (worker : Working H) (key : ℕ) (guest : GuestState S K) (front : F)
      → HasServed source sink conduct counting terms past serving worker → worker.carries ≡ false → kept front ≡ (conduct.seen worker.host).known
      → get serving.guests key ≡ Some guest
      → IsWaiting source sink conduct counting terms past kept (record { guest = guest; front = front })
  may_leave kept serving worker key guest front has brief is there =
      let seat = if_found (Seat has.steps serving.next) (get serving.guests key) guest there (has.guests key) in
      let all = has.own (has.same ∙ brief) in record {
        deeds = deeds_of guest.number has.steps;
        known = (conduct.seen worker.host).known;
        is =
            let C : List Deed → Type 0 = λ earlier. IsGuest source sink past (earlier ++ deeds_of guest.number has.steps) guest in
            subst C (none_before guest.origin.peer guest.number seat.earlier has.steps seat.began all) seat.is;
        left = record {
          first = has.first;
          last = worker.host;
          steps = has.steps;
          number = guest.number;
          under = has.under;
          from_none = has.from_none;
          takes = has.takes;
          own = all;
          alone = alone serving worker has key guest there;
          deeds_are = refl;
          known_is = refl;
        };
        covered = let L : Log → Type 0 = λ log. IsFront (conduct.seen worker.host).known log in
            subst L (sym is) (front_same (conduct.seen worker.host).known);
        due = seat.due;
      }

  -- a guest was left
  pub is_left : (old new : Serving S K) (worker : Working H) (key : ℕ) (guest : GuestState S K)
      → HasServed source sink conduct counting terms past old worker → worker.carries ≡ false → new ≡ record old { guests = new.guests }
      → get old.guests key ≡ Some guest → Updates old.guests new.guests key None → slab_len new.guests + 1 ≡ slab_len old.guests
      → HasServed source sink conduct counting terms past new worker
  is_left old new worker key guest has brief same there updates count =
      let seat = if_found (Seat has.steps old.next) (get old.guests key) guest there (has.guests key) in
      let own : number_at old.guests key ≡ Some guest.number = ap (option_map (λ g. g.number)) there in
      let next : new.next ≡ old.next = ap (λ (s : Serving S K). s.next) same in record {
        first = has.first;
        steps = has.steps;
        stays = has.stays;
        left = one ∷ has.left;
        under = has.under;
        from_none = has.from_none;
        takes = has.takes;
        same = has.same;
        own = has.own;
        guests = everywhere (Seat has.steps old.next) (Seat has.steps new.next) old.guests new.guests key None updates
            (λ k g apart is h. seat_later has.steps old.next new.next g (omega (arith, next)) h) tt has.guests;
        differ = λ one two n apart first second. has.differ one two n apart
            (empties old.guests new.guests key updates one n first).1 (empties old.guests new.guests key updates two n second).1;
        served = has.served;
        handed_on = All-cons (WasHandedOn past has.steps) one has.left (record {
          before = came_with source sink guest;
          cut = cut_of source sink guest.talk;
          expected = seat.is.expected;
          whole = refl;
          untaken = refl;
          fresh = seat.is.fresh;
          is_cut =
              let C : List Deed → Type 0 = λ earlier.
              IsCut (came_with source sink guest) (earlier ++ deeds_of guest.number has.steps) (cut_of source sink guest.talk) in
              subst C (none_before guest.origin.peer guest.number seat.earlier has.steps seat.began (has.own (has.same ∙ brief))) seat.is.cut;
        }) has.handed_on;
        apart = apart_insert (stay_numbers has.stays) (left_numbers has.left) guest.number has.apart (has.gone key guest.number own);
        low = all_insert (λ number. number < new.next) (stay_numbers has.stays) (left_numbers has.left) guest.number
            (All-weaker (λ number. number < old.next) (λ number. number < new.next) (λ number h. omega (arith, h, next)) (numbers_of has.stays has.left) has.low)
            (let here = seat.low in omega (arith, here, next));
        gone = λ k n named.
            let was = empties old.guests new.guests key updates k n named in
            all_insert (λ number. number ≢ n) (stay_numbers has.stays) (left_numbers has.left) guest.number (has.gone k n was.1)
            (λ twice. has.differ key k guest.number (λ e. was.0 (sym e)) own (was.1 ∙ ap (λ (m : ℕ). Some m) (sym twice)));
        owned = All-weaker (IsOwned old.guests has.stays has.left) (IsOwned new.guests has.stays (one ∷ has.left)) hers has.steps has.owned;
        fits =
            let tally : new.tally.connections ≡ old.tally.connections = ap (λ (s : Serving S K). s.tally.connections) same in
            let was = has.fits in omega (arith, tally, count, next, was);
        bound = let was = has.bound in omega (arith, next, was);
        connections_are = ap (λ (s : Serving S K). s.tally.connections) same ∙ has.connections_are;
        calls_are = ap (λ (s : Serving S K). s.tally.calls) same ∙ has.calls_are;
        told = let F : Option (List ClosedConnection) → Type 0 = λ closed. IfSome past (λ _. closed ≡ Some (ends_of has.stays)) in
            subst F (sym (ap (λ (s : Serving S K). s.closed) same)) has.told;
        closed_are = ap (λ (s : Serving S K). s.closed_count) same ∙ has.closed_are;
        let_go_are = let F : ℕ → Type 0 = λ n. capped 0 (let_go_of has.stays) ≤ n in
            subst F (sym (ap (λ (s : Serving S K). s.let_go) same)) has.let_go_are;
      }
    where
      one : LeftConnection
      one = record { came = came_as source sink guest; number = guest.number }

      hers : (step : WorkerStep) → IsOwned old.guests has.stays has.left step → IsOwned new.guests has.stays (one ∷ has.left) step
      hers Learned is = tt
      hers (TookOver number known) is = tt
      hers (Did number peer deed) (inl of) = elim (cases_eq of.0 key) [
        | inl first ↦
            let it : guest ≡ of.1 = let e : Some guest ≡ Some of.1 = sym there ∙ ap (get old.guests) (sym first) ∙ of.2 in cc in
            inr (inr (
              one,
              (0, omega arith, refl),
              ap (λ (x : GuestState S K). x.number) it ∙ of.3,
              ap (λ (x : GuestState S K). x.origin.peer) it ∙ of.4,
            ))
        | inr apart ↦ inl (of.0, of.1, updates.others of.0 apart ∙ of.2, of.3, of.4)
      ]
      hers (Did number peer deed) (inr (inl of)) = inr (inl of)
      hers (Did number peer deed) (inr (inr of)) =
          inr (inr (of.0, Contains-append_right (one ∷ []) has.left of.0 of.1, of.2, of.3))

  -- all guests are gone
  pub all_gone : (serving : Serving S K) (worker : Working H) → slab_len serving.guests ≡ 0
      → HasServed source sink conduct counting terms past serving worker
      → HasEnded conduct counting terms past worker (record {
        tally = serving.tally;
        closed = serving.closed;
        closed_count = serving.closed_count;
        let_go = serving.let_go;
      })
  all_gone serving worker none has = record {
    first = has.first;
    steps = has.steps;
    stays = has.stays;
    left = has.left;
    under = has.under;
    from_none = has.from_none;
    takes = has.takes;
    own = has.own;
    served = has.served;
    handed_on = has.handed_on;
    apart = has.apart;
    owned = All-weaker (IsOwned serving.guests has.stays has.left) (IsStepOf has.stays has.left) closed has.steps has.owned;
    connections_are = has.connections_are;
    calls_are = has.calls_are;
    told = has.told;
    closed_are = has.closed_are;
    let_go_are = has.let_go_are;
  }
    where
      closed : (step : WorkerStep) → IsOwned serving.guests has.stays has.left step → IsStepOf has.stays has.left step
      closed Learned is = tt
      closed (TookOver number known) is = tt
      closed (Did number peer deed) (inl of) =
          absurd (let e : None ≡ Some of.1 = sym (nowhere serving.guests of.0 none) ∙ of.2 in cc)
      closed (Did number peer deed) (inr of) = of

  -- what waits of a guest is a transfer of the maps
  pub due_at : (serving : Serving S K) (worker : Working H) (key : ℕ) (maps : Catalogue) → maps ≡ terms.catalogue
      → HasServed source sink conduct counting terms past serving worker
      → IfSome (get serving.guests key) (λ guest. IfSome guest.talk.waiting (IsDue (length maps.maps)))
  due_at serving worker key maps same has =
      let Q : GuestState S K → Type 0 = λ guest. IfSome guest.talk.waiting (IsDue (length maps.maps)) in
      if_weaker (Seat has.steps serving.next) Q (get serving.guests key)
      (λ guest is h. let D : Catalogue → Type 0 = λ c. IfSome guest.talk.waiting (IsDue (length c.maps)) in subst D (sym same) h.due)
      (has.guests key)

-- a worker whose host knows more serves as it did
pub still_under : {H : Type 0} (conduct : Conduct H) (terms : Terms) (old new : Working H) → IsUnder conduct terms old
    → SeesOn (conduct.seen old.host) (conduct.seen new.host) → new.most ≡ old.most → IsUnder conduct terms new
still_under conduct terms old new under sees most = record {
  catalogue = sees.catalogue ∙ under.catalogue;
  knows = front_then terms.starts (conduct.seen old.host).known (conduct.seen new.host).known under.knows sees.grown;
  most = most ∙ under.most;
}

pub told_under : {H T : Type 0} (conduct : Conduct H) (counted : H → T) (terms : Terms) (old new : Working H) → IsUnder conduct terms old
    → IsTold conduct counted old.host new.host → new.most ≡ old.most → IsUnder conduct terms new
told_under conduct counted terms old new under told most = record {
  catalogue = ap (λ (s : Seen). s.catalogue) told.learned.same ∙ under.catalogue;
  knows = front_then terms.starts (conduct.seen old.host).known (conduct.seen new.host).known under.knows told.learned.grown;
  most = most ∙ under.most;
}

-- ---- what a worker holds of a listener

pub comes_none : (pass : Passed) (came : ℕ) (door : Bool) → Comes pass pass came came door door
comes_none pass came door = record { parts = refl; out = refl; ended = refl }

pub comes_then : (a b c : Passed) (came came' came'' : ℕ) (door door' door'' : Bool) → Comes a b came came' door door'
    → Comes b c came' came'' door' door'' → Comes a c came came'' door door''
comes_then a b c came came' came'' door door' door'' first second = record {
  parts = second.parts ∙ first.parts;
  out = let one = first.out in let two = second.out in omega (arith, one, two);
  ended = let one = first.ended in let two = second.ended in omega (arith, one, two);
}

-- one left
pub comes_less : (old new : Passed) (came came' : ℕ) (door door' : Bool) → new ≡ record old { out = new.out } → new.out + 1 ≡ old.out → came' + 1 ≡ came
    → door' ≡ door → Comes old new came came' door door'
comes_less old new came came' door door' kept less fewer same = record {
  parts = ap (λ (p : Passed). p.parts) kept;
  out = omega (arith, less, fewer);
  ended =
      let e = ap (λ (p : Passed). p.ended) kept in
      let d = ap closed_door same in
      omega (arith, e, d);
}

-- nothing came, and the door is as it was
pub comes_same : (pass : Passed) (came came' : ℕ) (door door' : Bool) → came' ≡ came → door' ≡ door → Comes pass pass came came' door door'
comes_same pass came came' door door' as_many same = record {
  parts = refl;
  out = omega (arith, as_many);
  ended = let e = ap closed_door same in omega (arith, e);
}

-- one more came
pub comes_one : (old new : Passed) (came came' : ℕ) (door door' : Bool) → new ≡ record old { out = old.out + 1 } → came' ≡ came + 1
    → door' ≡ door → Comes old new came came' door door'
comes_one old new came came' door door' one more same = record {
  parts = ap (λ (p : Passed). p.parts) one;
  out = let e = ap (λ (p : Passed). p.out) one in omega (arith, e, more);
  ended =
      let e = ap (λ (p : Passed). p.ended) one in
      let d = ap closed_door same in
      omega (arith, e, d);
}

-- the door is closed
pub comes_no_more : (old new : Passed) (came came' : ℕ) (door : Bool) → new ≡ record old { ended = old.ended + 1 } → came' ≡ came
    → door ≡ true → Comes old new came came' door false
comes_no_more old new came came' true one more was = record {
  parts = ap (λ (p : Passed). p.parts) one;
  out = let e = ap (λ (p : Passed). p.out) one in omega (arith, e, more);
  ended = let e = ap (λ (p : Passed). p.ended) one in omega (arith, e);
}
comes_no_more old new came came' false one more was = absurd (let e : false ≡ true = was in cc)

-- what came of going on says that a conversation is over
pub is_over : (peer : Peer) (most : ℕ) (advance : Advance) (cut : Cut) → ((end : End) × (advance ≡ Ended end)) ⊎ (advance ≡ NoMemory)
    → ComesTo peer most advance cut → IsOver most cut
is_over peer most advance cut (inl ended) comes = inl (ended.0, subst (λ (a : Advance). ComesTo peer most a cut) ended.1 comes)
is_over peer most advance cut (inr lost) comes = inr (subst (λ (a : Advance). ComesTo peer most a cut) lost comes)

-- what is held of a listener at the end
pub all_passed : (first last end : Passed) (connections live : ℕ) (door : Bool) → Comes first last 0 (connections + live) true door
    → door ≡ false → live ≡ 0 → end ≡ record last { out = end.out } → end.out + connections ≡ last.out
    → end ≡ record first { ended = first.ended + 1 }
all_passed first last end connections live door comes closed nobody same back =
    let parts : end.parts ≡ first.parts = ap (λ (p : Passed). p.parts) same ∙ comes.parts in
    let was = comes.out in
    let out : end.out ≡ first.out = omega (arith, was, nobody, back) in
    let e = ap (λ (p : Passed). p.ended) same in
    let d : closed_door door ≡ 1 = ap closed_door closed in
    let more = comes.ended in
    let ended : end.ended ≡ first.ended + 1 = omega (arith, e, d, more) in
    ap (λ (n : ℕ). record { parts = n; out = end.out; ended = end.ended }) parts
    ∙ ap (λ (n : ℕ). record { parts = first.parts; out = n; ended = end.ended }) out
    ∙ ap (λ (n : ℕ). record { parts = first.parts; out = first.out; ended = n }) ended

-- a written guest leaves as many
pub kept_len : {X : Type 0} (slab : Slab X) (key : ℕ) (was now : X) → get slab key ≡ Some was → slab_len (with_value slab key now) ≡ slab_len slab
kept_len {X} slab key was now found =
    let present : IsSome (get slab key) = subst IsSome (sym found) refl in
    let f : Option X → ℕ = λ o. cond (is_some o) 1 0 in
    let changed = sum_by-set f slab.slots key (Some now) None (ContainsKey-within slab key present) in
    let one : f (get slab key) ≡ 1 = ap f found in
    omega (arith, changed, one)

pub one_written : {X : Type 0} (slab : Slab X) (key : ℕ) (was now : X) → get slab key ≡ Some was → Updates slab (with_value slab key now) key (Some now)
one_written slab key was now found = Updates-with_value slab key now (subst IsSome (sym found) refl)
