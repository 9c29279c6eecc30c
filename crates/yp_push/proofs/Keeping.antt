-- What the code keeps of a push stays true by each event.
use Rattle.std.proofs.Common.{◌≡◌, ◌≢◌, ℕ, ◌+◌, ◌^◌, ◌<◌, ◌≤◌, Bool, true, false, ◌||◌, ◌&&◌, not, ltb, eqb}
use Rattle.std.proofs.Common.{List, [], ◌∷◌, ◌++◌, length, set, get_or, Option, None, refl, sym, ap, ◌∙◌, arith}
use Rattle.std.proofs.Common.{inl, inr}
use Rattle.std.specs.Prelude.{replicate}
use Rattle.std.specs.List.{count_by, range_with_len, cons_option}
use Rattle.std.proofs.lemmas.Bool.{cases_eq, cases_lt, ne_eqb, le-ltb, lt-ltb, ltb-true}
use Rattle.std.proofs.lemmas.Bool.Decides.{nat_tests, Decides-eqb}
use Rattle.std.proofs.lemmas.List.{append-nil, length-set, get_or-set_same}
use Rattle.std.proofs.lemmas.List.{get_or-set_other, get_or-replicate, length-replicate}
use Rattle.std.proofs.lemmas.List.Sums.{sum_by_push}
use Rattle.yp_push.specs.declared.event.Event.{Event}
use Rattle.yp_push.specs.declared.event.Event.TheVariants.{Sent, Failed, Refused, Called, Quiet}
use Rattle.yp_push.specs.declared.outcome.Outcome.{Outcome}
use Rattle.yp_push.specs.declared.outcome.Outcome.TheVariants.{Unsent, Unanswered, Missed as WasMissed, Answered}
use Rattle.yp_push.specs.Results.{is_sending, is_sent, result_of, is_unanswered}
use Rattle.yp_push.specs.inside.Results.{awaits_call}
use Rattle.yp_push.specs.Ledgers.{slaves_max, asked_by, asked, is_passed_over}
use Rattle.yp_push.specs.Ledgers.{is_outstanding, outstanding}
use Rattle.yp_push.specs.inside.Settling.{IsReport, SettlesSlave, ChangesNone}
use Rattle.yp_push.specs.inside.Kept.{Keeps}
use Rattle.yp_push.proofs.Lists.{range-push}
use Rattle.yp_push.proofs.Steps.{moved, step, step_by, unsent, sent_step, passed_before, passed_now, asked_step}
use Rattle.yp_push.proofs.Counts.{one_if, count_same, count_none, one_less}

-- ---- small facts

pub same_number : (n : ℕ) → eqb n n ≡ true
same_number n = (Decides-eqb n n).1 refl

-- nothing that moves it
pub unmoved : (o : Outcome) → moved false None None o ≡ o
unmoved Unsent = refl
unmoved Unanswered = refl
unmoved (WasMissed m) = refl
unmoved (Answered s) = refl

-- an event that asks no slave asks none of them
not_sending : (slave : ℕ) (e : Event) → asked_by e ≡ None → is_sending slave e ≡ false
not_sending slave (Sent i) none = absurd cc
not_sending slave (Failed i m) none = refl
not_sending slave (Refused i s) none = refl
not_sending slave (Called t s) none = refl
not_sending slave Quiet none = refl

or_false : (b : Bool) → (b || false) ≡ b
or_false true = refl
or_false false = refl

or_true : (b : Bool) → (b || true) ≡ true
or_true true = refl
or_true false = refl

and_false : (b : Bool) → (b && false) ≡ false
and_false true = refl
and_false false = refl

-- how many are outstanding, by the slaves that were asked
counted_by : (first n : ℕ) (es : List Event) → asked es ≡ range_with_len 0 n
    → outstanding first es ≡ count_by (is_outstanding first es) (range_with_len 0 n)
unfolding outstanding
counted_by first n es in_order = ap (λ (xs : List ℕ). count_by (is_outstanding first es) xs) in_order

-- ---- a slave is asked

sent_tests : (slave sent : ℕ) → (ltb slave sent || eqb sent slave) ≡ ltb slave (sent + 1)
sent_tests slave sent = grind (arith, nat_tests)

-- it has no result yet
pub sends_to : (outcomes : List Outcome) (first sent passed count : ℕ) (es : List Event)
    → Keeps outcomes first sent passed count es → result_of first sent (es ++ Sent sent ∷ []) ≡ Unanswered
sends_to outcomes first sent passed count es kept =
    step_by first sent es (Sent sent) true (same_number sent) (kept.asked_below sent ∙ le-ltb sent sent (omega arith))

pub sends : (outcomes : List Outcome) (first sent passed count : ℕ) (es : List Event)
    → Keeps outcomes first sent passed count es → sent < length outcomes
    → Keeps (set outcomes sent Unanswered) first (sent + 1) passed (count + 1) (es ++ Sent sent ∷ [])
sends outcomes first sent passed count es kept below =
    let e : Event = Sent sent in
    let wasnt : is_sent sent es ≡ false = kept.asked_below sent ∙ le-ltb sent sent (omega arith) in
    let now : result_of first sent (es ++ e ∷ []) ≡ Unanswered =
    step_by first sent es e true (same_number sent) wasnt in
    let not_passed : is_passed_over sent (es ++ e ∷ []) ≡ false = passed_now sent es e wasnt (same_number sent) in
    let same : (slave : ℕ) → slave ≢ sent → result_of first slave (es ++ e ∷ []) ≡ result_of first slave es =
    λ slave differs.
    let isnt : eqb sent slave ≡ false = ne_eqb sent slave (λ q. differs (sym q)) in
    step first slave es e ∙ rw isnt (unmoved (result_of first slave es)) in
    let passed_same : (slave : ℕ) → slave < sent
    → is_passed_over slave (es ++ e ∷ []) ≡ is_passed_over slave es =
    λ slave lt.
    passed_before slave es e (kept.asked_below slave ∙ lt-ltb slave sent lt) ∙ or_false (is_passed_over slave es) in
    let order : asked (es ++ e ∷ []) ≡ range_with_len 0 (sent + 1) =
    let zero_add : 0 + sent ≡ sent = omega arith in
    asked_step es e ∙ ap (λ (xs : List ℕ). xs ++ sent ∷ []) kept.in_order
    ∙ ap (λ (k : ℕ). range_with_len 0 sent ++ k ∷ []) (sym zero_add) ∙ sym (range-push 0 sent) in
    record {
      few = rw (length-set outcomes sent Unanswered) kept.few;
      in_range = kept.in_range;
      results = λ slave lt.
          let within : slave < length outcomes = omega (arith, lt, length-set outcomes sent Unanswered) in
          elim (cases_eq slave sent) [
            | inl is ↦
                rw is (get_or-set_same outcomes sent Unanswered Unsent below ∙ sym now)
            | inr differs ↦
                get_or-set_other outcomes sent slave Unanswered Unsent differs ∙ kept.results slave within
                ∙ sym (same slave differs)
          ];
      in_order = order;
      asked_below = λ slave.
          sent_step slave es e ∙ ap (λ (b : Bool). b || eqb sent slave) (kept.asked_below slave)
          ∙ sent_tests slave sent;
      sent_within = omega (arith, length-set outcomes sent Unanswered);
      passed_below = λ slave lt.
          elim (cases_eq slave sent) [
            | inl is ↦ rw is (not_passed ∙ sym (le-ltb sent passed kept.passed_within))
            | inr differs ↦
                let earlier : slave < sent = omega (arith, differs) in
                passed_same slave earlier ∙ kept.passed_below slave earlier
          ];
      passed_within = omega (arith, kept.passed_within);
      counted =
          let p = is_outstanding first es in
          let q = is_outstanding first (es ++ e ∷ []) in
          let here : q sent ≡ true = rw (now, not_passed) refl in
          let rest : count_by p (range_with_len 0 sent) ≡ count_by q (range_with_len 0 sent) =
          count_same p q 0 sent
          (λ k low high.
          rw (same k (λ is. omega (arith, is)), passed_same k (omega (arith, high))) refl) in
          let zero_add : 0 + sent ≡ sent = omega arith in
          let whole : outstanding first (es ++ e ∷ []) ≡ count_by q (range_with_len 0 sent) + one_if (q (0 + sent)) =
          counted_by first (sent + 1) (es ++ e ∷ []) order
          ∙ ap (λ (xs : List ℕ). count_by q xs) (range-push 0 sent)
          ∙ sum_by_push (λ k. one_if (q k)) (range_with_len 0 sent) (0 + sent) in
          let before : outstanding first es ≡ count_by p (range_with_len 0 sent) =
          counted_by first sent es kept.in_order in
          let one : one_if (q (0 + sent)) ≡ 1 = ap (λ (k : ℕ). one_if (q k)) zero_add ∙ ap one_if here in
          omega (arith, kept.counted, whole, before, rest, one);
    }

-- ---- nothing comes

pub quiets : (outcomes : List Outcome) (first sent passed count : ℕ) (es : List Event)
    → Keeps outcomes first sent passed count es → Keeps outcomes first sent sent 0 (es ++ Quiet ∷ [])
quiets outcomes first sent passed count es kept =
    let e : Event = Quiet in
    let same : (slave : ℕ) → result_of first slave (es ++ e ∷ []) ≡ result_of first slave es =
    λ slave. step first slave es e ∙ unmoved (result_of first slave es) in
    let now : (slave : ℕ) → slave < sent → is_passed_over slave (es ++ e ∷ []) ≡ true =
    λ slave lt.
    passed_before slave es e (kept.asked_below slave ∙ lt-ltb slave sent lt) ∙ or_true (is_passed_over slave es) in
    let order : asked (es ++ e ∷ []) ≡ range_with_len 0 sent =
    asked_step es e ∙ append-nil (asked es) ∙ kept.in_order in
    record {
      few = kept.few;
      in_range = kept.in_range;
      results = λ slave lt. kept.results slave lt ∙ sym (same slave);
      in_order = order;
      asked_below = λ slave. sent_step slave es e ∙ or_false (is_sent slave es) ∙ kept.asked_below slave;
      sent_within = kept.sent_within;
      passed_below = λ slave lt. now slave lt ∙ sym (lt-ltb slave sent lt);
      passed_within = omega arith;
      counted =
          let q = is_outstanding first (es ++ e ∷ []) in
          sym (counted_by first sent (es ++ e ∷ []) order
          ∙ count_none q 0 sent
          (λ k low high.
          rw (now k (omega (arith, high))) (and_false (is_unanswered (result_of first k (es ++ e ∷ []))))));
    }

-- ---- something is told

tells_order : (n : ℕ) (es : List Event) (e : Event) → IsReport e → asked es ≡ range_with_len 0 n
    → asked (es ++ e ∷ []) ≡ range_with_len 0 n
tells_order n es e tells order =
    asked_step es e ∙ ap (λ (o : Option ℕ). asked es ++ cons_option o []) tells.asks_none ∙ append-nil (asked es)
    ∙ order

tells_sent : (slave : ℕ) (es : List Event) (e : Event) → IsReport e → is_sent slave (es ++ e ∷ []) ≡ is_sent slave es
tells_sent slave es e tells =
    sent_step slave es e
    ∙ ap (λ (b : Bool). is_sent slave es || b) (not_sending slave e tells.asks_none) ∙ or_false (is_sent slave es)

tells_passed : (slave : ℕ) (es : List Event) (e : Event) → IsReport e → is_sent slave es ≡ true
    → is_passed_over slave (es ++ e ∷ []) ≡ is_passed_over slave es
tells_passed slave es e tells sent =
    passed_before slave es e sent ∙ ap (λ (b : Bool). is_passed_over slave es || b) tells.is_heard
    ∙ or_false (is_passed_over slave es)

pub ignores : (outcomes : List Outcome) (first window sent passed count : ℕ) (es : List Event) (e : Event)
    → Keeps outcomes first sent passed count es
    → ChangesNone (record { slaves = length outcomes; first = first; window = window; events = es }) e
    → Keeps outcomes first sent passed count (es ++ e ∷ [])
ignores outcomes first window sent passed count es e kept none =
    let order = tells_order sent es e none.tells kept.in_order in
    let was : (slave : ℕ) → slave < sent → is_sent slave es ≡ true =
    λ slave lt. kept.asked_below slave ∙ lt-ltb slave sent lt in
    record {
      few = kept.few;
      in_range = kept.in_range;
      results = λ slave lt. kept.results slave lt ∙ sym (none.same slave lt);
      in_order = order;
      asked_below = λ slave. tells_sent slave es e none.tells ∙ kept.asked_below slave;
      sent_within = kept.sent_within;
      passed_below = λ slave lt. tells_passed slave es e none.tells (was slave lt) ∙ kept.passed_below slave lt;
      passed_within = kept.passed_within;
      counted =
          let p = is_outstanding first es in
          let q = is_outstanding first (es ++ e ∷ []) in
          let same : count_by p (range_with_len 0 sent) ≡ count_by q (range_with_len 0 sent) =
          count_same p q 0 sent
          (λ k low high.
          let lt : k < sent = omega (arith, high) in
          let within : k < length outcomes = omega (arith, lt, kept.sent_within) in
          rw (none.same k within, tells_passed k es e none.tells (was k lt)) refl) in
          kept.counted ∙ counted_by first sent es kept.in_order ∙ same
          ∙ sym (counted_by first sent (es ++ e ∷ []) order);
    }

-- a slave that awaits a call was asked
awaits_sent : (first slave : ℕ) (es : List Event) (b : Bool) → is_sent slave es ≡ b
    → awaits_call (result_of first slave es) ≡ true → b ≡ true
awaits_sent first slave es true sent awaits = refl
awaits_sent first slave es false sent awaits =
    let wrong : false ≡ true = rw (unsent first slave es sent) at awaits in absurd cc

pub awaited_below : (outcomes : List Outcome) (first sent passed count slave : ℕ) (es : List Event)
    → Keeps outcomes first sent passed count es → awaits_call (result_of first slave es) ≡ true → slave < sent
awaited_below outcomes first sent passed count slave es kept awaits =
    ltb-true slave sent
    (sym (kept.asked_below slave) ∙ awaits_sent first slave es (is_sent slave es) refl awaits)

-- one less is outstanding, if the slave was
pub lessens : (outcomes : List Outcome) (first window sent passed count slave : ℕ) (outcome : Outcome) (es : List Event)
    (e : Event) → Keeps outcomes first sent passed count es
    → SettlesSlave (record { slaves = length outcomes; first = first; window = window; events = es }) slave outcome e
    → outstanding first (es ++ e ∷ []) + one_if (is_outstanding first es slave) ≡ count
lessens outcomes first window sent passed count slave outcome es e kept settles =
    let below = awaited_below outcomes first sent passed count slave es kept settles.awaited in
    let order = tells_order sent es e settles.tells kept.in_order in
    let was : (k : ℕ) → k < sent → is_sent k es ≡ true = λ k lt. kept.asked_below k ∙ lt-ltb k sent lt in
    let p = is_outstanding first es in
    let q = is_outstanding first (es ++ e ∷ []) in
    let gone : q slave ≡ false = rw (settles.to, settles.settled) refl in
    let less : count_by q (range_with_len 0 sent) + one_if (p slave) ≡ count_by p (range_with_len 0 sent) =
    one_less p q 0 sent slave (omega arith) (omega (arith, below))
    (λ k low high differs.
    let lt : k < sent = omega (arith, high) in
    let within : k < length outcomes = omega (arith, lt, kept.sent_within) in
    rw (settles.others k within differs, tells_passed k es e settles.tells (was k lt)) refl) gone in
    let before : outstanding first es ≡ count_by p (range_with_len 0 sent) = counted_by first sent es kept.in_order in
    let behind : outstanding first (es ++ e ∷ []) ≡ count_by q (range_with_len 0 sent) =
    counted_by first sent (es ++ e ∷ []) order in
    omega (arith, less, before, behind, kept.counted)

-- whether a slave is outstanding, by what the code keeps
unsent_not : (b c : Bool) (o : Outcome) → o ≡ Unsent → (is_unanswered o && b) ≡ (is_unanswered o && c)
unsent_not b c o is = rw is refl

pub outstanding_by : (outcomes : List Outcome) (first sent passed count slave : ℕ) (es : List Event)
    → Keeps outcomes first sent passed count es → slave < length outcomes
    → (is_unanswered (get_or outcomes slave Unsent) && not (ltb slave passed)) ≡ is_outstanding first es slave
outstanding_by outcomes first sent passed count slave es kept within =
    elim (cases_lt slave sent) [
      | inl below ↦ rw (kept.results slave within, kept.passed_below slave below) refl
      | inr over ↦
          let never : result_of first slave es ≡ Unsent =
          unsent first slave es (kept.asked_below slave ∙ le-ltb slave sent over) in
          rw (kept.results slave within)
          (unsent_not (not (ltb slave passed)) (not (is_passed_over slave es)) (result_of first slave es) never)
    ]

pub settles_one : (outcomes : List Outcome) (first window sent passed count less slave : ℕ) (outcome : Outcome)
    (es : List Event) (e : Event) → Keeps outcomes first sent passed count es
    → SettlesSlave (record { slaves = length outcomes; first = first; window = window; events = es }) slave outcome e
    → less ≡ outstanding first (es ++ e ∷ [])
    → Keeps (set outcomes slave outcome) first sent passed less (es ++ e ∷ [])
settles_one outcomes first window sent passed count less slave outcome es e kept settles counted =
    let was : (k : ℕ) → k < sent → is_sent k es ≡ true = λ k lt. kept.asked_below k ∙ lt-ltb k sent lt in
    record {
      few = rw (length-set outcomes slave outcome) kept.few;
      in_range = kept.in_range;
      results = λ k lt.
          let within : k < length outcomes = omega (arith, lt, length-set outcomes slave outcome) in
          elim (cases_eq k slave) [
            | inl is ↦
                rw is (get_or-set_same outcomes slave outcome Unsent settles.within ∙ sym settles.to)
            | inr differs ↦
                get_or-set_other outcomes slave k outcome Unsent differs ∙ kept.results k within
                ∙ sym (settles.others k within differs)
          ];
      in_order = tells_order sent es e settles.tells kept.in_order;
      asked_below = λ k. tells_sent k es e settles.tells ∙ kept.asked_below k;
      sent_within = omega (arith, kept.sent_within, length-set outcomes slave outcome);
      passed_below = λ k lt. tells_passed k es e settles.tells (was k lt) ∙ kept.passed_below k lt;
      passed_within = kept.passed_within;
      counted = counted;
    }

-- ---- nothing happened yet

pub begins : (n first : ℕ) → n ≤ slaves_max → first < 2 ^ 32 → Keeps (replicate n Unsent) first 0 0 0 []
unfolding asked outstanding
begins n first few low = record {
  few = rw (length-replicate n Unsent) few;
  in_range = low;
  results = λ slave lt.
      get_or-replicate n slave Unsent Unsent (omega (arith, lt, length-replicate n Unsent))
      ∙ sym (unsent first slave [] refl);
  in_order = refl;
  asked_below = λ slave. sym (le-ltb slave 0 (omega arith));
  sent_within = omega arith;
  passed_below = λ slave lt. absurd (omega (arith, lt));
  passed_within = omega arith;
  counted = refl;
}
