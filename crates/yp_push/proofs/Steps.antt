-- What one more event does to the result of a slave, and to whether it is passed over.
use Rattle.std.proofs.Common.{◌≡◌, ℕ, Bool, true, false, ◌||◌, cond, List, [], ◌∷◌, ◌++◌, Option, Some, None}
use Rattle.std.proofs.Common.{refl, sym, ap, ◌∙◌}
use Rattle.std.specs.List.{list_any, filter_map, cons_option}
use Rattle.std.proofs.lemmas.List.Folds.{list_any-append}
use Rattle.std.proofs.lemmas.List.Elements.{filter_map-append}
use Rattle.yp_messages.specs.declared.transfer.XfrStat.{XfrStat}
use Rattle.yp_push.specs.declared.event.Event.{Event}
use Rattle.yp_push.specs.declared.outcome.Missed.{Missed}
use Rattle.yp_push.specs.declared.outcome.Outcome.{Outcome}
use Rattle.yp_push.specs.declared.outcome.Outcome.TheVariants.{Unsent, Unanswered, Missed as WasMissed, Answered}
use Rattle.yp_push.specs.Results.{is_sending, is_quiet, answer_of, miss_of}
use Rattle.yp_push.specs.Results.{is_sent, since_sending, first_of, outcome_of}
use Rattle.yp_push.specs.Results.{result_of}
use Rattle.yp_push.specs.Ledgers.{asked_by, asked, is_passed_over}
use Rattle.yp_push.proofs.Lists.{after_first-push, after_first-last, or_else, first_of-push}

-- what becomes of a result by an event that may send to the slave, answer for it, or say why it was missed
abbrev pub moved : Bool → Option XfrStat → Option Missed → Outcome → Outcome
moved sending answer miss Unsent = cond sending Unanswered Unsent
moved sending answer miss Unanswered = outcome_of answer miss
moved sending answer miss (WasMissed missed) = outcome_of answer (Some missed)
moved sending answer miss (Answered stat) = Answered stat

abbrev pub after : (first slave : ℕ) → Event → Outcome → Outcome
after first slave event outcome =
    moved (is_sending slave event) (answer_of first slave event) (miss_of slave event) outcome

-- ---- a slave that was asked before

pub sent_before : (slave : ℕ) (es : List Event) (e : Event) → is_sent slave es ≡ true
    → is_sent slave (es ++ e ∷ []) ≡ true
sent_before slave es e sent = list_any-append (is_sending slave) es (e ∷ []) ∙ rw sent refl

since_before : (slave : ℕ) (es : List Event) (e : Event) → is_sent slave es ≡ true
    → since_sending slave (es ++ e ∷ []) ≡ since_sending slave es ++ e ∷ []
unfolding since_sending
since_before slave es e sent = after_first-push (is_sending slave) es e sent

moved_before : (sending : Bool) (a oa : Option XfrStat) (m om : Option Missed)
    → outcome_of (or_else a oa) (or_else m om) ≡ moved sending oa om (outcome_of a m)
moved_before sending (Some stat) oa m om = refl
moved_before sending None oa (Some missed) om = refl
moved_before sending None oa None om = refl

step_before : (first slave : ℕ) (es : List Event) (e : Event) → is_sent slave es ≡ true
    → result_of first slave (es ++ e ∷ []) ≡ after first slave e (result_of first slave es)
unfolding result_of
step_before first slave es e sent =
    let since = since_sending slave es in
    rw (
      sent_before slave es e sent,
      since_before slave es e sent,
      sent,
      first_of-push (answer_of first slave) since e,
      first_of-push (miss_of slave) since e,
    )
    (moved_before (is_sending slave e) (first_of (filter_map (answer_of first slave) since)) (answer_of first slave e)
    (first_of (filter_map (miss_of slave) since)) (miss_of slave e))

-- ---- a slave that wasn't

or_false : (b : Bool) → (b || false) ≡ b
or_false true = refl
or_false false = refl

sent_now : (slave : ℕ) (es : List Event) (e : Event) → is_sent slave es ≡ false
    → is_sent slave (es ++ e ∷ []) ≡ is_sending slave e
sent_now slave es e sent = list_any-append (is_sending slave) es (e ∷ []) ∙ rw sent (or_false (is_sending slave e))

since_now : (slave : ℕ) (es : List Event) (e : Event) → is_sent slave es ≡ false → is_sending slave e ≡ true
    → since_sending slave (es ++ e ∷ []) ≡ []
unfolding since_sending
since_now slave es e sent now = after_first-last (is_sending slave) es e sent now

pub unsent : (first slave : ℕ) (es : List Event) → is_sent slave es ≡ false → result_of first slave es ≡ Unsent
unfolding result_of
unsent first slave es sent = rw sent refl

now_asked : (first slave : ℕ) (es : List Event) → is_sent slave es ≡ true → since_sending slave es ≡ []
    → result_of first slave es ≡ Unanswered
unfolding result_of
now_asked first slave es sent since = rw (sent, since) refl

pub step_by : (first slave : ℕ) (es : List Event) (e : Event) (b : Bool) → is_sending slave e ≡ b
    → is_sent slave es ≡ false
    → result_of first slave (es ++ e ∷ []) ≡ cond b Unanswered Unsent
step_by first slave es e true sending sent =
    now_asked first slave (es ++ e ∷ []) (sent_now slave es e sent ∙ sending) (since_now slave es e sent sending)
step_by first slave es e false sending sent =
    unsent first slave (es ++ e ∷ []) (sent_now slave es e sent ∙ sending)

step_now : (first slave : ℕ) (es : List Event) (e : Event) → is_sent slave es ≡ false
    → result_of first slave (es ++ e ∷ []) ≡ after first slave e (result_of first slave es)
step_now first slave es e sent =
    step_by first slave es e (is_sending slave e) refl sent
    ∙ ap (λ (o : Outcome). after first slave e o) (sym (unsent first slave es sent))

-- ---- any slave

step_of : (first slave : ℕ) (es : List Event) (e : Event) (b : Bool) → is_sent slave es ≡ b
    → result_of first slave (es ++ e ∷ []) ≡ after first slave e (result_of first slave es)
step_of first slave es e true sent = step_before first slave es e sent
step_of first slave es e false sent = step_now first slave es e sent

pub step : (first slave : ℕ) (es : List Event) (e : Event)
    → result_of first slave (es ++ e ∷ []) ≡ after first slave e (result_of first slave es)
step first slave es e = step_of first slave es e (is_sent slave es) refl

pub sent_step : (slave : ℕ) (es : List Event) (e : Event)
    → is_sent slave (es ++ e ∷ []) ≡ (is_sent slave es || is_sending slave e)
sent_step slave es e =
    list_any-append (is_sending slave) es (e ∷ [])
    ∙ ap (λ (b : Bool). is_sent slave es || b) (or_false (is_sending slave e))

pub passed_before : (slave : ℕ) (es : List Event) (e : Event) → is_sent slave es ≡ true
    → is_passed_over slave (es ++ e ∷ []) ≡ (is_passed_over slave es || is_quiet e)
passed_before slave es e sent =
    ap (λ (xs : List Event). list_any is_quiet xs) (since_before slave es e sent)
    ∙ list_any-append is_quiet (since_sending slave es) (e ∷ [])
    ∙ ap (λ (b : Bool). is_passed_over slave es || b) (or_false (is_quiet e))

pub passed_now : (slave : ℕ) (es : List Event) (e : Event) → is_sent slave es ≡ false → is_sending slave e ≡ true
    → is_passed_over slave (es ++ e ∷ []) ≡ false
passed_now slave es e sent now = ap (λ (xs : List Event). list_any is_quiet xs) (since_now slave es e sent now)

pub asked_step : (es : List Event) (e : Event) → asked (es ++ e ∷ []) ≡ asked es ++ cons_option (asked_by e) []
unfolding asked
asked_step es e = filter_map-append asked_by es (e ∷ [])
