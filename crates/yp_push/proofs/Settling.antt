-- Which events settle a slave, and which change no result.
use Rattle.std.proofs.Common.{◌≡◌, ℕ, ◌+◌, ◌-◌, ◌%◌, ◌^◌, ◌<◌, ◌≤◌, Bool, true, false, ltb, eqb, ◌&&◌}
use Rattle.std.proofs.Common.{List, length, Some, None, refl, sym, ap, subst, ◌∙◌, arith, inl, inr, ◌⊎◌}
use Rattle.std.proofs.lemmas.Bool.{cases_eq, ne_eqb, le-ltb, lt-ltb}
use Rattle.std.proofs.lemmas.Bool.Decides.{Decides-eqb}
use Rattle.std.proofs.lemmas.List.FromFn.{length-range_with_len}
use Rattle.yp_messages.specs.declared.transfer.XfrStat.{XfrStat}
use Rattle.yp_push.specs.declared.event.Event.{Event}
use Rattle.yp_push.specs.declared.event.Event.TheVariants.{Failed, Refused, Called}
use Rattle.yp_push.specs.declared.outcome.Missed.{Missed}
use Rattle.yp_push.specs.declared.outcome.Outcome.{Outcome}
use Rattle.yp_push.specs.declared.outcome.Outcome.TheVariants.{Unsent, Unanswered, Missed as WasMissed, Answered}
use Rattle.yp_push.specs.Results.{transid_of}
use Rattle.yp_push.specs.inside.Results.{awaits_call}
use Rattle.yp_push.specs.Ledgers.{slaves_max, Ledger, outcome_at, asked}
use Rattle.yp_push.specs.Ledgers.{outstanding, next_sending}
use Rattle.yp_push.specs.inside.Ledgers.{IsUnanswered, Awaits}
use Rattle.yp_push.specs.inside.Settling.{SettlesSlave, ChangesNone}
use Rattle.yp_push.specs.inside.Kept.{Keeps}
use Rattle.yp_push.proofs.Steps.{moved, step}
use Rattle.yp_push.proofs.Keeping.{unmoved, same_number}

-- ---- at once

pub fails : (ledger : Ledger) (slave : ℕ) (missed : Missed) → IsUnanswered ledger slave
    → SettlesSlave ledger slave (WasMissed missed) (Failed slave missed)
fails ledger slave missed was =
    let e : Event = Failed slave missed in
    record {
      within = was.within;
      awaited = rw was.unanswered refl;
      settled = refl;
      to = step ledger.first slave ledger.events e ∙ rw (was.unanswered, same_number slave) refl;
      others = λ i lt differs.
          let isnt : eqb slave i ≡ false = ne_eqb slave i (λ q. differs (sym q)) in
          step ledger.first i ledger.events e ∙ rw isnt (unmoved (outcome_at ledger i));
      tells = record { asks_none = refl; is_heard = refl };
    }

pub refuses : (ledger : Ledger) (slave : ℕ) (stat : XfrStat) → IsUnanswered ledger slave
    → SettlesSlave ledger slave (Answered stat) (Refused slave stat)
refuses ledger slave stat was =
    let e : Event = Refused slave stat in
    record {
      within = was.within;
      awaited = rw was.unanswered refl;
      settled = refl;
      to = step ledger.first slave ledger.events e ∙ rw (was.unanswered, same_number slave) refl;
      others = λ i lt differs.
          let isnt : eqb slave i ≡ false = ne_eqb slave i (λ q. differs (sym q)) in
          step ledger.first i ledger.events e ∙ rw isnt (unmoved (outcome_at ledger i));
      tells = record { asks_none = refl; is_heard = refl };
    }

-- ---- by a later call

-- the slave of a transaction
abbrev pub slave_of : (first transid : ℕ) → ℕ
slave_of first transid = (transid + (2 ^ 32 - first)) % 2 ^ 32

pub transid-slave : (first transid : ℕ) → first < 2 ^ 32 → transid < 2 ^ 32
    → transid_of first (slave_of first transid) ≡ transid
transid-slave first transid low below = omega arith

pub slave-transid : (first slave : ℕ) → first < 2 ^ 32 → slave < 2 ^ 32
    → slave ≡ slave_of first (transid_of first slave)
slave-transid first slave low below = omega arith

-- a slave that awaits a call has then answered
answers : (o : Outcome) (stat : XfrStat) → awaits_call o ≡ true → moved false (Some stat) None o ≡ Answered stat
answers Unsent stat awaits = absurd cc
answers Unanswered stat awaits = refl
answers (WasMissed m) stat awaits = refl
answers (Answered s) stat awaits = absurd cc

-- nothing becomes of one that doesn't
stays : (o : Outcome) (stat : XfrStat) → awaits_call o ≡ false → moved false (Some stat) None o ≡ o
stays Unsent stat awaits = refl
stays Unanswered stat awaits = absurd cc
stays (WasMissed m) stat awaits = absurd cc
stays (Answered s) stat awaits = refl

pub calls : (ledger : Ledger) (transid slave : ℕ) (stat : XfrStat) → ledger.slaves ≤ slaves_max
    → ledger.first < 2 ^ 32 → slave < ledger.slaves → transid_of ledger.first slave ≡ transid
    → awaits_call (outcome_at ledger slave) ≡ true → SettlesSlave ledger slave (Answered stat) (Called transid stat)
calls ledger transid slave stat few low within named awaits =
    let e : Event = Called transid stat in
    record {
      within = within;
      awaited = awaits;
      settled = refl;
      to =
          let same : eqb transid (transid_of ledger.first slave) ≡ true =
          (Decides-eqb transid (transid_of ledger.first slave)).1 (sym named) in
          step ledger.first slave ledger.events e ∙ rw same (answers (outcome_at ledger slave) stat awaits);
      others = λ i lt differs.
          let other : eqb transid (transid_of ledger.first i) ≡ false =
          ne_eqb transid (transid_of ledger.first i)
          (λ q.
          let one = slave-transid ledger.first i low (omega (arith, lt, few)) in
          let two = slave-transid ledger.first slave low (omega (arith, within, few)) in
          differs (one ∙ ap (λ (t : ℕ). slave_of ledger.first t) (sym q ∙ sym named) ∙ sym two)) in
          step ledger.first i ledger.events e ∙ rw other (unmoved (outcome_at ledger i));
      tells = record { asks_none = refl; is_heard = refl };
    }

-- a call with the transaction of no slave that awaits one
pub calls_none : (ledger : Ledger) (transid : ℕ) (stat : XfrStat)
    → ((i : ℕ) → i < ledger.slaves → transid_of ledger.first i ≡ transid
    → awaits_call (outcome_at ledger i) ≡ false)
    → ChangesNone ledger (Called transid stat)
calls_none ledger transid stat none =
    let e : Event = Called transid stat in
    record {
      same = λ i lt.
          elim (cases_eq transid (transid_of ledger.first i)) [
            | inl is ↦
                let same : eqb transid (transid_of ledger.first i) ≡ true =
                (Decides-eqb transid (transid_of ledger.first i)).1 is in
                step ledger.first i ledger.events e
                ∙ rw same (stays (outcome_at ledger i) stat (none i lt (sym is)))
            | inr differs ↦
                let other : eqb transid (transid_of ledger.first i) ≡ false =
                ne_eqb transid (transid_of ledger.first i) differs in
                step ledger.first i ledger.events e ∙ rw other (unmoved (outcome_at ledger i))
          ];
      tells = record { asks_none = refl; is_heard = refl };
    }

-- ---- the next sending

sent_len : (outcomes : List Outcome) (first sent passed count : ℕ) (es : List Event)
    → Keeps outcomes first sent passed count es → length (asked es) ≡ sent
sent_len outcomes first sent passed count es kept = ap length kept.in_order ∙ length-range_with_len 0 sent

and_false : (b : Bool) → (b && false) ≡ false
and_false true = refl
and_false false = refl

pub sends_none : (outcomes : List Outcome) (first window sent passed count : ℕ) (es : List Event)
    → Keeps outcomes first sent passed count es → (length outcomes ≤ sent) ⊎ (window ≤ count)
    → None ≡ next_sending (record { slaves = length outcomes; first = first; window = window; events = es })
sends_none outcomes first window sent passed count es kept (inl all) =
    let over : ltb (length (asked es)) (length outcomes) ≡ false =
    le-ltb _ _ (omega (arith, all, sent_len outcomes first sent passed count es kept)) in
    rw over refl
sends_none outcomes first window sent passed count es kept (inr full) =
    let over : ltb (outstanding first es) window ≡ false = le-ltb _ _ (omega (arith, full, kept.counted)) in
    rw (over, and_false (ltb (length (asked es)) (length outcomes))) refl

pub sends_one : (outcomes : List Outcome) (first window sent passed count : ℕ) (es : List Event)
    → Keeps outcomes first sent passed count es → sent < length outcomes → count < window
    → Some (record { slave = sent; transid = transid_of first sent })
    ≡ next_sending (record { slaves = length outcomes; first = first; window = window; events = es })
sends_one outcomes first window sent passed count es kept more room =
    let len = sent_len outcomes first sent passed count es kept in
    let below : ltb (length (asked es)) (length outcomes) ≡ true = lt-ltb _ _ (omega (arith, more, len)) in
    let under : ltb (outstanding first es) window ≡ true = lt-ltb _ _ (omega (arith, room, kept.counted)) in
    rw (below, under, len) refl

-- ---- whether a call is awaited

-- the slave of this transaction is one of them, and awaits a call
abbrev pub IsAwaitedOf : Ledger → ℕ → Type 0
IsAwaitedOf ledger transid =
    let slave = slave_of ledger.first transid in
    (slave < ledger.slaves) × (awaits_call (outcome_at ledger slave) ≡ true)

not_true : (b : Bool) → (b ≡ true → ⊥) → b ≡ false
not_true true never = absurd (never refl)
not_true false never = refl

-- a slave of this transaction is that one
is_slave_of : (ledger : Ledger) (transid i : ℕ) → ledger.slaves ≤ slaves_max → ledger.first < 2 ^ 32
    → i < ledger.slaves → transid_of ledger.first i ≡ transid → i ≡ slave_of ledger.first transid
is_slave_of ledger transid i few low lt named =
    slave-transid ledger.first i low (omega (arith, lt, few)) ∙ ap (λ (t : ℕ). slave_of ledger.first t) named

pub unheard : (ledger : Ledger) (transid : ℕ) (stat : XfrStat) → ledger.slaves ≤ slaves_max → ledger.first < 2 ^ 32
    → (IsAwaitedOf ledger transid → false ≡ true) → ChangesNone ledger (Called transid stat)
unheard ledger transid stat few low never =
    calls_none ledger transid stat
    (λ i lt named.
    let is = is_slave_of ledger transid i few low lt named in
    not_true (awaits_call (outcome_at ledger i))
    (λ awaits.
    let W : ℕ → Type 0 = λ slave. (slave < ledger.slaves) × (awaits_call (outcome_at ledger slave) ≡ true) in
    let wrong : false ≡ true = never (subst W is (lt, awaits)) in
    absurd cc))

pub heard : (ledger : Ledger) (transid : ℕ) (stat : XfrStat) → ledger.slaves ≤ slaves_max → ledger.first < 2 ^ 32
    → transid < 2 ^ 32 → IsAwaitedOf ledger transid
    → SettlesSlave ledger (slave_of ledger.first transid) (Answered stat) (Called transid stat)
heard ledger transid stat few low below awaits =
    calls ledger transid (slave_of ledger.first transid) stat few low awaits.0
    (transid-slave ledger.first transid low below) awaits.1

pub awaited : (ledger : Ledger) (transid : ℕ) (b : Bool) → ledger.slaves ≤ slaves_max → ledger.first < 2 ^ 32
    → transid < 2 ^ 32 → (b ≡ true → IsAwaitedOf ledger transid) → (IsAwaitedOf ledger transid → b ≡ true)
    → (b ≡ true → (slave : ℕ) × Awaits ledger transid slave) × (((slave : ℕ) × Awaits ledger transid slave) → b ≡ true)
awaited ledger transid b few low below one other = (
  λ is.
      let awaits = one is in (
        slave_of ledger.first transid,
        record {
          within = awaits.0;
          named = transid-slave ledger.first transid low below;
          open_ = awaits.1;
        },
      ),
  λ it.
      let is = is_slave_of ledger transid it.0 few low it.1.within it.1.named in
      let W : ℕ → Type 0 = λ slave. (slave < ledger.slaves) × (awaits_call (outcome_at ledger slave) ≡ true) in
      other (subst W is (it.1.within, it.1.open_)),
)
