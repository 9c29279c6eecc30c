-- A server that leaves what it can't do at once, and a carrier that does what was left, in several steps.
use Rattle.std.proofs.Common.{◌≡◌, ◌≤◌, ℕ, Bool, true, false, List, [], ◌∷◌, ◌++◌, length, map, Option, None, Some, Result, Ok, Err}
use Rattle.std.proofs.Common.{refl, sym, ap, subst, ◌∙◌, append_assoc, arith}
use Rattle.std.specs.Prelude.{is_err, IfNone, MatchOption, OnOk, OnErr}
use Rattle.std.proofs.lemmas.List.{append-nil}
use Rattle.crossbeam_queue.specs.Fifo.{Held}
use Rattle.yp_io.specs.Counts.{HasRisen}
use Rattle.yp_io.specs.Dials.{GainsItem}
use Rattle.yp_io.specs.Inboxes.{InboxEvent, Sent}
use Rattle.yp_io.specs.declared.stream.Peer.{Peer}
use Rattle.yp_board.specs.Logs.{Log}
use Rattle.yp_board.specs.Views.{Seen, IsFront}
use Rattle.yp_answer.specs.declared.procedure.Path.TheVariants.{Datagram}
use Rattle.yp_answer.specs.session.Hosts.{Conduct, Turn, CarriesOut}
use Rattle.yp_answer.specs.session.Makes.{may_make}
use Rattle.yp_rpc.specs.Turns.{InboxTells, datagram_max}
use Rattle.yp_worker.specs.Working.{IsTold}
use Rattle.yp_worker.specs.datagrams.Mailing.{Awaited, Deferred, Transfer, Call, QueueName, Holding, Mailing, AnswersMail, CarriesAll, Clears}
use Rattle.yp_worker.specs.datagrams.Mailing.{held_behind, carried_where, left_where}
use Rattle.yp_worker.specs.datagrams.Queues.{WeighTheSame}
use Rattle.yp_worker.specs.datagrams.Serving.{reply_posts}
use Rattle.yp_worker.specs.datagrams.Carrying.{CarrierStep, Carried, Replied, AnswersLeft, TakesCarrierStep, TakesCarrierSteps, Sends, Delivers, left_for, sent_in, sent_over}
use Rattle.yp_worker.proofs.datagrams.Answering.{Later, later_then, same}
use Rattle.yp_worker.proofs.datagrams.Sending.{sends_none, sends_one, sends_then}
use Rattle.yp_worker.specs.inside.Queues.{Dealt, all_parts, Balances}
use Rattle.yp_worker.specs.inside.Mailing.{Carrying, carrier_told, FaultsRise, CarrierState, carrier_state, DoesLeft, CarriesOn, CarriesRest, sent_unless}

pub behind_twice : (holding : Holding) (a t b u : List Deferred)
    → held_behind (held_behind holding a t) b u ≡ held_behind holding (a ++ b) (t ++ u)
behind_twice holding a t b u = λ i. record holding { left = append_assoc holding.left a b i; took = append_assoc holding.took t u i }

pub behind_nothing : (holding : Holding) → holding ≡ held_behind holding [] []
behind_nothing holding = λ i. record holding { left = sym (append-nil holding.left) i; took = sym (append-nil holding.took) i }

-- a queue that held nothing, for the one who has all parts
held_none : (v : Dealt) → Held 0 (Balances v) → v.parts ≡ all_parts → WeighTheSame v.left v.took
held_none v ([], none, balances) all weight = let b = balances all weight in omega (arith, b)
held_none v (one ∷ items, none, balances) all weight = absurd (omega (arith, none))

pub none_waits : {D : Type 0} (result : Option D) (same : Type 0) (taken : D → Type 0) (v : Dealt) (queue : QueueName) (held : Holding)
    → MatchOption result (same × Held 0 (Balances v)) taken
    → record { queue = queue; parts = v.parts; left = v.left; took = v.took } ≡ held
    → IfNone result (held.parts ≡ all_parts → WeighTheSame held.left held.took)
none_waits None same taken v queue held rule is =
    subst (λ (h : Holding). h.parts ≡ all_parts → WeighTheSame h.left h.took) is (held_none v rule.1)
none_waits (Some one) same taken v queue held rule is = tt

-- ---- a server that clears what waits

module _ {H : Type 0} (conduct : Conduct H) where
  -- no transfer waited
  pub clears_none : (a b : Mailing H) → a.waiting ≡ None → b ≡ a → Clears conduct a b
  clears_none a b none is = record {
    is_carried = false;
    carries = ap (λ (m : Mailing H). m.host) is;
    cleared = ap (λ (m : Mailing H). m.waiting) is ∙ none;
    holding = ap (λ (m : Mailing H). m.holding) is ∙ behind_nothing a.holding
        ∙ ap (λ (w : Option Awaited). held_behind a.holding (left_where false w) []) (sym none);
  }

  -- the transfer that waited was left, or carried out
  pub clears_one : (is_carried : Bool) (one : Awaited) (a b : Mailing H) → a.waiting ≡ Some one
      → CarriesAll conduct (carried_where is_carried (Some one)) a.host b.host → b.waiting ≡ None
      → b.holding ≡ held_behind a.holding (left_where is_carried (Some one)) [] → Clears conduct a b
  clears_one is_carried one a b some carries none holding = record {
    is_carried = is_carried;
    carries = subst (λ (w : Option Awaited). CarriesAll conduct (carried_where is_carried w) a.host b.host) (sym some) carries;
    cleared = none;
    holding = holding ∙ ap (λ (w : Option Awaited). held_behind a.holding (left_where is_carried w) []) (sym some);
  }

-- the transfer that something left is
transfer_in : Awaited → Deferred → Awaited
transfer_in other (Transfer one) = one
transfer_in other (Call peer message known) = other

pub same_transfer : (one two : Awaited) → Transfer one ≡ Transfer two → one ≡ two
unfolding transfer_in
same_transfer one two e = ap (transfer_in one) e

-- ---- what is sent

sent_append : (xs ys : List CarrierStep) → sent_over (xs ++ ys) ≡ sent_over xs ++ sent_over ys
sent_append [] ys = refl
sent_append (x ∷ xs) ys =
    ap (λ (l : List InboxEvent). sent_in x ++ l) (sent_append xs ys) ∙ sym (append_assoc (sent_in x) (sent_over xs) (sent_over ys))

left_append : (xs ys : List CarrierStep) → map left_for (xs ++ ys) ≡ map left_for xs ++ map left_for ys
left_append [] ys = refl
left_append (x ∷ xs) ys = ap (λ (l : List Deferred). left_for x ∷ l) (left_append xs ys)

sent_never : (fault : Bool) → sent_unless fault [] ≡ []
sent_never true = refl
sent_never false = refl

-- a reply that is sent, or not, where the inbox hasn't failed before
pub sent_or_not : {X E : Type 0} (sent : Result X E) (peer : Peer) (bytes : List ℕ) (answer : Option (List ℕ)) (a b : InboxTells)
    → answer ≡ Some bytes → OnOk sent (GainsItem (Sent peer bytes) a.past b.past) → OnErr sent (b.past ≡ a.past)
    → b.turns ≡ a.turns → b.quiets ≡ a.quiets → Sends (sent_unless (is_err sent) (reply_posts peer answer)) a b
sent_or_not (Ok x) peer bytes answer a b some gains none turns quiets =
    subst (λ (r : Option (List ℕ)). Sends (reply_posts peer r) a b) (sym some) (sends_one peer bytes gains turns quiets)
sent_or_not (Err e) peer bytes answer a b some gains none turns quiets = sends_none none turns quiets

-- the count of faults of an inbox meanwhile
pub rises_at : {X E I : Type 0} (faults : I → ℕ) (sent : Result X E) (old new : I) → faults old ≤ faults new
    → OnErr sent (HasRisen (faults old) (faults new)) → FaultsRise false (is_err sent) (faults old) (faults new)
rises_at faults (Ok x) old new never risen = record { never_fall = never; risen = λ _ some. cc }
rises_at faults (Err e) old new never risen = record { never_fall = never; risen = λ _ _. risen }

pub rises_never : {I : Type 0} (faults : I → ℕ) (before after : Bool) (old new : I) → after ≡ before → new ≡ old
    → FaultsRise before after (faults old) (faults new)
rises_never faults before after old new same is = record {
  never_fall = let e : faults new ≡ faults old = ap faults is in omega (arith, e);
  risen = λ none some. let no : true ≡ false = sym some ∙ same ∙ none in cc;
}

rises_then : (f g h : Bool) (a b c : ℕ) → FaultsRise f g a b → FaultsRise g h b c → FaultsRise f h a c
rises_then f true h a b c first second = record {
  never_fall = omega (arith, first.never_fall, second.never_fall);
  risen = λ none some. omega (arith, first.risen none refl, second.never_fall);
}
rises_then f false h a b c first second = record {
  never_fall = omega (arith, first.never_fall, second.never_fall);
  risen = λ none some. omega (arith, first.never_fall, second.risen refl some);
}

-- ---- the steps of a carrier

-- steps that were sent and those that weren't, in one list
together : (s t v : List CarrierStep) → (s ++ t) ++ v ≡ (s ++ []) ++ (t ++ v)
together s t v = append_assoc s t v ∙ ap (λ (l : List CarrierStep). l ++ (t ++ v)) (sym (append-nil s))

module _ {I H T : Type 0} (conduct : Conduct H) (counted : H → T) (box : I → InboxTells) (faults : I → ℕ) where
  -- a call that was left was answered
  pub left_answered : (peer : Peer) (message : List ℕ) (known : Log) (turn : Turn) (old mid new : H) → turn.message ≡ message
      → may_make Datagram peer message ≡ true → length message ≤ datagram_max → IsTold conduct counted old mid
      → IsFront known (conduct.seen mid).known → AnswersMail conduct peer turn mid new
      → AnswersLeft conduct counted peer turn known old new
  left_answered peer message known turn old mid new is makes short told reached answers = record {
    makes = subst (λ (l : List ℕ). may_make Datagram peer l ≡ true) (sym is) makes;
    short = subst (λ (l : List ℕ). length l ≤ datagram_max) (sym is) short;
    mid = mid;
    told = told;
    reached = reached;
    answers = answers;
  }

  step_later : (step : CarrierStep) (old new : H) → TakesCarrierStep conduct counted step old new
      → Later (conduct.seen old) (conduct.seen new)
  step_later (Carried one) old new out = record { grown = out.grown; catalogue = out.catalogue }
  step_later (Replied peer turn known) old new left =
      later_then (conduct.seen old) (conduct.seen left.mid) (conduct.seen new)
      (record { grown = left.told.learned.grown; catalogue = ap (λ (s : Seen). s.catalogue) left.told.learned.same })
      (record { grown = left.answers.grown; catalogue = left.answers.catalogue })

  -- what a carrier knows after its steps
  pub steps_later : (steps : List CarrierStep) (old new : H) → TakesCarrierSteps conduct counted steps old new
      → Later (conduct.seen old) (conduct.seen new)
  steps_later [] old new takes = same conduct old new takes
  steps_later (step ∷ steps) old new takes =
      later_then (conduct.seen old) (conduct.seen takes.0) (conduct.seen new) (step_later step old takes.0 takes.1)
      (steps_later steps takes.0 new takes.2)

  -- the catalogue stays where what was left is done
  pub done_keeps : (left : Deferred) (old new : CarrierState H) → DoesLeft conduct counted left old new
      → (conduct.seen new.host).catalogue ≡ (conduct.seen old.host).catalogue
  done_keeps left old new does = (step_later does.step old.host new.host does.takes).catalogue

  steps_then : (xs ys : List CarrierStep) (a b c : H) → TakesCarrierSteps conduct counted xs a b
      → TakesCarrierSteps conduct counted ys b c → TakesCarrierSteps conduct counted (xs ++ ys) a c
  steps_then [] ys a b c first second = subst (λ (h : H). TakesCarrierSteps conduct counted ys h c) first second
  steps_then (x ∷ xs) ys a b c first second = (first.0, first.1, steps_then xs ys first.0 b c first.2 second)

  pub none_on : (a : Carrying I H) → CarriesOn conduct counted box faults a a
  none_on a = record {
    steps = [];
    unsent = [];
    delivers = record { takes = refl; sends = sends_none refl refl refl; whole = λ _. refl };
    ended = λ is. (refl, is);
    cause = rises_never faults a.fault a.fault a.inbox a.inbox refl refl;
    holding = behind_nothing a.holding;
  }

  -- nothing waited
  pub still_on : (host : H) (inbox : I) (fault : Bool) (p q : Holding) → q ≡ p
      → CarriesOn conduct counted box faults (record { host = host; holding = p; inbox = inbox; fault = fault })
      (record { host = host; holding = q; inbox = inbox; fault = fault })
  still_on host inbox fault p q is =
      subst
      (λ (h : Holding). CarriesOn conduct counted box faults (record { host = host; holding = p; inbox = inbox; fault = fault })
      (record { host = host; holding = h; inbox = inbox; fault = fault }))
      (sym is) (none_on (record { host = host; holding = p; inbox = inbox; fault = fault }))

  one_on_where : (fault : Bool) (step : CarrierStep) (a b : Carrying I H) → b.fault ≡ fault
      → TakesCarrierStep conduct counted step a.host b.host
      → Sends (sent_unless fault (sent_in step)) (box a.inbox) (box b.inbox) → (a.fault ≡ true → b.fault ≡ true)
      → FaultsRise a.fault b.fault (faults a.inbox) (faults b.inbox) → b.holding ≡ held_behind a.holding [] (left_for step ∷ [])
      → CarriesOn conduct counted box faults a b
  one_on_where true step a b is takes sends ended cause holding = record {
    steps = [];
    unsent = step ∷ [];
    delivers = record {
      takes = (b.host, takes, refl);
      sends = sends;
      whole = λ none. let no : true ≡ false = sym is ∙ none in cc;
    };
    ended = λ some. (refl, ended some);
    cause = cause;
    holding = holding;
  }
  one_on_where false step a b is takes sends ended cause holding = record {
    steps = step ∷ [];
    unsent = [];
    delivers = record {
      takes = (b.host, takes, refl);
      sends = subst (λ (l : List InboxEvent). Sends l (box a.inbox) (box b.inbox)) (sym (append-nil (sent_in step))) sends;
      whole = λ _. refl;
    };
    ended = λ some. let no : true ≡ false = sym (ended some) ∙ is in cc;
    cause = cause;
    holding = holding;
  }

  -- a transfer was carried out
  pub transfer_done : (one : Awaited) (fault : Bool) (old new : H) (inbox : I) → CarriesOut conduct one.0 one.1 old new
      → DoesLeft conduct counted (Transfer one) (carrier_state box faults old inbox fault) (carrier_state box faults new inbox fault)
  transfer_done one fault old new inbox out = record {
    step = Carried one;
    step_is = refl;
    takes = out;
    sends = subst (λ (l : List InboxEvent). Sends l (box inbox) (box inbox)) (sym (sent_never fault)) (sends_none refl refl refl);
    ended = λ some. some;
    cause = rises_never faults fault fault inbox inbox refl refl;
  }

  -- a call was answered, and its reply sent or not
  pub call_done : (peer : Peer) (message : List ℕ) (known : Log) (turn : Turn) (before after : Bool) (old new : H) (inbox inbox' : I)
      → turn.message ≡ message → AnswersLeft conduct counted peer turn known old new
      → Sends (sent_unless after (reply_posts peer turn.answer)) (box inbox) (box inbox') → (before ≡ true → after ≡ true)
      → FaultsRise before after (faults inbox) (faults inbox')
      → DoesLeft conduct counted (Call peer message known) (carrier_state box faults old inbox before)
      (carrier_state box faults new inbox' after)
  call_done peer message known turn before after old new inbox inbox' is answers sends ended cause = record {
    step = Replied peer turn known;
    step_is = ap (λ (l : List ℕ). Call peer l known) is;
    takes = answers;
    sends = sends;
    ended = ended;
    cause = cause;
  }

  -- what was taken over was done
  pub done_on : (left : Deferred) (a b : Carrying I H)
      → DoesLeft conduct counted left (carrier_state box faults a.host a.inbox a.fault) (carrier_state box faults b.host b.inbox b.fault)
      → b.holding ≡ held_behind a.holding [] (left ∷ []) → CarriesOn conduct counted box faults a b
  done_on left a b does holding =
      one_on_where b.fault does.step a b refl does.takes does.sends does.ended does.cause
      (holding ∙ ap (λ (d : Deferred). held_behind a.holding [] (d ∷ [])) (sym does.step_is))

  on_then_where : (fault : Bool) (a b c : Carrying I H) → b.fault ≡ fault → CarriesOn conduct counted box faults a b
      → CarriesOn conduct counted box faults b c → CarriesOn conduct counted box faults a c
  on_then_where true a b c is first second =
      let over = second.ended is in
      let all = append_assoc first.steps first.unsent (second.steps ++ second.unsent) in
      record {
        steps = first.steps;
        unsent = first.unsent ++ (second.steps ++ second.unsent);
        delivers = record {
          takes = subst (λ (l : List CarrierStep). TakesCarrierSteps conduct counted l a.host c.host) all
              (steps_then (first.steps ++ first.unsent) (second.steps ++ second.unsent) a.host b.host c.host
              first.delivers.takes second.delivers.takes);
          sends = subst (λ (l : List InboxEvent). Sends l (box a.inbox) (box c.inbox)) (append-nil (sent_over first.steps))
              (sends_then first.delivers.sends
              (subst (λ (l : List CarrierStep). Sends (sent_over l) (box b.inbox) (box c.inbox)) over.0 second.delivers.sends));
          whole = λ none. let no : true ≡ false = sym over.1 ∙ none in cc;
        };
        ended = λ some. ((first.ended some).0, over.1);
        cause = rises_then a.fault b.fault c.fault (faults a.inbox) (faults b.inbox) (faults c.inbox) first.cause second.cause;
        holding = second.holding
            ∙ ap (λ (h : Holding). held_behind h [] (map left_for (second.steps ++ second.unsent))) first.holding
            ∙ behind_twice a.holding [] (map left_for (first.steps ++ first.unsent)) [] (map left_for (second.steps ++ second.unsent))
            ∙ ap (λ (l : List Deferred). held_behind a.holding [] l)
            (sym (left_append (first.steps ++ first.unsent) (second.steps ++ second.unsent)) ∙ ap (map left_for) all);
      }
  on_then_where false a b c is first second =
      let none = first.delivers.whole is in
      let all : (first.steps ++ first.unsent) ++ (second.steps ++ second.unsent) ≡ (first.steps ++ second.steps) ++ second.unsent =
      ap (λ (l : List CarrierStep). (first.steps ++ l) ++ (second.steps ++ second.unsent)) none
      ∙ sym (together first.steps second.steps second.unsent) in
      record {
        steps = first.steps ++ second.steps;
        unsent = second.unsent;
        delivers = record {
          takes = subst (λ (l : List CarrierStep). TakesCarrierSteps conduct counted l a.host c.host) all
              (steps_then (first.steps ++ first.unsent) (second.steps ++ second.unsent) a.host b.host c.host
              first.delivers.takes second.delivers.takes);
          sends = subst (λ (l : List InboxEvent). Sends l (box a.inbox) (box c.inbox)) (sym (sent_append first.steps second.steps))
              (sends_then first.delivers.sends second.delivers.sends);
          whole = second.delivers.whole;
        };
        ended = λ some. let no : true ≡ false = sym (first.ended some).1 ∙ is in cc;
        cause = rises_then a.fault b.fault c.fault (faults a.inbox) (faults b.inbox) (faults c.inbox) first.cause second.cause;
        holding = second.holding
            ∙ ap (λ (h : Holding). held_behind h [] (map left_for (second.steps ++ second.unsent))) first.holding
            ∙ behind_twice a.holding [] (map left_for (first.steps ++ first.unsent)) [] (map left_for (second.steps ++ second.unsent))
            ∙ ap (λ (l : List Deferred). held_behind a.holding [] l)
            (sym (left_append (first.steps ++ first.unsent) (second.steps ++ second.unsent)) ∙ ap (map left_for) all);
      }

  pub on_then : (a b c : Carrying I H) → CarriesOn conduct counted box faults a b → CarriesOn conduct counted box faults b c
      → CarriesOn conduct counted box faults a c
  on_then a b c first second = on_then_where b.fault a b c refl first second

  -- the last step found that nothing waits
  pub rest_of : (a mid b : Carrying I H) → CarriesOn conduct counted box faults a mid → CarriesOn conduct counted box faults mid b
      → (mid.holding.parts ≡ all_parts → WeighTheSame b.holding.left b.holding.took) → CarriesRest conduct counted box faults a b
  rest_of a mid b first last all = record {
    carries = on_then a mid b first last;
    all = λ whole. all (ap (λ (h : Holding). h.parts) first.holding ∙ whole);
  }

  -- a carrier that took in what servers held, between two steps
  pub on_aside : (a b mid c : Carrying I H) → CarriesOn conduct counted box faults a b → mid ≡ record b { holding = mid.holding }
      → (second : CarriesOn conduct counted box faults mid c)
      → CarriesOn conduct counted box faults a
      (record c { holding = held_behind b.holding [] (map left_for (second.steps ++ second.unsent)) })
  on_aside a b mid c first is second =
      on_then a b (record c { holding = held_behind b.holding [] (map left_for (second.steps ++ second.unsent)) }) first (record {
        steps = second.steps;
        unsent = second.unsent;
        delivers = subst (λ (m : Carrying I H). Delivers conduct counted (record { sent = second.steps; unsent = second.unsent })
            c.fault (carrier_told box m) (carrier_told box c)) is second.delivers;
        ended = λ some. second.ended (ap (λ (m : Carrying I H). m.fault) is ∙ some);
        cause = subst (λ (m : Carrying I H). FaultsRise m.fault c.fault (faults m.inbox) (faults c.inbox)) is second.cause;
        holding = refl;
      })
