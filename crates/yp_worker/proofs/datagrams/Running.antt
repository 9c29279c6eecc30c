-- A run of a handler, as turns that a server made.
use Rattle.std.proofs.Common.{◌⊎◌, ◌≡◌, ◌≤◌, ℕ, suc, Bool, true, false, List, [], ◌∷◌, ◌++◌, length, Option, Some, None, Result, Ok, Err, inl, inr, refl, sym, ap, subst, ◌∙◌, append_assoc, arith}
use Rattle.std.specs.Prelude.{IsSome}
use Rattle.std.proofs.lemmas.List.{append-nil}
use Rattle.yp_io.specs.declared.stream.Peer.{Peer}
use Rattle.yp_io.specs.declared.stream.Failed.{Failed}
use Rattle.yp_io.specs.Inboxes.{InboxEvent, Arrived}
use Rattle.yp_answer.specs.session.Hosts.{Counts, Conduct}
use Rattle.yp_rpc.specs.Turns.{Meets, drops, listens, replies, is_quiet, Runs, is_spent, is_done, sends, loses_letter, takes, loses_turn, loses_reply, InboxTells, datagram_max, turn_state, TakesTurns}
use Rattle.yp_rpc.specs.declared.turns.Ended.{Ended}
use Rattle.yp_rpc.specs.declared.turns.Ended.TheVariants.{Done, Spent}
use Rattle.yp_board.specs.Views.{Seen}
use Rattle.yp_worker.specs.Working.{IsTold}
use Rattle.yp_worker.specs.datagrams.Mailing.{Awaited, Deferred, Call, Holding, Mailing, AnswersMail, CarriesAll, Clears, Hears, Closes, carried_where, left_where, held_behind, mail_ways}
use Rattle.yp_worker.specs.datagrams.Serving.{MailTurn, Dropped, Rested, Answered, Forwarded, reply_posts, posts_in, posts_over, taken_for, left_in, left_over, counts_all, counts_in, counts_served, DoesTurn, DoesTurns, LosesAnswer, EndsTurns, ServesPosts, ServesMail}
use Rattle.yp_worker.proofs.datagrams.Answering.{Later, later_then, same}
use Rattle.yp_worker.proofs.datagrams.Carrying.{behind_twice, behind_nothing}

-- ---- what a server holds of the queue

holding_then : (old mid new : Holding) (a b : List Deferred) → mid ≡ held_behind old a [] → new ≡ held_behind mid b []
    → new ≡ held_behind old (a ++ b) []
holding_then old mid new a b first second =
    second ∙ ap (λ (h : Holding). held_behind h b []) first ∙ behind_twice old a [] b []

holding_at_end : (old mid new : Holding) (a : List Deferred) → mid ≡ held_behind old a [] → new ≡ mid
    → new ≡ held_behind old (a ++ []) []
holding_at_end old mid new a first kept =
    kept ∙ first ∙ ap (λ (l : List Deferred). held_behind old l []) (sym (append-nil a))

-- ---- where no transfer waits

nothing_carried : (is_carried : Bool) → carried_where is_carried None ≡ []
nothing_carried true = refl
nothing_carried false = refl

nothing_left : (is_carried : Bool) → left_where is_carried None ≡ []
nothing_left true = refl
nothing_left false = refl

idle_left : (is_carried : Bool) (waiting : Option Awaited) → waiting ≡ None → left_where is_carried waiting ≡ []
idle_left is_carried waiting none = ap (left_where is_carried) none ∙ nothing_left is_carried

module _ {H T : Type 0} (conduct : Conduct H) (counted : H → T) where
  ends_later : (most count : ℕ) (end : Result Ended Failed) (events : List InboxEvent) (old new : H)
      → EndsTurns conduct counted most count end events old new → EndsTurns conduct counted (suc most) (suc count) end events old new
  ends_later most count (Ok Spent) events old new ends = (ap suc ends.0, ends.1, ends.2)
  ends_later most count (Ok Done) events old new ends = absurd ends
  ends_later most count (Err why) events old new ends = let less = ends.0 in (omega (arith, less), ends.1)

  -- where no transfer is carried out the host stays as it is
  none_carried : (transfers : List Awaited) (old new : H) → transfers ≡ [] → CarriesAll conduct transfers old new → new ≡ old
  none_carried transfers old new is carries = subst (λ (l : List Awaited). CarriesAll conduct l old new) is carries

  -- each transfer that is carried out is counted
  all_counted : (transfers : List Awaited) (old new : H) → CarriesAll conduct transfers old new
      → conduct.counts new ≡ counts_all (conduct.counts old) transfers
  all_counted [] old new carries = ap conduct.counts carries
  all_counted (one ∷ more) old new carries =
      all_counted more carries.0 new carries.2 ∙ ap (λ (c : Counts). counts_all c more) carries.1.counted

  idle_ready : (is_carried : Bool) (waiting : Option Awaited) (old new : H) → waiting ≡ None
      → CarriesAll conduct (carried_where is_carried waiting) old new → new ≡ old
  idle_ready is_carried waiting old new none carries =
      none_carried (carried_where is_carried waiting) old new (ap (carried_where is_carried) none ∙ nothing_carried is_carried) carries

  -- one turn before others
  before : (most : ℕ) (events : List InboxEvent) (end : Result Ended Failed) (old waiting next new : Mailing H) (one : MailTurn)
      (here : List Deferred) → Clears conduct old waiting → (later : ServesPosts conduct counted most end events next new)
      → DoesTurn conduct counted one waiting.host later.ready
      → conduct.counts later.ready ≡ counts_in (conduct.counts waiting.host) one
      → next.holding ≡ held_behind waiting.holding here [] → here ++ left_where later.first next.waiting ≡ left_in one
      → ServesPosts conduct counted (suc most) end (posts_in one ++ events) old new
  before most events end old waiting next new one here clears later does counts kept left =
      let first = left_where clears.is_carried old.waiting in
      let behind = left_where later.first next.waiting in
      let in_turns : here ++ (behind ++ left_over later.served) ≡ left_in one ++ left_over later.served =
      sym (append_assoc here behind (left_over later.served)) ∙ ap (λ (l : List Deferred). l ++ left_over later.served) left in
      record {
        first = clears.is_carried;
        ready = waiting.host;
        carries = clears.carries;
        served = one ∷ later.served;
        last = later.last;
        does = (later.ready, does, later.does);
        counts = later.counts ∙ ap (λ (c : Counts). counts_served c later.served) counts;
        rest = later.rest;
        ends = ends_later most (length later.served) end later.rest later.last new.host later.ends;
        all = ap (λ (l : List InboxEvent). posts_in one ++ l) later.all
            ∙ sym (append_assoc (posts_in one) (posts_over later.served) later.rest);
        cleared = later.cleared;
        holding = holding_then old.holding waiting.holding new.holding first (here ++ (behind ++ left_over later.served)) clears.holding
            (holding_then waiting.holding next.holding new.holding here (behind ++ left_over later.served) kept later.holding)
            ∙ ap (λ (l : List Deferred). held_behind old.holding (first ++ l) []) in_turns;
      }

  -- a datagram that was heard, before others
  heard_before : (most : ℕ) (events : List InboxEvent) (end : Result Ended Failed) (old waiting next new : Mailing H)
      (from : Peer) (bytes : List ℕ) (answer : Option (List ℕ))
      → Clears conduct old waiting → length bytes ≤ datagram_max → Hears conduct from bytes answer waiting next
      → ServesPosts conduct counted most end events next new
      → ServesPosts conduct counted (suc most) end (Arrived from bytes ∷ reply_posts from answer ++ events) old new
  heard_before most events end old waiting next new from bytes answer clears short (inl heard) later =
      let turn = heard.turn in
      let carries : CarriesAll conduct (carried_where later.first (taken_for from turn)) next.host later.ready =
      subst (λ (w : Option Awaited). CarriesAll conduct (carried_where later.first w) next.host later.ready) heard.waits later.carries in
      let whole = before most events end old waiting next new (Answered from turn later.first) [] clears later (
        subst (λ (l : List ℕ). length l ≤ datagram_max) (sym heard.message_is) short,
        record { mid = next.host; answers = heard.answers; carries = carries },
      )
      (all_counted (carried_where later.first (taken_for from turn)) next.host later.ready carries
      ∙ ap (λ (c : Counts). counts_all c (carried_where later.first (taken_for from turn))) heard.answers.counts)
      (heard.holding ∙ behind_nothing waiting.holding) (ap (left_where later.first) heard.waits) in
      subst (λ (l : List ℕ). ServesPosts conduct counted (suc most) end (Arrived from l ∷ reply_posts from answer ++ events) old new) heard.message_is
      (subst (λ (a : Option (List ℕ)). ServesPosts conduct counted (suc most) end (Arrived from turn.message ∷ reply_posts from a ++ events) old new)
      heard.answer_is whole)
  heard_before most events end old waiting next new from bytes answer clears short (inr forwards) later =
      let known = (conduct.seen waiting.host).known in
      let ready = idle_ready later.first next.waiting next.host later.ready forwards.waits later.carries ∙ forwards.host in
      let whole = before most events end old waiting next new (Forwarded from bytes known) (Call from bytes known ∷ []) clears later
      (short, record { makes = forwards.makes; known_is = refl; same = ready }) (ap conduct.counts ready) forwards.holding
      (ap (λ (l : List Deferred). Call from bytes known ∷ l) (idle_left later.first next.waiting forwards.waits)) in
      subst (λ (a : Option (List ℕ)). ServesPosts conduct counted (suc most) end (Arrived from bytes ∷ reply_posts from a ++ events) old new)
      (sym forwards.answer_is) whole

  met_before : (most : ℕ) (turn : InboxEvent) (answers events : List InboxEvent) (end : Result Ended Failed) (old waiting next new : Mailing H)
      → Clears conduct old waiting → Meets (mail_ways conduct counted) turn answers waiting next
      → ServesPosts conduct counted most end events next new → ServesPosts conduct counted (suc most) end (turn ∷ answers ++ events) old new
  met_before most turn answers events end old waiting next new clears (drops from bytes handler long) later =
      let ready = idle_ready later.first waiting.waiting waiting.host later.ready clears.cleared later.carries in
      before most events end old waiting waiting new (Dropped from bytes) [] clears later (long, ready) (ap conduct.counts ready)
      (behind_nothing waiting.holding) (idle_left later.first waiting.waiting clears.cleared)
  met_before most turn answers events end old waiting next new clears (listens from bytes a b short heard) later =
      heard_before most events end old waiting next new from bytes None clears short heard later
  met_before most turn answers events end old waiting next new clears (replies from bytes reply a b short heard) later =
      heard_before most events end old waiting next new from bytes (Some reply) clears short heard later
  met_before most turn answers events end old waiting next new clears (is_quiet a b rests) later =
      let cleared = rests.waiting ∙ clears.cleared in
      let ready = idle_ready later.first next.waiting next.host later.ready cleared later.carries in
      let told = subst (λ (h : H). IsTold conduct counted waiting.host h) (sym ready) rests.told in
      before most events end old waiting next new Rested [] clears later told told.counts
      (rests.holding ∙ behind_nothing waiting.holding) (idle_left later.first next.waiting cleared)

  -- ---- the ends

  none_lost : (left : ℕ) (why : Failed) (old last new : Mailing H) → Clears conduct old last → Closes conduct (Err why) last new
      → ServesPosts conduct counted (suc left) (Err why) [] old new
  none_lost left why old last new clears closes = record {
    first = clears.is_carried;
    ready = last.host;
    carries = clears.carries;
    served = [];
    last = last.host;
    does = refl;
    counts = refl;
    rest = [];
    ends = (omega arith, inl (refl, ap (λ (m : Mailing H). m.host) closes));
    all = refl;
    cleared = ap (λ (m : Mailing H). m.waiting) closes;
    holding = holding_at_end old.holding last.holding new.holding (left_where clears.is_carried old.waiting)
        clears.holding (ap (λ (m : Mailing H). m.holding) closes);
  }

  reply_lost : (left : ℕ) (turn reply : InboxEvent) (why : Failed) (old waiting last new : Mailing H) → Clears conduct old waiting
      → Meets (mail_ways conduct counted) turn (reply ∷ []) waiting last → Closes conduct (Err why) last new
      → ServesPosts conduct counted (suc left) (Err why) (turn ∷ []) old new
  reply_lost left turn reply why old waiting last new clears (replies from bytes answer a b short (inr forwards)) closes =
      let no : Some answer ≡ None = forwards.answer_is in cc
  reply_lost left turn reply why old waiting last new clears (replies from bytes answer a b short (inl heard)) closes = record {
    first = clears.is_carried;
    ready = waiting.host;
    carries = clears.carries;
    served = [];
    last = waiting.host;
    does = refl;
    counts = refl;
    rest = Arrived from bytes ∷ [];
    ends = (
      omega arith,
      inr (record {
        from = from;
        turn = heard.turn;
        came = ap (λ (l : List ℕ). Arrived from l ∷ []) (sym heard.message_is);
        short = subst (λ (l : List ℕ). length l ≤ datagram_max) (sym heard.message_is) short;
        reply = subst IsSome (sym heard.answer_is) refl;
        answers = subst (λ (h : H). AnswersMail conduct from heard.turn waiting.host h) (sym (ap (λ (m : Mailing H). m.host) closes)) heard.answers;
      }),
    );
    all = refl;
    cleared = ap (λ (m : Mailing H). m.waiting) closes;
    holding = holding_at_end old.holding waiting.holding new.holding (left_where clears.is_carried old.waiting)
        clears.holding (ap (λ (m : Mailing H). m.holding) closes ∙ heard.holding);
  }

  pub served_in : (most : ℕ) (events : List InboxEvent) (end : Result Ended Failed) (old last new : Mailing H)
      → Runs (mail_ways conduct counted) most events end old last → Closes conduct end last new → ServesPosts conduct counted most end events old new
  served_in most events end old last new (is_spent handler) closes = record {
    first = closes.is_carried;
    ready = new.host;
    carries = closes.carries;
    served = [];
    last = new.host;
    does = refl;
    counts = refl;
    rest = [];
    ends = (refl, refl, refl);
    all = refl;
    cleared = closes.cleared;
    holding = holding_at_end old.holding new.holding new.holding (left_where closes.is_carried old.waiting) closes.holding refl;
  }
  served_in most events end old last new (is_done left a b goes) closes = absurd goes
  served_in most events end old last new (sends left to bytes more w a b c goes runs) closes = absurd goes
  served_in most events end old last new (loses_letter left to bytes why a b goes) closes = absurd goes
  served_in most events end old last new (takes left turn answers more w a waiting b c goes meets runs) closes =
      met_before left turn answers more end old waiting b new goes meets (served_in left more end b last new runs closes)
  served_in most events end old last new (loses_turn left why a b goes) closes = none_lost left why old last new goes closes
  served_in most events end old last new (loses_reply left turn reply why a waiting c goes meets) closes =
      reply_lost left turn reply why old waiting last new goes meets closes

  -- ---- what is known

  all_later : (transfers : List Awaited) (old new : H) → CarriesAll conduct transfers old new
      → Later (conduct.seen old) (conduct.seen new)
  all_later [] old new carries = same conduct old new carries
  all_later (one ∷ more) old new carries =
      later_then (conduct.seen old) (conduct.seen carries.0) (conduct.seen new)
      (record { grown = carries.1.grown; catalogue = carries.1.catalogue }) (all_later more carries.0 new carries.2)

  turn_later : (one : MailTurn) (old new : H) → DoesTurn conduct counted one old new → Later (conduct.seen old) (conduct.seen new)
  turn_later (Dropped from bytes) old new does = same conduct old new does.1
  turn_later Rested old new does =
      record { grown = does.learned.grown; catalogue = ap (λ (s : Seen). s.catalogue) does.learned.same }
  turn_later (Forwarded from message known) old new does = same conduct old new does.1.same
  turn_later (Answered from turn is_carried) old new does =
      let answered = does.1 in
      later_then (conduct.seen old) (conduct.seen answered.mid) (conduct.seen new)
      (record { grown = answered.answers.grown; catalogue = answered.answers.catalogue })
      (all_later (carried_where is_carried (taken_for from turn)) answered.mid new answered.carries)

  turns_later : (turns : List MailTurn) (old new : H) → DoesTurns conduct counted turns old new
      → Later (conduct.seen old) (conduct.seen new)
  turns_later [] old new does = same conduct old new does
  turns_later (one ∷ more) old new does =
      later_then (conduct.seen old) (conduct.seen does.0) (conduct.seen new) (turn_later one old does.0 does.1)
      (turns_later more does.0 new does.2)

  lost_later : (events : List InboxEvent) (old new : H) → ((events ≡ []) × (new ≡ old)) ⊎ LosesAnswer conduct counted events old new
      → Later (conduct.seen old) (conduct.seen new)
  lost_later events old new (inl none) = same conduct old new none.1
  lost_later events old new (inr lost) = record { grown = lost.answers.grown; catalogue = lost.answers.catalogue }

  end_later : (most count : ℕ) (end : Result Ended Failed) (events : List InboxEvent) (old new : H)
      → EndsTurns conduct counted most count end events old new → Later (conduct.seen old) (conduct.seen new)
  end_later most count (Ok Spent) events old new ends = same conduct old new ends.2
  end_later most count (Ok Done) events old new ends = absurd ends
  end_later most count (Err why) events old new ends = lost_later events old new ends.1

  whole_later : (most : ℕ) (end : Result Ended Failed) (events : List InboxEvent) (old new : Mailing H)
      → ServesPosts conduct counted most end events old new → Later (conduct.seen old.host) (conduct.seen new.host)
  whole_later most end events old new serves =
      later_then (conduct.seen old.host) (conduct.seen serves.ready) (conduct.seen new.host)
      (all_later (carried_where serves.first old.waiting) old.host serves.ready serves.carries)
      (later_then (conduct.seen serves.ready) (conduct.seen serves.last) (conduct.seen new.host)
      (turns_later serves.served serves.ready serves.last serves.does)
      (end_later most (length serves.served) end serves.rest serves.last new.host serves.ends))

  pub serves_mail : (most : ℕ) (end : Result Ended Failed) (old last new : Mailing H) (a b : InboxTells)
      → TakesTurns (mail_ways conduct counted) most end (turn_state old a) (turn_state last b) → Closes conduct end last new → ServesMail conduct counted most end old new a b
  serves_mail most end old last new a b took closes =
      let serves = served_in most took.events end old last new took.runs closes in
      let went = whole_later most end took.events old new serves in
      record {
        events = took.events;
        last = last;
        runs = took.runs;
        closes = closes;
        sees = took.sees;
        serves = serves;
        grown = went.grown;
        catalogue = went.catalogue;
      }
