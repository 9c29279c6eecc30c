-- Parts of a run, put together.
use Rattle.std.proofs.Common.{◌≡◌, ◌∙◌, ◌++◌, ◌<◌, ◌≤◌, ◌⊎◌, ℕ, Bool, true, false, List, [], ◌∷◌, Some, None, Result, Ok, Err, OnOk, OnErr, IsErr, ap, sym, refl, subst, arith, length, take, take_all, inl, inr, append_assoc, append-nil, zero-le, zero, suc}
use Rattle.yp_io.specs.declared.stream.Failed.{Failed}
use Rattle.yp_io.specs.declared.stream.Peer.{Peer}
use Rattle.yp_io.specs.declared.inbox.Mail.TheVariants as mail
use Rattle.yp_io.specs.Dials.{GainsItem}
use Rattle.yp_io.specs.Inboxes.{InboxEvent, Arrived, Silent, Sent, turns_of, IsTurn}
use Rattle.yp_rpc.specs.declared.turns.Ended.{Ended}
use Rattle.yp_rpc.specs.declared.turns.Ended.TheVariants.{Done, Spent}
use Rattle.yp_rpc.specs.Turns.{Ways, Letter, Turn, Nothing, Meets, drops, listens, replies, is_quiet, Runs, is_spent}
use Rattle.yp_rpc.specs.Turns.{is_done, sends, loses_letter, takes, loses_turn, loses_reply, InboxTells, Sees}
use Rattle.yp_rpc.specs.Turns.{turn_state, TakesTurns, datagram_max}
use Rattle.yp_rpc.specs.inside.Turns.{Leads, IsHeard, HasTurn, MeetsTurn, LosesReply, WaitsForTurn}
use Rattle.yp_rpc.specs.inside.Turns.{EndsWithoutTurn}
use Rattle.yp_rpc.specs.inside.Turns.{BeginsTurn, reply_of}
use Rattle.yp_rpc.proofs.Seeing.{Turned, seen_none, seen_sent, seen_then}

pub none_of : (len : ℕ) (buf : List ℕ) → len ≡ 0 → reply_of len buf ≡ None
none_of len buf is = ap (λ (n : ℕ). reply_of n buf) is

pub some_of : (len : ℕ) (buf : List ℕ) → (len ≡ 0 → ⊥) → reply_of len buf ≡ Some (take len buf)
some_of zero buf is = absurd (is refl)
some_of (suc len) buf is = refl

module _ {E : Type 0} (ways : Ways E) where
  -- Letters were sent, and the handler goes on from there.
  pub record SoFar (old last : E) (before after : InboxTells) : Type 0 where
    pub events : List InboxEvent
    pub leads : Leads ways events old last
    pub sees : Sees events before after

  -- One letter more was sent.
  pub leads_on : (events : List InboxEvent) (old last next : E) (to : Peer) (bytes : List ℕ) → Leads ways events old last
      → ways.goes last (Letter to bytes) next → Leads ways (events ++ Sent to bytes ∷ []) old next
  leads_on events old last next to bytes leads goes most more end new runs =
      subst (λ (l : List InboxEvent). Runs ways (suc most) l end old new) (sym (append_assoc events (Sent to bytes ∷ []) more))
      (leads most (Sent to bytes ∷ more) end new (sends most to bytes more end last next new goes runs))

  -- The end came behind these events.
  pub leads_to : (most : ℕ) (events : List InboxEvent) (end : Result Ended Failed) (old last new : E) → Leads ways events old last
      → Runs ways (suc most) [] end last new → Runs ways (suc most) events end old new
  leads_to most events end old last new leads runs =
      subst (λ (l : List InboxEvent). Runs ways (suc most) l end old new) (append-nil events) (leads most [] end new runs)

  -- A datagram was heard, and its reply was sent, or wasn't.
  pub reply_heard : {T : Type 0} (result : Result T Failed) (from : Peer) (bytes reply : List ℕ) (old new : E) (a b : InboxTells)
      → length bytes ≤ datagram_max → ways.hears from bytes (Some reply) old new
      → OnOk result (GainsItem (Sent from reply) a.past b.past) → OnErr result (b.past ≡ a.past)
      → b.turns ≡ a.turns → b.quiets ≡ a.quiets → IsHeard ways from bytes result (turn_state old a) (turn_state new b)
  reply_heard (Ok x) from bytes reply old new a b short heard sent none turns quiets =
      (Sent from reply ∷ [], replies from bytes reply old new short heard, seen_sent from reply sent turns quiets)
  reply_heard (Err why) from bytes reply old new a b short heard sent none turns quiets =
      (Sent from reply, replies from bytes reply old new short heard, seen_none none turns quiets)

  -- A datagram was too long.
  pub met_long : (len : ℕ) (from : Peer) (buf : List ℕ) (handler : E) (a b : InboxTells) → Turned (mail.Came len from) buf a b
      → datagram_max < len → MeetsTurn ways handler handler a b
  met_long len from buf handler a b t long = at t.turn t.is t.sees
    where
      at : (turn : InboxEvent) → IsTurn (mail.Came len from) buf turn → Sees (turn ∷ []) a b → MeetsTurn ways handler handler a b
      at (Arrived peer bytes) is sees =
          let cut = is.1.cut in
          let more : datagram_max < length bytes = omega (arith, cut, long) in
          record { turn = Arrived peer bytes; replies = []; meets = drops peer bytes handler more; sees = sees }
      at Silent is sees = absurd is
      at (Sent peer bytes) is sees = absurd is

  -- A turn was quiet.
  pub met_quiet : (buf : List ℕ) (old new : E) (a b : InboxTells) → Turned mail.Quiet buf a b → ways.rests old new
      → MeetsTurn ways old new a b
  met_quiet buf old new a b t rested = at t.turn t.is t.sees
    where
      at : (turn : InboxEvent) → IsTurn mail.Quiet buf turn → Sees (turn ∷ []) a b → MeetsTurn ways old new a b
      at (Arrived peer bytes) is sees = absurd is
      at Silent is sees = record { turn = Silent; replies = []; meets = is_quiet old new rested; sees = sees }
      at (Sent peer bytes) is sees = absurd is

  heard_then : {T : Type 0} (result : Result T Failed) (from : Peer) (bytes : List ℕ) (old new : E) (a b c : InboxTells)
      → Sees (Arrived from bytes ∷ []) a b → IsHeard ways from bytes result (turn_state old b) (turn_state new c)
      → HasTurn ways result old new a c
  heard_then (Ok x) from bytes old new a b c sees heard =
      record { turn = Arrived from bytes; replies = heard.0; meets = heard.1; sees = seen_then sees heard.2 }
  heard_then (Err why) from bytes old new a b c sees heard =
      inr (record { turn = Arrived from bytes; reply = heard.0; meets = heard.1; sees = seen_then sees heard.2 })

  -- A datagram was heard.
  pub met_mail : {T : Type 0} (result : Result T Failed) (len : ℕ) (from : Peer) (buf : List ℕ) (old new : E) (a b c : InboxTells)
      → Turned (mail.Came len from) buf a b → len ≤ datagram_max → datagram_max < length buf
      → IsHeard ways from (take len buf) result (turn_state old b) (turn_state new c) → HasTurn ways result old new a c
  met_mail result len from buf old new a b c t short room heard = at t.turn t.is t.sees
    where
      at : (turn : InboxEvent) → IsTurn (mail.Came len from) buf turn → Sees (turn ∷ []) a b → HasTurn ways result old new a c
      at (Arrived peer bytes) is sees =
          let cut = is.1.cut in
          let whole : take len bytes ≡ bytes = take_all len bytes (omega (arith, cut, short, room)) in
          let same : bytes ≡ take len buf = sym whole ∙ sym is.1.front in
          heard_then result from (take len buf) old new a b c
          (subst (λ (p : Peer). Sees (Arrived p (take len buf) ∷ []) a b) is.0
          (subst (λ (l : List ℕ). Sees (Arrived peer l ∷ []) a b) same sees)) heard
      at Silent is sees = absurd is
      at (Sent peer bytes) is sees = absurd is

  -- A letter was sent behind others.
  pub sent_on : (old last next : E) (a b c : InboxTells) (to : Peer) (bytes : List ℕ) → SoFar old last a b
      → ways.goes last (Letter to bytes) next → GainsItem (Sent to bytes) b.past c.past → c.turns ≡ b.turns → c.quiets ≡ b.quiets
      → SoFar old next a c
  sent_on old last next a b c to bytes far goes sent turns quiets = record {
    events = far.events ++ Sent to bytes ∷ [];
    leads = leads_on far.events old last next to bytes far.leads goes;
    sees = seen_then far.sees (seen_sent to bytes sent turns quiets);
  }

  -- The handler wants a turn.
  pub waits_on : (old last next : E) (a b : InboxTells) → SoFar old last a b → ways.goes last Turn next → WaitsForTurn ways old next a b
  waits_on old last next a b far goes =
      record { events = far.events; last = last; leads = far.leads; turn = goes; sees = far.sees }

  -- The handler is done.
  pub stops_on : (old last next : E) (a b : InboxTells) → SoFar old last a b → ways.goes last Nothing next
      → EndsWithoutTurn ways (Ok Done) old next a b
  stops_on old last next a b far goes = record {
    events = far.events;
    runs = λ most. leads_to most far.events (Ok Done) old last next far.leads (is_done most last next goes);
    sees = far.sees;
  }

  -- A letter wasn't sent.
  pub fails_on : (why : Failed) (old last next : E) (a b c : InboxTells) (to : Peer) (bytes : List ℕ) → SoFar old last a b
      → ways.goes last (Letter to bytes) next → c.past ≡ b.past → c.turns ≡ b.turns → c.quiets ≡ b.quiets
      → EndsWithoutTurn ways (Err why) old next a c
  fails_on why old last next a b c to bytes far goes none turns quiets = record {
    events = far.events;
    runs = λ most. leads_to most far.events (Err why) old last next far.leads (loses_letter most to bytes why last next goes);
    sees = subst (λ (l : List InboxEvent). Sees l a c) (append-nil far.events) (seen_then far.sees (seen_none none turns quiets));
  }

  pub begins_failed : (result : Result Bool Failed) (old new : E) (a b : InboxTells) → IsErr result
      → ((why : Failed) → EndsWithoutTurn ways (Err why) old new a b) → BeginsTurn ways result old new a b
  begins_failed (Ok true) old new a b is stops = absurd cc
  begins_failed (Ok false) old new a b is stops = absurd cc
  begins_failed (Err why) old new a b is stops = stops why

  -- ---- whole runs

  adds_one : (turn : InboxEvent) (answers events : List InboxEvent) (old new : E) → Meets ways turn answers old new
      → length (turns_of (turn ∷ answers ++ events)) ≡ suc (length (turns_of events))
  adds_one turn answers events old new (drops from bytes handler long) = refl
  adds_one turn answers events old new (listens from bytes a b short heard) = refl
  adds_one turn answers events old new (replies from bytes reply a b short heard) = refl
  adds_one turn answers events old new (is_quiet a b rests) = refl

  loses_one : (left : ℕ) (turn reply : InboxEvent) (old new : E) → Meets ways turn (reply ∷ []) old new
      → length (turns_of (turn ∷ [])) ≤ suc left
  loses_one left turn reply old new (replies from bytes answer a b short heard) = omega arith

  bounded : (most : ℕ) (events : List InboxEvent) (end : Result Ended Failed) (old new : E) → Runs ways most events end old new
      → length (turns_of events) ≤ most
  bounded most events end old new (is_spent handler) = zero-le
  bounded most events end old new (is_done left a b goes) = zero-le
  bounded most events end old new (sends left to bytes more last a b c goes runs) = bounded (suc left) more last b c runs
  bounded most events end old new (loses_letter left to bytes why a b goes) = zero-le
  bounded most events end old new (takes left turn answers more last a w b c goes meets runs) =
      let less = bounded left more last b c runs in
      let one = adds_one turn answers more w b meets in
      omega (arith, less, one)
  bounded most events end old new (loses_turn left why a b goes) = zero-le
  bounded most events end old new (loses_reply left turn reply why a w b goes meets) =
      loses_one left turn reply w b meets

  counts_all : (most : ℕ) (events : List InboxEvent) (end : Result Ended Failed) (old new : E) → Runs ways most events end old new
      → end ≡ Ok Spent → length (turns_of events) ≡ most
  counts_all most events end old new (is_spent handler) is = refl
  counts_all most events end old new (is_done left a b goes) is = absurd cc
  counts_all most events end old new (sends left to bytes more last a b c goes runs) is = counts_all (suc left) more last b c runs is
  counts_all most events end old new (loses_letter left to bytes why a b goes) is = absurd cc
  counts_all most events end old new (takes left turn answers more last a w b c goes meets runs) is =
      adds_one turn answers more w b meets ∙ ap suc (counts_all left more last b c runs is)
  counts_all most events end old new (loses_turn left why a b goes) is = absurd cc
  counts_all most events end old new (loses_reply left turn reply why a w b goes meets) is = absurd cc

  takes_all : (most : ℕ) (events : List InboxEvent) (end : Result Ended Failed) (old new : E) (a b : InboxTells)
      → Runs ways most events end old new → Sees events a b
      → TakesTurns ways most end (turn_state old a) (turn_state new b)
  takes_all most events end old new a b runs sees = record {
    events = events;
    runs = runs;
    sees = sees;
    within = bounded most events end old new runs;
    all = counts_all most events end old new runs;
  }

  -- Turns were taken, and so many are left.
  pub record Whole (most left : ℕ) (old last : E) (before after : InboxTells) : Type 0 where
    pub events : List InboxEvent
    pub leads : (more : List InboxEvent) (end : Result Ended Failed) (new : E) → Runs ways left more end last new
        → Runs ways most (events ++ more) end old new
    pub sees : Sees events before after

  pub whole_none : (most left : ℕ) (old : E) (a : InboxTells) → left ≡ most → Whole most left old old a a
  whole_none most left old a is = record {
    events = [];
    leads = λ more end new runs. subst (λ (n : ℕ). Runs ways n more end old new) is runs;
    sees = seen_none refl refl refl;
  }

  pub whole_more : (most n left : ℕ) (old last waiting next : E) (a b c d : InboxTells) → n ≡ suc left → Whole most n old last a b
      → WaitsForTurn ways last waiting b c → MeetsTurn ways waiting next c d → Whole most left old next a d
  whole_more most n left old last waiting next a b c d is whole waits meets = record {
    events = whole.events ++ (waits.events ++ (meets.turn ∷ meets.replies));
    leads = λ more end new runs.
        subst (λ (l : List InboxEvent). Runs ways most l end old new)
        (sym (append_assoc whole.events (waits.events ++ (meets.turn ∷ meets.replies)) more
        ∙ ap (λ (l : List InboxEvent). whole.events ++ l) (append_assoc waits.events (meets.turn ∷ meets.replies) more)))
        (whole.leads (waits.events ++ (meets.turn ∷ meets.replies ++ more)) end new
        (subst (λ (k : ℕ). Runs ways k (waits.events ++ (meets.turn ∷ meets.replies ++ more)) end last new) (sym is)
        (waits.leads left (meets.turn ∷ meets.replies ++ more) end new
        (takes left meets.turn meets.replies more end waits.last waiting next new waits.turn meets.meets runs))));
    sees = seen_then whole.sees (seen_then waits.sees meets.sees);
  }

  pub whole_spent : (most left : ℕ) (old last : E) (a b : InboxTells) → left ≡ 0 → Whole most left old last a b
      → TakesTurns ways most (Ok Spent) (turn_state old a) (turn_state last b)
  whole_spent most left old last a b is whole =
      takes_all most whole.events (Ok Spent) old last a b
      (subst (λ (l : List InboxEvent). Runs ways most l (Ok Spent) old last) (append-nil whole.events)
      (whole.leads [] (Ok Spent) last (subst (λ (k : ℕ). Runs ways k [] (Ok Spent) last last) (sym is) (is_spent last))))
      whole.sees

  pub whole_stops : (most n left : ℕ) (end : Result Ended Failed) (old last new : E) (a b c : InboxTells) → n ≡ suc left
      → Whole most n old last a b → EndsWithoutTurn ways end last new b c
      → TakesTurns ways most end (turn_state old a) (turn_state new c)
  whole_stops most n left end old last new a b c is whole stops =
      takes_all most (whole.events ++ stops.events) end old new a c
      (whole.leads stops.events end new (subst (λ (k : ℕ). Runs ways k stops.events end last new) (sym is) (stops.runs left)))
      (seen_then whole.sees stops.sees)

  pub whole_lost : (most n left : ℕ) (why : Failed) (old last waiting new : E) (a b c d : InboxTells) → n ≡ suc left
      → Whole most n old last a b → WaitsForTurn ways last waiting b c
      → ((new ≡ waiting) × Sees [] c d) ⊎ LosesReply ways waiting new c d
      → TakesTurns ways most (Err why) (turn_state old a) (turn_state new d)
  whole_lost most n left why old last waiting new a b c d is whole waits (inl lost) =
      let turn = subst (λ (e : E). ways.goes waits.last Turn e) (sym lost.0) waits.turn in
      takes_all most (whole.events ++ (waits.events ++ [])) (Err why) old new a d
      (whole.leads (waits.events ++ []) (Err why) new
      (subst (λ (k : ℕ). Runs ways k (waits.events ++ []) (Err why) last new) (sym is)
      (waits.leads left [] (Err why) new (loses_turn left why waits.last new turn))))
      (seen_then whole.sees (seen_then waits.sees lost.1))
  whole_lost most n left why old last waiting new a b c d is whole waits (inr lost) =
      takes_all most (whole.events ++ (waits.events ++ (lost.turn ∷ []))) (Err why) old new a d
      (whole.leads (waits.events ++ (lost.turn ∷ [])) (Err why) new
      (subst (λ (k : ℕ). Runs ways k (waits.events ++ (lost.turn ∷ [])) (Err why) last new) (sym is)
      (waits.leads left (lost.turn ∷ []) (Err why) new
      (loses_reply left lost.turn lost.reply why waits.last waiting new waits.turn lost.meets))))
      (seen_then whole.sees (seen_then waits.sees lost.sees))

  pub fails_before : (result : Result Ended Failed) (most n left : ℕ) (why : Failed) (old last new : E) (a b c : InboxTells)
      → IsErr result → n ≡ suc left → Whole most n old last a b → EndsWithoutTurn ways (Err why) last new b c
      → TakesTurns ways most result (turn_state old a) (turn_state new c)
  fails_before (Ok x) most n left why old last new a b c is count whole stops = absurd cc
  fails_before (Err other) most n left why old last new a b c is count whole stops =
      whole_stops most n left (Err other) old last new a b c count whole stops

  pub fails_at : (result : Result Ended Failed) (most n left : ℕ) (why : Failed) (old last waiting new : E) (a b c d : InboxTells)
      → IsErr result → n ≡ suc left → Whole most n old last a b → WaitsForTurn ways last waiting b c
      → ((new ≡ waiting) × Sees [] c d) ⊎ LosesReply ways waiting new c d
      → TakesTurns ways most result (turn_state old a) (turn_state new d)
  fails_at (Ok x) most n left why old last waiting new a b c d is count whole waits lost = absurd cc
  fails_at (Err other) most n left why old last waiting new a b c d is count whole waits lost =
      whole_lost most n left other old last waiting new a b c d count whole waits lost

  pub begun_true : (wants : Bool) (old new : E) (a b : InboxTells) → wants ≡ true → BeginsTurn ways (Ok wants) old new a b
      → WaitsForTurn ways old new a b
  begun_true true old new a b is begins = begins
  begun_true false old new a b is begins = absurd cc

  pub begun_false : (wants : Bool) (old new : E) (a b : InboxTells) → wants ≡ false → BeginsTurn ways (Ok wants) old new a b
      → EndsWithoutTurn ways (Ok Done) old new a b
  begun_false false old new a b is begins = begins
  begun_false true old new a b is begins = absurd cc
