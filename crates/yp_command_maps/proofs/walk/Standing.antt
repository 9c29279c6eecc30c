-- A walk at the end of its turns stands for the mails that were delivered in them.
use Rattle.std.proofs.Common.{◌≡◌, ◌⊎◌, inl, inr, ℕ, suc, ◌<◌, ◌≤◌, Bool, true, false, cond, List, [], ◌∷◌, ◌++◌, length}
use Rattle.std.proofs.Common.{Option, Some, None, Result, Ok, Err, refl, sym, ap, ◌∙◌, subst, arith, append_assoc}
use Rattle.std.specs.Prelude.{nat_le, ◌||◌, IsTrue}
use Rattle.std.proofs.lemmas.Bool.{le-leb, lt-leb}
use Rattle.std.proofs.lemmas.List.{append-nil}
use Rattle.yp_io.specs.declared.stream.Failed.{Failed}
use Rattle.yp_io.specs.declared.stream.Peer.{Peer}
use Rattle.yp_io.specs.Inboxes.{InboxEvent, Arrived, Silent, Sent}
use Rattle.yp_rpc.specs.declared.turns.Ended.{Ended}
use Rattle.yp_rpc.specs.declared.turns.Ended.TheVariants.{Done as IsDone, Spent as AllTaken}
use Rattle.yp_rpc.specs.Turns.{Want, Letter, Turn, Nothing, Meets, Runs, datagram_max}
use Rattle.yp_rpc.specs.Turns as turns
use Rattle.yp_transfer.specs.declared.fault.XfrFault.{XfrFault}
use Rattle.yp_transfer.specs.declared.fault.XfrFault.TheVariants as fault
use Rattle.yp_transfer.specs.Fetching.{Wanted}
use Rattle.yp_transfer.specs.declared.walk.walked.Walked.{Walked}
use Rattle.yp_transfer.specs.declared.walk.walked.Walked.TheVariants.{Ignored, Onward, Done}
use Rattle.yp_transfer.specs.walk.Standings.{WalkState, HasEnded, refusal}
use Rattle.yp_transfer.specs.walk.Schedules.{Walking, Delivery, Hears, AddsDelivery, RunsOut, told, answer_to, heard, gone_on}
use Rattle.yp_transfer.specs.walk.Schedules.{is_awaited, walk_by, begun}
use Rattle.yp_command_maps.specs.walk.Turns.{Awaiting, is_on, goes_on, wish, sent, Goes, TakesMail, Listens, HearsMail, Rests}
use Rattle.yp_command_maps.specs.walk.Turns.{walker_ways, heard_of, StandsFor, first_of, Gave, IsCame, WalksTo}
use Rattle.yp_command_maps.specs.declared.walk.walker.Came.{Came}
use Rattle.yp_command_maps.specs.declared.walk.walker.Came.TheVariants.{Outcome as HasOutcome, Spent, Failed as HasFailed}
use Rattle.yp_rpc.specs.Turns.{InboxTells, turn_state, TakesTurns}
use Rattle.yp_transfer.specs.Fetching.{FetchOutcome}
use Rattle.yp_transfer.specs.walk.Standings.{IsAsking}
use Rattle.yp_transfer.specs.walk.Schedules.{outstanding}
use Rattle.yp_transfer.specs.inside.walk.Walks.{WalkGivesVersion}

-- ---- what is wanted

-- while a call is outstanding there is no end
no_end : (on due : Bool) (walk : Walking) → on ≡ true → Nothing ≡ wish on due walk → ⊥
no_end true true walk on e = absurd cc
no_end true false walk on e = absurd cc
no_end false due walk on e = absurd cc

-- behind it there is nothing else
no_letter : (on due : Bool) (walk : Walking) (to : Peer) (bytes : List ℕ) → on ≡ false
    → Letter to bytes ≡ wish on due walk → ⊥
no_letter true due walk to bytes off e = absurd cc
no_letter false due walk to bytes off e = absurd cc

no_turn : (on due : Bool) (walk : Walking) → on ≡ false → Turn ≡ wish on due walk → ⊥
no_turn true due walk off e = absurd cc
no_turn false due walk off e = absurd cc

-- the walk stays as it was where something is wanted
same_walk : (on : Bool) (old new : Awaiting) → new ≡ sent on old → new.walk ≡ old.walk
same_walk true old new e = ap (λ (a : Awaiting). a.walk) e
same_walk false old new e = ap (λ (a : Awaiting). a.walk) e

kept_on : (old new : Awaiting) → new.walk ≡ old.walk → is_on new ≡ is_on old
kept_on old new e = ap (λ (w : Walking). goes_on (told w.standing)) e

-- ---- a mail

-- where memory ran out by the answer, the walk stands so
out_by_told : (standing : WalkState) → told standing ≡ Err fault.NoMemory → standing ≡ refusal fault.NoMemory
out_by_told (HasEnded (Ok draft)) e = absurd cc
out_by_told (HasEnded (Err why)) e =
    let same : why ≡ fault.NoMemory = cc in ap (λ (w : XfrFault). HasEnded (Err w)) same
out_by_told _ e = absurd cc

out_by_mail : (awaited : Bool) (old goes : Walking)
    → Err fault.NoMemory ≡ cond awaited (told goes.standing) (Ok Ignored)
    → (cond awaited goes old).standing ≡ refusal fault.NoMemory
out_by_mail true old goes e = out_by_told goes.standing (sym e)
out_by_mail false old goes e = absurd cc

ran_out : (delivered : Delivery) (old new : Walking) → Hears delivered (Err fault.NoMemory) old new
    → new.standing ≡ refusal fault.NoMemory
ran_out delivered old new (inl h) =
    ap (λ (w : Walking). w.standing) h.0
    ∙ out_by_mail (is_awaited old.source old.xid delivered) old (gone_on old delivered.1) h.1
ran_out delivered old new (inr out) = ap (λ (w : Walking). w.standing) out.walk

-- it stands for one mail more
one_more : (source : Peer) (wanted : Wanted) (deliveries : List Delivery) (delivered : Delivery)
    (answer : Result Walked XfrFault) (old new : Walking) → old ≡ walk_by source wanted deliveries
    → Hears delivered answer old new → AddsDelivery delivered answer old new
    → StandsFor source wanted (deliveries ++ delivered ∷ []) new
one_more source wanted ds d (Ok walked) old new e hears adds = inl (adds source wanted ds e)
one_more source wanted ds d (Err fault.NoMemory) old new e hears adds = inr (ran_out d old new hears)
one_more source wanted ds d (Err fault.Maddr) old new e hears adds = inl (adds source wanted ds e)
one_more source wanted ds d (Err fault.Rpc) old new e hears adds = inl (adds source wanted ds e)
one_more source wanted ds d (Err fault.Nodom) old new e hears adds = inl (adds source wanted ds e)
one_more source wanted ds d (Err fault.Nomap) old new e hears adds = inl (adds source wanted ds e)
one_more source wanted ds d (Err (fault.Yperr stat)) old new e hears adds = inl (adds source wanted ds e)
one_more source wanted ds d (Err (fault.Xfrerr at)) old new e hears adds = inl (adds source wanted ds e)
one_more source wanted ds d (Err (fault.Age shown offered)) old new e hears adds = inl (adds source wanted ds e)
one_more source wanted ds d (Err (fault.Skew first second)) old new e hears adds = inl (adds source wanted ds e)
one_more source wanted ds d (Err fault.Dbm) old new e hears adds = inl (adds source wanted ds e)
one_more source wanted ds d (Err fault.Badargs) old new e hears adds = inl (adds source wanted ds e)
one_more source wanted ds d (Err fault.File) old new e hears adds = inl (adds source wanted ds e)
one_more source wanted ds d (Err fault.Refused) old new e hears adds = inl (adds source wanted ds e)

-- ---- a turn

listened : (on : Bool) (source : Peer) (wanted : Wanted) (deliveries : List Delivery) (delivered : Delivery)
    (old new : Awaiting) → on ≡ true → old.walk ≡ walk_by source wanted deliveries → Listens on delivered old new
    → StandsFor source wanted (deliveries ++ delivered ∷ []) new.walk
listened true source wanted ds d old new on e h = one_more source wanted ds d h.answer old.walk new.walk e h.hears h.adds
listened false source wanted ds d old new on e h = absurd cc

module _ (source : Peer) (wanted : Wanted) where
  abbrev Stands : List Delivery → Walking → Type 0
  Stands ds walk = StandsFor source wanted ds walk

  same_stands : (ds es : List Delivery) (walk : Walking) → ds ≡ es → Stands ds walk → Stands es walk
  same_stands ds es walk e h = subst (λ (l : List Delivery). Stands l walk) e h

  heard_short : (from : Peer) (mail : List ℕ) → length mail ≤ datagram_max
      → heard_of (Arrived from mail ∷ []) ≡ (from, mail) ∷ []
  heard_short from mail few = let short : nat_le (length mail) datagram_max ≡ true = le-leb (length mail) datagram_max few in rw short refl

  heard_long : (from : Peer) (mail : List ℕ) → datagram_max < length mail → heard_of (Arrived from mail ∷ []) ≡ []
  heard_long from mail over = let long : nat_le (length mail) datagram_max ≡ false = lt-leb (length mail) datagram_max over in rw long refl

  met : (turn : InboxEvent) (answers : List InboxEvent) (old new : Awaiting) (ds : List Delivery)
      → Meets walker_ways turn answers old new → is_on old ≡ true → old.walk ≡ walk_by source wanted ds
      → Stands (ds ++ heard_of (turn ∷ [])) new.walk × (answers ≡ [])
  met turn answers old new ds (turns.drops from bytes handler over) on e =
      (same_stands ds _ handler.walk (sym (ap (λ (l : List Delivery). ds ++ l) (heard_long from bytes over) ∙ append-nil ds)) (inl e), refl)
  met turn answers old new ds (turns.listens from bytes before after few hears) on e = (
    same_stands (ds ++ (from, bytes) ∷ []) _ after.walk (sym (ap (λ (l : List Delivery). ds ++ l) (heard_short from bytes few)))
        (listened (is_on before) source wanted ds (from, bytes) before after on e hears.1),
    refl,
  )
  met turn answers old new ds (turns.replies from bytes reply before after few hears) on e =
      let no = hears.0 in absurd cc
  met turn answers old new ds (turns.is_quiet before after rests) on e =
      (same_stands ds _ after.walk (sym (append-nil ds)) (inl (ap (λ (a : Awaiting). a.walk) rests ∙ e)), refl)

  heard_join : (turn : InboxEvent) (events : List InboxEvent) → heard_of (turn ∷ events) ≡ heard_of (turn ∷ []) ++ heard_of events
  heard_join (Arrived from mail) events = by_fit (nat_le (length mail) datagram_max)
    where
      by_fit : (fits : Bool) → cond fits ((from, mail) ∷ heard_of events) (heard_of events) ≡ cond fits ((from, mail) ∷ []) [] ++ heard_of events
      by_fit true = refl
      by_fit false = refl
  heard_join Silent events = refl
  heard_join (Sent to mail) events = refl

  -- memory ran out: nothing more happens
  off_out : (walk : Walking) → walk.standing ≡ refusal fault.NoMemory → goes_on (told walk.standing) ≡ false
  off_out walk e = ap (λ (s : WalkState). goes_on (told s)) e

  run_off : (most : ℕ) (events : List InboxEvent) (end : Result Ended Failed) (old last : Awaiting)
      → Runs walker_ways most events end old last → is_on old ≡ false → (last.walk ≡ old.walk) × (events ≡ [])
  run_off most events end old last (turns.is_spent handler) off = (refl, refl)
  run_off most events end old last (turns.is_done more before after goes) off = (same_walk (is_on before) before after goes.1, refl)
  run_off most events end old last (turns.sends more to bytes rest how before next after goes runs) off =
      absurd (no_letter (is_on before) before.is_due before.walk to bytes off goes.0)
  run_off most events end old last (turns.loses_letter more to bytes why before after goes) off =
      absurd (no_letter (is_on before) before.is_due before.walk to bytes off goes.0)
  run_off most events end old last (turns.takes more turn answers rest how before waiting next after goes meets runs) off =
      absurd (no_turn (is_on before) before.is_due before.walk off goes.0)
  run_off most events end old last (turns.loses_turn more why before after goes) off =
      absurd (no_turn (is_on before) before.is_due before.walk off goes.0)
  run_off most events end old last (turns.loses_reply more turn reply why before waiting after goes meets) off =
      absurd (no_turn (is_on before) before.is_due before.walk off goes.0)

  -- what stands for the mails so far stands for all of them at the end
  run_stands : (most : ℕ) (events : List InboxEvent) (end : Result Ended Failed) (old last : Awaiting)
      → Runs walker_ways most events end old last → (on : Bool) → is_on old ≡ on → (ds : List Delivery) → Stands ds old.walk
      → Stands (ds ++ heard_of events) last.walk
  run_stands most events end old last runs false off ds h =
      let stays = run_off most events end old last runs off in
      subst (λ (w : Walking). Stands (ds ++ heard_of events) w) (sym stays.0)
      (same_stands ds _ old.walk (sym (ap (λ (l : List InboxEvent). ds ++ heard_of l) stays.1 ∙ append-nil ds)) h)
  run_stands most events end old last runs true on ds (inr out) =
      absurd (let no : true ≡ false = sym on ∙ off_out old.walk out in cc)
  run_stands most events end old last (turns.is_spent handler) true on ds (inl e) =
      same_stands ds _ handler.walk (sym (append-nil ds)) (inl e)
  run_stands most events end old last (turns.is_done more before after goes) true on ds (inl e) =
      absurd (no_end (is_on before) before.is_due before.walk on goes.0)
  run_stands most events end old last (turns.sends more to bytes rest how before next after goes runs) true on ds (inl e) =
      let same = same_walk (is_on before) before next goes.1 in
      run_stands (suc more) rest how next after runs true (kept_on before next same ∙ on) ds (inl (same ∙ e))
  run_stands most events end old last (turns.loses_letter more to bytes why before after goes) true on ds (inl e) =
      same_stands ds _ after.walk (sym (append-nil ds)) (inl (same_walk (is_on before) before after goes.1 ∙ e))
  run_stands most events end old last (turns.takes more turn answers rest how before waiting next after goes meets runs) true on ds (inl e) =
      let same = same_walk (is_on before) before waiting goes.1 in
      let here = met turn answers waiting next ds meets (kept_on before waiting same ∙ on) (same ∙ e) in
      let ends = run_stands more rest how next after runs (is_on next) refl (ds ++ heard_of (turn ∷ [])) here.0 in
      same_stands _ (ds ++ heard_of (turn ∷ answers ++ rest)) after.walk
      (append_assoc ds (heard_of (turn ∷ [])) (heard_of rest)
      ∙ ap (λ (l : List Delivery). ds ++ l) (sym (heard_join turn rest))
      ∙ ap (λ (l : List InboxEvent). ds ++ heard_of (turn ∷ l ++ rest)) (sym here.1)) ends
  run_stands most events end old last (turns.loses_turn more why before after goes) true on ds (inl e) =
      same_stands ds _ after.walk (sym (append-nil ds)) (inl (same_walk (is_on before) before after goes.1 ∙ e))
  run_stands most events end old last (turns.loses_reply more turn reply why before waiting after goes meets) true on ds (inl e) =
      let same = same_walk (is_on before) before waiting goes.1 in
      let some = (met turn (reply ∷ []) waiting after ds meets (kept_on before waiting same ∙ on) (same ∙ e)).1 in
      absurd cc

  pub all_stands : (most : ℕ) (events : List InboxEvent) (end : Result Ended Failed) (old last : Awaiting)
      → Runs walker_ways most events end old last → old.walk ≡ begun source wanted → Stands (heard_of events) last.walk
  all_stands most events end old last runs e = run_stands most events end old last runs (is_on old) refl [] (inl e)

  -- where a call is still outstanding at the end of sound turns, all were taken
  pub on_is_spent : (most : ℕ) (events : List InboxEvent) (end : Ended) (old last : Awaiting)
      → Runs walker_ways most events (Ok end) old last → is_on last ≡ true → end ≡ AllTaken
  on_is_spent most events AllTaken old last runs on = refl
  on_is_spent most events IsDone old last runs on = absurd (done_off most events (Ok IsDone) old last runs refl on)
    where
      done_off : (most : ℕ) (events : List InboxEvent) (end : Result Ended Failed) (old last : Awaiting)
          → Runs walker_ways most events end old last → end ≡ Ok IsDone → is_on last ≡ true → ⊥
      done_off most events end old last (turns.is_spent handler) e on = absurd cc
      done_off most events end old last (turns.is_done more before after goes) e on =
          let same = same_walk (is_on before) before after goes.1 in
          no_end (is_on before) before.is_due before.walk (sym (kept_on before after same) ∙ on) goes.0
      done_off most events end old last (turns.sends more to bytes rest how before next after goes runs) e on =
          done_off (suc more) rest how next after runs e on
      done_off most events end old last (turns.loses_letter more to bytes why before after goes) e on = absurd cc
      done_off most events end old last (turns.takes more turn answers rest how before waiting next after goes meets runs) e on =
          done_off more rest how next after runs e on
      done_off most events end old last (turns.loses_turn more why before after goes) e on = absurd cc
      done_off most events end old last (turns.loses_reply more turn reply why before waiting after goes meets) e on = absurd cc

-- ---- what came of it

pub gave_done : (standing : WalkState) (outcome : FetchOutcome) → WalkGivesVersion standing outcome → Gave standing outcome
gave_done (HasEnded (Ok draft)) outcome h = h
gave_done _ outcome h = absurd h

pub gave_refused : (standing : WalkState) (why : XfrFault) → Err why ≡ told standing → Gave standing (Err why)
gave_refused (HasEnded (Err other)) why e =
    let same : why ≡ other = cc in ap (λ (w : XfrFault). Err w) same
gave_refused _ why e = absurd cc

-- while a call is outstanding the walk asks
pub asks_on : (standing : WalkState) → IsAsking standing → goes_on (told standing) ≡ true
asks_on (HasEnded outcome) h = absurd h
asks_on _ h = refl

pub walks_ok : (source : Peer) (wanted : Wanted) (most : ℕ) (end : Ended) (last : Awaiting) (before after : InboxTells)
    (came : Came) → TakesTurns walker_ways most (Ok end) (turn_state (first_of source wanted) before)
    (turn_state last after)
    → ((is_on last ≡ true → end ≡ AllTaken) → IsCame (Ok end) last.walk.standing came)
    → WalksTo source wanted most came before after
walks_ok source wanted most end last before after came takes comes = record {
  end = Ok end;
  last = last;
  takes = takes;
  stands = all_stands source wanted most takes.events (Ok end) (first_of source wanted) last takes.runs refl;
  comes = comes (λ on. on_is_spent source wanted most takes.events end (first_of source wanted) last takes.runs on);
}

pub walks_failed : (source : Peer) (wanted : Wanted) (most : ℕ) (why : Failed) (last : Awaiting) (before after : InboxTells)
    → TakesTurns walker_ways most (Err why) (turn_state (first_of source wanted) before) (turn_state last after)
    → WalksTo source wanted most HasFailed before after
walks_failed source wanted most why last before after takes = record {
  end = Err why;
  last = last;
  takes = takes;
  stands = all_stands source wanted most takes.events (Err why) (first_of source wanted) last takes.runs refl;
  comes = tt;
}

-- ---- what is wanted next

-- a call that is due is sent
pub letter_goes : (on due : Bool) (old : Awaiting) (bytes : List ℕ) → on ≡ true → due ≡ true
    → bytes ≡ outstanding old.walk
    → (Letter old.walk.source bytes ≡ wish on due old.walk) × (record old { is_due = false } ≡ sent on old)
letter_goes true true old bytes on is e = (ap (λ (b : List ℕ). Letter old.walk.source b) e, refl)
letter_goes true false old bytes on is e = absurd cc
letter_goes false due old bytes on is e = absurd cc

-- else a turn is taken
pub turn_goes : (on due : Bool) (old : Awaiting) → on ≡ true → due ≡ false → old.is_due ≡ false
    → (Turn ≡ wish on due old.walk) × (old ≡ sent on old)
turn_goes true false old on is e = (refl, ap (λ (d : Bool). record { walk = old.walk; is_due = d }) e)
turn_goes true true old on is e = absurd cc
turn_goes false due old on is e = absurd cc

-- an ended walk wants nothing
pub end_goes : (on due : Bool) (old : Awaiting) → on ≡ false → (Nothing ≡ wish on due old.walk) × (old ≡ sent on old)
end_goes false due old off = (refl, refl)
end_goes true due old off = absurd cc

-- what came of sound turns isn't a fault of the inbox
pub never_failed : (end : Ended) (standing : WalkState) (came : Came) → IsCame (Ok end) standing came → came ≡ HasFailed → ⊥
never_failed end standing (HasOutcome outcome) h e = cc
never_failed end standing Spent h e = cc
never_failed end standing HasFailed h e = h

-- the same of a walk that was begun
pub walks_begun : (source : Peer) (wanted : Wanted) (most : ℕ) (end : Ended) (walk : Walking) (last : Awaiting)
    (before after : InboxTells) (came : Came) → walk ≡ begun source wanted
    → TakesTurns walker_ways most (Ok end) (turn_state {E = Awaiting} (record { walk = walk; is_due = true }) before)
    (turn_state last after)
    → ((is_on last ≡ true → end ≡ AllTaken) → IsCame (Ok end) last.walk.standing came)
    → WalksTo source wanted most came before after × (came ≡ HasFailed → ⊥)
walks_begun source wanted most end walk last before after came e takes comes =
    let here = subst (λ (w : Walking). TakesTurns walker_ways most (Ok end)
    (turn_state {E = Awaiting} (record { walk = w; is_due = true }) before) (turn_state last after)) e takes in
    let spent = λ (on : is_on last ≡ true). on_is_spent source wanted most here.events end (first_of source wanted) last
    here.runs on in (
      walks_ok source wanted most end last before after came here comes,
      never_failed end last.walk.standing came (comes spent),
    )

pub walks_lost : (source : Peer) (wanted : Wanted) (most : ℕ) (why : Failed) (walk : Walking) (last : Awaiting)
    (before after : InboxTells) → walk ≡ begun source wanted
    → TakesTurns walker_ways most (Err why) (turn_state {E = Awaiting} (record { walk = walk; is_due = true }) before)
    (turn_state last after)
    → WalksTo source wanted most HasFailed before after
walks_lost source wanted most why walk last before after e takes =
    walks_failed source wanted most why last before after
    (subst (λ (w : Walking). TakesTurns walker_ways most (Err why)
    (turn_state {E = Awaiting} (record { walk = w; is_due = true }) before) (turn_state last after)) e takes)
