-- The answer that a call of a port mapper has at the end of its turns is the first one that came.
use Rattle.std.proofs.Common.{◌≡◌, ℕ, suc, ◌<◌, ◌≤◌, Bool, true, false, cond, List, [], ◌∷◌, ◌++◌, length}
use Rattle.std.proofs.Common.{Option, Some, None, Result, refl, sym, ap, ◌∙◌, subst}
use Rattle.std.specs.Prelude.{nat_le, ◌&&◌, option_map}
use Rattle.std.proofs.lemmas.Bool.{le-leb, lt-leb}
use Rattle.yp_io.specs.declared.stream.Failed.{Failed}
use Rattle.yp_io.specs.declared.stream.Peer.{Peer}
use Rattle.yp_io.specs.Inboxes.{InboxEvent, Arrived, Silent, Sent}
use Rattle.yp_rpc.specs.declared.turns.Ended.{Ended}
use Rattle.yp_rpc.specs.Turns.{Want, Letter, Turn, Nothing, Meets, Runs, datagram_max}
use Rattle.yp_rpc.specs.Turns as turns
use Rattle.yp_binding.specs.declared.portmap.asking.PortCall.{PortCall}
use Rattle.yp_binding.specs.portmap.Asking.{answer_read}
use Rattle.yp_command_mail.specs.declared.mapper.Asking.{Asking}
use Rattle.yp_command_mail.specs.Mapper.{Answer, is_answer, wanted, sent, heard, asking_ways, first_answer}

-- an answer that is there, or what is read of the one that was found
abbrev later : PortCall → Option Answer → Option (List ℕ) → Option Answer
later call (Some answer) found = Some answer
later call None found = option_map (answer_read call) found

-- what was found first, or else behind it
abbrev either : Option (List ℕ) → Option (List ℕ) → Option (List ℕ)
either (Some mail) more = Some mail
either None more = more

-- ---- what is wanted

-- without an answer there is no end
no_end : (due : Bool) (asking : Asking) → Nothing ≡ wanted None due asking → ⊥
no_end true asking e = absurd cc
no_end false asking e = absurd cc

-- with one there is nothing else
no_more : (answer : Answer) (due : Bool) (asking : Asking) (want : Want) → want ≡ wanted (Some answer) due asking
    → want ≡ Nothing
no_more answer due asking want e = e

no_letter : (to : Peer) (bytes : List ℕ) → Letter to bytes ≡ Nothing → ⊥
no_letter to bytes e = absurd cc

no_turn : Turn ≡ Nothing → ⊥
no_turn e = absurd cc

-- ---- a turn

-- two have the same port mapper, and the same call of it
record IsSame (old new : Asking) : Type 0 where
  mapper : new.mapper ≡ old.mapper
  call : new.call ≡ old.call

same_as : (old new : Asking) → new ≡ old → IsSame old new
same_as old new e = record { mapper = ap (λ (a : Asking). a.mapper) e; call = ap (λ (a : Asking). a.call) e }

-- what a turn does to a call without an answer
record Met (turn : InboxEvent) (answers : List InboxEvent) (old new : Asking) : Type 0 where
  none : answers ≡ []
  answer : new.answer ≡ option_map (answer_read old.call) (first_answer old.mapper (turn ∷ []))
  same : IsSame old new

over_limit : (from : Peer) (bytes : List ℕ) (old : Asking) → datagram_max < length bytes → old.answer ≡ None
    → old.answer ≡ option_map (answer_read old.call) (first_answer old.mapper (Arrived from bytes ∷ []))
over_limit from bytes old over e =
    let long : nat_le (length bytes) datagram_max ≡ false = lt-leb (length bytes) datagram_max over in rw long e

by_test : (fits : Bool) (mail : List ℕ) (old new : Asking) → old.answer ≡ None
    → new ≡ cond fits (record old { answer = Some (answer_read old.call mail) }) old
    → (new.answer ≡ option_map (answer_read old.call) (cond fits (Some mail) None)) × IsSame old new
by_test true mail old new e is = (
  ap (λ (a : Asking). a.answer) is,
  record { mapper = ap (λ (a : Asking). a.mapper) is; call = ap (λ (a : Asking). a.call) is },
)
by_test false mail old new e is = (ap (λ (a : Asking). a.answer) is ∙ e, same_as old new is)

heard_met : (from : Peer) (bytes : List ℕ) (old new : Asking) → length bytes ≤ datagram_max → old.answer ≡ None
    → new ≡ heard from bytes old → Met (Arrived from bytes) [] old new
heard_met from bytes old new few e is =
    let short : nat_le (length bytes) datagram_max ≡ true = le-leb (length bytes) datagram_max few in
    let told = by_test (is_answer old.mapper from bytes) bytes old new e is in
    record { none = refl; answer = rw short told.0; same = told.1 }

met : (turn : InboxEvent) (answers : List InboxEvent) (old new : Asking) → Meets asking_ways turn answers old new
    → old.answer ≡ None → Met turn answers old new
met turn answers old new (turns.drops from bytes handler over) e =
    record { none = refl; answer = over_limit from bytes handler over e; same = same_as handler handler refl }
met turn answers old new (turns.listens from bytes before after few hears) e =
    heard_met from bytes before after few e hears.1
met turn answers old new (turns.replies from bytes reply before after few hears) e =
    let no = hears.0 in absurd cc
met turn answers old new (turns.is_quiet before after rests) e = record {
  none = refl;
  answer = ap (λ (a : Asking). a.answer) rests ∙ e;
  same = record { mapper = ap (λ (a : Asking). a.mapper) rests; call = ap (λ (a : Asking). a.call) rests };
}

by_first : (fits : Bool) (mail : List ℕ) (more : Option (List ℕ))
    → cond fits (Some mail) more ≡ either (cond fits (Some mail) None) more
by_first true mail more = refl
by_first false mail more = refl

first_of : (mapper : Peer) (turn : InboxEvent) (events : List InboxEvent)
    → first_answer mapper (turn ∷ events) ≡ either (first_answer mapper (turn ∷ [])) (first_answer mapper events)
first_of mapper (Arrived from mail) events =
    by_first (nat_le (length mail) datagram_max && is_answer mapper from mail) mail (first_answer mapper events)
first_of mapper Silent events = refl
first_of mapper (Sent to mail) events = refl

joined : (call : PortCall) (first more : Option (List ℕ))
    → later call (option_map (answer_read call) first) more ≡ later call None (either first more)
joined call (Some mail) more = refl
joined call None more = refl

-- ---- a run

module _ where
  same_sent : (a : Option Answer) (old new : Asking) → old.answer ≡ a → new ≡ sent old.answer old
      → (new.answer ≡ a) × IsSame old new
  same_sent (Some x) old new e is =
      let same : new ≡ sent (Some x) old = subst (λ (o : Option Answer). new ≡ sent o old) e is in
      (ap (λ (q : Asking). q.answer) same ∙ e, same_as old new same)
  same_sent None old new e is =
      let same : new ≡ sent None old = subst (λ (o : Option Answer). new ≡ sent o old) e is in (
        ap (λ (q : Asking). q.answer) same ∙ e,
        record { mapper = ap (λ (q : Asking). q.mapper) same; call = ap (λ (q : Asking). q.call) same },
      )

  wants : (a : Option Answer) (want : Want) (old : Asking) → old.answer ≡ a
      → want ≡ wanted old.answer old.is_due old → want ≡ wanted a old.is_due old
  wants a want old e is = subst (λ (o : Option Answer). want ≡ wanted o old.is_due old) e is

  run_answered : (most : ℕ) (events : List InboxEvent) (end : Result Ended Failed) (old last : Asking)
      → Runs asking_ways most events end old last → (a : Option Answer) → old.answer ≡ a
      → last.answer ≡ later old.call a (first_answer old.mapper events)
  run_answered most events end old last (turns.is_spent handler) (Some x) e = e
  run_answered most events end old last (turns.is_spent handler) None e = e
  run_answered most events end old last (turns.is_done more before after goes) (Some x) e =
      (same_sent (Some x) before after e goes.1).0
  run_answered most events end old last (turns.is_done more before after goes) None e =
      absurd (no_end before.is_due before (wants None Nothing before e goes.0))
  run_answered most events end old last (turns.sends more to bytes rest how before next after goes runs) (Some x) e =
      absurd (no_letter to bytes (wants (Some x) (Letter to bytes) before e goes.0))
  run_answered most events end old last (turns.sends more to bytes rest how before next after goes runs) None e =
      let same = same_sent None before next e goes.1 in
      run_answered (suc more) rest how next after runs None same.0
      ∙ ap (λ (mapper : Peer). option_map (answer_read next.call) (first_answer mapper rest)) same.1.mapper
      ∙ ap (λ (call : PortCall). option_map (answer_read call) (first_answer before.mapper rest)) same.1.call
  run_answered most events end old last (turns.loses_letter more to bytes why before after goes) (Some x) e =
      absurd (no_letter to bytes (wants (Some x) (Letter to bytes) before e goes.0))
  run_answered most events end old last (turns.loses_letter more to bytes why before after goes) None e =
      (same_sent None before after e goes.1).0
  run_answered most events end old last
      (turns.takes more turn answers rest how before waiting next after goes meets runs) (Some x) e =
      absurd (no_turn (wants (Some x) Turn before e goes.0))
  run_answered most events end old last
      (turns.takes more turn answers rest how before waiting next after goes meets runs) None e =
      let same = same_sent None before waiting e goes.1 in
      let met = met turn answers waiting next meets same.0 in
      let found = first_answer waiting.mapper (turn ∷ []) in
      let read = option_map (answer_read waiting.call) found in
      let ends = run_answered more rest how next after runs read met.answer in
      ends ∙ ap (λ (mapper : Peer). later next.call read (first_answer mapper rest)) met.same.mapper
      ∙ ap (λ (call : PortCall). later call read (first_answer waiting.mapper rest)) met.same.call
      ∙ joined waiting.call found (first_answer waiting.mapper rest)
      ∙ ap (λ (o : Option (List ℕ)). later waiting.call None o) (sym (first_of waiting.mapper turn rest))
      ∙ ap (λ (mapper : Peer). later waiting.call None (first_answer mapper (turn ∷ rest))) same.1.mapper
      ∙ ap (λ (call : PortCall). later call None (first_answer before.mapper (turn ∷ rest))) same.1.call
      ∙ ap (λ (l : List InboxEvent). later before.call None (first_answer before.mapper (turn ∷ l ++ rest))) (sym met.none)
  run_answered most events end old last (turns.loses_turn more why before after goes) (Some x) e =
      absurd (no_turn (wants (Some x) Turn before e goes.0))
  run_answered most events end old last (turns.loses_turn more why before after goes) None e =
      (same_sent None before after e goes.1).0
  run_answered most events end old last (turns.loses_reply more turn reply why before waiting after goes meets) (Some x) e =
      absurd (no_turn (wants (Some x) Turn before e goes.0))
  run_answered most events end old last (turns.loses_reply more turn reply why before waiting after goes meets) None e =
      let same = same_sent None before waiting e goes.1 in
      let some = (met turn (reply ∷ []) waiting after meets same.0).none in
      absurd cc

-- the first answer among what happened counts
pub first_counts : (most : ℕ) (events : List InboxEvent) (end : Result Ended Failed) (old last : Asking)
    → Runs asking_ways most events end old last → old.answer ≡ None
    → last.answer ≡ option_map (answer_read old.call) (first_answer old.mapper events)
first_counts most events end old last runs none = run_answered most events end old last runs None none
