-- A session so far, and how it goes on and ends.
use Rattle.std.proofs.Common.{◌≡◌, ℕ, ◌+◌, ◌<◌, ◌≤◌, Bool, true, false, List, [], ◌∷◌, ◌++◌, length, map, Option, Some, None, refl, sym, ap, subst, ◌∙◌, append_assoc, arith}
use Rattle.std.specs.Prelude.{IsTrue}
use Rattle.std.specs.Option.{option_map_or}
use Rattle.std.proofs.lemmas.List.{append-nil, length_push, length-map, length-append, map-append}
use Rattle.std.proofs.lemmas.List.Sums.{fold-append}
use Rattle.yp_io.specs.Counts.{HasRisen, last_count}
use Rattle.yp_io.specs.declared.stream.Peer.{Peer}
use Rattle.yp_answer.specs.declared.procedure.Path.{Path}
use Rattle.yp_answer.specs.Maps.{maps_of}
use Rattle.yp_answer.specs.Transfer.{Taken}
use Rattle.yp_answer.specs.Reply.{Response, Silence, Bytes, Takes, Open, reply}
use Rattle.yp_answer.specs.declared.session.session.End.{End}
use Rattle.yp_answer.specs.declared.session.session.End.TheVariants.{Clean, Torn, TooLong, ReadFault, WriteFault, Enough}
use Rattle.yp_answer.specs.declared.session.session.Step.TheVariants.{Answered, Ended}
use Rattle.yp_answer.specs.session.Progress.{Progress, begun}
use Rattle.yp_answer.specs.session.Wires.{SinkTells, Wire, NeverFalls}
use Rattle.yp_answer.specs.session.Hosts.{Counts, Conduct, Turn, CarriesWhere, Carries, Link, counts_after, counts_where, counts_behind, counts_over}
use Rattle.yp_answer.proofs.session.Logging.{chain_logs, ends_logs}
use Rattle.yp_answer.specs.session.Runs.{Dialogue, IsFlushed, AnswersRecord, IsIdle, DoesStep, Chain, Ends, unsent, Runs}

module _ {H : Type 0} (conduct : Conduct H) (peer : Peer) where
  -- ---- what is counted

  where_counts : (flushed : Bool) (taken : Taken) (old new : H) → CarriesWhere flushed conduct taken peer old new → conduct.counts new ≡ counts_where flushed (conduct.counts old)
  where_counts true taken old new h = h.counted
  where_counts false taken old new h = ap conduct.counts h

  carried_counts : (response : Response) (turn : Turn) (old new : H) → Carries conduct peer response turn old new → conduct.counts new ≡ counts_behind (conduct.counts old) turn
  carried_counts Silence turn old new h = rw (h.1, h.2) (ap conduct.counts h.3)
  carried_counts (Bytes bytes) turn old new h = rw (h.1, h.2) (ap conduct.counts h.3)
  carried_counts (Takes bytes taken) turn old new h = rw (h.1, h.2) (where_counts turn.flushed taken old new h.3)
  carried_counts (Open xid job) turn old new h = rw (h.2, h.3) h.4.counted

  link_counts : (path : Path) (turn : Turn) (old new : H) → Link conduct path peer turn old new → conduct.counts new ≡ counts_behind (conduct.counts old) turn
  link_counts path turn old new link =
      carried_counts (reply path (maps_of (conduct.seen link.mid)) peer turn.message) turn link.mid new link.carried
      ∙ ap (λ (counts : Counts). counts_behind counts turn) link.uncounted

  chain_counts : (answered : List (Turn × Dialogue H)) (old new : Dialogue H) → Chain conduct peer answered old new
      → conduct.counts new.host ≡ counts_over (conduct.counts old.host) (map (λ one. one.0) answered)
  chain_counts [] old new chain = ap (λ (d : Dialogue H). conduct.counts d.host) chain
  chain_counts (one ∷ answered) old new chain =
      chain_counts answered one.1 new chain.1
      ∙ ap (λ (counts : Counts). counts_over counts (map (λ one. one.0) answered)) (link_counts _ one.0 old.host one.1.host chain.0.replied.link)

  chain_calls : (answered : List (Turn × Dialogue H)) (old new : Dialogue H) → Chain conduct peer answered old new → old.progress.calls + length answered < last_count
      → new.progress.calls ≡ old.progress.calls + length answered
  chain_calls [] old new chain few = let same = ap (λ (d : Dialogue H). d.progress.calls) chain in omega (arith, same)
  chain_calls (one ∷ answered) old new chain few =
      let first = chain.0.calls in
      let rest = chain_calls answered one.1 new chain.1 (omega (arith, first, few)) in
      omega (arith, rest, first, few)

  ends_counts : (most count : ℕ) (end : End) (last new : Dialogue H) (ends : Ends conduct peer most count end last new)
      → conduct.counts new.host ≡ counts_over (conduct.counts last.host) (unsent conduct peer most count end last new ends)
  ends_counts most count Clean last new ends = ap conduct.counts ends.1.1.host
  ends_counts most count (Torn at) last new ends = ap conduct.counts ends.1.1.host
  ends_counts most count (TooLong at) last new ends = ap conduct.counts ends.1.1.host
  ends_counts most count ReadFault last new ends = ap conduct.counts ends.1.1.host
  ends_counts most count WriteFault last new ends = link_counts _ ends.1.0 last.host new.host ends.1.1.replied.link
  ends_counts most count Enough last new ends = ap (λ (d : Dialogue H). conduct.counts d.host) ends.1

  ends_calls : (most count : ℕ) (end : End) (last new : Dialogue H) (ends : Ends conduct peer most count end last new) → last.progress.calls < last_count
      → new.progress.calls ≡ last.progress.calls + length (unsent conduct peer most count end last new ends)
  ends_calls most count Clean last new ends few = let same = ap (λ (p : Progress). p.calls) ends.1.1.progress in omega (arith, same)
  ends_calls most count (Torn at) last new ends few = let same = ap (λ (p : Progress). p.calls) ends.1.1.progress in omega (arith, same)
  ends_calls most count (TooLong at) last new ends few = let same = ap (λ (p : Progress). p.calls) ends.1.1.progress in omega (arith, same)
  ends_calls most count ReadFault last new ends few = let same = ap (λ (p : Progress). p.calls) ends.1.1.progress in omega (arith, same)
  ends_calls most count WriteFault last new ends few = let more = ends.1.1.calls in omega (arith, more, few)
  ends_calls most count Enough last new ends few = let same = ap (λ (d : Dialogue H). d.progress.calls) ends.1 in omega (arith, same)

  -- ---- one record more

  Chain-more : (answered : List (Turn × Dialogue H)) (turn : Turn) (old mid new : Dialogue H) → Chain conduct peer answered old mid → AnswersRecord conduct peer true turn mid new
      → Chain conduct peer (answered ++ (turn, new) ∷ []) old new
  Chain-more [] turn old mid new before one = (let P : Dialogue H → Type 0 = λ d. AnswersRecord conduct peer true turn d new in subst P before one, refl)
  Chain-more (first ∷ answered) turn old mid new before one = (before.0, Chain-more answered turn first.1 mid new before.1 one)

  -- so many records were read and answered, and a witness saw the wire behind each
  pub record SoFar (count : ℕ) (old now : Dialogue H) (before after : List Wire) : Type 0 where
    pub answered : List (Turn × Dialogue H)
    pub chain : Chain conduct peer answered old now
    pub long : length answered ≡ count
    pub watched : after ≡ before ++ map (λ one. one.1.wire) answered

  pub SoFar-none : (dialogue : Dialogue H) (wires : List Wire) → SoFar 0 dialogue dialogue wires wires
  SoFar-none dialogue wires = record { answered = []; chain = refl; long = refl; watched = sym (append-nil wires) }

  pub SoFar-more : (count : ℕ) (old mid new : Dialogue H) (before then after : List Wire) → SoFar count old mid before then → DoesStep conduct peer Answered mid new
      → after ≡ then ++ new.wire ∷ [] → SoFar (count + 1) old new before after
  SoFar-more count old mid new before then after so_far step seen = record {
    answered = so_far.answered ++ (step.0, new) ∷ [];
    chain = Chain-more so_far.answered step.0 old mid new so_far.chain step.1;
    long = length_push so_far.answered (step.0, new) ∙ ap (λ (n : ℕ). n + 1) so_far.long;
    watched =
        seen ∙ ap (λ (wires : List Wire). wires ++ new.wire ∷ []) so_far.watched ∙ append_assoc before (map (λ one. one.1.wire) so_far.answered) (new.wire ∷ [])
        ∙ ap (λ (wires : List Wire). before ++ wires) (sym (map-append (λ (one : Turn × Dialogue H). one.1.wire) so_far.answered ((step.0, new) ∷ [])));
  }

  -- ---- the end

  pub ends_by : (most count : ℕ) (end : End) (last new : Dialogue H) → count < most → DoesStep conduct peer (Ended end) last new → Ends conduct peer most count end last new
  ends_by most count Clean last new few does = (few, does)
  ends_by most count (Torn at) last new few does = (few, does)
  ends_by most count (TooLong at) last new few does = (few, does)
  ends_by most count ReadFault last new few does = (few, does)
  ends_by most count WriteFault last new few does = (few, does)
  ends_by most count Enough last new few does = absurd does

  pub Runs-of : (most count : ℕ) (end : End) (old last new : Dialogue H) (before after : List Wire) → count ≤ most → most < last_count → old.progress ≡ begun
      → (so_far : SoFar count old last before after) → Ends conduct peer most count end last new → Runs conduct peer most end old new (map (λ one. one.1.wire) so_far.answered)
  Runs-of most count end old last new before after few bound first so_far ended =
      let answered = so_far.answered in
      let ends : Ends conduct peer most (length answered) end last new = let P : ℕ → Type 0 = λ n. Ends conduct peer most n end last new in subst P (sym so_far.long) ended in
      let rest = unsent conduct peer most (length answered) end last new ends in
      let began = ap (λ (p : Progress). p.calls) first in
      let calls = chain_calls answered old last so_far.chain (omega (arith, began, so_far.long)) in
      let all = ends_calls most (length answered) end last new ends (omega (arith, calls, began, so_far.long)) in
      record {
        answered = answered;
        last = last;
        chain = so_far.chain;
        ends = ends;
        watched = refl;
        turns = map (λ one. one.0) answered ++ rest;
        all = refl;
        calls = omega (arith, all, calls, began, length-append (map (λ (one : Turn × Dialogue H). one.0) answered) rest, length-map answered (λ (one : Turn × Dialogue H). one.0));
        counted =
            ends_counts most (length answered) end last new ends
            ∙ ap (λ (counts : Counts). counts_over counts rest) (chain_counts answered old last so_far.chain)
            ∙ sym (fold-append counts_behind (conduct.counts old.host) (map (λ (one : Turn × Dialogue H). one.0) answered) rest);
        on_logs = chain_logs conduct peer (conduct.seen old.host).catalogue answered rest old last (conduct.seen new.host).known so_far.chain refl
            (λ same. ends_logs conduct peer (conduct.seen old.host).catalogue most (length answered) end last new ends same);
      }

-- ---- flushing, and faults

pub falls_then : {a b c : Wire} → NeverFalls a b → NeverFalls b c → NeverFalls a c
falls_then first second = record { reads = omega (arith, first.reads, second.reads); writes = omega (arith, first.writes, second.writes) }

-- what was flushed is flushed behind a reply, or none
flushed_on : (answer : Option (List ℕ)) (old new : Bool) → IsFlushed answer old new → IsTrue old → IsTrue new
flushed_on None old new same was = let P : Bool → Type 0 = λ b. IsTrue b in subst P (sym same) was
flushed_on (Some message) old new is was = is

module _ {H : Type 0} (conduct : Conduct H) (peer : Peer) (old new : Dialogue H) where
  pub answered_flushed : DoesStep conduct peer Answered old new → IsTrue old.wire.sink.flushed → IsTrue new.wire.sink.flushed
  answered_flushed does was = flushed_on does.0.answer old.wire.sink.flushed new.wire.sink.flushed does.1.replied.sends.1 was

  pub answered_falls : DoesStep conduct peer Answered old new → NeverFalls old.wire new.wire
  answered_falls does = does.1.never_falls

  idle_flushed : IsIdle old new → IsTrue old.wire.sink.flushed → IsTrue new.wire.sink.flushed
  idle_flushed idle was = let P : SinkTells → Type 0 = λ sink. IsTrue sink.flushed in subst P (sym idle.sink) was

  pub ended_flushed : (end : End) → DoesStep conduct peer (Ended end) old new → (end ≡ WriteFault → ⊥) → IsTrue old.wire.sink.flushed → IsTrue new.wire.sink.flushed
  ended_flushed Clean does other was = idle_flushed does.1 was
  ended_flushed (Torn at) does other was = idle_flushed does.1 was
  ended_flushed (TooLong at) does other was = idle_flushed does.1 was
  ended_flushed ReadFault does other was = idle_flushed does.1 was
  ended_flushed WriteFault does other was = absurd (other refl)
  ended_flushed Enough does other was = absurd does

  pub ended_falls : (end : End) → DoesStep conduct peer (Ended end) old new → NeverFalls old.wire new.wire
  ended_falls Clean does = does.1.never_falls
  ended_falls (Torn at) does = does.1.never_falls
  ended_falls (TooLong at) does = does.1.never_falls
  ended_falls ReadFault does = does.1.never_falls
  ended_falls WriteFault does = does.1.never_falls
  ended_falls Enough does = absurd does

module _ {H : Type 0} (conduct : Conduct H) (peer : Peer) (first : Wire) (last new : Dialogue H) (so_far : NeverFalls first last.wire) where
  pub read_fault : (end : End) → end ≡ ReadFault → DoesStep conduct peer (Ended end) last new → HasRisen first.source.faults new.wire.source.faults
  read_fault end is does =
      let here : DoesStep conduct peer (Ended ReadFault) last new = let P : End → Type 0 = λ e. DoesStep conduct peer (Ended e) last new in subst P is does in
      omega (arith, so_far.reads, here.0.0)

  pub write_fault : (end : End) → end ≡ WriteFault → DoesStep conduct peer (Ended end) last new → HasRisen first.sink.faults new.wire.sink.faults
  write_fault end is does =
      let here : DoesStep conduct peer (Ended WriteFault) last new = let P : End → Type 0 = λ e. DoesStep conduct peer (Ended e) last new in subst P is does in
      omega (arith, so_far.writes, here.1.replied.sends.1)
