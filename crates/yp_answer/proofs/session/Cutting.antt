-- What goes on between two cuts of a conversation.
use Rattle.std.proofs.Common.{◌≡◌, ℕ, ◌+◌, ◌≤◌, Bool, true, false, IsTrue, List, [], ◌∷◌, ◌++◌, length, Option, None, Some, refl, sym, ap, subst, ◌∙◌, append_assoc, arith, inl, inr}
use Rattle.std.specs.Io.KnownBytes.{Appends, Consumes, Keeps, append_known}
use Rattle.std.proofs.KnownBytes.{Appends-trans, Consumes-trans}
use Rattle.std.specs.List.{All}
use Rattle.std.proofs.lemmas.List.{append-nil, length-append, map-append}
use Rattle.std.proofs.lemmas.List.Elements.{All-nil, All-cons, All-append}
use Rattle.std.proofs.lemmas.Grind.{flat_map-append}
use Rattle.yp_io.specs.Counts.{capped}
use Rattle.yp_io.specs.declared.stream.Peer.{Peer}
use Rattle.yp_rpc.specs.Records.{Fragments}
use Rattle.yp_board.specs.Logs.{Log}
use Rattle.yp_board.specs.Views.{Seen}
use Rattle.yp_answer.specs.Numbers.{record_max}
use Rattle.yp_answer.specs.Transfer.{Taken}
use Rattle.yp_answer.specs.declared.procedure.Path.TheVariants.{Stream}
use Rattle.yp_answer.specs.session.Wires.{SourceTells, Wire}
use Rattle.yp_answer.specs.session.Hosts.{Conduct, Turn, Link, CarriesOut}
use Rattle.yp_answer.specs.session.Runs.{sent_reply}
use Rattle.yp_answer.specs.session.Cuts.{Deed, Answered, Carried, Read, turns_of, waiting_behind, sent_over, IsPaidUp, AreInOrder, Cut, AreFramed, messages_of, written, IsCut}
use Rattle.yp_answer.specs.session.Makes.{may_make}
use Rattle.yp_answer.proofs.session.Making.{unmade}
use Rattle.yp_answer.specs.inside.session.Cuts.{DoesDeeds, SeesOn, IsBrief, Follows, FollowsRead, GoesOn, talking}

-- ---- lists of deeds

pub turns_append : (xs ys : List Deed) → turns_of (xs ++ ys) ≡ turns_of xs ++ turns_of ys
turns_append [] ys = refl
turns_append (Answered turn ∷ xs) ys = ap (λ (turns : List Turn). turn ∷ turns) (turns_append xs ys)
turns_append (Carried taken wire ∷ xs) ys = turns_append xs ys
turns_append (Read wire ∷ xs) ys = turns_append xs ys

pub waiting_append : (waiting : Option Taken) (xs ys : List Deed) → waiting_behind waiting (xs ++ ys) ≡ waiting_behind (waiting_behind waiting xs) ys
waiting_append waiting [] ys = refl
waiting_append waiting (Answered turn ∷ xs) ys = waiting_append turn.taken xs ys
waiting_append waiting (Carried taken wire ∷ xs) ys = waiting_append None xs ys
waiting_append waiting (Read wire ∷ xs) ys = waiting_append waiting xs ys

order_append : (start : Wire) (turns : List Turn) (waiting : Option Taken) (xs ys : List Deed) → AreInOrder start turns waiting xs
    → AreInOrder start (turns ++ turns_of xs) (waiting_behind waiting xs) ys → AreInOrder start turns waiting (xs ++ ys)
order_append start turns waiting [] ys first second =
    let P : List Turn → Type 0 = λ t. AreInOrder start t waiting ys in subst P (append-nil turns) second
order_append start turns waiting (Answered turn ∷ xs) ys first second =
    let P : List Turn → Type 0 = λ t. AreInOrder start t (waiting_behind turn.taken xs) ys in
    (first.0, order_append start (turns ++ turn ∷ []) turn.taken xs ys first.1 (subst P (sym (append_assoc turns (turn ∷ []) (turns_of xs))) second))
order_append start turns waiting (Carried taken wire ∷ xs) ys first second = (first.0, first.1, order_append start turns None xs ys first.2 second)
order_append start turns waiting (Read wire ∷ xs) ys first second = (first.0, first.1, order_append start turns waiting xs ys first.2 second)

framed_append : (messages : List (List ℕ)) (message bytes first : List ℕ) → AreFramed messages bytes → Fragments record_max message first
    → AreFramed (messages ++ message ∷ []) (bytes ++ first)
framed_append [] message bytes first none last =
    (first, [], last, ap (λ (l : List ℕ). l ++ first) none ∙ sym (append-nil first), refl)
framed_append (one ∷ messages) message bytes first framed last = (
  framed.0,
  framed.1 ++ first,
  framed.2,
  ap (λ (l : List ℕ). l ++ first) framed.3 ∙ append_assoc framed.0 framed.1 first,
  framed_append messages message framed.1 first framed.4 last,
)

pub sent_append : (xs ys : List Turn) → sent_over (xs ++ ys) ≡ sent_over xs ++ sent_over ys
sent_append xs ys = flat_map-append (λ (turn : Turn). sent_reply turn.answer) xs ys

-- ---- nothing, and one behind the other

pub follows_none : (cut : Cut) → Follows [] cut cut
follows_none cut start before is = let P : List Deed → Type 0 = λ deeds. IsCut start deeds cut in subst P (sym (append-nil before)) is

pub follows_then : (first second : List Deed) (a b c : Cut) → Follows first a b → Follows second b c → Follows (first ++ second) a c
follows_then first second a b c ab bc start before is =
    let P : List Deed → Type 0 = λ deeds. IsCut start deeds c in
    subst P (append_assoc before first second) (bc start (before ++ first) (ab start before is))

pub sees_same : (seen : Seen) → SeesOn seen seen
sees_same seen = record { catalogue = refl; grown = ([], sym (append-nil seen.known)) }

pub sees_then : (a b c : Seen) → SeesOn a b → SeesOn b c → SeesOn a c
sees_then a b c first second = record {
  catalogue = second.catalogue ∙ first.catalogue;
  grown = (
    first.grown.0 ++ second.grown.0,
    second.grown.1 ∙ ap (λ (l : Log). l ++ second.grown.0) first.grown.1 ∙ append_assoc a.known first.grown.0 second.grown.0,
  );
}

module _ {H : Type 0} (conduct : Conduct H) (peer : Peer) (carries : Bool) where
  does_then : (first second : List Deed) (a b c : H) → DoesDeeds conduct peer first a b → DoesDeeds conduct peer second b c → DoesDeeds conduct peer (first ++ second) a c
  does_then [] second a b c same next = let P : H → Type 0 = λ h. DoesDeeds conduct peer second h c in subst P same next
  does_then (deed ∷ first) second a b c does next = (does.0, does.1, does_then first second does.0 b c does.2 next)

  -- a conversation goes on, and its host stays
  pub goes_by : (deeds : List Deed) (host : H) (a b : Cut) → DoesDeeds conduct peer deeds host host → All IsBrief deeds → Follows deeds a b
      → GoesOn conduct peer carries (talking host a) (talking host b)
  goes_by deeds host a b does brief follows =
      record { deeds = deeds; does = does; brief = λ e. brief; follows = follows; sees = sees_same (conduct.seen host) }

  pub goes_still : (host : H) (a b : Cut) → Follows [] a b → GoesOn conduct peer carries (talking host a) (talking host b)
  goes_still host a b follows = goes_by [] host a b refl (All-nil IsBrief) follows

  pub goes_read : (host : H) (a b : Cut) → FollowsRead a b → GoesOn conduct peer carries (talking host a) (talking host b)
  goes_read host a b (inl follows) = goes_still host a b follows
  goes_read host a b (inr follows) = goes_by (Read a.wire ∷ []) host a b (host, refl, refl) (All-cons IsBrief (Read a.wire) [] tt (All-nil IsBrief)) follows

  pub goes_then : (old mid new : H) (a b c : Cut) → GoesOn conduct peer carries (talking old a) (talking mid b) → GoesOn conduct peer carries (talking mid b) (talking new c) → GoesOn conduct peer carries (talking old a) (talking new c)
  goes_then old mid new a b c first second = record {
    deeds = first.deeds ++ second.deeds;
    does = does_then first.deeds second.deeds old mid new first.does second.does;
    brief = λ e. All-append IsBrief first.deeds second.deeds (first.brief e) (second.brief e);
    follows = follows_then first.deeds second.deeds a b c first.follows second.follows;
    sees = sees_then (conduct.seen old) (conduct.seen mid) (conduct.seen new) first.sees second.sees;
  }

-- ---- paying, and putting more

-- Bytes went out or are owed that were still to be sent, and, where memory ran out, some are lost. Nothing was read,
-- and nothing else changed.
pub record Moves (old new : Cut) : Type 0 where
  pub out : List ℕ
  pub gone : List ℕ
  pub wrote : Appends (written old) (written new) out
  pub rest : old.rest ≡ out ++ (new.rest ++ gone)
  pub whole : new.broken ≡ false → gone ≡ []
  pub source : new.wire.source ≡ old.wire.source
  pub progress : new.progress ≡ old.progress
  pub incoming : new.incoming ≡ old.incoming
  pub waiting : new.waiting ≡ old.waiting
  pub settled : new.settled ≡ true → (new.owed ≡ []) × (new.rest ≡ []) × (new.broken ≡ false) × IsTrue new.wire.sink.flushed

pub keeps_append : (a b : Option (List ℕ)) → Keeps a b → Appends a b []
keeps_append None b same = tt
keeps_append (Some x) None same = absurd same
keeps_append (Some x) (Some y) same = same ∙ sym (append-nil x)

pub moves_follow : (old new : Cut) → old.broken ≡ false → Moves old new → Follows [] old new
moves_follow old new sound moves start before is = follows_none new start before (record {
  spelled = is.spelled;
  framed = is.framed;
  read = rw (moves.source, moves.incoming) is.read;
  place = rw moves.progress is.place;
  calls = rw moves.progress is.calls;
  put = is.put ++ moves.out;
  lost = moves.gone;
  wrote = Appends-trans start.sink.output (written old) (written new) is.put moves.out is.wrote moves.wrote;
  replied =
      is.replied ∙ ap (λ (l : List ℕ). is.put ++ (old.rest ++ l)) (is.whole sound) ∙ ap (λ (l : List ℕ). is.put ++ l) (append-nil old.rest)
      ∙ ap (λ (l : List ℕ). is.put ++ l) moves.rest ∙ sym (append_assoc is.put moves.out (new.rest ++ moves.gone));
  whole = moves.whole;
  settled = λ yes. let all = moves.settled yes in (all.0, all.1, all.2, inl all.3);
  order = is.order;
  waits = moves.waiting ∙ is.waits;
  faults = let P : SourceTells → Type 0 = λ source. start.source.faults ≤ source.faults in subst P (sym moves.source) is.faults;
})

-- ---- reading

-- nothing is owed
plain : (a b : Option (List ℕ)) (bs : List ℕ) → Appends a (append_known b []) bs → Appends a b bs
plain None b bs p = tt
plain (Some x) None bs p = p
plain (Some x) (Some y) bs p = sym (append-nil y) ∙ p

-- All is paid and passed on at a cut at rest.
paid_up : (start : Wire) (before : List Deed) (now : Cut) → IsCut start before now → now.settled ≡ true → IsPaidUp start (turns_of before) now.wire
paid_up start before now is settled =
    let all = is.settled settled in
    let whole : sent_over (turns_of before) ≡ is.put =
    is.replied ∙ rw (all.1, is.whole all.2) (append-nil is.put) in
    let out : Appends start.sink.output (append_known now.wire.sink.output []) is.put =
    let P : List ℕ → Type 0 = λ owed. Appends start.sink.output (append_known now.wire.sink.output owed) is.put in subst P all.0 is.wrote in
    record {
      sent = rw whole (plain start.sink.output now.wire.sink.output is.put out);
      passed_on = all.3;
    }

-- more was read at rest
pub record Reads (old new : Cut) : Type 0 where
  pub came : List ℕ
  pub taken : Consumes old.wire.source.input new.wire.source.input came
  pub incoming : new.incoming ≡ old.incoming ++ came
  pub sink : new.wire.sink ≡ old.wire.sink
  pub progress : new.progress ≡ old.progress
  pub owed : new.owed ≡ old.owed
  pub rest : new.rest ≡ old.rest
  pub waiting : new.waiting ≡ old.waiting
  pub settled : new.settled ≡ old.settled
  pub broken : new.broken ≡ old.broken
  pub faults : old.wire.source.faults ≤ new.wire.source.faults

pub reads_follow : (old new : Cut) → old.settled ≡ true → old.waiting ≡ None → Reads old new → Follows (Read old.wire ∷ []) old new
reads_follow old new settled free reads start before is =
    let deeds = before ++ Read old.wire ∷ [] in
    let turns : turns_of deeds ≡ turns_of before = turns_append before (Read old.wire ∷ []) ∙ append-nil (turns_of before) in
    let waits : waiting_behind None deeds ≡ waiting_behind None before = waiting_append None before (Read old.wire ∷ []) in
    record {
      spelled = is.spelled;
      framed = rw turns is.framed;
      read = rw reads.incoming (let P : List ℕ → Type 0 = λ l. Consumes start.source.input new.wire.source.input l in
          subst P (append_assoc is.spelled old.incoming reads.came)
          (Consumes-trans start.source.input old.wire.source.input new.wire.source.input (is.spelled ++ old.incoming) reads.came is.read reads.taken));
      place = rw reads.progress is.place;
      calls = rw (reads.progress, turns) is.calls;
      put = is.put;
      lost = is.lost;
      wrote = rw (reads.sink, reads.owed) is.wrote;
      replied = rw (turns, reads.rest) is.replied;
      whole = λ sound. is.whole (sym reads.broken ∙ sound);
      settled = λ yes. rw (reads.owed, reads.rest, reads.broken, turns, reads.sink) (is.settled (sym reads.settled ∙ yes));
      order = order_append start [] None before (Read old.wire ∷ []) is.order (sym is.waits ∙ free, paid_up start before old is settled, tt);
      waits = reads.waiting ∙ is.waits ∙ sym waits;
      faults = omega (arith, is.faults, reads.faults);
    }

-- ---- a transfer

-- a transfer was carried out at rest
pub carried_follow : (taken : Taken) (old : Cut) → old.settled ≡ true → old.waiting ≡ Some taken
    → Follows (Carried taken old.wire ∷ []) old (record old { waiting = None })
carried_follow taken old settled waiting start before is =
    let deeds = before ++ Carried taken old.wire ∷ [] in
    let turns : turns_of deeds ≡ turns_of before = turns_append before (Carried taken old.wire ∷ []) ∙ append-nil (turns_of before) in
    record {
      spelled = is.spelled;
      framed = rw turns is.framed;
      read = is.read;
      place = is.place;
      calls = rw turns is.calls;
      put = is.put;
      lost = is.lost;
      wrote = is.wrote;
      replied = rw turns is.replied;
      whole = is.whole;
      settled = λ yes. rw turns (is.settled yes);
      order = order_append start [] None before (Carried taken old.wire ∷ []) is.order (sym is.waits ∙ waiting, paid_up start before old is settled, tt);
      waits = sym (waiting_append None before (Carried taken old.wire ∷ []));
      faults = is.faults;
    }

pub goes_carried : {H : Type 0} (conduct : Conduct H) (peer : Peer) (carries : Bool) (taken : Taken) (old new : H) (cut : Cut) → carries ≡ true
    → cut.settled ≡ true → cut.waiting ≡ Some taken → CarriesOut conduct taken peer old new → GoesOn conduct peer carries (talking old cut) (talking new (record cut { waiting = None }))
goes_carried conduct peer carries taken old new cut does settled waiting carried = record {
  deeds = Carried taken cut.wire ∷ [];
  does = (new, carried, refl);
  brief = λ none. absurd (let e : true ≡ false = sym does ∙ none in cc);
  follows = carried_follow taken cut settled waiting;
  sees = record { catalogue = carried.catalogue; grown = carried.grown };
}

-- ---- a record

-- a record was taken from what came, and its reply was put, but for what is left open of it, or lost
pub record Answers (turn : Turn) (old new : Cut) : Type 0 where
  pub bytes : List ℕ
  pub framed : Fragments record_max turn.message bytes
  pub incoming : old.incoming ≡ bytes ++ new.incoming
  pub place : new.progress.place ≡ capped old.progress.place (length bytes)
  pub calls : new.progress.calls ≡ capped old.progress.calls 1
  pub out : List ℕ
  pub gone : List ℕ
  pub wrote : Appends (written old) (written new) out
  pub replied : sent_reply turn.answer ≡ out ++ (new.rest ++ gone)
  pub whole : new.broken ≡ false → gone ≡ []
  pub source : new.wire.source ≡ old.wire.source
  pub unsettled : new.settled ≡ false
  pub waiting : new.waiting ≡ turn.taken

capped_then : (a b : ℕ) → capped (capped 0 a) b ≡ capped 0 (a + b)
capped_then a b = omega arith

answers_follow : (turn : Turn) (old new : Cut) → old.broken ≡ false → old.rest ≡ [] → old.waiting ≡ None → Answers turn old new
    → Follows (Answered turn ∷ []) old new
answers_follow turn old new sound free waiting answers start before is =
    let deeds = before ++ Answered turn ∷ [] in
    let turns : turns_of deeds ≡ turns_of before ++ turn ∷ [] = turns_append before (Answered turn ∷ []) in
    let message : messages_of (turns_of deeds) ≡ messages_of (turns_of before) ++ turn.message ∷ [] =
    ap messages_of turns ∙ map-append (λ (t : Turn). t.message) (turns_of before) (turn ∷ []) in
    let sent : sent_over (turns_of deeds) ≡ sent_over (turns_of before) ++ sent_reply turn.answer =
    ap sent_over turns ∙ sent_append (turns_of before) (turn ∷ []) ∙ ap (λ (l : List ℕ). sent_over (turns_of before) ++ l) (append-nil (sent_reply turn.answer)) in
    let all : sent_over (turns_of before) ≡ is.put = is.replied ∙ rw (free, is.whole sound) (append-nil is.put) in
    let count : length (turns_of deeds) ≡ length (turns_of before) + 1 = ap length turns ∙ length-append (turns_of before) (turn ∷ []) in
    let long : length (is.spelled ++ answers.bytes) ≡ length is.spelled + length answers.bytes = length-append is.spelled answers.bytes in
    record {
      spelled = is.spelled ++ answers.bytes;
      framed = rw message (framed_append (messages_of (turns_of before)) turn.message is.spelled answers.bytes is.framed answers.framed);
      read =
          let P : List ℕ → Type 0 = λ l. Consumes start.source.input new.wire.source.input l in
          subst P (ap (λ (l : List ℕ). is.spelled ++ l) answers.incoming ∙ sym (append_assoc is.spelled answers.bytes new.incoming))
          (rw answers.source is.read);
      place = answers.place ∙ ap (λ (n : ℕ). capped n (length answers.bytes)) is.place ∙ capped_then (length is.spelled) (length answers.bytes) ∙ ap (capped 0) (sym long);
      calls = answers.calls ∙ ap (λ (n : ℕ). capped n 1) is.calls ∙ capped_then (length (turns_of before)) 1 ∙ ap (capped 0) (sym count);
      put = is.put ++ answers.out;
      lost = answers.gone;
      wrote = Appends-trans start.sink.output (written old) (written new) is.put answers.out is.wrote answers.wrote;
      replied = sent ∙ ap (λ (l : List ℕ). l ++ sent_reply turn.answer) all ∙ ap (λ (l : List ℕ). is.put ++ l) answers.replied
          ∙ sym (append_assoc is.put answers.out (new.rest ++ answers.gone));
      whole = answers.whole;
      settled = λ yes. absurd (let e : false ≡ true = sym answers.unsettled ∙ yes in cc);
      order = order_append start [] None before (Answered turn ∷ []) is.order (sym is.waits ∙ waiting, tt);
      waits = answers.waiting ∙ sym (waiting_append None before (Answered turn ∷ []));
      faults = let P : SourceTells → Type 0 = λ source. start.source.faults ≤ source.faults in subst P (sym answers.source) is.faults;
    }

pub goes_answered : {H : Type 0} (conduct : Conduct H) (peer : Peer) (carries : Bool) (turn : Turn) (old new : H) (a b : Cut) → a.broken ≡ false → a.rest ≡ []
    → a.waiting ≡ None → turn.flushed ≡ false → Link conduct Stream peer turn old new → (carries ≡ false → may_make Stream peer turn.message ≡ false)
    → SeesOn (conduct.seen old) (conduct.seen new) → Answers turn a b → GoesOn conduct peer carries (talking old a) (talking new b)
goes_answered conduct peer carries turn old new a b sound free waiting unsent link short sees answers = record {
  deeds = Answered turn ∷ [];
  does = (new, (unsent, link), refl);
  brief = λ none. All-cons IsBrief (Answered turn) [] (unmade conduct peer turn old new link (short none)) (All-nil IsBrief);
  follows = answers_follow turn a b sound free waiting answers;
  sees = sees;
}
