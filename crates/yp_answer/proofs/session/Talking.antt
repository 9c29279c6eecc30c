-- What each step of a conversation does to its cut.
use Rattle.std.proofs.Common.{◌≡◌, ℕ, ◌+◌, Bool, true, false, IsTrue, List, [], ◌∷◌, ◌++◌, length, take, drop, Option, None, Some, Result, Ok, Err, refl, sym, ap, ◌∙◌}
use Rattle.std.specs.Prelude.{not, is_some, is_err, OnOk, OnErr}
use Rattle.std.specs.Io.KnownBytes.{Appends, Keeps, append_known}
use Rattle.std.proofs.lemmas.List.{append-nil, take-append-drop}
use Rattle.yp_io.specs.declared.ready.TrySource as try_source
use Rattle.yp_io.specs.declared.ready.TrySink as try_sink
use Rattle.yp_io.specs.Counts.{capped}
use Rattle.yp_answer.specs.Numbers.{record_max}
use Rattle.yp_answer.specs.Transfer.{Taken}
use Rattle.yp_answer.specs.session.Hosts.{Turn}
use Rattle.yp_answer.specs.session.Runs.{sent_reply}
use Rattle.yp_rpc.specs.inside.Incoming.{IsRecord}
use Rattle.yp_answer.specs.inside.session.Puts.{Puts}
use Rattle.yp_answer.specs.inside.session.Cuts.{OpenReply, rest_of, Talk, cut_of, Follows}
use Rattle.yp_answer.proofs.session.Cutting.{Answers, moves_follow, keeps_append}

-- a front is taken away
drop_front : (xs ys : List ℕ) → drop (length xs) (xs ++ ys) ≡ ys
drop_front [] ys = refl
drop_front (x ∷ xs) ys = drop_front xs ys

module _ {S K : Type 0} (source : try_source.Ghosts S) (sink : try_sink.Ghosts K) where
  -- some was paid, or passed on
  pub paid_follows : (talk : Talk S K) (sink' : K) (owed' : List ℕ) (settled' : Bool) → talk.broken ≡ false
      → Keeps (append_known (sink.output talk.sink) talk.owed) (append_known (sink.output sink') owed')
      → (settled' ≡ true → (owed' ≡ []) × (rest_of talk.stream ≡ []) × IsTrue (sink.flushed sink'))
      → Follows [] (cut_of source sink talk) (cut_of source sink (record talk { sink = sink'; owed = owed'; settled = settled' }))
  paid_follows talk sink' owed' settled' sound kept settled =
      moves_follow (cut_of source sink talk) (cut_of source sink (record talk { sink = sink'; owed = owed'; settled = settled' })) sound (record {
        out = [];
        gone = [];
        wrote = keeps_append (append_known (sink.output talk.sink) talk.owed) (append_known (sink.output sink') owed') kept;
        rest = sym (append-nil (rest_of talk.stream));
        whole = λ e. refl;
        source = refl;
        progress = refl;
        incoming = refl;
        waiting = refl;
        settled = λ h. let all = settled h in (all.0, all.1, sound, all.2);
      })

  -- what was put of the reply that is open
  piece_of : {T E : Type 0} (stream stream' : Option OpenReply) (old new : Option (List ℕ)) (r : Result T E) (broken : Bool)
      → OnOk r ((out : List ℕ) × Appends old new out × (rest_of stream ≡ out ++ rest_of stream'))
      → OnErr r ((n : ℕ) × Appends old new (take n (rest_of stream))) → OnErr r (stream' ≡ None) → broken ≡ is_err r
      → (out : List ℕ) × (gone : List ℕ) × Appends old new out × (rest_of stream ≡ out ++ (rest_of stream' ++ gone)) × (broken ≡ false → gone ≡ [])
  piece_of stream stream' old new (Ok x) broken put front none is =
      (put.0, [], put.1, put.2 ∙ ap (λ (l : List ℕ). put.0 ++ l) (sym (append-nil (rest_of stream'))), λ h. refl)
  piece_of stream stream' old new (Err e) broken put front none is = (
    take front.0 (rest_of stream),
    drop front.0 (rest_of stream),
    front.1,
    sym (take-append-drop front.0 (rest_of stream))
        ∙ ap (λ (o : Option OpenReply). take front.0 (rest_of stream) ++ (rest_of o ++ drop front.0 (rest_of stream))) (sym none),
    λ h. absurd (let no_fault : true ≡ false = sym is ∙ h in cc),
  )

  -- a piece of it was put, or memory ran out
  pub piece_follows : {T E : Type 0} (talk : Talk S K) (sink' : K) (owed' : List ℕ) (stream' : Option OpenReply) (r : Result T E) (broken' : Bool)
      → talk.broken ≡ false → talk.settled ≡ false
      → OnOk r ((out : List ℕ) × Appends (append_known (sink.output talk.sink) talk.owed) (append_known (sink.output sink') owed') out
      × (rest_of talk.stream ≡ out ++ rest_of stream'))
      → OnErr r ((n : ℕ) × Appends (append_known (sink.output talk.sink) talk.owed) (append_known (sink.output sink') owed') (take n (rest_of talk.stream)))
      → OnErr r (stream' ≡ None) → broken' ≡ is_err r
      → Follows [] (cut_of source sink talk) (cut_of source sink (record talk { sink = sink'; owed = owed'; stream = stream'; broken = broken' }))
  piece_follows talk sink' owed' stream' r broken' sound unpaid put front none is =
      let piece = piece_of talk.stream stream' (append_known (sink.output talk.sink) talk.owed) (append_known (sink.output sink') owed') r broken' put front none is in
      moves_follow (cut_of source sink talk) (cut_of source sink (record talk { sink = sink'; owed = owed'; stream = stream'; broken = broken' })) sound (record {
        out = piece.0;
        gone = piece.1;
        wrote = piece.2;
        rest = piece.3;
        whole = piece.4;
        source = refl;
        progress = refl;
        incoming = refl;
        waiting = refl;
        settled = λ h. absurd (let e : false ≡ true = sym unpaid ∙ h in cc);
      })

  -- what was put of a reply
  put_of : (answer : Option (List ℕ)) (broken : Bool) (stream : Option OpenReply) (old new : Option (List ℕ)) → Puts answer broken stream old new
      → (out : List ℕ) × (gone : List ℕ) × Appends old new out × (sent_reply answer ≡ out ++ (rest_of stream ++ gone)) × (broken ≡ false → gone ≡ [])
  put_of answer false stream old new puts =
      (puts.0, [], puts.1, puts.2 ∙ ap (λ (l : List ℕ). puts.0 ++ l) (sym (append-nil (rest_of stream))), λ h. refl)
  put_of answer true stream old new puts = (
    take puts.1 (sent_reply answer),
    drop puts.1 (sent_reply answer),
    puts.2,
    sym (take-append-drop puts.1 (sent_reply answer))
        ∙ ap (λ (o : Option OpenReply). take puts.1 (sent_reply answer) ++ (rest_of o ++ drop puts.1 (sent_reply answer))) (sym puts.0),
    λ h. absurd (let no : true ≡ false = h in cc),
  )

  -- a record was answered
  pub answers_of : (talk : Talk S K) (turn : Turn) (len spelled : ℕ) (buf : List ℕ) (sink' : K) (place' calls' : ℕ) (incoming' owed' : List ℕ) (stream' : Option OpenReply)
      (waiting' : Option Taken) (broken' : Bool) → IsRecord record_max len spelled talk.incoming buf → turn.message ≡ take len buf
      → incoming' ≡ drop spelled talk.incoming → place' ≡ capped talk.progress.place spelled → calls' ≡ capped talk.progress.calls 1
      → turn.taken ≡ waiting' → Puts turn.answer broken' stream' (append_known (sink.output talk.sink) talk.owed) (append_known (sink.output sink') owed')
      → Answers turn (cut_of source sink talk) (cut_of source sink (record {
        source = talk.source;
        sink = sink';
        progress = record { place = place'; calls = calls' };
        incoming = incoming';
        owed = owed';
        stream = stream';
        waiting = waiting';
        settled = false;
        broken = broken';
      }))
  answers_of talk turn len spelled buf sink' place' calls' incoming' owed' stream' waiting' broken' is message incoming place calls taken puts =
      let put = put_of turn.answer broken' stream' (append_known (sink.output talk.sink) talk.owed) (append_known (sink.output sink') owed') puts in
      let left : incoming' ≡ is.rest =
      incoming ∙ ap (drop spelled) is.came_is ∙ ap (λ (n : ℕ). drop n (is.bytes ++ is.rest)) (sym is.count) ∙ drop_front is.bytes is.rest in
      record {
        bytes = is.bytes;
        framed = rw message is.fragments;
        incoming = is.came_is ∙ ap (λ (l : List ℕ). is.bytes ++ l) (sym left);
        place = place ∙ ap (capped talk.progress.place) (sym is.count);
        calls = calls;
        out = put.0;
        gone = put.1;
        wrote = put.2;
        replied = put.3;
        whole = put.4;
        source = refl;
        unsettled = refl;
        waiting = sym taken;
      }

-- no reply is open
pub none_open : (stream : Option OpenReply) (none : Bool) → is_some stream ≡ not none → none ≡ true → rest_of stream ≡ []
none_open None none is h = refl
none_open (Some stream) none is h = absurd (let e : true ≡ not true = is ∙ ap not h in cc)

-- what isn't paid isn't settled
pub unsettled : {P : Type 0} (settled : Bool) → settled ≡ false → settled ≡ true → P
unsettled settled unpaid h = absurd (let e : false ≡ true = sym unpaid ∙ h in cc)
