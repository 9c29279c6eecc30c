-- A session's run is a connection that was served.
use Rattle.std.proofs.Common.{◌≡◌, ℕ, Bool, true, false, List, [], ◌∷◌, ◌++◌, map, take, drop, Option, Some, None, refl, sym, ap, ◌∙◌, subst, inl, inr, append_assoc}
use Rattle.std.specs.Prelude.{flat_map}
use Rattle.std.specs.List.{AllByRecursion}
use Rattle.std.specs.Io.KnownBytes.{Appends, Consumes, IsAtEnd}
use Rattle.std.proofs.lemmas.List.{append-nil, append_cancel_left, take-append-drop, map-append}
use Rattle.std.proofs.lemmas.Grind.{flat_map-append}
use Rattle.yp_io.specs.declared.stream.Peer.{Peer}
use Rattle.yp_rpc.specs.Records.{Fragments, IsRest, IsTorn}
use Rattle.yp_messages.specs.declared.transfer.XfrStat.{XfrStat}
use Rattle.yp_messages.specs.declared.transfer.XfrStat.TheVariants.{Succ}
use Rattle.yp_board.specs.Catalogues.{Catalogue}
use Rattle.yp_board.specs.Logs.{Log}
use Rattle.yp_board.specs.Views.{IsFront}
use Rattle.yp_answer.specs.declared.procedure.Path.TheVariants.{Stream}
use Rattle.yp_answer.specs.Numbers.{record_max}
use Rattle.yp_answer.specs.Served.{maps_on}
use Rattle.yp_answer.specs.Causes.{Told, IsCaused}
use Rattle.yp_answer.specs.Reply.{Response, Silence, Bytes, Takes, Open, reply}
use Rattle.yp_answer.specs.declared.make.MakeJob.{MakeJob}
use Rattle.yp_answer.specs.declared.session.session.End.{End}
use Rattle.yp_answer.specs.declared.session.session.End.TheVariants.{Clean, Torn, TooLong, ReadFault, WriteFault, Enough}
use Rattle.yp_answer.specs.session.Hosts.{Conduct, Turn}
use Rattle.yp_answer.specs.session.LogRuns.{LogRun, Gets}
use Rattle.yp_answer.specs.session.Wires.{Wire, SinkTells}
use Rattle.yp_answer.specs.session.Runs.{Dialogue, Chain, Runs, sent_reply}
use Rattle.yp_headline.specs.Publishing.{IsAmong}
use Rattle.yp_headline.specs.inside.Files.{is_cut}
use Rattle.yp_headline.specs.Serving.{Exchange, IsPublished, IsReply, AnswersInTurn, BeginsWith, IsServed}

-- nothing is among none
pub none_among : {A : Type 0} (item : A) → IsAmong [] item → ⊥
none_among item ([], back, is) = cc
none_among item (one ∷ front, back, is) = cc

-- ---- replies on logs

abbrev pub exchange_of : Peer → Turn → Exchange
exchange_of peer turn = record { caller = peer; call = turn.message; reply = turn.answer }

-- what is sent for them
abbrev pub sent_over : List Exchange → List ℕ
sent_over exchanges = flat_map (λ one. sent_reply one.reply) exchanges

abbrev pub exchanges_of : Peer → List Turn → List Exchange
exchanges_of peer turns = map (exchange_of peer) turns

pub succeeded : (told : Told) (catalogue : Catalogue) (job : MakeJob) (stat : XfrStat) (log next : Log)
    → IsCaused told catalogue job stat log next → stat ≡ Succ → IsPublished job.map log next
succeeded told catalogue job stat log next caused done =
    let made = subst (λ (s : XfrStat). IsCaused told catalogue job s log next) done caused in
    record { version = made.version; before = made.before; entry = made.entry; newer = made.over }

pub is_reply : (catalogue : Catalogue) (response : Response) (answer : Option (List ℕ)) (log next : Log)
    → Gets catalogue response answer log next → IsReply response answer log next
is_reply catalogue Silence answer log next gets = gets
is_reply catalogue (Bytes bytes) answer log next gets = gets
is_reply catalogue (Takes bytes taken) answer log next gets = gets
is_reply catalogue (Open xid job) answer log next gets =
    (gets.0, gets.1, succeeded gets.2 catalogue job gets.0 log next gets.3)

pub front_self : (log : Log) → IsFront log log
front_self log = ([], sym (append-nil log))

pub in_turn : (catalogue : Catalogue) (peer : Peer) (turns : List Turn) (first last log : Log)
    → LogRun catalogue Stream peer turns first last → IsFront last log
    → AnswersInTurn catalogue Stream (exchanges_of peer turns) first log
in_turn catalogue peer [] first last log run front = subst (λ (l : Log). IsFront l log) run front
in_turn catalogue peer (turn ∷ turns) first last log run front =
    let one = run.1 in (
      one.log,
      run.0,
      one.begins,
      one.goes_on,
      is_reply catalogue (reply Stream (maps_on catalogue one.log) peer turn.message) turn.answer one.log run.0 one.gets,
      in_turn catalogue peer turns run.0 last log run.2 front,
    )

pub all_callers : (peer : Peer) (turns : List Turn)
    → AllByRecursion (λ (one : Exchange). one.caller ≡ peer) (exchanges_of peer turns)
all_callers peer [] = tt
all_callers peer (turn ∷ turns) = (refl, all_callers peer turns)

-- ---- bytes that are told

pub taken : (a b : Option (List ℕ)) (stream bytes : List ℕ) → a ≡ Some stream → Consumes a b bytes
    → (rest : List ℕ) × (b ≡ Some rest) × (stream ≡ bytes ++ rest)
taken None b stream bytes e h = absurd cc
taken (Some xs) None stream bytes e h = absurd h
taken (Some xs) (Some ys) stream bytes e h = let same : xs ≡ stream = cc in (ys, refl, sym same ∙ h)

pub ended : (a : Option (List ℕ)) (rest : List ℕ) → a ≡ Some rest → IsAtEnd a → rest ≡ []
ended None rest e h = absurd cc
ended (Some xs) rest e h = let same : xs ≡ rest = cc in sym same ∙ h

pub grown : (old new : Option (List ℕ)) (front bytes : List ℕ) → old ≡ Some front → Appends old new bytes
    → new ≡ Some (front ++ bytes)
grown None new front bytes was appends = absurd (cc)
grown (Some xs) None front bytes was appends = absurd appends
grown (Some xs) (Some ys) front bytes was appends =
    let same : xs ≡ front = cc in
    ap (λ (l : List ℕ). Some l) (appends ∙ ap (λ (l : List ℕ). l ++ bytes) same)

pub one_more : (exchanges : List Exchange) (one : Exchange) (bytes first more rest : List ℕ)
    → BeginsWith bytes exchanges more → Fragments record_max one.call first → more ≡ first ++ rest
    → BeginsWith bytes (exchanges ++ one ∷ []) rest
one_more [] one bytes first more rest h fragments e = (first, rest, fragments, h ∙ e, refl)
one_more (other ∷ exchanges) one bytes first more rest h fragments e =
    (h.0, h.1, h.2, h.3, one_more exchanges one h.1 first more rest h.4 fragments e)

-- ---- the records of a chain

abbrev pub turns_in : {H : Type 0} → List (Turn × Dialogue H) → List Turn
turns_in answered = map (λ one. one.0) answered

-- what is left of the input, and what the output took
pub record Reads (exchanges : List Exchange) (came before : List ℕ) (wire : Wire) : Type 0 where
  pub rest : List ℕ
  pub left : wire.source.input ≡ Some rest
  pub begins : BeginsWith came exchanges rest
  pub took : wire.sink.output ≡ Some (before ++ sent_over exchanges)

module _ {H : Type 0} (conduct : Conduct H) (peer : Peer) where
  pub chain_reads : (answered : List (Turn × Dialogue H)) (old new : Dialogue H) (came before : List ℕ)
      → old.wire.source.input ≡ Some came → old.wire.sink.output ≡ Some before → Chain conduct peer answered old new
      → Reads (exchanges_of peer (turns_in answered)) came before new.wire
  chain_reads [] old new came before input output chain = record {
    rest = came;
    left = ap (λ (d : Dialogue H). d.wire.source.input) chain ∙ input;
    begins = refl;
    took = ap (λ (d : Dialogue H). d.wire.sink.output) chain ∙ output
        ∙ ap (λ (l : List ℕ). Some l) (sym (append-nil before));
  }
  chain_reads (one ∷ answered) old new came before input output chain =
      let step = chain.0.taken in
      let a = taken old.wire.source.input one.1.wire.source.input came step.bytes input step.taken in
      let reply = sent_reply one.0.answer in
      let out =
      grown old.wire.sink.output one.1.wire.sink.output before reply output chain.0.replied.sends.0 in
      let b = chain_reads answered one.1 new a.0 (before ++ reply) a.1 out chain.1 in
      record {
        rest = b.rest;
        left = b.left;
        begins = (step.bytes, a.0, step.fragments, a.2, b.begins);
        took = b.took
            ∙ ap (λ (l : List ℕ). Some l) (append_assoc before reply (sent_over (exchanges_of peer (turns_in answered))));
      }

-- ---- the whole

-- what is known of a connection when it has ended
record Done (exchanges : List Exchange) (came before sent : List ℕ) (cut : Bool) : Type 0 where
  rest : List ℕ
  begins : BeginsWith came exchanges rest
  missing : List ℕ
  all : sent_over exchanges ≡ sent ++ missing
  whole : cut ≡ false → IsRest record_max rest × (missing ≡ [])

module _ {H : Type 0} (conduct : Conduct H) (peer : Peer) (most : ℕ) (old new : Dialogue H) (wires : List Wire)
    (came before sent : List ℕ) (input : old.wire.source.input ≡ Some came)
    (output : old.wire.sink.output ≡ Some before) (took : new.wire.sink.output ≡ Some (before ++ sent)) where
  -- what the last dialogue tells
  reads : (end : End) (runs : Runs conduct peer most end old new wires)
      → Reads (exchanges_of peer (turns_in runs.answered)) came before runs.last.wire
  reads end runs = chain_reads conduct peer runs.answered old runs.last came before input output runs.chain

  -- what was sent is all, where the sink was left as it was
  sent_is : (exchanges : List Exchange) (last : Wire) → last.sink.output ≡ Some (before ++ sent_over exchanges)
      → new.wire.sink.output ≡ last.sink.output → sent_over exchanges ≡ sent ++ []
  sent_is exchanges last then same =
      let both : Some (before ++ sent_over exchanges) ≡ Some (before ++ sent) = sym then ∙ sym same ∙ took in
      let bytes : before ++ sent_over exchanges ≡ before ++ sent = cc in
      append_cancel_left before (sent_over exchanges) sent bytes ∙ sym (append-nil sent)

  done : (end : End) (runs : Runs conduct peer most end old new wires)
      → Done (exchanges_of peer runs.turns) came before sent (is_cut end)
  done Clean runs =
      let t = reads Clean runs in
      let e = runs.ends.1 in
      let behind = taken runs.last.wire.source.input new.wire.source.input t.rest [] t.left e.0.0 in
      let none : t.rest ≡ [] = behind.2 ∙ ended new.wire.source.input behind.0 behind.1 e.0.1 in
      let P : List Turn → Type 0 = λ turns. Done (exchanges_of peer turns) came before sent false in
      subst P (sym (runs.all ∙ append-nil (turns_in runs.answered))) (record {
        rest = t.rest;
        begins = t.begins;
        missing = [];
        all = sent_is (exchanges_of peer (turns_in runs.answered)) runs.last.wire t.took
            (ap (λ (s : SinkTells). s.output) e.1.sink);
        whole = λ _. (inl none, refl);
      })
  done (Torn at) runs =
      let t = reads (Torn at) runs in
      let e = runs.ends.1.0 in
      let behind = taken runs.last.wire.source.input new.wire.source.input t.rest e.1 t.left e.3 in
      let none : behind.0 ≡ [] = ended new.wire.source.input behind.0 behind.1 e.4 in
      let torn : t.rest ≡ e.1 = behind.2 ∙ ap (λ (xs : List ℕ). e.1 ++ xs) none ∙ append-nil e.1 in
      let P : List Turn → Type 0 = λ turns. Done (exchanges_of peer turns) came before sent false in
      subst P (sym (runs.all ∙ append-nil (turns_in runs.answered))) (record {
        rest = t.rest;
        begins = t.begins;
        missing = [];
        all = sent_is (exchanges_of peer (turns_in runs.answered)) runs.last.wire t.took
            (ap (λ (s : SinkTells). s.output) runs.ends.1.1.sink);
        whole = λ _. (inr (inl (subst (λ (l : List ℕ). IsTorn record_max l) (sym torn) e.2)), refl);
      })
  done (TooLong at) runs =
      let t = reads (TooLong at) runs in
      let e = runs.ends.1.0 in
      let behind = taken runs.last.wire.source.input new.wire.source.input t.rest e.1 t.left e.3 in
      let P : List Turn → Type 0 = λ turns. Done (exchanges_of peer turns) came before sent false in
      subst P (sym (runs.all ∙ append-nil (turns_in runs.answered))) (record {
        rest = t.rest;
        begins = t.begins;
        missing = [];
        all = sent_is (exchanges_of peer (turns_in runs.answered)) runs.last.wire t.took
            (ap (λ (s : SinkTells). s.output) runs.ends.1.1.sink);
        whole = λ _. (inr (inr (e.1, behind.0, e.2, behind.2)), refl);
      })
  done ReadFault runs =
      let t = reads ReadFault runs in
      let P : List Turn → Type 0 = λ turns. Done (exchanges_of peer turns) came before sent true in
      subst P (sym (runs.all ∙ append-nil (turns_in runs.answered))) (record {
        rest = t.rest;
        begins = t.begins;
        missing = [];
        all = sent_is (exchanges_of peer (turns_in runs.answered)) runs.last.wire t.took
            (ap (λ (s : SinkTells). s.output) runs.ends.1.1.sink);
        whole = λ e. absurd cc;
      })
  done Enough runs =
      let t = reads Enough runs in
      let P : List Turn → Type 0 = λ turns. Done (exchanges_of peer turns) came before sent true in
      subst P (sym (runs.all ∙ append-nil (turns_in runs.answered))) (record {
        rest = t.rest;
        begins = t.begins;
        missing = [];
        all = sent_is (exchanges_of peer (turns_in runs.answered)) runs.last.wire t.took
            (ap (λ (d : Dialogue H). d.wire.sink.output) runs.ends.1);
        whole = λ e. absurd cc;
      })
  done WriteFault runs =
      let t = reads WriteFault runs in
      let turn = runs.ends.1.0 in
      let record_read = runs.ends.1.1.taken in
      let last = exchange_of peer turn in
      let exchanges = exchanges_of peer (turns_in runs.answered) in
      let behind = taken runs.last.wire.source.input new.wire.source.input t.rest record_read.bytes t.left record_read.taken in
      let sends = runs.ends.1.1.replied.sends in
      let count = sends.0.0 in
      let reply = sent_reply turn.answer in
      let out = grown runs.last.wire.sink.output new.wire.sink.output (before ++ sent_over exchanges) (take count reply) t.took sends.0.1 in
      let both : Some (before ++ (sent_over exchanges ++ take count reply)) ≡ Some (before ++ sent) =
      ap (λ (l : List ℕ). Some l) (sym (append_assoc before (sent_over exchanges) (take count reply))) ∙ sym out ∙ took in
      let bytes : before ++ (sent_over exchanges ++ take count reply) ≡ before ++ sent = cc in
      let front : sent_over exchanges ++ take count reply ≡ sent = append_cancel_left before _ sent bytes in
      let over : sent_over (exchanges ++ last ∷ []) ≡ sent_over exchanges ++ reply =
      flat_map-append (λ (one : Exchange). sent_reply one.reply) exchanges (last ∷ [])
      ∙ ap (λ (l : List ℕ). sent_over exchanges ++ l) (append-nil reply) in
      let parts : sent_over exchanges ++ reply ≡ sent ++ drop count reply =
      ap (λ (l : List ℕ). sent_over exchanges ++ l) (sym (take-append-drop count reply))
      ∙ sym (append_assoc (sent_over exchanges) (take count reply) (drop count reply))
      ∙ ap (λ (l : List ℕ). l ++ drop count reply) front in
      let all_turns : exchanges_of peer runs.turns ≡ exchanges ++ last ∷ [] =
      ap (exchanges_of peer) runs.all ∙ map-append (exchange_of peer) (turns_in runs.answered) (turn ∷ []) in
      subst (λ (l : List Exchange). Done l came before sent true) (sym all_turns) (record {
        rest = behind.0;
        begins = one_more exchanges last came record_read.bytes t.rest behind.0 t.begins record_read.fragments behind.2;
        missing = drop count reply;
        all = over ∙ parts;
        whole = λ e. absurd cc;
      })

  pub run_served : (end : End) (runs : Runs conduct peer most end old new wires) (log : Log)
      → IsFront (conduct.seen new.host).known log
      → IsServed (conduct.seen old.host).catalogue (conduct.seen old.host).known log
      (record { peer = peer; came = came; sent = sent; cut = is_cut end })
  run_served end runs log front =
      let d = done end runs in record {
        exchanges = exchanges_of peer runs.turns;
        callers = all_callers peer runs.turns;
        rest = d.rest;
        came = d.begins;
        answered = in_turn (conduct.seen old.host).catalogue peer runs.turns (conduct.seen old.host).known
            (conduct.seen new.host).known log runs.on_logs front;
        unsent = d.missing;
        sent = d.all;
        whole = d.whole;
      }
