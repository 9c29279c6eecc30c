-- What a session sends, and what a client that is given it prints.
use Rattle.std.proofs.Common.{◌≡◌, ◌≢◌, ℕ, List, [], ◌∷◌, ◌++◌, map, Option, Some, None, refl, sym, ap, ◌∙◌, subst, append_assoc}
use Rattle.std.specs.List.{cons_option}
use Rattle.std.specs.Io.KnownBytes.{Appends}
use Rattle.std.proofs.lemmas.List.{append-nil}
use Rattle.yp_io.specs.declared.stream.Peer.{Peer}
use Rattle.yp_board.specs.Catalogues.{Catalogue}
use Rattle.yp_board.specs.Views.{Seen}
use Rattle.yp_answer.specs.declared.procedure.Path.TheVariants.{Stream}
use Rattle.yp_answer.specs.declared.session.session.End.{End}
use Rattle.yp_answer.specs.declared.session.session.End.TheVariants.{Clean, Torn, TooLong, ReadFault, WriteFault, Enough}
use Rattle.yp_answer.specs.session.Wires.{SinkTells, Wire}
use Rattle.yp_answer.specs.session.Hosts.{Conduct, Turn}
use Rattle.yp_answer.specs.session.LogRuns.{LogRun}
use Rattle.yp_answer.specs.session.Runs.{Dialogue, Chain, Ends, Runs, sent_reply, unsent}
use Rattle.yp_host.specs.Connections.{Service, Connection, ServesConnection, log_of}
use Rattle.yp_client.specs.Questions.{ByteQuestion}
use Rattle.yp_end_to_end.specs.exchange.Runs.{calls_made, query_of, sent_all}
use Rattle.yp_end_to_end.specs.exchange.LogRuns.{records_of, replies_of, AnswersCalls}
use Rattle.yp_command.specs.office.Seeing.{Seeing}
use Rattle.yp_command_serve.specs.Served.{fixed_conduct}
use Rattle.yp_command.specs.Words.{nobody}
use Rattle.yp_program.specs.inside.Joined.{SessionIsPrinted, OnceIsPrinted}

-- bytes that are told grow
grown : (old new : Option (List ℕ)) (front bytes : List ℕ) → old ≡ Some front → Appends old new bytes → new ≡ Some (front ++ bytes)
grown None new front bytes was appends = absurd (cc)
grown (Some xs) None front bytes was appends = absurd appends
grown (Some xs) (Some ys) front bytes was appends =
    let same : xs ≡ front = cc in
    ap (λ (l : List ℕ). Some l) (appends ∙ ap (λ (l : List ℕ). l ++ bytes) same)

-- the reply of one more record
sent_more : (answer : Option (List ℕ)) (replies : List (List ℕ)) → sent_all (cons_option answer replies) ≡ sent_reply answer ++ sent_all replies
sent_more None replies = refl
sent_more (Some message) replies = refl

module _ {H : Type 0} (conduct : Conduct H) (peer : Peer) where
  chain_sent : (answered : List (Turn × Dialogue H)) (old new : Dialogue H) (front : List ℕ) → Chain conduct peer answered old new → old.wire.sink.output ≡ Some front
      → new.wire.sink.output ≡ Some (front ++ sent_all (replies_of (map (λ one. one.0) answered)))
  chain_sent [] old new front chain was = ap (λ (d : Dialogue H). d.wire.sink.output) chain ∙ was ∙ ap (λ (l : List ℕ). Some l) (sym (append-nil front))
  chain_sent (one ∷ answered) old new front chain was =
      let later = replies_of (map (λ (one : Turn × Dialogue H). one.0) answered) in
      let first = grown old.wire.sink.output one.1.wire.sink.output front (sent_reply one.0.answer) was chain.0.replied.sends.0 in
      chain_sent answered one.1 new (front ++ sent_reply one.0.answer) chain.1 first
      ∙ ap (λ (l : List ℕ). Some l) (append_assoc front (sent_reply one.0.answer) (sent_all later) ∙ ap (λ (l : List ℕ). front ++ l) (sym (sent_more one.0.answer later)))

  -- nothing was sent at the end, but at a fault of the sink
  ends_sent : (most count : ℕ) (end : End) (last new : Dialogue H) → end ≢ WriteFault → (ends : Ends conduct peer most count end last new)
      → (new.wire.sink.output ≡ last.wire.sink.output) × (unsent conduct peer most count end last new ends ≡ [])
  ends_sent most count Clean last new sound ends = (ap (λ (s : SinkTells). s.output) ends.1.1.sink, refl)
  ends_sent most count (Torn at) last new sound ends = (ap (λ (s : SinkTells). s.output) ends.1.1.sink, refl)
  ends_sent most count (TooLong at) last new sound ends = (ap (λ (s : SinkTells). s.output) ends.1.1.sink, refl)
  ends_sent most count ReadFault last new sound ends = (ap (λ (s : SinkTells). s.output) ends.1.1.sink, refl)
  ends_sent most count WriteFault last new sound ends = absurd (sound refl)
  ends_sent most count Enough last new sound ends = (ap (λ (d : Dialogue H). d.wire.sink.output) ends.1, refl)

  run_sent : (most : ℕ) (end : End) (old new : Dialogue H) (wires : List Wire) (runs : Runs conduct peer most end old new wires) (front : List ℕ) → end ≢ WriteFault → old.wire.sink.output ≡ Some front
      → new.wire.sink.output ≡ Some (front ++ sent_all (replies_of runs.turns))
  run_sent most end old new wires runs front sound was =
      let done = ends_sent most _ end runs.last new sound runs.ends in
      let answered = map (λ (one : Turn × Dialogue H). one.0) runs.answered in
      let all : runs.turns ≡ answered = runs.all ∙ ap (λ (l : List Turn). answered ++ l) done.1 ∙ append-nil answered in
      done.0 ∙ chain_sent runs.answered old runs.last front runs.chain was ∙ ap (λ (l : List Turn). Some (front ++ sent_all (replies_of l))) (sym all)

-- the run of a connection over the calls of a question is one that answers them
answers_calls : {D B E : Type 0} (service : Service D B E) (end : End) (old new : Connection D E) (wires : List Wire) (serves : ServesConnection service end old new wires) (question : ByteQuestion)
    → records_of serves.runs.turns ≡ calls_made question (replies_of serves.runs.turns)
    → AnswersCalls (query_of service.catalogue service.peer question) serves.runs.turns (log_of service serves.start)
    (log_of service serves.finish)
answers_calls service end old new wires serves question calls = record {
  served = serves.served;
  run = subst (λ (k : Catalogue). LogRun k Stream service.peer serves.runs.turns (log_of service serves.start) (log_of service serves.finish)) serves.first.catalogue serves.runs.on_logs;
  calls = calls;
}

pub session_printed : {D E S K F C A I T : Type 0} (service : Service D Seen E) (seen : Seeing S K F C A I T) → SessionIsPrinted service seen
session_printed service seen end old new wires serves taken rest server question status before after asks calls sound empty output came =
    let sent = run_sent _ service.peer _ end _ _ wires serves.runs [] sound empty in
    let same : taken ≡ sent_all (replies_of serves.runs.turns) = let both = sym output ∙ sent in cc in
    asks.prints service.catalogue service.peer serves.runs.turns rest (log_of service serves.start) (log_of service serves.finish)
    (answers_calls service end old new wires serves question calls) (rw (← same) came)

pub once_printed : {S K F C A I T : Type 0} (seen : Seeing S K F C A I T) → OnceIsPrinted seen
once_printed seen board served old new wires answers taken rest server question status before after asks calls sound empty output came =
    let sent = run_sent fixed_conduct nobody _ answers.end _ _ wires answers.runs [] sound empty in
    let same : taken ≡ sent_all (replies_of answers.runs.turns) = let both = sym output ∙ sent in cc in
    asks.prints board.catalogue nobody answers.runs.turns rest board.known answers.finish.board.known
    (record { served = answers.served; run = answers.runs.on_logs; calls = calls }) (rw (← same) came)
