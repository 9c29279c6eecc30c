-- What a session did, where its input is told.
use Rattle.std.proofs.Common.{◌≡◌, ℕ, ◌+◌, ◌-◌, ◌<◌, ◌≤◌, Bool, true, false, List, [], ◌∷◌, ◌++◌, length, min, map, take, Option, Some, None, refl, sym, ap, ◌∙◌, subst, arith, inl, inr}
use Rattle.std.specs.Prelude.{IfSome}
use Rattle.std.specs.Io.KnownBytes.{Appends, Consumes, IsAtEnd}
use Rattle.std.proofs.KnownBytes.{Appends-nil, Appends-trans}
use Rattle.std.proofs.lemmas.List.{append-nil, length-append, length-map}
use Rattle.yp_io.specs.Counts.{last_count}
use Rattle.yp_io.specs.declared.stream.Peer.{Peer}
use Rattle.yp_rpc.specs.Records.{Fragments, Cut, IsRest, IsTorn, IsTooLong, IsUnfinished}
use Rattle.yp_answer.specs.declared.make.MakeJob.{MakeJob}
use Rattle.yp_answer.specs.declared.procedure.Path.TheVariants.{Stream}
use Rattle.yp_answer.specs.Maps.{Maps, maps_of}
use Rattle.yp_io.specs.Peers.{own_host}
use Rattle.yp_answer.specs.Numbers.{record_max}
use Rattle.yp_answer.specs.Transfer.{Taken}
use Rattle.yp_answer.specs.Reply.{Response, Silence, Bytes, Takes, Open, reply, reply_at_once, asks}
use Rattle.yp_answer.specs.inside.Laws.{OpenIsFromOwnHost}
use Rattle.yp_answer.specs.Answers.{StepsWhere}
use Rattle.yp_answer.specs.declared.session.session.End.{End}
use Rattle.yp_answer.specs.declared.session.session.End.TheVariants as ends
use Rattle.yp_answer.specs.declared.session.session.TheConstants.{CALLS_MAX}
use Rattle.yp_answer.specs.session.Hosts.{Conduct, Turn, CarriesWhere, Carries, Link}
use Rattle.yp_answer.specs.session.Wires.{Wire}
use Rattle.yp_answer.specs.session.Runs.{Dialogue, Chain, Runs, sent_reply}
use Rattle.yp_command.specs.Words.{nobody}
use Rattle.yp_command_serve.specs.Callers.{reply_to}
use Rattle.yp_command_serve.specs.Served.{Traffic, BeginsWithRecords, AnswersInPart, ServesInput, status_of, rest_place, answer_to, answers}

-- ---- told bytes

-- bytes that were consumed of told ones
taken : (a b : Option (List ℕ)) (stream bytes : List ℕ) → a ≡ Some stream → Consumes a b bytes → (rest : List ℕ) × (b ≡ Some rest) × (stream ≡ bytes ++ rest)
taken None b stream bytes e h = absurd cc
taken (Some xs) None stream bytes e h = absurd h
taken (Some xs) (Some ys) stream bytes e h = let same : xs ≡ stream = cc in (ys, refl, sym same ∙ h)

-- told bytes at their end
ended : (a : Option (List ℕ)) (rest : List ℕ) → a ≡ Some rest → IsAtEnd a → rest ≡ []
ended None rest e h = absurd cc
ended (Some xs) rest e h = let same : xs ≡ rest = cc in sym same ∙ h

-- ---- the records that were read

-- the records and what is left, with the place
record ToldReads (messages : List (List ℕ)) (stream : List ℕ) (start : ℕ) (input : Option (List ℕ)) (place : ℕ) : Type 0 where
  rest : List ℕ
  left : input ≡ Some rest
  begins : BeginsWithRecords stream messages rest
  few : length rest ≤ length stream
  counted : place ≡ min (start + (length stream - length rest)) last_count

-- the records that were answered
abbrev messages_of : {H : Type 0} → List (Turn × Dialogue H) → List (List ℕ)
messages_of answered = map (λ one. one.0.message) answered

chain_told : {H : Type 0} (conduct : Conduct H) (peer : Peer) (answered : List (Turn × Dialogue H)) (old new : Dialogue H) (stream : List ℕ) → old.wire.source.input ≡ Some stream
    → old.progress.place ≤ last_count → Chain conduct peer answered old new → ToldReads (messages_of answered) stream old.progress.place new.wire.source.input new.progress.place
chain_told {H} conduct peer [] old new stream e within chain =
    let same = ap (λ (d : Dialogue H). d.progress.place) chain in
    record { rest = stream; left = ap (λ (d : Dialogue H). d.wire.source.input) chain ∙ e; begins = refl; few = omega arith; counted = omega (arith, same, within) }
chain_told conduct peer (one ∷ answered) old new stream e within chain =
    let step = chain.0.taken in
    let a = taken old.wire.source.input one.1.wire.source.input stream step.bytes e step.taken in
    let b = chain_told conduct peer answered one.1 new a.0 a.1 (omega (arith, step.counted)) chain.1 in
    let len : length stream ≡ length step.bytes + length a.0 = ap length a.2 ∙ length-append step.bytes a.0 in
    record {
      rest = b.rest;
      left = b.left;
      begins = (step.bytes, a.0, step.fragments, a.2, b.begins);
      few = omega (arith, b.few);
      counted = omega (arith, b.counted, b.few, step.counted);
    }

-- one record more
begins_more : (messages : List (List ℕ)) (message bytes stream more rest : List ℕ) → BeginsWithRecords stream messages more → Fragments record_max message bytes → more ≡ bytes ++ rest
    → BeginsWithRecords stream (messages ++ message ∷ []) rest
begins_more [] message bytes stream more rest h fragments e = (bytes, rest, fragments, h ∙ e, refl)
begins_more (first ∷ messages) message bytes stream more rest h fragments e = (h.0, h.1, h.2, h.3, begins_more messages message bytes h.1 more rest h.4 fragments e)

-- records and a rest are a cut
cut_from : (messages : List (List ℕ)) (stream rest : List ℕ) → BeginsWithRecords stream messages rest → IsRest record_max rest → Cut record_max stream messages rest
cut_from [] stream rest h end = (h, end)
cut_from (message ∷ messages) stream rest h end = (h.0, h.1, h.2, h.3, cut_from messages h.1 rest h.4 end)

-- the place of a rest, counted from the front
place_is : (stream rest : List ℕ) (place : ℕ) → place ≡ min (0 + (length stream - length rest)) last_count → place ≡ rest_place stream rest
place_is stream rest place h = omega (arith, h)

-- ---- a run

-- these records begin the stream, and less than a record more was read
abbrev ReadsPast : List ℕ → List (List ℕ) → Option (List ℕ) → Type 0
ReadsPast stream messages left = (part rest : List ℕ) × BeginsWithRecords stream messages (part ++ rest) × IsUnfinished record_max part × (left ≡ Some rest)

-- what was read of a stream, for each end
abbrev pub Reaches : End → List ℕ → List (List ℕ) → Option (List ℕ) → Type 0
Reaches ends.Clean stream messages left = Cut record_max stream messages [] × (length messages < CALLS_MAX) × (left ≡ Some [])
Reaches (ends.Torn at) stream messages left =
    (rest : List ℕ) × Cut record_max stream messages rest × (length messages < CALLS_MAX) × IsTorn record_max rest × (at ≡ rest_place stream rest) × (left ≡ Some [])
Reaches (ends.TooLong at) stream messages left =
    (front more : List ℕ) × Cut record_max stream messages (front ++ more) × (length messages < CALLS_MAX) × IsTooLong record_max front × (at ≡ rest_place stream (front ++ more)) × (left ≡ Some more)
Reaches ends.ReadFault stream messages left = ReadsPast stream messages left
Reaches ends.WriteFault stream messages left = ReadsPast stream messages left
Reaches ends.Enough stream messages left = ReadsPast stream messages left × (length messages ≡ CALLS_MAX)

module _ {H : Type 0} (conduct : Conduct H) (peer : Peer) (old new : Dialogue H) (wires : List Wire) where
  -- the records that were read whole
  abbrev pub read_by : (end : End) → Runs conduct peer CALLS_MAX end old new wires → List (List ℕ)
  read_by ends.WriteFault runs = messages_of runs.answered ++ runs.ends.1.0.message ∷ []
  read_by end runs = messages_of runs.answered

  -- those that were answered
  read_told : (stream : List ℕ) (end : End) (runs : Runs conduct peer CALLS_MAX end old new wires) → old.wire.source.input ≡ Some stream → old.progress.place ≡ 0
      → ToldReads (messages_of runs.answered) stream 0 runs.last.wire.source.input runs.last.progress.place
  read_told stream end runs input start =
      let P : ℕ → Type 0 = λ place. ToldReads (messages_of runs.answered) stream place runs.last.wire.source.input runs.last.progress.place in
      subst P start (chain_told conduct peer runs.answered old runs.last stream input (omega (arith, start)) runs.chain)

  pub reached : (stream : List ℕ) (end : End) (runs : Runs conduct peer CALLS_MAX end old new wires) → old.wire.source.input ≡ Some stream → old.progress.place ≡ 0
      → Reaches end stream (read_by end runs) new.wire.source.input
  reached stream ends.Clean runs input start =
      let t = read_told stream ends.Clean runs input start in
      let e = runs.ends.1.0 in
      let behind = taken runs.last.wire.source.input new.wire.source.input t.rest [] t.left e.0 in
      let none : behind.0 ≡ [] = ended new.wire.source.input behind.0 behind.1 e.1 in
      let whole : t.rest ≡ [] = behind.2 ∙ none in (
        cut_from (messages_of runs.answered) stream [] (rw whole at t.begins) (inl refl),
        omega (arith, runs.ends.0, length-map runs.answered (λ (one : Turn × Dialogue H). one.0.message)),
        behind.1 ∙ ap (λ (xs : List ℕ). Some xs) none,
      )
  reached stream (ends.Torn at) runs input start =
      let t = read_told stream (ends.Torn at) runs input start in
      let e = runs.ends.1.0 in
      let torn = e.1 in
      let behind = taken runs.last.wire.source.input new.wire.source.input t.rest torn t.left e.3 in
      let none : behind.0 ≡ [] = ended new.wire.source.input behind.0 behind.1 e.4 in
      let whole : t.rest ≡ torn = behind.2 ∙ ap (λ (xs : List ℕ). torn ++ xs) none ∙ append-nil torn in (
        torn,
        cut_from (messages_of runs.answered) stream torn (rw whole at t.begins) (inr (inl e.2)),
        omega (arith, runs.ends.0, length-map runs.answered (λ (one : Turn × Dialogue H). one.0.message)),
        e.2,
        e.0 ∙ place_is stream t.rest runs.last.progress.place t.counted ∙ ap (rest_place stream) whole,
        behind.1 ∙ ap (λ (xs : List ℕ). Some xs) none,
      )
  reached stream (ends.TooLong at) runs input start =
      let t = read_told stream (ends.TooLong at) runs input start in
      let e = runs.ends.1.0 in
      let front = e.1 in
      let behind = taken runs.last.wire.source.input new.wire.source.input t.rest front t.left e.3 in (
        front,
        behind.0,
        cut_from (messages_of runs.answered) stream (front ++ behind.0) (rw behind.2 at t.begins) (inr (inr (front, behind.0, e.2, refl))),
        omega (arith, runs.ends.0, length-map runs.answered (λ (one : Turn × Dialogue H). one.0.message)),
        e.2,
        e.0 ∙ place_is stream t.rest runs.last.progress.place t.counted ∙ ap (rest_place stream) behind.2,
        behind.1,
      )
  reached stream ends.ReadFault runs input start =
      let t = read_told stream ends.ReadFault runs input start in
      let e = runs.ends.1.0 in
      let behind = taken runs.last.wire.source.input new.wire.source.input t.rest e.1 t.left e.2 in
      (e.1, behind.0, rw behind.2 at t.begins, e.3, behind.1)
  reached stream ends.WriteFault runs input start =
      let t = read_told stream ends.WriteFault runs input start in
      let turn = runs.ends.1.0 in
      let step = runs.ends.1.1.taken in
      let behind = taken runs.last.wire.source.input new.wire.source.input t.rest step.bytes t.left step.taken in
      ([], behind.0, begins_more (messages_of runs.answered) turn.message step.bytes stream t.rest behind.0 t.begins step.fragments behind.2, inl refl, behind.1)
  reached stream ends.Enough runs input start =
      let t = read_told stream ends.Enough runs input start in
      let same = ap (λ (d : Dialogue H). d.wire.source.input) runs.ends.1 in
      (([], t.rest, t.begins, inl refl, same ∙ t.left), length-map runs.answered (λ (one : Turn × Dialogue H). one.0.message) ∙ runs.ends.0)

-- ---- the replies

-- a host whose read steps and transfers leave its maps as they are
pub record KeepsMaps {H : Type 0} (conduct : Conduct H) : Type 0 where
  pub stepped : (old new : H) → conduct.stepped old new → maps_of (conduct.seen new) ≡ maps_of (conduct.seen old)
  pub carried : (taken : Taken) (peer : Peer) (old new : H) → conduct.carried taken peer old new → maps_of (conduct.seen new) ≡ maps_of (conduct.seen old)

-- nobody leaves a MAKE open
abbrev pub NoneIsOpen : Type 0
NoneIsOpen = (maps : Maps) (message : List ℕ) (xid : ℕ) (job : MakeJob) → reply Stream maps nobody message ≡ Open xid job → ⊥

-- since it is open to the server's own host alone
pub none_is_open : OpenIsFromOwnHost → NoneIsOpen
none_is_open law maps message xid job e =
    let local : 0 ∷ 0 ∷ 0 ∷ 0 ∷ [] ≡ own_host = law Stream maps nobody message xid job e in
    absurd cc

-- a step, or none, leaves the maps
step_keeps : {H : Type 0} (asked : Bool) (conduct : Conduct H) (old new : H) → KeepsMaps conduct → StepsWhere asked conduct.stepped conduct.seen old new
    → maps_of (conduct.seen new) ≡ maps_of (conduct.seen old)
step_keeps true conduct old new keeps h = keeps.stepped old new h.0
step_keeps false conduct old new keeps h = ap (λ host. maps_of (conduct.seen host)) h

-- so does a transfer that was taken, whether it is carried out or not
where_keeps : {H : Type 0} (flushed : Bool) (conduct : Conduct H) (taken : Taken) (peer : Peer) (old new : H) → KeepsMaps conduct → CarriesWhere flushed conduct taken peer old new
    → maps_of (conduct.seen new) ≡ maps_of (conduct.seen old)
where_keeps true conduct taken peer old new keeps h = keeps.carried taken peer old new h.carried
where_keeps false conduct taken peer old new keeps h = ap (λ host. maps_of (conduct.seen host)) h

-- a reply that isn't left open goes out at once, and the maps stay
carried_is : {H : Type 0} (conduct : Conduct H) (peer : Peer) (response : Response) (turn : Turn) (old new : H) → KeepsMaps conduct → ((xid : ℕ) (job : MakeJob) → response ≡ Open xid job → ⊥)
    → Carries conduct peer response turn old new → (turn.answer ≡ reply_at_once response) × (maps_of (conduct.seen new) ≡ maps_of (conduct.seen old))
carried_is conduct peer Silence turn old new keeps never h = (h.0, ap (λ host. maps_of (conduct.seen host)) h.3)
carried_is conduct peer (Bytes bytes) turn old new keeps never h = (h.0, ap (λ host. maps_of (conduct.seen host)) h.3)
carried_is conduct peer (Takes bytes taken) turn old new keeps never h = (h.0, where_keeps turn.flushed conduct taken peer old new keeps h.3)
carried_is conduct peer (Open xid job) turn old new keeps never h = absurd (never xid job refl)

module _ {H : Type 0} (conduct : Conduct H) (maps : Maps) (none : NoneIsOpen) (keeps : KeepsMaps conduct) where
  -- so a record gets its reply on the same maps
  linked : (turn : Turn) (old new : H) → maps_of (conduct.seen old) ≡ maps → Link conduct Stream nobody turn old new
      → (sent_reply turn.answer ≡ answer_to maps turn.message) × (maps_of (conduct.seen new) ≡ maps)
  linked turn old new is link =
      let known = maps_of (conduct.seen link.mid) in
      let stepped : known ≡ maps = step_keeps (asks Stream turn.message) conduct old link.mid keeps link.step ∙ is in
      let carried = carried_is conduct nobody (reply Stream known nobody turn.message) turn link.mid new keeps (none known turn.message) link.carried in
      (ap sent_reply (carried.0 ∙ ap (λ m. reply_to m turn.message) stepped), carried.1 ∙ stepped)

  -- and so does each
  chain_sent : (answered : List (Turn × Dialogue H)) (old new : Dialogue H) → maps_of (conduct.seen old.host) ≡ maps → Chain conduct nobody answered old new
      → Appends old.wire.sink.output new.wire.sink.output (answers maps (messages_of answered)) × (maps_of (conduct.seen new.host) ≡ maps)
  chain_sent [] old new is chain =
      (let P : Dialogue H → Type 0 = λ d. Appends old.wire.sink.output d.wire.sink.output [] in subst P (sym chain) (Appends-nil old.wire.sink.output), ap (λ (d : Dialogue H). maps_of (conduct.seen d.host)) chain ∙ is)
  chain_sent (one ∷ answered) old new is chain =
      let first = linked one.0 old.host one.1.host is chain.0.replied.link in
      let sent = chain.0.replied.sends.0 in
      let here : Appends old.wire.sink.output one.1.wire.sink.output (answer_to maps one.0.message) = rw first.0 at sent in
      let rest = chain_sent answered one.1 new first.1 chain.1 in
      (Appends-trans old.wire.sink.output one.1.wire.sink.output new.wire.sink.output (answer_to maps one.0.message) (answers maps (messages_of answered)) here rest.0, rest.1)

-- ---- each status

-- a run from the front of a told stream, over maps that stay the same
pub record Ran (maps : Maps) (stream : List ℕ) {H : Type 0} (conduct : Conduct H) (end : End) (old new : Dialogue H) (wires : List Wire) : Type 0 where
  pub none : NoneIsOpen
  pub keeps : KeepsMaps conduct
  pub is : maps_of (conduct.seen old.host) ≡ maps
  pub input : old.wire.source.input ≡ Some stream
  pub start : old.progress.place ≡ 0
  pub runs : Runs conduct nobody CALLS_MAX end old new wires

module _ (maps : Maps) (stream : List ℕ) {H : Type 0} (conduct : Conduct H) (old new : Dialogue H) (wires : List Wire) where
  abbrev traffic : Traffic
  traffic = record { left = new.wire.source.input; before = old.wire.sink.output; after = new.wire.sink.output }

  reaches : (end : End) (h : Ran maps stream conduct end old new wires) → Reaches end stream (read_by conduct nobody old new wires end h.runs) new.wire.source.input
  reaches end h = reached conduct nobody old new wires stream end h.runs h.input h.start

  -- what the output took behind the last reply, where nothing went out then
  took_all : (end : End) (h : Ran maps stream conduct end old new wires) → new.wire.sink ≡ h.runs.last.wire.sink
      → Appends old.wire.sink.output new.wire.sink.output (answers maps (messages_of h.runs.answered))
  took_all end h same = rw same ((chain_sent conduct maps h.none h.keeps h.runs.answered old h.runs.last h.is h.runs.chain).0)

  took_part : (h : Ran maps stream conduct ends.WriteFault old new wires) → AnswersInPart maps (read_by conduct nobody old new wires ends.WriteFault h.runs) traffic
  took_part h =
      let so_far = chain_sent conduct maps h.none h.keeps h.runs.answered old h.runs.last h.is h.runs.chain in
      let turn = h.runs.ends.1.0 in
      let replied = h.runs.ends.1.1.replied in
      let last = linked conduct maps h.none h.keeps turn h.runs.last.host new.host so_far.1 replied.link in
      let count = replied.sends.0.0 in
      let part = replied.sends.0.1 in
      let here : Appends h.runs.last.wire.sink.output new.wire.sink.output (take count (answer_to maps turn.message)) = rw last.0 at part in
      record {
        before = messages_of h.runs.answered;
        last = turn.message;
        count = count;
        all = refl;
        answered = Appends-trans old.wire.sink.output h.runs.last.wire.sink.output new.wire.sink.output (answers maps (messages_of h.runs.answered)) (take count (answer_to maps turn.message)) so_far.0 here;
      }

  pub serves_told : (end : End) → Ran maps stream conduct end old new wires → ServesInput maps (status_of end) stream traffic
  serves_told ends.Clean h =
      let r = reaches ends.Clean h in
      (record { messages = messages_of h.runs.answered; cut = r.0; few = r.1; answered = took_all ends.Clean h h.runs.ends.1.1.sink }, r.2)
  serves_told (ends.Torn at) h =
      let r = reaches (ends.Torn at) h in
      (r.0, record { messages = messages_of h.runs.answered; cut = r.1; few = r.2; answered = took_all (ends.Torn at) h h.runs.ends.1.1.sink }, r.3, r.4, r.5)
  serves_told (ends.TooLong at) h =
      let r = reaches (ends.TooLong at) h in
      (r.0, r.1, record { messages = messages_of h.runs.answered; cut = r.2; few = r.3; answered = took_all (ends.TooLong at) h h.runs.ends.1.1.sink }, r.4, r.5, r.6)
  serves_told ends.ReadFault h =
      let r = reaches ends.ReadFault h in
      record { messages = messages_of h.runs.answered; part = r.0; rest = r.1; begins = r.2; begun = r.3; left_is = r.4; done = took_all ends.ReadFault h h.runs.ends.1.1.sink }
  serves_told ends.WriteFault h =
      let r = reaches ends.WriteFault h in
      record { messages = read_by conduct nobody old new wires ends.WriteFault h.runs; part = r.0; rest = r.1; begins = r.2; begun = r.3; left_is = r.4; done = took_part h }
  serves_told ends.Enough h =
      let r = reaches ends.Enough h in
      let same = ap (λ (d : Dialogue H). d.wire.sink) h.runs.ends.1 in
      record { messages = messages_of h.runs.answered; part = r.0.0; rest = r.0.1; begins = r.0.2; begun = r.0.3; left_is = r.0.4; done = (r.1, took_all ends.Enough h same) }

-- what holds of each told value
pub if_told : (o : Option (List ℕ)) (P : List ℕ → Type 0) → ((stream : List ℕ) → o ≡ Some stream → P stream) → IfSome o P
if_told None P h = tt
if_told (Some xs) P h = h xs refl
