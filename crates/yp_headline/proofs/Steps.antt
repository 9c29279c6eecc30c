-- What a worker does in the conversation of one connection is that its records are answered in turn.
use Rattle.std.proofs.Common.{◌≡◌, ◌≢◌, ℕ, zero, suc, ◌<◌, Bool, true, false, cond, List, [], ◌∷◌, ◌++◌, length, map, Some, None, refl, sym, ap, ◌∙◌, subst, arith, inl, inr, append_assoc, eqb}
use Rattle.std.specs.Prelude.{slice_index_or, Contains}
use Rattle.std.specs.List.{All}
use Rattle.std.proofs.lemmas.Bool.Decides.{eqb_tells}
use Rattle.yp_io.specs.declared.stream.Peer.{Peer}
use Rattle.yp_board.specs.Catalogues.{Catalogue}
use Rattle.yp_board.specs.Logs.{Log}
use Rattle.yp_board.specs.Views.{Seen, IsFront}
use Rattle.yp_answer.specs.declared.procedure.Path.{Path}
use Rattle.yp_answer.specs.declared.procedure.Path.TheVariants.{Stream}
use Rattle.yp_answer.specs.Answers.{StepsWhere}
use Rattle.yp_answer.specs.Maps.{maps_of}
use Rattle.yp_answer.specs.Served.{maps_on}
use Rattle.yp_answer.specs.Transfer.{Taken}
use Rattle.yp_answer.specs.Reply.{Response, Silence, Bytes, Takes, Open, reply, asks}
use Rattle.yp_answer.specs.session.Hosts.{Conduct, Turn, Link, Carries, CarriesWhere}
use Rattle.yp_answer.specs.session.Cuts.{Deed, Answered, Carried, Read, turns_of, DoesDeed}
use Rattle.yp_worker.specs.Working.{WorkerStep, Learned, TookOver, Did, IsDoneWith, deeds_of, TakesStep, TakesSteps}
use Rattle.yp_worker.specs.Receptions.{Terms}
use Rattle.yp_worker.specs.Summing.{Counting, ServedConnection, LeftConnection, AreApart, numbers_of, IsStepOf, HadBefore, WasTakenOver}
use Rattle.yp_headline.specs.Serving.{Exchange, IsReply, AnswersInTurn}
use Rattle.yp_headline.proofs.Runs.{exchanges_of, succeeded, front_self, taken}

pub front_then : (a b c : Log) → IsFront a b → IsFront b c → IsFront a c
front_then a b c first second =
    (first.0 ++ second.0, second.1 ∙ ap (λ (l : Log). l ++ second.0) first.1 ∙ append_assoc a first.0 second.0)

-- what is answered later is so for one that knew less
pub earlier : (catalogue : Catalogue) (path : Path) (exchanges : List Exchange) (less known log : Log) → IsFront less known
    → AnswersInTurn catalogue path exchanges known log → AnswersInTurn catalogue path exchanges less log
earlier catalogue path [] less known log front answered = front_then less known log front answered
earlier catalogue path (one ∷ more) less known log front answered =
    (answered.0, answered.1, front_then less known answered.0 front answered.2, answered.3, answered.4, answered.5)

-- what is answered in turn, and then more on what was shown by then
pub joined : (catalogue : Catalogue) (path : Path) (exchanges others : List Exchange) (known middle later log : Log)
    → AnswersInTurn catalogue path exchanges known middle → IsFront middle later
    → AnswersInTurn catalogue path others later log → AnswersInTurn catalogue path (exchanges ++ others) known log
joined catalogue path [] others known middle later log answered front more =
    earlier catalogue path others known later log (front_then known middle later answered front) more
joined catalogue path (one ∷ exchanges) others known middle later log answered front more = (
  answered.0,
  answered.1,
  answered.2,
  answered.3,
  answered.4,
  joined catalogue path exchanges others answered.1 middle later log answered.5 front more,
)

-- ---- one record

module _ {H : Type 0} (conduct : Conduct H) where
  abbrev pub known : H → Log
  known host = (conduct.seen host).known

  abbrev pub catalogue_of : H → Catalogue
  catalogue_of host = (conduct.seen host).catalogue

  -- a host goes on: its catalogue stays, and what it knew is a front of what it knows
  pub record GoesOn (old new : H) : Type 0 where
    pub catalogue : catalogue_of new ≡ catalogue_of old
    pub grown : IsFront (known old) (known new)

  pub stays_on : (old new : H) → new ≡ old → GoesOn old new
  stays_on old new same = record {
    catalogue = ap catalogue_of same;
    grown = subst (λ (h : H). IsFront (known old) (known h)) (sym same) (front_self (known old));
  }

  pub goes_on_then : (a b c : H) → GoesOn a b → GoesOn b c → GoesOn a c
  goes_on_then a b c one other = record {
    catalogue = other.catalogue ∙ one.catalogue;
    grown = front_then (known a) (known b) (known c) one.grown other.grown;
  }

  stepped_on : (asked : Bool) (old mid : H) → StepsWhere asked conduct.stepped conduct.seen old mid → GoesOn old mid
  stepped_on true old mid step = record { catalogue = step.1.catalogue; grown = step.1.grown }
  stepped_on false old mid step = stays_on old mid step

  where_on : (flushed : Bool) (taken : Taken) (peer : Peer) (old new : H) → CarriesWhere flushed conduct taken peer old new
      → GoesOn old new
  where_on true taken peer old new carries = record { catalogue = carries.catalogue; grown = carries.grown }
  where_on false taken peer old new carries = stays_on old new carries

  -- what a record got
  record Got (response : Response) (turn : Turn) (old new : H) : Type 0 where
    on : GoesOn old new
    replied : IsReply response turn.answer (known old) (known new)

  carried_got : (peer : Peer) (response : Response) (turn : Turn) (old new : H) → Carries conduct peer response turn old new
      → Got response turn old new
  carried_got peer Silence turn old new carries = record { on = stays_on old new carries.3; replied = carries.0 }
  carried_got peer (Bytes bytes) turn old new carries = record { on = stays_on old new carries.3; replied = carries.0 }
  carried_got peer (Takes bytes taken) turn old new carries =
      record { on = where_on turn.flushed taken peer old new carries.3; replied = carries.0 }
  carried_got peer (Open xid job) turn old new carries =
      let fulfils = carries.4 in
      record {
        on = record { catalogue = fulfils.catalogue; grown = fulfils.grown };
        replied = (carries.0, carries.1, succeeded (conduct.told old) (catalogue_of old) job carries.0 (known old) (known new) fulfils.cause);
      }

  same_taken : (a b : Taken) → Some a ≡ Some b → a ≡ b
  same_taken a b e = cc

  -- the response of a record that took a transfer
  took_of : (peer : Peer) (response : Response) (turn : Turn) (taken : Taken) (old new : H) → Carries conduct peer response turn old new
      → turn.taken ≡ Some taken → (bytes : List ℕ) × (response ≡ Takes bytes taken)
  took_of peer Silence turn taken old new carries took = absurd (let e : None ≡ Some taken = sym carries.2 ∙ took in cc)
  took_of peer (Bytes bytes) turn taken old new carries took = absurd (let e : None ≡ Some taken = sym carries.2 ∙ took in cc)
  took_of peer (Takes bytes other) turn taken old new carries took =
      (bytes, ap (λ (t : Taken). Takes bytes t) (same_taken other taken (sym carries.2 ∙ took)))
  took_of peer (Open xid job) turn taken old new carries took = absurd (let e : None ≡ Some taken = sym carries.3 ∙ took in cc)

  -- a record's link, on logs alone
  pub record Linked (path : Path) (peer : Peer) (turn : Turn) (old new : H) : Type 0 where
    pub front : Log
    pub begins : IsFront (known old) front
    pub goes : IsFront front (known new)
    pub catalogue : catalogue_of new ≡ catalogue_of old
    pub replied : IsReply (reply path (maps_on (catalogue_of old) front) peer turn.message) turn.answer front (known new)
    pub took : (taken : Taken) → turn.taken ≡ Some taken
        → (bytes : List ℕ) × (reply path (maps_on (catalogue_of old) front) peer turn.message ≡ Takes bytes taken)

  pub linked : (path : Path) (peer : Peer) (turn : Turn) (old new : H) → Link conduct path peer turn old new
      → Linked path peer turn old new
  linked path peer turn old new link =
      let step = stepped_on (asks path turn.message) old link.mid link.step in
      let got = carried_got peer (reply path (maps_of (conduct.seen link.mid)) peer turn.message) turn link.mid new link.carried in
      record {
        front = known link.mid;
        begins = step.grown;
        goes = got.on.grown;
        catalogue = got.on.catalogue ∙ step.catalogue;
        replied = subst (λ (c : Catalogue). IsReply (reply path (maps_on c (known link.mid)) peer turn.message) turn.answer
            (known link.mid) (known new)) step.catalogue got.replied;
        took = λ taken is. subst (λ (c : Catalogue). (bytes : List ℕ)
            × (reply path (maps_on c (known link.mid)) peer turn.message ≡ Takes bytes taken)) step.catalogue
            (took_of peer (reply path (maps_of (conduct.seen link.mid)) peer turn.message) turn taken link.mid new link.carried is);
      }

  pub linked_on : (path : Path) (peer : Peer) (turn : Turn) (old new : H) → Linked path peer turn old new → GoesOn old new
  linked_on path peer turn old new is =
      record { catalogue = is.catalogue; grown = front_then (known old) is.front (known new) is.begins is.goes }

  -- ---- the deeds of a worker

  pub deed_on : (peer : Peer) (deed : Deed) (old new : H) → DoesDeed conduct peer deed old new → GoesOn old new
  deed_on peer (Answered turn) old new does =
      linked_on Stream peer turn old new (linked Stream peer turn old new does.1)
  deed_on peer (Carried taken wire) old new does = record { catalogue = does.catalogue; grown = does.grown }
  deed_on peer (Read wire) old new does = stays_on old new does

  module _ {T : Type 0} (counted : H → T) where
    pub told_on : (old new : H) → TakesStep conduct counted Learned old new → GoesOn old new
    told_on old new told = record {
      catalogue = ap (λ (s : Seen). s.catalogue) told.learned.same;
      grown = told.learned.grown;
    }

    -- the steps of one conversation are all with one peer
    abbrev pub HasPeer : ℕ → Peer → WorkerStep → Type 0
    HasPeer number peer Learned = Unit {0}
    HasPeer number peer (TookOver one seen) = Unit {0}
    HasPeer number peer (Did one other deed) = eqb one number ≡ true → other ≡ peer

    abbrev pub HavePeer : ℕ → Peer → List WorkerStep → Type 0
    HavePeer number peer [] = Unit {0}
    HavePeer number peer (step ∷ steps) = HasPeer number peer step × HavePeer number peer steps

    abbrev exchanges_in : ℕ → Peer → List WorkerStep → List Exchange
    exchanges_in number peer steps = exchanges_of peer (turns_of (deeds_of number steps))

    -- a deed in front of those of a conversation
    before_deeds : (peer : Peer) (deed : Deed) (deeds : List Deed) (old mid : H) (log : Log) → DoesDeed conduct peer deed old mid
        → AnswersInTurn (catalogue_of mid) Stream (exchanges_of peer (turns_of deeds)) (known mid) log
        → AnswersInTurn (catalogue_of old) Stream (exchanges_of peer (turns_of (deed ∷ deeds))) (known old) log
    before_deeds peer (Answered turn) deeds old mid log does answered =
        let link = linked Stream peer turn old mid does.1 in (
          link.front,
          known mid,
          link.begins,
          link.goes,
          link.replied,
          subst (λ (c : Catalogue). AnswersInTurn c Stream (exchanges_of peer (turns_of deeds)) (known mid) log) link.catalogue answered,
        )
    before_deeds peer (Carried taken wire) deeds old mid log does answered =
        let on = deed_on peer (Carried taken wire) old mid does in
        earlier (catalogue_of old) Stream (exchanges_of peer (turns_of deeds)) (known old) (known mid) log on.grown
        (subst (λ (c : Catalogue). AnswersInTurn c Stream (exchanges_of peer (turns_of deeds)) (known mid) log) on.catalogue answered)
    before_deeds peer (Read wire) deeds old mid log does answered =
        let on = deed_on peer (Read wire) old mid does in
        earlier (catalogue_of old) Stream (exchanges_of peer (turns_of deeds)) (known old) (known mid) log on.grown
        (subst (λ (c : Catalogue). AnswersInTurn c Stream (exchanges_of peer (turns_of deeds)) (known mid) log) on.catalogue answered)

    -- one in front that is of another conversation, or of none
    before_others : (exchanges : List Exchange) (old mid : H) (log : Log) → GoesOn old mid
        → AnswersInTurn (catalogue_of mid) Stream exchanges (known mid) log
        → AnswersInTurn (catalogue_of old) Stream exchanges (known old) log
    before_others exchanges old mid log on answered =
        earlier (catalogue_of old) Stream exchanges (known old) (known mid) log on.grown
        (subst (λ (c : Catalogue). AnswersInTurn c Stream exchanges (known mid) log) on.catalogue answered)

    before_did : (b : Bool) (number : ℕ) (peer other : Peer) (deed : Deed) (deeds : List Deed) (old mid : H) (log : Log)
        → (b ≡ true → other ≡ peer) → DoesDeed conduct other deed old mid
        → AnswersInTurn (catalogue_of mid) Stream (exchanges_of peer (turns_of deeds)) (known mid) log
        → AnswersInTurn (catalogue_of old) Stream (exchanges_of peer (turns_of (cond b (deed ∷ deeds) deeds))) (known old) log
    before_did true number peer other deed deeds old mid log owned does answered =
        before_deeds peer deed deeds old mid log (subst (λ (p : Peer). DoesDeed conduct p deed old mid) (owned refl) does) answered
    before_did false number peer other deed deeds old mid log owned does answered =
        before_others (exchanges_of peer (turns_of deeds)) old mid log (deed_on other deed old mid does) answered

    pub steps_answer : (number : ℕ) (peer : Peer) (steps : List WorkerStep) (first last : H) (log : Log)
        → TakesSteps conduct counted steps first last → HavePeer number peer steps → IsFront (known last) log
        → AnswersInTurn (catalogue_of first) Stream (exchanges_in number peer steps) (known first) log
    steps_answer number peer [] first last log takes owned front = subst (λ (h : H). IsFront (known h) log) takes front
    steps_answer number peer (Learned ∷ steps) first last log takes owned front =
        before_others (exchanges_in number peer steps) first takes.0 log (told_on first takes.0 takes.1)
        (steps_answer number peer steps takes.0 last log takes.2 owned.1 front)
    steps_answer number peer (TookOver one seen ∷ steps) first last log takes owned front =
        before_others (exchanges_in number peer steps) first takes.0 log (told_on first takes.0 takes.1.0)
        (steps_answer number peer steps takes.0 last log takes.2 owned.1 front)
    steps_answer number peer (Did one other deed ∷ steps) first last log takes owned front =
        before_did (eqb one number) number peer other deed (deeds_of number steps) first takes.0 log owned.0 takes.1
        (steps_answer number peer steps takes.0 last log takes.2 owned.1 front)

    -- ---- a conversation that was taken over

    pub step_on : (step : WorkerStep) (old new : H) → TakesStep conduct counted step old new → GoesOn old new
    step_on Learned old new takes = told_on old new takes
    step_on (TookOver number seen) old new takes = told_on old new takes.0
    step_on (Did number peer deed) old new takes = deed_on peer deed old new takes

    -- what is done behind a conversation's taking over is answered on more than was known of it
    behind_answer : (number : ℕ) (peer : Peer) (one : ℕ) (seen : Log) (before behind : List WorkerStep) (first last : H) (log : Log)
        → TakesSteps conduct counted (before ++ TookOver one seen ∷ behind) first last
        → HavePeer number peer (before ++ TookOver one seen ∷ behind) → IsFront (known last) log
        → AnswersInTurn (catalogue_of first) Stream (exchanges_in number peer behind) seen log
    behind_answer number peer one seen [] behind first last log takes owned front =
        let mid = takes.0 in
        earlier (catalogue_of first) Stream (exchanges_in number peer behind) seen (known mid) log takes.1.1
        (subst (λ (c : Catalogue). AnswersInTurn c Stream (exchanges_in number peer behind) (known mid) log)
        (told_on first mid takes.1.0).catalogue
        (steps_answer number peer behind mid last log takes.2 owned.1 front))
    behind_answer number peer one seen (step ∷ before) behind first last log takes owned front =
        subst (λ (c : Catalogue). AnswersInTurn c Stream (exchanges_in number peer behind) seen log)
        (step_on step first takes.0 takes.1).catalogue
        (behind_answer number peer one seen before behind takes.0 last log takes.2 owned.1 front)

-- the deeds of steps and of more steps
kept_in_front : (b : Bool) (deed : Deed) (all front back : List Deed) → all ≡ front ++ back
    → cond b (deed ∷ all) all ≡ cond b (deed ∷ front) front ++ back
kept_in_front true deed all front back is = ap (λ (l : List Deed). deed ∷ l) is
kept_in_front false deed all front back is = is

pub deeds_over : (number : ℕ) (before behind : List WorkerStep)
    → deeds_of number (before ++ behind) ≡ deeds_of number before ++ deeds_of number behind
deeds_over number [] behind = refl
deeds_over number (Learned ∷ before) behind = deeds_over number before behind
deeds_over number (TookOver one seen ∷ before) behind = deeds_over number before behind
deeds_over number (Did one peer deed ∷ before) behind =
    kept_in_front (eqb one number) deed (deeds_of number (before ++ behind)) (deeds_of number before) (deeds_of number behind)
    (deeds_over number before behind)

pub exchanges_over : (peer : Peer) (front back : List Deed)
    → exchanges_of peer (turns_of (front ++ back)) ≡ exchanges_of peer (turns_of front) ++ exchanges_of peer (turns_of back)
exchanges_over peer [] back = refl
exchanges_over peer (Answered turn ∷ front) back =
    ap (λ (l : List Exchange). exchanges_of peer (turn ∷ []) ++ l) (exchanges_over peer front back)
exchanges_over peer (Carried taken wire ∷ front) back = exchanges_over peer front back
exchanges_over peer (Read wire ∷ front) back = exchanges_over peer front back

-- ---- whose steps they are

pub same_number : (a b : ℕ) → eqb a b ≡ true → a ≡ b
same_number a b is = elim (eqb_tells a b) [
  | inl same ↦ same.1
  | inr differ ↦ absurd (let e : false ≡ true = sym differ.0 ∙ is in cc)
]

-- a number that all of these differ from isn't among those of connections that were closed, nor of those that were left
not_closed : (stays : List ServedConnection) (others : List ℕ) (a : ServedConnection) (number j : ℕ) → j < length stays
    → slice_index_or stays j a ≡ a → All (λ other. other ≢ number) (map (λ stay. stay.number) stays ++ others)
    → a.number ≡ number → ⊥
not_closed [] others a number j within is all same = absurd (omega (arith, within))
not_closed (stay ∷ stays) others a number zero within is all same =
    all 0 number (omega arith) (ap (λ (s : ServedConnection). s.number) is ∙ same)
not_closed (stay ∷ stays) others a number (suc j) within is all same =
    not_closed stays others a number j (omega (arith, within)) is (λ k d within'. all (suc k) d (omega (arith, within'))) same

pub not_left : (numbers : List ℕ) (left : List LeftConnection) (one : LeftConnection) (number j : ℕ) → j < length left
    → slice_index_or left j one ≡ one → All (λ other. other ≢ number) (numbers ++ map (λ one. one.number) left)
    → one.number ≡ number → ⊥
not_left [] [] one number j within is all same = absurd (omega (arith, within))
not_left [] (other ∷ left) one number zero within is all same =
    all 0 number (omega arith) (ap (λ (o : LeftConnection). o.number) is ∙ same)
not_left [] (other ∷ left) one number (suc j) within is all same =
    not_left [] left one number j (omega (arith, within)) is (λ k d within'. all (suc k) d (omega (arith, within'))) same
not_left (first ∷ numbers) left one number j within is all same =
    not_left numbers left one number j within is (λ k d within'. all (suc k) d (omega (arith, within'))) same

one_stay : (stays : List ServedConnection) (left : List LeftConnection) (a b : ServedConnection)
    → AreApart (numbers_of stays left) → (j k : ℕ) → j < length stays
    → k < length stays → slice_index_or stays j a ≡ a → slice_index_or stays k b ≡ b → a.number ≡ b.number → a ≡ b
one_stay [] left a b apart j k within within' is is' same = absurd (omega (arith, within))
one_stay (stay ∷ stays) left a b apart zero zero within within' is is' same = sym is ∙ is'
one_stay (stay ∷ stays) left a b apart zero (suc k) within within' is is' same =
    absurd (not_closed stays (map (λ one. one.number) left) b stay.number k (omega (arith, within')) is' apart.0
    (sym same ∙ ap (λ (s : ServedConnection). s.number) (sym is)))
one_stay (stay ∷ stays) left a b apart (suc j) zero within within' is is' same =
    absurd (not_closed stays (map (λ one. one.number) left) a stay.number j (omega (arith, within)) is apart.0
    (same ∙ ap (λ (s : ServedConnection). s.number) (sym is')))
one_stay (stay ∷ stays) left a b apart (suc j) (suc k) within within' is is' same =
    one_stay stays left a b apart.1 j k (omega (arith, within)) (omega (arith, within')) is is' same

pub closed_or_left : (stays : List ServedConnection) (left : List LeftConnection) (a : ServedConnection) (one : LeftConnection)
    → AreApart (numbers_of stays left) → (j k : ℕ) → j < length stays → k < length left → slice_index_or stays j a ≡ a
    → slice_index_or left k one ≡ one → one.number ≡ a.number → ⊥
closed_or_left [] left a one apart j k within within' is is' same = absurd (omega (arith, within))
closed_or_left (stay ∷ stays) left a one apart zero k within within' is is' same =
    not_left (map (λ stay. stay.number) stays) left one stay.number k within' is' apart.0
    (same ∙ ap (λ (s : ServedConnection). s.number) (sym is))
closed_or_left (stay ∷ stays) left a one apart (suc j) k within within' is is' same =
    closed_or_left stays left a one apart.1 j k (omega (arith, within)) within' is is' same

module _ {H T : Type 0} (conduct : Conduct H) (counted : H → T) (stays : List ServedConnection) (left : List LeftConnection)
    (apart : AreApart (numbers_of stays left)) (stay : ServedConnection) (among : Contains stays stay) where
  of_step : (step : WorkerStep) → IsStepOf stays left step → HasPeer conduct counted stay.number stay.ended.came.peer step
  of_step Learned is = tt
  of_step (TookOver one seen) is = tt
  of_step (Did one other deed) (inl is) = λ same.
      let number : is.0.number ≡ stay.number = is.2 ∙ same_number one stay.number same in
      let it : is.0 ≡ stay = one_stay stays left is.0 stay apart is.1.0 among.0 is.1.1 among.1 is.1.2 among.2 number in
      sym is.3 ∙ ap (λ (s : ServedConnection). s.ended.came.peer) it
  of_step (Did one other deed) (inr is) = λ same.
      absurd (closed_or_left stays left stay is.0 apart among.0 is.1.0 among.1 is.1.1 among.2 is.1.2
      (is.2 ∙ same_number one stay.number same))

  pub of_steps : (steps : List WorkerStep) → All (IsStepOf stays left) steps
      → HavePeer conduct counted stay.number stay.ended.came.peer steps
  of_steps [] owned = tt
  of_steps (step ∷ steps) owned = (
    of_step step (owned 0 step (omega arith)),
    of_steps steps (λ k d within. owned (suc k) d (omega (arith, within))),
  )

-- ---- all that was done in a conversation

module _ {H T : Type 0} (conduct : Conduct H) (counting : Counting H T) (terms : Terms) where
  alone_step : (number : ℕ) (peer : Peer) (step : WorkerStep) → IsDoneWith number peer step
      → HasPeer conduct counting.counted number peer step
  alone_step number peer Learned is = tt
  alone_step number peer (TookOver one seen) is = tt
  alone_step number peer (Did one other deed) is = λ same. is (same_number one number same)

  pub alone : (number : ℕ) (peer : Peer) (steps : List WorkerStep) → All (IsDoneWith number peer) steps
      → HavePeer conduct counting.counted number peer steps
  alone number peer [] all = tt
  alone number peer (step ∷ steps) all = (
    alone_step number peer step (all 0 step (omega arith)),
    alone number peer steps (λ k d within. all (suc k) d (omega (arith, within))),
  )

  module _ (number : ℕ) (peer : Peer) (deeds : List Deed) (first last : H) (log : Log)
      (catalogue : catalogue_of conduct first ≡ terms.catalogue) (front : IsFront (known conduct last) log) where
    abbrev answered_from : Log → List Deed → Type 0
    answered_from start done = AnswersInTurn terms.catalogue Stream (exchanges_of peer (turns_of done)) start log

    -- what was left was answered, and then what is behind its taking over
    over_answer : (seen : Log) (before behind : List WorkerStep)
        → AnswersInTurn terms.catalogue Stream (exchanges_of peer (turns_of deeds)) terms.starts seen
        → TakesSteps conduct counting.counted (before ++ TookOver number seen ∷ behind) first last
        → HavePeer conduct counting.counted number peer (before ++ TookOver number seen ∷ behind)
        → deeds_of number before ≡ []
        → answered_from terms.starts (deeds ++ deeds_of number (before ++ TookOver number seen ∷ behind))
    over_answer seen before behind answered takes owned none =
        let more = subst (λ (c : Catalogue). AnswersInTurn c Stream (exchanges_of peer (turns_of (deeds_of number behind))) seen log)
        catalogue (behind_answer conduct counting.counted number peer number seen before behind first last log takes owned front) in
        let all = joined terms.catalogue Stream (exchanges_of peer (turns_of deeds))
        (exchanges_of peer (turns_of (deeds_of number behind))) terms.starts seen seen log answered (front_self seen) more in
        let same : deeds_of number (before ++ TookOver number seen ∷ behind) ≡ deeds_of number behind =
        deeds_over number before (TookOver number seen ∷ behind) ∙ ap (λ (l : List Deed). l ++ deeds_of number behind) none in
        subst (λ (l : List Deed). answered_from terms.starts (deeds ++ l)) (sym same)
        (subst (λ (l : List Exchange). AnswersInTurn terms.catalogue Stream l terms.starts log)
        (sym (exchanges_over peer deeds (deeds_of number behind))) all)

    left_answer : (steps : List WorkerStep) (was : WasTakenOver conduct counting terms peer number deeds steps)
        → AnswersInTurn terms.catalogue Stream (exchanges_of peer (turns_of deeds)) terms.starts was.known
    left_answer steps was =
        let left = was.left in
        let start = known conduct left.first.host in
        let there = exchanges_of peer (turns_of (deeds_of left.number left.steps)) in
        let reached : IsFront (known conduct left.last) was.known =
        subst (λ (l : Log). IsFront (known conduct left.last) l) left.known_is (front_self (known conduct left.last)) in
        let answered = steps_answer conduct counting.counted left.number peer left.steps left.first.host left.last was.known left.takes
        (alone left.number peer left.steps left.alone) reached in
        subst (λ (l : List Deed). AnswersInTurn terms.catalogue Stream (exchanges_of peer (turns_of l)) terms.starts was.known)
        left.deeds_are
        (earlier terms.catalogue Stream there terms.starts start was.known left.under.knows
        (subst (λ (c : Catalogue). AnswersInTurn c Stream there start was.known) left.under.catalogue answered))

    pub had_answered : (steps : List WorkerStep) → IsFront terms.starts (known conduct first)
        → TakesSteps conduct counting.counted steps first last → HavePeer conduct counting.counted number peer steps
        → HadBefore conduct counting terms peer number deeds steps
        → answered_from terms.starts (deeds ++ deeds_of number steps)
    had_answered steps knows takes owned (inl none) =
        let there = exchanges_of peer (turns_of (deeds_of number steps)) in
        subst (λ (l : List Deed). answered_from terms.starts (l ++ deeds_of number steps)) (sym none)
        (earlier terms.catalogue Stream there terms.starts (known conduct first) log knows
        (subst (λ (c : Catalogue). AnswersInTurn c Stream there (known conduct first) log) catalogue
        (steps_answer conduct counting.counted number peer steps first last log takes owned front)))
    had_answered steps knows takes owned (inr was) =
        subst (λ (l : List WorkerStep). answered_from terms.starts (deeds ++ deeds_of number l)) (sym was.steps_are)
        (over_answer was.known was.before was.behind (left_answer steps was)
        (subst (λ (l : List WorkerStep). TakesSteps conduct counting.counted l first last) was.steps_are takes)
        (subst (λ (l : List WorkerStep). HavePeer conduct counting.counted number peer l) was.steps_are owned)
        was.none_before)
