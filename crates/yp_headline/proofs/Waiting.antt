-- A transfer that is carried out in a conversation is one that its last record took.
use Rattle.std.proofs.Common.{◌≡◌, ◌⊎◌, ℕ, zero, suc, ◌<◌, Bool, true, false, cond, List, [], ◌∷◌, ◌++◌, length, map, Option, Some, None, refl, sym, ap, ◌∙◌, subst, arith, inl, inr, ⊎_elim, append_assoc, eqb}
use Rattle.std.specs.Prelude.{Contains, slice_index_or}
use Rattle.std.specs.List.{All}
use Rattle.std.proofs.lemmas.List.{append-nil}
use Rattle.yp_io.specs.declared.stream.Peer.{Peer}
use Rattle.yp_io.specs.Dials.{Connected}
use Rattle.yp_io.specs.Calls.{ListenerHistory}
use Rattle.yp_board.specs.Catalogues.{Catalogue}
use Rattle.yp_board.specs.Logs.{Log}
use Rattle.yp_board.specs.Views.{IsFront}
use Rattle.yp_answer.specs.declared.procedure.Path.TheVariants.{Stream}
use Rattle.yp_answer.specs.Served.{maps_on}
use Rattle.yp_answer.specs.Transfer.{Taken}
use Rattle.yp_answer.specs.Reply.{Takes, reply}
use Rattle.yp_answer.specs.session.Wires.{Wire}
use Rattle.yp_answer.specs.session.Hosts.{Conduct, Turn}
use Rattle.yp_answer.specs.session.Cuts.{Deed, Answered, Carried, Read, turns_of, waiting_behind, AreInOrder, DoesDeed, Cut, IsCut}
use Rattle.yp_worker.specs.Working.{WorkerStep, Learned, TookOver, Did, deeds_of, TakesStep, TakesSteps}
use Rattle.yp_worker.specs.Receptions.{Terms, IsExpected}
use Rattle.yp_worker.specs.Summing.{Counting, ServedConnection, LeftConnection, AreApart, numbers_of, IsStepOf, HadBefore, WasTakenOver, WasServed, WasHandedOn, WorkerRun, IsWorkerRun}
use Rattle.yp_headline.specs.Publishing.{IsAmong}
use Rattle.yp_headline.specs.Serving.{Exchange}
use Rattle.yp_headline.proofs.Runs.{exchange_of, exchanges_of}
use Rattle.yp_headline.proofs.Steps.{front_then, known, catalogue_of, GoesOn, stays_on, goes_on_then, deed_on, step_on, told_on, linked, HasPeer, HavePeer, deeds_over, exchanges_over, same_number, not_left, closed_or_left, of_steps, alone}
use Rattle.yp_headline.proofs.Weighed.{contains_among, number_self}

-- ---- which transfer waits

waits_over : (waiting : Option Taken) (front back : List Deed)
    → waiting_behind waiting (front ++ back) ≡ waiting_behind (waiting_behind waiting front) back
waits_over waiting [] back = refl
waits_over waiting (Answered turn ∷ front) back = waits_over turn.taken front back
waits_over waiting (Carried taken wire ∷ front) back = waits_over None front back
waits_over waiting (Read wire ∷ front) back = waits_over waiting front back

waits_then : (start : Wire) (turns : List Turn) (waiting : Option Taken) (done : List Deed) (taken : Taken) (wire : Wire)
    (rest : List Deed) → AreInOrder start turns waiting (done ++ Carried taken wire ∷ rest)
    → waiting_behind waiting done ≡ Some taken
waits_then start turns waiting [] taken wire rest order = order.0
waits_then start turns waiting (Answered turn ∷ done) taken wire rest order =
    waits_then start (turns ++ turn ∷ []) turn.taken done taken wire rest order.1
waits_then start turns waiting (Carried other before ∷ done) taken wire rest order =
    waits_then start turns None done taken wire rest order.2
waits_then start turns waiting (Read before ∷ done) taken wire rest order =
    waits_then start turns waiting done taken wire rest order.2

-- ---- steps, in two parts

module _ {H T : Type 0} (conduct : Conduct H) (counted : H → T) where
  pub takes_snoc : (steps : List WorkerStep) (step : WorkerStep) (first mid last : H) → TakesSteps conduct counted steps first mid
      → TakesStep conduct counted step mid last → TakesSteps conduct counted (steps ++ step ∷ []) first last
  takes_snoc [] step first mid last takes one =
      (last, subst (λ (h : H). TakesStep conduct counted step h last) takes one, refl)
  takes_snoc (front ∷ steps) step first mid last takes one =
      (takes.0, takes.1, takes_snoc steps step takes.0 mid last takes.2 one)

  takes_parts : (front back : List WorkerStep) (first last : H) → TakesSteps conduct counted (front ++ back) first last
      → (mid : H) × TakesSteps conduct counted front first mid × TakesSteps conduct counted back mid last
  takes_parts [] back first last takes = (first, refl, takes)
  takes_parts (step ∷ front) back first last takes =
      let rest = takes_parts front back takes.0 last takes.2 in (rest.0, (takes.0, takes.1, rest.1), rest.2)

  pub steps_on : (steps : List WorkerStep) (first last : H) → TakesSteps conduct counted steps first last → GoesOn conduct first last
  steps_on [] first last takes = stays_on conduct first last takes
  steps_on (step ∷ steps) first last takes =
      goes_on_then conduct first takes.0 last (step_on conduct counted step first takes.0 takes.1)
      (steps_on steps takes.0 last takes.2)

  have_parts : (number : ℕ) (peer : Peer) (front back : List WorkerStep) → HavePeer conduct counted number peer (front ++ back)
      → HavePeer conduct counted number peer front × HavePeer conduct counted number peer back
  have_parts number peer [] back have = (tt, have)
  have_parts number peer (step ∷ front) back have =
      let rest = have_parts number peer front back have.1 in ((have.0, rest.0), rest.1)

-- ---- what a conversation's last record took

module _ {H T : Type 0} (conduct : Conduct H) (counted : H → T) (peer : Peer) (catalogue : Catalogue) (begun : Log) where
  -- one of these exchanges took a transfer, on a front of what is known
  pub record WasTook (exchanges : List Exchange) (seen : Log) (taken : Taken) : Type 0 where
    pub turn : Turn
    pub among : IsAmong exchanges (exchange_of peer turn)
    pub front : Log
    pub begins : IsFront begun front
    pub ends : IsFront front seen
    pub answer : List ℕ
    pub takes : reply Stream (maps_on catalogue front) peer turn.message ≡ Takes answer taken

  -- the transfer that waits behind deeds was taken by the last record
  abbrev pub Waits : List Deed → Log → Type 0
  Waits deeds seen = (taken : Taken) → waiting_behind None deeds ≡ Some taken
      → WasTook (exchanges_of peer (turns_of deeds)) seen taken

  pub none_waits : (seen : Log) → Waits [] seen
  none_waits seen taken waits = absurd cc

  grown : (deeds : List Deed) (seen later : Log) → IsFront seen later → Waits deeds seen → Waits deeds later
  grown deeds seen later goes waits taken is = let was = waits taken is in record {
    turn = was.turn;
    among = was.among;
    front = was.front;
    begins = was.begins;
    ends = front_then was.front seen later was.ends goes;
    answer = was.answer;
    takes = was.takes;
  }

  one_deed : (deeds : List Deed) (deed : Deed) (old new : H) → catalogue_of conduct old ≡ catalogue
      → IsFront begun (known conduct old) → DoesDeed conduct peer deed old new → Waits deeds (known conduct old)
      → Waits (deeds ++ deed ∷ []) (known conduct new)
  one_deed deeds (Answered turn) old new same begins does waits taken is =
      let link = linked conduct Stream peer turn old new does.1 in
      let took : turn.taken ≡ Some taken = sym (waits_over None deeds (Answered turn ∷ [])) ∙ is in
      let takes = link.took taken took in
      record {
        turn = turn;
        among = subst (λ (l : List Exchange). IsAmong l (exchange_of peer turn)) (sym (exchanges_over peer deeds (Answered turn ∷ [])))
            (exchanges_of peer (turns_of deeds), [], refl);
        front = link.front;
        begins = front_then begun (known conduct old) link.front begins link.begins;
        ends = link.goes;
        answer = takes.0;
        takes = subst (λ (c : Catalogue). reply Stream (maps_on c link.front) peer turn.message ≡ Takes takes.0 taken) same takes.1;
      }
  one_deed deeds (Carried other wire) old new same begins does waits taken is =
      absurd (let e : None ≡ Some taken = sym (waits_over None deeds (Carried other wire ∷ [])) ∙ is in cc)
  one_deed deeds (Read wire) old new same begins does waits taken is =
      let was = waits taken (sym (waits_over None deeds (Read wire ∷ [])) ∙ is) in
      let exchanges : exchanges_of peer (turns_of (deeds ++ Read wire ∷ [])) ≡ exchanges_of peer (turns_of deeds) =
      exchanges_over peer deeds (Read wire ∷ []) ∙ append-nil (exchanges_of peer (turns_of deeds)) in
      record {
        turn = was.turn;
        among = subst (λ (l : List Exchange). IsAmong l (exchange_of peer was.turn)) (sym exchanges) was.among;
        front = was.front;
        begins = was.begins;
        ends = front_then was.front (known conduct old) (known conduct new) was.ends
            (deed_on conduct peer (Read wire) old new does).grown;
        answer = was.answer;
        takes = was.takes;
      }

  -- a deed that may be of the conversation
  record Behind (done : List Deed) (b : Bool) (deed : Deed) (seen : Log) : Type 0 where
    deeds : List Deed
    waits : Waits deeds seen
    are : (more : List Deed) → deeds ++ more ≡ done ++ cond b (deed ∷ more) more

  after_deed : (b : Bool) (other : Peer) (done : List Deed) (deed : Deed) (old new : H) → (b ≡ true → other ≡ peer)
      → catalogue_of conduct old ≡ catalogue → IsFront begun (known conduct old) → DoesDeed conduct other deed old new
      → Waits done (known conduct old) → Behind done b deed (known conduct new)
  after_deed true other done deed old new owned same begins does waits = record {
    deeds = done ++ deed ∷ [];
    waits = one_deed done deed old new same begins (subst (λ (p : Peer). DoesDeed conduct p deed old new) (owned refl) does) waits;
    are = λ more. append_assoc done (deed ∷ []) more;
  }
  after_deed false other done deed old new owned same begins does waits = record {
    deeds = done;
    waits = grown done (known conduct old) (known conduct new) (deed_on conduct other deed old new does).grown waits;
    are = λ more. refl;
  }

  pub steps_wait : (number : ℕ) (steps : List WorkerStep) (done : List Deed) (first last : H) → catalogue_of conduct first ≡ catalogue
      → IsFront begun (known conduct first) → TakesSteps conduct counted steps first last
      → HavePeer conduct counted number peer steps → Waits done (known conduct first)
      → Waits (done ++ deeds_of number steps) (known conduct last)
  steps_wait number [] done first last same begins takes have waits =
      subst (λ (l : List Deed). Waits l (known conduct last)) (sym (append-nil done))
      (subst (λ (h : H). Waits done (known conduct h)) (sym takes) waits)
  steps_wait number (Learned ∷ steps) done first last same begins takes have waits =
      let on = told_on conduct counted first takes.0 takes.1 in
      steps_wait number steps done takes.0 last (on.catalogue ∙ same)
      (front_then begun (known conduct first) (known conduct takes.0) begins on.grown) takes.2 have.1
      (grown done (known conduct first) (known conduct takes.0) on.grown waits)
  steps_wait number (TookOver one seen ∷ steps) done first last same begins takes have waits =
      let on = told_on conduct counted first takes.0 takes.1.0 in
      steps_wait number steps done takes.0 last (on.catalogue ∙ same)
      (front_then begun (known conduct first) (known conduct takes.0) begins on.grown) takes.2 have.1
      (grown done (known conduct first) (known conduct takes.0) on.grown waits)
  steps_wait number (Did one other deed ∷ steps) done first last same begins takes have waits =
      let on = deed_on conduct other deed first takes.0 takes.1 in
      let behind = after_deed (eqb one number) other done deed first takes.0 have.0 same begins takes.1 waits in
      subst (λ (l : List Deed). Waits l (known conduct last)) (behind.are (deeds_of number steps))
      (steps_wait number steps behind.deeds takes.0 last (on.catalogue ∙ same)
      (front_then begun (known conduct first) (known conduct takes.0) begins on.grown) takes.2 have.1 behind.waits)

-- ---- where two lists part

both_same : {X : Type 0} (one other : X) (more others : List X) → one ∷ more ≡ other ∷ others
    → (one ≡ other) × (more ≡ others)
both_same one other more others is = (cc, cc)

-- the first has its item before that of the second, behind it, or at the same place
abbrev Parts : {X : Type 0} → (front : List X) → X → (front' : List X) → X → Type 0
Parts {X} front x front' y = ((more : List X) × (front' ≡ front ++ x ∷ more)) ⊎ ((more : List X) × (front ≡ front' ++ y ∷ more))
    ⊎ (x ≡ y)

parts_then : {X : Type 0} (one other : X) (front : List X) (x : X) (front' : List X) (y : X) → one ≡ other → Parts front x front' y
    → Parts (one ∷ front) x (other ∷ front') y
parts_then one other front x front' y same (inl is) =
    inl (is.0, ap (λ (l : List _). other ∷ l) is.1 ∙ ap (λ z. z ∷ (front ++ x ∷ is.0)) (sym same))
parts_then one other front x front' y same (inr (inl is)) =
    inr (inl (is.0, ap (λ (l : List _). one ∷ l) is.1 ∙ ap (λ z. z ∷ (front' ++ y ∷ is.0)) same))
parts_then one other front x front' y same (inr (inr is)) = inr (inr is)

parted : {X : Type 0} (front : List X) (x : X) (back front' : List X) (y : X) (back' : List X)
    → front ++ x ∷ back ≡ front' ++ y ∷ back' → Parts front x front' y
parted [] x back [] y back' is = inr (inr (both_same x y back back' is).0)
parted [] x back (z ∷ front') y back' is =
    inl (front', ap (λ w. w ∷ front') (sym (both_same x z back (front' ++ y ∷ back') is).0))
parted (z ∷ front) x back [] y back' is =
    inr (inl (front, ap (λ w. w ∷ front) (both_same z y (front ++ x ∷ back) back' is).0))
parted (z ∷ front) x back (w ∷ front') y back' is =
    let both = both_same z w (front ++ x ∷ back) (front' ++ y ∷ back') is in
    parts_then z w front x front' y both.0 (parted front x back front' y back' both.1)

never_nil : {X : Type 0} (front : List X) (x : X) (back : List X) → front ++ x ∷ back ≡ [] → ⊥
never_nil [] x back is = cc
never_nil (y ∷ front) x back is = cc

-- ---- a conversation that was taken over, or wasn't

module _ {H T : Type 0} (conduct : Conduct H) (counting : Counting H T) (terms : Terms) (number : ℕ) (peer : Peer)
    (first : H) (same : catalogue_of conduct first ≡ terms.catalogue) (begins : IsFront terms.starts (known conduct first)) where
  abbrev Wait : List Deed → Log → Type 0
  Wait deeds seen = Waits conduct counting.counted peer terms.catalogue terms.starts deeds seen

  abbrev At : List WorkerStep → List WorkerStep → Taken → Wire → List WorkerStep → Type 0
  At all before taken wire after = all ≡ before ++ Did number peer (Carried taken wire) ∷ after

  own_deeds : (taken : Taken) (wire : Wire) (more : List WorkerStep)
      → deeds_of number (Did number peer (Carried taken wire) ∷ more) ≡ Carried taken wire ∷ deeds_of number more
  own_deeds taken wire more =
      ap (λ (b : Bool). cond b (Carried taken wire ∷ deeds_of number more) (deeds_of number more)) (number_self number)

  pub deeds_at : (before : List WorkerStep) (taken : Taken) (wire : Wire) (after : List WorkerStep)
      → deeds_of number (before ++ Did number peer (Carried taken wire) ∷ after)
      ≡ deeds_of number before ++ Carried taken wire ∷ deeds_of number after
  deeds_at before taken wire after =
      deeds_over number before (Did number peer (Carried taken wire) ∷ after)
      ∙ ap (λ (l : List Deed). deeds_of number before ++ l) (own_deeds taken wire after)

  -- what was left of it
  left_waits : (earlier : List Deed) (all : List WorkerStep) (was : WasTakenOver conduct counting terms peer number earlier all)
      → Wait earlier was.known
  left_waits earlier all was =
      let left = was.left in
      subst (λ (l : Log). Wait earlier l) left.known_is
      (subst (λ (l : List Deed). Wait l (known conduct left.last)) left.deeds_are
      (steps_wait conduct counting.counted peer terms.catalogue terms.starts left.number left.steps [] left.first.host left.last
      left.under.catalogue left.under.knows left.takes (alone conduct counting terms left.number peer left.steps left.alone)
      (none_waits conduct counting.counted peer terms.catalogue terms.starts (known conduct left.first.host))))

  behind_taking : (earlier : List Deed) (seen : Log) (front more : List WorkerStep) (mid : H) → deeds_of number front ≡ []
      → TakesSteps conduct counting.counted (front ++ TookOver number seen ∷ more) first mid
      → HavePeer conduct counting.counted number peer (front ++ TookOver number seen ∷ more) → Wait earlier seen
      → Wait (earlier ++ deeds_of number (front ++ TookOver number seen ∷ more)) (known conduct mid)
  behind_taking earlier seen front more mid none takes have waits =
      let parts = takes_parts conduct counting.counted front (TookOver number seen ∷ more) first mid takes in
      let here = parts.0 in
      let next = parts.2.0 in
      let on = steps_on conduct counting.counted front first here parts.1 in
      let told = told_on conduct counting.counted here next parts.2.1.0 in
      let deeds : deeds_of number (front ++ TookOver number seen ∷ more) ≡ deeds_of number more =
      deeds_over number front (TookOver number seen ∷ more) ∙ ap (λ (l : List Deed). l ++ deeds_of number more) none in
      subst (λ (l : List Deed). Wait (earlier ++ l) (known conduct mid)) (sym deeds)
      (steps_wait conduct counting.counted peer terms.catalogue terms.starts number more earlier next mid
      (told.catalogue ∙ on.catalogue ∙ same)
      (front_then terms.starts (known conduct here) (known conduct next)
      (front_then terms.starts (known conduct first) (known conduct here) begins on.grown) told.grown)
      parts.2.2 (have_parts conduct counting.counted number peer front (TookOver number seen ∷ more) have).1.1
      (grown conduct counting.counted peer terms.catalogue terms.starts earlier seen (known conduct next) parts.2.1.1 waits))

  -- what waits before a transfer is carried out
  pub waits_at : (earlier : List Deed) (all before : List WorkerStep) (taken : Taken) (wire : Wire) (after : List WorkerStep)
      (mid : H) → HadBefore conduct counting terms peer number earlier all → At all before taken wire after
      → TakesSteps conduct counting.counted before first mid → HavePeer conduct counting.counted number peer before
      → Wait (earlier ++ deeds_of number before) (known conduct mid)
  waits_at earlier all before taken wire after mid (inl none) at takes have =
      subst (λ (l : List Deed). Wait (l ++ deeds_of number before) (known conduct mid)) (sym none)
      (steps_wait conduct counting.counted peer terms.catalogue terms.starts number before [] first mid same begins takes have
      (none_waits conduct counting.counted peer terms.catalogue terms.starts (known conduct first)))
  waits_at earlier all before taken wire after mid (inr was) at takes have = ⊎_elim
      (λ is. absurd (never_nil (deeds_of number before) (Carried taken wire) (deeds_of number is.0)
      (sym (deeds_at before taken wire is.0) ∙ ap (deeds_of number) (sym is.1) ∙ was.none_before)))
      (λ more. ⊎_elim
      (λ is. subst (λ (l : List WorkerStep). Wait (earlier ++ deeds_of number l) (known conduct mid)) (sym is.1)
      (behind_taking earlier was.known was.before is.0 mid was.none_before
      (subst (λ (l : List WorkerStep). TakesSteps conduct counting.counted l first mid) is.1 takes)
      (subst (λ (l : List WorkerStep). HavePeer conduct counting.counted number peer l) is.1 have)
      (left_waits earlier all was)))
      (λ is. absurd (let e : Did number peer (Carried taken wire) ≡ TookOver number was.known = is in cc)) more)
      (parted before (Did number peer (Carried taken wire)) after was.before (TookOver number was.known) was.behind
      (sym at ∙ was.steps_are))

  -- the transfer that is carried out there was taken by a record before
  pub took_at : (start : Wire) (earlier : List Deed) (cut : Cut) (all before : List WorkerStep) (taken : Taken) (wire : Wire)
      (after : List WorkerStep) (mid : H) → HadBefore conduct counting terms peer number earlier all
      → At all before taken wire after → TakesSteps conduct counting.counted before first mid
      → HavePeer conduct counting.counted number peer before → IsCut start (earlier ++ deeds_of number all) cut
      → WasTook conduct counting.counted peer terms.catalogue terms.starts
      (exchanges_of peer (turns_of (earlier ++ deeds_of number all))) (known conduct mid) taken
  took_at start earlier cut all before taken wire after mid had at takes have is_cut =
      let deeds : earlier ++ deeds_of number all ≡ (earlier ++ deeds_of number before) ++ Carried taken wire ∷ deeds_of number after =
      ap (λ (l : List Deed). earlier ++ l) (ap (deeds_of number) at ∙ deeds_at before taken wire after)
      ∙ sym (append_assoc earlier (deeds_of number before) (Carried taken wire ∷ deeds_of number after)) in
      let waits = waits_then start [] None (earlier ++ deeds_of number before) taken wire (deeds_of number after)
      (subst (λ (l : List Deed). AreInOrder start [] None l) deeds is_cut.order) in
      let was = waits_at earlier all before taken wire after mid had at takes have taken waits in
      let back = exchanges_of peer (turns_of (Carried taken wire ∷ deeds_of number after)) in
      let exchanges : exchanges_of peer (turns_of (earlier ++ deeds_of number all))
      ≡ exchanges_of peer (turns_of (earlier ++ deeds_of number before)) ++ back =
      ap (λ (l : List Deed). exchanges_of peer (turns_of l)) deeds
      ∙ exchanges_over peer (earlier ++ deeds_of number before) (Carried taken wire ∷ deeds_of number after) in
      record {
        turn = was.turn;
        among = (
          was.among.0,
          was.among.1 ++ back,
          exchanges ∙ ap (λ (l : List Exchange). l ++ back) was.among.2
              ∙ append_assoc was.among.0 (exchange_of peer was.turn ∷ was.among.1) back,
        );
        front = was.front;
        begins = was.begins;
        ends = was.ends;
        answer = was.answer;
        takes = was.takes;
      }

-- ---- whose steps they are

one_left : (numbers : List ℕ) (left : List LeftConnection) (a b : LeftConnection)
    → AreApart (map (λ one. one.number) left) → (j k : ℕ) → j < length left
    → k < length left → slice_index_or left j a ≡ a → slice_index_or left k b ≡ b → a.number ≡ b.number → a ≡ b
one_left numbers [] a b apart j k within within' is is' same = absurd (omega (arith, within))
one_left numbers (one ∷ left) a b apart zero zero within within' is is' same = sym is ∙ is'
one_left numbers (one ∷ left) a b apart zero (suc k) within within' is is' same =
    absurd (not_left [] left b one.number k (omega (arith, within')) is' apart.0
    (sym same ∙ ap (λ (o : LeftConnection). o.number) (sym is)))
one_left numbers (one ∷ left) a b apart (suc j) zero within within' is is' same =
    absurd (not_left [] left a one.number j (omega (arith, within)) is apart.0
    (same ∙ ap (λ (o : LeftConnection). o.number) (sym is')))
one_left numbers (one ∷ left) a b apart (suc j) (suc k) within within' is is' same =
    one_left numbers left a b apart.1 j k (omega (arith, within)) (omega (arith, within')) is is' same

apart_left : (stays : List ServedConnection) (left : List LeftConnection) → AreApart (numbers_of stays left)
    → AreApart (map (λ one. one.number) left)
apart_left [] left apart = apart
apart_left (stay ∷ stays) left apart = apart_left stays left apart.1

module _ {H T : Type 0} (conduct : Conduct H) (counted : H → T) (stays : List ServedConnection) (left : List LeftConnection)
    (apart : AreApart (numbers_of stays left)) (mine : LeftConnection) (among : Contains left mine) where
  of_left_step : (step : WorkerStep) → IsStepOf stays left step → HasPeer conduct counted mine.number mine.came.peer step
  of_left_step Learned is = tt
  of_left_step (TookOver one seen) is = tt
  of_left_step (Did one other deed) (inl is) = λ same.
      absurd (closed_or_left stays left is.0 mine apart is.1.0 among.0 is.1.1 among.1 is.1.2 among.2
      (sym (is.2 ∙ same_number one mine.number same)))
  of_left_step (Did one other deed) (inr is) = λ same.
      let number : is.0.number ≡ mine.number = is.2 ∙ same_number one mine.number same in
      let it : is.0 ≡ mine = one_left [] left is.0 mine (apart_left stays left apart) is.1.0 among.0 is.1.1 among.1 is.1.2 among.2
      number in
      sym is.3 ∙ ap (λ (o : LeftConnection). o.came.peer) it

  of_left_steps : (steps : List WorkerStep) → All (IsStepOf stays left) steps
      → HavePeer conduct counted mine.number mine.came.peer steps
  of_left_steps [] owned = tt
  of_left_steps (step ∷ steps) owned = (
    of_left_step step (owned 0 step (omega arith)),
    of_left_steps steps (λ k d within. owned (suc k) d (omega (arith, within))),
  )

all_contains : {X : Type 0} (P : X → Type 0) (items : List X) (item : X) → All P items → Contains items item → P item
all_contains P items item all has = subst P has.2 (all has.0 item has.1)

-- ---- the conversation of a step

module _ {H T : Type 0} (conduct : Conduct H) (counting : Counting H T) (terms : Terms) (past : Option ListenerHistory)
    (log : Log) (run : WorkerRun H) (is : IsWorkerRun conduct counting terms past log run) where
  -- a conversation of this worker with a peer: of a connection that was to come, with all its deeds
  pub record Talk (number : ℕ) (peer : Peer) : Type 0 where
    pub came : Connected
    pub expected : IsExpected past came
    pub peer_is : came.peer ≡ peer
    pub before : Wire
    pub whole : before.source.input ≡ came.input
    pub earlier : List Deed
    pub cut : Cut
    pub began : HadBefore conduct counting terms peer number earlier run.steps
    pub is_cut : IsCut before (earlier ++ deeds_of number run.steps) cut
    pub have : HavePeer conduct counting.counted number peer run.steps

  talk_of : (number : ℕ) (peer : Peer) (deed : Deed) → IsStepOf run.stays run.left (Did number peer deed) → Talk number peer
  talk_of number peer deed (inl of) =
      let stay = of.0 in
      let was = all_contains (WasServed conduct counting terms past run.steps) run.stays stay is.served of.1 in
      subst (λ (n : ℕ). Talk n peer) of.2 (subst (λ (p : Peer). Talk stay.number p) of.3 (record {
        came = stay.ended.came;
        expected = was.expected;
        peer_is = refl;
        before = was.before;
        whole = was.whole;
        earlier = was.earlier;
        cut = was.cut;
        began = was.began;
        is_cut = was.is_cut;
        have = of_steps conduct counting.counted run.stays run.left is.apart stay of.1 run.steps is.owned;
      }))
  talk_of number peer deed (inr of) =
      let one = of.0 in
      let was = all_contains (WasHandedOn past run.steps) run.left one is.handed_on of.1 in
      subst (λ (n : ℕ). Talk n peer) of.2 (subst (λ (p : Peer). Talk one.number p) of.3 (record {
        came = one.came;
        expected = was.expected;
        peer_is = refl;
        before = was.before;
        whole = was.whole;
        earlier = [];
        cut = was.cut;
        began = inl refl;
        is_cut = was.is_cut;
        have = of_left_steps conduct counting.counted run.stays run.left is.apart one of.1 run.steps is.owned;
      }))

  pub talk_at : (before : List WorkerStep) (number : ℕ) (peer : Peer) (deed : Deed) (after : List WorkerStep)
      → run.steps ≡ before ++ Did number peer deed ∷ after → Talk number peer
  talk_at before number peer deed after at =
      let has = contains_among before after (Did number peer deed) in
      talk_of number peer deed
      (all_contains (IsStepOf run.stays run.left) (before ++ Did number peer deed ∷ after) (Did number peer deed)
      (subst (λ (l : List WorkerStep). All (IsStepOf run.stays run.left) l) at is.owned) has)

  -- what a record of it took that is carried out then
  pub talk_took : (before : List WorkerStep) (number : ℕ) (peer : Peer) (taken : Taken) (wire : Wire) (after : List WorkerStep)
      (mid : H) → run.steps ≡ before ++ Did number peer (Carried taken wire) ∷ after
      → TakesSteps conduct counting.counted before run.first.host mid → (talk : Talk number peer)
      → WasTook conduct counting.counted peer terms.catalogue terms.starts
      (exchanges_of peer (turns_of (talk.earlier ++ deeds_of number run.steps))) (known conduct mid) taken
  talk_took before number peer taken wire after mid at takes talk =
      took_at conduct counting terms number peer run.first.host is.under.catalogue is.under.knows talk.before talk.earlier talk.cut
      run.steps before taken wire after mid talk.began at takes
      (have_parts conduct counting.counted number peer before (Did number peer (Carried taken wire) ∷ after)
      (subst (λ (l : List WorkerStep). HavePeer conduct counting.counted number peer l) at talk.have)).0
      talk.is_cut
