-- Whatever was delivered, what was heard is in turn.
use Rattle.std.proofs.Common.{◌≡◌, ℕ, zero, suc, ◌<◌, ◌⊎◌, Bool, true, false, cond, List, [], ◌∷◌, ◌++◌, map}
use Rattle.std.proofs.Common.{Result, Ok, refl, sym, ap, subst, ◌∙◌, append_assoc, arith, inl, inr, eqb, bytes_eq, ◌&&◌}
use Rattle.std.specs.Prelude.{Contains, IsTrue}
use Rattle.std.proofs.lemmas.List.{append-nil}
use Rattle.std.proofs.lemmas.Bool.Decides.{eqb_tells}
use Rattle.yp_io.specs.declared.stream.Peer.{Peer}
use Rattle.yp_xdr.specs.declared.fault.XdrFault.{XdrFault}
use Rattle.yp_xdr.specs.Reading.{Remaining}
use Rattle.yp_board.specs.Catalogues.{Catalogue}
use Rattle.yp_board.specs.Logs.{Log}
use Rattle.yp_board.specs.Views.{IsFront}
use Rattle.yp_answer.specs.declared.procedure.Path.TheVariants.{Datagram}
use Rattle.yp_answer.specs.Served.{AreServed, maps_on}
use Rattle.yp_answer.specs.Reply.{Response, Bytes, reply}
use Rattle.yp_end_to_end.specs.inside.transfer.Shown.{FrontIsServed}
use Rattle.yp_transfer.specs.Fetching.{Wanted}
use Rattle.yp_transfer.specs.walk.Standings.{IsAsking, asked_by}
use Rattle.yp_transfer.specs.walk.Schedules.{Walking, Delivery, is_reply, answers, is_awaited, awaited, outstanding, gone_on}
use Rattle.yp_transfer.specs.walk.Schedules.{heard, next_xid, begun}
use Rattle.yp_end_to_end.specs.walk.Sources.{Event, Handles, Delivers, Rests, WalkExchange, first_scene, is_from, with_reply, hearing}
use Rattle.yp_end_to_end.specs.walk.Sources.{deliveries_of, AllHappen}
use Rattle.yp_end_to_end.specs.walk.Mails.{SourceMail, last_front, GoesBy}
use Rattle.yp_end_to_end.specs.walk.Laws.{IsSource}
use Rattle.yp_end_to_end.specs.inside.walk.Laws.{HeardIsInTurn}
use Rattle.yp_end_to_end.proofs.walk.Telling.{Mails, IsNumbered, Begins, answer}
use Rattle.yp_end_to_end.proofs.walk.Counting.{next_is, next_is_numbered}

-- ---- fronts

pub front_itself : (log : Log) → IsFront log log
front_itself log = ([], sym (append-nil log))

pub front_then : (a b c : Log) → IsFront a b → IsFront b c → IsFront a c
front_then a b c one other =
    (one.0 ++ other.0, other.1 ∙ ap (λ (log : Log). log ++ other.0) one.1 ∙ append_assoc a one.0 other.0)

-- ---- one of a list

-- what is in a list is its first element, or in the rest
one_or_rest : {X : Type 0} (x z : X) (xs : List X) → Contains (x ∷ xs) z → (x ≡ z) ⊎ Contains xs z
one_or_rest x z xs (zero, within, is) = inl is
one_or_rest x z xs (suc k, within, is) = inr (k, omega (arith, within), is)

-- ---- a mail behind others

module _ (catalogue : Catalogue) (caller : Peer) where
  goes_then : (mails : List SourceMail) (before : Log) (old new : Walking) (made : SourceMail)
      → GoesBy catalogue caller mails before old new → IsAsking new.standing → IsFront (last_front before mails) made.front
      → reply Datagram (maps_on catalogue made.front) caller (outstanding new) ≡ Bytes made.mail
      → GoesBy catalogue caller (mails ++ made ∷ []) before old (gone_on new made.mail)
  goes_then [] before old new made goes asking front replied =
      subst (λ (w : Walking). GoesBy catalogue caller (made ∷ []) before w (gone_on new made.mail)) goes
      (asking, front, replied, refl)
  goes_then (first ∷ mails) before old new made goes asking front replied = (
    goes.0,
    goes.1,
    goes.2,
    goes_then mails first.front (gone_on old first.mail) new made goes.3 asking front replied,
  )

last_then : (mails : List SourceMail) (before : Log) (made : SourceMail) → last_front before (mails ++ made ∷ []) ≡ made.front
last_then [] before made = refl
last_then (first ∷ mails) before made = last_then mails first.front made

-- ---- an awaited mail

both_true : (a b c : Bool) → (a && (b && c)) ≡ true → ((a && b) ≡ true) × (c ≡ true)
both_true true true true is = (refl, refl)
both_true true true false is = absurd cc
both_true true false c is = absurd cc
both_true false b c is = absurd cc

left_true : (a b : Bool) → (a && b) ≡ true → a ≡ true
left_true true b is = refl
left_true false b is = absurd cc

same_number : (a b : ℕ) → eqb a b ≡ true → a ≡ b
same_number a b is =
    elim (eqb_tells a b) [
      | inl same ↦ same.1
      | inr differ ↦ absurd (let e : eqb a b ≡ false = differ.0 in cc)
    ]

-- a mail that begins with a number answers the call with that number alone
answers_one : (xid number : ℕ) (mail : List ℕ) → Begins number mail → answers xid mail ≡ true → number ≡ xid
answers_one xid number mail begins is =
    let read : is_reply xid (Ok ((number, 1), begins.0)) ≡ true =
    ap (λ (r : Result ((ℕ × ℕ) × Remaining) XdrFault). is_reply xid r) (sym begins.1) ∙ is in
    same_number number xid (left_true (eqb number xid) (eqb 1 1) read)

-- the mails alone
texts : List SourceMail → List (List ℕ)
texts mails = map (λ (made : SourceMail). made.mail) mails

texts_joined : (one other : List SourceMail) → texts (one ++ other) ≡ texts one ++ texts other
unfolding texts
texts_joined [] other = refl
texts_joined (made ∷ one) other = ap (λ (ms : List (List ℕ)). made.mail ∷ ms) (texts_joined one other)

-- a mail is awaited, and then the others are
awaited_more : (walk : Walking) (one : Delivery) (deliveries : List Delivery)
    → cond (is_awaited walk.source walk.xid one) (one.1 ∷ []) []
    ++ awaited (heard walk one).source (heard walk one).xid deliveries
    ≡ awaited walk.source walk.xid (one ∷ deliveries)
awaited_more walk one deliveries = by (is_awaited walk.source walk.xid one)
  where
    by : (b : Bool)
        → cond b (one.1 ∷ []) []
        ++ awaited (cond b (gone_on walk one.1) walk).source (cond b (gone_on walk one.1) walk).xid deliveries
        ≡ cond b (one.1 ∷ awaited walk.source (next_xid walk.xid) deliveries) (awaited walk.source walk.xid deliveries)
    by true = refl
    by false = refl

-- ---- what was asked and sent

module _ (laws : Mails) (serves : FrontIsServed) (catalogue : Catalogue) (caller source : Peer) (wanted : Wanted)
    (before log : Log) (is_source : IsSource catalogue wanted log) where
  -- the outstanding call, or an earlier one, whose replies begin with its number
  IsAsked : Walking → List ℕ → Type 0
  IsAsked walk call =
      (call ≡ outstanding walk)
      ⊎ ((number : ℕ) × (number < walk.xid) × ((front : Log) → IsFront front log → (mail : List ℕ)
      × (reply Datagram (maps_on catalogue front) caller call ≡ Bytes mail) × Begins number mail))

  -- the reply to the outstanding call, since that was asked, or to an earlier one
  IsSent : Log → Log → Walking → List ℕ → Type 0
  IsSent since now walk mail =
      ((front : Log) × IsFront since front × IsFront front now
      × (reply Datagram (maps_on catalogue front) caller (outstanding walk) ≡ Bytes mail))
      ⊎ ((number : ℕ) × (number < walk.xid) × Begins number mail)

  record Stands (mails : List SourceMail) (scene : WalkExchange) : Type 0 where
    pub goes : GoesBy catalogue caller mails before (begun source wanted) scene.walk
    pub since : IsFront (last_front before mails) scene.front
    pub from : scene.walk.source ≡ source
    pub wants : scene.walk.wanted ≡ wanted
    pub numbered : IsNumbered scene.walk.xid scene.walk.standing
    pub asked : IsAsking scene.walk.standing → (call : List ℕ) → Contains scene.asked call → IsAsked scene.walk call
    pub sent : IsAsking scene.walk.standing → (mail : List ℕ) → Contains scene.sent mail
        → IsSent (last_front before mails) scene.front scene.walk mail

  served_at : (front : Log) → IsFront front log → AreServed (maps_on catalogue front)
  served_at front begins = serves catalogue front log begins is_source.served

  module _ (walk : Walking) (wants : walk.wanted ≡ wanted) (asking : IsAsking walk.standing)
      (numbered : IsNumbered walk.xid walk.standing) (front : Log) (begins : IsFront front log) where
    replied : (mail : List ℕ) × (reply Datagram (maps_on catalogue front) caller (outstanding walk) ≡ Bytes mail)
        × Begins walk.xid mail
    replied =
        let one = answer laws (maps_on catalogue front) caller wanted walk.xid (served_at front begins) is_source.domain
        is_source.map walk.standing asking numbered in (
          one.mail,
          subst (λ (w : Wanted). reply Datagram (maps_on catalogue front) caller (asked_by w walk.xid walk.standing)
              ≡ Bytes one.mail) (sym wants) one.replied,
          one.begins,
        )

    begins_so : (mail : List ℕ) → reply Datagram (maps_on catalogue front) caller (outstanding walk) ≡ Bytes mail
        → Begins walk.xid mail
    begins_so mail is =
        let same : replied.0 ≡ mail = (let both : Bytes replied.0 ≡ Bytes mail = sym replied.1 ∙ is in cc) in
        subst (λ (m : List ℕ). Begins walk.xid m) same replied.2

  -- ---- the source handles a call

  sent_longer : (since now later : Log) (walk : Walking) (mail : List ℕ) → IsFront now later
      → IsSent since now walk mail → IsSent since later walk mail
  unfolding IsSent
  sent_longer since now later walk mail grows (inl made) =
      inl (made.0, made.1, front_then made.0 now later made.2 grows, made.3)
  sent_longer since now later walk mail grows (inr earlier) = inr earlier

  one_more : (since front : Log) (walk : Walking) (sent : List (List ℕ)) (bytes : List ℕ)
      → IsSent since front walk bytes → ((mail : List ℕ) → Contains sent mail → IsSent since front walk mail)
      → (mail : List ℕ) → Contains (bytes ∷ sent) mail → IsSent since front walk mail
  one_more since front walk sent bytes is others mail among =
      elim (one_or_rest bytes mail sent among) [
        | inl same ↦ subst (λ (m : List ℕ). IsSent since front walk m) same is
        | inr later ↦ others mail later
      ]

  replied_is_sent : (mails : List SourceMail) (scene : WalkExchange) (stands : Stands mails scene) (call : List ℕ) (front : Log) → Contains scene.asked call
      → IsFront scene.front front → IsFront front log → IsAsking scene.walk.standing
      → (bytes : List ℕ) × (reply Datagram (maps_on catalogue front) caller call ≡ Bytes bytes)
      × IsSent (last_front before mails) front scene.walk bytes
  unfolding IsAsked IsSent
  replied_is_sent mails scene stands call front among grows begins asking =
      elim (stands.asked asking call among) [
        | inl now ↦
            let one = replied scene.walk stands.wants asking stands.numbered front begins in
            let since = front_then (last_front before mails) scene.front front stands.since grows in (
              one.0,
              subst (λ (c : List ℕ). reply Datagram (maps_on catalogue front) caller c ≡ Bytes one.0) (sym now) one.1,
              inl (front, since, front_itself front, one.1),
            )
        | inr earlier ↦
            let one = earlier.2 front begins in (one.0, one.1, inr (earlier.0, earlier.1, one.2))
      ]

  handled : (mails : List SourceMail) (scene : WalkExchange) (stands : Stands mails scene) (call : List ℕ) (front : Log) → Contains scene.asked call
      → IsFront scene.front front → IsFront front log
      → Stands mails (record scene { front = front; sent = with_reply (reply Datagram (maps_on catalogue front) caller call) scene.sent })
  handled mails scene stands call front among grows begins = record {
    goes = stands.goes;
    since = front_then (last_front before mails) scene.front front stands.since grows;
    from = stands.from;
    wants = stands.wants;
    numbered = stands.numbered;
    asked = stands.asked;
    sent = λ asking.
        let one = replied_is_sent mails scene stands call front among grows begins asking in
        let others : (mail : List ℕ) → Contains scene.sent mail → IsSent (last_front before mails) front scene.walk mail =
        λ mail is. sent_longer (last_front before mails) scene.front front scene.walk mail grows
        (stands.sent asking mail is) in
        subst (λ (r : Response). (mail : List ℕ) → Contains (with_reply r scene.sent) mail
        → IsSent (last_front before mails) front scene.walk mail) (sym one.1)
        (one_more (last_front before mails) front scene.walk scene.sent one.0 one.2 others);
  }

  -- ---- a mail is delivered

  -- what it then asks, beside what it asked
  asked_now : (walk : Walking) (asked : List (List ℕ)) → ((call : List ℕ) → Contains asked call → IsAsked walk call)
      → (call : List ℕ) → Contains (outstanding walk ∷ asked) call → IsAsked walk call
  unfolding IsAsked
  asked_now walk asked others call among =
      elim (one_or_rest (outstanding walk) call asked among) [
        | inl same ↦ inl (sym same)
        | inr later ↦ others call later
      ]

  passed_by : (mails : List SourceMail) (scene : WalkExchange) → Stands mails scene
      → Stands mails (record scene { asked = outstanding scene.walk ∷ scene.asked })
  passed_by mails scene stands = record {
    goes = stands.goes;
    since = stands.since;
    from = stands.from;
    wants = stands.wants;
    numbered = stands.numbered;
    asked = λ asking. asked_now scene.walk scene.asked (stands.asked asking);
    sent = stands.sent;
  }

  module _ (mails : List SourceMail) (scene : WalkExchange) (stands : Stands mails scene) (asking : IsAsking scene.walk.standing) (mail : List ℕ)
      (now : IsFront scene.front log) where
    next : Walking
    next = gone_on scene.walk mail

    -- the outstanding call is an earlier one then
    was_asked : (call : List ℕ) → IsAsked scene.walk call → IsAsked next call
    unfolding IsAsked next
    was_asked call (inl same) =
        inr (
          scene.walk.xid,
          omega (arith, next_is scene.walk.xid scene.walk.standing asking stands.numbered),
          λ front begins.
              let one = replied scene.walk stands.wants asking stands.numbered front begins in (
                one.0,
                subst (λ (c : List ℕ). reply Datagram (maps_on catalogue front) caller c ≡ Bytes one.0) (sym same) one.1,
                one.2,
              ),
        )
    was_asked call (inr earlier) =
        inr (
          earlier.0,
          omega (arith, earlier.1, next_is scene.walk.xid scene.walk.standing asking stands.numbered),
          earlier.2,
        )

    -- and all that was sent answers earlier ones
    was_sent : (since : Log) (other : List ℕ) → IsSent (last_front before mails) scene.front scene.walk other
        → IsSent since scene.front next other
    unfolding IsSent next
    was_sent since other (inl made) =
        inr (
          scene.walk.xid,
          omega (arith, next_is scene.walk.xid scene.walk.standing asking stands.numbered),
          begins_so scene.walk stands.wants asking stands.numbered made.0
              (front_then made.0 scene.front log made.2 now) other made.3,
        )
    was_sent since other (inr earlier) =
        inr (
          earlier.0,
          omega (arith, earlier.1, next_is scene.walk.xid scene.walk.standing asking stands.numbered),
          earlier.2,
        )

    led_on : (front : Log) → IsFront (last_front before mails) front → IsFront front scene.front
        → reply Datagram (maps_on catalogue front) caller (outstanding scene.walk) ≡ Bytes mail
        → Stands (mails ++ record { front = front; mail = mail } ∷ [])
        (record scene { walk = next; asked = outstanding next ∷ scene.asked })
    unfolding next
    led_on front since made is =
        let one : SourceMail = record { front = front; mail = mail } in
        let ends : last_front before (mails ++ one ∷ []) ≡ front = last_then mails before one in
        record {
          goes = goes_then catalogue caller mails before (begun source wanted) scene.walk one stands.goes asking
              since is;
          since = subst (λ (l : Log). IsFront l scene.front) (sym ends) made;
          from = stands.from;
          wants = stands.wants;
          numbered = next_is_numbered scene.walk.wanted scene.walk.xid scene.walk.standing mail asking stands.numbered;
          asked = λ later. asked_now next scene.asked (λ call among. was_asked call (stands.asked asking call among));
          sent = λ later other among.
              was_sent (last_front before (mails ++ one ∷ [])) other (stands.sent asking other among);
        }

    awaited_led : answers scene.walk.xid mail ≡ true → IsSent (last_front before mails) scene.front scene.walk mail
        → (more : List SourceMail) × (texts more ≡ mail ∷ [])
        × Stands (mails ++ more) (record scene { walk = next; asked = outstanding next ∷ scene.asked })
    unfolding IsSent texts
    awaited_led is (inl made) =
        (record { front = made.0; mail = mail } ∷ [], refl, led_on made.0 made.1 made.2 made.3)
    awaited_led is (inr earlier) =
        absurd (omega (arith, earlier.1, answers_one scene.walk.xid earlier.0 mail earlier.2 is))

  delivered : (mails : List SourceMail) (scene : WalkExchange) (stands : Stands mails scene) (one : Delivery)
      → IsFront scene.front log → IsAsking scene.walk.standing
      → (IsTrue (is_from scene.walk.source one) → Contains scene.sent one.1)
      → (more : List SourceMail) × (texts more ≡ cond (is_awaited scene.walk.source scene.walk.xid one) (one.1 ∷ []) [])
      × Stands (mails ++ more) (hearing scene one)
  unfolding next texts
  delivered mails scene stands one now asking was_sent_by =
      by (is_awaited scene.walk.source scene.walk.xid one) refl
    where
      by : (b : Bool) → is_awaited scene.walk.source scene.walk.xid one ≡ b
          → (more : List SourceMail) × (texts more ≡ cond b (one.1 ∷ []) [])
          × Stands (mails ++ more) (record scene {
            walk = cond b (gone_on scene.walk one.1) scene.walk;
            asked = outstanding (cond b (gone_on scene.walk one.1) scene.walk) ∷ scene.asked;
          })
      by false is = (
        [],
        refl,
        subst (λ (ms : List SourceMail). Stands ms (record scene { asked = outstanding scene.walk ∷ scene.asked }))
            (sym (append-nil mails)) (passed_by mails scene stands),
      )
      by true is =
          let parts = both_true (bytes_eq one.0.addr scene.walk.source.addr) (eqb one.0.port scene.walk.source.port)
          (answers scene.walk.xid one.1) is in
          awaited_led mails scene stands asking one.1 now parts.1
          (stands.sent asking one.1 (was_sent_by parts.0))

  -- ---- one thing after the other

  grows : (events : List Event) (old new : WalkExchange) → AllHappen catalogue caller events old new → IsFront old.front new.front
  grows [] old new is = subst (λ (s : WalkExchange). IsFront old.front s.front) (sym is) (front_itself old.front)
  grows (Handles call front ∷ events) old new is =
      let here : IsFront old.front is.0.front =
      subst (λ (s : WalkExchange). IsFront old.front s.front) (sym is.1.2) is.1.1 in
      front_then old.front is.0.front new.front here (grows events is.0 new is.2)
  grows (Delivers one ∷ events) old new is =
      let here : is.0.front ≡ old.front = ap (λ (s : WalkExchange). s.front) is.1.2 in
      subst (λ (l : Log). IsFront l new.front) here (grows events is.0 new is.2)
  grows (Rests ∷ events) old new is =
      let here : is.0.front ≡ old.front = ap (λ (s : WalkExchange). s.front) is.1 in
      subst (λ (l : Log). IsFront l new.front) here (grows events is.0 new is.2)

  all : (events : List Event) (mails : List SourceMail) (old new : WalkExchange) → Stands mails old
      → AllHappen catalogue caller events old new → new.front ≡ log
      → (more : List SourceMail) × (texts more ≡ awaited old.walk.source old.walk.xid (deliveries_of events))
      × Stands (mails ++ more) new
  unfolding texts
  all [] mails old new stands is ends = (
    [],
    refl,
    subst (λ (s : WalkExchange). Stands (mails ++ []) s) (sym is)
        (subst (λ (ms : List SourceMail). Stands ms old) (sym (append-nil mails)) stands),
  )
  all (Handles call front ∷ events) mails old new stands is ends =
      let later : IsFront is.0.front log = subst (λ (l : Log). IsFront is.0.front l) ends (grows events is.0 new is.2) in
      let here : IsFront front log = subst (λ (s : WalkExchange). IsFront s.front log) is.1.2 later in
      let rest = all events mails is.0 new
      (subst (λ (s : WalkExchange). Stands mails s) (sym is.1.2) (handled mails old stands call front is.1.0 is.1.1 here))
      is.2 ends in
      (rest.0, rest.1 ∙ ap (λ (s : WalkExchange). awaited s.walk.source s.walk.xid (deliveries_of events)) is.1.2, rest.2)
  all (Delivers one ∷ events) mails old new stands is ends =
      let later : IsFront is.0.front log = subst (λ (l : Log). IsFront is.0.front l) ends (grows events is.0 new is.2) in
      let here : IsFront old.front log = subst (λ (s : WalkExchange). IsFront s.front log) is.1.2 later in
      let now = delivered mails old stands one here is.1.0 is.1.1 in
      let rest = all events (mails ++ now.0) is.0 new
      (subst (λ (s : WalkExchange). Stands (mails ++ now.0) s) (sym is.1.2) now.2) is.2 ends in
      let after : texts rest.0 ≡ awaited (heard old.walk one).source (heard old.walk one).xid (deliveries_of events) =
      rest.1 ∙ ap (λ (s : WalkExchange). awaited s.walk.source s.walk.xid (deliveries_of events)) is.1.2 in (
        now.0 ++ rest.0,
        texts_joined now.0 rest.0
            ∙ ap (λ (ms : List (List ℕ)). ms ++ texts rest.0) now.1
            ∙ ap (λ (ms : List (List ℕ)). cond (is_awaited old.walk.source old.walk.xid one) (one.1 ∷ []) [] ++ ms) after
            ∙ awaited_more old.walk one (deliveries_of events),
        subst (λ (ms : List SourceMail). Stands ms new) (append_assoc mails now.0 rest.0) rest.2,
      )
  all (Rests ∷ events) mails old new stands is ends =
      let rest = all events mails is.0 new (subst (λ (s : WalkExchange). Stands mails s) (sym is.1) stands) is.2 ends in
      (rest.0, rest.1 ∙ ap (λ (s : WalkExchange). awaited s.walk.source s.walk.xid (deliveries_of events)) is.1, rest.2)

  begins_standing : Stands [] (first_scene source wanted before)
  unfolding IsAsked IsSent
  begins_standing = record {
    goes = refl;
    since = front_itself before;
    from = refl;
    wants = refl;
    numbered = refl;
    asked = λ asking call among.
        asked_now (begun source wanted) [] (λ other none. absurd (omega (arith, none.1))) call among;
    sent = λ asking mail among. absurd (omega (arith, among.1));
  }

pub heard_is_in_turn : Mails → FrontIsServed → HeardIsInTurn
unfolding texts
heard_is_in_turn laws serves catalogue caller source wanted log events last is_source happen =
    let stands = all laws serves catalogue caller source wanted log last.front is_source events []
    (first_scene source wanted log) last
    (begins_standing laws serves catalogue caller source wanted log last.front is_source) happen refl in
    (stands.0, stands.2.goes, stands.2.since, stands.1)
