-- Calls that servers of datagrams left for a carrier, and how that answered them.
use Rattle.std.proofs.Common.{◌≡◌, ◌≤◌, ◌<◌, ℕ, ◌+◌, Bool, true, false, cond, ◌&&◌, ◌==◌, List, [], ◌∷◌, ◌++◌, length, map, Option, None, Some, refl, sym, ap, ◌∙◌, subst, arith, append_assoc}
use Rattle.std.specs.Prelude.{bytes_eq, flat_map, nat_lt}
use Rattle.std.specs.List.{AllByRecursion, AllZip}
use Rattle.std.proofs.lemmas.Bool.{and_parts, and_from}
use Rattle.std.proofs.lemmas.Bool.Decides.{nat_tests}
use Rattle.yp_io.specs.declared.stream.Peer.{Peer}
use Rattle.yp_io.specs.Inboxes.{InboxEvent}
use Rattle.yp_board.specs.Catalogues.{Catalogue}
use Rattle.yp_board.specs.Logs.{Log}
use Rattle.yp_board.specs.Views.{IsFront}
use Rattle.yp_answer.specs.declared.procedure.Path.TheVariants.{Datagram as Mail}
use Rattle.yp_answer.specs.Served.{maps_on}
use Rattle.yp_answer.specs.Reply.{Response, Silence, exceeds, reply}
use Rattle.yp_answer.specs.session.Hosts.{Conduct, Turn}
use Rattle.yp_rpc.specs.Turns.{datagram_max}
use Rattle.yp_worker.specs.datagrams.Mailing.{Awaited, Deferred, Transfer, Call, AnswersMail}
use Rattle.yp_worker.specs.datagrams.Serving.{reply_posts}
use Rattle.yp_worker.specs.datagrams.Carrying.{CarrierStep, Carried, Replied, left_for, sent_over, AnswersLeft, TakesCarrierStep, TakesCarrierSteps}
use Rattle.yp_worker.specs.datagrams.Queues.{weigh, WeighTheSame}
use Rattle.yp_headline.specs.Answering.{answer}
use Rattle.yp_headline.specs.Publishing.{IsAmong}
use Rattle.yp_headline.specs.Serving.{IsReply}
use Rattle.yp_headline.proofs.Runs.{front_self}
use Rattle.yp_headline.proofs.Steps.{known, catalogue_of, GoesOn, stays_on, goes_on_then, linked, linked_on, told_on, front_then}
use Rattle.yp_headline.proofs.Weighed.{passes, found_where, bytes_self, number_self, same_bytes, same_number}

-- ---- what is left: transfers, and calls

-- a call of a peer that was left when this was known
pub record LeftCall : Type 0 where
  pub peer : Peer
  pub message : List ℕ
  pub known : Log

abbrev pub calls_of : List Deferred → List LeftCall
calls_of [] = []
calls_of (Transfer one ∷ more) = calls_of more
calls_of (Call peer message before ∷ more) = record { peer = peer; message = message; known = before } ∷ calls_of more

abbrev pub transfers_of : List Deferred → List Awaited
transfers_of [] = []
transfers_of (Transfer one ∷ more) = one ∷ transfers_of more
transfers_of (Call peer message before ∷ more) = transfers_of more

pub calls_both : (some more : List Deferred) → calls_of (some ++ more) ≡ calls_of some ++ calls_of more
calls_both [] more = refl
calls_both (Transfer one ∷ some) more = calls_both some more
calls_both (Call peer message before ∷ some) more =
    ap (λ (l : List LeftCall). record { peer = peer; message = message; known = before } ∷ l) (calls_both some more)

pub transfers_both : (some more : List Deferred) → transfers_of (some ++ more) ≡ transfers_of some ++ transfers_of more
transfers_both [] more = refl
transfers_both (Transfer one ∷ some) more = ap (λ (l : List Awaited). one ∷ l) (transfers_both some more)
transfers_both (Call peer message before ∷ some) more = transfers_both some more

-- ---- weights

abbrev call_weight : (LeftCall → ℕ) → Deferred → ℕ
call_weight weight (Transfer one) = 0
call_weight weight (Call peer message before) = weight (record { peer = peer; message = message; known = before })

weigh_calls : (weight : LeftCall → ℕ) (items : List Deferred) → weigh (call_weight weight) items ≡ weigh weight (calls_of items)
weigh_calls weight [] = refl
weigh_calls weight (Transfer one ∷ more) = let rest = weigh_calls weight more in omega (arith, rest)
weigh_calls weight (Call peer message before ∷ more) =
    ap (λ (n : ℕ). weight (record { peer = peer; message = message; known = before }) + n) (weigh_calls weight more)

pub calls_weigh : (these those : List Deferred) → WeighTheSame these those → WeighTheSame (calls_of these) (calls_of those)
calls_weigh these those same = λ weight.
    sym (weigh_calls weight these) ∙ same (call_weight weight) ∙ weigh_calls weight those

abbrev transfer_weight : (Awaited → ℕ) → Deferred → ℕ
transfer_weight weight (Transfer one) = weight one
transfer_weight weight (Call peer message before) = 0

weigh_transfers : (weight : Awaited → ℕ) (items : List Deferred)
    → weigh (transfer_weight weight) items ≡ weigh weight (transfers_of items)
weigh_transfers weight [] = refl
weigh_transfers weight (Transfer one ∷ more) = ap (λ (n : ℕ). weight one + n) (weigh_transfers weight more)
weigh_transfers weight (Call peer message before ∷ more) = let rest = weigh_transfers weight more in omega (arith, rest)

pub transfers_weigh : (these those : List Deferred) → WeighTheSame these those
    → WeighTheSame (transfers_of these) (transfers_of those)
transfers_weigh these those same = λ weight.
    sym (weigh_transfers weight these) ∙ same (transfer_weight weight) ∙ weigh_transfers weight those

weigh_mid : {B : Type 0} (weight : B → ℕ) (front back : List B) (b : B)
    → weigh weight (front ++ b ∷ back) ≡ weight b + weigh weight (front ++ back)
weigh_mid weight [] back b = refl
weigh_mid weight (x ∷ front) back b = let more = weigh_mid weight front back b in omega (arith, more)

weigh_both : {B : Type 0} (weight : B → ℕ) (some more : List B)
    → weigh weight (some ++ more) ≡ weigh weight some + weigh weight more
weigh_both weight [] more = omega arith
weigh_both weight (x ∷ some) more = let rest = weigh_both weight some more in omega (arith, rest)

pub weigh_map : {A B : Type 0} (f : A → B) (weight : B → ℕ) (items : List A)
    → weigh weight (map f items) ≡ weigh (λ a. weight (f a)) items
weigh_map f weight [] = refl
weigh_map f weight (x ∷ items) = ap (λ (n : ℕ). weight (f x) + n) (weigh_map f weight items)

weigh_flat : {A B : Type 0} (f : A → List B) (weight : B → ℕ) (items : List A)
    → weigh weight (flat_map f items) ≡ weigh (λ a. weigh weight (f a)) items
weigh_flat f weight [] = refl
weigh_flat f weight (x ∷ items) =
    weigh_both weight (f x) (flat_map f items) ∙ ap (λ (n : ℕ). weigh weight (f x) + n) (weigh_flat f weight items)

pub flat_weighs : {A B : Type 0} (f : A → List B) (these those : List A) → WeighTheSame these those
    → WeighTheSame (flat_map f these) (flat_map f those)
flat_weighs f these those same = λ weight.
    weigh_flat f weight these ∙ same (λ a. weigh weight (f a)) ∙ sym (weigh_flat f weight those)

-- ---- which call it is

-- fronts of one log that are as long are the same
as_long : {A : Type 0} (a b r s : List A) → a ++ r ≡ b ++ s → length a ≡ length b → a ≡ b
as_long [] [] r s e long = refl
as_long [] (y ∷ b) r s e long = absurd (omega (arith, long))
as_long (x ∷ a) [] r s e long = absurd (omega (arith, long))
as_long (x ∷ a) (y ∷ b) r s e long =
    let first : x ≡ y = cc in
    let rest : a ++ r ≡ b ++ s = cc in
    ap (λ l. x ∷ l) (as_long a b r s rest (omega (arith, long))) ∙ ap (λ z. z ∷ b) first

same_front : (a b log : Log) → IsFront a log → IsFront b log → length a ≡ length b → a ≡ b
same_front a b log one other long = as_long a b one.0 other.0 (sym one.1 ∙ other.1) long

abbrev calls_same : LeftCall → LeftCall → Bool
calls_same a b = bytes_eq a.peer.addr b.peer.addr && ((a.peer.port == b.peer.port)
    && (bytes_eq a.message b.message && (length a.known == length b.known)))

calls_self : (a : LeftCall) → calls_same a a ≡ true
calls_self a = and_from _ _ (bytes_self a.peer.addr) (and_from _ _ (number_self a.peer.port)
    (and_from _ _ (bytes_self a.message) (number_self (length a.known))))

left_is : (addr addr' : List ℕ) (port port' : ℕ) (message message' : List ℕ) (known known' : Log) → addr ≡ addr' → port ≡ port'
    → message ≡ message' → known ≡ known'
    → (let one : LeftCall = record { peer = record { addr = addr; port = port }; message = message; known = known } in one)
    ≡ record { peer = record { addr = addr'; port = port' }; message = message'; known = known' }
left_is addr addr' port port' message message' known known' a b c d = cc

calls_sound : (log : Log) (a b : LeftCall) → IsFront a.known log → IsFront b.known log → calls_same a b ≡ true → a ≡ b
calls_sound log a b one other is =
    let first = and_parts _ _ is in
    let second = and_parts _ _ first.1 in
    let third = and_parts _ _ second.1 in
    left_is a.peer.addr b.peer.addr a.peer.port b.peer.port a.message b.message a.known b.known
    (same_bytes a.peer.addr b.peer.addr first.0) (same_number a.peer.port b.peer.port second.0)
    (same_bytes a.message b.message third.0)
    (same_front a.known b.known log one other (same_number (length a.known) (length b.known) third.1))

-- ---- how calls that were left were answered

pub short_reply : (b : Bool) (response : Response) (reply : Option (List ℕ)) (front next : Log) → b ≡ false
    → IsReply response reply front next → IsReply (cond b Silence response) reply front next
short_reply true response reply front next short is = absurd cc
short_reply false response reply front next short is = is

pub both_split : {A B : Type 0} (R : A → B → Type 0) (some more : List A) (others : List B) → AllZip R (some ++ more) others
    → (here : List B) × (there : List B) × (others ≡ here ++ there) × AllZip R some here × AllZip R more there
both_split R [] more others all = ([], others, refl, tt, all)
both_split R (x ∷ some) more [] all = absurd all
both_split R (x ∷ some) more (y ∷ others) all =
    let rest = both_split R some more others all.1 in
    (y ∷ rest.0, rest.1, ap (λ l. y ∷ l) rest.2, (all.0, rest.3), rest.4)

-- ---- the steps of a carrier

module _ {H T : Type 0} (conduct : Conduct H) (counted : H → T) where
  pub step_on : (step : CarrierStep) (old new : H) → TakesCarrierStep conduct counted step old new → GoesOn conduct old new
  step_on (Carried one) old new takes = record { catalogue = takes.catalogue; grown = takes.grown }
  step_on (Replied peer turn known) old new takes =
      goes_on_then conduct old takes.mid new (told_on conduct counted old takes.mid takes.told)
      (linked_on conduct Mail peer turn takes.mid new (linked conduct Mail peer turn takes.mid new takes.answers.link))

  pub steps_on : (steps : List CarrierStep) (old new : H) → TakesCarrierSteps conduct counted steps old new
      → GoesOn conduct old new
  steps_on [] old new takes = stays_on conduct old new takes
  steps_on (step ∷ steps) old new takes =
      goes_on_then conduct old takes.0 new (step_on step old takes.0 takes.1) (steps_on steps takes.0 new takes.2)

  pub steps_apart : (steps more : List CarrierStep) (old new : H) → TakesCarrierSteps conduct counted (steps ++ more) old new
      → (mid : H) × TakesCarrierSteps conduct counted steps old mid × TakesCarrierSteps conduct counted more mid new
  steps_apart [] more old new takes = (old, refl, takes)
  steps_apart (step ∷ steps) more old new takes =
      let rest = steps_apart steps more takes.0 new takes.2 in
      (rest.0, (takes.0, takes.1, rest.1), rest.2)

-- ---- what was answered late

module _ (catalogue : Catalogue) (log : Log) (loses : Bool) where
  -- a call that was left when this was known, and how it was answered on more than that
  pub record LateReply : Type 0 where
    pub call : LeftCall
    pub reply : Option (List ℕ)
    pub lost : Bool
    pub lossy : lost ≡ true → loses ≡ true
    pub front : Log
    pub next : Log
    pub begins : IsFront call.known front
    pub goes : IsFront front next
    pub upto : IsFront next log
    pub replied : IsReply (answer Mail (maps_on catalogue front) call.peer call.message) reply front next

  -- what was sent of it
  abbrev pub post_of : LateReply → List InboxEvent
  post_of late = reply_posts late.call.peer (cond late.lost None late.reply)

  -- each is the answer to the call
  abbrev pub Matches : LeftCall → LateReply → Type 0
  Matches call late = call ≡ late.call

  -- calls that were left, and in their order how each was answered
  pub record Matched (these : List LeftCall) (those : List LateReply) : Type 0 where
    pub lates : List LateReply
    pub each : AllZip Matches these lates
    pub all : WeighTheSame those lates

  known_front : (late : LateReply) → IsFront late.call.known log
  known_front late =
      front_then late.call.known late.front log late.begins (front_then late.front late.next log late.goes late.upto)

  nothing_weighs : (those : List LateReply) → weigh (λ (late : LateReply). 1) those ≡ 0 → those ≡ []
  nothing_weighs [] none = refl
  nothing_weighs (late ∷ those) none = absurd (omega (arith, none))

  some_here : (a : LeftCall) (these : List LeftCall) (those : List LateReply)
      → ((weight : LeftCall → ℕ) → weigh weight (a ∷ these) ≡ weigh (λ (late : LateReply). weight late.call) those)
      → 0 < weigh (passes (λ (late : LateReply). calls_same a late.call)) those
  some_here a these those same =
      let weight : LeftCall → ℕ = passes (calls_same a) in
      let is : weight a + weigh weight these ≡ weigh (passes (λ (late : LateReply). calls_same a late.call)) those = same weight in
      let one : weight a ≡ 1 = ap (λ (b : Bool). cond b 1 0) (calls_self a) in
      omega (arith, is, one)

  less_one : (a : LeftCall) (b : LateReply) (these : List LeftCall) (front back those : List LateReply)
      → those ≡ front ++ b ∷ back → a ≡ b.call
      → ((weight : LeftCall → ℕ) → weigh weight (a ∷ these) ≡ weigh (λ (late : LateReply). weight late.call) those)
      → (weight : LeftCall → ℕ) → weigh weight these ≡ weigh (λ (late : LateReply). weight late.call) (front ++ back)
  less_one a b these front back those parts is same weight =
      let whole : weight a + weigh weight these ≡ weigh (λ (late : LateReply). weight late.call) those = same weight in
      let split : weigh (λ (late : LateReply). weight late.call) those
      ≡ weight b.call + weigh (λ (late : LateReply). weight late.call) (front ++ back) =
      ap (λ (l : List LateReply). weigh (λ (late : LateReply). weight late.call) l) parts
      ∙ weigh_mid (λ (late : LateReply). weight late.call) front back b in
      let here : weight a ≡ weight b.call = ap weight is in
      omega (arith, whole, split, here)

  pub match_up : (these : List LeftCall) (those : List LateReply) → AllByRecursion (λ call. IsFront call.known log) these
      → ((weight : LeftCall → ℕ) → weigh weight these ≡ weigh (λ (late : LateReply). weight late.call) those)
      → Matched these those
  match_up [] those fronts same = record {
    lates = [];
    each = tt;
    all = λ weight. ap (λ (l : List LateReply). weigh weight l) (nothing_weighs those (sym (same (λ call. 1))));
  }
  match_up (a ∷ these) those fronts same =
      let found = found_where (λ (late : LateReply). calls_same a late.call) those (some_here a these those same) in
      let b = found.0 in
      let front = found.1.0 in
      let back = found.1.1 in
      let a_is : a ≡ b.call = calls_sound log a b.call fronts.0 (known_front b) found.2 in
      let rest = match_up these (front ++ back) fronts.1 (less_one a b these front back those found.1.2 a_is same) in
      record {
        lates = b ∷ rest.lates;
        each = (a_is, rest.each);
        all = λ weight. ap (λ (l : List LateReply). weigh weight l) found.1.2 ∙ weigh_mid weight front back b
            ∙ ap (λ (n : ℕ). weight b + n) (rest.all weight);
      }

  module _ {H T : Type 0} (conduct : Conduct H) (counted : H → T) where
    -- steps, and how calls were answered in them, whose replies were lost or not
    pub record Answered (lost : Bool) (steps : List CarrierStep) : Type 0 where
      pub lates : List LateReply
      pub calls : map (λ late. late.call) lates ≡ calls_of (map left_for steps)
      pub sent : flat_map post_of lates ≡ cond lost [] (sent_over steps)

    none_answered : (lost : Bool) → Answered lost []
    none_answered true = record { lates = []; calls = refl; sent = refl }
    none_answered false = record { lates = []; calls = refl; sent = refl }

    -- a call that was answered
    abbrev late_reply : (lost : Bool) (lossy : lost ≡ true → loses ≡ true) (peer : Peer) (turn : Turn) (left : Log) (old new : H)
        → nat_lt datagram_max (length turn.message) ≡ false
        → catalogue_of conduct old ≡ catalogue → AnswersLeft conduct counted peer turn left old new
        → IsFront (known conduct new) log → LateReply
    late_reply lost lossy peer turn left old new is_short same answers upto =
        let mid = answers.mid in
        let on = told_on conduct counted old mid answers.told in
        let link = linked conduct Mail peer turn mid new answers.answers.link in
        record {
          call = record { peer = peer; message = turn.message; known = left };
          reply = turn.answer;
          lost = lost;
          lossy = lossy;
          front = link.front;
          next = known conduct new;
          begins = front_then left (known conduct mid) link.front answers.reached link.begins;
          goes = link.goes;
          upto = upto;
          replied = short_reply (exceeds Mail (length turn.message)) (reply Mail (maps_on catalogue link.front) peer turn.message)
              turn.answer link.front (known conduct new) is_short
              (subst (λ (c : Catalogue). IsReply (reply Mail (maps_on c link.front) peer turn.message) turn.answer link.front
              (known conduct new)) (on.catalogue ∙ same) link.replied);
        }

    late_before : (lost : Bool) (peer : Peer) (turn : Turn) (left : Log) (steps : List CarrierStep) (late : LateReply)
        → late.call ≡ record { peer = peer; message = turn.message; known = left } → late.reply ≡ turn.answer → late.lost ≡ lost
        → Answered lost steps → Answered lost (Replied peer turn left ∷ steps)
    late_before true peer turn left steps late call reply lost rest = record {
      lates = late ∷ rest.lates;
      calls = ap (λ (c : LeftCall). c ∷ map (λ late. late.call) rest.lates) call
          ∙ ap (λ (l : List LeftCall). record { peer = peer; message = turn.message; known = left } ∷ l) rest.calls;
      sent = ap (λ (b : Bool). reply_posts late.call.peer (cond b None late.reply) ++ flat_map post_of rest.lates) lost ∙ rest.sent;
    }
    late_before false peer turn left steps late call reply lost rest = record {
      lates = late ∷ rest.lates;
      calls = ap (λ (c : LeftCall). c ∷ map (λ late. late.call) rest.lates) call
          ∙ ap (λ (l : List LeftCall). record { peer = peer; message = turn.message; known = left } ∷ l) rest.calls;
      sent = ap (λ (b : Bool). reply_posts late.call.peer (cond b None late.reply) ++ flat_map post_of rest.lates) lost
          ∙ ap (λ (o : Option (List ℕ)). reply_posts late.call.peer o ++ flat_map post_of rest.lates) reply
          ∙ ap (λ (c : LeftCall). reply_posts c.peer turn.answer ++ flat_map post_of rest.lates) call
          ∙ ap (λ (l : List InboxEvent). reply_posts peer turn.answer ++ l) rest.sent;
    }

    carried_before : (lost : Bool) (one : Awaited) (steps : List CarrierStep) → Answered lost steps
        → Answered lost (Carried one ∷ steps)
    carried_before lost one steps rest = record { lates = rest.lates; calls = rest.calls; sent = rest.sent }

    pub all_answered : (lost : Bool) (lossy : lost ≡ true → loses ≡ true) (steps : List CarrierStep) (old new : H)
        → catalogue_of conduct old ≡ catalogue → TakesCarrierSteps conduct counted steps old new → IsFront (known conduct new) log
        → Answered lost steps
    all_answered lost lossy [] old new same takes upto = none_answered lost
    all_answered lost lossy (Carried one ∷ steps) old new same takes upto =
        carried_before lost one steps
        (all_answered lost lossy steps takes.0 new (takes.1.catalogue ∙ same) takes.2 upto)
    all_answered lost lossy (Replied peer turn left ∷ steps) old new same takes upto =
        let next = takes.0 in
        let here = step_on conduct counted (Replied peer turn left) old next takes.1 in
        let onward = steps_on conduct counted steps next new takes.2 in
        let short = takes.1.short in
        let is_short : nat_lt datagram_max (length turn.message) ≡ false = grind (arith, nat_tests) in
        late_before lost peer turn left steps
        (late_reply lost lossy peer turn left old next is_short same takes.1
        (front_then (known conduct next) (known conduct new) log onward.grown upto))
        refl refl refl
        (all_answered lost lossy steps next new (here.catalogue ∙ same) takes.2 upto)

    -- those whose replies weren't sent: none, unless the inbox has failed
    pub unsent_answered : (fault : Bool) → (fault ≡ true → loses ≡ true) → (unsent : List CarrierStep)
        → (fault ≡ false → unsent ≡ []) → (old new : H) → catalogue_of conduct old ≡ catalogue
        → TakesCarrierSteps conduct counted unsent old new → IsFront (known conduct new) log → Answered true unsent
    unsent_answered true lossy unsent whole old new same takes upto =
        all_answered true (λ is. lossy refl) unsent old new same takes upto
    unsent_answered false lossy unsent whole old new same takes upto =
        subst (λ (l : List CarrierStep). Answered true l) (sym (whole refl)) (none_answered true)
