-- The datagrams that came to an inbox are answered in turn, but for those that were left.
use Rattle.std.proofs.Common.{◌≡◌, ◌≤◌, ℕ, Bool, true, false, cond, ◌⊎◌, inl, inr, List, [], ◌∷◌, ◌++◌, length, map, Option, Some, None, Result, Ok, Err, refl, sym, ap, ◌∙◌, subst, arith, ⊎_elim, append_assoc}
use Rattle.std.specs.Prelude.{◌||◌, flat_map, is_err, nat_lt, option_map, option_to_list}
use Rattle.std.specs.List.{AllByRecursion, AllZip}
use Rattle.std.proofs.lemmas.List.{append_cancel_left, append-nil, map-append}
use Rattle.std.proofs.lemmas.Grind.{flat_map-append}
use Rattle.std.proofs.lemmas.Bool.{and_parts}
use Rattle.std.proofs.lemmas.Bool.Decides.{nat_tests}
use Rattle.yp_io.specs.declared.stream.Failed.{Failed}
use Rattle.yp_io.specs.declared.stream.Peer.{Peer}
use Rattle.yp_io.specs.Peers.{own_host}
use Rattle.yp_io.specs.Inboxes.{InboxEvent, Arrived}
use Rattle.yp_board.specs.Between.{Between}
use Rattle.yp_board.specs.Catalogues.{Catalogue}
use Rattle.yp_board.specs.Logs.{Log}
use Rattle.yp_board.specs.Views.{IsFront}
use Rattle.yp_answer.specs.declared.procedure.Path.TheVariants.{Datagram as Mail}
use Rattle.yp_answer.specs.declared.procedure.Procedure.{Procedure}
use Rattle.yp_answer.specs.declared.procedure.Procedure.TheVariants.{Make, MakeNamed}
use Rattle.yp_answer.specs.Served.{maps_on}
use Rattle.yp_answer.specs.Transfer.{Taken}
use Rattle.yp_answer.specs.Reply.{Response, Silence, Takes, exceeds, reply}
use Rattle.yp_answer.specs.session.Hosts.{Conduct, Turn}
use Rattle.yp_answer.specs.session.Makes.{is_make, is_let_to_make, may_make}
use Rattle.yp_rpc.specs.Judging.{judged}
use Rattle.yp_rpc.specs.declared.call.CallHead.{CallHead}
use Rattle.yp_rpc.specs.declared.judging.Judged.{Judged}
use Rattle.yp_rpc.specs.declared.judging.Judged.TheVariants.{Ignored, Refused, Admitted}
use Rattle.yp_rpc.specs.Turns.{InboxTells, GainsAll, datagram_max}
use Rattle.yp_rpc.specs.declared.turns.Ended.{Ended}
use Rattle.yp_rpc.specs.declared.turns.Ended.TheVariants.{Done, Spent}
use Rattle.yp_worker.specs.datagrams.Mailing.{Awaited, Deferred, Holding, AnswersMail, CarriesAll, carried_where, left_where}
use Rattle.yp_worker.specs.datagrams.Serving.{MailTurn, Dropped, Rested, Answered, Forwarded, reply_posts, posts_over, taken_for, left_over, DoesTurn, DoesTurns, LosesAnswer, EndsTurns}
use Rattle.yp_worker.specs.Summing.{Counting}
use Rattle.yp_server.specs.Serving.{MailService, mail_service, ServesDatagrams}
use Rattle.yp_worker.specs.datagrams.Carrying.{CarrierStep, left_for, sent_over}
use Rattle.yp_worker.specs.datagrams.Queues.{weigh, WeighTheSame}
use Rattle.yp_server.specs.Counting.{CountsDatagrams, EachCounts, CountsInboxes, mail_tells}
use Rattle.yp_headline.specs.World.{Datagram}
use Rattle.yp_headline.specs.Answering.{answer, programs}
use Rattle.yp_headline.specs.Publishing.{IsAmong}
use Rattle.yp_headline.specs.Serving.{IsReply, IsMake, AreServed}
use Rattle.yp_headline.specs.inside.Server.{Heard, but_silent, told_of, late_of, MayLoseLast, AreOfInbox, AreLate}
use Rattle.yp_headline.proofs.Runs.{front_self}
use Rattle.yp_headline.proofs.Steps.{known, catalogue_of, GoesOn, stays_on, goes_on_then, linked, linked_on, told_on, front_then}
use Rattle.yp_headline.proofs.Weighed.{same_bytes, all_both, all_so}
use Rattle.yp_headline.proofs.Late.{LeftCall, calls_of, transfers_of, calls_both, transfers_both, short_reply, both_split, LateReply, post_of, Matches, calls_weigh, weigh_map, flat_weighs, match_up, steps_on, steps_apart, all_answered, unsent_answered}

-- ---- a make

-- a call that is let to a make, by its procedure
make_is : (procedure : Procedure) → is_make procedure ≡ true → (procedure ≡ Make) ⊎ (procedure ≡ MakeNamed)
make_is Make is = inl refl
make_is MakeNamed is = inr refl
make_is _ is = absurd cc

let_is : (call : Judged Procedure) → is_let_to_make call ≡ true → (head : CallHead) × (procedure : Procedure)
    × (call ≡ Admitted head procedure) × ((procedure ≡ Make) ⊎ (procedure ≡ MakeNamed))
let_is Ignored is = absurd cc
let_is (Refused xid head) is = absurd cc
let_is (Admitted head procedure) is = (head, procedure, refl, make_is procedure is)

-- a datagram for which a map may be made is a make
is_a_make : (mail : Datagram) → may_make Mail mail.peer mail.came ≡ true → IsMake mail
is_a_make mail makes =
    let parts = and_parts _ _ makes in
    let is = let_is (judged (programs Mail) mail.came) parts.1 in
    (same_bytes mail.peer.addr own_host parts.0, is.0, is.1, is.2, is.3)

-- ---- items in two parts

pub all_front : {A : Type 0} (P : A → Type 0) (some more : List A) → AllByRecursion P (some ++ more) → AllByRecursion P some
all_front P [] more all = tt
all_front P (one ∷ some) more all = (all.0, all_front P some more all.1)

pub all_back : {A : Type 0} (P : A → Type 0) (some more : List A) → AllByRecursion P (some ++ more) → AllByRecursion P more
all_back P [] more all = all
all_back P (one ∷ some) more all = all_back P some more all.1

-- ---- what turns left, and what they took

abbrev forwarded : List MailTurn → List LeftCall
forwarded [] = []
forwarded (Dropped from bytes ∷ more) = forwarded more
forwarded (Rested ∷ more) = forwarded more
forwarded (Answered from turn is_carried ∷ more) = forwarded more
forwarded (Forwarded from message known ∷ more) = record { peer = from; message = message; known = known } ∷ forwarded more

abbrev pub took_over : List MailTurn → List Awaited
took_over [] = []
took_over (Dropped from bytes ∷ more) = took_over more
took_over (Rested ∷ more) = took_over more
took_over (Answered from turn is_carried ∷ more) = option_to_list (taken_for from turn) ++ took_over more
took_over (Forwarded from message known ∷ more) = took_over more

no_calls : (is_carried : Bool) (waiting : Option Awaited) → calls_of (left_where is_carried waiting) ≡ []
no_calls true waiting = refl
no_calls false None = refl
no_calls false (Some one) = refl

left_calls : (served : List MailTurn) → calls_of (left_over served) ≡ forwarded served
left_calls [] = refl
left_calls (Dropped from bytes ∷ more) = left_calls more
left_calls (Rested ∷ more) = left_calls more
left_calls (Answered from turn is_carried ∷ more) =
    calls_both (left_where is_carried (taken_for from turn)) (left_over more)
    ∙ ap (λ (l : List LeftCall). l ++ calls_of (left_over more)) (no_calls is_carried (taken_for from turn)) ∙ left_calls more
left_calls (Forwarded from message known ∷ more) =
    ap (λ (l : List LeftCall). record { peer = from; message = message; known = known } ∷ l) (left_calls more)

where_left : (Q : Awaited → Type 0) (is_carried : Bool) (waiting : Option Awaited) → AllByRecursion Q (option_to_list waiting)
    → AllByRecursion Q (transfers_of (left_where is_carried waiting))
where_left Q true waiting all = tt
where_left Q false None all = tt
where_left Q false (Some one) all = all

pub where_carried : (Q : Awaited → Type 0) (is_carried : Bool) (waiting : Option Awaited)
    → AllByRecursion Q (option_to_list waiting) → AllByRecursion Q (carried_where is_carried waiting)
where_carried Q true waiting all = all
where_carried Q false waiting all = tt

-- what was left of what was taken
left_took : (Q : Awaited → Type 0) (served : List MailTurn) → AllByRecursion Q (took_over served)
    → AllByRecursion Q (transfers_of (left_over served))
left_took Q [] all = tt
left_took Q (Dropped from bytes ∷ more) all = left_took Q more all
left_took Q (Rested ∷ more) all = left_took Q more all
left_took Q (Answered from turn is_carried ∷ more) all =
    let taken = taken_for from turn in
    subst (λ (l : List Awaited). AllByRecursion Q l) (sym (transfers_both (left_where is_carried taken) (left_over more)))
    (all_both Q (transfers_of (left_where is_carried taken)) (transfers_of (left_over more))
    (where_left Q is_carried taken (all_front Q (option_to_list taken) (took_over more) all))
    (left_took Q more (all_back Q (option_to_list taken) (took_over more) all)))
left_took Q (Forwarded from message known ∷ more) all = left_took Q more all

-- none waits at first
none_left : (first : Bool) (more : List Deferred) → left_where first None ++ more ≡ more
none_left true more = refl
none_left false more = refl

-- ---- the datagrams of turns

-- a datagram whose turn this was, and whose reply was lost or not
abbrev mail_of : Bool → Peer → Turn → Datagram
mail_of lost from turn =
    record { peer = from; came = turn.message; sent = cond lost None turn.answer; lost = lost; late = false }

abbrev dropped_mail : Peer → List ℕ → Datagram
dropped_mail from bytes = record { peer = from; came = bytes; sent = None; lost = false; late = false }

heard_reply : (from : Peer) (reply : Option (List ℕ)) (events : List InboxEvent)
    → but_silent (reply_posts from reply ++ events) ≡ reply_posts from reply ++ but_silent events
heard_reply from None events = refl
heard_reply from (Some bytes) events = refl

told_both : (mails others : List Datagram) → flat_map told_of (mails ++ others) ≡ flat_map told_of mails ++ flat_map told_of others
told_both [] others = refl
told_both (mail ∷ mails) others =
    ap (λ (l : List InboxEvent). told_of mail ++ l) (told_both mails others)
    ∙ sym (append_assoc (told_of mail) (flat_map told_of mails) (flat_map told_of others))

late_both : (mails others : List Datagram) → flat_map late_of (mails ++ others) ≡ flat_map late_of mails ++ flat_map late_of others
late_both [] others = refl
late_both (mail ∷ mails) others =
    ap (λ (l : List InboxEvent). late_of mail ++ l) (late_both mails others)
    ∙ sym (append_assoc (late_of mail) (flat_map late_of mails) (flat_map late_of others))

-- a datagram that is too long gets nothing
dropped : (b : Bool) (response : Response) (front next : Log) → b ≡ true → IsReply (cond b Silence response) None front next
dropped true response front next long = refl
dropped false response front next long = absurd cc

short_takes : (b : Bool) (response : Response) (bytes : List ℕ) (taken : Taken) → b ≡ false → response ≡ Takes bytes taken
    → cond b Silence response ≡ Takes bytes taken
short_takes true response bytes taken short is = absurd cc
short_takes false response bytes taken short is = is

-- ---- transfers that datagrams took

-- a transfer was taken by one of these datagrams, on a front of the log
pub record IsOfMail (catalogue : Catalogue) (begun log : Log) (mails : List Datagram) (one : Awaited) : Type 0 where
  pub mail : Datagram
  pub among : IsAmong mails mail
  pub caller : mail.peer ≡ one.1
  pub front : Log
  pub begins : IsFront begun front
  pub ends : IsFront front log
  pub bytes : List ℕ
  pub takes : answer Mail (maps_on catalogue front) mail.peer mail.came ≡ Takes bytes one.0

-- by one of those of some inbox
abbrev pub IsOfMails : Catalogue → (begun log : Log) → List (List Datagram) → Awaited → Type 0
IsOfMails catalogue begun log inboxes one =
    (mails : List Datagram) × IsAmong inboxes mails × IsOfMail catalogue begun log mails one

later_among : {A : Type 0} (first : A) (items : List A) (item : A) → IsAmong items item → IsAmong (first ∷ items) item
later_among first items item is = (first ∷ is.0, is.1, ap (λ (l : List _). first ∷ l) is.2)

later_mail : (catalogue : Catalogue) (begun log : Log) (first : Datagram) (mails : List Datagram) (one : Awaited)
    → IsOfMail catalogue begun log mails one → IsOfMail catalogue begun log (first ∷ mails) one
later_mail catalogue begun log first mails one is = record {
  mail = is.mail;
  among = later_among first mails is.mail is.among;
  caller = is.caller;
  front = is.front;
  begins = is.begins;
  ends = is.ends;
  bytes = is.bytes;
  takes = is.takes;
}

both_same : {X : Type 0} (one other : X) (more others : List X) → one ∷ more ≡ other ∷ others
    → (one ≡ other) × (more ≡ others)
both_same one other more others is = (cc, cc)

gained : (events : List InboxEvent) (old new : Option (List InboxEvent)) (before more : List InboxEvent) → old ≡ Some before
    → new ≡ Some (before ++ more) → GainsAll events old new → more ≡ events
gained events None new before more was is gains = absurd cc
gained events (Some old) None before more was is gains = absurd gains
gained events (Some old) (Some new) before more was is gains =
    let same : old ≡ before = cc in
    let same' : new ≡ before ++ more = cc in
    append_cancel_left before more events (sym same' ∙ gains ∙ ap (λ (l : List InboxEvent). l ++ events) same)

or_true : (b : Bool) → b || true ≡ true
or_true true = refl
or_true false = refl

-- ---- a host goes on

module _ {H T : Type 0} (conduct : Conduct H) (counted : H → T) where
  pub carries_on : (transfers : List Awaited) (old new : H) → CarriesAll conduct transfers old new → GoesOn conduct old new
  carries_on [] old new carries = stays_on conduct old new carries
  carries_on (one ∷ more) old new carries =
      goes_on_then conduct old carries.0 new (record { catalogue = carries.1.catalogue; grown = carries.1.grown })
      (carries_on more carries.0 new carries.2)

  pub mail_on : (from : Peer) (turn : Turn) (old new : H) → AnswersMail conduct from turn old new → GoesOn conduct old new
  mail_on from turn old new answers =
      linked_on conduct Mail from turn old new (linked conduct Mail from turn old new answers.link)

  pub turn_on : (one : MailTurn) (old new : H) → DoesTurn conduct counted one old new → GoesOn conduct old new
  turn_on (Dropped from bytes) old new does = stays_on conduct old new does.1
  turn_on Rested old new does = told_on conduct counted old new does
  turn_on (Answered from turn is_carried) old new does =
      let did = does.1 in
      goes_on_then conduct old did.mid new (mail_on from turn old did.mid did.answers)
      (carries_on (carried_where is_carried (taken_for from turn)) did.mid new did.carries)
  turn_on (Forwarded from message left) old new does = stays_on conduct old new does.1.same

  pub turns_on : (served : List MailTurn) (old new : H) → DoesTurns conduct counted served old new → GoesOn conduct old new
  turns_on [] old new does = stays_on conduct old new does
  turns_on (one ∷ more) old new does =
      goes_on_then conduct old does.0 new (turn_on one old does.0 does.1) (turns_on more does.0 new does.2)

  pub ends_on : (most count : ℕ) (end : Result Ended Failed) (events : List InboxEvent) (old new : H)
      → EndsTurns conduct counted most count end events old new → GoesOn conduct old new
  ends_on most count (Ok Spent) events old new ends = stays_on conduct old new ends.2
  ends_on most count (Ok Done) events old new ends = absurd ends
  ends_on most count (Err why) events old new ends =
      ⊎_elim (λ none. stays_on conduct old new none.1) (λ lost. mail_on lost.from lost.turn old new lost.answers) ends.1

-- ---- the datagrams of an inbox

module _ (catalogue : Catalogue) (begun log : Log) (loses : Bool) where
  abbrev Late : Type 0
  Late = LateReply catalogue log loses

  abbrev pub post : Late → List InboxEvent
  post = post_of catalogue log loses

  abbrev pub Match : LeftCall → Late → Type 0
  Match = Matches catalogue log loses

  -- a call that was left, and was answered so
  abbrev late_mail : Peer → List ℕ → Late → Datagram
  late_mail from message late = record {
    peer = from;
    came = message;
    sent = cond late.lost None late.reply;
    lost = late.lost;
    late = true;
  }

  abbrev mails_of : List MailTurn → List Late → List Datagram
  mails_of [] lates = []
  mails_of (Dropped from bytes ∷ more) lates = dropped_mail from bytes ∷ mails_of more lates
  mails_of (Rested ∷ more) lates = mails_of more lates
  mails_of (Answered from turn is_carried ∷ more) lates = mail_of false from turn ∷ mails_of more lates
  mails_of (Forwarded from message known ∷ more) [] = []
  mails_of (Forwarded from message known ∷ more) (late ∷ lates) = late_mail from message late ∷ mails_of more lates

  -- what is told of them, before more
  told_over : (served : List MailTurn) (lates : List Late) (events : List InboxEvent) → AllZip Match (forwarded served) lates
      → but_silent (posts_over served ++ events) ≡ flat_map told_of (mails_of served lates) ++ but_silent events
  told_over [] lates events each = refl
  told_over (Dropped from bytes ∷ more) lates events each =
      ap (λ (l : List InboxEvent). Arrived from bytes ∷ l) (told_over more lates events each)
  told_over (Rested ∷ more) lates events each = told_over more lates events each
  told_over (Answered from turn is_carried ∷ more) lates events each =
      ap (λ (l : List InboxEvent). Arrived from turn.message ∷ l)
      (ap but_silent (append_assoc (reply_posts from turn.answer) (posts_over more) events)
      ∙ heard_reply from turn.answer (posts_over more ++ events)
      ∙ ap (λ (l : List InboxEvent). reply_posts from turn.answer ++ l) (told_over more lates events each)
      ∙ sym (append_assoc (reply_posts from turn.answer) (flat_map told_of (mails_of more lates)) (but_silent events)))
  told_over (Forwarded from message known ∷ more) [] events each = absurd each
  told_over (Forwarded from message known ∷ more) (late ∷ lates) events each =
      ap (λ (l : List InboxEvent). Arrived from message ∷ l) (told_over more lates events each.1)

  kept_over : (served : List MailTurn) (lates : List Late) (mails : List Datagram) → MayLoseLast loses mails
      → MayLoseLast loses (mails_of served lates ++ mails)
  kept_over [] lates mails kept = kept
  kept_over (Dropped from bytes ∷ more) lates mails kept = (λ lost. absurd cc, kept_over more lates mails kept)
  kept_over (Rested ∷ more) lates mails kept = kept_over more lates mails kept
  kept_over (Answered from turn is_carried ∷ more) lates mails kept = (λ lost. absurd cc, kept_over more lates mails kept)
  kept_over (Forwarded from message known ∷ more) [] mails kept = kept
  kept_over (Forwarded from message known ∷ more) (late ∷ lates) mails kept =
      (λ lost. (inl refl, late.lossy lost), kept_over more lates mails kept)

  -- what was sent late of them
  late_over : (served : List MailTurn) (lates : List Late) → AllZip Match (forwarded served) lates
      → flat_map late_of (mails_of served lates) ≡ flat_map post lates
  late_over [] [] each = refl
  late_over [] (late ∷ lates) each = absurd each
  late_over (Dropped from bytes ∷ more) lates each = late_over more lates each
  late_over (Rested ∷ more) lates each = late_over more lates each
  late_over (Answered from turn is_carried ∷ more) lates each = late_over more lates each
  late_over (Forwarded from message known ∷ more) [] each = absurd each
  late_over (Forwarded from message known ∷ more) (late ∷ lates) each =
      let sent = cond late.lost None late.reply in
      ap (λ (l : List InboxEvent). reply_posts from sent ++ l) (late_over more lates each.1)
      ∙ ap (λ (c : LeftCall). reply_posts c.peer sent ++ flat_map post lates) each.0

  -- ---- answers in turn

  served_upto : (mails : List Datagram) (known : Log) → AreServed catalogue known log mails → IsFront known log
  served_upto [] known served = served
  served_upto (mail ∷ mails) known served = front_then known served.log log served.begins served.goes_on

  later_tail : (late : Bool) (mails : List Datagram) (less known next : Log)
      → (AreServed catalogue known log mails → AreServed catalogue less log mails)
      → AreServed catalogue (cond late known next) log mails → AreServed catalogue (cond late less next) log mails
  later_tail true mails less known next goes served = goes served
  later_tail false mails less known next goes served = served

  -- what is served later is so for one that knew less
  earlier_served : (mails : List Datagram) (less known : Log) → IsFront less known → AreServed catalogue known log mails
      → AreServed catalogue less log mails
  earlier_served [] less known front served = front_then less known log front served
  earlier_served (mail ∷ mails) less known front served =
      let behind = served.holds in
      let gets = behind.holds in
      record {
        log = served.log;
        begins = front_then less known served.log front served.begins;
        goes_on = served.goes_on;
        holds = record {
          log = behind.log;
          begins = behind.begins;
          goes_on = behind.goes_on;
          holds = (
            gets.0,
            gets.1,
            gets.2,
            gets.3,
            later_tail mail.late mails less known behind.log (earlier_served mails less known front) gets.4,
          );
        };
      }

  module _ {H T : Type 0} (conduct : Conduct H) (counting : Counting H T) where
    abbrev counted : H → T
    counted = counting.counted

    -- how hosts serve inboxes of so many turns
    abbrev service : ℕ → MailService H T
    service turns = mail_service conduct counting catalogue begun log turns

    abbrev Follow : List Datagram → H → Type 0
    Follow mails host = AreServed catalogue (known conduct host) log mails

    -- a datagram that was answered, before others
    before_answered : (lost : Bool) (from : Peer) (turn : Turn) (mails : List Datagram) (old new : H)
        → catalogue_of conduct old ≡ catalogue → length turn.message ≤ datagram_max → AnswersMail conduct from turn old new
        → Follow mails new → Follow (mail_of lost from turn ∷ mails) old
    before_answered lost from turn mails old new same short answers follow =
        let link = linked conduct Mail from turn old new answers.link in
        let is_short : nat_lt datagram_max (length turn.message) ≡ false = grind (arith, nat_tests) in
        let upto = served_upto mails (known conduct new) follow in
        record {
          log = link.front;
          begins = link.begins;
          goes_on = front_then link.front (known conduct new) log link.goes upto;
          holds = record {
            log = known conduct new;
            begins = link.goes;
            goes_on = upto;
            holds = (
              turn.answer,
              short_reply (exceeds Mail (length turn.message)) (reply Mail (maps_on catalogue link.front) from turn.message)
                  turn.answer link.front (known conduct new) is_short
                  (subst (λ (c : Catalogue). IsReply (reply Mail (maps_on c link.front) from turn.message) turn.answer link.front
                  (known conduct new)) same link.replied),
              refl,
              λ late. absurd cc,
              follow,
            );
          };
        }

    -- one that was too long
    before_dropped : (from : Peer) (bytes : List ℕ) (mails : List Datagram) (old : H)
        → nat_lt datagram_max (length bytes) ≡ true → Follow mails old → Follow (dropped_mail from bytes ∷ mails) old
    before_dropped from bytes mails old long follow =
        let upto = served_upto mails (known conduct old) follow in
        record {
          log = known conduct old;
          begins = front_self (known conduct old);
          goes_on = upto;
          holds = record {
            log = known conduct old;
            begins = front_self (known conduct old);
            goes_on = upto;
            holds = (
              None,
              dropped (exceeds Mail (length bytes)) (reply Mail (maps_on catalogue (known conduct old)) from bytes)
                  (known conduct old) (known conduct old) long,
              refl,
              λ late. absurd cc,
              follow,
            );
          };
        }

    -- one that was left, and answered late
    before_left : (from : Peer) (message : List ℕ) (left : Log) (late : Late) (mails : List Datagram) (old : H)
        → may_make Mail from message ≡ true → left ≡ known conduct old
        → (let call : LeftCall = record { peer = from; message = message; known = left } in call) ≡ late.call
        → Follow mails old → Follow (late_mail from message late ∷ mails) old
    before_left from message left late mails old makes known_is match follow =
        let begins : IsFront (known conduct old) late.front =
        subst (λ (l : Log). IsFront l late.front) (sym (ap (λ (c : LeftCall). c.known) match) ∙ known_is) late.begins in
        record {
          log = late.front;
          begins = begins;
          goes_on = front_then late.front late.next log late.goes late.upto;
          holds = record {
            log = late.next;
            begins = late.goes;
            goes_on = late.upto;
            holds = (
              late.reply,
              subst (λ (c : LeftCall). IsReply (answer Mail (maps_on catalogue late.front) c.peer c.message) late.reply late.front
                  late.next) (sym match) late.replied,
              refl,
              λ is. is_a_make (late_mail from message late) makes,
              follow,
            );
          };
        }

    all_turns : (served : List MailTurn) (lates : List Late) (mails : List Datagram) (old last : H)
        → catalogue_of conduct old ≡ catalogue → AllZip Match (forwarded served) lates
        → DoesTurns conduct counted served old last → Follow mails last → Follow (mails_of served lates ++ mails) old
    all_turns [] lates mails old last same each does follow = subst (λ (h : H). Follow mails h) does follow
    all_turns (Dropped from bytes ∷ more) lates mails old last same each does follow =
        let next = does.0 in
        let on = turn_on conduct counted (Dropped from bytes) old next does.1 in
        let rest = all_turns more lates mails next last (on.catalogue ∙ same) each does.2 follow in
        let long = does.1.0 in
        let is_long : nat_lt datagram_max (length bytes) ≡ true = grind (arith, nat_tests) in
        before_dropped from bytes (mails_of more lates ++ mails) old is_long
        (subst (λ (h : H). Follow (mails_of more lates ++ mails) h) does.1.1 rest)
    all_turns (Rested ∷ more) lates mails old last same each does follow =
        let next = does.0 in
        let on = turn_on conduct counted Rested old next does.1 in
        earlier_served (mails_of more lates ++ mails) (known conduct old) (known conduct next) on.grown
        (all_turns more lates mails next last (on.catalogue ∙ same) each does.2 follow)
    all_turns (Answered from turn is_carried ∷ more) lates mails old last same each does follow =
        let next = does.0 in
        let did = does.1.1 in
        let on = turn_on conduct counted (Answered from turn is_carried) old next does.1 in
        let carried = carries_on conduct counted (carried_where is_carried (taken_for from turn)) did.mid next did.carries in
        let rest = all_turns more lates mails next last (on.catalogue ∙ same) each does.2 follow in
        before_answered false from turn (mails_of more lates ++ mails) old did.mid same does.1.0 did.answers
        (earlier_served (mails_of more lates ++ mails) (known conduct did.mid) (known conduct next) carried.grown rest)
    all_turns (Forwarded from message left ∷ more) [] mails old last same each does follow = absurd each
    all_turns (Forwarded from message left ∷ more) (late ∷ lates) mails old last same each does follow =
        let next = does.0 in
        let leaves = does.1.1 in
        let on = turn_on conduct counted (Forwarded from message left) old next does.1 in
        let rest = all_turns more lates mails next last (on.catalogue ∙ same) each.1 does.2 follow in
        before_left from message left late (mails_of more lates ++ mails) old leaves.makes leaves.known_is each.0
        (subst (λ (h : H). Follow (mails_of more lates ++ mails) h) leaves.same rest)

    -- what was known when a call was left is a front of the log
    calls_front : (served : List MailTurn) (old last : H) → DoesTurns conduct counted served old last
        → IsFront (known conduct last) log → AllByRecursion (λ call. IsFront call.known log) (forwarded served)
    calls_front [] old last does upto = tt
    calls_front (Dropped from bytes ∷ more) old last does upto = calls_front more does.0 last does.2 upto
    calls_front (Rested ∷ more) old last does upto = calls_front more does.0 last does.2 upto
    calls_front (Answered from turn is_carried ∷ more) old last does upto = calls_front more does.0 last does.2 upto
    calls_front (Forwarded from message left ∷ more) old last does upto =
        let next = does.0 in
        let on = turn_on conduct counted (Forwarded from message left) old next does.1 in
        let onward = turns_on conduct counted more next last does.2 in (
          subst (λ (l : Log). IsFront l log) (sym does.1.1.known_is)
              (front_then (known conduct old) (known conduct next) log on.grown
              (front_then (known conduct next) (known conduct last) log onward.grown upto)),
          calls_front more next last does.2 upto,
        )

    -- ---- what they took

    abbrev OfMail : List Datagram → Awaited → Type 0
    OfMail mails one = IsOfMail catalogue begun log mails one

    -- what one datagram took
    one_took : (from : Peer) (turn : Turn) (mails : List Datagram) (old mid : H) (o : Option Taken) → turn.taken ≡ o
        → length turn.message ≤ datagram_max → catalogue_of conduct old ≡ catalogue → IsFront begun (known conduct old)
        → AnswersMail conduct from turn old mid → IsFront (known conduct mid) log
        → AllByRecursion (OfMail (mail_of false from turn ∷ mails)) (option_to_list (option_map (λ taken. (taken, from)) o))
    one_took from turn mails old mid None took short same begins answers upto = tt
    one_took from turn mails old mid (Some taken) took short same begins answers upto =
        let link = linked conduct Mail from turn old mid answers.link in
        let takes = link.took taken took in
        let is_short : nat_lt datagram_max (length turn.message) ≡ false = grind (arith, nat_tests) in (
          record {
            mail = mail_of false from turn;
            among = ([], mails, refl);
            caller = refl;
            front = link.front;
            begins = front_then begun (known conduct old) link.front begins link.begins;
            ends = front_then link.front (known conduct mid) log link.goes upto;
            bytes = takes.0;
            takes = short_takes (exceeds Mail (length turn.message)) (reply Mail (maps_on catalogue link.front) from turn.message)
                takes.0 taken is_short
                (subst (λ (c : Catalogue). reply Mail (maps_on c link.front) from turn.message ≡ Takes takes.0 taken) same takes.1);
          },
          tt,
        )

    later_took : (first : Datagram) (mails : List Datagram) (taken : List Awaited) → AllByRecursion (OfMail mails) taken
        → AllByRecursion (OfMail (first ∷ mails)) taken
    later_took first mails taken all =
        all_so (OfMail mails) (OfMail (first ∷ mails)) (later_mail catalogue begun log first mails) taken all

    took_turns : (served : List MailTurn) (lates : List Late) (others : List Datagram) (old last : H)
        → catalogue_of conduct old ≡ catalogue → IsFront begun (known conduct old) → AllZip Match (forwarded served) lates
        → DoesTurns conduct counted served old last → IsFront (known conduct last) log
        → AllByRecursion (OfMail (mails_of served lates ++ others)) (took_over served)
    took_turns [] lates others old last same begins each does upto = tt
    took_turns (Dropped from bytes ∷ more) lates others old last same begins each does upto =
        let next = does.0 in
        let on = turn_on conduct counted (Dropped from bytes) old next does.1 in
        later_took (dropped_mail from bytes) (mails_of more lates ++ others) (took_over more)
        (took_turns more lates others next last (on.catalogue ∙ same)
        (front_then begun (known conduct old) (known conduct next) begins on.grown) each does.2 upto)
    took_turns (Rested ∷ more) lates others old last same begins each does upto =
        let next = does.0 in
        let on = turn_on conduct counted Rested old next does.1 in
        took_turns more lates others next last (on.catalogue ∙ same)
        (front_then begun (known conduct old) (known conduct next) begins on.grown) each does.2 upto
    took_turns (Answered from turn is_carried ∷ more) lates others old last same begins each does upto =
        let next = does.0 in
        let on = turn_on conduct counted (Answered from turn is_carried) old next does.1 in
        let mails = mails_of more lates ++ others in
        let did = does.1.1 in
        let first = mail_of false from turn in
        let carried = carries_on conduct counted (carried_where is_carried (taken_for from turn)) did.mid next did.carries in
        let onward = turns_on conduct counted more next last does.2 in
        let reaches = front_then (known conduct did.mid) (known conduct next) log carried.grown
        (front_then (known conduct next) (known conduct last) log onward.grown upto) in
        all_both (OfMail (first ∷ mails)) (option_to_list (taken_for from turn)) (took_over more)
        (one_took from turn mails old did.mid turn.taken refl does.1.0 same begins did.answers reaches)
        (later_took first mails (took_over more)
        (took_turns more lates others next last (on.catalogue ∙ same)
        (front_then begun (known conduct old) (known conduct next) begins on.grown) each does.2 upto))
    took_turns (Forwarded from message left ∷ more) [] others old last same begins each does upto = absurd each
    took_turns (Forwarded from message left ∷ more) (late ∷ lates) others old last same begins each does upto =
        let next = does.0 in
        let on = turn_on conduct counted (Forwarded from message left) old next does.1 in
        later_took (late_mail from message late) (mails_of more lates ++ others) (took_over more)
        (took_turns more lates others next last (on.catalogue ∙ same)
        (front_then begun (known conduct old) (known conduct next) begins on.grown) each.1 does.2 upto)

    -- ---- the end

    -- what is behind the last whole turn: nothing, or a datagram whose reply was lost
    record Last (events : List InboxEvent) (host : H) : Type 0 where
      mails : List Datagram
      are : but_silent events ≡ flat_map told_of mails
      kept : MayLoseLast loses mails
      in_time : flat_map late_of mails ≡ []
      answered : Follow mails host

    nothing_left : (events : List InboxEvent) (old new : H) → events ≡ [] → new ≡ old → IsFront (known conduct new) log
        → Last events old
    nothing_left events old new none same front = record {
      mails = [];
      are = ap but_silent none;
      kept = tt;
      in_time = refl;
      answered = subst (λ (h : H). IsFront (known conduct h) log) same front;
    }

    answer_lost : (events : List InboxEvent) (old new : H) → loses ≡ true → catalogue_of conduct old ≡ catalogue
        → LosesAnswer conduct counted events old new → IsFront (known conduct new) log → Last events old
    answer_lost events old new lossy same lost front = record {
      mails = mail_of true lost.from lost.turn ∷ [];
      are = ap but_silent lost.came;
      kept = (λ is. (inr refl, lossy), tt);
      in_time = refl;
      answered = before_answered true lost.from lost.turn [] old new same lost.short lost.answers front;
    }

    last_of : (most count : ℕ) (end : Result Ended Failed) (events : List InboxEvent) (old new : H)
        → (is_err end ≡ true → loses ≡ true) → catalogue_of conduct old ≡ catalogue
        → EndsTurns conduct counted most count end events old new → IsFront (known conduct new) log → Last events old
    last_of most count (Ok Spent) events old new lossy same ends front = nothing_left events old new ends.1 ends.2 front
    last_of most count (Ok Done) events old new lossy same ends front = absurd ends
    last_of most count (Err why) events old new lossy same ends front = ⊎_elim
        (λ none. nothing_left events old new none.0 none.1 front)
        (λ lost. answer_lost events old new (lossy refl) same lost front) ends.1

    -- ---- an inbox

    -- what more an inbox told are these datagrams, which were answered in turn on fronts of one log that never go back,
    -- but for those that were late
    record MailIsServed (lates : List Late) (taken : List Awaited) (heard : Heard) : Type 0 where
      datagrams : List Datagram
      are : AreOfInbox loses heard datagrams
      served : AreServed catalogue begun log datagrams
      took : AllByRecursion (IsOfMail catalogue begun log datagrams) taken
      late : flat_map late_of datagrams ≡ flat_map post lates

    -- what a host knew once it had made so many turns
    serves_fronts : (turns : ℕ) (fault : Bool) (before after : InboxTells) (left : List Deferred)
        → (serves : ServesDatagrams (service turns) fault before after left)
        → IsFront (known conduct serves.serves.serves.last) log
    serves_fronts turns fault before after left serves =
        let posts = serves.serves.serves in
        let ended = serves.ended.host in
        let onward = ends_on conduct counted turns (length posts.served) serves.end posts.rest posts.last ended posts.ends in
        front_then (known conduct posts.last) (known conduct ended) log onward.grown serves.shown

    -- the calls that were left are those of the turns
    serves_calls : (turns : ℕ) (fault : Bool) (before after : InboxTells) (left : List Deferred)
        → (serves : ServesDatagrams (service turns) fault before after left)
        → left ≡ left_over serves.serves.serves.served
    serves_calls turns fault before after left serves =
        let posts = serves.serves.serves in
        serves.left_is ∙ ap (λ (h : Holding). h.left) posts.holding ∙ none_left posts.first (left_over posts.served)

    -- the datagrams of one inbox
    mail_served : (turns : ℕ) (fault : Bool) (before after : InboxTells) (left : List Deferred)
        → (fault ≡ true → loses ≡ true)
        → (serves : ServesDatagrams (service turns) fault before after left)
        → (lates : List Late) → AllZip Match (calls_of left) lates
        → (heard : Heard) → before.past ≡ Some heard.before → after.past ≡ Some (heard.before ++ heard.more)
        → MailIsServed lates (took_over serves.serves.serves.served) heard
    mail_served turns fault before after left lossy serves lates match heard was is =
        let mail = serves.serves in
        let posts = mail.serves in
        let ended = serves.ended.host in
        let first = carries_on conduct counted (carried_where posts.first None) serves.old posts.ready posts.carries in
        let same_ready = first.catalogue ∙ serves.start.catalogue_is in
        let on = turns_on conduct counted posts.served posts.ready posts.last posts.does in
        let each : AllZip Match (forwarded posts.served) lates =
        subst (λ (l : List LeftCall). AllZip Match l lates)
        (ap calls_of (serves_calls turns fault before after left serves) ∙ left_calls posts.served) match in
        let last = last_of turns (length posts.served) serves.end posts.rest posts.last ended
        (λ failed. lossy (serves.fault_is ∙ failed)) (on.catalogue ∙ same_ready) posts.ends serves.shown in
        let mails = mails_of posts.served lates ++ last.mails in
        let follow = earlier_served mails (known conduct serves.old) (known conduct posts.ready) first.grown
        (all_turns posts.served lates last.mails posts.ready posts.last same_ready each posts.does last.answered) in
        record {
          datagrams = mails;
          are = record {
            are = ap but_silent (gained mail.events before.past after.past heard.before heard.more was is mail.sees.past ∙ posts.all)
                ∙ told_over posts.served lates posts.rest each
                ∙ ap (λ (l : List InboxEvent). flat_map told_of (mails_of posts.served lates) ++ l) last.are
                ∙ sym (told_both (mails_of posts.served lates) last.mails);
            kept = kept_over posts.served lates last.mails last.kept;
          };
          served = subst (λ (l : Log). AreServed catalogue l log mails) serves.start.known follow;
          took = took_turns posts.served lates last.mails posts.ready posts.last same_ready
              (subst (λ (l : Log). IsFront l (known conduct posts.ready)) serves.start.known first.grown) each posts.does
              (serves_fronts turns fault before after left serves);
          late = late_both (mails_of posts.served lates) last.mails
              ∙ ap (λ (l : List InboxEvent). flat_map late_of (mails_of posts.served lates) ++ l) last.in_time
              ∙ append-nil (flat_map late_of (mails_of posts.served lates)) ∙ late_over posts.served lates each;
        }

  -- ---- several inboxes

  -- and so what more each inbox told, apart from the others
  pub record InboxesAreServed (lates : List Late) (taken : List Awaited) (inboxes : List Heard) : Type 0 where
    pub datagrams : List (List Datagram)
    pub are : AllZip (AreOfInbox loses) inboxes datagrams
    pub served : AllByRecursion (AreServed catalogue begun log) datagrams
    pub took : AllByRecursion (IsOfMails catalogue begun log datagrams) taken
    pub late : flat_map late_of (flat_map (λ mails. mails) datagrams) ≡ flat_map post lates

  no_lates : (lates : List Late) → AllZip Match [] lates → [] ≡ flat_map post lates
  no_lates [] none = refl
  no_lates (late ∷ lates) none = absurd none

  module _ {H T : Type 0} (conduct : Conduct H) (counting : Counting H T) where
    abbrev Each : (turns : ℕ) → (fault : Bool) → (before after : List InboxTells) → List Deferred → List T → Type 0
    Each turns fault before after left counts = EachCounts (service conduct counting turns) fault before after left counts

    -- what all inboxes took
    abbrev pub taken_by : (turns : ℕ) (fault : Bool) (before after : List InboxTells) (left : List Deferred) (counts : List T)
        → Each turns fault before after left counts → List Awaited
    taken_by turns fault [] [] left [] each = []
    taken_by turns fault [] [] left (count ∷ counts) each = absurd each
    taken_by turns fault [] (new ∷ after) left counts each = absurd each
    taken_by turns fault (old ∷ before) [] left counts each = absurd each
    taken_by turns fault (old ∷ before) (new ∷ after) left [] each = absurd each
    taken_by turns fault (old ∷ before) (new ∷ after) left (count ∷ counts)
        (failed, others, faults, left_here, left_there, left_is, one, rest) =
        took_over one.served.serves.serves.served ++ taken_by turns others before after left_there counts rest

    -- what was known when calls were left are fronts of the log
    pub each_fronts : (turns : ℕ) (fault : Bool) (before after : List InboxTells) (left : List Deferred) (counts : List T)
        → Each turns fault before after left counts → AllByRecursion (λ call. IsFront call.known log) (calls_of left)
    each_fronts turns fault [] [] left [] each =
        subst (λ (l : List Deferred). AllByRecursion (λ call. IsFront call.known log) (calls_of l)) (sym each.1) tt
    each_fronts turns fault [] [] left (count ∷ counts) each = absurd each
    each_fronts turns fault [] (new ∷ after) left counts each = absurd each
    each_fronts turns fault (old ∷ before) [] left counts each = absurd each
    each_fronts turns fault (old ∷ before) (new ∷ after) left [] each = absurd each
    each_fronts turns fault (old ∷ before) (new ∷ after) left (count ∷ counts)
        (failed, others, faults, left_here, left_there, left_is, one, rest) =
        let Front : LeftCall → Type 0 = λ call. IsFront call.known log in
        let serves = one.served in
        let posts = serves.serves.serves in
        let here = calls_front conduct counting posts.served posts.ready posts.last posts.does
        (serves_fronts conduct counting turns failed old new left_here serves) in
        let calls : calls_of left_here ≡ forwarded posts.served =
        ap calls_of (serves_calls conduct counting turns failed old new left_here serves) ∙ left_calls posts.served in
        subst (λ (l : List LeftCall). AllByRecursion Front l) (sym (ap calls_of left_is ∙ calls_both left_here left_there))
        (all_both Front (calls_of left_here) (calls_of left_there)
        (subst (λ (l : List LeftCall). AllByRecursion Front l) (sym calls) here)
        (each_fronts turns others before after left_there counts rest))

    -- the transfers that were left were taken
    pub each_left : (Q : Awaited → Type 0) (turns : ℕ) (fault : Bool) (before after : List InboxTells) (left : List Deferred)
        (counts : List T) → (each : Each turns fault before after left counts)
        → AllByRecursion Q (taken_by turns fault before after left counts each) → AllByRecursion Q (transfers_of left)
    each_left Q turns fault [] [] left [] each all =
        subst (λ (l : List Deferred). AllByRecursion Q (transfers_of l)) (sym each.1) tt
    each_left Q turns fault [] [] left (count ∷ counts) each all = absurd each
    each_left Q turns fault [] (new ∷ after) left counts each all = absurd each
    each_left Q turns fault (old ∷ before) [] left counts each all = absurd each
    each_left Q turns fault (old ∷ before) (new ∷ after) left [] each all = absurd each
    each_left Q turns fault (old ∷ before) (new ∷ after) left (count ∷ counts)
        (failed, others, faults, left_here, left_there, left_is, one, rest) all =
        let serves = one.served in
        let served = serves.serves.serves.served in
        let there = taken_by turns others before after left_there counts rest in
        subst (λ (l : List Awaited). AllByRecursion Q l) (sym (ap transfers_of left_is ∙ transfers_both left_here left_there))
        (all_both Q (transfers_of left_here) (transfers_of left_there)
        (subst (λ (l : List Deferred). AllByRecursion Q (transfers_of l))
        (sym (serves_calls conduct counting turns failed old new left_here serves))
        (left_took Q served (all_front Q (took_over served) there all)))
        (each_left Q turns others before after left_there counts rest (all_back Q (took_over served) there all)))

    pub each_served : (turns : ℕ) (fault : Bool) (before after : List InboxTells) (left : List Deferred) (counts : List T)
        → (fault ≡ true → loses ≡ true) → (each : Each turns fault before after left counts)
        → (lates : List Late) → AllZip Match (calls_of left) lates
        → (inboxes : List Heard) → map (λ box. box.past) before ≡ map (λ one. Some one.before) inboxes
        → map (λ box. box.past) after ≡ map (λ one. Some (one.before ++ one.more)) inboxes
        → InboxesAreServed lates (taken_by turns fault before after left counts each) inboxes
    each_served turns fault [] [] left [] lossy each lates match [] was is =
        let none : AllZip Match [] lates =
        subst (λ (l : List Deferred). AllZip Match (calls_of l) lates) each.1 match in
        record {
          datagrams = [];
          are = tt;
          served = tt;
          took = tt;
          late = no_lates lates none;
        }
    each_served turns fault [] [] left [] lossy each lates match (heard ∷ inboxes) was is = absurd cc
    each_served turns fault [] [] left (count ∷ counts) lossy each lates match inboxes was is = absurd each
    each_served turns fault [] (new ∷ after) left counts lossy each lates match inboxes was is = absurd each
    each_served turns fault (old ∷ before) [] left counts lossy each lates match inboxes was is = absurd each
    each_served turns fault (old ∷ before) (new ∷ after) left [] lossy each lates match inboxes was is = absurd each
    each_served turns fault (old ∷ before) (new ∷ after) left (count ∷ counts) lossy each lates match [] was is = absurd cc
    each_served turns fault (old ∷ before) (new ∷ after) left (count ∷ counts) lossy
        (failed, others, faults, left_here, left_there, left_is, one, rest) lates match (heard ∷ inboxes) was is =
        let first = both_same old.past (Some heard.before) (map (λ box. box.past) before) (map (λ one. Some one.before) inboxes) was in
        let last = both_same new.past (Some (heard.before ++ heard.more)) (map (λ box. box.past) after)
        (map (λ one. Some (one.before ++ one.more)) inboxes) is in
        let apart = both_split Match (calls_of left_here) (calls_of left_there) lates
        (subst (λ (l : List LeftCall). AllZip Match l lates) (ap calls_of left_is ∙ calls_both left_here left_there) match) in
        let here = mail_served conduct counting turns failed old new left_here
        (λ fails. lossy (faults ∙ ap (λ (b : Bool). b || others) fails)) one.served apart.0 apart.3 heard first.0 last.0 in
        let there = each_served turns others before after left_there counts
        (λ fails. lossy (faults ∙ ap (λ (b : Bool). failed || b) fails ∙ or_true failed)) rest apart.1 apart.4 inboxes
        first.1 last.1 in
        let all = here.datagrams ∷ there.datagrams in
        let took_here = took_over one.served.serves.serves.served in
        let took_there = taken_by turns others before after left_there counts rest in
        record {
          datagrams = all;
          are = (here.are, there.are);
          served = (here.served, there.served);
          took = all_both (IsOfMails catalogue begun log all) took_here took_there
              (all_so (IsOfMail catalogue begun log here.datagrams) (IsOfMails catalogue begun log all)
              (λ one is. (here.datagrams, ([], there.datagrams, refl), is)) took_here here.took)
              (all_so (IsOfMails catalogue begun log there.datagrams) (IsOfMails catalogue begun log all)
              (λ one is. (is.0, later_among here.datagrams there.datagrams is.0 is.1, is.2)) took_there there.took);
          late = late_both here.datagrams (flat_map (λ mails. mails) there.datagrams)
              ∙ ap (λ (l : List InboxEvent). l ++ flat_map late_of (flat_map (λ mails. mails) there.datagrams)) here.late
              ∙ ap (λ (l : List InboxEvent). flat_map post apart.0 ++ l) there.late
              ∙ sym (flat_map-append post apart.0 apart.1)
              ∙ sym (ap (λ (l : List Late). flat_map post l) apart.2);
        }

    -- what more the inboxes told, and the one from which is replied late
    pub record MailsAreServed (taken : List Awaited) (inboxes : List Heard) (out : Heard) : Type 0 where
      pub datagrams : List (List Datagram)
      pub are : AllZip (AreOfInbox loses) inboxes datagrams
      pub served : AllByRecursion (AreServed catalogue begun log) datagrams
      pub took : AllByRecursion (IsOfMails catalogue begun log datagrams) taken
      pub late : AreLate out datagrams

    pub boxes_served : (turns : ℕ) (fault : Bool) (before after : List InboxTells) (out out' : InboxTells) (counts : List T)
        (of_carrier : T) → (fault ≡ true → loses ≡ true)
        → (counted : CountsInboxes (service conduct counting turns) fault (mail_tells before out) (mail_tells after out') counts of_carrier)
        → (inboxes : List Heard) → map (λ box. box.past) before ≡ map (λ one. Some one.before) inboxes
        → map (λ box. box.past) after ≡ map (λ one. Some (one.before ++ one.more)) inboxes
        → (heard : Heard) → out.past ≡ Some heard.before → out'.past ≡ Some (heard.before ++ heard.more)
        → MailsAreServed (taken_by turns counted.failed before after counted.left counts counted.each) inboxes heard
    boxes_served turns fault before after out out' counts of_carrier lossy counted inboxes was is heard out_was out_is =
        let carries = counted.carrier.carries in
        let delivers = carries.delivers in
        let steps = carries.steps in
        let unsent = carries.unsent in
        let old = carries.old in
        let new = carries.new in
        let same = carries.start.catalogue_is in
        let apart = steps_apart conduct counting.counted steps unsent old new delivers.takes in
        let mid = apart.0 in
        let on = steps_on conduct counting.counted steps old mid apart.1 in
        let onward = steps_on conduct counting.counted unsent mid new apart.2 in
        let sent = all_answered catalogue log loses conduct counting.counted false (λ lost. absurd cc) steps old mid same apart.1
        (front_then (known conduct mid) (known conduct new) log onward.grown carries.shown) in
        let lost = unsent_answered catalogue log loses conduct counting.counted counted.lost
        (λ fails. lossy (counted.fault_is ∙ ap (λ (b : Bool). counted.failed || b) fails ∙ or_true counted.failed)) unsent
        delivers.whole mid new (on.catalogue ∙ same) apart.2 carries.shown in
        let those = sent.lates ++ lost.lates in
        let call : Late → LeftCall = λ late. late.call in
        let took_calls : calls_of counted.took ≡ map call those =
        ap calls_of (carries.took_is ∙ map-append left_for steps unsent) ∙ calls_both (map left_for steps) (map left_for unsent)
        ∙ ap (λ (l : List LeftCall). l ++ calls_of (map left_for unsent)) (sym sent.calls)
        ∙ ap (λ (l : List LeftCall). map call sent.lates ++ l) (sym lost.calls) ∙ sym (map-append call sent.lates lost.lates) in
        let matched = match_up catalogue log loses (calls_of counted.left) those
        (each_fronts turns counted.failed before after counted.left counts counted.each)
        (λ weight. calls_weigh counted.left counted.took counted.all weight ∙ ap (λ (l : List LeftCall). weigh weight l) took_calls
        ∙ weigh_map call weight those) in
        let served = each_served turns counted.failed before after counted.left counts
        (λ fails. lossy (counted.fault_is ∙ ap (λ (b : Bool). b || counted.lost) fails)) counted.each matched.lates matched.each
        inboxes was is in
        let out_more : heard.more ≡ flat_map post those =
        gained (sent_over steps) out.past out'.past heard.before heard.more out_was out_is delivers.sends.past
        ∙ sym (append-nil (sent_over steps)) ∙ sym (ap (λ (l : List InboxEvent). l ++ []) sent.sent)
        ∙ sym (ap (λ (l : List InboxEvent). flat_map post sent.lates ++ l) lost.sent)
        ∙ sym (flat_map-append post sent.lates lost.lates) in
        record {
          datagrams = served.datagrams;
          are = served.are;
          served = served.served;
          took = served.took;
          late = λ weight. ap (λ (l : List InboxEvent). weigh weight l) out_more
              ∙ flat_weighs post those matched.lates matched.all weight
              ∙ sym (ap (λ (l : List InboxEvent). weigh weight l) served.late);
        }
