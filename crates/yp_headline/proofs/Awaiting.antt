-- Whom those hosts left what to be told that served datagrams, and the one beside them: the callers of transfers that
-- datagrams took.
use Rattle.std.proofs.Common.{◌≡◌, ℕ, Bool, List, [], ◌∷◌, ◌++◌, length, map, fold, Option, None, Result, Ok, Err, refl, sym, ap, ◌∙◌, subst, ⊎_elim}
use Rattle.std.specs.Prelude.{option_to_list}
use Rattle.std.specs.List.{AllByRecursion}
use Rattle.std.proofs.lemmas.List.{append-nil}
use Rattle.yp_io.specs.declared.stream.Failed.{Failed}
use Rattle.yp_io.specs.declared.stream.Peer.{Peer}
use Rattle.yp_io.specs.Inboxes.{InboxEvent}
use Rattle.yp_board.specs.Catalogues.{Catalogue}
use Rattle.yp_board.specs.Logs.{Log}
use Rattle.yp_board.specs.Views.{Seen, IsFront}
use Rattle.yp_transfer.specs.HostTable.{HostList}
use Rattle.yp_answer.specs.declared.procedure.Path.TheVariants.{Datagram as Mail}
use Rattle.yp_answer.specs.session.Hosts.{Conduct, CarriesOut}
use Rattle.yp_rpc.specs.Turns.{InboxTells}
use Rattle.yp_rpc.specs.declared.turns.Ended.{Ended}
use Rattle.yp_rpc.specs.declared.turns.Ended.TheVariants.{Done, Spent}
use Rattle.yp_worker.specs.datagrams.Mailing.{Awaited, Deferred, CarriesAll, carried_where}
use Rattle.yp_worker.specs.datagrams.Serving.{MailTurn, Dropped, Rested, Answered, Forwarded, taken_for, DoesTurn, DoesTurns, EndsTurns}
use Rattle.yp_worker.specs.datagrams.Carrying.{CarrierStep, Carried, Replied, left_for, TakesCarrierSteps}
use Rattle.yp_host.specs.declared.workers.call_backs.CallBack.{CallBack}
use Rattle.yp_host.specs.declared.workers.charges.Counted.{Counted}
use Rattle.yp_host.specs.workers.Charges.{counted_of, counted_plus, nothing_counted}
use Rattle.yp_host.specs.workers.Statuses.{HasStatus}
use Rattle.yp_host.specs.workers.Workers.{WorkerState, TellsOf}
use Rattle.yp_server.specs.Serving.{MailService, mail_service}
use Rattle.yp_server.specs.Counting.{count_told, CountsDatagrams, EachCounts, CountsBeside, CountsInboxes, mail_tells}
use Rattle.yp_headline.specs.World.{World}
use Rattle.yp_headline.specs.Publishing.{IsAmong}
use Rattle.yp_headline.proofs.Steps.{front_then, known, catalogue_of}
use Rattle.yp_headline.proofs.Late.{transfers_of, transfers_weigh, step_on, steps_on}
use Rattle.yp_headline.proofs.Mail.{IsOfMails, took_over, taken_by, each_left, where_carried, all_front, all_back, carries_on, turn_on, turns_on, ends_on, mail_on}
use Rattle.yp_headline.proofs.Weighed.{all_both, all_among, awaited_among}
use Rattle.yp_headline.proofs.Carrying.{IsOfCall, conduct, link_told, one_told, none_told}

-- ---- each of some items

each_among : {A : Type 0} (P : A → Type 0) (items : List A) → ((item : A) → IsAmong items item → P item) → AllByRecursion P items
each_among P [] so = tt
each_among P (one ∷ items) so = (
  so one ([], items, refl),
  each_among P items (λ item is. so item (one ∷ is.0, is.1, ap (λ (l : List _). one ∷ l) is.2)),
)

-- ---- what the hosts left

module _ {V : Type 0} (seen : V → Seen) (stepped : V → V → Type 0) (text : List ℕ → Option (List ℕ)) (hosts : HostList)
    (world : World) (begun log : Log) where
  abbrev its : Conduct (WorkerState V)
  its = conduct seen stepped text hosts

  -- how they serve inboxes of so many turns
  abbrev service : ℕ → MailService (WorkerState V) Counted
  service turns = mail_service its count_told world.catalogue begun log turns

  abbrev Q : Awaited → Type 0
  Q one = IsOfMails world.catalogue begun log world.datagrams one

  abbrev P : CallBack → Type 0
  P call_back = IsOfCall world hosts begun log call_back

  -- a transfer that a datagram took
  mail_so : (one : Awaited) (old new : WorkerState V) → Q one → catalogue_of its old ≡ world.catalogue
      → IsFront begun (known its old) → (carries : CarriesOut its one.0 one.1 old new) → IsFront (known its new) log
      → P carries.carried.call_back
  mail_so one old new of same begins carries upto =
      let was = of.2 in
      record {
        path = Mail;
        one = record { caller = was.mail.peer; call = was.mail.came; reply = None };
        came = (of.0, of.1, was.mail, was.among, refl, refl);
        front = was.front;
        begins = was.begins;
        ends = was.ends;
        reply = was.bytes;
        taken = one.0;
        takes = was.takes;
        before = known its old;
        after = known its new;
        known = begins;
        entered = upto;
        tells = subst (λ (p : Peer). TellsOf world.catalogue.own one.0 p carries.carried.call_back (known its old) (known its new))
            (sym was.caller)
            (subst (λ (c : Catalogue). TellsOf c.own one.0 one.1 carries.carried.call_back (known its old) (known its new))
            same carries.carried.tells);
        status = subst (λ (c : Catalogue). HasStatus c hosts one.0 carries.carried.call_back.stat (known its old) (known its new))
            same carries.carried.status;
      }

  carries_tell : (transfers : List Awaited) (old new : WorkerState V) → catalogue_of its old ≡ world.catalogue
      → IsFront begun (known its old) → CarriesAll its transfers old new → IsFront (known its new) log
      → AllByRecursion Q transfers → AllByRecursion P old.told → AllByRecursion P new.told
  carries_tell [] old new same begins carries upto of told = none_told seen stepped text hosts P old new (ap (λ (h : WorkerState V). h.told) carries) told
  carries_tell (one ∷ more) old new same begins carries upto of told =
      let next = carries.0 in
      let on = carries_on its counted_of more next new carries.2 in
      carries_tell more next new (carries.1.catalogue ∙ same)
      (front_then begun (known its old) (known its next) begins carries.1.grown) carries.2 upto of.1
      (one_told seen stepped text hosts P one.0 one.1 old next carries.1
      (mail_so one old next of.0 same begins carries.1 (front_then (known its next) (known its new) log on.grown upto)) told)

  turn_tells : (one : MailTurn) (more : List MailTurn) (old next : WorkerState V) → catalogue_of its old ≡ world.catalogue
      → IsFront begun (known its old) → DoesTurn its counted_of one old next → IsFront (known its next) log
      → AllByRecursion Q (took_over (one ∷ more)) → AllByRecursion P old.told → AllByRecursion P next.told
  turn_tells (Dropped from bytes) more old next same begins does upto of told =
      none_told seen stepped text hosts P old next (ap (λ (h : WorkerState V). h.told) does.1) told
  turn_tells Rested more old next same begins does upto of told =
      none_told seen stepped text hosts P old next (ap (λ (c : Counted). c.told) does.kept) told
  turn_tells (Answered from turn is_carried) more old next same begins does upto of told =
      let did = does.1 in
      let on = mail_on its counted_of from turn old did.mid did.answers in
      carries_tell (carried_where is_carried (taken_for from turn)) did.mid next (on.catalogue ∙ same)
      (front_then begun (known its old) (known its did.mid) begins on.grown) did.carries upto
      (where_carried Q is_carried (taken_for from turn) (all_front Q (option_to_list (taken_for from turn)) (took_over more) of))
      (none_told seen stepped text hosts P old did.mid
      (link_told seen stepped text hosts Mail from turn old did.mid did.answers.unflushed did.answers.link) told)
  turn_tells (Forwarded from message left) more old next same begins does upto of told =
      none_told seen stepped text hosts P old next (ap (λ (h : WorkerState V). h.told) does.1.same) told

  rest_of : (one : MailTurn) (more : List MailTurn) → AllByRecursion Q (took_over (one ∷ more)) → AllByRecursion Q (took_over more)
  rest_of (Dropped from bytes) more of = of
  rest_of Rested more of = of
  rest_of (Answered from turn is_carried) more of = all_back Q (option_to_list (taken_for from turn)) (took_over more) of
  rest_of (Forwarded from message left) more of = of

  turns_tell : (served : List MailTurn) (old last : WorkerState V) → catalogue_of its old ≡ world.catalogue
      → IsFront begun (known its old) → DoesTurns its counted_of served old last → IsFront (known its last) log
      → AllByRecursion Q (took_over served) → AllByRecursion P old.told → AllByRecursion P last.told
  turns_tell [] old last same begins does upto of told =
      none_told seen stepped text hosts P old last (ap (λ (h : WorkerState V). h.told) does) told
  turns_tell (one ∷ more) old last same begins does upto of told =
      let next = does.0 in
      let on = turn_on its counted_of one old next does.1 in
      let onward = turns_on its counted_of more next last does.2 in
      turns_tell more next last (on.catalogue ∙ same) (front_then begun (known its old) (known its next) begins on.grown) does.2
      upto (rest_of one more of)
      (turn_tells one more old next same begins does.1 (front_then (known its next) (known its last) log onward.grown upto) of told)

  ends_tell : (most count : ℕ) (end : Result Ended Failed) (events : List InboxEvent) (old new : WorkerState V)
      → EndsTurns its counted_of most count end events old new → AllByRecursion P old.told → AllByRecursion P new.told
  ends_tell most count (Ok Spent) events old new ends told =
      none_told seen stepped text hosts P old new (ap (λ (h : WorkerState V). h.told) ends.2) told
  ends_tell most count (Ok Done) events old new ends told = absurd ends
  ends_tell most count (Err why) events old new ends told = ⊎_elim
      (λ none. none_told seen stepped text hosts P old new (ap (λ (h : WorkerState V). h.told) none.1) told)
      (λ lost. none_told seen stepped text hosts P old new
      (link_told seen stepped text hosts Mail lost.from lost.turn old new lost.answers.unflushed lost.answers.link) told)
      ends.1

  -- ---- one inbox, and the host beside them

  nothing_told : (host : WorkerState V) → counted_of host ≡ nothing_counted → AllByRecursion P host.told
  nothing_told host none = subst (λ (l : List CallBack). AllByRecursion P l) (sym (ap (λ (c : Counted). c.told) none)) tt

  inbox_tells : (turns : ℕ) (fault : Bool) (before after : InboxTells) (left : List Deferred) (count : Counted)
      → (counts : CountsDatagrams (service turns) fault before after left count)
      → AllByRecursion Q (took_over counts.served.serves.serves.served) → AllByRecursion P count.told
  inbox_tells turns fault before after left count counts of =
      let serves = counts.served in
      let posts = serves.serves.serves in
      let ended = serves.ended.host in
      let first = carried_where posts.first None in
      let first_on = carries_on its counted_of first serves.old posts.ready posts.carries in
      let turns_go = turns_on its counted_of posts.served posts.ready posts.last posts.does in
      let ends_go = ends_on its counted_of turns (length posts.served) serves.end posts.rest posts.last ended posts.ends in
      let begins : IsFront begun (known its serves.old) =
      subst (λ (l : Log). IsFront l (known its serves.old)) serves.start.known ([], sym (append-nil (known its serves.old))) in
      let to_last = front_then (known its posts.last) (known its ended) log ends_go.grown serves.shown in
      let to_ready = front_then (known its posts.ready) (known its posts.last) log turns_go.grown to_last in
      let begins_ready = front_then begun (known its serves.old) (known its posts.ready) begins first_on.grown in
      let at_start = nothing_told serves.old counts.from_none in
      let at_ready = carries_tell first serves.old posts.ready serves.start.catalogue_is begins posts.carries to_ready
      (where_carried Q posts.first None tt) at_start in
      let at_last = turns_tell posts.served posts.ready posts.last (first_on.catalogue ∙ serves.start.catalogue_is) begins_ready
      posts.does to_last of at_ready in
      let at_end = ends_tell turns (length posts.served) serves.end posts.rest posts.last ended posts.ends at_last in
      subst (λ (l : List CallBack). AllByRecursion P l) (ap (λ (c : Counted). c.told) counts.counted) at_end

  -- the steps of the host beside them
  carrier_tells : (steps : List CarrierStep) (old new : WorkerState V) → catalogue_of its old ≡ world.catalogue
      → IsFront begun (known its old) → TakesCarrierSteps its counted_of steps old new → IsFront (known its new) log
      → AllByRecursion Q (transfers_of (map left_for steps)) → AllByRecursion P old.told → AllByRecursion P new.told
  carrier_tells [] old new same begins takes upto of told =
      none_told seen stepped text hosts P old new (ap (λ (h : WorkerState V). h.told) takes) told
  carrier_tells (Carried one ∷ steps) old new same begins takes upto of told =
      let next = takes.0 in
      let on = step_on its counted_of (Carried one) old next takes.1 in
      let onward = steps_on its counted_of steps next new takes.2 in
      carrier_tells steps next new (on.catalogue ∙ same) (front_then begun (known its old) (known its next) begins on.grown)
      takes.2 upto of.1
      (one_told seen stepped text hosts P one.0 one.1 old next takes.1
      (mail_so one old next of.0 same begins takes.1 (front_then (known its next) (known its new) log onward.grown upto)) told)
  carrier_tells (Replied peer turn left ∷ steps) old new same begins takes upto of told =
      let next = takes.0 in
      let answers = takes.1 in
      let on = step_on its counted_of (Replied peer turn left) old next answers in
      carrier_tells steps next new (on.catalogue ∙ same) (front_then begun (known its old) (known its next) begins on.grown)
      takes.2 upto of
      (none_told seen stepped text hosts P answers.mid next
      (link_told seen stepped text hosts Mail peer turn answers.mid next answers.answers.unflushed answers.answers.link)
      (none_told seen stepped text hosts P old answers.mid (ap (λ (c : Counted). c.told) answers.told.kept) told))

  beside_tells : (turns : ℕ) (fault : Bool) (before after : InboxTells) (took : List Deferred) (count : Counted)
      → CountsBeside (service turns) fault before after took count
      → AllByRecursion Q (transfers_of took) → AllByRecursion P count.told
  beside_tells turns fault before after took count counts of =
      let carries = counts.carries in
      let begins : IsFront begun (known its carries.old) =
      subst (λ (l : Log). IsFront l (known its carries.old)) carries.start.known ([], sym (append-nil (known its carries.old))) in
      subst (λ (l : List CallBack). AllByRecursion P l) (ap (λ (c : Counted). c.told) counts.counted)
      (carrier_tells (carries.steps ++ carries.unsent) carries.old carries.new carries.start.catalogue_is begins
      carries.delivers.takes carries.shown
      (subst (λ (l : List Deferred). AllByRecursion Q (transfers_of l)) carries.took_is of)
      (nothing_told carries.old counts.from_none))

  -- ---- all of them

  module _ (loses : Bool) where
    abbrev taken : (turns : ℕ) (fault : Bool) (before after : List InboxTells) (left : List Deferred) (counts : List Counted)
        → EachCounts (service turns) fault before after left counts → List Awaited
    taken turns fault before after left counts each =
        taken_by world.catalogue begun log loses its count_told turns fault before after left counts each

    each_tells : (turns : ℕ) (fault : Bool) (before after : List InboxTells) (left : List Deferred) (counts : List Counted)
        → (each : EachCounts (service turns) fault before after left counts)
        → AllByRecursion Q (taken turns fault before after left counts each)
        → AllByRecursion (λ (c : Counted). AllByRecursion P c.told) counts
    each_tells turns fault [] [] left [] each of = tt
    each_tells turns fault [] [] left (count ∷ counts) each of = absurd each
    each_tells turns fault [] (new ∷ after) left counts each of = absurd each
    each_tells turns fault (old ∷ before) [] left counts each of = absurd each
    each_tells turns fault (old ∷ before) (new ∷ after) left [] each of = absurd each
    each_tells turns fault (old ∷ before) (new ∷ after) left (count ∷ counts)
        (failed, others, faults, left_here, left_there, left_is, one, rest) of =
        let here = took_over one.served.serves.serves.served in
        let there = taken turns others before after left_there counts rest in (
          inbox_tells turns failed old new left_here count one (all_front Q here there of),
          each_tells turns others before after left_there counts rest (all_back Q here there of),
        )

  sums_tell : (sum : Counted) (counts : List Counted) → AllByRecursion P sum.told
      → AllByRecursion (λ (c : Counted). AllByRecursion P c.told) counts → AllByRecursion P (fold counted_plus sum counts).told
  sums_tell sum [] told all = told
  sums_tell sum (count ∷ counts) told all =
      sums_tell (counted_plus sum count) counts (all_both P sum.told count.told told all.0) all.1

  -- what was left by those that served datagrams, and by one beside them, on top of others
  pub inboxes_tell : (loses : Bool) (turns : ℕ) (fault : Bool) (before after : List InboxTells) (out out' : InboxTells)
      (counts : List Counted) (of_carrier : Counted)
      → (counted : CountsInboxes (service turns) fault (mail_tells before out) (mail_tells after out') counts of_carrier)
      → AllByRecursion Q (taken_by world.catalogue begun log loses its count_told turns counted.failed before after counted.left
      counts counted.each)
      → (sum : Counted) → AllByRecursion P sum.told
      → AllByRecursion P (counted_plus (fold counted_plus sum counts) of_carrier).told
  inboxes_tell loses turns fault before after out out' counts of_carrier counted of sum told =
      let left = transfers_of counted.left in
      let took = transfers_of counted.took in
      let all_left : AllByRecursion Q left = each_left world.catalogue begun log loses its count_told Q turns counted.failed before
      after counted.left counts counted.each of in
      let all_took : AllByRecursion Q took = each_among Q took (λ one is. all_among Q left one all_left
      (awaited_among took left (λ weight. sym (transfers_weigh counted.left counted.took counted.all weight)) one is)) in
      let both = fold counted_plus sum counts in
      all_both P both.told of_carrier.told
      (sums_tell sum counts told
      (each_tells loses turns counted.failed before after counted.left counts counted.each of))
      (beside_tells turns counted.lost out out' counted.took of_carrier counted.carrier all_took)
