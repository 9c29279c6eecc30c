-- What workers of datagrams knew, in the log of the writer.
use Rattle.std.proofs.Common.{◌≡◌, inl, inr, Bool, true, false, ℕ, ◌<◌, List, [], ◌∷◌, ◌++◌, ◌||◌, length, map, refl, sym, ap, ◌∙◌, subst, append_assoc, arith}
use Rattle.std.specs.List.{AllZip, AllByRecursion, list_any}
use Rattle.std.proofs.lemmas.List.{append-nil}
use Rattle.yp_io.specs.Counts.{HasRisen}
use Rattle.yp_board.specs.Catalogues.{Catalogue}
use Rattle.yp_board.specs.Logs.{Log}
use Rattle.yp_board.specs.Views.{IsFront}
use Rattle.yp_answer.specs.session.Hosts.{Conduct}
use Rattle.yp_rpc.specs.Turns.{InboxTells}
use Rattle.yp_worker.specs.datagrams.Mailing.{QueueName, Deferred, Holding, Mailing}
use Rattle.yp_worker.specs.datagrams.Serving.{ServesMail}
use Rattle.yp_server.specs.declared.datagrams.DatagramWorker.{DatagramWorker}
use Rattle.yp_server.specs.inside.Workers.{AnswersDatagrams}
use Rattle.yp_worker.specs.Summing.{Counting}
use Rattle.yp_server.specs.Serving.{MailService, mail_service, at_rest, EachServes, ServesInboxes, SomeHasRisen}
use Rattle.yp_server.specs.Counting.{CountsDatagrams, EachCounts, CountsInboxes, mail_tells}
use Rattle.yp_server.specs.inside.Counting.{mail_start, BeginsMail}
use Rattle.yp_server.specs.inside.Handing.{left_by, took_by, parts_of}

pub front_then : (a b c : Log) → IsFront a b → IsFront b c → IsFront a c
front_then a b c first second =
    (first.0 ++ second.0, second.1 ∙ ap (λ (l : Log). l ++ second.0) first.1 ∙ append_assoc a first.0 second.0)

pub front_self : (log : Log) → IsFront log log
front_self log = ([], sym (append-nil log))

-- what all knew is a front of a longer log, too
pub fronts_then : {X : Type 0} (known : X → Log) (short long : Log) (all : List X) → IsFront short long
    → AllByRecursion (λ (x : X). IsFront (known x) short) all → AllByRecursion (λ (x : X). IsFront (known x) long) all
fronts_then known short long [] more fronts = tt
fronts_then known short long (x ∷ xs) more fronts =
    (front_then (known x) short long fronts.0 more, fronts_then known short long xs more fronts.1)

pub one_of_both : {P : Type 0} (a b : Bool) → (a || b) ≡ true → (a ≡ true → P) → (b ≡ true → P) → P
one_of_both true b some first second = first refl
one_of_both false b some first second = second some

module _ {H T : Type 0} (service : MailService H T) where
  -- the log of the writer begins with what was shown at the start
  started : (fault : Bool) (before after : InboxTells) (left : List Deferred) (count : T)
      → CountsDatagrams service fault before after left count → IsFront service.starts service.log
  started fault before after left count counts =
      let mail = counts.served in
      let begun = subst (λ (l : Log). IsFront l (service.conduct.seen mail.ended.host).known) mail.start.known mail.serves.grown in
      front_then service.starts (service.conduct.seen mail.ended.host).known service.log begun mail.shown

  each_starts : (fault : Bool) (before after : List InboxTells) (left : List Deferred) (counts : List T) → 0 < length before
      → EachCounts service fault before after left counts → IsFront service.starts service.log
  each_starts fault [] after left counts some all = absurd (omega (arith, some))
  each_starts fault (old ∷ before) [] left counts some all = absurd all
  each_starts fault (old ∷ before) (new ∷ after) left [] some all = absurd all
  each_starts fault (old ∷ before) (new ∷ after) left (count ∷ counts) some
      (failed, others, is, left_here, left_there, left_is, one, rest) =
      started failed old new left_here count one

  pub starts_in : (fault : Bool) (before after : List InboxTells) (out out' : InboxTells) (counts : List T) (of_carrier : T)
      → 0 < length before → CountsInboxes service fault (mail_tells before out) (mail_tells after out') counts of_carrier
      → IsFront service.starts service.log
  starts_in fault before after out out' counts of_carrier some all =
      each_starts all.failed before after all.left counts some all.each

  -- what was served, but for what was counted
  each_served : (fault : Bool) (before after : List InboxTells) (left : List Deferred) (counts : List T)
      → EachCounts service fault before after left counts
      → EachServes service fault before after left
  each_served fault [] [] left [] all = all
  each_served fault [] [] left (count ∷ counts) all = absurd all
  each_served fault [] (new ∷ after) left counts all = absurd all
  each_served fault (old ∷ before) [] left counts all = absurd all
  each_served fault (old ∷ before) (new ∷ after) left [] all = absurd all
  each_served fault (old ∷ before) (new ∷ after) left (count ∷ counts)
      (failed, others, is, left_here, left_there, left_is, one, rest) = (
        failed,
        others,
        is,
        left_here,
        left_there,
        left_is,
        one.served,
        each_served others before after left_there counts rest,
      )

  pub served_of : (fault : Bool) (before after : List InboxTells) (out out' : InboxTells) (counts : List T) (of_carrier : T)
      → CountsInboxes service fault (mail_tells before out) (mail_tells after out') counts of_carrier
      → ServesInboxes service fault before after out out'
  served_of fault before after out out' counts of_carrier all = record {
    failed = all.failed;
    lost = all.lost;
    fault_is = all.fault_is;
    left = all.left;
    took = all.took;
    each = each_served all.failed before after all.left counts all.each;
    carrier = all.carrier.carries;
    all = all.all;
  }

-- what a worker of datagrams made of its turns, from a host that knew the start
module _ {I J H F R T : Type 0} (conduct : Conduct H) (counting : Counting H T) (box : I → InboxTells) (faults : I → ℕ)
    (catalogue : Catalogue) (starts : Log) (queue : QueueName) (turns : ℕ) where
  mailed : (log : Log) (inbox : I) (first last : DatagramWorker I J H F R)
      → AnswersDatagrams conduct counting.counted box faults first last
      → BeginsMail conduct counting (mail_start catalogue starts queue turns) inbox first → IsFront (conduct.seen last.server.host).known log
      → CountsDatagrams (mail_service conduct counting catalogue starts log turns) last.fault (box inbox) (box last.inbox)
      last.server.holding.left (counting.counted last.server.host)
  mailed log inbox first last mails begins front =
      let old = begins.host in record {
        served = record {
          queue = queue;
          old = old;
          ended = last.server;
          start = begins.start;
          fresh = begins.fresh;
          end = mails.end;
          fault_is = mails.fault_is;
          serves =
              subst (λ (n : ℕ). ServesMail conduct counting.counted n mails.end (at_rest queue old) last.server (box inbox) (box last.inbox))
              begins.turns_are
              (subst (λ (i : I). ServesMail conduct counting.counted first.turns mails.end (at_rest queue old) last.server (box i) (box last.inbox))
              begins.inbox_is
              (subst (λ (m : Mailing H). ServesMail conduct counting.counted first.turns mails.end m last.server (box first.inbox) (box last.inbox))
              begins.server_is mails.serves));
          left_is = refl;
          shown = front;
        };
        from_none = begins.from_none;
        counted = refl;
      }

  -- the same of all of them
  pub each_mailed : (log : Log) (inboxes : List I) (firsts lasts : List (DatagramWorker I J H F R))
      → AllZip (BeginsMail conduct counting (mail_start catalogue starts queue turns)) inboxes firsts
      → AllZip (AnswersDatagrams conduct counting.counted box faults) firsts lasts
      → AllByRecursion (λ (m : Mailing H). IsFront (conduct.seen m.host).known log) (map (λ (m : DatagramWorker I J H F R). m.server) lasts)
      → EachCounts (mail_service conduct counting catalogue starts log turns) (list_any (λ (m : DatagramWorker I J H F R). m.fault) lasts)
      (map box inboxes) (map box (map (λ (m : DatagramWorker I J H F R). m.inbox) lasts))
      (left_by (map (λ (m : DatagramWorker I J H F R). m.server) lasts))
      (map (λ (m : Mailing H). counting.counted m.host) (map (λ (m : DatagramWorker I J H F R). m.server) lasts))
  each_mailed log [] [] [] begin mails fronts = (refl, refl)
  each_mailed log [] [] (m ∷ ms) begin mails fronts = absurd mails
  each_mailed log [] (n ∷ ns) lasts begin mails fronts = absurd begin
  each_mailed log (i ∷ is) [] lasts begin mails fronts = absurd begin
  each_mailed log (i ∷ is) (n ∷ ns) [] begin mails fronts = absurd mails
  each_mailed log (i ∷ is) (n ∷ ns) (m ∷ ms) begin mails fronts = (
    m.fault,
    list_any (λ (m : DatagramWorker I J H F R). m.fault) ms,
    refl,
    m.server.holding.left,
    left_by (map (λ (m : DatagramWorker I J H F R). m.server) ms),
    refl,
    mailed log i n m mails.0 begin.0 fronts.0,
    each_mailed log is ns ms begin.1 mails.1 fronts.1,
  )

  -- each had one part of the queue, and has it still
  pub queues : (inboxes : List I) (firsts lasts : List (DatagramWorker I J H F R))
      → AllZip (BeginsMail conduct counting (mail_start catalogue starts queue turns)) inboxes firsts
      → AllZip (AnswersDatagrams conduct counting.counted box faults) firsts lasts
      → AllByRecursion (λ (m : DatagramWorker I J H F R). m.server.holding.queue ≡ queue) lasts
  queues [] [] [] begin mails = tt
  queues [] [] (m ∷ ms) begin mails = absurd mails
  queues [] (n ∷ ns) lasts begin mails = absurd begin
  queues (i ∷ is) [] lasts begin mails = absurd begin
  queues (i ∷ is) (n ∷ ns) [] begin mails = absurd mails
  queues (i ∷ is) (n ∷ ns) (m ∷ ms) begin mails = (
    ap (λ (h : Holding). h.queue) mails.0.serves.serves.holding ∙ ap (λ (s : Mailing H). s.holding.queue) begin.0.server_is,
    queues is ns ms begin.1 mails.1,
  )

  pub parts_are : (inboxes : List I) (firsts lasts : List (DatagramWorker I J H F R))
      → AllZip (BeginsMail conduct counting (mail_start catalogue starts queue turns)) inboxes firsts
      → AllZip (AnswersDatagrams conduct counting.counted box faults) firsts lasts
      → parts_of (map (λ (m : DatagramWorker I J H F R). m.server) lasts) ≡ length inboxes
  parts_are [] [] [] begin mails = refl
  parts_are [] [] (m ∷ ms) begin mails = absurd mails
  parts_are [] (n ∷ ns) lasts begin mails = absurd begin
  parts_are (i ∷ is) [] lasts begin mails = absurd begin
  parts_are (i ∷ is) (n ∷ ns) [] begin mails = absurd mails
  parts_are (i ∷ is) (n ∷ ns) (m ∷ ms) begin mails =
      let one : m.server.holding.parts ≡ 1 =
      ap (λ (k : Holding). k.parts) mails.0.serves.serves.holding
      ∙ ap (λ (s : Mailing H). s.holding.parts) begin.0.server_is in
      let more = parts_are is ns ms begin.1 mails.1 in
      omega (arith, one, more)

  -- none has taken anything over from there
  pub took_none : (inboxes : List I) (firsts lasts : List (DatagramWorker I J H F R))
      → AllZip (BeginsMail conduct counting (mail_start catalogue starts queue turns)) inboxes firsts
      → AllZip (AnswersDatagrams conduct counting.counted box faults) firsts lasts
      → took_by (map (λ (m : DatagramWorker I J H F R). m.server) lasts) ≡ []
  took_none [] [] [] begin mails = refl
  took_none [] [] (m ∷ ms) begin mails = absurd mails
  took_none [] (n ∷ ns) lasts begin mails = absurd begin
  took_none (i ∷ is) [] lasts begin mails = absurd begin
  took_none (i ∷ is) (n ∷ ns) [] begin mails = absurd mails
  took_none (i ∷ is) (n ∷ ns) (m ∷ ms) begin mails =
      let none : m.server.holding.took ≡ [] =
      ap (λ (k : Holding). k.took) mails.0.serves.serves.holding
      ∙ ap (λ (l : List Deferred). l ++ []) (ap (λ (s : Mailing H). s.holding.took) begin.0.server_is) in
      ap (λ (l : List Deferred). l ++ took_by (map (λ (m : DatagramWorker I J H F R). m.server) ms)) none
      ∙ took_none is ns ms begin.1 mails.1

  -- where one has failed, the count of its inbox rose
  pub some_fails : (inboxes : List I) (firsts lasts : List (DatagramWorker I J H F R))
      → AllZip (BeginsMail conduct counting (mail_start catalogue starts queue turns)) inboxes firsts
      → AllZip (AnswersDatagrams conduct counting.counted box faults) firsts lasts
      → list_any (λ (m : DatagramWorker I J H F R). m.fault) lasts ≡ true
      → SomeHasRisen (map faults inboxes) (map faults (map (λ (m : DatagramWorker I J H F R). m.inbox) lasts))
  some_fails [] [] [] begin mails fails = absurd cc
  some_fails [] [] (m ∷ ms) begin mails fails = absurd mails
  some_fails [] (n ∷ ns) lasts begin mails fails = absurd begin
  some_fails (i ∷ is) [] lasts begin mails fails = absurd begin
  some_fails (i ∷ is) (n ∷ ns) [] begin mails fails = absurd mails
  some_fails (i ∷ is) (n ∷ ns) (m ∷ ms) begin mails fails =
      by m.fault refl fails (λ some. some_fails is ns ms begin.1 mails.1 some)
    where
      by : (failed : Bool) → m.fault ≡ failed → (failed || list_any (λ (m : DatagramWorker I J H F R). m.fault) ms) ≡ true
          → (list_any (λ (m : DatagramWorker I J H F R). m.fault) ms ≡ true
          → SomeHasRisen (map faults is) (map faults (map (λ (m : DatagramWorker I J H F R). m.inbox) ms)))
          → SomeHasRisen (map faults (i ∷ is)) (map faults (map (λ (m : DatagramWorker I J H F R). m.inbox) (m ∷ ms)))
      by true is_failed some rest = inl (subst (λ (x : I). HasRisen (faults x) (faults m.inbox)) begin.0.inbox_is (mails.0.cause is_failed))
      by false is_failed some rest = inr (rest some)
