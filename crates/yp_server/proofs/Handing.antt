-- One worker of datagrams after the other hands over what it has.
use Rattle.std.proofs.Common.{◌≡◌, ◌+◌, ℕ, Bool, true, false, List, [], ◌∷◌, ◌++◌, ◌||◌, length, map, reverse, fold, refl, sym, ap, ◌∙◌, subst, append_assoc, arith}
use Rattle.std.specs.List.{AllByRecursion, list_any}
use Rattle.std.proofs.lemmas.List.{append-nil, map-append, reverse-append}
use Rattle.yp_board.specs.Logs.{Log}
use Rattle.yp_board.specs.Views.{IsFront}
use Rattle.yp_answer.specs.session.Hosts.{Conduct}
use Rattle.yp_worker.specs.Summing.{Counting}
use Rattle.yp_worker.specs.datagrams.Mailing.{Deferred, Holding, Mailing, held_behind}
use Rattle.yp_worker.specs.datagrams.Queues.{weigh}
use Rattle.yp_server.specs.declared.datagrams.DatagramWorker.{DatagramWorker}
use Rattle.yp_server.specs.inside.Handing.{left_by, took_by, parts_of, HandsOverMail, HandsOverMails}
use Rattle.yp_server.proofs.Fronts.{front_self, front_then, fronts_then}

-- ---- what holds of all of a list

pub rec_append : {X : Type 0} (P : X → Type 0) (xs ys : List X) → AllByRecursion P xs → AllByRecursion P ys → AllByRecursion P (xs ++ ys)
rec_append P [] ys all more = more
rec_append P (x ∷ xs) ys all more = (all.0, rec_append P xs ys all.1 more)

pub rec_before : {X : Type 0} (P : X → Type 0) (xs : List X) (x : X) → AllByRecursion P (xs ++ x ∷ []) → AllByRecursion P xs × P x
rec_before P [] x all = (tt, all.0)
rec_before P (y ∷ xs) x all = let more = rec_before P xs x all.1 in ((all.0, more.0), more.1)

pub rec_reverse : {X : Type 0} (P : X → Type 0) (xs : List X) → AllByRecursion P xs → AllByRecursion P (reverse xs)
rec_reverse P [] all = all
rec_reverse P (x ∷ xs) all =
    subst (AllByRecursion P) (sym (reverse-append (x ∷ []) xs)) (rec_append P (reverse xs) (x ∷ []) (rec_reverse P xs all.1) (all.0, tt))

fold_push : {A B : Type 0} (f : B → A → B) (from : B) (xs : List A) (x : A) → fold f from (xs ++ x ∷ []) ≡ f (fold f from xs) x
fold_push f from [] x = refl
fold_push f from (y ∷ xs) x = fold_push f (f from y) xs x

-- ---- what was handed over

pub weigh_append : (h : Deferred → ℕ) (xs ys : List Deferred) → weigh h (xs ++ ys) ≡ weigh h xs + weigh h ys
weigh_append h [] ys = omega arith
weigh_append h (x ∷ xs) ys = let more = weigh_append h xs ys in omega (arith, more)

module _ {H : Type 0} where
  left_push : (xs : List (Mailing H)) (x : Mailing H) → left_by (xs ++ x ∷ []) ≡ left_by xs ++ x.holding.left
  left_push [] x = append-nil x.holding.left
  left_push (y ∷ xs) x =
      ap (λ (l : List Deferred). y.holding.left ++ l) (left_push xs x) ∙ sym (append_assoc y.holding.left (left_by xs) x.holding.left)

  took_push : (xs : List (Mailing H)) (x : Mailing H) → took_by (xs ++ x ∷ []) ≡ took_by xs ++ x.holding.took
  took_push [] x = append-nil x.holding.took
  took_push (y ∷ xs) x =
      ap (λ (l : List Deferred). y.holding.took ++ l) (took_push xs x) ∙ sym (append_assoc y.holding.took (took_by xs) x.holding.took)

  parts_push : (xs : List (Mailing H)) (x : Mailing H) → parts_of (xs ++ x ∷ []) ≡ parts_of xs + x.holding.parts
  parts_push [] x = omega arith
  parts_push (y ∷ xs) x = let more = parts_push xs x in omega (arith, more)

module _ {H S T : Type 0} (conduct : Conduct H) (counting : Counting H T) (summed : S → T) (reached : S → Log) where
  pub none_handed : (held : Holding) (old : S) → HandsOverMails conduct counting summed reached [] held held old old
  none_handed held old = record {
    added = refl;
    covered = tt;
    kept = front_self (reached old);
    queue = refl;
    parts = omega arith;
    left = sym (append-nil held.left);
    took = sym (append-nil held.took);
  }

  pub one_handed : (servers : List (Mailing H)) (server : Mailing H) (before held part now : Holding) (old mid new : S)
      → HandsOverMails conduct counting summed reached servers before held old mid
      → HandsOverMail conduct counting summed reached server part mid new
      → now.parts ≡ held.parts + part.parts → now ≡ record (held_behind held part.left part.took) { parts = now.parts }
      → HandsOverMails conduct counting summed reached (servers ++ server ∷ []) before now old new
  one_handed servers server before held part now old mid new first one parts merged = record {
    added =
        one.added ∙ ap (λ (s : T). counting.plus s (counting.counted server.host)) first.added
        ∙ sym (fold_push counting.plus (summed old) (map (λ (m : Mailing H). counting.counted m.host) servers) (counting.counted server.host))
        ∙ ap (fold counting.plus (summed old)) (sym (map-append (λ (m : Mailing H). counting.counted m.host) servers (server ∷ [])));
    covered = rec_append (λ (m : Mailing H). IsFront (conduct.seen m.host).known (reached new)) servers (server ∷ [])
        (fronts_then (λ (m : Mailing H). (conduct.seen m.host).known) (reached mid) (reached new) servers one.kept first.covered)
        (one.covered, tt);
    kept = front_then (reached old) (reached mid) (reached new) first.kept one.kept;
    queue = ap (λ (h : Holding). h.queue) merged ∙ first.queue;
    parts =
        let own = ap (λ (h : Holding). h.parts) one.held_is in
        let so_far = first.parts in
        let more = parts_push servers server in
        omega (arith, parts, own, so_far, more);
    left =
        ap (λ (h : Holding). h.left) merged
        ∙ ap (λ (l : List Deferred). l ++ part.left) first.left
        ∙ ap (λ (l : List Deferred). (before.left ++ left_by servers) ++ l) (ap (λ (h : Holding). h.left) one.held_is)
        ∙ append_assoc before.left (left_by servers) server.holding.left
        ∙ ap (λ (l : List Deferred). before.left ++ l) (sym (left_push servers server));
    took =
        ap (λ (h : Holding). h.took) merged
        ∙ ap (λ (l : List Deferred). l ++ part.took) first.took
        ∙ ap (λ (l : List Deferred). (before.took ++ took_by servers) ++ l) (ap (λ (h : Holding). h.took) one.held_is)
        ∙ append_assoc before.took (took_by servers) server.holding.took
        ∙ ap (λ (l : List Deferred). before.took ++ l) (sym (took_push servers server));
  }

module _ {I J H F R : Type 0} (all front : List (DatagramWorker I J H F R)) (m : DatagramWorker I J H F R) (is : all ≡ front ++ m ∷ []) where
  turned : reverse all ≡ m ∷ reverse front
  turned = ap reverse is ∙ reverse-append front (m ∷ [])

  pub one_inbox : (done whole : List I) → done ++ map (λ (m : DatagramWorker I J H F R). m.inbox) (reverse all) ≡ whole
      → (new : List I) (inbox : I) → new ≡ done ++ inbox ∷ [] → inbox ≡ m.inbox
      → new ++ map (λ (m : DatagramWorker I J H F R). m.inbox) (reverse front) ≡ whole
  one_inbox done whole before new inbox pushed same =
      ap (λ (l : List I). l ++ map (λ (m : DatagramWorker I J H F R). m.inbox) (reverse front)) (pushed ∙ ap (λ (i : I). done ++ i ∷ []) same)
      ∙ append_assoc done (m.inbox ∷ []) (map (λ (m : DatagramWorker I J H F R). m.inbox) (reverse front))
      ∙ ap (λ (l : List (DatagramWorker I J H F R)). done ++ map (λ (m : DatagramWorker I J H F R). m.inbox) l) (sym turned)
      ∙ before

  or_then : (a b c : Bool) → ((a || b) || c) ≡ (a || (b || c))
  or_then true b c = refl
  or_then false b c = refl

  pub one_fault : (done whole : Bool) → (done || list_any (λ (m : DatagramWorker I J H F R). m.fault) (reverse all)) ≡ whole
      → (fault : Bool) → fault ≡ m.fault → ((done || fault) || list_any (λ (m : DatagramWorker I J H F R). m.fault) (reverse front)) ≡ whole
  one_fault done whole before fault same =
      ap (λ b. (done || b) || list_any (λ (m : DatagramWorker I J H F R). m.fault) (reverse front)) same
      ∙ or_then done m.fault (list_any (λ (m : DatagramWorker I J H F R). m.fault) (reverse front))
      ∙ ap (λ (l : List (DatagramWorker I J H F R)). done || list_any (λ (m : DatagramWorker I J H F R). m.fault) l) (sym turned)
      ∙ before

  pub one_server : (done whole : List (Mailing H)) → done ++ map (λ (m : DatagramWorker I J H F R). m.server) (reverse all) ≡ whole
      → (done ++ m.server ∷ []) ++ map (λ (m : DatagramWorker I J H F R). m.server) (reverse front) ≡ whole
  one_server done whole before =
      append_assoc done (m.server ∷ []) (map (λ (m : DatagramWorker I J H F R). m.server) (reverse front))
      ∙ ap (λ (l : List (DatagramWorker I J H F R)). done ++ map (λ (m : DatagramWorker I J H F R). m.server) l) (sym turned)
      ∙ before

-- where none is left, all servers have handed over
pub all_servers : {I J H F R : Type 0} (done whole : List (Mailing H)) (all : List (DatagramWorker I J H F R)) → length all ≡ 0
    → done ++ map (λ (m : DatagramWorker I J H F R). m.server) (reverse all) ≡ whole → done ≡ whole
all_servers done whole [] none is = sym (append-nil done) ∙ is
all_servers done whole (x ∷ xs) none is = absurd (omega (arith, none))
