-- Of two lists that weigh the same however they are weighed, each has what the other has, as far as that can be tested.
use Rattle.std.proofs.Common.{◌≡◌, ℕ, ℤ, suc, ◌<◌, Bool, true, false, cond, ◌&&◌, ◌==◌, List, [], ◌∷◌, ◌++◌, refl, sym, ap, ◌∙◌, subst, arith, inl, inr}
use Rattle.std.specs.Prelude.{bytes_eq, Contains}
use Rattle.std.specs.Ordering.{int_eq}
use Rattle.std.specs.List.{AllByRecursion}
use Rattle.std.proofs.lemmas.Bool.{and_parts, and_from, cases_Bool}
use Rattle.std.proofs.lemmas.Bool.Decides.{eqb_tells, Decides-int_eq}
use Rattle.std.proofs.lemmas.Slice.Eq.{bytes_eq-Decides}
use Rattle.yp_io.specs.declared.stream.Peer.{Peer}
use Rattle.yp_messages.specs.Transfers.{xfr_number}
use Rattle.yp_answer.specs.Transfer.{Taken}
use Rattle.yp_worker.specs.datagrams.Mailing.{Awaited}
use Rattle.yp_worker.specs.datagrams.Queues.{weigh, WeighTheSame}
use Rattle.yp_host.specs.declared.workers.call_backs.CallBack.{CallBack}
use Rattle.yp_headline.specs.Publishing.{IsAmong}
use Rattle.yp_headline.proofs.Heads.{same_int}

-- ---- items

pub contains_among : {A : Type 0} (front back : List A) (item : A) → Contains (front ++ item ∷ back) item
contains_among [] back item = (0, omega arith, refl)
contains_among (one ∷ front) back item =
    let rest = contains_among front back item in (suc rest.0, (let within = rest.1 in omega (arith, within)), rest.2)

pub of_among : {A : Type 0} (P : A → Type 0) (front back : List A) (item : A) → AllByRecursion P (front ++ item ∷ back) → P item
of_among P [] back item all = all.0
of_among P (one ∷ front) back item all = of_among P front back item all.1

pub all_among : {A : Type 0} (P : A → Type 0) (items : List A) (item : A) → AllByRecursion P items → IsAmong items item → P item
all_among P items item all among =
    of_among P among.0 among.1 item (subst (λ (l : List _). AllByRecursion P l) among.2 all)

pub all_both : {A : Type 0} (P : A → Type 0) (some more : List A) → AllByRecursion P some → AllByRecursion P more
    → AllByRecursion P (some ++ more)
all_both P [] more all others = others
all_both P (one ∷ some) more all others = (all.0, all_both P some more all.1 others)

pub all_so : {A : Type 0} (P Q : A → Type 0) → ((item : A) → P item → Q item) → (items : List A) → AllByRecursion P items
    → AllByRecursion Q items
all_so P Q then [] all = tt
all_so P Q then (one ∷ items) all = (then one all.0, all_so P Q then items all.1)

-- ---- what weighs the same

-- what an item weighs that passes a test, or doesn't
abbrev pub passes : {A : Type 0} → (A → Bool) → A → ℕ
passes test = λ a. cond (test a) 1 0

-- one of items that passes a test, where some weigh for it
pub found_where : {A : Type 0} (test : A → Bool) (items : List A) → 0 < weigh (passes test) items
    → (b : A) × IsAmong items b × (test b ≡ true)
found_where test [] some = absurd (omega (arith, some))
found_where {A} test (x ∷ items) some = elim (cases_Bool (test x)) [
  | inl is ↦ (x, ([], items, refl), is)
  | inr not ↦
      let none : passes test x ≡ 0 = ap (λ (b : Bool). cond b 1 0) not in
      let rest = found_where test items (omega (arith, none, some)) in (
        rest.0,
        (x ∷ rest.1.0, rest.1.1, ap (λ (l : List A). x ∷ l) rest.1.2),
        rest.2,
      )
]

module _ {A : Type 0} (same : A → A → Bool) (self : (a : A) → same a a ≡ true) where
  abbrev weight : A → A → ℕ
  weight a = passes (same a)

  some_weight : (a : A) (front back : List A) → 0 < weigh (weight a) (front ++ a ∷ back)
  some_weight a [] back =
      let one : weight a a ≡ 1 = ap (λ (b : Bool). cond b 1 0) (self a) in omega (arith, one)
  some_weight a (x ∷ front) back = let more = some_weight a front back in omega (arith, more)

  pub weighed : (these those : List A) → WeighTheSame these those → (a : A) → IsAmong these a
      → (b : A) × IsAmong those b × (same a b ≡ true)
  weighed these those as_much a among =
      let here : 0 < weigh (weight a) these =
      subst (λ (l : List A). 0 < weigh (weight a) l) (sym among.2) (some_weight a among.0 among.1) in
      found_where (same a) those (subst (λ (n : ℕ). 0 < n) (as_much (weight a)) here)

-- ---- tests

pub bytes_self : (bytes : List ℕ) → bytes_eq bytes bytes ≡ true
bytes_self bytes = (bytes_eq-Decides bytes bytes).1 refl

pub number_self : (n : ℕ) → (n == n) ≡ true
number_self n = elim (eqb_tells n n) [
  | inl same ↦ same.0
  | inr differ ↦ absurd (differ.1 refl)
]

pub same_bytes : (a b : List ℕ) → bytes_eq a b ≡ true → a ≡ b
same_bytes a b is = (bytes_eq-Decides a b).0 is

pub same_number : (a b : ℕ) → (a == b) ≡ true → a ≡ b
same_number a b is = elim (eqb_tells a b) [
  | inl same ↦ same.1
  | inr differ ↦ absurd (let e : false ≡ true = sym differ.0 ∙ is in cc)
]

-- ---- call backs

-- who is told, and which number
abbrev tells_same : CallBack → CallBack → Bool
tells_same a b = bytes_eq a.asker.addr b.asker.addr && ((a.asker.prog == b.asker.prog)
    && ((a.asker.port == b.asker.port) && ((a.asker.transid == b.asker.transid)
    && int_eq (xfr_number a.stat) (xfr_number b.stat))))

int_self : (z : ℤ) → int_eq z z ≡ true
int_self z = (Decides-int_eq z z).1 refl

tells_self : (a : CallBack) → tells_same a a ≡ true
tells_self a = and_from _ _ (bytes_self a.asker.addr) (and_from _ _ (number_self a.asker.prog)
    (and_from _ _ (number_self a.asker.port) (and_from _ _ (number_self a.asker.transid) (int_self (xfr_number a.stat)))))

pub record TellsTheSame (a b : CallBack) : Type 0 where
  pub addr : a.asker.addr ≡ b.asker.addr
  pub prog : a.asker.prog ≡ b.asker.prog
  pub port : a.asker.port ≡ b.asker.port
  pub transid : a.asker.transid ≡ b.asker.transid
  pub number : xfr_number a.stat ≡ xfr_number b.stat

-- a call back that weighs the same as one of these is one of those, as far as it is posted
pub told_among : (these those : List CallBack) → WeighTheSame these those → (a : CallBack) → IsAmong these a
    → (b : CallBack) × IsAmong those b × TellsTheSame a b
told_among these those as_much a among =
    let is = weighed tells_same tells_self these those as_much a among in
    let b = is.0 in
    let first = and_parts _ _ is.2 in
    let second = and_parts _ _ first.1 in
    let third = and_parts _ _ second.1 in
    let fourth = and_parts _ _ third.1 in (
      b,
      is.1,
      record {
        addr = same_bytes a.asker.addr b.asker.addr first.0;
        prog = same_number a.asker.prog b.asker.prog second.0;
        port = same_number a.asker.port b.asker.port third.0;
        transid = same_number a.asker.transid b.asker.transid fourth.0;
        number = same_int (xfr_number a.stat) (xfr_number b.stat) fourth.1;
      },
    )

-- ---- transfers that datagrams took

abbrev awaits_same : Awaited → Awaited → Bool
awaits_same a b = (a.0.map == b.0.map) && (bytes_eq a.0.source b.0.source && ((a.0.transid == b.0.transid)
    && ((a.0.prog == b.0.prog) && ((a.0.port == b.0.port) && (bytes_eq a.1.addr b.1.addr && (a.1.port == b.1.port))))))

awaits_self : (a : Awaited) → awaits_same a a ≡ true
awaits_self a = and_from _ _ (number_self a.0.map) (and_from _ _ (bytes_self a.0.source)
    (and_from _ _ (number_self a.0.transid) (and_from _ _ (number_self a.0.prog) (and_from _ _ (number_self a.0.port)
    (and_from _ _ (bytes_self a.1.addr) (number_self a.1.port))))))

taken_is : (map map' transid transid' prog prog' port port' : ℕ) (source source' : List ℕ) → map ≡ map' → source ≡ source'
    → transid ≡ transid' → prog ≡ prog' → port ≡ port'
    → (let one : Taken = record { map = map; source = source; transid = transid; prog = prog; port = port } in one)
    ≡ record { map = map'; source = source'; transid = transid'; prog = prog'; port = port' }
taken_is map map' transid transid' prog prog' port port' source source' a b c d e = cc

peer_is : (addr addr' : List ℕ) (port port' : ℕ) → addr ≡ addr' → port ≡ port'
    → (let one : Peer = record { addr = addr; port = port } in one) ≡ record { addr = addr'; port = port' }
peer_is addr addr' port port' a b = cc

both_are : (taken taken' : Taken) (peer peer' : Peer) → taken ≡ taken' → peer ≡ peer'
    → (let one : Awaited = (taken, peer) in one) ≡ (taken', peer')
both_are taken taken' peer peer' a b = cc

pub awaited_among : (these those : List Awaited) → WeighTheSame these those → (a : Awaited) → IsAmong these a → IsAmong those a
awaited_among these those as_much a among =
    let is = weighed awaits_same awaits_self these those as_much a among in
    let b = is.0 in
    let first = and_parts _ _ is.2 in
    let second = and_parts _ _ first.1 in
    let third = and_parts _ _ second.1 in
    let fourth = and_parts _ _ third.1 in
    let fifth = and_parts _ _ fourth.1 in
    let sixth = and_parts _ _ fifth.1 in
    let same : a ≡ b = both_are a.0 b.0 a.1 b.1
    (taken_is a.0.map b.0.map a.0.transid b.0.transid a.0.prog b.0.prog a.0.port b.0.port a.0.source b.0.source
    (same_number a.0.map b.0.map first.0) (same_bytes a.0.source b.0.source second.0)
    (same_number a.0.transid b.0.transid third.0) (same_number a.0.prog b.0.prog fourth.0)
    (same_number a.0.port b.0.port fifth.0))
    (peer_is a.1.addr b.1.addr a.1.port b.1.port (same_bytes a.1.addr b.1.addr sixth.0)
    (same_number a.1.port b.1.port sixth.1)) in
    subst (λ (x : Awaited). IsAmong those x) (sym same) is.1
