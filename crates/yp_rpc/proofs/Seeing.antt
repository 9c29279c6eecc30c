-- What happens at an inbox, one thing behind another.
use Rattle.std.proofs.Common.{◌≡◌, ◌∙◌, ◌+◌, ◌++◌, ℕ, List, [], ◌∷◌, Option, Some, None, Ok, ap, sym, refl, rules, arith, append_assoc, length, length-take-le, take_all, append-nil, zero, suc, take}
use Rattle.yp_io.specs.Counts.{next_count}
use Rattle.yp_io.specs.declared.stream.Peer.{Peer}
use Rattle.yp_io.specs.declared.stream.Failed.{Failed}
use Rattle.yp_io.specs.declared.inbox.Mail.{Mail}
use Rattle.yp_io.specs.declared.inbox.Mail.TheVariants as mail
use Rattle.yp_io.specs.Dials.{GainsItem}
use Rattle.yp_io.specs.Inboxes.{InboxEvent, Arrived, Silent, Sent, turns_of, quiets_of, turns_after, quiets_after, GainsTurn, IsTurn, MailIsWithin}
use Rattle.yp_rpc.specs.Turns.{InboxTells, GainsAll, Sees, counted}

counted_more : (m n before : ℕ) → counted (m + n) before ≡ counted n (counted m before)
counted_more zero n before = let e : zero + n ≡ n = omega arith in ap (λ (k : ℕ). counted k before) e
counted_more (suc m) n before =
    let e : suc m + n ≡ suc (m + n) = omega arith in
    ap (λ (k : ℕ). counted k before) e ∙ counted_more m n (next_count before)

turns_joined : (p q : List InboxEvent) → length (turns_of (p ++ q)) ≡ length (turns_of p) + length (turns_of q)
turns_joined [] q = omega arith
turns_joined (Arrived from bytes ∷ p) q = let e = turns_joined p q in omega (arith, e)
turns_joined (Silent ∷ p) q = let e = turns_joined p q in omega (arith, e)
turns_joined (Sent to bytes ∷ p) q = turns_joined p q

quiets_joined : (p q : List InboxEvent) → quiets_of (p ++ q) ≡ quiets_of p + quiets_of q
quiets_joined [] q = omega arith
quiets_joined (Arrived from bytes ∷ p) q = quiets_joined p q
quiets_joined (Silent ∷ p) q = let e = quiets_joined p q in omega (arith, e)
quiets_joined (Sent to bytes ∷ p) q = quiets_joined p q

gained : (p q : List InboxEvent) (a b c : Option (List InboxEvent)) → GainsAll p a b → GainsAll q b c → GainsAll (p ++ q) a c
gained p q None b c ab bc = tt
gained p q (Some x) None c ab bc = absurd ab
gained p q (Some x) (Some y) None ab bc = absurd bc
gained p q (Some x) (Some y) (Some z) ab bc = bc ∙ ap (λ (l : List InboxEvent). l ++ q) ab ∙ append_assoc x p q

pub seen_then : {p q : List InboxEvent} {a b c : InboxTells} → Sees p a b → Sees q b c → Sees (p ++ q) a c
seen_then {p} {q} {a} {b} {c} ab bc = record {
  past = gained p q a.past b.past c.past ab.past bc.past;
  turns = bc.turns ∙ ap (counted (length (turns_of q))) ab.turns
      ∙ sym (ap (λ (n : ℕ). counted n a.turns) (turns_joined p q) ∙ counted_more (length (turns_of p)) (length (turns_of q)) a.turns);
  quiets = bc.quiets ∙ ap (counted (quiets_of q)) ab.quiets
      ∙ sym (ap (λ (n : ℕ). counted n a.quiets) (quiets_joined p q) ∙ counted_more (quiets_of p) (quiets_of q) a.quiets);
}

stays : (a b : Option (List InboxEvent)) → b ≡ a → GainsAll [] a b
stays None b is = tt
stays (Some x) None is = absurd cc
stays (Some x) (Some y) is = let e : y ≡ x = cc in e ∙ sym (append-nil x)

-- Nothing happened.
pub seen_none : {a b : InboxTells} → b.past ≡ a.past → b.turns ≡ a.turns → b.quiets ≡ a.quiets → Sees [] a b
seen_none {a} {b} past turns quiets = record { past = stays a.past b.past past; turns = turns; quiets = quiets }

one : (event : InboxEvent) (a b : Option (List InboxEvent)) → GainsItem event a b → GainsAll (event ∷ []) a b
one event None b g = tt
one event (Some x) None g = absurd g
one event (Some x) (Some y) g = g

-- A datagram was sent.
pub seen_sent : {a b : InboxTells} (to : Peer) (bytes : List ℕ) → GainsItem (Sent to bytes) a.past b.past
    → b.turns ≡ a.turns → b.quiets ≡ a.quiets → Sees (Sent to bytes ∷ []) a b
seen_sent {a} {b} to bytes past turns quiets =
    record { past = one (Sent to bytes) a.past b.past past; turns = turns; quiets = quiets }

-- a turn that was answered, with a buffer behind it
pub record Turned (answer : Mail) (buf : List ℕ) (a b : InboxTells) : Type 0 where
  pub turn : InboxEvent
  pub is : IsTurn answer buf turn
  pub sees : Sees (turn ∷ []) a b

-- a turn of which nothing is told
untold : (answer : Mail) (buf : List ℕ) → MailIsWithin answer buf → (turn : InboxEvent) × IsTurn answer buf turn
untold (mail.Came len from) buf within =
    (Arrived from (take len buf), (refl, record { cut = search rules; front = sym (take_all len (take len buf) (let e = length-take-le len buf within in omega (arith, e))) }))
untold mail.Quiet buf within = (Silent, tt)

counts_turn : (answer : Mail) (buf : List ℕ) (turn : InboxEvent) (before : ℕ) → IsTurn answer buf turn
    → turns_after {E = Failed} before (Ok answer) ≡ counted (length (turns_of (turn ∷ []))) before
counts_turn (mail.Came len from) buf (Arrived peer bytes) before is = refl
counts_turn (mail.Came len from) buf Silent before is = absurd is
counts_turn (mail.Came len from) buf (Sent peer bytes) before is = absurd is
counts_turn mail.Quiet buf (Arrived peer bytes) before is = absurd is
counts_turn mail.Quiet buf Silent before is = refl
counts_turn mail.Quiet buf (Sent peer bytes) before is = absurd is

counts_quiet : (answer : Mail) (buf : List ℕ) (turn : InboxEvent) (before : ℕ) → IsTurn answer buf turn
    → quiets_after {E = Failed} before (Ok answer) ≡ counted (quiets_of (turn ∷ [])) before
counts_quiet (mail.Came len from) buf (Arrived peer bytes) before is = refl
counts_quiet (mail.Came len from) buf Silent before is = absurd is
counts_quiet (mail.Came len from) buf (Sent peer bytes) before is = absurd is
counts_quiet mail.Quiet buf (Arrived peer bytes) before is = absurd is
counts_quiet mail.Quiet buf Silent before is = refl
counts_quiet mail.Quiet buf (Sent peer bytes) before is = absurd is

told_turn : (answer : Mail) (buf : List ℕ) (a b : Option (List InboxEvent)) → MailIsWithin answer buf → GainsTurn answer buf a b
    → (turn : InboxEvent) × IsTurn answer buf turn × GainsAll (turn ∷ []) a b
told_turn answer buf None b within gains = let u = untold answer buf within in (u.0, u.1, tt)
told_turn answer buf (Some x) None within gains = absurd gains
told_turn answer buf (Some x) (Some y) within gains = (gains.0, gains.1, gains.2)

-- A turn was taken.
pub seen_turn : {a b : InboxTells} (answer : Mail) (buf : List ℕ) → MailIsWithin answer buf → GainsTurn answer buf a.past b.past
    → b.turns ≡ turns_after {E = Failed} a.turns (Ok answer) → b.quiets ≡ quiets_after {E = Failed} a.quiets (Ok answer)
    → Turned answer buf a b
seen_turn {a} {b} answer buf within past turns quiets =
    let told = told_turn answer buf a.past b.past within past in
    record {
      turn = told.0;
      is = told.1;
      sees = record {
        past = told.2;
        turns = turns ∙ counts_turn answer buf told.0 a.turns told.1;
        quiets = quiets ∙ counts_quiet answer buf told.0 a.quiets told.1;
      };
    }
