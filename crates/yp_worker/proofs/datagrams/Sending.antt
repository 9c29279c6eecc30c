-- What an inbox tells of letters that are sent, and of nothing else.
use Rattle.std.proofs.Common.{◌≡◌, List, [], ◌∷◌, ◌++◌, Option, Some, None, ℕ, sym, ap, ◌∙◌, append_assoc}
use Rattle.std.proofs.lemmas.List.{append-nil}
use Rattle.yp_io.specs.Dials.{GainsItem}
use Rattle.yp_io.specs.Inboxes.{InboxEvent, Sent}
use Rattle.yp_io.specs.declared.stream.Peer.{Peer}
use Rattle.yp_rpc.specs.Turns.{InboxTells, GainsAll}
use Rattle.yp_worker.specs.datagrams.Carrying.{Sends}

gained : (p q : List InboxEvent) (a b c : Option (List InboxEvent)) → GainsAll p a b → GainsAll q b c → GainsAll (p ++ q) a c
gained p q None b c ab bc = tt
gained p q (Some x) None c ab bc = absurd ab
gained p q (Some x) (Some y) None ab bc = absurd bc
gained p q (Some x) (Some y) (Some z) ab bc = bc ∙ ap (λ (l : List InboxEvent). l ++ q) ab ∙ append_assoc x p q

stays : (a b : Option (List InboxEvent)) → b ≡ a → GainsAll [] a b
stays None b is = tt
stays (Some x) None is = absurd cc
stays (Some x) (Some y) is = let e : y ≡ x = cc in e ∙ sym (append-nil x)

one : (event : InboxEvent) (a b : Option (List InboxEvent)) → GainsItem event a b → GainsAll (event ∷ []) a b
one event None b g = tt
one event (Some x) None g = absurd g
one event (Some x) (Some y) g = g

pub sends_none : {a b : InboxTells} → b.past ≡ a.past → b.turns ≡ a.turns → b.quiets ≡ a.quiets → Sends [] a b
sends_none {a} {b} past turns quiets = record { past = stays a.past b.past past; turns = turns; quiets = quiets }

pub sends_one : {a b : InboxTells} (to : Peer) (bytes : List ℕ) → GainsItem (Sent to bytes) a.past b.past
    → b.turns ≡ a.turns → b.quiets ≡ a.quiets → Sends (Sent to bytes ∷ []) a b
sends_one {a} {b} to bytes past turns quiets =
    record { past = one (Sent to bytes) a.past b.past past; turns = turns; quiets = quiets }

pub sends_then : {p q : List InboxEvent} {a b c : InboxTells} → Sends p a b → Sends q b c → Sends (p ++ q) a c
sends_then {p} {q} {a} {b} {c} ab bc = record {
  past = gained p q a.past b.past c.past ab.past bc.past;
  turns = bc.turns ∙ ab.turns;
  quiets = bc.quiets ∙ ab.quiets;
}
