-- One slave more was sent to.
use Rattle.std.proofs.Common.{◌≡◌, ℕ, ◌+◌, ◌-◌, ◌<◌, Bool, true, false, cond, ◌&&◌, List, [], ◌∷◌, ◌++◌, length}
use Rattle.std.proofs.Common.{Option, Some, None, Ok, Err, refl, sym, ap, ◌∙◌, subst, arith, inl, inr, length-append}
use Rattle.std.specs.Prelude.{nat_lt}
use Rattle.std.specs.List.{filter_map, cons_option}
use Rattle.std.proofs.lemmas.Bool.Decides.{nat_tests}
use Rattle.std.proofs.lemmas.List.Elements.{filter_map-append}
use Rattle.yp_io.specs.declared.stream.Peer.{Peer}
use Rattle.yp_io.specs.Dials.{DialTells}
use Rattle.yp_xdr.specs.Kind.{Value}
use Rattle.yp_messages.specs.Transfers.{req_xfr}
use Rattle.yp_messages.specs.declared.transfer.XfrStat.TheVariants.{Succ}
use Rattle.yp_client.specs.declared.fault.ClientFault.TheVariants.{NoMemory}
use Rattle.yp_push.specs.declared.event.Event.{Event}
use Rattle.yp_push.specs.declared.event.Event.TheVariants.{Sent, Failed, Refused}
use Rattle.yp_push.specs.declared.outcome.Missed.TheVariants.{Rpc, Maddr}
use Rattle.yp_push.specs.declared.ledger.Sending.{Sending}
use Rattle.yp_push.specs.Ledgers.{Ledger, with_event, asked, asked_by, outstanding, next_sending}
use Rattle.yp_push.specs.turns.Sendings.{SlaveAnswer, IsNoted, PushTells, push_tells, ReachesSlave}
use Rattle.yp_push.specs.turns.Pushers.{Pushing, sent_to, HasAskedSlave, SendsAll, sends_more}

pub sent_more : {A : Type 0} (tells : A → DialTells) (sending : Sending) (old middle between new : Pushing A)
    → SendsAll tells old middle → middle.starved ≡ false → Some sending ≡ next_sending middle.ledger
    → between ≡ sent_to middle sending → HasAskedSlave tells sending between new → SendsAll tells old new
sent_more {A} tells sending old middle between new all fed next is reached =
    sends_more sending old middle new all fed (record {
      next = sym next;
      reached = subst (λ (p : Pushing A). HasAskedSlave tells sending p new) is reached;
    })

-- ---- how many were asked

asked_more : (events : List Event) (event : Event)
    → length (asked (events ++ event ∷ [])) ≡ length (asked events) + length (cons_option (asked_by event) [])
unfolding asked
asked_more events event =
    ap length (filter_map-append asked_by events (event ∷ []))
    ∙ length-append (filter_map asked_by events) (filter_map asked_by (event ∷ []))

-- as many slaves, and as many that were asked
record IsAsMany (old new : Ledger) : Type 0 where
  asked : length (asked new.events) ≡ length (asked old.events)
  slaves : new.slaves ≡ old.slaves

stays_so : (old new : Ledger) → new ≡ old → IsAsMany old new
stays_so old new e = rw e (record { asked = refl; slaves = refl })

behind : (old new : Ledger) (event : Event) → asked_by event ≡ None → new ≡ with_event old event → IsAsMany old new
behind old new event none e =
    let more = asked_more old.events event in
    let nothing : length (cons_option (asked_by event) []) ≡ 0 =
    ap (λ (o : Option ℕ). length (cons_option o [])) none in
    rw e (record { asked = omega (arith, more, nothing); slaves = refl })

noted : (slave : ℕ) (answer : SlaveAnswer) (old new : Ledger) → IsNoted slave answer old new → IsAsMany old new
noted slave (Ok Succ) old new h = stays_so old new h
noted slave (Ok stat) old new h = behind old new (Refused slave stat) refl h
noted slave (Err NoMemory) old new h = stays_so old new h
noted slave (Err fault) old new h = behind old new (Failed slave Rpc) refl h

reached : (to : Option Peer) (request : Value req_xfr) (slave : ℕ) (starved : Bool) (old new : PushTells)
    → ReachesSlave to request slave starved old new → IsAsMany old.ledger new.ledger
reached None request slave starved old new h = behind old.ledger new.ledger (Failed slave Maddr) refl h.1
reached (Some peer) request slave starved old new (inl missed) =
    behind old.ledger new.ledger (Failed slave Rpc) refl missed.noted
reached (Some peer) request slave starved old new (inr answered) =
    noted slave answered.answer old.ledger new.ledger answered.noted

below : (b c : Bool) (x y : Sending) → cond (b && c) (Some x) None ≡ Some y → b ≡ true
below true c x y e = refl
below false c x y e = absurd cc

room : (ledger : Ledger) (sending : Sending) → Some sending ≡ next_sending ledger
    → length (asked ledger.events) < ledger.slaves
room ledger sending next =
    let is = below (nat_lt (length (asked ledger.events)) ledger.slaves)
    (nat_lt (outstanding ledger.first ledger.events) ledger.window) _ sending (sym next) in
    grind (arith, nat_tests)

-- fewer are left
pub fewer : {A : Type 0} (tells : A → DialTells) (sending : Sending) (middle between new : Pushing A)
    → Some sending ≡ next_sending middle.ledger → between ≡ sent_to middle sending
    → HasAskedSlave tells sending between new
    → new.ledger.slaves - length (asked new.ledger.events) < middle.ledger.slaves - length (asked middle.ledger.events)
fewer {A} tells sending middle between new next is did =
    let under = room middle.ledger sending next in
    let same = reached _ _ _ _ (push_tells between.ledger (tells between.dial))
    (push_tells new.ledger (tells new.dial)) did.reaches in
    let count = same.asked in
    let slaves = same.slaves in
    let one = asked_more middle.ledger.events (Sent sending.slave) in
    let events : length (asked between.ledger.events) ≡ length (asked (middle.ledger.events ++ Sent sending.slave ∷ [])) =
    ap (λ (p : Pushing A). length (asked p.ledger.events)) is in
    let all : between.ledger.slaves ≡ middle.ledger.slaves = ap (λ (p : Pushing A). p.ledger.slaves) is in
    omega (arith, under, count, slaves, one, events, all)
