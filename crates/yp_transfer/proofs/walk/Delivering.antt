-- A mail behind a schedule.
use Rattle.std.proofs.Common.{◌≡◌, ℕ, Bool, true, false, cond, List, [], ◌∷◌, ◌++◌, Result, Ok, Err, refl, sym, ap}
use Rattle.std.proofs.Common.{◌∙◌, subst, inl, inr}
use Rattle.yp_io.specs.declared.stream.Peer.{Peer}
use Rattle.yp_transfer.specs.declared.fault.XfrFault.TheVariants.{Maddr, Rpc, Nodom, Nomap, Yperr, Xfrerr, Age, Skew, Dbm}
use Rattle.yp_transfer.specs.declared.fault.XfrFault.TheVariants.{Badargs, File, Refused, NoMemory}
use Rattle.yp_transfer.specs.declared.fault.XfrFault.{XfrFault}
use Rattle.yp_transfer.specs.Fetching.{Wanted}
use Rattle.yp_transfer.specs.declared.walk.walked.Walked.{Walked}
use Rattle.yp_transfer.specs.walk.Schedules.{Walking, Delivery, is_awaited, next_xid, gone_on, heard, begun, awaited, came_of}
use Rattle.yp_transfer.specs.walk.Schedules.{walk_by, Hears, AddsDelivery}

last_mail : (walking : Walking) (delivered : Delivery) (b : Bool)
    → came_of walking (cond b (delivered.1 ∷ []) []) ≡ cond b (gone_on walking delivered.1) walking
last_mail walking delivered true = refl
last_mail walking delivered false = refl

-- the first mail leads on, or doesn't
first_mail : (walking : Walking) (first delivered : Delivery) (taken passed before after : List (List ℕ)) (b : Bool)
    → came_of (gone_on walking first.1) taken ≡ heard (came_of (gone_on walking first.1) before) delivered
    → came_of walking passed ≡ heard (came_of walking after) delivered
    → came_of walking (cond b (first.1 ∷ taken) passed)
    ≡ heard (came_of walking (cond b (first.1 ∷ before) after)) delivered
first_mail walking first delivered taken passed before after true goes stays = goes
first_mail walking first delivered taken passed before after false goes stays = stays

behind_mails : (walking : Walking) (deliveries : List Delivery) (delivered : Delivery)
    → came_of walking (awaited walking.source walking.xid (deliveries ++ delivered ∷ []))
    ≡ heard (came_of walking (awaited walking.source walking.xid deliveries)) delivered
behind_mails walking [] delivered = last_mail walking delivered (is_awaited walking.source walking.xid delivered)
behind_mails walking (first ∷ deliveries) delivered =
    first_mail walking first delivered
    (awaited walking.source (next_xid walking.xid) (deliveries ++ delivered ∷ []))
    (awaited walking.source walking.xid (deliveries ++ delivered ∷ []))
    (awaited walking.source (next_xid walking.xid) deliveries)
    (awaited walking.source walking.xid deliveries)
    (is_awaited walking.source walking.xid first)
    (behind_mails (gone_on walking first.1) deliveries delivered)
    (behind_mails walking deliveries delivered)

heard_is_delivered : (source : Peer) (wanted : Wanted) (deliveries : List Delivery) (delivered : Delivery)
    → heard (walk_by source wanted deliveries) delivered ≡ walk_by source wanted (deliveries ++ delivered ∷ [])
heard_is_delivered source wanted deliveries delivered =
    sym (behind_mails (begun source wanted) deliveries delivered)

stands : (delivered : Delivery) (old new : Walking) → new ≡ heard old delivered → (source : Peer) (wanted : Wanted)
    (deliveries : List Delivery) → old ≡ walk_by source wanted deliveries
    → new ≡ walk_by source wanted (deliveries ++ delivered ∷ [])
stands delivered old new is source wanted deliveries same =
    is ∙ ap (λ (walking : Walking). heard walking delivered) same
    ∙ heard_is_delivered source wanted deliveries delivered

by_result : (delivered : Delivery) (result : Result Walked XfrFault) (old new : Walking) → new ≡ heard old delivered
    → AddsDelivery delivered result old new
by_result delivered (Ok walked) old new is = stands delivered old new is
by_result delivered (Err NoMemory) old new is = tt
by_result delivered (Err Maddr) old new is = stands delivered old new is
by_result delivered (Err Rpc) old new is = stands delivered old new is
by_result delivered (Err Nodom) old new is = stands delivered old new is
by_result delivered (Err Nomap) old new is = stands delivered old new is
by_result delivered (Err (Yperr stat)) old new is = stands delivered old new is
by_result delivered (Err (Xfrerr at)) old new is = stands delivered old new is
by_result delivered (Err (Age shown offered)) old new is = stands delivered old new is
by_result delivered (Err (Skew first second)) old new is = stands delivered old new is
by_result delivered (Err Dbm) old new is = stands delivered old new is
by_result delivered (Err Badargs) old new is = stands delivered old new is
by_result delivered (Err File) old new is = stands delivered old new is
by_result delivered (Err Refused) old new is = stands delivered old new is

-- a mail that was heard was delivered
pub adds : (delivered : Delivery) (result : Result Walked XfrFault) (old new : Walking)
    → Hears delivered result old new → AddsDelivery delivered result old new
adds delivered result old new (inl heard) = by_result delivered result old new heard.0
adds delivered result old new (inr out) =
    subst (λ (r : Result Walked XfrFault). AddsDelivery delivered r old new) (sym out.answer) tt
