-- The names in a reply to MAPLIST fit into a call.
use Rattle.std.proofs.Common.{◌≡◌, ℕ, ◌≤◌, List, length, Result, Ok, Err, refl, subst}
use Rattle.std.specs.Prelude.{All}
use Rattle.yp_xdr.specs.declared.fault.XdrFault.{XdrFault}
use Rattle.yp_xdr.specs.Reading.{reading}
use Rattle.yp_messages.specs.Numbers.{name_max}
use Rattle.yp_messages.specs.MapLists.{map_list}
use Rattle.yp_client.specs.declared.fault.ClientFault.{ClientFault}
use Rattle.yp_client.specs.Results.{◌>>=◌, of_reply, item, results_of, behind_true, maps_of}
use Rattle.yp_client.proofs.orders.Read.{read_short}

bound : {A B : Type 0} (read : Result A ClientFault) (next : A → Result B ClientFault) (all : B)
    → (read >>= next) ≡ Ok all → (value : A) × (read ≡ Ok value) × (next value ≡ Ok all)
bound (Ok value) next all e = (value, refl, e)
bound (Err fault) next all e = absurd cc

abbrev IsRead : {A : Type 0} → Result A XdrFault → A → Type 0
IsRead read value = read ≡ Ok value

item_read : {A : Type 0} (read : Result A XdrFault) (value : A) → of_reply read ≡ Ok value → IsRead read value
item_read {A} (Ok other) value e = let same : other ≡ value = cc in subst (λ (v : A). IsRead (Ok other) v) same refl
item_read (Err fault) value e = absurd cc

ok_same : {A : Type 0} (read : Result A ClientFault) (x y : A) → read ≡ Ok x → read ≡ Ok y → x ≡ y
ok_same read x y a b = cc

-- names that a reply says fit into a call
pub maps_short : (xid : ℕ) (message : List ℕ) (maps : List (List ℕ)) → maps_of xid message ≡ Ok maps
    → All (λ name. length name ≤ name_max) maps
maps_short xid message maps e =
    let left = bound (results_of xid message) _ maps e in
    let rest = bound (behind_true left.0) _ maps left.2 in
    let list = bound (item map_list left.0) _ maps rest.2 in
    let whole = item_read (reading map_list left.0) list.0 list.1 in
    let said = ok_same _ list.0.0.1 maps refl list.2 in
    subst (λ (l : List (List ℕ)). All (λ name. length name ≤ name_max) l) said (read_short left.0 list.0 whole)
