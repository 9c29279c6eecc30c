-- The first host of a name, one by one.
use Rattle.std.proofs.Common.{◌≡◌, ℕ, ◌+◌, ◌<◌, ◌≤◌, Bool, true, false, cond, List, [], ◌∷◌, length, map, drop, Option, Some, None, refl}
use Rattle.std.proofs.Common.{sym, ap, ◌∙◌, get_or}
use Rattle.std.specs.Prelude.{bytes_eq}
use Rattle.std.proofs.lemmas.List.{drop_more, drop_all}
use Rattle.yp_io.specs.declared.stream.Peer.{Peer}
use Rattle.yp_transfer.specs.declared.hosts.Host.{Host}
use Rattle.yp_transfer.specs.HostTable.{host_view, find}

-- what is found from a host on
pub found_from : List ℕ → List Host → ℕ → Option Peer
found_from name hosts i = find name (map host_view (drop i hosts))

at_host : (name : List ℕ) (hosts : List Host) (i : ℕ) (host : Host) → i < length hosts
    → host ≡ get_or hosts i host
    → found_from name hosts i ≡ cond (bytes_eq host.name.items name) (Some host.peer) (found_from name hosts (i + 1))
unfolding found_from
at_host name hosts i host within is =
    ap (λ (rest : List Host). find name (map host_view rest)) (drop_more hosts i host within)
    ∙ ap (λ (h : Host). cond (bytes_eq h.name.items name) (Some h.peer) (found_from name hosts (i + 1))) (sym is)

pub is_found : (name : List ℕ) (hosts : List Host) (i : ℕ) (host : Host) → i < length hosts
    → host ≡ get_or hosts i host → bytes_eq host.name.items name ≡ true → found_from name hosts i ≡ Some host.peer
is_found name hosts i host within is same =
    at_host name hosts i host within is
    ∙ ap (λ (b : Bool). cond b (Some host.peer) (found_from name hosts (i + 1))) same

pub is_not_found : (name : List ℕ) (hosts : List Host) (i : ℕ) (host : Host) → i < length hosts
    → host ≡ get_or hosts i host → bytes_eq host.name.items name ≡ false
    → found_from name hosts i ≡ found_from name hosts (i + 1)
is_not_found name hosts i host within is other =
    at_host name hosts i host within is
    ∙ ap (λ (b : Bool). cond b (Some host.peer) (found_from name hosts (i + 1))) other

pub found_at_start : (name : List ℕ) (hosts : List Host) → found_from name hosts 0 ≡ find name (map host_view hosts)
unfolding found_from
found_at_start name [] = refl
found_at_start name (host ∷ hosts) = refl

pub found_at_end : (name : List ℕ) (hosts : List Host) (i : ℕ) → length hosts ≤ i → found_from name hosts i ≡ None
unfolding found_from
found_at_end name hosts i past = ap (λ (rest : List Host). find name (map host_view rest)) (drop_all i hosts past)

-- the same test of the same bytes
pub same_test : (name a b : List ℕ) (t : Bool) → a ≡ b → bytes_eq a name ≡ t → bytes_eq b name ≡ t
same_test name a b t same is = ap (λ (bytes : List ℕ). bytes_eq bytes name) (sym same) ∙ is
