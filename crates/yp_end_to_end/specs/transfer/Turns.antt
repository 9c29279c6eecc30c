-- The calls of a fetch that a server answers in turn, while versions of its maps are shown.
use Rattle.std.specs.Prelude.{ℕ, List, [], ◌∷◌}
use Rattle.yp_client.specs.Asked.{order_call, master_call, all_call}
use Rattle.yp_end_to_end.specs.transfer.Replies.{next_xid}

-- ORDER, MASTER, ALL and ORDER, numbered from xid on
abbrev pub fetch_calls : List ℕ → List ℕ → ℕ → List (List ℕ)
fetch_calls domain map xid =
    order_call domain map xid ∷ master_call domain map (next_xid xid)
    ∷ all_call domain map (next_xid (next_xid xid))
    ∷ order_call domain map (next_xid (next_xid (next_xid xid))) ∷ []
