-- A reply in a buffer, and what a repeated call changes.
use Rattle.std.specs.Prelude.{◌≡◌, ℕ, List, take, zero, suc, Option, Some, None}
use Rattle.yp_io.specs.declared.stream.Peer.{Peer}
use Rattle.yp_binding.specs.declared.portmap.mapping.Mapping.{Mapping}
use Rattle.yp_binding.specs.portmap.Replies.{after}

-- a reply at the front of a buffer, or silence where its length is 0
abbrev pub reply_in : ℕ → List ℕ → Option (List ℕ)
reply_in zero buf = None
reply_in (suc n) buf = Some (take (suc n) buf)

-- A call that is repeated directly after itself leaves the registry as it left it the first time.
abbrev pub RepeatsNothing : Type 0
RepeatsNothing = (from : Peer) (mappings : List Mapping) (call : List ℕ)
    → after from (after from mappings call) call ≡ after from mappings call
