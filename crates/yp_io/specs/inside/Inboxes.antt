-- The letters among what happened at an inbox.
use Rattle.std.specs.Prelude.{ℕ, List, [], ◌∷◌}
use Rattle.yp_io.specs.declared.stream.Peer.{Peer}
use Rattle.yp_io.specs.Inboxes.{InboxEvent, Arrived, Silent, Sent}

-- the letters that were sent
abbrev pub letters_of : List InboxEvent → List (Peer × List ℕ)
letters_of [] = []
letters_of (Arrived peer bytes ∷ events) = letters_of events
letters_of (Silent ∷ events) = letters_of events
letters_of (Sent peer bytes ∷ events) = (peer, bytes) ∷ letters_of events
