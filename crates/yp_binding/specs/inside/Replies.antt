-- The longest datagram of a binder, and when bytes are its reply.
use Rattle.std.specs.Prelude.{◌≡◌, ℕ, ◌<◌, ◌≤◌, List}
use Rattle.std.specs.Prelude.{length, take, Option, Some, None}

-- the reply is at the front of the buffer; of silence the length is 0
abbrev pub IsReply : Option (List ℕ) → ℕ → List ℕ → Type 0
IsReply None len buf = len ≡ 0
IsReply (Some bytes) len buf = (take len buf ≡ bytes) × (0 < len) × (len ≤ length buf)
