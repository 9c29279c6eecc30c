-- A guest as it stands, at work or between two workers.
use Rattle.std.specs.Prelude.{ℕ}
use Rattle.yp_io.specs.Callers.{CallerWire}
use Rattle.yp_answer.specs.inside.session.Cuts.{Talk}

-- who called and with which wire, the number of the conversation, and how it stands
pub record GuestState (S K : Type 0) : Type 0 where
  pub origin : CallerWire S K
  pub number : ℕ
  pub talk : Talk S K

-- a guest that one worker has left and no other taken over yet, with a front of what the host of that one knew
pub record WaitingGuest (S K F : Type 0) : Type 0 where
  pub guest : GuestState S K
  pub front : F
