-- A conversation in memory, and how it goes on.
use Rattle.std.specs.Prelude.{◌≡◌, ◌≢◌, ◌⊎◌, ℕ, Bool, true, false, List, [], ◌∷◌, ◌++◌, Option, None, Some, ⊤}
use Rattle.std.specs.List.{All}
use Rattle.yp_io.specs.declared.stream.Peer.{Peer}
use Rattle.yp_io.specs.declared.hall.Awaited.{Awaited}
use Rattle.yp_io.specs.declared.hall.Awaited.TheVariants as awaited
use Rattle.yp_io.specs.declared.ready.TrySource as try_source
use Rattle.yp_io.specs.declared.ready.TrySink as try_sink
use Rattle.yp_rpc.specs.Records.{sent, joined}
use Rattle.yp_board.specs.Views.{Seen, IsFront}
use Rattle.yp_answer.specs.Transfer.{Taken}
use Rattle.yp_answer.specs.declared.session.conversation.Advance.{Advance}
use Rattle.yp_answer.specs.declared.session.conversation.Advance.TheVariants.{TakesLong, Ended, NoMemory}
use Rattle.yp_answer.specs.session.Progress.{Progress}
use Rattle.yp_answer.specs.session.Wires.{Wire}
use Rattle.yp_answer.specs.session.Hosts.{Conduct}
use Rattle.yp_answer.specs.session.Cuts.{Deed, Answered, Carried, Read, DoesDeed, Cut, IsCut, EndsSo}
use Rattle.yp_answer.specs.inside.session.Makes.{BeginsWithMake}
use Rattle.yp_answer.specs.inside.Streams.{Held, held_parts}

module _ {H : Type 0} (conduct : Conduct H) (peer : Peer) where
  -- deeds, one after the other
  abbrev pub DoesDeeds : List Deed → H → H → Type 0
  DoesDeeds [] old new = new ≡ old
  DoesDeeds (deed ∷ deeds) old new = (mid : H) × DoesDeed conduct peer deed old mid
      × DoesDeeds deeds mid new

-- The same catalogue is seen, and what was known is a front of what is known.
pub record SeesOn (old new : Seen) : Type 0 where
  pub catalogue : new.catalogue ≡ old.catalogue
  pub grown : IsFront old.known new.known

-- a reply that goes out piece by piece: its parts, and the bytes that wait to be written
pub record OpenReply : Type 0 where
  pub held : Held
  pub waits : List ℕ

-- Something is still to be sent of it.
abbrev pub IsBegun : OpenReply → Type 0
IsBegun stream = stream.waits ≡ [] → held_parts stream.held ≢ []

-- what is still to be sent of it
abbrev pub rest_of : Option OpenReply → List ℕ
rest_of None = []
rest_of (Some stream) = sent (stream.waits ++ joined (held_parts stream.held))

-- a conversation: its source and its sink, how far records were read, what came behind them, what is owed to the sink,
-- the reply that is open, the transfer that waits until its reply is out, whether all is paid and passed on, and
-- whether memory ran out in a reply
pub record Talk (S K : Type 0) : Type 0 where
  pub source : S
  pub sink : K
  pub progress : Progress
  pub incoming : List ℕ
  pub owed : List ℕ
  pub stream : Option OpenReply
  pub waiting : Option Taken
  pub settled : Bool
  pub broken : Bool

module _ {S K : Type 0} (source : try_source.Ghosts S) (sink : try_sink.Ghosts K) where
  -- what the two halves of a wire tell
  abbrev pub told_by : S → K → Wire
  told_by in_half out_half = record {
    source = record { input = source.input in_half; faults = source.faults in_half };
    sink = record {
      output = sink.output out_half;
      flushed = sink.flushed out_half;
      faults = sink.faults out_half;
    };
  }

  abbrev pub cut_of : Talk S K → Cut
  cut_of talk = record {
    wire = told_by talk.source talk.sink;
    progress = talk.progress;
    incoming = talk.incoming;
    owed = talk.owed;
    rest = rest_of talk.stream;
    waiting = talk.waiting;
    settled = talk.settled;
    broken = talk.broken;
  }

-- what a conversation waits for that can't go on: that what is owed is taken, a record, or the rest of one
abbrev pub awaited_in : Bool → List ℕ → Awaited
awaited_in false incoming = awaited.Payment
awaited_in true [] = awaited.Record
awaited_in true (byte ∷ more) = awaited.Rest

-- Between two cuts these deeds were done.
abbrev pub Follows : List Deed → Cut → Cut → Type 0
Follows deeds old new = (start : Wire) (before : List Deed) → IsCut start before old → IsCut start (before ++ deeds) new

-- Nothing was done, or more was read.
abbrev pub FollowsRead : Cut → Cut → Type 0
FollowsRead old new = Follows [] old new ⊎ Follows (Read old.wire ∷ []) old new

-- It didn't take long: no map was made for a record, and no transfer was carried out.
abbrev pub IsBrief : Deed → Type 0
IsBrief (Answered turn) = turn.made ≡ None
IsBrief (Carried taken wire) = ⊥
IsBrief (Read wire) = ⊤

-- a conversation at one moment: its host, and its cut
pub record Talking (H : Type 0) : Type 0 where
  pub host : H
  pub cut : Cut

abbrev pub talking : {H : Type 0} → H → Cut → Talking H
talking host cut = record { host = host; cut = cut }

-- A conversation went on, and its host with it: what that knew before is a front of what it knows. Where it carries
-- nothing out it did nothing that takes long.
pub record GoesOn {H : Type 0} (conduct : Conduct H) (peer : Peer) (carries : Bool) (old new : Talking H) : Type 0 where
  pub deeds : List Deed
  pub does : DoesDeeds conduct peer deeds old.host new.host
  pub brief : carries ≡ false → All IsBrief deeds
  pub follows : Follows deeds old.cut new.cut
  pub sees : SeesOn (conduct.seen old.host) (conduct.seen new.host)

-- what came of going on with a peer: What takes long is a transfer that waits, or a MAKE that came and isn't taken yet;
-- all is paid before that.
abbrev pub ComesTo : Peer → ℕ → Advance → Cut → Type 0
ComesTo peer most (Ended end) now = EndsSo most end now
ComesTo peer most NoMemory now = now.broken ≡ true
ComesTo peer most TakesLong now =
    (now.settled ≡ true) × ((now.waiting ≢ None) ⊎ BeginsWithMake peer now.incoming)
ComesTo peer most _ now = ⊤
