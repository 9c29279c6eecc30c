-- The world of a command over one file.
use Rattle.std.specs.Prelude.{ℕ, ◌-◌, suc, Bool, true, false, List, []}
use Rattle.std.specs.Prelude.{◌∷◌, ◌++◌, ◌==◌, ◌&&◌, bytes_eq, if◌then◌else◌, length, take, drop, Option, Some, None}
use Rattle.std.specs.Prelude.{unwrap_or}
use Rattle.yp_io.specs.declared.stream.Peer.{Peer}
use Rattle.yp_io.specs.Inboxes.{InboxEvent, Arrived, Silent, Sent}
use Rattle.yp_io.specs.Disk.{History, states, moment}
use Rattle.yp_io.specs.Dials.{Connected, Sending, Posted, Asked}
use Rattle.yp_version.specs.Versions.{MapVersion, unmarked}
use Rattle.yp_board.specs.Catalogues.{Name}
use Rattle.yp_board.specs.Logs.{Log, starts}
use Rattle.yp_texts.specs.declared.reading.Reading.{Reading}
use Rattle.yp_texts.specs.Readings.{reading_of}
use Rattle.yp_answer.specs.declared.procedure.Path.TheVariants.{Stream, Datagram as Mail}
use Rattle.yp_answer.specs.declared.session.session.End.{End}
use Rattle.yp_answer.specs.declared.session.session.End.TheVariants.{Clean, Torn, TooLong}
use Rattle.yp_answer.specs.declared.session.session.End.TheVariants.{ReadFault, WriteFault, Enough}
use Rattle.yp_headline.specs.World.{World, Incoming, Letter, Store, Given, Filed, Dialed}

-- whether a session that ended so was cut short
abbrev pub is_cut : End → Bool
is_cut Clean = false
is_cut (Torn at) = false
is_cut (TooLong at) = false
is_cut ReadFault = true
is_cut WriteFault = true
is_cut Enough = true

-- ---- files

-- what a disk told as its file, from a first moment to a last one
abbrev pub filed : Option History → Option History → Store
filed (Some old) (Some new) = Filed (record {
  first = old.state;
  moments = take (suc (moment new - moment old)) (states new);
  last = new.state;
})
filed _ _ = Given (unmarked 0 [] [])

abbrev pub stores_between : {D : Type 0} → (D → Option History) → List D → List D → List Store
stores_between history (old ∷ olds) (new ∷ news) = filed (history old) (history new) ∷ stores_between history olds news
stores_between history _ _ = []

-- a server that was dialed, and the bytes that came of it
abbrev pub streamed : Peer → List ℕ → Dialed
streamed peer came = record { peer = peer; path = Stream; came = came }

-- one that was asked in datagrams, and those that came of it
abbrev pub mailed : Peer → List (List ℕ) → Dialed
mailed peer came = record { peer = peer; path = Mail; came = came }

-- a wire that is to come to a listener
abbrev pub incoming_of : Connected → Incoming
incoming_of wire = record { peer = wire.peer; came = unwrap_or wire.input [] }

-- a wire that came of a dial
abbrev pub dialed_of : Connected → Dialed
dialed_of wire = streamed wire.peer (unwrap_or wire.input [])

-- the datagrams that arrived of a peer
abbrev pub mails_from : Peer → List InboxEvent → List (List ℕ)
mails_from peer [] = []
mails_from peer (Arrived from mail ∷ events) =
    if bytes_eq from.addr peer.addr && (from.port == peer.port) then mail ∷ mails_from peer events
    else mails_from peer events
mails_from peer (Silent ∷ events) = mails_from peer events
mails_from peer (Sent to mail ∷ events) = mails_from peer events

-- a server that was asked in datagrams, while this happened at an inbox
abbrev pub walked_of : Peer → List InboxEvent → Dialed
walked_of peer events = mailed peer (mails_from peer events)

-- the datagrams that a dial posted, but for questions whose answer was awaited
abbrev pub posted_of : List Sending → List Letter
posted_of [] = []
posted_of (Posted peer bytes ∷ sent) = record { peer = peer; bytes = bytes } ∷ posted_of sent
posted_of (Asked peer bytes came ∷ sent) = posted_of sent

-- those that were told more at last than at first
abbrev pub posted_between : Option (List Sending) → Option (List Sending) → List Letter
posted_between None new = []
posted_between (Some old) None = []
posted_between (Some old) (Some new) = posted_of (drop (length old) new)

-- ---- one file

-- the first map, where a command tells that it stored it
abbrev pub done_where : Bool → List ℕ
done_where true = 0 ∷ []
done_where false = []

-- a command over one file: the own name and that of the map, the texts by their names and how that of a map is read,
-- the servers that were asked, and what the disk told at first and at last
pub record FileRun : Type 0 where
  pub own : List ℕ
  pub name : Name
  pub text : List ℕ → Option (List ℕ)
  pub reading : List ℕ → Reading
  pub dialed : List Dialed
  pub old : History
  pub new : History

-- one that reads no text
abbrev pub textless_run : (own : List ℕ) → Name → List Dialed → (old new : History) → FileRun
textless_run own name dialed old new = record {
  own = own;
  name = name;
  text = λ name. None;
  reading = reading_of;
  dialed = dialed;
  old = old;
  new = new;
}

-- its world, where it tells the map as stored or doesn't
abbrev pub file_world : FileRun → (stored : Bool) → World
file_world run stored = record {
  catalogue = record { own = run.own; maps = run.name ∷ [] };
  stores = filed (Some run.old) (Some run.new) ∷ [];
  text = run.text;
  reading = run.reading;
  coming = [];
  connections = [];
  datagrams = [];
  dialed = run.dialed;
  posted = [];
  done = done_where stored;
}

-- the log that begins with what the file stood for
abbrev pub file_log : Option MapVersion → Log
file_log held = starts 0 (held ∷ [])

-- and goes on with the version that was stored
abbrev pub file_log_with : Option MapVersion → MapVersion → Log
file_log_with held version = file_log held ++ (0, version) ∷ []
