-- The worlds of runs: what the parts of an office tell, as bytes.
use Rattle.std.specs.Prelude.{ℕ, Bool, true, false, List, [], ◌∷◌, map, None}
use Rattle.yp_io.specs.declared.stream.Peer.{Peer}
use Rattle.yp_io.specs.Dials.{Connected}
use Rattle.yp_version.specs.Rows.{Row}
use Rattle.yp_board.specs.Catalogues.{Name}
use Rattle.yp_texts.specs.Readings.{reading_of}
use Rattle.yp_host.specs.Connections.{Service, Connection as Served}
use Rattle.yp_command.specs.Words.{nobody}
use Rattle.yp_command.specs.declared.office.status.Status.{Status}
use Rattle.yp_command.specs.declared.office.status.Status.TheVariants as status
use Rattle.yp_command_serve.specs.Once.{once_maps, once_version}
use Rattle.yp_headline.specs.World.{World, Connection, Given}
use Rattle.yp_headline.specs.inside.Files.{dialed_of, posted_between, stores_between}

-- whether a session was cut short, by its status
abbrev pub cuts_short : Status → Bool
cuts_short status.ReadFault = true
cuts_short status.WriteFault = true
cuts_short status.Enough = true
cuts_short other = false

-- a connection that was served to this status
abbrev pub connection_of : Peer → Status → (came sent : List ℕ) → Connection
connection_of peer status came sent = record { peer = peer; came = came; sent = sent; cut = cuts_short status }

-- ---- once

abbrev pub once_world : Name → List Row → Status → (came sent : List ℕ) → World
once_world store rows status came sent = record {
  catalogue = (once_maps store rows).catalogue;
  stores = Given (once_version rows) ∷ [];
  text = λ name. None;
  reading = reading_of;
  coming = [];
  connections = connection_of nobody status came sent ∷ [];
  datagrams = [];
  dialed = [];
  posted = [];
  done = [];
}

-- ---- session

-- a connection over stored maps that was served to an end, while these wires came of its dial
abbrev pub session_world : {D B E : Type 0} → Service D B E → (old new : Served D E) → Connection → List Connected
    → World
session_world service old new connection wires = record {
  catalogue = service.catalogue;
  stores = stores_between service.keeping.history old.disks new.disks;
  text = (service.telling.told old.desk).text;
  reading = reading_of;
  coming = record { peer = connection.peer; came = connection.came } ∷ [];
  connections = connection ∷ [];
  datagrams = [];
  dialed = map dialed_of wires;
  posted = posted_between (service.telling.dial old.desk).letters (service.telling.dial new.desk).letters;
  done = [];
}

-- whether a session served its connection, by its status
abbrev pub was_served : Status → Bool
was_served status.Done = true
was_served (status.Torn at) = true
was_served (status.TooLong at) = true
was_served status.ReadFault = true
was_served status.WriteFault = true
was_served status.Enough = true
was_served other = false
