-- A world of bytes: what came, what was sent, and what a crash may leave of each file.
use Rattle.std.specs.Prelude.{ℕ, Bool, List, Option}
use Rattle.yp_io.specs.declared.stream.Peer.{Peer}
use Rattle.yp_io.specs.Disk.{DiskState}
use Rattle.yp_version.specs.Versions.{MapVersion}
use Rattle.yp_board.specs.Catalogues.{Catalogue}
use Rattle.yp_texts.specs.declared.reading.Reading.{Reading}
use Rattle.yp_answer.specs.declared.procedure.Path.{Path}
use Rattle.yp_answer.specs.declared.procedure.Path.TheVariants.{Stream, Datagram as Mail}

-- a connection that was served: its caller, what came, what was sent back, and whether it was cut short: its wire
-- failed, memory ran out, a limit of calls was reached, or it was let go
pub record Connection : Type 0 where
  pub peer : Peer
  pub came : List ℕ
  pub sent : List ℕ
  pub cut : Bool

-- a datagram that was served: its sender, what came, what was sent back, or nothing, and whether that was lost or late
pub record Datagram : Type 0 where
  pub peer : Peer
  pub came : List ℕ
  pub sent : Option (List ℕ)
  pub lost : Bool
  pub late : Bool

-- a datagram that was posted, and to whom
pub record Letter : Type 0 where
  pub peer : Peer
  pub bytes : List ℕ

-- the file of a map: as it was at first, at each moment, the last one first, and as it is at the end
pub record MapFile : Type 0 where
  pub first : DiskState
  pub moments : List DiskState
  pub last : DiskState

-- where the first version of a map stands: in the words, or in a file
pub data Store : Type 0 where
  Given : MapVersion → Store
  Filed : MapFile → Store

-- the bytes of a stream, or datagrams
abbrev pub Came : Path → Type 0
Came Stream = List ℕ
Came Mail = List (List ℕ)

-- a server that was asked for a map, dialed or in datagrams, and what came of it
pub record Dialed : Type 0 where
  pub peer : Peer
  pub path : Path
  pub came : Came path

-- a stream that was to come to a listener: its caller, and its bytes
pub record Incoming : Type 0 where
  pub peer : Peer
  pub came : List ℕ

-- the own name with the names of the maps, and the store of each; the texts by their names, where they are told, and
-- how that of a map is read; the streams that were to come, the connections that were served, and inbox by inbox the
-- datagrams; the servers that were asked for maps; what was posted; and the maps whose transfer was told as done
pub record World : Type 0 where
  pub catalogue : Catalogue
  pub stores : List Store
  pub text : List ℕ → Option (List ℕ)
  pub reading : List ℕ → Reading
  pub coming : List Incoming
  pub connections : List Connection
  pub datagrams : List (List Datagram)
  pub dialed : List Dialed
  pub posted : List Letter
  pub done : List ℕ
