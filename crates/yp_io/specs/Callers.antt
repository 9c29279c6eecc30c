-- Who called by a connection, and the wire of the connection as it came.
use Rattle.yp_io.specs.declared.stream.Peer.{Peer}
use Rattle.yp_io.specs.declared.stream.Pair.{Pair}

pub record CallerWire (S K : Type 0) : Type 0 where
  pub peer : Peer
  pub wire : Pair S K
