-- What stands in lines of the program.
use Rattle.std.specs.Prelude.{ℕ, List, ◌++◌, codes, decimal, slice_index}
use Rattle.yp_io.specs.declared.stream.Peer.{Peer}
use Rattle.yp_board.specs.Catalogues.{Name}

-- the name of a map: its domain and its map, with a slash between
abbrev pub map_text : Name → List ℕ
map_text name = name.0 ++ codes "/" ++ name.1

-- an address: its four numbers, and the port
abbrev pub peer_text : Peer → List ℕ
peer_text peer =
    decimal (slice_index peer.addr 0) ++ codes "." ++ decimal (slice_index peer.addr 1) ++ codes "."
    ++ decimal (slice_index peer.addr 2) ++ codes "." ++ decimal (slice_index peer.addr 3) ++ codes ":"
    ++ decimal peer.port
