-- The registry of a port mapper: a list of mappings, in the order in which they were set, and what each call does to it
-- (RFC 1833 section 3).
use Rattle.std.specs.Prelude.{ℕ, Bool, not, ◌&&◌, ◌||◌, ◌==◌, nat_le, nat_lt, bytes_eq}
use Rattle.std.specs.Prelude.{if◌then◌else◌, List, [], ◌∷◌, ◌++◌, length, filter, Option, Some, None}
use Rattle.std.specs.List.{find, list_any, IsDistinct}
use Rattle.yp_io.specs.declared.stream.Peer.{Peer}
use Rattle.yp_xdr.specs.Kind.{Kind, U32, Sequence, Value}
use Rattle.yp_binding.specs.declared.portmap.mapping.Mapping.{Mapping}
use Rattle.yp_io.specs.Peers.{own_host}
use Rattle.yp_binding.specs.portmap.Numbers.{tcp, udp, port_max, mappings_max}

-- a mapping as XDR: program, version, protocol and port
abbrev pub mapping_kind : Kind
mapping_kind = Sequence U32 (Sequence U32 (Sequence U32 U32))

abbrev pub mapping_view : Mapping → Value mapping_kind
mapping_view mapping = (mapping.prog, (mapping.vers, (mapping.prot, mapping.port)))

abbrev pub mapping_of : Value mapping_kind → Mapping
mapping_of fields = record { prog = fields.0; vers = fields.1.0; prot = fields.1.1.0; port = fields.1.1.1 }

-- a mapping is of this version of a program
abbrev pub is_of : Mapping → Mapping → Bool
is_of asked mapping = (mapping.prog == asked.prog) && (mapping.vers == asked.vers)

-- a mapping is of this version of a program over this protocol
abbrev pub is_same : Mapping → Mapping → Bool
is_same asked mapping = is_of asked mapping && (mapping.prot == asked.prot)

-- No two mappings are of one version of a program over one protocol.
abbrev pub Differ : List Mapping → Type 0
Differ mappings = IsDistinct is_same mappings

-- a caller is on the own host
abbrev pub is_here : Peer → Bool
is_here from = bytes_eq from.addr own_host

-- a mapping may stand: its protocol is TCP or UDP, and its port is one
abbrev pub may_stand : Mapping → Bool
may_stand mapping =
    ((mapping.prot == tcp) || (mapping.prot == udp)) && nat_le 1 mapping.port && nat_le mapping.port port_max

-- SET puts a mapping at the end of the list, for a caller on the own host, where it may stand, none is the same, and
-- there is room; else it changes nothing.
abbrev pub is_set : Peer → Mapping → List Mapping → Bool
is_set from asked mappings =
    is_here from && may_stand asked && not (list_any (is_same asked) mappings) && nat_lt (length mappings) mappings_max

abbrev pub with_set : Peer → Mapping → List Mapping → List Mapping
with_set from asked mappings = if is_set from asked mappings then mappings ++ asked ∷ [] else mappings

-- UNSET removes each mapping of a version of a program, for a caller on the own host, over whichever protocol it is.
abbrev pub is_unset : Peer → Mapping → List Mapping → Bool
is_unset from asked mappings = is_here from && list_any (is_of asked) mappings

abbrev pub with_unset : Peer → Mapping → List Mapping → List Mapping
with_unset from asked mappings =
    if is_here from then filter (λ mapping. not (is_of asked mapping)) mappings else mappings

-- GETPORT gives the port of the mapping that is the same, and 0 where there is none.
abbrev pub port_or_none : Option Mapping → ℕ
port_or_none None = 0
port_or_none (Some mapping) = mapping.port

abbrev pub port_for : Mapping → List Mapping → ℕ
port_for asked mappings = port_or_none (find (is_same asked) mappings)
