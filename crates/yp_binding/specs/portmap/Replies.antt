-- What a call gets of a port mapper, and what it leaves of its registry (RFC 1833 section 3).
use Rattle.std.specs.Prelude.{ℕ, List, ◌++◌, map, Option, Some, None}
use Rattle.yp_io.specs.declared.stream.Peer.{Peer}
use Rattle.yp_xdr.specs.Kind.{Kind, U32, Boolean, ListOf, Value}
use Rattle.yp_xdr.specs.Spelling.{spelling}
use Rattle.yp_rpc.specs.declared.reply.ReplyHead.TheVariants.{Success}
use Rattle.yp_rpc.specs.Reply.{reply_head}
use Rattle.yp_binding.specs.declared.portmap.mapping.Mapping.{Mapping}
use Rattle.yp_binding.specs.declared.portmap.request.Request.{Request}
use Rattle.yp_binding.specs.declared.portmap.request.Request.TheVariants.{Nothing, Answer, Set, Unset, GetPort, Dump}
use Rattle.yp_binding.specs.portmap.Registry.{mapping_kind, mapping_view, is_set, with_set, is_unset, with_unset, port_for}
use Rattle.yp_binding.specs.portmap.Requests.{asked_by}

-- the head of a reply with results, and the results
abbrev pub success : ℕ → (kind : Kind) → Value kind → List ℕ
success xid kind results = reply_head xid Success ++ spelling kind results

-- the reply to a request of a caller, on a list of mappings, or silence
abbrev pub request_reply : Peer → List Mapping → Request → Option (List ℕ)
request_reply from mappings Nothing = None
request_reply from mappings (Answer xid head) = Some (reply_head xid head)
request_reply from mappings (Set xid asked) = Some (success xid Boolean (is_set from asked mappings))
request_reply from mappings (Unset xid asked) = Some (success xid Boolean (is_unset from asked mappings))
request_reply from mappings (GetPort xid asked) = Some (success xid U32 (port_for asked mappings))
request_reply from mappings (Dump xid) = Some (success xid (ListOf mapping_kind) (map mapping_view mappings))

-- the list behind a request
abbrev pub request_after : Peer → List Mapping → Request → List Mapping
request_after from mappings Nothing = mappings
request_after from mappings (Answer xid head) = mappings
request_after from mappings (Set xid asked) = with_set from asked mappings
request_after from mappings (Unset xid asked) = with_unset from asked mappings
request_after from mappings (GetPort xid asked) = mappings
request_after from mappings (Dump xid) = mappings

abbrev pub reply : Peer → List Mapping → List ℕ → Option (List ℕ)
reply from mappings call = request_reply from mappings (asked_by call)

abbrev pub after : Peer → List Mapping → List ℕ → List Mapping
after from mappings call = request_after from mappings (asked_by call)
