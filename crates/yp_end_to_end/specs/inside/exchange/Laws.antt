-- What a client is told is what the maps of the server have, for each procedure.
use Rattle.std.specs.Prelude.{◌≡◌, ℕ, ◌≤◌, List, [], length, Some, Ok, IfOk}
use Rattle.yp_io.specs.declared.stream.Peer.{Peer}
use Rattle.yp_rpc.specs.inside.Laws.{IsWord}
use Rattle.yp_messages.specs.Numbers.{name_max, key_max}
use Rattle.yp_version.specs.Drafts.{Draft}
use Rattle.yp_board.specs.Catalogues.{serves}
use Rattle.yp_answer.specs.Maps.{Maps, row_check}
use Rattle.yp_answer.specs.Served.{AreServed}
use Rattle.yp_client.specs.Limits.{reply_max, all_max}
use Rattle.yp_client.specs.Results.{value_of, row_of, master_of, order_of, maps_of, taken_of, made_of}
use Rattle.yp_client.specs.inside.Results.{served_of}
use Rattle.yp_client.specs.All.{all_said}
use Rattle.yp_client.specs.Asked.{match_call, first_call, next_call, all_call, master_call, order_call}
use Rattle.yp_client.specs.inside.Asked.{domain_call}
use Rattle.yp_client.specs.Asked.{maplist_call, pull_request, pull_call, make_named_call}
use Rattle.yp_end_to_end.specs.exchange.Told.{told, rows_tell, map_tells, value_in}
use Rattle.yp_end_to_end.specs.inside.exchange.Told.{first_in, next_in}
use Rattle.yp_end_to_end.specs.exchange.Told.{master_in, order_in, names_in, stat_told}
use Rattle.yp_end_to_end.specs.inside.exchange.Told.{all_told}
use Rattle.yp_end_to_end.specs.inside.exchange.Served.{ReplyTells, RepliesTelling, DraftHasRoom}
use Rattle.yp_messages.specs.Transfers.{xfr_number}
use Rattle.yp_messages.specs.declared.transfer.XfrStat.{XfrStat}
use Rattle.yp_answer.specs.declared.procedure.Path.TheVariants.{Stream}
use Rattle.yp_answer.specs.Reply.{reply, make_reply, make_response}
use Rattle.yp_answer.specs.Transfer.{xfr_check}
use Rattle.yp_answer.specs.Make.{make_check}

-- a call about a domain, about a map, and about a key, whose parts are within their limits
abbrev pub ForDomain : (Maps → Peer → ℕ → List ℕ → Type 0) → Type 0
ForDomain P = (maps : Maps) (peer : Peer) (xid : ℕ) (domain : List ℕ)
    → AreServed maps
    → IsWord xid
    → length domain ≤ name_max
    → P maps peer xid domain

abbrev pub ForMap : (Maps → Peer → ℕ → List ℕ → List ℕ → Type 0) → Type 0
ForMap P = ForDomain (λ maps peer xid domain. (map : List ℕ) → length map ≤ name_max → P maps peer xid domain map)

abbrev pub ForKey : (Maps → Peer → ℕ → List ℕ → List ℕ → List ℕ → Type 0) → Type 0
ForKey P = ForMap (λ maps peer xid domain map. (key : List ℕ) → length key ≤ key_max → P maps peer xid domain map key)

-- DOMAIN: whether it is served
abbrev pub DomainTells : Type 0
DomainTells = ForDomain (λ maps peer xid domain.
    ReplyTells maps peer reply_max (domain_call domain xid) (served_of xid) (Ok (serves domain maps.catalogue)))

-- MATCH: the value of the key in the version that is shown
abbrev pub MatchTells : Type 0
MatchTells = ForKey (λ maps peer xid domain map key.
    ReplyTells maps peer reply_max (match_call domain map key xid) (value_of xid)
    (rows_tell (value_in key) maps peer domain map))

-- FIRST: its first row
abbrev pub FirstTells : Type 0
FirstTells = ForMap (λ maps peer xid domain map.
    ReplyTells maps peer reply_max (first_call domain map xid) (row_of xid) (rows_tell first_in maps peer domain map))

-- NEXT: the row behind the one with the key
abbrev pub NextTells : Type 0
NextTells = ForKey (λ maps peer xid domain map key.
    ReplyTells maps peer reply_max (next_call domain map key xid) (row_of xid)
    (rows_tell (next_in key) maps peer domain map))

-- ALL: all its rows, onto a builder that has room for them
abbrev pub AllTells : Type 0
AllTells = ForMap (λ maps peer xid domain map. (draft : Draft)
    → DraftHasRoom draft (row_check maps peer.port domain map) →
    ReplyTells maps peer all_max (all_call domain map xid) (all_said draft xid)
    (all_told draft (row_check maps peer.port domain map)))

-- MASTER: the name of its master
abbrev pub MasterTells : Type 0
MasterTells = ForMap (λ maps peer xid domain map.
    ReplyTells maps peer reply_max (master_call domain map xid) (master_of xid) (map_tells master_in maps domain map))

-- ORDER: its order
abbrev pub OrderTells : Type 0
OrderTells = ForMap (λ maps peer xid domain map.
    ReplyTells maps peer reply_max (order_call domain map xid) (order_of xid) (map_tells order_in maps domain map))

-- MAPLIST: the names of the domain's maps that have a version
abbrev pub MaplistTells : Type 0
MaplistTells = ForDomain (λ maps peer xid domain.
    ReplyTells maps peer reply_max (maplist_call domain xid) (maps_of xid) (told (names_in maps domain)))

-- XFR: the number of the status that refuses it, or of SUCC
abbrev pub PullTells : Type 0
PullTells = ForMap (λ maps peer xid domain map. (source : List ℕ) → length source ≤ name_max →
    RepliesTelling maps peer reply_max (pull_call domain map source xid) (taken_of xid)
    (Ok (xfr_number (stat_told (xfr_check maps (pull_request domain map source))))))

-- the make program: the status that refuses to make a map by its name, or the map is made first, and the reply has its
-- status
abbrev pub MakeHasResponse : Type 0
MakeHasResponse = ForMap (λ maps peer xid domain map.
    reply Stream maps peer (make_named_call domain map xid)
    ≡ make_response xid (make_check maps.catalogue peer domain (Some map)))

-- and such a reply says the number of that status
pub record SaysMade (xid : ℕ) (stat : XfrStat) : Type 0 where
  pub within : length (make_reply xid stat) ≤ reply_max
  pub says : made_of xid (make_reply xid stat) ≡ Ok (xfr_number stat)

abbrev pub MakeTells : Type 0
MakeTells = (xid : ℕ) (stat : XfrStat) → IsWord xid → SaysMade xid stat

-- ALL finds room: a builder without rows, whose master isn't longer than that of the version, has room for its rows
abbrev pub RoomForVersion : Type 0
RoomForVersion = (maps : Maps) (port : ℕ) (domain map : List ℕ) (order : ℕ) (master : List ℕ)
    → AreServed maps
    → IfOk (row_check maps port domain map) (λ version. length master ≤ length version.master)
    → DraftHasRoom (record { order = order; master = master; rows = [] }) (row_check maps port domain map)
