-- What a source shows that is asked for a map, and what a transfer that succeeds has of it.
use Rattle.std.specs.Prelude.{◌≡◌, ◌≤◌, ◌<◌, ℕ, ◌+◌, ◌%◌, ◌^◌, ◌&&◌, bytes_eq, List, [], ◌∷◌, length, flat_map}
use Rattle.std.specs.Prelude.{slice_get, slice_index, Some, Ok}
use Rattle.std.specs.List.{AllByRecursion, IsDistinct}
use Rattle.yp_io.specs.declared.stream.Peer.{Peer}
use Rattle.yp_rpc.specs.Called.{call_of}
use Rattle.yp_messages.specs.Numbers.{name_max}
use Rattle.yp_messages.specs.Messages.{req_key}
use Rattle.yp_version.specs.Rows.{Row}
use Rattle.yp_version.specs.Versions.{MapVersion}
use Rattle.yp_board.specs.Catalogues.{Catalogue, Name}
use Rattle.yp_board.specs.Logs.{Log, shown}
use Rattle.yp_board.specs.Views.{IsFront}
use Rattle.yp_publisher.specs.Rising.{IsRisingLog}
use Rattle.yp_answer.specs.declared.procedure.Path.{Path}
use Rattle.yp_answer.specs.declared.procedure.Path.TheVariants.{Stream, Datagram as Mail}
use Rattle.yp_answer.specs.Maps.{map_check}
use Rattle.yp_answer.specs.Served.{maps_on}
use Rattle.yp_answer.specs.Reply.{Bytes}
use Rattle.yp_headline.specs.Answering.{answer, map_call}
use Rattle.yp_headline.specs.World.{World, Dialed}
use Rattle.yp_headline.specs.Storing.{stood_for}
use Rattle.yp_headline.specs.Fetching.{Gives}
use Rattle.yp_headline.specs.Publishing.{IsMarked, IsFetched}

-- the calls behind the first: MASTER, ALL and ORDER; or MASTER, FIRST, NEXT behind each row, and ORDER
abbrev pub next_calls : Name → (xid : ℕ) → List Row → List (List ℕ)
next_calls name xid [] = map_call 10 name xid ∷ []
next_calls name xid (row ∷ rows) =
    call_of req_key xid 100004 2 5 (name.0, (name.1, row.0)) ∷ next_calls name ((xid + 1) % 2 ^ 32) rows

abbrev pub later_calls : Path → Name → List Row → List (List ℕ)
later_calls Stream name rows = map_call 9 name 2 ∷ map_call 8 name 3 ∷ map_call 10 name 4 ∷ []
later_calls Mail name rows = map_call 9 name 2 ∷ map_call 4 name 3 ∷ next_calls name 4 rows

-- a catalogue of a server: at most 64 maps, no two of one name, and names of 1 to 64 bytes
pub record AreNamed (catalogue : Catalogue) : Type 0 where
  pub names : AllByRecursion (λ name. (0 < length name) × (length name ≤ name_max))
      (catalogue.own ∷ flat_map (λ name. name.0 ∷ name.1 ∷ []) catalogue.maps)
  pub distinct : IsDistinct (λ a b. bytes_eq a.0 b.0 && bytes_eq a.1 b.1) catalogue.maps
  pub count : length catalogue.maps ≤ 64

-- the maps of a server, the path on which it is asked for them, and who asks
pub record Inquiry : Type 0 where
  pub catalogue : Catalogue
  pub path : Path
  pub caller : Peer

-- Its calls were answered so in turn, on fronts of a log that go from one up to another.
abbrev pub Answers : Inquiry → (calls replies : List (List ℕ)) → (known last : Log) → Type 0
Answers inquiry [] [] known last = last ≡ known
Answers inquiry (call ∷ calls) (reply ∷ replies) known last = (front : Log) × IsFront known front
    × (answer inquiry.path (maps_on inquiry.catalogue front) inquiry.caller call ≡ Bytes reply)
    × Answers inquiry calls replies front last
Answers _ _ _ _ _ = ⊥

-- a source of what a server gave: a log that rises, each of whose versions some file stands for, on whose fronts the
-- calls, with names within their limits, were answered, from a first one to a last one, and these were the replies
pub record Source (name : Name) {server : Dialed} {version : MapVersion} (gives : Gives server version) : Type 0 where
  pub names : (length name.0 ≤ name_max) × (length name.1 ≤ name_max)
  pub catalogue : Catalogue
  pub named : AreNamed catalogue
  pub caller : Peer
  pub log : Log
  pub stored : AllByRecursion (λ entry. (file : List ℕ) × ((at : ℕ) → slice_index file at < 256)
      × (stood_for file ≡ Some (Some entry.1))) log
  pub rises : IsRisingLog log
  pub first : Log
  pub last : Log
  pub to_log : IsFront last log
  pub on_first : answer server.path (maps_on catalogue first) caller (map_call 10 name 1) ≡ Bytes gives.order
  pub others : Answers (record { catalogue = catalogue; path = server.path; caller = caller })
      (later_calls server.path name gives.rows) (gives.master ∷ gives.others) first last

-- Where what a server gave for a map is of such a source, it showed the stored version throughout, from the first reply
-- to the last, but for the mark.
abbrev pub IsOfSource : {server : Dialed} {version : MapVersion} → World → ℕ → Gives server version
    → (stored : MapVersion) → Type 0
IsOfSource world number gives stored = (name : Name) → slice_get world.catalogue.maps number ≡ Some name
    → (source : Source name gives) → (origin : MapVersion) × IsMarked origin stored
    × ((front : Log) → IsFront source.first front → IsFront front source.last
    → map_check (maps_on source.catalogue front) name.0 name.1 ≡ Ok origin)

-- A transfer of a map succeeded: the log shows a version that a server gave.
pub record Succeeded (world : World) (log : Log) (number : ℕ) : Type 0 where
  pub stored : MapVersion
  pub fetched : IsFetched world stored
  pub shows : shown number log ≡ Some stored
  pub of_source : IsOfSource world number fetched.gives stored
