-- What the code tells of a command, and what it has read of the words.
use Rattle.std.specs.Prelude.{◌≡◌, ℕ, ◌≤◌, ◌<◌, true, IsSome, ⊤}
use Rattle.std.specs.Prelude.{List, [], ◌∷◌, All, length, map}
use Rattle.std.specs.Prelude.{Option, Some, None, Vec, Result, Ok, Err}
use Rattle.std.specs.Borrow.{Bor}
use Rattle.std.specs.declared.alloc.Global.{Global}
use Rattle.std.specs.declared.alloc.AllocError.{AllocError}
use Rattle.yp_io.specs.declared.stream.Peer.{Peer}
use Rattle.yp_binding.specs.Kept.{servers_max}
use Rattle.yp_board.specs.declared.catalog.MapName.{MapName}
use Rattle.yp_board.specs.Catalogues.{Name, name_max, maps_max, name_view}
use Rattle.yp_board.specs.inside.Catalogues.{catalog_fault}
use Rattle.yp_board.specs.readers.Boards.{workers_max}
use Rattle.yp_client.specs.inside.Questions.{QuestionIsWithin}
use Rattle.yp_command.specs.declared.command.HostWord.{HostWord}
use Rattle.yp_command.specs.declared.command.Command.{Command}
use Rattle.yp_command.specs.declared.words.ParseFault.{ParseFault}
use Rattle.yp_command.specs.declared.words.ParseFault.TheVariants.{Usage, NoMemory}
use Rattle.yp_command.specs.Forms.{Host, kind_of, is_reverse}
use Rattle.yp_command.specs.Words.{Meaning, word, host_view, meaning, TakesMemory, Once, Session, Serve, Check, Dump}
use Rattle.yp_command.specs.Words.{Build, Load, Xfr, Walk, Revnet, Sample, Push, Bind, Portmap, CallMapper, Ask, Orders}

-- ---- what is read

-- a value of the code that is read, as bytes
abbrev pub shown : {A B : Type 0} → (A → B) → Result A ℕ → Result B ℕ
shown view (Ok value) = Ok (view value)
shown view (Err at) = Err at

-- ---- the maps that words name

-- the port at which a command receives datagrams, where it does
abbrev pub port_of : Meaning → Option ℕ
port_of (Once store rows) = None
port_of (Session own peer stores hosts) = None
port_of (Serve own port workers connections turns stores hosts log) = Some port
port_of (Check store) = None
port_of (Dump store) = None
port_of (Build name store flag) = None
port_of (Load name store flag) = None
port_of (Xfr name force store host flag) = None
port_of (Walk name force store host port turns flag) = Some port
port_of (Revnet name store) = None
port_of (Sample start count) = None
port_of (Push name port window turns store hosts) = Some port
port_of (Bind port policy turns domain hosts) = Some port
port_of (Portmap port turns) = Some port
port_of (CallMapper port turns peer call) = Some port
port_of (Ask peer question) = None
port_of (Orders first others domain) = None

-- how many connections a command accepts
abbrev pub connections_of : Meaning → ℕ
connections_of (Serve own port workers connections turns stores hosts log) = connections
connections_of _ = 0

-- ---- names

-- the names of a domain and a map are within their limit
abbrev pub IsNamed : Name → Type 0
IsNamed store = (length store.0 ≤ name_max) × (length store.1 ≤ name_max)

-- an own name and one map make a catalogue, whose names are within their limits
abbrev pub IsOneMap : List ℕ → Name → Type 0
IsOneMap name store = (catalog_fault name (store ∷ []) ≡ None) × (length name ≤ name_max) × IsNamed store

-- an own name and maps make a catalogue, whose names are within their limits
abbrev pub AreMaps : List ℕ → List Name → Type 0
AreMaps own stores =
    (catalog_fault own stores ≡ None) × All IsNamed stores × (length own ≤ name_max) × (length stores ≤ maps_max)

-- each name of a command is within its limit, and a map that is built of a text has a kind
abbrev pub HasNames : Meaning → Type 0
HasNames (Once store rows) = IsNamed store
HasNames (Session own peer stores hosts) = AreMaps own stores
HasNames (Serve own port workers connections turns stores hosts log) =
    (1 ≤ workers) × (workers ≤ workers_max) × AreMaps own stores
HasNames (Check store) = IsNamed store
HasNames (Dump store) = IsNamed store
HasNames (Build name store flag) = IsOneMap name store × IsSome (kind_of store)
HasNames (Load name store flag) = IsOneMap name store
HasNames (Xfr name force store host flag) = IsOneMap name store
HasNames (Walk name force store host port turns flag) = IsOneMap name store
HasNames (Revnet name store) = (length name ≤ name_max) × IsNamed store × (is_reverse store.1 ≡ true)
HasNames (Sample start count) = ⊤
HasNames (Push name port window turns store hosts) = (length name ≤ name_max) × (0 < window) × IsNamed store
HasNames (Bind port policy turns domain hosts) = (length domain ≤ name_max) × (length hosts ≤ servers_max)
HasNames (Portmap port turns) = ⊤
HasNames (CallMapper port turns peer call) = ⊤
HasNames (Ask peer question) = QuestionIsWithin question
HasNames (Orders first others domain) = length domain ≤ name_max

-- ---- refusals

-- the words are a sentence whose command takes memory
abbrev pub IsSentenceOfWords : Result Meaning ℕ → Type 0
IsSentenceOfWords (Ok meaning) = TakesMemory meaning
IsSentenceOfWords (Err word) = ⊥

-- The fault names the word that is wrong. Memory runs out only where words are taken over.
abbrev pub IsUsage : Result Meaning ℕ → ParseFault → Type 0
IsUsage expected (Usage word) = expected ≡ Err word
IsUsage expected NoMemory = IsSentenceOfWords expected

-- the answer of a sentence: the command that its words ask for, or why there is none
abbrev pub Answers : Result Meaning ℕ → Result Command ParseFault → Type 0
Answers expected (Ok command) = expected ≡ Ok (meaning command)
Answers expected (Err why) = IsUsage expected why

-- A list that is made of values. Where memory ran out for it, that is told once all words are read.
abbrev pub Holds : {A B : Type 0} → (A → B) → Result (Vec A Global) AllocError → List B → Type 0
Holds view (Ok list) values = map view list.items ≡ values
Holds view (Err why) values = ⊤

-- what is read of further words: their values, or the number of the wrong one
abbrev pub AreRead : {A B : Type 0} → (A → B) → Result (List B) ℕ → Result (Result (Vec A Global) AllocError) ℕ → Type 0
AreRead {A} {B} view expected (Ok made) = (values : List B) × (expected ≡ Ok values) × Holds view made values
AreRead view expected (Err at) = expected ≡ Err at

-- the maps and hosts of a server, which make a catalogue
abbrev pub AreServed : Result (List Name × List Host) ℕ
    → Result (Result (Vec MapName Global) AllocError × Result (Vec HostWord Global) AllocError) ℕ → Type 0
AreServed expected (Ok made) = (stores : List Name) × (hosts : List Host) × (expected ≡ Ok (stores, hosts))
    × Holds name_view made.0 stores × Holds host_view made.1 hosts
AreServed expected (Err at) = expected ≡ Err at

-- servers, and the domain of whose maps they are asked
abbrev pub AreCompared : Result (List Peer × List ℕ) ℕ
    → Result (Result (Vec Peer Global) AllocError × Bor (List ℕ)) ℕ → Type 0
AreCompared expected (Ok made) = (peers : List Peer) × (expected ≡ Ok (peers, made.1.now))
    × Holds (λ peer. peer) made.0 peers
AreCompared expected (Err at) = expected ≡ Err at
