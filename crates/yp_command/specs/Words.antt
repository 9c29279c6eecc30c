-- The command line: sentences made of words.
use Rattle.std.specs.Prelude.{ℕ, ◌+◌, ◌-◌, Bool, false, not, nat_le, nat_lt, bytes_eq, ⊤}
use Rattle.std.specs.Prelude.{◌&&◌, if◌then◌else◌, List, [], ◌∷◌, ◌++◌, length, drop, take, map, slice_get}
use Rattle.std.specs.Prelude.{Option, Some, None, Result, Ok, Err, codes, string_bytes}
use Rattle.std.specs.List.{list_any}
use Rattle.std.specs.Option.{option_and_then, option_map_or, ok_or}
use Rattle.std.specs.declared.string.String.{String}
use Rattle.std.specs.declared.alloc.Global.{Global}
use Rattle.yp_version.specs.Rows.{Row}
use Rattle.yp_io.specs.declared.stream.Peer.{Peer}
use Rattle.yp_binding.specs.declared.binder.Policy.{Policy}
use Rattle.yp_binding.specs.declared.portmap.asking.PortCall.{PortCall}
use Rattle.yp_binding.specs.declared.portmap.asking.PortCall.TheVariants as mapper
use Rattle.yp_binding.specs.Kept.{servers_max}
use Rattle.yp_binding.specs.Rounds.{is_same_peer}
use Rattle.yp_board.specs.Catalogues.{Name, maps_max, name_view, is_same}
use Rattle.yp_client.specs.declared.question.Question.TheVariants.{Cat, Catk, Match, Which, Poll, Maps, Innetgr}
use Rattle.yp_client.specs.declared.question.Question.TheVariants.{Pull, Make}
use Rattle.yp_client.specs.Questions.{ByteQuestion, bytes_of}
use Rattle.yp_command.specs.declared.command.KeyValue.{KeyValue}
use Rattle.yp_command.specs.declared.command.HostWord.{HostWord}
use Rattle.yp_command.specs.declared.command.Command.{Command}
use Rattle.yp_command.specs.declared.command.Command.TheVariants as command
use Rattle.yp_command.specs.Forms.{Host}
use Rattle.yp_command.specs.Forms as form

-- ---- what words mean

-- a command, with bytes in place of vectors
pub data Meaning : Type 0 where
  Once : (store : Name) (rows : List Row) → Meaning
  -- the own name, the caller, the maps that are served, and the hosts that are known
  Session : (own : List ℕ) (peer : Peer) (stores : List Name) (hosts : List Host) → Meaning
  -- the own name, the port, how many workers there are, how many connections are accepted, how many turns there are at
  -- the datagrams, the maps that are served, the hosts that are known, and whether it tells what it does
  Serve : (own : List ℕ) (port workers connections turns : ℕ) (stores : List Name) (hosts : List Host) (log : Bool)
      → Meaning
  Check : (store : Name) → Meaning
  Dump : (store : Name) → Meaning
  -- the flag is true for a secure version, and none where the words don't say
  Build : (name : List ℕ) (store : Name) (flag : Option Bool) → Meaning
  Load : (name : List ℕ) (store : Name) (flag : Option Bool) → Meaning
  -- the own name, whether the order doesn't count, the map, the host that has it, and the flag
  Xfr : (name : List ℕ) (force : Bool) (store : Name) (host : Host) (flag : Option Bool) → Meaning
  -- the same, and between the host and the flag the port and the most turns
  Walk : (name : List ℕ) (force : Bool) (store : Name) (host : Host) (port turns : ℕ) (flag : Option Bool) → Meaning
  -- the own name, and the map of netgroups by users or by hosts
  Revnet : (name : List ℕ) (store : Name) → Meaning
  Sample : (start count : ℕ) → Meaning
  -- the own name, the port, how many slaves may be outstanding, how many turns there are, the map, and the hosts that
  -- are known
  Push : (name : List ℕ) (port window turns : ℕ) (store : Name) (hosts : List Host) → Meaning
  -- the port, who may bind the domain, how many turns there are, the domain, and the servers
  Bind : (port : ℕ) (policy : Policy) (turns : ℕ) (domain : List ℕ) (hosts : List Host) → Meaning
  -- the port, and how many turns there are
  Portmap : (port turns : ℕ) → Meaning
  -- the port, the most turns, the port mapper, and the call of it
  CallMapper : (port turns : ℕ) (peer : Peer) (call : PortCall) → Meaning
  -- a server, and what it is asked
  Ask : (peer : Peer) (question : ByteQuestion) → Meaning
  -- the server that names the maps, the other servers, and the domain
  Orders : (first : Peer) (others : List Peer) (domain : List ℕ) → Meaning

-- the caller where there is none
abbrev pub nobody : Peer
nobody = record { addr = 0 ∷ 0 ∷ 0 ∷ 0 ∷ []; port = 0 }

-- ---- sentences

-- What is read of words is a value, or the number of the first word that no sentence with the words before it has. It
-- is the number of words where they end too early.
infixl 10 ◌>>=◌
abbrev pub ◌>>=◌ : {A B : Type 0} → Result A ℕ → (A → Result B ℕ) → Result B ℕ
Ok value >>= next = next value
Err at >>= next = Err at

-- the word with this number, by a form
abbrev pub word : {A : Type 0} → ℕ → (List ℕ → Option A) → List (List ℕ) → Result A ℕ
word at form words = ok_or (option_and_then form (slice_get words at)) at

-- the same of a word that may be left out
abbrev pub optional : {A : Type 0} → ℕ → (List ℕ → Option A) → List (List ℕ) → Result (Option A) ℕ
optional at form words =
    if nat_le (length words) at then Ok None
    else (do value ← word at form words; Ok (Some value))

-- no word has this number
abbrev pub end : ℕ → List (List ℕ) → Result ⊤ ℕ
end at words = if nat_le (length words) at then Ok tt else Err at

-- all further words, behind those of these values, by a form; the first of them has this number
abbrev pub each : {A : Type 0} → (List ℕ → Option A) → ℕ → List A → List (List ℕ) → Result (List A) ℕ
each form at values [] = Ok values
each form at values (word ∷ words) = do
  value ← ok_or (form word) at
  each form (at + 1) (values ++ value ∷ []) words

-- a map may stand behind these: none is named twice, and there are at most 64
abbrev pub is_new_store : List Name → Name → Bool
is_new_store stores store = not (list_any (is_same store) stores) && nat_lt (length stores) maps_max

-- the maps and hosts of a server, behind these
abbrev pub served : ℕ → List Name → List Host → List (List ℕ) → Result (List Name × List Host) ℕ
served at stores hosts [] = Ok (stores, hosts)
served at stores hosts (word ∷ words) =
    option_map_or (λ store.
    if is_new_store stores store then served (at + 1) (stores ++ store ∷ []) hosts words else Err at) (form.store word)
    (do host ← ok_or (form.host word) at; served (at + 1) stores (hosts ++ host ∷ []) words)

-- the same, of all words from this number on, one of which is a map
abbrev pub stores_and_hosts : ℕ → List (List ℕ) → Result (List Name × List Host) ℕ
stores_and_hosts at words = do
  all ← served at [] [] (drop at words)
  if nat_le 1 (length all.0) then Ok all else Err (length words)

-- the last of these words is `log`
abbrev pub ends_in_log : List (List ℕ) → Bool
ends_in_log words = option_map_or (λ word. bytes_eq word (codes "log")) (slice_get words (length words - 1)) false

-- these words, but for a last one that is `log`
abbrev pub but_log : List (List ℕ) → List (List ℕ)
but_log words = if ends_in_log words then take (length words - 1) words else words

-- a server may stand behind these: each has an address of its own, and there are at most 64
abbrev pub is_new_server : List Host → Host → Bool
is_new_server hosts host =
    not (list_any (is_same_peer host.1) (map (λ host. host.1) hosts)) && nat_lt (length hosts) servers_max

-- servers, behind these
abbrev pub servers : ℕ → List Host → List (List ℕ) → Result (List Host) ℕ
servers at hosts [] = Ok hosts
servers at hosts (word ∷ words) = do
  host ← ok_or (form.host word) at
  if is_new_server hosts host then servers (at + 1) (hosts ++ host ∷ []) words else Err at

-- Further servers, behind these, and the domain, which is the word before these words where there are none. Where there
-- are, that word is the address of one more server.
abbrev pub compared : ℕ → List Peer → List ℕ → List (List ℕ) → Result (List Peer × List ℕ) ℕ
compared at peers domain [] = Ok (peers, domain)
compared at peers domain (word ∷ words) = do
  peer ← ok_or (form.address domain) at
  next ← ok_or (form.text word) at
  compared (at + 1) (peers ++ peer ∷ []) next words

abbrev pub Sentence : Type 0
Sentence = List (List ℕ) → Result Meaning ℕ

unfoldable pub once : Sentence
once words = do
  store ← word 1 form.store words
  rows ← each form.pair 2 [] (drop 2 words)
  Ok (Once store rows)

unfoldable pub session : Sentence
session words = do
  own ← word 1 form.name words
  peer ← word 2 form.address words
  (stores, hosts) ← stores_and_hosts 3 words
  Ok (Session own peer stores hosts)

unfoldable pub serve : Sentence
serve words = do
  own ← word 1 form.name words
  port ← word 2 form.port words
  workers ← word 3 form.workers words
  connections ← word 4 form.most words
  turns ← word 5 form.most words
  (stores, hosts) ← stores_and_hosts 6 (but_log words)
  Ok (Serve own port workers connections turns stores hosts (ends_in_log words))

unfoldable pub check : Sentence
check words = do
  store ← word 1 form.store words
  _ ← end 2 words
  Ok (Check store)

unfoldable pub dump : Sentence
dump words = do
  store ← word 1 form.store words
  _ ← end 2 words
  Ok (Dump store)

unfoldable pub build : Sentence
build words = do
  name ← word 1 form.name words
  store ← word 2 form.kind_store words
  flag ← optional 3 form.flag words
  _ ← end 4 words
  Ok (Build name store flag)

unfoldable pub load : Sentence
load words = do
  name ← word 1 form.name words
  store ← word 2 form.store words
  flag ← optional 3 form.flag words
  _ ← end 4 words
  Ok (Load name store flag)

unfoldable pub xfr : Sentence
xfr words = do
  name ← word 1 form.name words
  force ← word 2 form.mode words
  store ← word 3 form.store words
  host ← word 4 form.host words
  flag ← optional 5 form.flag words
  _ ← end 6 words
  Ok (Xfr name force store host flag)

unfoldable pub walk : Sentence
walk words = do
  name ← word 1 form.name words
  force ← word 2 form.mode words
  store ← word 3 form.store words
  host ← word 4 form.host words
  port ← word 5 form.port words
  turns ← word 6 form.most words
  flag ← optional 7 form.flag words
  _ ← end 8 words
  Ok (Walk name force store host port turns flag)

unfoldable pub revnet : Sentence
revnet words = do
  name ← word 1 form.name words
  store ← word 2 form.reverse_store words
  _ ← end 3 words
  Ok (Revnet name store)

unfoldable pub sample : Sentence
sample words = do
  start ← word 1 form.number words
  count ← word 2 form.number words
  _ ← end 3 words
  Ok (Sample start count)

unfoldable pub push : Sentence
push words = do
  name ← word 1 form.name words
  port ← word 2 form.port words
  window ← word 3 form.window words
  turns ← word 4 form.most words
  store ← word 5 form.store words
  hosts ← each form.host 6 [] (drop 6 words)
  Ok (Push name port window turns store hosts)

unfoldable pub bind : Sentence
bind words = do
  port ← word 1 form.port words
  policy ← word 2 form.policy words
  turns ← word 3 form.most words
  domain ← word 4 form.name words
  first ← word 5 form.host words
  hosts ← servers 6 (first ∷ []) (drop 6 words)
  Ok (Bind port policy turns domain hosts)

unfoldable pub portmap : Sentence
portmap words = do
  port ← word 1 form.port words
  turns ← word 2 form.most words
  _ ← end 3 words
  Ok (Portmap port turns)

unfoldable pub getport : Sentence
getport words = do
  port ← word 1 form.port words
  turns ← word 2 form.most words
  peer ← word 3 form.address words
  prog ← word 4 form.number words
  vers ← word 5 form.number words
  prot ← word 6 form.number words
  _ ← end 7 words
  Ok (CallMapper port turns peer (mapper.GetPort prog vers prot))

unfoldable pub setport : Sentence
setport words = do
  port ← word 1 form.port words
  turns ← word 2 form.most words
  peer ← word 3 form.address words
  prog ← word 4 form.number words
  vers ← word 5 form.number words
  prot ← word 6 form.number words
  number ← word 7 form.port words
  _ ← end 8 words
  Ok (CallMapper port turns peer (mapper.Set (record { prog = prog; vers = vers; prot = prot; port = number })))

unfoldable pub unsetport : Sentence
unsetport words = do
  port ← word 1 form.port words
  turns ← word 2 form.most words
  peer ← word 3 form.address words
  prog ← word 4 form.number words
  vers ← word 5 form.number words
  _ ← end 6 words
  Ok (CallMapper port turns peer (mapper.Unset prog vers))

-- a question of a map
abbrev pub asking : (List ℕ → List ℕ → ByteQuestion) → Sentence
asking question words = do
  peer ← word 1 form.address words
  domain ← word 2 form.text words
  map ← word 3 form.text words
  _ ← end 4 words
  Ok (Ask peer (question domain map))

unfoldable pub match_key : Sentence
match_key words = do
  peer ← word 1 form.address words
  domain ← word 2 form.text words
  map ← word 3 form.text words
  key ← word 4 form.key words
  _ ← end 5 words
  Ok (Ask peer (Match domain map key))

unfoldable pub maps : Sentence
maps words = do
  peer ← word 1 form.address words
  domain ← word 2 form.text words
  _ ← end 3 words
  Ok (Ask peer (Maps domain))

unfoldable pub pull : Sentence
pull words = do
  peer ← word 1 form.address words
  domain ← word 2 form.text words
  map ← word 3 form.text words
  source ← word 4 form.text words
  _ ← end 5 words
  Ok (Ask peer (Pull domain map source))

unfoldable pub innetgr : Sentence
innetgr words = do
  peer ← word 1 form.address words
  domain ← word 2 form.text words
  group ← word 3 form.key words
  host ← word 4 form.member words
  user ← word 5 form.member words
  user_domain ← word 6 form.member words
  _ ← end 7 words
  Ok (Ask peer (Innetgr domain group host user user_domain))

unfoldable pub orders : Sentence
orders words = do
  first ← word 1 form.address words
  second ← word 2 form.text words
  (others, domain) ← compared 3 [] second (drop 3 words)
  Ok (Orders first others domain)

-- the sentence that begins with this word; where none does, that word is wrong
abbrev pub sentence : List ℕ → Sentence
sentence first words =
    if bytes_eq first (codes "once") then once words
    else if bytes_eq first (codes "session") then session words
    else if bytes_eq first (codes "serve") then serve words
    else if bytes_eq first (codes "check") then check words
    else if bytes_eq first (codes "dump") then dump words
    else if bytes_eq first (codes "build") then build words
    else if bytes_eq first (codes "load") then load words
    else if bytes_eq first (codes "xfr") then xfr words
    else if bytes_eq first (codes "walk") then walk words
    else if bytes_eq first (codes "revnet") then revnet words
    else if bytes_eq first (codes "sample") then sample words
    else if bytes_eq first (codes "push") then push words
    else if bytes_eq first (codes "bind") then bind words
    else if bytes_eq first (codes "portmap") then portmap words
    else if bytes_eq first (codes "getport") then getport words
    else if bytes_eq first (codes "setport") then setport words
    else if bytes_eq first (codes "unsetport") then unsetport words
    else if bytes_eq first (codes "cat") then asking Cat words
    else if bytes_eq first (codes "catk") then asking Catk words
    else if bytes_eq first (codes "which") then asking Which words
    else if bytes_eq first (codes "poll") then asking Poll words
    else if bytes_eq first (codes "match") then match_key words
    else if bytes_eq first (codes "maps") then maps words
    else if bytes_eq first (codes "pull") then pull words
    else if bytes_eq first (codes "make") then asking Make words
    else if bytes_eq first (codes "innetgr") then innetgr words
    else if bytes_eq first (codes "orders") then orders words
    else Err 0

-- the command that the words are, or the number of the word that is wrong
unfoldable pub command_of : List (List ℕ) → Result Meaning ℕ
command_of words = do
  first ← word 0 (λ first. Some first) words
  sentence first words

-- ---- the maps that words name

-- the map of netgroups in the domain of a map
abbrev pub netgroup_of : Name → Name
netgroup_of store = (store.0, codes "netgroup")

-- the map of servers in the domain of a map
abbrev pub ypservers_of : Name → Name
ypservers_of store = (store.0, codes "ypservers")

abbrev pub is_ypservers : Name → Bool
is_ypservers store = bytes_eq store.1 (codes "ypservers")

-- a map and that of the servers in its domain, unless it is that one itself
abbrev pub with_ypservers : Name → List Name
with_ypservers store = if is_ypservers store then store ∷ [] else store ∷ ypservers_of store ∷ []

-- the maps whose files a command reads or writes, in the order of its words
abbrev pub stores_of : Meaning → List Name
stores_of (Once store rows) = []
stores_of (Session own peer stores hosts) = stores
stores_of (Serve own port workers connections turns stores hosts log) = stores
stores_of (Check store) = store ∷ []
stores_of (Dump store) = store ∷ []
stores_of (Build name store flag) = store ∷ []
stores_of (Load name store flag) = store ∷ []
stores_of (Xfr name force store host flag) = store ∷ []
stores_of (Walk name force store host port turns flag) = store ∷ []
stores_of (Revnet name store) = store ∷ netgroup_of store ∷ []
stores_of (Sample start count) = []
stores_of (Push name port window turns store hosts) = with_ypservers store
stores_of (Bind port policy turns domain hosts) = []
stores_of (Portmap port turns) = []
stores_of (CallMapper port turns peer call) = []
stores_of (Ask peer question) = []
stores_of (Orders first others domain) = []

-- the maps whose disks a command line needs; none where its words are no sentence
abbrev pub stores_in : Result Meaning ℕ → List Name
stores_in (Ok meaning) = stores_of meaning
stores_in (Err word) = []

abbrev pub disk_names : List (List ℕ) → List Name
disk_names words = stores_in (command_of words)

-- ---- what the code has

abbrev pub row_view : KeyValue → Row
row_view row = (row.key.items, row.value.items)

abbrev pub host_view : HostWord → Host
host_view host = (host.name.items, host.peer)

abbrev pub meaning : Command → Meaning
meaning (command.Once store rows) = Once (name_view store) (map row_view rows.items)
meaning (command.Session name addr stores hosts) =
    Session name.items addr (map name_view stores.items) (map host_view hosts.items)
meaning (command.Serve job) =
    Serve job.name.items job.port job.workers job.connections job.turns (map name_view job.stores.items)
    (map host_view job.hosts.items) job.log
meaning (command.Check store) = Check (name_view store)
meaning (command.Dump store) = Dump (name_view store)
meaning (command.Build name store flag) = Build name.items (name_view store) flag
meaning (command.Load name store flag) = Load name.items (name_view store) flag
meaning (command.Xfr job) = Xfr job.name.items job.force (name_view job.store) (host_view job.host) job.flag
meaning (command.Walk job) =
    Walk job.xfr.name.items job.xfr.force (name_view job.xfr.store) (host_view job.xfr.host) job.port job.turns
    job.xfr.flag
meaning (command.Revnet name store) = Revnet name.items (name_view store)
meaning (command.Sample start count) = Sample start count
meaning (command.Push job) =
    Push job.name.items job.port job.window job.turns (name_view job.store) (map host_view job.hosts.items)
meaning (command.Bind port policy turns domain hosts) =
    Bind port policy turns domain.items (map host_view hosts.items)
meaning (command.Portmap port turns) = Portmap port turns
meaning (command.CallMapper port turns addr call) = CallMapper port turns addr call
meaning (command.Ask addr question) = Ask addr (bytes_of question)
meaning (command.Orders first others domain) = Orders first others.items domain.items

-- the bytes of each word
abbrev pub texts : List (String Global) → List (List ℕ)
texts words = map string_bytes words

-- ---- refusals

-- The command takes over words, so that memory may run out. Numbers alone take none.
abbrev pub TakesMemory : Meaning → Type 0
TakesMemory (Once store rows) = Unit {0}
TakesMemory (Session own peer stores hosts) = Unit {0}
TakesMemory (Serve own port workers connections turns stores hosts log) = Unit {0}
TakesMemory (Check store) = Unit {0}
TakesMemory (Dump store) = Unit {0}
TakesMemory (Build name store flag) = Unit {0}
TakesMemory (Load name store flag) = Unit {0}
TakesMemory (Xfr name force store host flag) = Unit {0}
TakesMemory (Walk name force store host port turns flag) = Unit {0}
TakesMemory (Revnet name store) = Unit {0}
TakesMemory (Sample start count) = ⊥
TakesMemory (Push name port window turns store hosts) = Unit {0}
TakesMemory (Bind port policy turns domain hosts) = Unit {0}
TakesMemory (Portmap port turns) = ⊥
TakesMemory (CallMapper port turns peer call) = ⊥
TakesMemory (Ask peer question) = Unit {0}
TakesMemory (Orders first others domain) = Unit {0}
