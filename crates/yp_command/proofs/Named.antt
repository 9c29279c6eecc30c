-- The names of a command are within their limits, and the maps of a server make a catalogue.
use Rattle.std.proofs.Common.{◌≡◌, ℕ, zero, suc, ◌+◌, ◌<◌, ◌≤◌, Bool, true, false, cond, not, ◌&&◌, List}
use Rattle.std.proofs.Common.{[], ◌∷◌, ◌++◌, length, drop, Option, Some, None, Result, Ok, Err, refl, sym, ap, ◌∙◌}
use Rattle.std.proofs.Common.{subst, arith, length-append, append_assoc}
use Rattle.std.specs.Prelude.{nat_le, nat_lt, IfOk, IsSome, All, slice_get, bytes_eq, map, codes}
use Rattle.std.specs.List.{list_any, prefix_len}
use Rattle.std.specs.Option.{ok_or, option_map_or, option_and_then}
use Rattle.std.proofs.lemmas.Bool.Decides.{nat_tests}
use Rattle.std.proofs.lemmas.List.{append-nil, take_all}
use Rattle.std.proofs.lemmas.List.Elements.{All-append}
use Rattle.yp_io.specs.declared.stream.Peer.{Peer}
use Rattle.yp_version.specs.Limits.{key_max}
use Rattle.yp_binding.specs.Kept.{servers_max}
use Rattle.yp_binding.specs.declared.portmap.asking.PortCall.TheVariants as mapper
use Rattle.yp_board.specs.readers.Boards.{workers_max}
use Rattle.yp_board.specs.Catalogues.{Name, name_max, maps_max, is_same, is_name as is_short_name}
use Rattle.yp_board.specs.inside.Catalogues.{is_map_name}
use Rattle.yp_board.specs.inside.Catalogues.{again_from, with_numbers, bad_name, twice, catalog_fault}
use Rattle.yp_command.specs.Forms.{Host, when, is_name, is_reverse, kind_of, window_max, before, after}
use Rattle.yp_command.specs.Forms as form
use Rattle.yp_command.specs.declared.command.Command.{Command}
use Rattle.yp_command.specs.declared.words.ParseFault.{ParseFault}
use Rattle.yp_command.specs.Words.{Meaning, meaning, ◌>>=◌, word, served, stores_and_hosts, servers}
use Rattle.yp_command.specs.Words.{is_new_store, is_new_server, once, session, serve, check, dump, build, load, xfr}
use Rattle.yp_command.specs.Words.{walk, revnet, sample, push, bind, portmap, getport, setport, unsetport, asking}
use Rattle.yp_command.specs.Words.{match_key, maps, innetgr}
use Rattle.yp_command.specs.Words.{pull, but_log, ends_in_log}
use Rattle.yp_command.specs.Words.{compared, orders, Orders}
use Rattle.yp_command.specs.Words.{sentence, command_of, each, end, optional, Once, Session, Serve, Check, Dump, Build}
use Rattle.yp_command.specs.Words.{Load, Xfr, Walk, Revnet, Sample, Push, Bind, Portmap, CallMapper, Ask}
use Rattle.yp_command.specs.inside.Words.{IsNamed, IsOneMap, AreMaps as MakeMaps, HasNames, Answers}
use Rattle.yp_client.specs.declared.question.Question.TheVariants.{Cat, Catk, Match, Which, Poll, Maps, Innetgr}
use Rattle.yp_client.specs.declared.question.Question.TheVariants.{Pull, Make}
use Rattle.yp_client.specs.Questions.{ByteQuestion}
use Rattle.yp_client.specs.inside.Questions.{QuestionIsWithin}

-- ---- what is read

-- what is read behind a value was read with it
bound : {A B : Type 0} (read : Result A ℕ) (next : A → Result B ℕ) (all : B) → (read >>= next) ≡ Ok all
    → (value : A) × (read ≡ Ok value) × (next value ≡ Ok all)
bound (Ok value) next all e = (value, refl, e)
bound (Err at) next all e = absurd cc

some_of : {A : Type 0} (said : Option A) (at : ℕ) (value : A) → ok_or said at ≡ Ok value → said ≡ Some value
some_of None at value e = absurd cc
some_of (Some other) at value e = let same : other ≡ value = cc in rw same refl

-- a word that says a value is there
said : {A : Type 0} (form : List ℕ → Option A) (at : ℕ) (found : Option (List ℕ)) (value : A)
    → ok_or (option_and_then form found) at ≡ Ok value → (word : List ℕ) × (form word ≡ Some value)
said form at None value e = absurd cc
said form at (Some word) value e = (word, some_of (form word) at value e)

-- so a fact of all that a form says is one of what is read by it
of_word : {A : Type 0} (P : A → Type 0) (form : List ℕ → Option A) (at : ℕ) (words : List (List ℕ)) (value : A)
    → ((word : List ℕ) (value : A) → form word ≡ Some value → P value) → word at form words ≡ Ok value → P value
of_word P form at words value holds e =
    let found = said form at (slice_get words at) value e in
    holds found.0 value found.1

passed : {A : Type 0} (test : Bool) (value other : A) → when test value ≡ Some other
    → (test ≡ true) × (value ≡ other)
passed true value other e = (refl, cc)
passed false value other e = absurd cc

then_some : {A B : Type 0} (said : Option A) (next : A → Option B) (all : B) → option_and_then next said ≡ Some all
    → (value : A) × (said ≡ Some value) × (next value ≡ Some all)
then_some (Some value) next all e = (value, refl, e)
then_some None next all e = absurd cc

both : (a b : Bool) → (a && b) ≡ true → (a ≡ true) × (b ≡ true)
both true b h = (refl, h)
both false b h = absurd cc

-- ---- names

name_short : (word : List ℕ) → is_name word ≡ true → length word ≤ name_max
name_short word h = grind (arith, nat_tests)

name_some : (word : List ℕ) → is_name word ≡ true → is_short_name word ≡ true
name_some word h = grind (arith, nat_tests)

-- what a word says as a name is one
IsSaid : List ℕ → Type 0
IsSaid name = is_name name ≡ true

name_said : (word value : List ℕ) → form.name word ≡ Some value → IsSaid value
unfolding IsSaid
name_said word value e =
    let is = passed (is_name word) word value e in
    subst (λ (w : List ℕ). is_name w ≡ true) is.1 is.0

-- the names of a domain and of a map are names
AreSaid : Name → Type 0
AreSaid store = IsSaid store.0 × IsSaid store.1

store_said : (word : List ℕ) (value : Name) → form.store word ≡ Some value → AreSaid value
unfolding AreSaid
store_said word value e =
    let domain = then_some (form.name (before 47 word))
    (λ (domain : List ℕ). option_and_then (λ map. Some (domain, map)) (form.name (after 47 word))) value e in
    let map = then_some (form.name (after 47 word)) (λ (map : List ℕ). Some (domain.0, map)) value domain.2 in
    let same : (domain.0, map.0) ≡ value = cc in
    subst (λ (s : Name). IsSaid s.0 × IsSaid s.1) same
    (name_said (before 47 word) domain.0 domain.1, name_said (after 47 word) map.0 map.1)

IsOfKind : Name → Type 0
IsOfKind store = AreSaid store × IsSome (kind_of store)

kind_said : (word : List ℕ) (value : Name) → form.kind_store word ≡ Some value → IsOfKind value
unfolding IsOfKind
kind_said word value e =
    let store = then_some (form.store word) _ value e in
    let kind = then_some (kind_of store.0) (λ _. Some store.0) value store.2 in
    let same : store.0 ≡ value = cc in
    let known : IsSome (kind_of store.0) = subst (λ k. IsSome k) (sym kind.1) refl in
    subst (λ (s : Name). AreSaid s × IsSome (kind_of s)) same (store_said word store.0 store.1, known)

IsReverse : Name → Type 0
IsReverse store = AreSaid store × (is_reverse store.1 ≡ true)

reverse_said : (word : List ℕ) (value : Name) → form.reverse_store word ≡ Some value → IsReverse value
unfolding IsReverse
reverse_said word value e =
    let store = then_some (form.store word) _ value e in
    let is = passed (is_reverse store.0.1) store.0 value store.2 in
    subst (λ (s : Name). AreSaid s × (is_reverse s.1 ≡ true)) is.1 (store_said word store.0 store.1, is.0)

within_said : (least most : ℕ) (word : List ℕ) (value : ℕ) → form.within least most word ≡ Some value
    → (least ≤ value) × (value ≤ most)
within_said least most word value e =
    let number = then_some (form.number word) _ value e in
    let is = passed (nat_le least number.0 && nat_le number.0 most) number.0 value number.2 in
    let parts = both (nat_le least number.0) (nat_le number.0 most) is.0 in
    subst (λ (n : ℕ). (least ≤ n) × (n ≤ most)) is.1 (grind (arith, nat_tests), grind (arith, nat_tests))

text_said : (word value : List ℕ) → form.text word ≡ Some value → length value ≤ name_max
text_said word value e =
    let is = passed (nat_le 1 (length word) && nat_le (length word) name_max) word value e in
    let parts = both (nat_le 1 (length word)) (nat_le (length word) name_max) is.0 in
    subst (λ (w : List ℕ). length w ≤ name_max) is.1 (grind (arith, nat_tests))

key_said : (word value : List ℕ) → form.key word ≡ Some value → length value ≤ key_max
key_said word value e =
    let is = passed (nat_le (length word) key_max) word value e in
    subst (λ (w : List ℕ). length w ≤ key_max) is.1 (grind (arith, nat_tests))

name_read : (at : ℕ) (words : List (List ℕ)) (value : List ℕ) → word at form.name words ≡ Ok value → IsSaid value
name_read at words value e = of_word IsSaid form.name at words value name_said e

store_read : (at : ℕ) (words : List (List ℕ)) (value : Name) → word at form.store words ≡ Ok value → AreSaid value
store_read at words value e = of_word AreSaid form.store at words value store_said e

text_read : (at : ℕ) (words : List (List ℕ)) (value : List ℕ) → word at form.text words ≡ Ok value
    → length value ≤ name_max
text_read at words value e = of_word (λ t. length t ≤ name_max) form.text at words value text_said e

store_named : (store : Name) → AreSaid store → IsNamed store
unfolding AreSaid IsSaid
store_named store are = (name_short store.0 are.0, name_short store.1 are.1)

store_mapped : (store : Name) → AreSaid store → is_map_name store ≡ true
unfolding AreSaid IsSaid
store_mapped store are =
    let domain = name_some store.0 are.0 in
    let map = name_some store.1 are.1 in
    rw (domain, map) refl

-- ---- the maps of a server

-- each is the name of a map
AreMaps : List Name → Type 0
AreMaps [] = Unit {0}
AreMaps (store ∷ stores) = (is_map_name store ≡ true) × AreMaps stores

-- each has names within their limits
AreNamed : List Name → Type 0
AreNamed [] = Unit {0}
AreNamed (store ∷ stores) = IsNamed store × AreNamed stores

maps_more : (stores : List Name) (store : Name) → AreMaps stores → is_map_name store ≡ true
    → AreMaps (stores ++ store ∷ [])
unfolding AreMaps
maps_more [] store are is = (is, tt)
maps_more (other ∷ stores) store are is = (are.0, maps_more stores store are.1 is)

named_more : (stores : List Name) (store : Name) → AreNamed stores → IsNamed store → AreNamed (stores ++ store ∷ [])
unfolding AreNamed
named_more [] store are is = (is, tt)
named_more (other ∷ stores) store are is = (are.0, named_more stores store are.1 is)

one_named : (store : Name) → IsNamed store → All IsNamed (store ∷ [])
one_named store is zero d lt = is
one_named store is (suc k) d lt = absurd (omega arith)

all_named : (stores : List Name) → AreNamed stores → All IsNamed stores
unfolding AreNamed
all_named [] are = λ k d lt. absurd (omega arith)
all_named (store ∷ stores) are = All-append IsNamed (store ∷ []) stores (one_named store are.0) (all_named stores are.1)

-- a name that isn't among those before it
again_more : (at : ℕ) (before names : List Name) (name : Name) → again_from at before names ≡ None
    → list_any (is_same name) (before ++ names) ≡ false → again_from at before (names ++ name ∷ []) ≡ None
again_more at before [] name none new =
    let new' : list_any (is_same name) before ≡ false =
    subst (λ (l : List Name). list_any (is_same name) l ≡ false) (append-nil before) new in
    rw new' refl
again_more at before (first ∷ names) name none new =
    (elim (list_any (is_same first) before) as
    (λ b. cond b (Some at) (again_from (at + 1) (before ++ first ∷ []) names) ≡ None
    → cond b (Some at) (again_from (at + 1) (before ++ first ∷ []) (names ++ name ∷ [])) ≡ None) [
      | true ↦ λ e. absurd cc
      | false ↦ λ e. again_more (at + 1) (before ++ first ∷ []) names name e
          (subst (λ (l : List Name). list_any (is_same name) l ≡ false)
          (sym (append_assoc before (first ∷ []) names)) new)
    ]) none

-- maps that make a catalogue
record AreGood (stores : List Name) : Type 0 where
  each : AreMaps stores
  named : AreNamed stores
  distinct : again_from 0 [] stores ≡ None
  few : length stores ≤ maps_max

no_maps : AreGood []
unfolding AreMaps AreNamed
no_maps = record { each = tt; named = tt; distinct = refl; few = omega arith }

good_more : (stores : List Name) (store : Name) → AreGood stores → IsNamed store → is_map_name store ≡ true
    → is_new_store stores store ≡ true → AreGood (stores ++ store ∷ [])
good_more stores store good named is new =
    let parts = both (not (list_any (is_same store) stores)) (nat_lt (length stores) maps_max) new in
    let other : list_any (is_same store) stores ≡ false = grind (arith, nat_tests) in
    let room : length stores < maps_max = grind (arith, nat_tests) in
    record {
      each = maps_more stores store good.each is;
      named = named_more stores store good.named named;
      distinct = again_more 0 [] stores store good.distinct other;
      few = omega (arith, length-append stores (store ∷ []));
    }

none_at : (n len : ℕ) → n ≡ len → cond (nat_lt n len) (Some n) None ≡ None
none_at n len e = grind (arith, nat_tests)

none_bad : (stores : List Name) → AreMaps stores
    → prefix_len (λ store. not (not (is_map_name store))) stores ≡ length stores
unfolding AreMaps
none_bad [] are = refl
none_bad (store ∷ stores) are =
    rw are.0 (omega (arith, none_bad stores are.1))

good_catalogue : (own : List ℕ) (stores : List Name) → is_short_name own ≡ true → AreGood stores
    → catalog_fault own stores ≡ None
good_catalogue own stores short good =
    let all : with_numbers stores ≡ stores = take_all 4294967296 stores (omega (arith, good.few)) in
    let bad : bad_name stores ≡ None =
    ap (λ (l : List Name). cond (nat_lt (prefix_len (λ store. not (not (is_map_name store))) l) (length l))
    (Some (prefix_len (λ store. not (not (is_map_name store))) l)) None) all
    ∙ none_at (prefix_len (λ store. not (not (is_map_name store))) stores) (length stores)
    (none_bad stores good.each) in
    let once : twice stores ≡ None = ap (again_from 0 []) all ∙ good.distinct in
    let few : nat_lt maps_max (length stores) ≡ false = grind (arith, nat_tests) in
    rw (short, bad, once, few) refl

served_good : (at : ℕ) (stores : List Name) (hosts : List Host) (words : List (List ℕ)) (all : List Name × List Host)
    → AreGood stores → served at stores hosts words ≡ Ok all → AreGood all.0
served_good at stores hosts [] all good e =
    let same : (stores, hosts) ≡ all = cc in
    subst (λ (a : List Name × List Host). AreGood a.0) same good
served_good at stores hosts (word ∷ words) all good e =
    (elim (form.store word) as
    (λ o. form.store word ≡ o
    → option_map_or (λ store.
    cond (is_new_store stores store) (served (at + 1) (stores ++ store ∷ []) hosts words) (Err at)) o
    (ok_or (form.host word) at >>= λ host. served (at + 1) stores (hosts ++ host ∷ []) words) ≡ Ok all
    → AreGood all.0) [
      | Some store ↦ λ is e.
          (elim (is_new_store stores store) as
          (λ b. is_new_store stores store ≡ b
          → cond b (served (at + 1) (stores ++ store ∷ []) hosts words) (Err at) ≡ Ok all → AreGood all.0) [
            | true ↦ λ new e.
                let said = store_said word store is in
                served_good (at + 1) (stores ++ store ∷ []) hosts words all
                (good_more stores store good (store_named store said) (store_mapped store said) new) e
            | false ↦ λ new e. absurd cc
          ]) refl e
      | None ↦ λ is e.
          let host = bound (ok_or (form.host word) at) _ all e in
          served_good (at + 1) stores (hosts ++ host.0 ∷ []) words all good host.2
    ]) refl e

maps_made : (own : List ℕ) (at : ℕ) (words : List (List ℕ)) (all : List Name × List Host) → IsSaid own
    → stores_and_hosts at words ≡ Ok all → MakeMaps own all.0
unfolding IsSaid
maps_made own at words all named e =
    let found = bound (served at [] [] (drop at words)) _ all e in
    (elim (nat_le 1 (length found.0.0)) as
    (λ b. cond b (Ok found.0) (Err (length words)) ≡ Ok all → MakeMaps own all.0) [
      | true ↦ λ e.
          let same : found.0 ≡ all = cc in
          let good = served_good at [] [] (drop at words) found.0 no_maps found.1 in
          subst (λ (a : List Name × List Host). MakeMaps own a.0) same (
            good_catalogue own found.0.0 (name_some own named) good,
            all_named found.0.0 good.named,
            name_short own named,
            good.few,
          )
      | false ↦ λ e. absurd cc
    ]) found.2

servers_few : (at : ℕ) (hosts : List Host) (words : List (List ℕ)) (all : List Host) → length hosts ≤ servers_max
    → servers at hosts words ≡ Ok all → length all ≤ servers_max
servers_few at hosts [] all few e =
    let same : hosts ≡ all = cc in
    subst (λ (h : List Host). length h ≤ servers_max) same few
servers_few at hosts (word ∷ words) all few e =
    let host = bound (ok_or (form.host word) at) _ all e in
    (elim (is_new_server hosts host.0) as
    (λ b. is_new_server hosts host.0 ≡ b
    → cond b (servers (at + 1) (hosts ++ host.0 ∷ []) words) (Err at) ≡ Ok all → length all ≤ servers_max) [
      | true ↦ λ new e.
          let parts = both _ (nat_lt (length hosts) servers_max) new in
          let under : length hosts < servers_max = grind (arith, nat_tests) in
          servers_few (at + 1) (hosts ++ host.0 ∷ []) words all
          (omega (arith, under, length-append hosts (host.0 ∷ []))) e
      | false ↦ λ new e. absurd cc
    ]) refl host.2

-- ---- one map

one_map : (name : List ℕ) (store : Name) → IsSaid name → AreSaid store → IsOneMap name store
unfolding IsSaid
one_map name store named are =
    let stored = store_named store are in
    let good = good_more [] store no_maps stored (store_mapped store are) refl in
    (good_catalogue name (store ∷ []) (name_some name named) good, name_short name named, stored)

-- ---- sentences

-- what is read has names within their limits
Named : Result Meaning ℕ → Type 0
Named (Ok meaning) = HasNames meaning
Named (Err at) = Unit {0}

-- and what is read behind a value has
read : {A : Type 0} (said : Result A ℕ) (next : A → Result Meaning ℕ)
    → ((value : A) → said ≡ Ok value → Named (next value)) → Named (said >>= next)
unfolding Named
read (Ok value) next named = named value refl
read (Err at) next named = tt

-- all of it is read
whole : (meaning : Meaning) → HasNames meaning → Named (Ok meaning)
unfolding Named
whole meaning named = named

once_named : (words : List (List ℕ)) → Named (once words)
unfolding once
once_named words =
    read (word 1 form.store words) _ λ store store_is. read (each form.pair 2 [] (drop 2 words)) _ λ rows _.
    whole (Once store rows) (store_named store (store_read 1 words store store_is))

session_named : (words : List (List ℕ)) → Named (session words)
unfolding session
session_named words =
    read (word 1 form.name words) _ λ own own_is.
    read (word 2 form.address words) _ λ peer _.
    read (stores_and_hosts 3 words) _ λ all all_is.
    whole (Session own peer all.0 all.1) (maps_made own 3 words all (name_read 1 words own own_is) all_is)

serve_named : (words : List (List ℕ)) → Named (serve words)
unfolding serve
serve_named words =
    read (word 1 form.name words) _ λ own own_is.
    read (word 2 form.port words) _ λ port _.
    read (word 3 form.workers words) _ λ workers workers_is.
    read (word 4 form.most words) _ λ connections _.
    read (word 5 form.most words) _ λ turns _.
    read (stores_and_hosts 6 (but_log words)) _ λ all all_is.
    whole (Serve own port workers connections turns all.0 all.1 (ends_in_log words)) (
    let some = of_word (λ n. (1 ≤ n) × (n ≤ workers_max)) form.workers 3 words workers (within_said 1 workers_max)
    workers_is in
    (some.0, some.1, maps_made own 6 (but_log words) all (name_read 1 words own own_is) all_is))

check_named : (words : List (List ℕ)) → Named (check words)
unfolding check
check_named words =
    read (word 1 form.store words) _ λ store store_is. read (end 2 words) _ λ end _.
    whole (Check store) (store_named store (store_read 1 words store store_is))

dump_named : (words : List (List ℕ)) → Named (dump words)
unfolding dump
dump_named words =
    read (word 1 form.store words) _ λ store store_is. read (end 2 words) _ λ end _.
    whole (Dump store) (store_named store (store_read 1 words store store_is))

build_named : (words : List (List ℕ)) → Named (build words)
unfolding build IsOfKind
build_named words =
    read (word 1 form.name words) _ λ name name_is.
    read (word 2 form.kind_store words) _ λ store store_is.
    read (optional 3 form.flag words) _ λ flag _.
    read (end 4 words) _ λ end _.
    whole (Build name store flag) (
    let kind = of_word IsOfKind form.kind_store 2 words store kind_said store_is in
    (one_map name store (name_read 1 words name name_is) kind.0, kind.1))

load_named : (words : List (List ℕ)) → Named (load words)
unfolding load
load_named words =
    read (word 1 form.name words) _ λ name name_is.
    read (word 2 form.store words) _ λ store store_is.
    read (optional 3 form.flag words) _ λ flag _.
    read (end 4 words) _ λ end _.
    whole (Load name store flag) (one_map name store (name_read 1 words name name_is) (store_read 2 words store store_is))

xfr_named : (words : List (List ℕ)) → Named (xfr words)
unfolding xfr
xfr_named words =
    read (word 1 form.name words) _ λ name name_is.
    read (word 2 form.mode words) _ λ force _.
    read (word 3 form.store words) _ λ store store_is.
    read (word 4 form.host words) _ λ host _.
    read (optional 5 form.flag words) _ λ flag _.
    read (end 6 words) _ λ end _.
    whole (Xfr name force store host flag) (one_map name store (name_read 1 words name name_is) (store_read 3 words store store_is))

walk_named : (words : List (List ℕ)) → Named (walk words)
unfolding walk
walk_named words =
    read (word 1 form.name words) _ λ name name_is.
    read (word 2 form.mode words) _ λ force _.
    read (word 3 form.store words) _ λ store store_is.
    read (word 4 form.host words) _ λ host _.
    read (word 5 form.port words) _ λ port _.
    read (word 6 form.most words) _ λ turns _.
    read (optional 7 form.flag words) _ λ flag _.
    read (end 8 words) _ λ end _.
    whole (Walk name force store host port turns flag) (one_map name store (name_read 1 words name name_is) (store_read 3 words store store_is))

revnet_named : (words : List (List ℕ)) → Named (revnet words)
unfolding revnet IsReverse IsSaid
revnet_named words =
    read (word 1 form.name words) _ λ name name_is.
    read (word 2 form.reverse_store words) _ λ store store_is.
    read (end 3 words) _ λ end _.
    whole (Revnet name store) (
    let is = of_word IsReverse form.reverse_store 2 words store reverse_said store_is in
    (name_short name (name_read 1 words name name_is), store_named store is.0, is.1))

sample_named : (words : List (List ℕ)) → Named (sample words)
unfolding sample
sample_named words =
    read (word 1 form.number words) _ λ start _.
    read (word 2 form.number words) _ λ count _.
    read (end 3 words) _ λ end _.
    whole (Sample start count) tt

push_named : (words : List (List ℕ)) → Named (push words)
unfolding push IsSaid
push_named words =
    read (word 1 form.name words) _ λ name name_is.
    read (word 2 form.port words) _ λ port _.
    read (word 3 form.window words) _ λ window window_is.
    read (word 4 form.most words) _ λ turns _.
    read (word 5 form.store words) _ λ store store_is. read (each form.host 6 [] (drop 6 words)) _ λ hosts _.
    whole (Push name port window turns store hosts) (
    let some = of_word (λ n. (1 ≤ n) × (n ≤ window_max)) form.window 3 words window (within_said 1 window_max)
    window_is in (
      name_short name (name_read 1 words name name_is),
      omega (arith, some.0),
      store_named store (store_read 5 words store store_is),
    ))

bind_named : (words : List (List ℕ)) → Named (bind words)
unfolding bind IsSaid
bind_named words =
    read (word 1 form.port words) _ λ port _.
    read (word 2 form.policy words) _ λ policy _.
    read (word 3 form.most words) _ λ turns _.
    read (word 4 form.name words) _ λ domain domain_is.
    read (word 5 form.host words) _ λ first _.
    read (servers 6 (first ∷ []) (drop 6 words)) _ λ hosts hosts_is.
    whole (Bind port policy turns domain hosts) (
      name_short domain (name_read 4 words domain domain_is),
      servers_few 6 (first ∷ []) (drop 6 words) hosts (omega arith) hosts_is,
    )

portmap_named : (words : List (List ℕ)) → Named (portmap words)
unfolding portmap
portmap_named words =
    read (word 1 form.port words) _ λ port _.
    read (word 2 form.most words) _ λ turns _.
    read (end 3 words) _ λ end _.
    whole (Portmap port turns) tt

getport_named : (words : List (List ℕ)) → Named (getport words)
unfolding getport
getport_named words =
    read (word 1 form.port words) _ λ port _.
    read (word 2 form.most words) _ λ turns _.
    read (word 3 form.address words) _ λ peer _.
    read (word 4 form.number words) _ λ prog _.
    read (word 5 form.number words) _ λ vers _.
    read (word 6 form.number words) _ λ prot _. read (end 7 words) _ λ end _.
    whole (CallMapper port turns peer (mapper.GetPort prog vers prot)) tt

setport_named : (words : List (List ℕ)) → Named (setport words)
unfolding setport
setport_named words =
    read (word 1 form.port words) _ λ port _.
    read (word 2 form.most words) _ λ turns _.
    read (word 3 form.address words) _ λ peer _.
    read (word 4 form.number words) _ λ prog _.
    read (word 5 form.number words) _ λ vers _.
    read (word 6 form.number words) _ λ prot _.
    read (word 7 form.port words) _ λ number _. read (end 8 words) _ λ end _.
    whole (CallMapper port turns peer (mapper.Set (record { prog = prog; vers = vers; prot = prot; port = number }))) tt

unsetport_named : (words : List (List ℕ)) → Named (unsetport words)
unfolding unsetport
unsetport_named words =
    read (word 1 form.port words) _ λ port _.
    read (word 2 form.most words) _ λ turns _.
    read (word 3 form.address words) _ λ peer _.
    read (word 4 form.number words) _ λ prog _.
    read (word 5 form.number words) _ λ vers _. read (end 6 words) _ λ end _.
    whole (CallMapper port turns peer (mapper.Unset prog vers)) tt

asking_named : (question : List ℕ → List ℕ → ByteQuestion) (words : List (List ℕ))
    → ((domain map : List ℕ) → IsNamed (domain, map) → QuestionIsWithin (question domain map))
    → Named (asking question words)
asking_named question words short =
    read (word 1 form.address words) _ λ peer _.
    read (word 2 form.text words) _ λ domain domain_is.
    read (word 3 form.text words) _ λ map map_is.
    read (end 4 words) _ λ end _.
    whole (Ask peer (question domain map)) (short domain map (text_read 2 words domain domain_is, text_read 3 words map map_is))

match_key_named : (words : List (List ℕ)) → Named (match_key words)
unfolding match_key
match_key_named words =
    read (word 1 form.address words) _ λ peer _.
    read (word 2 form.text words) _ λ domain domain_is.
    read (word 3 form.text words) _ λ map map_is.
    read (word 4 form.key words) _ λ key key_is.
    read (end 5 words) _ λ end _.
    whole (Ask peer (Match domain map key)) (
      text_read 2 words domain domain_is,
      text_read 3 words map map_is,
      of_word (λ t. length t ≤ key_max) form.key 4 words key key_said key_is,
    )

maps_named : (words : List (List ℕ)) → Named (maps words)
unfolding maps
maps_named words =
    read (word 1 form.address words) _ λ peer _.
    read (word 2 form.text words) _ λ domain domain_is.
    read (end 3 words) _ λ end _.
    whole (Ask peer (Maps domain)) (text_read 2 words domain domain_is)

pull_named : (words : List (List ℕ)) → Named (pull words)
unfolding pull
pull_named words =
    read (word 1 form.address words) _ λ peer _.
    read (word 2 form.text words) _ λ domain domain_is.
    read (word 3 form.text words) _ λ map map_is.
    read (word 4 form.text words) _ λ source source_is.
    read (end 5 words) _ λ end _.
    whole (Ask peer (Pull domain map source)) (
      text_read 2 words domain domain_is,
      text_read 3 words map map_is,
      text_read 4 words source source_is,
    )

innetgr_named : (words : List (List ℕ)) → Named (innetgr words)
unfolding innetgr
innetgr_named words =
    read (word 1 form.address words) _ λ peer _.
    read (word 2 form.text words) _ λ domain domain_is.
    read (word 3 form.key words) _ λ group _.
    read (word 4 form.member words) _ λ host _.
    read (word 5 form.member words) _ λ user _.
    read (word 6 form.member words) _ λ user_domain _. read (end 7 words) _ λ end _.
    whole (Ask peer (Innetgr domain group host user user_domain)) (text_read 2 words domain domain_is)

-- the domain of servers that are compared is a name
compared_short : (at : ℕ) (peers : List Peer) (domain : List ℕ) (words : List (List ℕ)) (all : List Peer × List ℕ)
    → length domain ≤ name_max → compared at peers domain words ≡ Ok all → length all.1 ≤ name_max
compared_short at peers domain [] all short e =
    let same : (peers, domain) ≡ all = cc in
    subst (λ (a : List Peer × List ℕ). length a.1 ≤ name_max) same short
compared_short at peers domain (word ∷ words) all short e =
    let peer = bound (ok_or (form.address domain) at) _ all e in
    let next = bound (ok_or (form.text word) at) _ all peer.2 in
    compared_short (at + 1) (peers ++ peer.0 ∷ []) next.0 words all
    (text_said word next.0 (some_of (form.text word) at next.0 next.1)) next.2

orders_named : (words : List (List ℕ)) → Named (orders words)
unfolding orders
orders_named words =
    read (word 1 form.address words) _ λ first _.
    read (word 2 form.text words) _ λ second second_is.
    read (compared 3 [] second (drop 3 words)) _ λ all all_is.
    whole (Orders first all.0 all.1)
    (compared_short 3 [] second (drop 3 words) all (text_read 2 words second second_is) all_is)

named_if : (test : Bool) (here there : Result Meaning ℕ) → Named here → Named there → Named (cond test here there)
named_if true here there named later = named
named_if false here there named later = later

none_named : (at : ℕ) → Named (Err at)
unfolding Named
none_named at = tt

sentence_named : (first : List ℕ) (words : List (List ℕ)) → Named (sentence first words)
sentence_named first words =
    named_if (bytes_eq first (codes "once")) _ _ (once_named words) (
    named_if (bytes_eq first (codes "session")) _ _ (session_named words) (
    named_if (bytes_eq first (codes "serve")) _ _ (serve_named words) (
    named_if (bytes_eq first (codes "check")) _ _ (check_named words) (
    named_if (bytes_eq first (codes "dump")) _ _ (dump_named words) (
    named_if (bytes_eq first (codes "build")) _ _ (build_named words) (
    named_if (bytes_eq first (codes "load")) _ _ (load_named words) (
    named_if (bytes_eq first (codes "xfr")) _ _ (xfr_named words) (
    named_if (bytes_eq first (codes "walk")) _ _ (walk_named words) (
    named_if (bytes_eq first (codes "revnet")) _ _ (revnet_named words) (
    named_if (bytes_eq first (codes "sample")) _ _ (sample_named words) (
    named_if (bytes_eq first (codes "push")) _ _ (push_named words) (
    named_if (bytes_eq first (codes "bind")) _ _ (bind_named words) (
    named_if (bytes_eq first (codes "portmap")) _ _ (portmap_named words) (
    named_if (bytes_eq first (codes "getport")) _ _ (getport_named words) (
    named_if (bytes_eq first (codes "setport")) _ _ (setport_named words) (
    named_if (bytes_eq first (codes "unsetport")) _ _ (unsetport_named words) (
    named_if (bytes_eq first (codes "cat")) _ _ (asking_named Cat words (λ domain map short. short)) (
    named_if (bytes_eq first (codes "catk")) _ _ (asking_named Catk words (λ domain map short. short)) (
    named_if (bytes_eq first (codes "which")) _ _ (asking_named Which words (λ domain map short. short)) (
    named_if (bytes_eq first (codes "poll")) _ _ (asking_named Poll words (λ domain map short. short)) (
    named_if (bytes_eq first (codes "match")) _ _ (match_key_named words) (
    named_if (bytes_eq first (codes "maps")) _ _ (maps_named words) (
    named_if (bytes_eq first (codes "pull")) _ _ (pull_named words) (
    named_if (bytes_eq first (codes "make")) _ _ (asking_named Make words (λ domain map short. short)) (
    named_if (bytes_eq first (codes "innetgr")) _ _ (innetgr_named words) (
    named_if (bytes_eq first (codes "orders")) _ _ (orders_named words) (none_named 0)))))))))))))))))))))))))))

-- what the words ask for has such names
asked_named : (words : List (List ℕ)) (meaning : Meaning) → command_of words ≡ Ok meaning → HasNames meaning
unfolding command_of Named
asked_named words meaning e =
    let named : Named (command_of words) =
    read (word 0 (λ first. Some first) words) _ λ first _. sentence_named first words in
    subst Named e named

pub names_read : (words : List (List ℕ)) (result : Result Command ParseFault) → Answers (command_of words) result
    → IfOk result (λ command. HasNames (meaning command))
names_read words (Ok command) e = asked_named words (meaning command) e
names_read words (Err why) e = tt
