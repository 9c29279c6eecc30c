-- Worlds in which a transfer is called back as done, and wasn't.
use Rattle.std.proofs.Common.{◌≡◌, ℕ, ◌<◌, List, [], ◌∷◌, ◌++◌, length, ap, ◌∙◌, sym, subst, arith, refl, append_assoc}
use Rattle.std.specs.List.{AllByRecursion}
use Rattle.std.proofs.lemmas.List.{append-nil, length-append}
use Rattle.yp_io.specs.declared.stream.Peer.{Peer}
use Rattle.std.specs.Prelude.{slice_index}
use Rattle.yp_xdr.specs.Spelling.{fixed, opaque}
use Rattle.yp_rpc.specs.Records.{sent}
use Rattle.yp_rpc.specs.Called.{call_of}
use Rattle.yp_rpc.specs.inside.Laws.{FirstIsOne}
use Rattle.yp_messages.specs.Transfers.{resp_xfr, xfr_number}
use Rattle.yp_messages.specs.declared.transfer.XfrStat.{XfrStat}
use Rattle.yp_messages.specs.declared.transfer.XfrStat.TheVariants as told
use Rattle.yp_version.specs.Versions.{MapVersion}
use Rattle.yp_board.specs.Logs.{Log}
use Rattle.yp_board.specs.Views.{IsFront}
use Rattle.yp_answer.specs.Numbers.{record_max}
use Rattle.yp_headline.specs.inside.Tried.{somebody, version_with, order_reply, fetched_bytes, first_log, fetched_log, xfr_call, success_call, success_letter, transfer_world, IsWrongTransfer}
use Rattle.yp_headline.specs.inside.Files.{streamed}
use Rattle.yp_headline.specs.inside.TriedFiles.{called_unasked, called_of, called_elsewhere, skewed_bytes, called_two}
use Rattle.yp_headline.specs.World.{World, Connection, Letter, Dialed}
use Rattle.yp_headline.specs.Fetching.{Gives}
use Rattle.yp_headline.specs.Publishing.{IsAmong, IsFetched}
use Rattle.yp_headline.specs.Serving.{Exchange, BeginsWith}
use Rattle.yp_headline.specs.Sources.{IsOfSource}
use Rattle.yp_headline.specs.Calling.{IsCallBack, answered_in_stream}
use Rattle.yp_headline.specs.Headline.{Transfers}
use Rattle.yp_headline.proofs.Runs.{none_among}
use Rattle.yp_headline.proofs.Torn.{no_server}
use Rattle.yp_headline.proofs.Skewed.{one_server, never_empty, order_alone, skewed}
use Rattle.yp_headline.proofs.Mixed.{gives_one}
use Rattle.yp_headline.proofs.Fetching.{xfr_record}
use Rattle.yp_headline.proofs.Steps.{front_then}

-- the status that a call back with SUCC says
pub status_is : (transid prog : ℕ) (stat : XfrStat) → success_call ≡ call_of resp_xfr transid prog 1 1 (transid, xfr_number stat)
    → stat ≡ told.Succ
unfolding fixed opaque
status_is transid prog told.Succ same = refl
status_is transid prog told.Age same = absurd (let e : 1 ≡ 2 = ap (λ (l : List ℕ). slice_index l 47) same in omega (arith, e))
status_is transid prog told.Nomap same = absurd (let e : 1 ≡ 255 = ap (λ (l : List ℕ). slice_index l 47) same in omega (arith, e))
status_is transid prog told.Nodom same = absurd (let e : 1 ≡ 254 = ap (λ (l : List ℕ). slice_index l 47) same in omega (arith, e))
status_is transid prog told.Rsrc same = absurd (let e : 1 ≡ 253 = ap (λ (l : List ℕ). slice_index l 47) same in omega (arith, e))
status_is transid prog told.Rpc same = absurd (let e : 1 ≡ 252 = ap (λ (l : List ℕ). slice_index l 47) same in omega (arith, e))
status_is transid prog told.Maddr same = absurd (let e : 1 ≡ 251 = ap (λ (l : List ℕ). slice_index l 47) same in omega (arith, e))
status_is transid prog told.Yperr same = absurd (let e : 1 ≡ 250 = ap (λ (l : List ℕ). slice_index l 47) same in omega (arith, e))
status_is transid prog told.Badargs same = absurd (let e : 1 ≡ 249 = ap (λ (l : List ℕ). slice_index l 47) same in omega (arith, e))
status_is transid prog told.Dbm same = absurd (let e : 1 ≡ 248 = ap (λ (l : List ℕ). slice_index l 47) same in omega (arith, e))
status_is transid prog told.File same = absurd (let e : 1 ≡ 247 = ap (λ (l : List ℕ). slice_index l 47) same in omega (arith, e))
status_is transid prog told.Skew same = absurd (let e : 1 ≡ 246 = ap (λ (l : List ℕ). slice_index l 47) same in omega (arith, e))
status_is transid prog told.Clear same = absurd (let e : 1 ≡ 245 = ap (λ (l : List ℕ). slice_index l 47) same in omega (arith, e))
status_is transid prog told.Force same = absurd (let e : 1 ≡ 244 = ap (λ (l : List ℕ). slice_index l 47) same in omega (arith, e))
status_is transid prog told.Xfrerr same = absurd (let e : 1 ≡ 243 = ap (λ (l : List ℕ). slice_index l 47) same in omega (arith, e))
status_is transid prog told.Refused same = absurd (let e : 1 ≡ 242 = ap (λ (l : List ℕ). slice_index l 47) same in omega (arith, e))

-- nobody asked
pub called_without_call : IsWrongTransfer called_unasked
called_without_call begun log transfers = let is = transfers.called_back (λ none. cc) in none_among is.connection is.among

-- what the one letter of a world shows
shown_by : (world : World) (one : Exchange) (letter : Letter) (front next : Log)
    (is : IsCallBack world (answered_in_stream one front next) letter)
    → letter.bytes ≡ success_call
    → (version : MapVersion) × (before : Log) × IsFront front before × IsFront (before ++ (is.taken.map, version) ∷ []) next
    × (fetched : IsFetched world version) × IsOfSource world is.taken.map fetched.gives version
shown_by world one letter front next is bytes =
    is.shows (status_is is.taken.transid is.taken.prog is.stat (sym bytes ∙ is.says))

-- nobody was dialed
pub called_of_no_server : IsWrongTransfer (called_of [])
called_of_no_server begun log transfers =
    let is = (transfers.called_back (λ none. cc)).letters in
    let shows = shown_by (called_of []) is.1 success_letter is.3 is.4 is.8 refl in
    no_server shows.4.server shows.4.among

-- a version that was entered is in each log that goes on
pub in_log : (map : ℕ) (version : MapVersion) (before next log : Log) → IsFront (before ++ (map, version) ∷ []) next → IsFront next log
    → IsAmong log (map, version)
in_log map version before next log entered goes =
    let all = front_then (before ++ (map, version) ∷ []) next log entered goes in
    (before, all.0, all.1 ∙ append_assoc before ((map, version) ∷ []) all.0)

pub only_entry : (map : ℕ) (version : MapVersion) → IsAmong first_log (map, version) → version ≡ version_with 7 118
only_entry map version ([], back, is) = let same : (let it : ℕ × MapVersion = (map, version) in it) ≡ (0, version_with 7 118) = cc in
    ap (λ (e : ℕ × MapVersion). e.1) same
only_entry map version (one ∷ [], back, is) = absurd cc
only_entry map version (one ∷ two ∷ front, back, is) = absurd cc

-- ---- to whom

pub only_one : {A : Type 0} (one other : A) → IsAmong (one ∷ []) other → other ≡ one
only_one one other ([], back, is) = cc
only_one one other (two ∷ [], back, is) = absurd cc
only_one one other (two ∷ three ∷ front, back, is) = absurd cc

caller_of : (peer : Peer) (passed : List Exchange) (one : Exchange) (left : List Exchange)
    → AllByRecursion (λ (e : Exchange). e.caller ≡ peer) (passed ++ one ∷ left) → one.caller ≡ peer
caller_of peer [] one left all = all.0
caller_of peer (other ∷ passed) one left all = caller_of peer passed one left all.1

-- its caller is at another host
pub of_another_host : IsWrongTransfer called_elsewhere
of_another_host begun log transfers =
    let is = transfers.called_back (λ none. cc) in
    let letter = is.letters in
    let caller = caller_of is.connection.peer letter.0 letter.1 letter.2
    (subst (λ (l : List Exchange). AllByRecursion (λ (e : Exchange). e.caller ≡ is.connection.peer) l) letter.5 is.callers) in
    let peer : letter.1.caller ≡ somebody = caller ∙ ap (λ (c : Connection). c.peer) (only_one _ is.connection is.among) in
    let host : 8 ≡ 7 = ap (λ (l : List ℕ). slice_index l 3) (letter.8.host ∙ ap (λ (p : Peer). p.addr) peer) in
    omega (arith, host)

-- ---- two letters

-- exchanges of which two call back aren't one
two_left : (exchanges passed : List Exchange) (one : Exchange) (left behind : List Exchange) (other : Exchange) (more : List Exchange)
    → exchanges ≡ passed ++ one ∷ left → left ≡ behind ++ other ∷ more → 1 < length exchanges
two_left exchanges passed one left behind other more is is' =
    let a = ap length is ∙ length-append passed (one ∷ left) in
    let b = ap length is' ∙ length-append behind (other ∷ more) in
    omega (arith, a, b)

-- the version that a log shows second is entered once
once : (map' map : ℕ) (version' version : MapVersion) (before before' next front : Log)
    → IsFront (before ++ (map, version) ∷ []) next → IsFront next front → IsFront front before'
    → (more : Log) → fetched_log ≡ before' ++ (map', version') ∷ more
    → before ≡ []
once map' map version' version [] before' next front entered goes behind more is = refl
once map' map version' version (entry ∷ before) before' next front entered goes behind more is =
    let all = front_then (entry ∷ before ++ (map, version) ∷ []) front before'
    (front_then (entry ∷ before ++ (map, version) ∷ []) next front entered goes) behind in
    let long = ap length all.1 ∙ length-append (entry ∷ before ++ (map, version) ∷ []) all.0 in
    let longer = length-append (entry ∷ before) ((map, version) ∷ []) in
    let two = ap length is ∙ length-append before' ((map', version') ∷ more) in
    absurd (omega (arith, long, longer, two))

first_entry : (map : ℕ) (version : MapVersion) (more : Log) → fetched_log ≡ (map, version) ∷ more → version ≡ version_with 7 118
first_entry map version more is = let same : (let it : ℕ × MapVersion = (map, version) in it) ≡ (0, version_with 7 118) = cc in
    ap (λ (e : ℕ × MapVersion). e.1) same

-- a version that was entered before another one is the first
entered_first : (map' map : ℕ) (version' version : MapVersion) (before before' next front next' : Log)
    → IsFront (before ++ (map, version) ∷ []) next → IsFront next front → IsFront front before'
    → IsFront (before' ++ (map', version') ∷ []) next' → IsFront next' fetched_log → version ≡ version_with 7 118
entered_first map' map version' version before before' next front next' entered goes behind entered' goes' =
    let entry = before ++ (map, version) ∷ [] in
    let last = front_then (before' ++ (map', version') ∷ []) next' fetched_log entered' goes' in
    let all : fetched_log ≡ before' ++ (map', version') ∷ last.0 = last.1 ∙ append_assoc before' ((map', version') ∷ []) last.0 in
    let none = once map' map version' version before before' next front entered goes behind last.0 all in
    let up = front_then entry before' fetched_log
    (front_then entry front before' (front_then entry next front entered goes) behind) ((map', version') ∷ last.0, all) in
    first_entry map version up.0 (up.1 ∙ ap (λ (l : Log). (l ++ (map, version) ∷ []) ++ up.0) none)

module _ (one : FirstIsOne) where
  -- the server gave less than a version
  called_of_less : (came : List ℕ) → ((version : MapVersion) → Gives (streamed somebody came) version → ⊥)
      → IsWrongTransfer (called_of (streamed somebody came ∷ []))
  called_of_less came never begun log transfers =
      let world = called_of (streamed somebody came ∷ []) in
      let is = (transfers.called_back (λ none. cc)).letters in
      let shows = shown_by world is.1 success_letter is.3 is.4 is.8 refl in
      let server = one_server (streamed somebody came) shows.4.server shows.4.among in
      never shows.4.fetched (subst (λ (d : Dialed). Gives d shows.4.fetched) server shows.4.gives)

  -- its order alone
  pub called_of_order : IsWrongTransfer (called_of (streamed somebody (sent (order_reply 1 9)) ∷ []))
  called_of_order = called_of_less (sent (order_reply 1 9)) (order_alone one)

  -- no version that it showed throughout
  pub called_of_skewed : IsWrongTransfer (called_of (streamed somebody skewed_bytes ∷ []))
  called_of_skewed = called_of_less skewed_bytes (skewed one)

  -- the version that the server gave
  pub order_nine : (world : World) → world.dialed ≡ streamed somebody fetched_bytes ∷ [] → (version : MapVersion)
      → IsFetched world version → version.order ≡ 9
  order_nine world dialed version fetched =
      let server = one_server (streamed somebody fetched_bytes) fetched.server
      (subst (λ (l : List Dialed). IsAmong l fetched.server) dialed fetched.among) in
      let given = gives_one one fetched.fetched (subst (λ (d : Dialed). Gives d fetched.fetched) server fetched.gives) in
      ap (λ (v : MapVersion). v.order) fetched.marked ∙ ap (λ (v : MapVersion). v.order) given

  -- it gave a version that the log hasn't
  pub called_unshown : (begun : Log) → Transfers transfer_world begun first_log → ⊥
  called_unshown begun transfers =
      let is = (transfers.called_back (λ none. cc)).letters in
      let shows = shown_by transfer_world is.1 success_letter is.3 is.4 is.8 refl in
      let entry = only_entry is.8.taken.map shows.0 (in_log is.8.taken.map shows.0 shows.1 is.4 first_log shows.3 is.9) in
      let order : 7 ≡ 9 = sym (ap (λ (v : MapVersion). v.order) entry) ∙ order_nine transfer_world refl shows.0 shows.4 in
      omega (arith, order)

  -- one call is one exchange
  alone : (exchanges : List Exchange) (came rest : List ℕ) → came ≡ sent xfr_call → BeginsWith came exchanges rest
      → 1 < length exchanges → ⊥
  alone [] came rest is begins two = omega (arith, two)
  alone (exchange ∷ []) came rest is begins two = omega (arith, two)
  alone (exchange ∷ other ∷ exchanges) came rest is begins two =
      let same = one record_max exchange.call xfr_call begins.0 (sent xfr_call) begins.1 [] begins.2 xfr_record
      (sym begins.3 ∙ is ∙ sym (append-nil (sent xfr_call))) in
      let later = begins.4 in
      never_empty record_max other.call later.0 later.1 later.2 (sym same.1 ∙ later.3)

  -- one call is called back twice
  pub called_twice : IsWrongTransfer (called_two (sent xfr_call))
  called_twice begun log transfers =
      let is = transfers.called_back (λ none. cc) in
      let first = is.letters in
      let second = first.9 in
      let came : is.connection.came ≡ sent xfr_call =
      ap (λ (c : Connection). c.came) (only_one _ is.connection is.among) in
      alone is.exchanges is.connection.came is.rest came is.came
      (two_left is.exchanges first.0 first.1 first.2 second.0 second.1 second.2 first.5 second.5)

  -- the second call was taken when the version had been entered
  pub entered_before : (begun : Log)
      → Transfers (called_two (sent xfr_call ++ sent xfr_call)) begun fetched_log → ⊥
  entered_before begun transfers =
      let world = called_two (sent xfr_call ++ sent xfr_call) in
      let first = (transfers.called_back (λ none. cc)).letters in
      let second = first.9 in
      let shows = shown_by world first.1 success_letter first.3 first.4 first.8 refl in
      let later = shown_by world second.1 success_letter second.3 second.4 second.8 refl in
      let entry = entered_first second.8.taken.map first.8.taken.map later.0 shows.0 shows.1 later.1 first.4 second.3 second.4
      shows.3 second.6 later.2 later.3 second.9 in
      let order : 7 ≡ 9 = sym (ap (λ (v : MapVersion). v.order) entry) ∙ order_nine world refl shows.0 shows.4 in
      omega (arith, order)
