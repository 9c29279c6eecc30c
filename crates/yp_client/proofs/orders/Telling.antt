-- The faults of `orders` may be told, and have their causes.
use Rattle.std.proofs.Common.{◌≡◌, ℕ, ◌+◌, ◌≤◌, Bool, false, List, Option, Some, None, Result, Ok, Err, refl, sym, ap, ◌∙◌, subst, inl, inr, arith}
use Rattle.std.specs.Prelude.{◌⊎◌, IsOk, IfErr, min, ⊤}
use Rattle.std.specs.Borrow.{Bor}
use Rattle.std.specs.Io.KnownBytes.{Keeps}
use Rattle.yp_io.specs.Counts.{HasRisen, last_count}
use Rattle.yp_io.specs.declared.stream.Peer.{Peer}
use Rattle.yp_io.specs.Dials.{Dialing}
use Rattle.yp_messages.specs.declared.stat.YpStat.TheVariants as stats
use Rattle.yp_version.specs.declared.builder.VersionFault.TheVariants as version_faults
use Rattle.yp_client.specs.declared.fault.ClientFault.{ClientFault}
use Rattle.yp_client.specs.declared.fault.ClientFault.TheVariants as client_faults
use Rattle.yp_messages.specs.declared.maplist.MapList.{MapList}
use Rattle.yp_client.specs.Limits.{reply_max}
use Rattle.yp_client.specs.Results.{master_of, order_of, maps_of}
use Rattle.yp_client.specs.Said.{SaysNumber, SaysBytes, SaysNames}
use Rattle.yp_client.specs.Asked.{master_call, order_call, maplist_call}
use Rattle.yp_client.specs.States.{ClientState}
use Rattle.yp_client.specs.Calls.{Calls, spends}
use Rattle.yp_client.specs.Dialed.{IsNotDialed}
use Rattle.yp_client.specs.declared.query.fault.QueryFault.{QueryFault}
use Rattle.yp_client.specs.declared.query.fault.QueryFault.TheVariants.{NoKey, NotMember, NotDone, Client, Dial, Output}
use Rattle.yp_client.specs.declared.query.fault.QueryFault.TheVariants.{NoMemory}
use Rattle.yp_client.specs.query.Faults.{query_fault}
use Rattle.yp_client.specs.inside.query.Faults.{FaultIsTellable}
use Rattle.yp_client.specs.query.Asked.{Outcome, meant_by, CallIsMade, IsUnlessMemory}
use Rattle.yp_client.specs.query.Scenes.{QueryTells, Exchanges, Dials}
use Rattle.yp_client.specs.inside.query.Scenes.{DialHasCause, HasQueryCause}
use Rattle.yp_client.specs.orders.InTurn.{Step, InTurn, Comes}
use Rattle.yp_client.specs.orders.Asked.{Mastered, Orders, Survey, Comparison, survey_of, comparison_of, order_told}
use Rattle.yp_client.specs.orders.Asked.{ListsMaps, TellsMaster, TellsOrder, TellsOrders, SurveysOrders, SurveysMaps}
use Rattle.yp_client.specs.orders.Asked.{TellsSurvey, AsksOther, AsksOthers, AsksServers}
use Rattle.yp_client.specs.orders.Scenes.{PrintsComparison, Compares}
use Rattle.yp_client.proofs.query.Telling.{unspent}
use Rattle.yp_client.proofs.orders.Going.{Course, Goes, turn_goes, then_goes, comes_goes, memory_goes}

-- what calls may come to: a fault of a call that may be told, of a dial, or of memory
abbrev pub MayCome : QueryFault → Type 0
MayCome NoKey = ⊥
MayCome NotMember = ⊥
MayCome (NotDone status) = ⊥
MayCome Output = ⊥
MayCome fault = FaultIsTellable fault

come_tells : (fault : QueryFault) → MayCome fault → FaultIsTellable fault
come_tells NoKey h = absurd h
come_tells NotMember h = absurd h
come_tells (NotDone status) h = absurd h
come_tells Output h = absurd h
come_tells fault h = h

refused : (fault : ClientFault) → (fault ≡ client_faults.Spent → ⊥) → MayCome (query_fault fault)
refused client_faults.Spent fresh = absurd (fresh refl)
refused (client_faults.Rows row version_faults.NoMemory) fresh = tt
refused (client_faults.Rows row fault) fresh = tt
refused fault fresh = tt

-- ---- on one wire

-- the half of a wire that failed has counted it, and no call comes to a dial's fault
abbrev WireHasCause : QueryFault → ClientState → ClientState → Type 0
WireHasCause (Client client_faults.ReadFault) old new = HasRisen old.reads new.reads
WireHasCause (Client client_faults.WriteFault) old new = HasRisen old.writes new.writes
WireHasCause Dial old new = ⊥
WireHasCause fault old new = ⊤

abbrev MovesOn : ClientState → ClientState → Type 0
MovesOn old new = (old.reads ≤ new.reads) × (old.writes ≤ new.writes)

cause_behind : (fault : QueryFault) (a b c : ClientState) → MovesOn a b → WireHasCause fault b c → WireHasCause fault a c
cause_behind (Client client_faults.ReadFault) a b c moves h = omega (arith, moves.0, h)
cause_behind (Client client_faults.WriteFault) a b c moves h = omega (arith, moves.1, h)
cause_behind (Client (client_faults.Yp stat)) a b c moves h = tt
cause_behind (Client (client_faults.Denied head)) a b c moves h = tt
cause_behind (Client (client_faults.BadReply at)) a b c moves h = tt
cause_behind (Client (client_faults.BadXid want got)) a b c moves h = tt
cause_behind (Client (client_faults.Torn at)) a b c moves h = tt
cause_behind (Client (client_faults.TooLong at)) a b c moves h = tt
cause_behind (Client client_faults.Spent) a b c moves h = tt
cause_behind (Client (client_faults.Rows row why)) a b c moves h = tt
cause_behind (Client client_faults.NoMemory) a b c moves h = tt
cause_behind NoKey a b c moves h = tt
cause_behind NotMember a b c moves h = tt
cause_behind (NotDone status) a b c moves h = tt
cause_behind Dial a b c moves h = h
cause_behind Output a b c moves h = tt
cause_behind NoMemory a b c moves h = tt

abbrev on_wire : Course ClientState
on_wire = record {
  fresh = λ s. s.spent ≡ false;
  moves = MovesOn;
  tells = λ fault old new. MayCome fault × WireHasCause fault old new;
  still = λ s. (omega arith, omega arith);
  on = λ a b c before after. (omega (arith, before.0, after.0), omega (arith, before.1, after.1));
  behind = λ fault a b c before h. (h.0, cause_behind fault a b c before h.1);
  memory = λ a b. (tt, tt);
}

-- what a call comes to: a value only where it isn't spent, and for its fault that, or a value
pub record Means {X V : Type 0} (means : Result X ClientFault → Outcome V) : Type 0 where
  pub unspent : (answer : Result X ClientFault) → IsOk (means answer) → spends answer ≡ false
  pub told : (fault : ClientFault) → IsOk (means (Err fault)) ⊎ (means (Err fault) ≡ Err (query_fault fault))
  pub value : (x : X) → IsOk (means (Ok x))

not_both : {V : Type 0} (outcome : Outcome V) (fault : QueryFault) → outcome ≡ Err fault → IsOk outcome → ⊥
not_both (Ok value) fault is ok = cc
not_both (Err other) fault is ok = cc

fault_cause : {X : Type 0} (limit : ℕ) (call : ℕ → List ℕ) (answers : ℕ → List ℕ → Result X ClientFault → Type 0)
    (fault : ClientFault) (old new : ClientState) → Calls limit call answers (Err fault) old new
    → WireHasCause (query_fault fault) old new
fault_cause limit call answers client_faults.ReadFault old new calls = calls.answered.0
fault_cause limit call answers client_faults.WriteFault old new calls = calls.answered.0
fault_cause limit call answers client_faults.NoMemory old new calls = tt
fault_cause limit call answers (client_faults.Rows row version_faults.NoMemory) old new calls = tt
fault_cause limit call answers (client_faults.Rows row why) old new calls = tt
fault_cause limit call answers (client_faults.Yp stat) old new calls = tt
fault_cause limit call answers (client_faults.Denied head) old new calls = tt
fault_cause limit call answers (client_faults.BadReply at) old new calls = tt
fault_cause limit call answers (client_faults.BadXid want got) old new calls = tt
fault_cause limit call answers (client_faults.Torn at) old new calls = tt
fault_cause limit call answers (client_faults.TooLong at) old new calls = tt
fault_cause limit call answers client_faults.Spent old new calls = tt

module _ {X V : Type 0} (limit : ℕ) (call : ℕ → List ℕ) (answers : ℕ → List ℕ → Result X ClientFault → Type 0)
    (means : Result X ClientFault → Outcome V) (is : Means means) (old new : ClientState) (fresh : old.spent ≡ false) where
  fault_told : (answer : Result X ClientFault) (fault : QueryFault) → Calls limit call answers answer old new
      → means answer ≡ Err fault → MayCome fault × WireHasCause fault old new
  fault_told (Ok x) fault calls e = absurd (not_both (means (Ok x)) fault e (is.value x))
  fault_told (Err why) fault calls e = elim (is.told why) [
    | inl ok ↦ absurd (not_both (means (Err why)) fault e ok)
    | inr says ↦
        let same : query_fault why ≡ fault = cc in
        subst (λ (f : QueryFault). MayCome f × WireHasCause f old new) same
        (refused why (unspent limit call answers why old new fresh calls), fault_cause limit call answers why old new calls)
  ]

  call_goes : (outcome : Outcome V) → CallIsMade limit call answers means outcome old new
      → Goes on_wire outcome old new
  call_goes (Ok value) did = record {
    moves = (did.calls.reads, did.calls.writes);
    fresh = λ _. did.calls.spent ∙ is.unspent did.answer (subst (λ (o : Outcome V). IsOk o) did.meant refl);
    fault = tt;
  }
  call_goes (Err NoMemory) did =
      record { moves = (did.calls.reads, did.calls.writes); fresh = λ ok. absurd cc; fault = (tt, tt) }
  call_goes (Err fault) did = record {
    moves = (did.calls.reads, did.calls.writes);
    fresh = λ ok. absurd cc;
    fault = fault_told did.answer fault did.calls (sym did.meant);
  }

meant_spends : {X V : Type 0} (text : X → V) (answer : Result X ClientFault) → IsOk (meant_by query_fault text answer)
    → spends answer ≡ false
meant_spends text (Ok x) ok = refl
meant_spends text (Err fault) ok = absurd cc

pub meant_means : {X V : Type 0} (text : X → V) → Means (meant_by query_fault text)
meant_means text = record { unspent = meant_spends text; told = λ fault. inr refl; value = λ x. refl }

order_spends : (answer : Result ℕ ClientFault) → IsOk (order_told answer) → spends answer ≡ false
order_spends (Ok order) ok = refl
order_spends (Err (client_faults.Yp stat)) ok = refl
order_spends (Err fault) ok = absurd cc

order_refused : (fault : ClientFault) → IsOk (order_told (Err fault)) ⊎ (order_told (Err fault) ≡ Err (query_fault fault))
order_refused (client_faults.Yp stat) = inl refl
order_refused fault = inr refl

pub order_means : Means order_told
order_means = record { unspent = order_spends; told = order_refused; value = λ order. refl }

list_goes : (domain : List ℕ) (outcome : Outcome (List (List ℕ))) (old new : ClientState) → old.spent ≡ false
    → ListsMaps domain outcome old new → Goes on_wire outcome old new
list_goes domain outcome old new fresh did =
    call_goes reply_max (maplist_call domain) (SaysNames maps_of) (meant_by query_fault (λ (list : MapList). list.maps))
    (meant_means (λ (list : MapList). list.maps)) old new fresh outcome did

master_goes : (domain map : List ℕ) (outcome : Outcome Mastered) (old new : ClientState) → old.spent ≡ false
    → TellsMaster domain map outcome old new → Goes on_wire outcome old new
master_goes domain map outcome old new fresh did =
    call_goes reply_max (master_call domain map) (SaysBytes master_of)
    (meant_by query_fault (λ (master : Bor (List ℕ)). (map, master.now)))
    (meant_means (λ (master : Bor (List ℕ)). (map, master.now))) old new fresh outcome did

order_goes : (domain : List ℕ) (map : Mastered) (outcome : Outcome (Option ℕ)) (old new : ClientState)
    → old.spent ≡ false → TellsOrder domain map outcome old new → Goes on_wire outcome old new
order_goes domain map outcome old new fresh did =
    call_goes reply_max (order_call domain map.0) (SaysNumber order_of) order_told order_means old new fresh outcome did

orders_go : (domain : List ℕ) (maps : List Mastered) (outcome : Outcome Orders) (old new : ClientState)
    → old.spent ≡ false → TellsOrders domain maps outcome old new → Goes on_wire outcome old new
orders_go domain maps outcome old new fresh did =
    turn_goes on_wire (TellsOrder domain) maps outcome old new (order_goes domain) fresh did

survey_orders_go : (domain : List ℕ) (maps : List Mastered) (outcome : Outcome Survey) (old new : ClientState)
    → old.spent ≡ false → SurveysOrders domain maps outcome old new → Goes on_wire outcome old new
survey_orders_go domain maps outcome old new fresh did =
    then_goes on_wire (TellsOrders domain maps) (λ orders. Comes (survey_of maps orders)) outcome old new
    (λ said mid first. orders_go domain maps said old mid fresh first)
    (λ orders told a b unspent came. comes_goes on_wire (survey_of maps orders) told a b unspent came) did

survey_maps_go : (domain : List ℕ) (names : List (List ℕ)) (outcome : Outcome Survey) (old new : ClientState)
    → old.spent ≡ false → SurveysMaps domain names outcome old new → Goes on_wire outcome old new
survey_maps_go domain names outcome old new fresh did =
    then_goes on_wire (InTurn (TellsMaster domain) names) (SurveysOrders domain) outcome old new
    (λ said mid first. turn_goes on_wire (TellsMaster domain) names said old mid (master_goes domain) fresh first)
    (survey_orders_go domain) did

survey_goes : (domain : List ℕ) (outcome : Outcome Survey) (old new : ClientState) → old.spent ≡ false
    → TellsSurvey domain outcome old new → Goes on_wire outcome old new
survey_goes domain outcome old new fresh did =
    then_goes on_wire (ListsMaps domain) (SurveysMaps domain) outcome old new
    (λ said mid first. list_goes domain said old mid fresh first) (survey_maps_go domain) did

-- nor does a survey
pub survey_undialed : (domain : List ℕ) (outcome : Outcome Survey) (old new : ClientState) → old.spent ≡ false
    → TellsSurvey domain outcome old new → outcome ≡ Err Dial → ⊥
survey_undialed domain outcome old new fresh did is =
    let P : Outcome Survey → Type 0 = λ o. Goes on_wire o old new in
    (subst P is (survey_goes domain outcome old new fresh did)).fault.1

-- ---- on all wires

abbrev CountsOn : Dialing → Dialing → Type 0
CountsOn old new = min old.faults last_count ≤ new.faults

dial_behind : (fault : QueryFault) (a b c : Dialing) → CountsOn a b → DialHasCause fault b.faults c.faults
    → DialHasCause fault a.faults c.faults
dial_behind Dial a b c moves h = omega (arith, moves, h)
dial_behind (Client client_faults.ReadFault) a b c moves h = omega (arith, moves, h)
dial_behind (Client client_faults.WriteFault) a b c moves h = omega (arith, moves, h)
dial_behind (Client (client_faults.Yp stat)) a b c moves h = tt
dial_behind (Client (client_faults.Denied head)) a b c moves h = tt
dial_behind (Client (client_faults.BadReply at)) a b c moves h = tt
dial_behind (Client (client_faults.BadXid want got)) a b c moves h = tt
dial_behind (Client (client_faults.Torn at)) a b c moves h = tt
dial_behind (Client (client_faults.TooLong at)) a b c moves h = tt
dial_behind (Client client_faults.Spent) a b c moves h = tt
dial_behind (Client (client_faults.Rows row why)) a b c moves h = tt
dial_behind (Client client_faults.NoMemory) a b c moves h = tt
dial_behind NoKey a b c moves h = tt
dial_behind NotMember a b c moves h = tt
dial_behind (NotDone status) a b c moves h = tt
dial_behind Output a b c moves h = tt
dial_behind NoMemory a b c moves h = tt

abbrev on_dial : Course Dialing
on_dial = record {
  fresh = λ s. ⊤;
  moves = CountsOn;
  tells = λ fault old new. MayCome fault × DialHasCause fault old.faults new.faults;
  still = λ s. omega arith;
  on = λ a b c before after. omega (arith, before, after);
  behind = λ fault a b c before h. (h.0, dial_behind fault a b c before h.1);
  memory = λ a b. (tt, tt);
}

-- the count of a dial rose with that of its wire
counted : (fault : QueryFault) (first last : ClientState) (old new : Dialing)
    → min (old.faults + (last.reads + last.writes)) last_count ≤ new.faults → first.reads ≡ 0 → first.writes ≡ 0
    → WireHasCause fault first last → DialHasCause fault old.faults new.faults
counted Dial first last old new count reads writes h = absurd h
counted (Client client_faults.ReadFault) first last old new count reads writes h = omega (arith, count, reads, h)
counted (Client client_faults.WriteFault) first last old new count reads writes h = omega (arith, count, writes, h)
counted (Client (client_faults.Yp stat)) first last old new count reads writes h = tt
counted (Client (client_faults.Denied head)) first last old new count reads writes h = tt
counted (Client (client_faults.BadReply at)) first last old new count reads writes h = tt
counted (Client (client_faults.BadXid want got)) first last old new count reads writes h = tt
counted (Client (client_faults.Torn at)) first last old new count reads writes h = tt
counted (Client (client_faults.TooLong at)) first last old new count reads writes h = tt
counted (Client client_faults.Spent) first last old new count reads writes h = tt
counted (Client (client_faults.Rows row why)) first last old new count reads writes h = tt
counted (Client client_faults.NoMemory) first last old new count reads writes h = tt
counted NoKey first last old new count reads writes h = tt
counted NotMember first last old new count reads writes h = tt
counted (NotDone status) first last old new count reads writes h = tt
counted Output first last old new count reads writes h = tt
counted NoMemory first last old new count reads writes h = tt

module _ {V : Type 0} (says : Step V ClientState)
    (goes : (outcome : Outcome V) (old new : ClientState) → old.spent ≡ false → says outcome old new
    → Goes on_wire outcome old new) where
  unless_goes : (outcome : Outcome V) (old new : ClientState) → old.spent ≡ false
      → IsUnlessMemory says outcome old new → Goes on_wire outcome old new
  unless_goes outcome old new fresh (inl did) = goes outcome old new fresh did
  unless_goes outcome old new fresh (inr none) =
      let here : Goes on_wire {V = V} (Err NoMemory) old old =
      record { moves = on_wire.still old; fresh = λ ok. absurd cc; fault = (tt, tt) } in
      let there : Goes on_wire {V = V} (Err NoMemory) old new =
      subst (λ (s : ClientState). Goes on_wire {V = V} (Err NoMemory) old s) (sym none.1) here in
      subst (λ (o : Outcome V). Goes on_wire o old new) (sym none.0) there

  dials_go : (peer : Peer) (outcome : Outcome V) (old new : Dialing) → Dials peer (IsUnlessMemory says) outcome old new
      → Goes on_dial outcome old new
  dials_go peer (Err Dial) old new did =
      record { moves = omega (arith, did.cause); fresh = λ ok. tt; fault = (tt, did.cause) }
  dials_go peer (Ok value) old new did =
      record { moves = omega (arith, did.dialed.counted); fresh = λ ok. tt; fault = tt }
  dials_go peer (Err fault) old new did =
      let wire = unless_goes (Err fault) did.first did.last did.dialed.begins.spent did.converses in
      let fresh = did.dialed.begins.fresh in
      record {
        moves = omega (arith, did.dialed.counted);
        fresh = λ ok. tt;
        fault = (
          wire.fault.0,
          counted fault did.first did.last old new did.dialed.counted fresh.no_read fresh.no_write wire.fault.1,
        );
      }

other_goes : (domain : List ℕ) (maps : List Mastered) (peer : Peer) (outcome : Outcome Orders) (old new : Dialing) → ⊤
    → AsksOther domain maps peer outcome old new → Goes on_dial outcome old new
other_goes domain maps peer outcome old new fresh did =
    memory_goes on_dial (Dials peer (IsUnlessMemory (TellsOrders domain maps))) outcome old new
    (λ said dialed. dials_go (TellsOrders domain maps) (orders_go domain maps) peer said old new dialed) did

others_go : (others : List Peer) (domain : List ℕ) (survey : Survey) (outcome : Outcome Comparison) (old new : Dialing)
    → ⊤ → AsksOthers others domain survey outcome old new → Goes on_dial outcome old new
others_go others domain survey outcome old new fresh did =
    then_goes on_dial (InTurn (AsksOther domain survey.maps) others) (λ orders. Comes (comparison_of survey orders))
    outcome old new
    (λ said mid first. turn_goes on_dial (AsksOther domain survey.maps) others said old mid
    (other_goes domain survey.maps) fresh first)
    (λ orders told a b still came. comes_goes on_dial (comparison_of survey orders) told a b still came) did

servers_go : (first : Peer) (others : List Peer) (domain : List ℕ) (outcome : Outcome Comparison) (old new : Dialing)
    → AsksServers first others domain outcome old new → Goes on_dial outcome old new
servers_go first others domain outcome old new did =
    then_goes on_dial (Dials first (IsUnlessMemory (TellsSurvey domain))) (AsksOthers others domain) outcome old new
    (λ said mid dialed. dials_go (TellsSurvey domain) (survey_goes domain) first said old mid dialed)
    (others_go others domain) did

-- ---- the whole

module _ (first : Peer) (others : List Peer) (domain : List ℕ) (old new : QueryTells) where
  told : (outcome : Outcome Comparison) (fault : QueryFault) → AsksServers first others domain outcome old.dial new.dial
      → outcome ≡ Err fault → MayCome fault × DialHasCause fault old.dial.faults new.dial.faults
  told outcome fault asks is =
      let goes = servers_go first others domain outcome old.dial new.dial asks in
      let P : Outcome Comparison → Type 0 = λ o. Goes on_dial o old.dial new.dial in
      (subst P is goes).fault

  pub compares_counts : (result : Result Bool QueryFault) → Compares first others domain result old new
      → CountsOn old.dial new.dial
  compares_counts result did = (servers_go first others domain did.outcome old.dial new.dial did.asks).moves

  pub compares_tells : (result : Result Bool QueryFault) → Compares first others domain result old new
      → IfErr result FaultIsTellable
  compares_tells (Ok level) did = tt
  compares_tells (Err Output) did = tt
  compares_tells (Err NoMemory) did = tt
  compares_tells (Err fault) did = come_tells fault (told did.outcome fault did.asks did.prints.0).0

  pub compares_cause : (result : Result Bool QueryFault) → Compares first others domain result old new
      → (result ≡ Err Output → HasRisen old.faults new.faults) → IfErr result (λ fault. HasQueryCause fault old new)
  compares_cause (Ok level) did output = tt
  compares_cause (Err Output) did output = output refl
  compares_cause (Err NoMemory) did output = tt
  compares_cause (Err fault) did output = (told did.outcome fault did.asks did.prints.0).1

-- what all calls come to
pub servers_come : (first : Peer) (others : List Peer) (domain : List ℕ) (outcome : Outcome Comparison)
    (old new : Dialing) (fault : QueryFault) → AsksServers first others domain outcome old new → outcome ≡ Err fault
    → MayCome fault
servers_come first others domain outcome old new fault asks is =
    let P : Outcome Comparison → Type 0 = λ o. Goes on_dial o old new in
    (subst P is (servers_go first others domain outcome old new asks)).fault.0

-- ---- a fault behind which nothing is printed

kept : (output : Option (List ℕ)) → Keeps output output
kept None = tt
kept (Some bytes) = refl

prints_none : (fault : QueryFault) (output : Option (List ℕ)) → MayCome fault
    → PrintsComparison (Err fault) (Err fault) output output
prints_none Output output may = absurd may
prints_none NoMemory output may = kept output
prints_none fault output may = (refl, kept output)

pub compares_none : (first : Peer) (others : List Peer) (domain : List ℕ) (result : Result Bool QueryFault)
    (fault told : QueryFault) (old : QueryTells) (dial : Dialing) → result ≡ Err fault → fault ≡ told
    → AsksServers first others domain (Err told) old.dial dial
    → Compares first others domain result old (record old { dial = dial })
compares_none first others domain result fault told old dial is same asks =
    let here : Compares first others domain (Err told) old (record old { dial = dial }) = record {
      outcome = Err told;
      asks = asks;
      prints = prints_none told old.output
          (servers_come first others domain (Err told) old.dial dial told asks refl);
    } in
    let whole : result ≡ Err told = is ∙ ap (λ (f : QueryFault). Err f) same in
    subst (λ (r : Result Bool QueryFault). Compares first others domain r old (record old { dial = dial })) (sym whole) here
