-- Servers whose wires give whole replies, which answer their calls, are compared.
use Rattle.std.proofs.Common.{◌≡◌, ℕ, ◌+◌, ◌<◌, ◌≤◌, ◌%◌, ◌^◌, Bool, true, false, cond, List, [], ◌∷◌, ◌++◌, length, Option}
use Rattle.std.proofs.Common.{Some, None, Result, Ok, Err, refl, sym, ap, ◌∙◌, subst, inl, inr, arith, length-append, append_assoc}
use Rattle.std.specs.Prelude.{IsOk, IfErr, ⊤}
use Rattle.std.specs.Borrow.{Bor}
use Rattle.std.proofs.lemmas.List.{append_cancel_left, append-nil}
use Rattle.yp_io.specs.Counts.{HasRisen}
use Rattle.yp_io.specs.declared.stream.Peer.{Peer}
use Rattle.yp_io.specs.Dials.{Wires, Connected, connected, Dialing, WireState, WireComes, GoesBack}
use Rattle.yp_messages.specs.declared.stat.YpStat.TheVariants as stat
use Rattle.yp_version.specs.declared.builder.VersionFault.TheVariants as version_faults
use Rattle.yp_client.specs.declared.fault.ClientFault.{ClientFault}
use Rattle.yp_client.specs.declared.fault.ClientFault.TheVariants as client
use Rattle.yp_client.specs.Limits.{reply_max}
use Rattle.yp_client.specs.States.{ClientState, IsFirst}
use Rattle.yp_client.specs.Results.{Says, SaysInMemory, master_of, order_of, maps_of}
use Rattle.yp_client.specs.Calls.{Calls, HearsReply, Answers, spends}
use Rattle.yp_client.specs.Said.{SaysNumber, SaysBytes, SaysNames}
use Rattle.yp_client.specs.Asked.{master_call, order_call, maplist_call}
use Rattle.yp_messages.specs.declared.maplist.MapList.{MapList}
use Rattle.yp_client.specs.declared.query.fault.QueryFault.{QueryFault}
use Rattle.yp_client.specs.declared.query.fault.QueryFault.TheVariants.{NoKey, NotMember, NotDone, Client, Dial, Output}
use Rattle.yp_client.specs.declared.query.fault.QueryFault.TheVariants.{NoMemory}
use Rattle.yp_client.specs.query.Faults.{query_fault}
use Rattle.yp_client.specs.query.Asked.{Outcome, told_by, meant_by, IsInMemory, CallIsMade, IsUnlessMemory, QueryOutcome}
use Rattle.yp_client.specs.query.Scenes.{QueryTells, Exchanges, Dials}
use Rattle.yp_client.specs.inside.query.Scenes.{HasQueryCause}
use Rattle.yp_client.specs.query.Complete.{BeginsWithReply}
use Rattle.yp_client.specs.orders.InTurn.{Step, EachMade, StopsAt, InTurn, Follows, Then, Comes, InMemory}
use Rattle.yp_client.specs.orders.Asked.{Mastered, Orders, Survey, Comparison, survey_of, comparison_of, order_told}
use Rattle.yp_client.specs.orders.Asked.{ListsMaps, TellsMaster, TellsOrder, TellsOrders, SurveysOrders, SurveysMaps}
use Rattle.yp_client.specs.orders.Asked.{TellsSurvey, AsksOther, AsksOthers, AsksServers}
use Rattle.yp_client.specs.orders.Scenes.{Compares}
use Rattle.yp_client.specs.orders.Complete.{BeginsWithReplies, IsOrderOrStatus, HasOrders, HasSurvey, EachHasOrders}
use Rattle.yp_client.specs.orders.Complete.{AreWires, HaveCome}
use Rattle.yp_client.specs.inside.orders.Complete.{IsCompared}
use Rattle.yp_client.proofs.query.Completing.{Laws, IsGood, memory_good, told_good, hears_reply, refused_not_ok, bytes_good}
use Rattle.yp_client.proofs.orders.Telling.{Means, meant_means, order_means, servers_come}

-- ---- outcomes

ok_same : {V E : Type 0} (outcome : Result V E) (x y : V) → outcome ≡ Ok x → outcome ≡ Ok y → x ≡ y
ok_same outcome x y a b = cc

err_same : {V : Type 0} (outcome : Outcome V) (x y : QueryFault) → outcome ≡ Err x → outcome ≡ Err y → x ≡ y
err_same outcome x y a b = cc

not_both : {V : Type 0} (outcome : Outcome V) (x : V) (fault : QueryFault) → outcome ≡ Ok x → outcome ≡ Err fault → ⊥
not_both outcome x fault a b = cc

-- an outcome, whatever its value is
abbrev silent : {V : Type 0} → Outcome V → QueryOutcome
silent (Ok value) = Ok []
silent (Err fault) = Err fault

abbrev Good : {V : Type 0} → Outcome V → Type 0
Good outcome = IsGood (silent outcome)

in_silence : {V : Type 0} (meant outcome : Outcome V) → IsInMemory meant outcome
    → IsInMemory (silent meant) (silent outcome)
in_silence meant (Ok value) is = ap silent is
in_silence meant (Err NoMemory) is = tt
in_silence meant (Err fault) is = ap silent is

-- ---- one call

-- a client that goes on, by the number of its next call, and by what its wire gives
record IsAt (xid : ℕ) (stream : List ℕ) (state : ClientState) : Type 0 where
  number : state.xid ≡ xid
  told : state.wire.input ≡ Some stream
  unspent : state.spent ≡ false

-- an outcome that is good, and where the client is behind it
record Heard {V : Type 0} (outcome : Outcome V) (xid : ℕ) (rest : List ℕ) (new : ClientState) : Type 0 where
  good : Good outcome
  goes_on : IsOk outcome → IsAt ((xid + 1) % 2 ^ 32) rest new

heard_of : {X : Type 0} (limit : ℕ) (answers : List ℕ → Result X ClientFault → Type 0) (answer : Result X ClientFault)
    (old new : ClientState) → spends answer ≡ false → Answers limit answers answer old new
    → HearsReply limit answers answer old new
heard_of limit answers (Ok x) old new goes h = h
heard_of limit answers (Err (client.Yp status)) old new goes h = h
heard_of limit answers (Err (client.Denied head)) old new goes h = h
heard_of limit answers (Err (client.Rows row why)) old new goes h = h
heard_of limit answers (Err client.NoMemory) old new goes h = h
heard_of limit answers (Err (client.BadReply at)) old new goes h = absurd cc
heard_of limit answers (Err (client.BadXid want got)) old new goes h = absurd cc
heard_of limit answers (Err (client.Torn at)) old new goes h = absurd cc
heard_of limit answers (Err (client.TooLong at)) old new goes h = absurd cc
heard_of limit answers (Err client.ReadFault) old new goes h = absurd cc
heard_of limit answers (Err client.WriteFault) old new goes h = absurd cc
heard_of limit answers (Err client.Spent) old new goes h = absurd cc

meant_ok : {V : Type 0} (meant outcome : Outcome V) → IsInMemory meant outcome → IsOk outcome → IsOk meant
meant_ok meant (Ok value) is ok = subst (λ o. IsOk o) is refl
meant_ok meant (Err NoMemory) is ok = absurd cc
meant_ok meant (Err fault) is ok = absurd cc

module _ (laws : Laws) {X V : Type 0} (call : ℕ → List ℕ) (answers : ℕ → List ℕ → Result X ClientFault → Type 0)
    (means : Result X ClientFault → Outcome V) (is : Means means) (xid : ℕ) (stream : List ℕ)
    (P : List ℕ → List ℕ → Type 0) (good : BeginsWithReply reply_max stream P)
    (never : (fault : ClientFault) → answers xid good.reply (Err fault) → Good (means (Err fault)))
    (reads : Good (means (Err client.ReadFault))) (writes : Good (means (Err client.WriteFault)))
    (found : (x : X) → Good (means (Ok x)))
    (outcome : Outcome V) (old new : ClientState) (at : IsAt xid stream old)
    (did : CallIsMade reply_max call answers means outcome old new) where
  comes_good : Good outcome
  comes_good =
      memory_good (silent (means did.answer)) (silent outcome)
      (told_good laws reply_max stream P good call answers (λ (a : Result X ClientFault). silent (means a)) did.answer old new
      did.calls at.told at.unspent
      (λ fault says. never fault (subst (λ (n : ℕ). answers n good.reply (Err fault)) at.number says)) reads writes found)
      (in_silence (means did.answer) outcome did.meant)

  call_heard : Heard outcome xid good.rest new
  call_heard = record {
    good = comes_good;
    goes_on = λ ok.
        let unspent = is.unspent did.answer (meant_ok (means did.answer) outcome did.meant ok) in
        record {
          number = did.calls.xid ∙ ap (λ (b : Bool). cond b old.xid ((old.xid + 1) % 2 ^ 32)) at.unspent
              ∙ ap (λ (n : ℕ). (n + 1) % 2 ^ 32) at.number;
          told = (hears_reply laws reply_max stream P good (answers old.xid) did.answer old new at.told
              (heard_of reply_max (answers old.xid) did.answer old new unspent did.calls.answered)).left;
          unspent = did.calls.spent ∙ unspent;
        };
  }

-- a status in place of an order is one that is meant
order_good : (n : ℕ) (reply : List ℕ) (fault : ClientFault) → IsOrderOrStatus (order_of n reply)
    → SaysNumber order_of n reply (Err fault) → Good (order_told (Err fault))
unfolding IsGood
order_good n reply (client.Yp status) found says = tt
order_good n reply (client.Denied head) found says = absurd (subst IsOrderOrStatus says found)
order_good n reply (client.BadReply at) found says = absurd (subst IsOrderOrStatus says found)
order_good n reply (client.BadXid want got) found says = absurd (subst IsOrderOrStatus says found)
order_good n reply (client.Torn at) found says = absurd (subst IsOrderOrStatus says found)
order_good n reply (client.TooLong at) found says = absurd (subst IsOrderOrStatus says found)
order_good n reply client.ReadFault found says = absurd (subst IsOrderOrStatus says found)
order_good n reply client.WriteFault found says = absurd (subst IsOrderOrStatus says found)
order_good n reply client.Spent found says = absurd (subst IsOrderOrStatus says found)
order_good n reply (client.Rows row why) found says = absurd (subst IsOrderOrStatus says found)
order_good n reply client.NoMemory found says = absurd (subst IsOrderOrStatus says found)

-- ---- calls in turn

-- where a client is behind calls in turn, and that P holds of it
Behind : (ℕ → List ℕ → Type 0) → ClientState → Type 0
Behind P new = (xid : ℕ) × (stream : List ℕ) × IsAt xid stream new × P xid stream

-- the first of replies, and those behind it
replies_split : {A : Type 0} (answers : ℕ → List ℕ → Type 0) (front more : List A) (xid : ℕ) (stream : List ℕ)
    (P : ℕ → List ℕ → Type 0) → BeginsWithReplies answers (front ++ more) xid stream P
    → BeginsWithReplies answers front xid stream (λ n rest. BeginsWithReplies answers more n rest P)
replies_split answers [] more xid stream P h = h
replies_split answers (item ∷ front) more xid stream P h = record {
  reply = h.reply;
  bytes = h.bytes;
  rest = h.rest;
  fragments = h.fragments;
  whole = h.whole;
  good = (h.good.0, replies_split answers front more ((xid + 1) % 2 ^ 32) h.rest P h.good.1);
}

module _ {A V : Type 0} (step : A → Step V ClientState) (answers : ℕ → List ℕ → Type 0)
    (heard : (item : A) (outcome : Outcome V) (old new : ClientState) (xid : ℕ) (stream : List ℕ)
    (P : List ℕ → List ℕ → Type 0) (good : BeginsWithReply reply_max stream P) → answers xid good.reply
    → IsAt xid stream old → step item outcome old new → Heard outcome xid good.rest new) where
  each_heard : (items : List A) (values : List V) (old new : ClientState) (xid : ℕ) (stream : List ℕ)
      (P : ℕ → List ℕ → Type 0) → IsAt xid stream old → BeginsWithReplies answers items xid stream P
      → EachMade step items values old new → Behind P new
  unfolding Behind
  each_heard [] [] old new xid stream P at replies made =
      (xid, stream, subst (λ (s : ClientState). IsAt xid stream s) (sym made) at, replies)
  each_heard [] (value ∷ values) old new xid stream P at replies made = absurd made
  each_heard (item ∷ items) [] old new xid stream P at replies made = absurd made
  each_heard (item ∷ items) (value ∷ values) old new xid stream P at replies made =
      let one = heard item (Ok value) old made.0 xid stream _ replies replies.good.0 at made.1 in
      each_heard items values made.0 new ((xid + 1) % 2 ^ 32) replies.rest P (one.goes_on refl) replies.good.1 made.2

  turn_heard : (items : List A) (outcome : Outcome (List V)) (old new : ClientState) (xid : ℕ) (stream : List ℕ)
      (P : ℕ → List ℕ → Type 0) → IsAt xid stream old → BeginsWithReplies answers items xid stream P
      → InTurn step items outcome old new → Good outcome × (IsOk outcome → Behind P new)
  unfolding IsGood Behind
  turn_heard items (Ok values) old new xid stream P at replies did =
      (tt, λ ok. each_heard items values old new xid stream P at replies did)
  turn_heard items (Err fault) old new xid stream P at replies did =
      let parts : BeginsWithReplies answers (did.front ++ did.item ∷ did.rest) xid stream P =
      subst (λ (l : List A). BeginsWithReplies answers l xid stream P) did.whole replies in
      let there = each_heard did.front did.values old did.mid xid stream
      (λ n rest. BeginsWithReplies answers (did.item ∷ did.rest) n rest P) at
      (replies_split answers did.front (did.item ∷ did.rest) xid stream P parts) did.made in
      let last = heard did.item (Err fault) did.mid new there.0 there.1 _ there.3 there.3.good.0 there.2 did.stops in
      (last.good, λ ok. absurd cc)

-- ---- as many of one list as of another

abbrev AreAsMany : {A B : Type 0} → List A → List B → Type 0
AreAsMany [] [] = ⊤
AreAsMany (x ∷ xs) (y ∷ ys) = AreAsMany xs ys
AreAsMany xs ys = ⊥

made_as_many : {A V S : Type 0} (step : A → Step V S) (items : List A) (values : List V) (old new : S)
    → EachMade step items values old new → AreAsMany items values
made_as_many step [] [] old new made = tt
made_as_many step [] (value ∷ values) old new made = absurd made
made_as_many step (item ∷ items) [] old new made = absurd made
made_as_many step (item ∷ items) (value ∷ values) old new made = made_as_many step items values made.0 new made.2

as_many_replies : {A B : Type 0} (answers : ℕ → List ℕ → Type 0) (xs : List A) (ys : List B) (xid : ℕ) (stream : List ℕ)
    (P : ℕ → List ℕ → Type 0) → AreAsMany xs ys → BeginsWithReplies answers xs xid stream P
    → BeginsWithReplies answers ys xid stream P
as_many_replies answers [] [] xid stream P many h = h
as_many_replies answers [] (y ∷ ys) xid stream P many h = absurd many
as_many_replies answers (x ∷ xs) [] xid stream P many h = absurd many
as_many_replies answers (x ∷ xs) (y ∷ ys) xid stream P many h = record {
  reply = h.reply;
  bytes = h.bytes;
  rest = h.rest;
  fragments = h.fragments;
  whole = h.whole;
  good = (h.good.0, as_many_replies answers xs ys ((xid + 1) % 2 ^ 32) h.rest P many h.good.1);
}

-- ---- one wire

-- the first server: what it comes to is good, and its survey has as many maps as were named
abbrev SurveyIsGood : List (List ℕ) → Outcome Survey → Type 0
SurveyIsGood names outcome = Good outcome × ((survey : Survey) → outcome ≡ Ok survey → AreAsMany names survey.maps)

no_survey : (names : List (List ℕ)) (outcome : Outcome Survey) (fault : QueryFault) → IsGood (Err fault)
    → outcome ≡ Err fault → SurveyIsGood names outcome
no_survey names outcome fault good is =
    (subst (λ (o : Outcome Survey). Good o) (sym is) good, λ survey e. absurd (not_both outcome survey fault e is))

module _ (laws : Laws) (domain : List ℕ) where
  master_heard : (map : List ℕ) (outcome : Outcome Mastered) (old new : ClientState) (xid : ℕ) (stream : List ℕ)
      (P : List ℕ → List ℕ → Type 0) (good : BeginsWithReply reply_max stream P) → IsOk (master_of xid good.reply)
      → IsAt xid stream old → TellsMaster domain map outcome old new → Heard outcome xid good.rest new
  unfolding IsGood
  master_heard map outcome old new xid stream P good ok at did =
      call_heard laws (master_call domain map) (SaysBytes master_of)
      (meant_by query_fault (λ (master : Bor (List ℕ)). (map, master.now)))
      (meant_means (λ (master : Bor (List ℕ)). (map, master.now))) xid stream P good
      (λ fault says. absurd (refused_not_ok (master_of xid good.reply) fault says ok)) tt tt (λ x. tt) outcome old new at did

  order_heard : (map : Mastered) (outcome : Outcome (Option ℕ)) (old new : ClientState) (xid : ℕ) (stream : List ℕ)
      (P : List ℕ → List ℕ → Type 0) (good : BeginsWithReply reply_max stream P)
      → IsOrderOrStatus (order_of xid good.reply)
      → IsAt xid stream old → TellsOrder domain map outcome old new → Heard outcome xid good.rest new
  unfolding IsGood
  order_heard map outcome old new xid stream P good said at did =
      call_heard laws (order_call domain map.0) (SaysNumber order_of) order_told order_means xid stream P good
      (λ fault says. order_good xid good.reply fault said says) tt tt (λ x. tt) outcome old new at did

  orders_good : (maps : List Mastered) (outcome : Outcome Orders) (old new : ClientState) (xid : ℕ) (stream : List ℕ)
      → IsAt xid stream old → HasOrders maps xid stream → TellsOrders domain maps outcome old new → Good outcome
  orders_good maps outcome old new xid stream at replies did =
      (turn_heard (TellsOrder domain) (λ n reply. IsOrderOrStatus (order_of n reply)) order_heard maps outcome old new
      xid stream (λ n rest. ⊤) at replies did).0

  behind_orders : (names : List (List ℕ)) (maps : List Mastered) (said : Outcome Orders) (outcome : Outcome Survey)
      (mid new : ClientState) → AreAsMany names maps → Good said
      → Follows (λ orders. Comes (survey_of maps orders)) said outcome mid new → SurveyIsGood names outcome
  unfolding IsGood
  behind_orders names maps (Ok orders) outcome mid new many good did = (
    subst (λ (o : Outcome Survey). Good o) (sym did.0) tt,
    λ survey e.
        let same = ok_same outcome (survey_of maps orders) survey did.0 e in
        subst (λ (s : Survey). AreAsMany names s.maps) same many,
  )
  behind_orders names maps (Err fault) outcome mid new many good did =
      no_survey names outcome fault (good) did.0

  behind_masters : (names : List (List ℕ)) (said : Outcome (List Mastered)) (outcome : Outcome Survey)
      (first mid new : ClientState) → InTurn (TellsMaster domain) names said first mid → Good said
      → (IsOk said → Behind (λ n rest. HasOrders names n rest) mid)
      → Follows (SurveysOrders domain) said outcome mid new
      → SurveyIsGood names outcome
  unfolding Behind
  behind_masters names (Ok maps) outcome first mid new made good there did =
      let many = made_as_many (TellsMaster domain) names maps first mid made in
      let here = there refl in
      let replies = as_many_replies (λ n reply. IsOrderOrStatus (order_of n reply)) names maps here.0 here.1
      (λ n rest. ⊤) many here.3 in
      behind_orders names maps did.said outcome did.mid new many
      (orders_good maps did.said mid did.mid here.0 here.1 here.2 replies did.begins) did.follows
  behind_masters names (Err fault) outcome first mid new made good there did =
      no_survey names outcome fault (good) did.0

  behind_names : (names : List (List ℕ)) (outcome : Outcome Survey) (mid new : ClientState) (xid : ℕ) (stream : List ℕ)
      → IsAt xid stream mid
      → BeginsWithReplies (λ n reply. IsOk (master_of n reply)) names xid stream (HasOrders names)
      → SurveysMaps domain names outcome mid new
      → SurveyIsGood names outcome
  behind_names names outcome mid new xid stream at replies did =
      let masters = turn_heard (TellsMaster domain) (λ n reply. IsOk (master_of n reply)) master_heard names did.said mid
      did.mid xid stream (HasOrders names) at replies did.begins in
      behind_masters names did.said outcome mid did.mid new did.begins masters.0 masters.1 did.follows

  listed_names : (names : List (List ℕ)) (stream : List ℕ) (good : HasSurvey names stream) (said : List (List ℕ))
      (old mid : ClientState) → IsAt 1 stream old → ListsMaps domain (Ok said) old mid → said ≡ names
  listed_names names stream good said old mid at did =
      (elim did.answer as (λ a. Calls reply_max (maplist_call domain) (SaysNames maps_of) a old mid
      → Ok said ≡ meant_by query_fault (λ (list : MapList). list.maps) a → said ≡ names) [
        | Ok list ↦ λ calls meant.
            let heard = hears_reply laws reply_max stream _ good (SaysNames maps_of old.xid) (Ok list) old mid at.told
            calls.answered in
            let told : maps_of 1 good.reply ≡ Ok list.maps =
            subst (λ (n : ℕ). maps_of n good.reply ≡ Ok list.maps) at.number heard.by_reply in
            let same = ok_same (maps_of 1 good.reply) list.maps names told good.good.0 in
            let is : said ≡ list.maps = cc in
            is ∙ same
        | Err fault ↦ λ calls meant. absurd cc
      ]) did.calls did.meant

  behind_list : (names : List (List ℕ)) (stream : List ℕ) (good : HasSurvey names stream)
      (said : Outcome (List (List ℕ))) (outcome : Outcome Survey) (old mid new : ClientState) → IsAt 1 stream old
      → ListsMaps domain said old mid → Heard said 1 good.rest mid
      → Follows (SurveysMaps domain) said outcome mid new
      → SurveyIsGood names outcome
  behind_list names stream good (Ok said) outcome old mid new at lists heard did =
      let same = listed_names names stream good said old mid at lists in
      let same_did = subst (λ (l : List (List ℕ)). SurveysMaps domain l outcome mid new) same did in
      behind_names names outcome mid new 2 good.rest (heard.goes_on refl) good.good.1 same_did
  behind_list names stream good (Err fault) outcome old mid new at lists heard did =
      no_survey names outcome fault (heard.good) did.0

  survey_good : (names : List (List ℕ)) (stream : List ℕ) (outcome : Outcome Survey) (old new : ClientState)
      → HasSurvey names stream → IsAt 1 stream old → TellsSurvey domain outcome old new → SurveyIsGood names outcome
  unfolding IsGood
  survey_good names stream outcome old new good at did =
      let heard = call_heard laws (maplist_call domain) (SaysNames maps_of)
      (meant_by query_fault (λ (list : MapList). list.maps)) (meant_means (λ (list : MapList). list.maps)) 1 stream _ good
      (λ fault says. bytes_good (λ (list : MapList). list.maps) (maps_of 1 good.reply) fault
      (subst (λ o. IsOk o) (sym good.good.0) refl) says) tt tt (λ x. tt) did.said old did.mid at did.begins in
      behind_list names stream good did.said outcome old did.mid new at did.begins heard did.follows

-- ---- the wires of a dial

-- a dial that tells these wires, no more of which went back than came
record Tells (wires : Wires) (dial : Dialing) : Type 0 where
  past : dial.past ≡ Some wires
  fewer : length wires.back ≤ length wires.came

-- it tells further ones
record Grows (wires : Wires) (more : List Connected) (new : Dialing) : Type 0 where
  after : Wires
  tells : Tells after new
  came : after.came ≡ wires.came ++ more

not_none : {A : Type 0} (x : A) → None ≡ Some x → ⊥
not_none x e = cc

some_same : {A : Type 0} (x y : A) → Some x ≡ Some y → x ≡ y
some_same x y e = cc

went_back : (wires : Wires) (wire : Connected) (last : WireState) (middle past : Option Wires) (new : Dialing)
    → length wires.back ≤ length wires.came → WireComes wire (Some wires) middle → GoesBack last middle past
    → new.past ≡ past → Grows wires (wire ∷ []) new
went_back wires wire last None past new fewer comes back is = absurd comes
went_back wires wire last (Some others) None new fewer comes back is =
    let came : length others.came ≡ length (wires.came ++ wire ∷ []) = ap (λ (w : Wires). length w.came) comes in
    let gone : length others.back ≡ length wires.back = ap (λ (w : Wires). length w.back) comes in
    absurd (omega (arith, came, gone, back, fewer, length-append wires.came (wire ∷ [])))
went_back wires wire last (Some others) (Some after) new fewer comes back is =
    let came : others.came ≡ wires.came ++ wire ∷ [] = ap (λ (w : Wires). w.came) comes in
    let gone : length others.back ≡ length wires.back = ap (λ (w : Wires). length w.back) comes in
    let all : after.came ≡ others.came = ap (λ (w : Wires). w.came) back in
    let last_back : length after.back ≡ length (others.back ++ last ∷ []) = ap (λ (w : Wires). length w.back) back in
    let many : length after.came ≡ length (wires.came ++ wire ∷ []) = ap (λ (l : List Connected). length l) (all ∙ came) in
    record {
      after = after;
      tells = record {
        past = is;
        fewer = omega (arith, many, gone, last_back, fewer, length-append wires.came (wire ∷ []), length-append others.back (last ∷ []));
      };
      came = all ∙ came;
    }

-- the wire of an exchange
abbrev wire_of : Peer → ClientState → Connected
wire_of peer first = connected peer first.wire.input first.wire.output

exchange_grows : {V : Type 0} (peer : Peer) (calls : Step V ClientState) (outcome : Outcome V) (wires : Wires)
    (old new : Dialing) → Tells wires old → (did : Exchanges peer calls outcome old new)
    → Grows wires (wire_of peer did.first ∷ []) new
exchange_grows peer calls outcome wires old new tells did =
    went_back wires (wire_of peer did.first) did.last.wire did.dialed.middle new.past new tells.fewer
    (subst (λ (w : Option Wires). WireComes (wire_of peer did.first) w did.dialed.middle) tells.past did.dialed.comes)
    did.dialed.goes_back refl

-- whatever it comes to, it grows by some
dials_grow : {V : Type 0} (peer : Peer) (calls : Step V ClientState) (outcome : Outcome V) (wires : Wires)
    (old new : Dialing) → Tells wires old → Dials peer calls outcome old new
    → (more : List Connected) × Grows wires more new
dials_grow peer calls (Err Dial) wires old new tells did = (
  [],
  record {
    after = wires;
    tells = record { past = did.none ∙ tells.past; fewer = tells.fewer };
    came = sym (append-nil wires.came);
  },
)
dials_grow peer calls (Ok value) wires old new tells did =
    (wire_of peer did.first ∷ [], exchange_grows peer calls (Ok value) wires old new tells did)
dials_grow peer calls (Err fault) wires old new tells did =
    (wire_of peer did.first ∷ [], exchange_grows peer calls (Err fault) wires old new tells did)

other_grows : (domain : List ℕ) (maps : List Mastered) (peer : Peer) (outcome : Outcome Orders) (wires : Wires)
    (old new : Dialing) → Tells wires old → AsksOther domain maps peer outcome old new
    → (more : List Connected) × Grows wires more new
other_grows domain maps peer outcome wires old new tells did =
    dials_grow peer (IsUnlessMemory (TellsOrders domain maps)) did.0 wires old new tells did.1

others_grow : (domain : List ℕ) (maps : List Mastered) (peers : List Peer) (values : List Orders) (wires : Wires)
    (old new : Dialing) → Tells wires old → EachMade (AsksOther domain maps) peers values old new
    → (more : List Connected) × Grows wires more new
others_grow domain maps [] [] wires old new tells made = (
  [],
  record {
    after = wires;
    tells = subst (λ (d : Dialing). Tells wires d) (sym made) tells;
    came = sym (append-nil wires.came);
  },
)
others_grow domain maps [] (value ∷ values) wires old new tells made = absurd made
others_grow domain maps (peer ∷ peers) [] wires old new tells made = absurd made
others_grow domain maps (peer ∷ peers) (value ∷ values) wires old new tells made =
    let one = other_grows domain maps peer (Ok value) wires old made.0 tells made.1 in
    let rest = others_grow domain maps peers values one.1.after made.0 new one.1.tells made.2 in (
      one.0 ++ rest.0,
      record {
        after = rest.1.after;
        tells = rest.1.tells;
        came = rest.1.came ∙ ap (λ (l : List Connected). l ++ rest.0) one.1.came ∙ append_assoc wires.came one.0 rest.0;
      },
    )

stop_grows : (domain : List ℕ) (maps : List Mastered) (peers : List Peer) (values : List Orders) (item : Peer)
    (fault : QueryFault) (wires : Wires) (old mid new : Dialing) → Tells wires old
    → EachMade (AsksOther domain maps) peers values old mid → AsksOther domain maps item (Err fault) mid new
    → (more : List Connected) × Grows wires more new
stop_grows domain maps peers values item fault wires old mid new tells made stops =
    let front = others_grow domain maps peers values wires old mid tells made in
    let last = other_grows domain maps item (Err fault) front.1.after mid new front.1.tells stops in (
      front.0 ++ last.0,
      record {
        after = last.1.after;
        tells = last.1.tells;
        came = last.1.came ∙ ap (λ (l : List Connected). l ++ last.0) front.1.came ∙ append_assoc wires.came front.0 last.0;
      },
    )

-- the wires that came behind others are the told ones
same_wires : (wires after : Wires) (more told : List Connected) (new : Dialing) (grows : Grows wires more new)
    → new.past ≡ Some after → after.came ≡ wires.came ++ told → more ≡ told
same_wires wires after more told new grows is came =
    let same : grows.after ≡ after = some_same grows.after after (sym grows.tells.past ∙ is) in
    append_cancel_left wires.came more told (sym grows.came ∙ ap (λ (w : Wires). w.came) same ∙ came)

-- ---- the servers

-- good, or that no wire came
IsFine : QueryFault → Type 0
IsFine Dial = ⊤
IsFine fault = IsGood (Err fault)

first_at : (peer : Peer) (stream : List ℕ) (first : ClientState) → IsFirst first → first.wire.input ≡ Some stream
    → IsAt 1 stream first
first_at peer stream first begins told = record { number = begins.xid; told = told; unspent = begins.spent }

memory_fine : IsFine NoMemory
unfolding IsFine IsGood
memory_fine = tt

fine : (fault : QueryFault) → IsGood (Err fault) → IsFine fault
unfolding IsFine
fine Dial good = tt
fine NoKey good = good
fine NotMember good = good
fine (NotDone status) good = good
fine Output good = good
fine NoMemory good = good
fine (Client why) good = good

module _ (laws : Laws) (domain : List ℕ) where
  orders_asked : (maps : List Mastered) (stream : List ℕ) (outcome : Outcome Orders) (first last : ClientState)
      → HasOrders maps 1 stream → IsAt 1 stream first → IsUnlessMemory (TellsOrders domain maps) outcome first last
      → Good outcome
  unfolding IsGood
  orders_asked maps stream outcome first last replies at (inl did) =
      orders_good laws domain maps outcome first last 1 stream at replies did
  orders_asked maps stream outcome first last replies at (inr none) = subst (λ (o : Outcome Orders). Good o) (sym none.0) tt

  survey_asked : (names : List (List ℕ)) (stream : List ℕ) (outcome : Outcome Survey) (first last : ClientState)
      → HasSurvey names stream → IsAt 1 stream first → IsUnlessMemory (TellsSurvey domain) outcome first last
      → SurveyIsGood names outcome
  unfolding IsGood
  survey_asked names stream outcome first last good at (inl did) =
      survey_good laws domain names stream outcome first last good at did
  survey_asked names stream outcome first last good at (inr none) =
      no_survey names outcome NoMemory tt none.0

  -- the first told wire is that of the exchange, and so gives this stream
  head_told : (peer : Peer) (stream : List ℕ) (first : ClientState) (wire : Connected) → IsFirst first
      → wire_of peer first ≡ wire → wire.input ≡ Some stream → IsAt 1 stream first
  head_told peer stream first wire begins is told =
      first_at peer stream first begins (ap (λ (w : Connected). w.input) is ∙ told)

  exchanged_fine : (maps : List Mastered) (peer : Peer) (stream : List ℕ) (fault : QueryFault) (wires after : Wires)
      (told : Connected) (more : List Connected) (old new : Dialing) → HasOrders maps 1 stream → Tells wires old
      → new.past ≡ Some after → after.came ≡ wires.came ++ told ∷ more → told.input ≡ Some stream
      → Dials peer (IsUnlessMemory (TellsOrders domain maps)) (Err fault) old new → IsFine fault
  unfolding IsFine
  exchanged_fine maps peer stream Dial wires after told more old new replies tells is came input did = tt
  exchanged_fine maps peer stream fault wires after told more old new replies tells is came input did =
      let calls = IsUnlessMemory (TellsOrders domain maps) in
      let grows = exchange_grows peer calls (Err fault) wires old new tells did in
      let same = same_wires wires after (wire_of peer did.first ∷ []) (told ∷ more) new grows is came in
      let head : wire_of peer did.first ≡ told = cc in
      fine fault (orders_asked maps stream (Err fault) did.first did.last replies
      (head_told peer stream did.first told did.dialed.begins head input) did.converses)

  other_fine : (maps : List Mastered) (peer : Peer) (stream : List ℕ) (fault : QueryFault) (wires after : Wires)
      (told : Connected) (more : List Connected) (old new : Dialing) → HasOrders maps 1 stream → Tells wires old
      → new.past ≡ Some after → after.came ≡ wires.came ++ told ∷ more → told.input ≡ Some stream
      → AsksOther domain maps peer (Err fault) old new → IsFine fault
  other_fine maps peer stream NoMemory wires after told more old new replies tells is came input did = memory_fine
  other_fine maps peer stream fault wires after told more old new replies tells is came input did =
      let P : Outcome Orders → Type 0 = λ o. Dials peer (IsUnlessMemory (TellsOrders domain maps)) o old new in
      exchanged_fine maps peer stream fault wires after told more old new replies tells is came input (subst P (sym did.2) did.1)

  -- a value that an other server comes to is that of an exchange
  other_made : (maps : List Mastered) (peer : Peer) (value : Orders) (wires : Wires) (old new : Dialing) → Tells wires old
      → AsksOther domain maps peer (Ok value) old new → (wire : Connected) × Grows wires (wire ∷ []) new
  other_made maps peer value wires old new tells did =
      let P : Outcome Orders → Type 0 = λ o. Dials peer (IsUnlessMemory (TellsOrders domain maps)) o old new in
      let done = subst P (sym did.2) did.1 in
      (wire_of peer done.first, exchange_grows peer (IsUnlessMemory (TellsOrders domain maps)) (Ok value) wires old new tells done)

  others_fine : (maps : List Mastered) (front : List Peer) (item : Peer) (rest : List Peer) (values : List Orders)
      (fault : QueryFault) (names : List (List ℕ)) (streams : List (List ℕ)) (told : List Connected) (wires after : Wires)
      (old mid new : Dialing) → AreAsMany names maps → EachHasOrders names streams
      → AreWires (front ++ item ∷ rest) streams told → Tells wires old
      → new.past ≡ Some after → after.came ≡ wires.came ++ told
      → EachMade (AsksOther domain maps) front values old mid → AsksOther domain maps item (Err fault) mid new
      → IsFine fault
  others_fine maps [] item rest [] fault names (stream ∷ streams) (wire ∷ told) wires after old mid new many has are tells is came made stops =
      other_fine maps item stream fault wires after wire told mid new
      (as_many_replies (λ n reply. IsOrderOrStatus (order_of n reply)) names maps 1 stream (λ n rest. ⊤) many has.0)
      (subst (λ (d : Dialing). Tells wires d) (sym made) tells) is came are.1 stops
  others_fine maps [] item rest [] fault names [] told wires after old mid new many has are tells is came made stops = absurd are
  others_fine maps [] item rest [] fault names (stream ∷ streams) [] wires after old mid new many has are tells is came made stops = absurd are
  others_fine maps [] item rest (value ∷ values) fault names streams told wires after old mid new many has are tells is came made stops = absurd made
  others_fine maps (peer ∷ front) item rest [] fault names streams told wires after old mid new many has are tells is came made stops = absurd made
  others_fine maps (peer ∷ front) item rest (value ∷ values) fault names [] told wires after old mid new many has are tells is came made stops = absurd are
  others_fine maps (peer ∷ front) item rest (value ∷ values) fault names (stream ∷ streams) [] wires after old mid new many has are tells is came made stops = absurd are
  others_fine maps (peer ∷ front) item rest (value ∷ values) fault names (stream ∷ streams) (wire ∷ told) wires after old mid new many has are tells is came made stops =
      let one = other_made maps peer value wires old made.0 tells made.1 in
      let behind = stop_grows domain maps front values item fault one.1.after made.0 mid new one.1.tells made.2 stops in
      let whole : Grows wires (one.0 ∷ behind.0) new = record {
        after = behind.1.after;
        tells = behind.1.tells;
        came = behind.1.came ∙ ap (λ (l : List Connected). l ++ behind.0) one.1.came
            ∙ append_assoc wires.came (one.0 ∷ []) behind.0;
      } in
      let same = same_wires wires after (one.0 ∷ behind.0) (wire ∷ told) new whole is came in
      let head : one.0 ≡ wire = cc in
      let further : after.came ≡ one.1.after.came ++ told =
      came ∙ sym (append_assoc wires.came (wire ∷ []) told)
      ∙ ap (λ (l : List Connected). l ++ told) (sym (one.1.came ∙ ap (λ (c : Connected). wires.came ++ c ∷ []) head)) in
      others_fine maps front item rest values fault names streams told one.1.after after made.0 mid new many has.1 are.2
      one.1.tells is further made.2 stops

  first_fine : (peer : Peer) (names : List (List ℕ)) (stream : List ℕ) (fault : QueryFault) (wires after : Wires)
      (told : Connected) (more : List Connected) (old new : Dialing) → HasSurvey names stream → Tells wires old
      → new.past ≡ Some after → after.came ≡ wires.came ++ told ∷ more → told.input ≡ Some stream
      → Dials peer (IsUnlessMemory (TellsSurvey domain)) (Err fault) old new → IsFine fault
  unfolding IsFine
  first_fine peer names stream Dial wires after told more old new good tells is came input did = tt
  first_fine peer names stream fault wires after told more old new good tells is came input did =
      let calls = IsUnlessMemory (TellsSurvey domain) in
      let grows = exchange_grows peer calls (Err fault) wires old new tells did in
      let same = same_wires wires after (wire_of peer did.first ∷ []) (told ∷ more) new grows is came in
      let head : wire_of peer did.first ≡ told = cc in
      fine fault (survey_asked names stream (Err fault) did.first did.last good
      (head_told peer stream did.first told did.dialed.begins head input) did.converses).0

  -- behind the first server's survey
  behind_first : (peer : Peer) (others : List Peer) (names : List (List ℕ)) (stream : List ℕ) (streams : List (List ℕ))
      (survey : Survey) (fault : QueryFault) (wires after : Wires) (told : Connected) (more : List Connected)
      (old mid new : Dialing) → HasSurvey names stream → EachHasOrders names streams → AreWires others streams more
      → Tells wires old → new.past ≡ Some after → after.came ≡ wires.came ++ told ∷ more → told.input ≡ Some stream
      → Dials peer (IsUnlessMemory (TellsSurvey domain)) (Ok survey) old mid
      → StopsAt (AsksOther domain survey.maps) others fault mid new → IsFine fault
  behind_first peer others names stream streams survey fault wires after told more old mid new good has are tells is came input first did =
      let calls = IsUnlessMemory (TellsSurvey domain) in
      let one = exchange_grows peer calls (Ok survey) wires old mid tells first in
      let wire = wire_of peer first.first in
      let behind = stop_grows domain survey.maps did.front did.values did.item fault one.after mid did.mid new one.tells did.made did.stops in
      let whole : Grows wires (wire ∷ behind.0) new = record {
        after = behind.1.after;
        tells = behind.1.tells;
        came = behind.1.came ∙ ap (λ (l : List Connected). l ++ behind.0) one.came
            ∙ append_assoc wires.came (wire ∷ []) behind.0;
      } in
      let same = same_wires wires after (wire ∷ behind.0) (told ∷ more) new whole is came in
      let head : wire ≡ told = cc in
      let further : after.came ≡ one.after.came ++ more =
      came ∙ sym (append_assoc wires.came (told ∷ []) more)
      ∙ ap (λ (l : List Connected). l ++ more) (sym (one.came ∙ ap (λ (c : Connected). wires.came ++ c ∷ []) head)) in
      let surveyed = survey_asked names stream (Ok survey) first.first first.last good
      (head_told peer stream first.first told first.dialed.begins head input) first.converses in
      let split = subst (λ (l : List Peer). AreWires l streams more) did.whole are in
      others_fine survey.maps did.front did.item did.rest did.values fault names streams more one.after after mid did.mid new
      (surveyed.1 survey refl) has split one.tells is further did.made did.stops

  behind_others : (peer : Peer) (others : List Peer) (names : List (List ℕ)) (stream : List ℕ) (streams : List (List ℕ))
      (survey : Survey) (said : Outcome (List Orders)) (outcome : Outcome Comparison) (fault : QueryFault)
      (wires after : Wires) (told : Connected) (more : List Connected)
      (old mid last new : Dialing) → HasSurvey names stream → EachHasOrders names streams → AreWires others streams more
      → Tells wires old → new.past ≡ Some after → after.came ≡ wires.came ++ told ∷ more → told.input ≡ Some stream
      → Dials peer (IsUnlessMemory (TellsSurvey domain)) (Ok survey) old mid
      → InTurn (AsksOther domain survey.maps) others said mid last
      → Follows (λ orders. Comes (comparison_of survey orders)) said outcome last new
      → outcome ≡ Err fault → IsFine fault
  behind_others peer others names stream streams survey (Ok orders) outcome fault wires after told more old mid last new good has are tells is came input first did follows e =
      absurd (not_both outcome (comparison_of survey orders) fault follows.0 e)
  behind_others peer others names stream streams survey (Err why) outcome fault wires after told more old mid last new good has are tells is came input first did follows e =
      let same = err_same outcome why fault follows.0 e in
      let here : StopsAt (AsksOther domain survey.maps) others fault mid new =
      subst (λ (d : Dialing). StopsAt (AsksOther domain survey.maps) others fault mid d) (sym follows.1)
      (subst (λ (f : QueryFault). StopsAt (AsksOther domain survey.maps) others f mid last) same did) in
      behind_first peer others names stream streams survey fault wires after told more old mid new good has are tells is came input first here

  servers_fine : (peer : Peer) (others : List Peer) (names : List (List ℕ)) (stream : List ℕ) (streams : List (List ℕ))
      (said : Outcome Survey) (outcome : Outcome Comparison) (fault : QueryFault)
      (wires after : Wires) (told : Connected) (more : List Connected)
      (old mid new : Dialing) → HasSurvey names stream → EachHasOrders names streams → AreWires others streams more
      → Tells wires old → new.past ≡ Some after → after.came ≡ wires.came ++ told ∷ more → told.input ≡ Some stream
      → Dials peer (IsUnlessMemory (TellsSurvey domain)) said old mid
      → Follows (AsksOthers others domain) said outcome mid new
      → outcome ≡ Err fault → IsFine fault
  servers_fine peer others names stream streams (Ok survey) outcome fault wires after told more old mid new good has are tells is came input first did e =
      behind_others peer others names stream streams survey did.said outcome fault wires after told more old mid did.mid new
      good has are tells is came input first did.begins did.follows e
  servers_fine peer others names stream streams (Err why) outcome fault wires after told more old mid new good has are tells is came input first did e =
      let same = err_same outcome why fault did.0 e in
      let there : mid.past ≡ Some after = ap (λ (d : Dialing). d.past) (sym did.1) ∙ is in
      subst IsFine same (first_fine peer names stream why wires after told more old mid good tells there came input first)

-- ---- the whole

module _ (laws : Laws) (first : Peer) (others : List Peer) (domain : List ℕ) (names : List (List ℕ)) (stream : List ℕ)
    (streams : List (List ℕ)) (old new : QueryTells) (good : HasSurvey names stream) (has : EachHasOrders names streams)
    (come : HaveCome (first ∷ others) (stream ∷ streams) old.dial.past new.dial.past)
    (dial : HasRisen old.dial.faults new.dial.faults → ⊥) (sink : HasRisen old.faults new.faults → ⊥) where
  all_fine : (told : List Connected) → AreWires (first ∷ others) (stream ∷ streams) told
      → come.after.came ≡ come.before.came ++ told → (outcome : Outcome Comparison) (fault : QueryFault)
      → AsksServers first others domain outcome old.dial new.dial → outcome ≡ Err fault → IsFine fault
  all_fine [] are came outcome fault did e = absurd are
  all_fine (wire ∷ more) are came outcome fault did e =
      servers_fine laws domain first others names stream streams did.said outcome fault come.before come.after wire more
      old.dial did.mid new.dial good has are.2 (record { past = come.was; fewer = come.fewer }) come.is came are.1
      did.begins did.follows e

  refused_never : (outcome : Outcome Comparison) (fault : QueryFault)
      → AsksServers first others domain outcome old.dial new.dial → outcome ≡ Err fault → IsFine fault
  refused_never outcome fault did e = all_fine come.wires come.are come.came outcome fault did e

  pub compares_complete : (result : Result Bool QueryFault) → Compares first others domain result old new
      → IfErr result (λ fault. HasQueryCause fault old new) → IsCompared result
  unfolding IsFine IsGood
  compares_complete (Ok level) did cause = tt
  compares_complete (Err NoMemory) did cause = tt
  compares_complete (Err Dial) did cause = dial cause
  compares_complete (Err Output) did cause = sink cause
  compares_complete (Err NoKey) did cause = absurd (servers_come first others domain did.outcome old.dial new.dial NoKey did.asks did.prints.0)
  compares_complete (Err NotMember) did cause = absurd (servers_come first others domain did.outcome old.dial new.dial NotMember did.asks did.prints.0)
  compares_complete (Err (NotDone status)) did cause = absurd (servers_come first others domain did.outcome old.dial new.dial (NotDone status) did.asks did.prints.0)
  compares_complete (Err (Client client.ReadFault)) did cause = dial cause
  compares_complete (Err (Client client.WriteFault)) did cause = dial cause
  compares_complete (Err (Client (client.Yp status))) did cause = refused_never did.outcome (Client (client.Yp status)) did.asks did.prints.0
  compares_complete (Err (Client (client.Denied head))) did cause = refused_never did.outcome (Client (client.Denied head)) did.asks did.prints.0
  compares_complete (Err (Client (client.BadReply at))) did cause = refused_never did.outcome (Client (client.BadReply at)) did.asks did.prints.0
  compares_complete (Err (Client (client.BadXid want got))) did cause = refused_never did.outcome (Client (client.BadXid want got)) did.asks did.prints.0
  compares_complete (Err (Client (client.Torn at))) did cause = refused_never did.outcome (Client (client.Torn at)) did.asks did.prints.0
  compares_complete (Err (Client (client.TooLong at))) did cause = refused_never did.outcome (Client (client.TooLong at)) did.asks did.prints.0
  compares_complete (Err (Client client.Spent)) did cause = refused_never did.outcome (Client client.Spent) did.asks did.prints.0
  compares_complete (Err (Client (client.Rows row why))) did cause = refused_never did.outcome (Client (client.Rows row why)) did.asks did.prints.0
  compares_complete (Err (Client client.NoMemory)) did cause = refused_never did.outcome (Client client.NoMemory) did.asks did.prints.0
