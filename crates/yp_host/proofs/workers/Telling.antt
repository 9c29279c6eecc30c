-- What the telling of call backs makes of a dial and of a queue.
use Rattle.std.proofs.Common.{◌≡◌, ℕ, ◌+◌, ◌≤◌, List, [], ◌∷◌, ◌++◌, length, Option, None, Some, inl, refl, sym, ap, ◌∙◌, subst, arith}
use Rattle.std.specs.Prelude.{IfSome, IfNone, MatchOption}
use Rattle.atomic_table.specs.Seated.{TableId}
use Rattle.crossbeam_queue.specs.Fifo.{Held}
use Rattle.std.specs.List.{Contains}
use Rattle.std.proofs.lemmas.List.{append-nil, append_assoc}
use Rattle.yp_io.specs.Dials.{DialTells, Wires}
use Rattle.yp_version.specs.Versions.{MapVersion}
use Rattle.yp_publisher.specs.sharing.Tracing.{FetchLog}
use Rattle.yp_publisher.specs.inside.sharing.Tracing.{IsBeginning}
use Rattle.yp_transfer.specs.CallBack.{wants_call, CallsBack}
use Rattle.yp_worker.specs.inside.Queues.{all_parts}
use Rattle.yp_host.specs.declared.workers.call_backs.CallBack.{CallBack}
use Rattle.yp_host.specs.declared.workers.call_backs.Dealt.{Dealt}
use Rattle.yp_host.specs.inside.workers.Queues.{Balances}
use Rattle.yp_host.specs.workers.CallBacks.{version_in}
use Rattle.yp_host.specs.inside.workers.CallBacks.{HeldCallBacks, holds_more, IsAllTaken}
use Rattle.yp_host.specs.inside.workers.CallBacks.{TellsInTurn, TellsWaiting, IsKnownIn, AreKnown}
use Rattle.yp_host.specs.workers.Wires.{CameByWire, AllCameByWire}
use Rattle.yp_host.proofs.workers.Dialing.{calls_back_past, calls_back_faults}
use Rattle.yp_host.proofs.workers.Noting.{all_known, all_same}

tells_then : (first second : List CallBack) (a b c : DialTells) → TellsInTurn first a b → TellsInTurn second b c
    → TellsInTurn (first ++ second) a c
tells_then [] second a b c same tells = subst (λ (d : DialTells). TellsInTurn second d c) same tells
tells_then (one ∷ first) second a b c tells others =
    (tells.0, tells.1, tells_then first second tells.0 b c tells.2 others)

-- the wires stay
pub past_stays : (told : List CallBack) (old new : DialTells) → TellsInTurn told old new → new.past ≡ old.past
past_stays [] old new same = ap (λ (d : DialTells). d.past) same
past_stays (one ∷ told) old new tells =
    past_stays told tells.0 new tells.2 ∙ calls_back_past (wants_call one.asker) one.asker one.stat old tells.0 tells.1

-- and the faults don't fall
pub faults_stay : (told : List CallBack) (old new : DialTells) → TellsInTurn told old new → old.faults ≤ new.faults
faults_stay [] old new same = let is = ap (λ (d : DialTells). d.faults) same in omega (arith, is)
faults_stay (one ∷ told) old new tells =
    let first = calls_back_faults (wants_call one.asker) one.asker one.stat old tells.0 tells.1 in
    let more = faults_stay told tells.0 new tells.2 in
    omega (arith, first, more)

-- ---- of what waits

holds_nothing_more : (held : HeldCallBacks) → held ≡ holds_more held [] []
holds_nothing_more held =
    ap (λ (l : List CallBack). record held { left = l }) (sym (append-nil held.left))
    ∙ ap (λ (l : List CallBack). record held { left = held.left ++ []; took = l }) (sym (append-nil held.took))

holds_then : (held : HeldCallBacks) (first second : List CallBack)
    → holds_more (holds_more held [] first) [] second ≡ holds_more held [] (first ++ second)
holds_then held first second =
    ap (λ (l : List CallBack). record held { left = l; took = (held.took ++ first) ++ second }) (append-nil (held.left ++ []))
    ∙ ap (λ (l : List CallBack). record held { left = held.left ++ []; took = l }) (append_assoc held.took first second)

-- none waited
pub waiting_none : (held : HeldCallBacks) (dial : DialTells) → TellsWaiting held held dial dial
waiting_none held dial = record { more = []; in_turn = refl; takes = holds_nothing_more held }

-- one was told
pub waiting_one : (one : CallBack) (held held' : HeldCallBacks) (old new : DialTells)
    → held' ≡ holds_more held [] (one ∷ []) → CallsBack (wants_call one.asker) one.asker one.stat old new
    → TellsWaiting held held' old new
waiting_one one held held' old new takes calls = record { more = one ∷ []; in_turn = (new, calls, refl); takes = takes }

-- one after the other
pub waiting_then : (a b c : HeldCallBacks) (first second third : DialTells) → TellsWaiting a b first second
    → TellsWaiting b c second third → TellsWaiting a c first third
waiting_then a b c first second third tells others = record {
  more = tells.more ++ others.more;
  in_turn = tells_then tells.more others.more first second third tells.in_turn others.in_turn;
  takes = others.takes ∙ ap (λ (h : HeldCallBacks). holds_more h [] others.more) tells.takes
      ∙ holds_then a tells.more others.more;
}

-- ---- of all that was left

-- Where none waits, all that was left was taken over.
all_taken : (v : Dealt) (items : List CallBack) → length items ≡ 0 → Balances v items → v.parts ≡ all_parts
    → IsAllTaken v.left v.took
all_taken v (one ∷ items) none balances all = absurd (omega (arith, none))
all_taken v [] none balances all =
    let known = balances all in
    let weighs = known.0 in
    let among = known.1 in record {
      same = λ weight. let b = weighs weight in omega (arith, b);
      among = λ call_back took. among call_back (inl took);
    }

pub none_waits : (P : CallBack → Type 0) (result : Option CallBack) (v w : Dealt) (queue : TableId)
    (held : HeldCallBacks)
    → MatchOption result ((w ≡ v) × Held 0 (Balances v)) P
    → record { queue = queue; parts = v.parts; left = v.left; took = v.took } ≡ held
    → IfNone result (held.parts ≡ all_parts → IsAllTaken held.left held.took)
none_waits P None v w queue held rule is =
    subst (λ (h : HeldCallBacks). h.parts ≡ all_parts → IsAllTaken h.left h.took) is
    (all_taken v rule.1.0 rule.1.1 rule.1.2)
none_waits P (Some one) v w queue held rule is = tt

-- What was taken over in all is what others left, where these have all other parts.
pub all_told : (own others merged held : HeldCallBacks) (more : List CallBack) (shares : ℕ) → own.left ≡ []
    → own.parts + shares ≡ all_parts → others.took ≡ [] → merged.parts ≡ own.parts + others.parts
    → merged ≡ record (holds_more own others.left others.took) { parts = merged.parts }
    → held ≡ holds_more merged [] more → (merged.parts ≡ all_parts → IsAllTaken held.left held.took)
    → others.parts ≡ shares → IsAllTaken others.left (own.took ++ more)
all_told own others merged held more shares none own_parts untaken parts joined takes all is =
    let left : held.left ≡ others.left = ap (λ (h : HeldCallBacks). h.left) takes ∙ append-nil merged.left
    ∙ ap (λ (h : HeldCallBacks). h.left) joined ∙ ap (λ (l : List CallBack). l ++ others.left) none in
    let took : held.took ≡ own.took ++ more = ap (λ (h : HeldCallBacks). h.took) takes
    ∙ ap (λ (l : List CallBack). l ++ more) (ap (λ (h : HeldCallBacks). h.took) joined
    ∙ ap (λ (l : List CallBack). own.took ++ l) untaken ∙ append-nil own.took) in
    let every : merged.parts ≡ all_parts = parts ∙ ap (λ (n : ℕ). own.parts + n) is ∙ own_parts in
    subst (λ (l : List CallBack). IsAllTaken l (own.took ++ more)) left
    (subst (λ (l : List CallBack). IsAllTaken held.left l) took (all every))

-- ---- of the versions that were shown

-- Each version that is known to be fetched came by a wire.
pub known_came : (start now : Option Wires) (known : Option FetchLog) (fetches : FetchLog)
    → IfSome known (λ front. IsBeginning front fetches) → AllCameByWire start now fetches
    → (version : Option MapVersion) → IfSome version (IsKnownIn known) → IfSome version (CameByWire start now)
known_came start now None fetches begins all None known = known
known_came start now None fetches begins all (Some version) known = absurd known
known_came start now (Some front) fetches begins all None known = known
known_came start now (Some front) fetches begins all (Some version) known =
    all_known start now front fetches begins all version known

pub all_came : (start old now : Option Wires) (known : Option FetchLog) (fetches : FetchLog) (left : List CallBack)
    → IfSome known (λ front. IsBeginning front fetches) → AllCameByWire start old fetches → now ≡ old
    → AreKnown known left → (call_back : CallBack) → Contains left call_back
    → IfSome (version_in call_back) (CameByWire start now)
all_came start old now known fetches left begins all same are_known call_back among =
    known_came start now known fetches begins (all_same start old now fetches same all) (version_in call_back)
    (are_known call_back among)
