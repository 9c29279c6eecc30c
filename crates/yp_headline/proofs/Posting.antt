-- What the dial of a session posted: each call back is of a transfer that was carried out behind one of its records.
use Rattle.std.proofs.Common.{◌≡◌, ℕ, suc, ◌<◌, Bool, true, false, List, [], ◌∷◌, ◌++◌, length, drop, Option, Some, None, Result, Ok, Err, refl, sym, inl, inr, ap, ◌∙◌, subst, arith, ⊎_elim, append_assoc}
use Rattle.std.specs.Prelude.{◌≢◌, IsTrue, Contains, ◌==◌, ⊤}
use Rattle.std.proofs.lemmas.List.{append-nil}
use Rattle.std.proofs.lemmas.Bool.Decides.{eqb_tells}
use Rattle.yp_io.specs.Counts.{HasRisen}
use Rattle.yp_io.specs.Dials.{Sending, Posted, Asked, DialTells, GainsItem}
use Rattle.yp_messages.specs.declared.transfer.XfrStat.{XfrStat}
use Rattle.yp_messages.specs.declared.transfer.XfrStat.TheVariants.{Succ}
use Rattle.yp_version.specs.Versions.{MapVersion}
use Rattle.yp_board.specs.Logs.{Log}
use Rattle.yp_board.specs.Views.{IsFront}
use Rattle.yp_publisher.specs.Standing.{Published}
use Rattle.yp_publisher.specs.Keeping.{Keeping}
use Rattle.yp_publisher.specs.declared.install.Installed.{Installed}
use Rattle.yp_publisher.proofs.Growing.{opened_front}
use Rattle.yp_transfer.specs.declared.fault.XfrFault.{XfrFault}
use Rattle.yp_transfer.specs.declared.fault.XfrFault.TheVariants as fault
use Rattle.yp_transfer.specs.declared.calling_back.Asker.{Asker}
use Rattle.yp_transfer.specs.Fetching.{FetchOutcome}
use Rattle.yp_transfer.specs.Faults.{stat_of}
use Rattle.yp_transfer.specs.CallBack.{call_back_bytes, outcome_stat, wants_call, port_told, question, call_to, calls_to, GainsItems, Sends, CallsBack}
use Rattle.yp_transfer.specs.Requests.{TransferRequest}
use Rattle.yp_transfer.specs.Transfers.{InstallsOutcome}
use Rattle.yp_transfer.specs.Installing.{Offers, fetched_offer}
use Rattle.yp_answer.specs.Answers.{StepsWhere}
use Rattle.yp_answer.specs.Maps.{maps_of}
use Rattle.yp_answer.specs.Served.{maps_on}
use Rattle.yp_answer.specs.Reply.{Response, Silence, Bytes, Takes, Open, reply, asks}
use Rattle.yp_answer.specs.Transfer.{Taken}
use Rattle.yp_answer.specs.declared.procedure.Path.TheVariants.{Stream}
use Rattle.yp_answer.specs.declared.session.session.End.{End}
use Rattle.yp_answer.specs.declared.session.session.End.TheVariants as ends
use Rattle.yp_answer.specs.session.Hosts.{Turn, Link, Carries, CarriesWhere}
use Rattle.yp_answer.specs.session.Runs.{Dialogue, Chain, Ends}
use Rattle.yp_host.specs.Locals.{Local}
use Rattle.yp_host.specs.Transferring.{MapIsTransferred, asker_of}
use Rattle.yp_host.specs.Connections.{Service, local_conduct, log_of, Transition, transition_of, transitions_of}
use Rattle.yp_headline.specs.Publishing.{IsMarked}
use Rattle.yp_headline.specs.World.{Letter}
use Rattle.yp_headline.specs.inside.Files.{posted_of, posted_between}
use Rattle.yp_headline.specs.Serving.{Exchange}
use Rattle.yp_headline.proofs.Runs.{exchange_of, exchanges_of, turns_in, front_self}
use Rattle.yp_headline.proofs.Steps.{GoesOn, front_then, linked, linked_on}

-- ---- what letters gained

-- what is told grew by letters, and Q holds of those that were posted
pub record Gains (Q : List Letter → Type 0) (old new : Option (List Sending)) : Type 0 where
  pub gained : List Sending
  pub told : (before : List Sending) → old ≡ Some before → new ≡ Some (before ++ gained)
  pub are : Q (posted_of gained)

pub gains_none : (Q : List Letter → Type 0) → Q [] → (old new : Option (List Sending)) → new ≡ old → Gains Q old new
gains_none Q none old new same = record {
  gained = [];
  told = λ before was. same ∙ was ∙ ap (λ (l : List Sending). Some l) (sym (append-nil before));
  are = none;
}

posted_both : (sent more : List Sending) → posted_of (sent ++ more) ≡ posted_of sent ++ posted_of more
posted_both [] more = refl
posted_both (Posted peer bytes ∷ sent) more =
    ap (λ (l : List Letter). record { peer = peer; bytes = bytes } ∷ l) (posted_both sent more)
posted_both (Asked peer bytes came ∷ sent) more = posted_both sent more

pub gains_then : (P Q R : List Letter → Type 0) → ((some more : List Letter) → P some → Q more → R (some ++ more))
    → (a b c : Option (List Sending)) → Gains P a b → Gains Q b c → Gains R a c
gains_then P Q R join a b c one other = record {
  gained = one.gained ++ other.gained;
  told = λ before was. other.told (before ++ one.gained) (one.told before was)
      ∙ ap (λ (l : List Sending). Some l) (append_assoc before one.gained other.gained);
  are = subst R (sym (posted_both one.gained other.gained))
      (join (posted_of one.gained) (posted_of other.gained) one.are other.are);
}

gains_so : (P Q : List Letter → Type 0) → ((letters : List Letter) → P letters → Q letters) → (old new : Option (List Sending))
    → Gains P old new → Gains Q old new
gains_so P Q then old new gains =
    record { gained = gains.gained; told = gains.told; are = then (posted_of gains.gained) gains.are }

pub gains_from : (Q : List Letter → Type 0) (a b c : Option (List Sending)) → b ≡ a → Gains Q b c → Gains Q a c
gains_from Q a b c same gains = subst (λ (o : Option (List Sending)). Gains Q o c) same gains

seam : (front back : List Sending) → drop (length front) (front ++ back) ≡ back
seam [] back = refl
seam (one ∷ front) back = seam front back

pub all_posted : (Q : List Letter → Type 0) → Q [] → (old new : Option (List Sending)) → Gains Q old new → Q (posted_between old new)
all_posted Q none None new gains = none
all_posted Q none (Some old) None gains = none
all_posted Q none (Some old) (Some new) gains =
    let told : Some new ≡ Some (old ++ gains.gained) = gains.told old refl in
    let same : new ≡ old ++ gains.gained = cc in
    subst (λ (l : List Sending). Q (posted_of l))
    (sym (ap (λ (l : List Sending). drop (length old) l) same ∙ seam old gains.gained)) gains.are

-- ---- one call back

gained_items : (items : List Sending) (old new : Option (List Sending)) → GainsItems items old new → (before : List Sending)
    → old ≡ Some before → new ≡ Some (before ++ items)
gained_items items None new gains before was = absurd cc
gained_items items (Some old) None gains before was = absurd gains
gained_items items (Some old) (Some new) gains before was =
    let same : old ≡ before = cc in
    ap (λ (l : List Sending). Some l) (gains ∙ ap (λ (l : List Sending). l ++ items) same)

gained_item : (item : Sending) (old new : Option (List Sending)) → GainsItem item old new → (before : List Sending)
    → old ≡ Some before → new ≡ Some (before ++ item ∷ [])
gained_item item None new gains before was = absurd cc
gained_item item (Some old) None gains before was = absurd gains
gained_item item (Some old) (Some new) gains before was =
    let same : old ≡ before = cc in
    ap (λ (l : List Sending). Some l) (gains ∙ ap (λ (l : List Sending). l ++ item ∷ []) same)

-- a letter tells an asker a status: at its host, and at its port, where it named one
pub record TellsAsker (asker : Asker) (stat : XfrStat) (letter : Letter) : Type 0 where
  pub host : letter.peer.addr ≡ asker.addr
  pub port : asker.port ≢ 0 → letter.peer.port ≡ asker.port
  pub says : letter.bytes ≡ call_back_bytes asker.prog asker.transid stat

-- no letter, or one of which P holds
abbrev pub AtMostOne : (Letter → Type 0) → List Letter → Type 0
AtMostOne P [] = ⊤
AtMostOne P (letter ∷ []) = P letter
AtMostOne P (letter ∷ other ∷ letters) = ⊥

no_port : (port : ℕ) → (port == 0) ≡ true → port ≢ 0 → ⊥
no_port port is some = elim (eqb_tells port 0) [
  | inl same ↦ some same.1
  | inr differ ↦ absurd (let e : false ≡ true = sym differ.0 ∙ is in cc)
]

each_to : (asker : Asker) (stat : XfrStat) → (asker.port ≢ 0 → ⊥) → (port : Option ℕ)
    → AtMostOne (TellsAsker asker stat) (posted_of (calls_to asker stat port))
each_to asker stat none None = tt
each_to asker stat none (Some port) = record { host = refl; port = λ some. absurd (none some); says = refl }

sends_back : (named : Bool) (asker : Asker) (stat : XfrStat) (failed : Type 0) (old new : Option (List Sending))
    → (asker.port == 0) ≡ named → Sends named asker stat failed old new → Gains (AtMostOne (TellsAsker asker stat)) old new
sends_back false asker stat failed old new is sends = record {
  gained = call_to asker stat asker.port ∷ [];
  told = gained_item (call_to asker stat asker.port) old new sends;
  are = record { host = refl; port = λ some. refl; says = refl };
}
sends_back true asker stat failed old new is asks = ⊎_elim
    (λ all. record {
      gained = question asker asks.came ∷ calls_to asker stat (port_told asker.transid asks.came);
      told = gained_items (question asker asks.came ∷ calls_to asker stat (port_told asker.transid asks.came)) old new all;
      are = each_to asker stat (no_port asker.port is) (port_told asker.transid asks.came);
    })
    (λ not. record { gained = question asker asks.came ∷ []; told = gained_item (question asker asks.came) old new not.0; are = tt })
    asks.sent

pub calls_back : (wants : Bool) (asker : Asker) (stat : XfrStat) (old new : DialTells) → CallsBack wants asker stat old new
    → Gains (AtMostOne (TellsAsker asker stat)) old.letters new.letters
calls_back true asker stat old new calls = ⊎_elim
    (λ sends. sends_back (asker.port == 0) asker stat (HasRisen old.faults new.faults) old.letters new.letters refl sends)
    (λ not. gains_none (AtMostOne (TellsAsker asker stat)) tt old.letters new.letters not.0) calls.told
calls_back false asker stat old new same =
    gains_none (AtMostOne (TellsAsker asker stat)) tt old.letters new.letters (ap (λ (d : DialTells). d.letters) same)

-- a fault has another status than SUCC
pub never_succeeds : (why : XfrFault) → stat_of why ≡ Succ → ⊥
never_succeeds fault.Maddr is = cc
never_succeeds fault.Rpc is = cc
never_succeeds fault.Nodom is = cc
never_succeeds fault.Nomap is = cc
never_succeeds (fault.Yperr stat) is = cc
never_succeeds (fault.Xfrerr at) is = cc
never_succeeds (fault.Age shown offered) is = cc
never_succeeds (fault.Skew first second) is = cc
never_succeeds fault.Dbm is = cc
never_succeeds fault.Badargs is = cc
never_succeeds fault.File is = cc
never_succeeds fault.Refused is = cc
never_succeeds fault.NoMemory is = cc

-- ---- a session

module _ {D B E : Type 0} (service : Service D B E) where
  abbrev pub letters : Local D B E → Option (List Sending)
  letters host = (service.telling.dial host.desk).letters

  -- a letter was posted by the transfer of one of these records, what came of which it says
  pub record IsPosted (first : Local D B E) (transitions : List (Transition (Local D B E))) (letter : Letter) : Type 0 where
    pub transition : Transition (Local D B E)
    pub among : Contains transitions transition
    pub taken : Taken
    pub took : transition.turn.taken ≡ Some taken
    pub flushed : IsTrue transition.turn.flushed
    pub middle : Local D B E
    pub middle_is : middle ≡ record transition.before { asked = middle.asked }
    pub catalogue : middle.published.catalogue ≡ first.published.catalogue
    pub answer : List ℕ
    pub takes : reply Stream (maps_on middle.published.catalogue (log_of service middle)) service.peer transition.turn.message
        ≡ Takes answer taken
    pub grown : IsFront (log_of service middle) (log_of service transition.after)
    pub carried : MapIsTransferred service.keeping service.telling taken service.peer middle transition.after
    pub tells : TellsAsker (asker_of taken service.peer) (outcome_stat carried.transfers.result) letter

  -- letters were posted by the transfers of records of these exchanges, each by another one, in their order
  abbrev pub InOrder : Local D B E → List (Transition (Local D B E)) → List Letter → List Exchange → (known log : Log) → Type 0
  InOrder first transitions [] exchanges known log = IsFront known log
  InOrder first transitions (letter ∷ more) exchanges known log =
      (passed : List Exchange) × (is : IsPosted first transitions letter) × (left : List Exchange)
      × (exchanges ≡ passed ++ exchange_of service.peer is.transition.turn ∷ left)
      × IsFront known (log_of service is.middle)
      × InOrder first transitions more left (log_of service is.transition.after) log

  module _ (first : Local D B E) (transitions : List (Transition (Local D B E))) where
    -- behind more exchanges
    pub passing : (passed : List Exchange) (letters : List Letter) (exchanges : List Exchange) (known next log : Log)
        → IsFront known next → InOrder first transitions letters exchanges next log
        → InOrder first transitions letters (passed ++ exchanges) known log
    passing passed [] exchanges known next log goes order = front_then known next log goes order
    passing passed (letter ∷ more) exchanges known next log goes order = (
      passed ++ order.0,
      order.1,
      order.2,
      ap (λ (l : List Exchange). passed ++ l) order.3
          ∙ sym (append_assoc passed order.0 (exchange_of service.peer order.1.transition.turn ∷ order.2)),
      front_then known next (log_of service order.1.middle) goes order.4,
      order.5,
    )

    -- up to more
    widened : (letters : List Letter) (exchanges : List Exchange) (known log more : Log) → IsFront log more
        → InOrder first transitions letters exchanges known log → InOrder first transitions letters exchanges known more
    widened [] exchanges known log more goes order = front_then known log more order goes
    widened (letter ∷ letters) exchanges known log more goes order = (
      order.0,
      order.1,
      order.2,
      order.3,
      order.4,
      widened letters order.2 (log_of service order.1.transition.after) log more goes order.5,
    )

    -- one after the other
    in_order_then : (exchanges others : List Exchange) (known next log : Log) (some more : List Letter)
        → InOrder first transitions some exchanges known next → InOrder first transitions more others next log
        → InOrder first transitions (some ++ more) (exchanges ++ others) known log
    in_order_then exchanges others known next log [] more order then = passing exchanges more others known next log order then
    in_order_then exchanges others known next log (letter ∷ some) more order then = (
      order.0,
      order.1,
      order.2 ++ others,
      ap (λ (l : List Exchange). l ++ others) order.3
          ∙ append_assoc order.0 (exchange_of service.peer order.1.transition.turn ∷ order.2) others,
      order.4,
      in_order_then order.2 others (log_of service order.1.transition.after) next log some more order.5 then,
    )

  transferred : (taken : Taken) (old new : Local D B E)
      (is : MapIsTransferred service.keeping service.telling taken service.peer old new)
      → Gains (AtMostOne (TellsAsker (asker_of taken service.peer) (outcome_stat is.transfers.result))) (letters old) (letters new)
  transferred taken old new is =
      gains_from _ (letters old) is.transfers.fetched.letters (letters new) is.transfers.unposted
      (calls_back (wants_call (asker_of taken service.peer)) (asker_of taken service.peer) (outcome_stat is.transfers.result)
      is.transfers.fetched (service.telling.dial new.desk) is.transfers.called_back)

  -- what a record posted, where others are behind it
  module _ (turn : Turn) (old new : Local D B E) (others : List (Transition (Local D B E)))
      (goes : IsFront (log_of service old) (log_of service new)) where
    abbrev Later : List Letter → Type 0
    Later posted = InOrder old (transition_of old turn new ∷ others) posted (exchange_of service.peer turn ∷ []) (log_of service old)
        (log_of service new)

    abbrev got : Local D B E → Response
    got mid = reply Stream (maps_of ((local_conduct service.keeping service.telling).seen mid)) service.peer turn.message

    posted_one : (bytes : List ℕ) (taken : Taken) (mid : Local D B E) → got mid ≡ Takes bytes taken
        → IsTrue turn.flushed → turn.taken ≡ Some taken → mid ≡ record old { asked = mid.asked }
        → IsFront (log_of service mid) (log_of service new)
        → (carried : MapIsTransferred service.keeping service.telling taken service.peer mid new) → (posted : List Letter)
        → AtMostOne (TellsAsker (asker_of taken service.peer) (outcome_stat carried.transfers.result)) posted → Later posted
    posted_one bytes taken mid is flushed took middle grown carried [] tells = goes
    posted_one bytes taken mid is flushed took middle grown carried (letter ∷ other ∷ posted) tells = absurd tells
    posted_one bytes taken mid is flushed took middle grown carried (letter ∷ []) tells = (
      [],
      record {
        transition = transition_of old turn new;
        among = (0, omega arith, refl);
        taken = taken;
        took = took;
        flushed = flushed;
        middle = mid;
        middle_is = middle;
        catalogue = ap (λ (h : Local D B E). h.published.catalogue) middle;
        answer = bytes;
        takes = is;
        grown = grown;
        carried = carried;
        tells = tells;
      },
      [],
      refl,
      ([], ap (λ (h : Local D B E). log_of service h) middle ∙ sym (append-nil (log_of service old))),
      front_self (log_of service new),
    )

    where_posts : (flushed : Bool) (bytes : List ℕ) (taken : Taken) (mid : Local D B E) → got mid ≡ Takes bytes taken
        → turn.flushed ≡ flushed → turn.taken ≡ Some taken
        → mid ≡ record old { asked = mid.asked }
        → CarriesWhere flushed (local_conduct service.keeping service.telling) taken service.peer mid new
        → Gains Later (letters mid) (letters new)
    where_posts true bytes taken mid is flush took middle carries =
        gains_so (AtMostOne (TellsAsker (asker_of taken service.peer) (outcome_stat carries.carried.transfers.result))) Later
        (posted_one bytes taken mid is (subst IsTrue (sym flush) refl) took middle carries.grown carries.carried)
        (letters mid) (letters new) (transferred taken mid new carries.carried)
    where_posts false bytes taken mid is flush took middle carries =
        gains_none Later goes (letters mid) (letters new) (ap letters carries)

    carried_posts : (response : Response) (mid : Local D B E) → got mid ≡ response → mid ≡ record old { asked = mid.asked }
        → Carries (local_conduct service.keeping service.telling) service.peer response turn mid new
        → Gains Later (letters mid) (letters new)
    carried_posts Silence mid is middle carries = gains_none Later goes (letters mid) (letters new) (ap letters carries.3)
    carried_posts (Bytes bytes) mid is middle carries = gains_none Later goes (letters mid) (letters new) (ap letters carries.3)
    carried_posts (Takes bytes taken) mid is middle carries =
        where_posts turn.flushed bytes taken mid is refl carries.2 middle carries.3
    carried_posts (Open xid job) mid is middle carries =
        gains_none Later goes (letters mid) (letters new) (ap (λ (d : DialTells). d.letters) carries.4.made.1.dial)

  middle_of : (asked : Bool) (old mid : Local D B E)
      → StepsWhere asked (local_conduct service.keeping service.telling).stepped (local_conduct service.keeping service.telling).seen old mid
      → mid ≡ record old { asked = mid.asked }
  middle_of true old mid step =
      step.0 ∙ ap (λ (n : ℕ). record old { asked = n }) (sym (ap (λ (h : Local D B E). h.asked) step.0))
  middle_of false old mid step =
      step ∙ ap (λ (n : ℕ). record old { asked = n }) (sym (ap (λ (h : Local D B E). h.asked) step))

  link_on : (turn : Turn) (old new : Local D B E) → Link (local_conduct service.keeping service.telling) Stream service.peer turn old new
      → GoesOn (local_conduct service.keeping service.telling) old new
  link_on turn old new link =
      linked_on (local_conduct service.keeping service.telling) Stream service.peer turn old new
      (linked (local_conduct service.keeping service.telling) Stream service.peer turn old new link)

  link_front : (turn : Turn) (old new : Local D B E) → Link (local_conduct service.keeping service.telling) Stream service.peer turn old new
      → IsFront (log_of service old) (log_of service new)
  link_front turn old new link = (link_on turn old new link).grown

  link_posts : (turn : Turn) (old new : Local D B E) (others : List (Transition (Local D B E)))
      → Link (local_conduct service.keeping service.telling) Stream service.peer turn old new
      → Gains (λ (posted : List Letter). InOrder old (transition_of old turn new ∷ others) posted (exchange_of service.peer turn ∷ [])
      (log_of service old) (log_of service new)) (letters old) (letters new)
  link_posts turn old new others link =
      let middle = middle_of (asks Stream turn.message) old link.mid link.step in
      gains_from _ (letters old) (letters link.mid) (letters new)
      (ap letters middle)
      (carried_posts turn old new others (link_front turn old new link)
      (reply Stream (maps_of ((local_conduct service.keeping service.telling).seen link.mid)) service.peer turn.message)
      link.mid refl middle link.carried)

  -- one whose reply didn't go out posts nothing
  unflushed : (response : Response) (turn : Turn) (mid new : Local D B E) → turn.flushed ≡ false
      → Carries (local_conduct service.keeping service.telling) service.peer response turn mid new → letters new ≡ letters mid
  unflushed Silence turn mid new flush carries = ap letters carries.3
  unflushed (Bytes bytes) turn mid new flush carries = ap letters carries.3
  unflushed (Takes bytes taken) turn mid new flush carries =
      let same : new ≡ mid =
      subst (λ (b : Bool). CarriesWhere b (local_conduct service.keeping service.telling) taken service.peer mid new) flush carries.3 in
      ap letters same
  unflushed (Open xid job) turn mid new flush carries = ap (λ (d : DialTells). d.letters) carries.4.made.1.dial

  unflushed_link : (turn : Turn) (old new : Local D B E) → turn.flushed ≡ false
      → Link (local_conduct service.keeping service.telling) Stream service.peer turn old new → letters new ≡ letters old
  unflushed_link turn old new flush link =
      unflushed (reply Stream (maps_of ((local_conduct service.keeping service.telling).seen link.mid)) service.peer turn.message) turn
      link.mid new flush link.carried
      ∙ ap letters (middle_of (asks Stream turn.message) old link.mid link.step)

  abbrev later : (first next : Local D B E) (front : Transition (Local D B E)) (transitions : List (Transition (Local D B E)))
      (letter : Letter) → next.published.catalogue ≡ first.published.catalogue
      → IsPosted next transitions letter → IsPosted first (front ∷ transitions) letter
  later first next front transitions letter same is = record {
    transition = is.transition;
    among = (suc is.among.0, (let within = is.among.1 in omega (arith, within)), is.among.2);
    taken = is.taken;
    took = is.took;
    flushed = is.flushed;
    middle = is.middle;
    middle_is = is.middle_is;
    catalogue = is.catalogue ∙ same;
    answer = is.answer;
    takes = is.takes;
    grown = is.grown;
    carried = is.carried;
    tells = is.tells;
  }

  all_later : (first next : Local D B E) (front : Transition (Local D B E)) (transitions : List (Transition (Local D B E)))
      → next.published.catalogue ≡ first.published.catalogue → (letters : List Letter) (exchanges : List Exchange) (known log : Log)
      → InOrder next transitions letters exchanges known log → InOrder first (front ∷ transitions) letters exchanges known log
  all_later first next front transitions same [] exchanges known log order = order
  all_later first next front transitions same (letter ∷ letters) exchanges known log order = (
    order.0,
    later first next front transitions letter same order.1,
    order.2,
    order.3,
    order.4,
    all_later first next front transitions same letters order.2 (log_of service order.1.transition.after) log order.5,
  )

  abbrev Posts : Dialogue (Local D B E) → List (Turn × Dialogue (Local D B E)) → Log → List Letter → Type 0
  Posts old answered log posted =
      InOrder old.host (transitions_of old answered) posted (exchanges_of service.peer (turns_in answered)) (log_of service old.host) log

  chain_posts : (answered : List (Turn × Dialogue (Local D B E))) (old new : Dialogue (Local D B E))
      → Chain (local_conduct service.keeping service.telling) service.peer answered old new
      → Gains (Posts old answered (log_of service new.host)) (letters old.host) (letters new.host)
  chain_posts [] old new chain =
      gains_none (Posts old [] (log_of service new.host))
      (subst (λ (d : Dialogue (Local D B E)). IsFront (log_of service old.host) (log_of service d.host)) (sym chain)
      (front_self (log_of service old.host)))
      (letters old.host) (letters new.host) (ap (λ (d : Dialogue (Local D B E)). letters d.host) chain)
  chain_posts (one ∷ answered) old new chain =
      let front = transition_of old.host one.0 one.1.host in
      let transitions = transitions_of one.1 answered in
      let exchanges = exchanges_of service.peer (turns_in answered) in
      let log = log_of service new.host in
      gains_then
      (λ (posted : List Letter). InOrder old.host (front ∷ transitions) posted (exchange_of service.peer one.0 ∷ [])
      (log_of service old.host) (log_of service one.1.host))
      (Posts one.1 answered log) (Posts old (one ∷ answered) log)
      (λ some more order then. in_order_then old.host (front ∷ transitions) (exchange_of service.peer one.0 ∷ []) exchanges
      (log_of service old.host) (log_of service one.1.host) log some more order
      (all_later old.host one.1.host front transitions (link_on one.0 old.host one.1.host chain.0.replied.link).catalogue more exchanges
      (log_of service one.1.host) log then))
      (letters old.host) (letters one.1.host) (letters new.host)
      (link_posts one.0 old.host one.1.host transitions chain.0.replied.link)
      (chain_posts answered one.1 new chain.1)

  -- the end of a session posts nothing, and its log goes on
  record EndsSilent (old new : Local D B E) : Type 0 where
    posts : letters new ≡ letters old
    goes : IsFront (log_of service old) (log_of service new)

  ends_same : (old new : Local D B E) → new ≡ old → EndsSilent old new
  ends_same old new same = record {
    posts = ap letters same;
    goes = subst (λ (h : Local D B E). IsFront (log_of service old) (log_of service h)) (sym same) (front_self (log_of service old));
  }

  ended : (most count : ℕ) (end : End) (old new : Dialogue (Local D B E))
      → Ends (local_conduct service.keeping service.telling) service.peer most count end old new → EndsSilent old.host new.host
  ended most count ends.Clean old new end = ends_same old.host new.host end.1.1.host
  ended most count (ends.Torn at) old new end = ends_same old.host new.host end.1.1.host
  ended most count (ends.TooLong at) old new end = ends_same old.host new.host end.1.1.host
  ended most count ends.ReadFault old new end = ends_same old.host new.host end.1.1.host
  ended most count ends.WriteFault old new end = record {
    posts = unflushed_link end.1.0 old.host new.host end.1.1.replied.flush end.1.1.replied.link;
    goes = link_front end.1.0 old.host new.host end.1.1.replied.link;
  }
  ended most count ends.Enough old new end =
      ends_same old.host new.host (ap (λ (d : Dialogue (Local D B E)). d.host) end.1)

  -- all that was posted from the first record to the end
  pub run_posts : (answered : List (Turn × Dialogue (Local D B E))) (old last new : Dialogue (Local D B E)) (most count : ℕ) (end : End)
      → Chain (local_conduct service.keeping service.telling) service.peer answered old last
      → Ends (local_conduct service.keeping service.telling) service.peer most count end last new
      → Gains (Posts old answered (log_of service new.host)) (letters old.host) (letters new.host)
  run_posts answered old last new most count end chain ends =
      let tail = ended most count end last new ends in
      subst (λ (o : Option (List Sending)). Gains (Posts old answered (log_of service new.host)) (letters old.host) o) (sym tail.posts)
      (gains_so (Posts old answered (log_of service last.host)) (Posts old answered (log_of service new.host))
      (λ posted order. widened old.host (transitions_of old answered) posted (exchanges_of service.peer (turns_in answered))
      (log_of service old.host) (log_of service last.host) (log_of service new.host) tail.goes order)
      (letters old.host) (letters last.host) (chain_posts answered old last chain))

-- ---- what a transfer that succeeded left

module _ {D B : Type 0} (keeping : Keeping D B) where
  -- a version was fetched, and was entered behind what was known
  pub record IsEntered (outcome : FetchOutcome) (number : ℕ) (old new : Published D B) : Type 0 where
    pub version : MapVersion
    pub outcome_is : outcome ≡ Ok version
    pub stored : MapVersion
    pub marked : IsMarked version stored
    pub before : Log
    pub goes_on : IsFront (keeping.log old.board) before
    pub entry : IsFront (before ++ (number, stored) ∷ []) (keeping.log new.board)

  offered_in : (request : TransferRequest) (version : MapVersion) (result : Result Installed XfrFault)
      (installed : Installed) (old middle new : Published D B) → result ≡ Ok installed
      → IsFront (keeping.log old.board) (keeping.log middle.board)
      → Offers keeping request.number (fetched_offer keeping request version middle) result middle new
      → IsEntered (Ok version) request.number old new
  offered_in request version (Err why) installed old middle new is goes offers = absurd cc
  offered_in request version (Ok other) installed old middle new is goes offers = record {
    version = version;
    outcome_is = refl;
    stored = (fetched_offer keeping request version middle).version;
    marked = refl;
    before = keeping.log middle.board;
    goes_on = goes;
    entry = ([], offers.installs.log ∙ sym (append-nil _));
  }

  pub installed_in : (request : TransferRequest) (outcome : FetchOutcome) (result : Result Installed XfrFault) (installed : Installed)
      (old new : Published D B) → request.number < length old.maps → result ≡ Ok installed
      → InstallsOutcome keeping request outcome result old new → IsEntered outcome request.number old new
  installed_in request (Err why) result installed old new within is installs =
      absurd (let e : Ok installed ≡ Err why = sym is ∙ installs.0 in cc)
  installed_in request (Ok version) result installed old new within is installs = ⊎_elim
      (λ shut. absurd (let e : Ok installed ≡ Err _ = sym is ∙ shut.fault_is in cc))
      (λ opens. offered_in request version result installed old opens.middle new is
      (opened_front keeping.log request.number old opens.middle within opens.opens.upheld.elsewhere opens.opens.shown) opens.offers)
      installs
