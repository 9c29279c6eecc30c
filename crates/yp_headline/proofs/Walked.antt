-- What a walk by awaited datagrams came to, reply by reply.
use Rattle.std.proofs.Common.{◌≡◌, ℕ, Bool, true, false, cond, List, [], ◌∷◌, ◌++◌, length, Option, Some, None, Result, Ok, Err, refl, sym, ap, ◌∙◌, subst, eqb, bytes_eq, arith, inl, inr}
use Rattle.std.specs.Prelude.{◌==◌, ◌&&◌, nat_le, nat_lt, is_some, ⊤}
use Rattle.std.proofs.lemmas.Bool.Decides.{eqb_tells}
use Rattle.yp_io.specs.declared.stream.Peer.{Peer}
use Rattle.yp_io.specs.Inboxes.{InboxEvent, Arrived, Silent, Sent}
use Rattle.yp_xdr.specs.declared.fault.XdrFault.{XdrFault}
use Rattle.yp_xdr.specs.Kind.{U32, Sequence}
use Rattle.yp_xdr.specs.Reading.{Remaining, reading}
use Rattle.yp_rpc.specs.Turns.{datagram_max}
use Rattle.yp_messages.specs.declared.stat.YpStat.TheVariants.{Nomore, Nokey}
use Rattle.yp_version.specs.Rows.{Row, value_of}
use Rattle.yp_version.specs.Drafts.{Draft, empty_draft, refused, with_row, with_rows}
use Rattle.yp_board.specs.Catalogues.{Name}
use Rattle.yp_client.specs.declared.fault.ClientFault.{ClientFault}
use Rattle.yp_client.specs.declared.fault.ClientFault.TheVariants.{Yp}
use Rattle.yp_client.specs.Results.{order_of, master_of, row_of}
use Rattle.yp_client.specs.Asked.{first_call, next_call}
use Rattle.yp_answer.specs.declared.procedure.Path.TheVariants.{Datagram as Mail}
use Rattle.yp_transfer.specs.declared.fault.XfrFault.{XfrFault}
use Rattle.yp_transfer.specs.declared.fault.XfrFault.TheVariants as fault
use Rattle.yp_transfer.specs.Faults.{of_client}
use Rattle.yp_transfer.specs.Fetching.{Wanted, against_order, against_master}
use Rattle.yp_transfer.specs.walk.Standings.{WalkState, AsksMaster, AsksFirst, AsksNext, AsksAgain, HasEnded, IsAsking, refusal, unless, by_order, by_master, by_row, by_first, by_next, by_again, outcome_of, state_after, next_len}
use Rattle.yp_transfer.specs.walk.Schedules.{Walking, is_reply, answers, awaited, outstanding, gone_on, begun, came_of, next_xid}
use Rattle.yp_command_maps.specs.walk.Turns.{heard_of}
use Rattle.yp_headline.specs.Answering.{map_call}
use Rattle.yp_headline.specs.Fetching.{SayRows, IsAwaited, Hears}
use Rattle.yp_headline.specs.Sources.{next_calls, later_calls}
use Rattle.yp_headline.specs.inside.Files.{mails_from}
use Rattle.yp_headline.proofs.Said.{order_said, row_said, none_said}
use Rattle.yp_headline.proofs.Built.{rows_keep}

-- ---- the awaited datagrams of those that came

same_number : (n : ℕ) → eqb n n ≡ true
same_number n = elim (eqb_tells n n) [
  | inl same ↦ same.0
  | inr differ ↦ absurd (differ.1 refl)
]

number_is : (a b : ℕ) → eqb a b ≡ true → a ≡ b
number_is a b is = elim (eqb_tells a b) [
  | inl same ↦ same.1
  | inr differ ↦ absurd (let e : false ≡ true = sym differ.0 ∙ is in cc)
]

both_are : (a b : Bool) → (a && b) ≡ true → (a ≡ true) × (b ≡ true)
both_are true b is = (refl, is)
both_are false b is = absurd cc

begins : (xid : ℕ) (read : Result ((ℕ × ℕ) × Remaining) XdrFault) → is_reply xid read ≡ true
    → (behind : Remaining) × (read ≡ Ok ((xid, 1), behind))
begins xid (Ok read) is =
    let both = both_are (read.0.0 == xid) (read.0.1 == 1) is in (
      read.1,
      ap (λ (n : ℕ). Ok ((n, read.0.1), read.1)) (number_is read.0.0 xid both.0)
          ∙ ap (λ (n : ℕ). Ok ((xid, n), read.1)) (number_is read.0.1 1 both.1),
    )
begins xid (Err why) is = absurd cc

is_awaited : (xid : ℕ) (mail : List ℕ) → nat_le (length mail) datagram_max ≡ true → answers xid mail ≡ true → IsAwaited xid mail
is_awaited xid mail short is =
    (grind (arith, short), begins xid (reading (Sequence U32 U32) (record { at = 0; bytes = mail })) is)

answers_so : (xid : ℕ) (mail : List ℕ) → IsAwaited xid mail → (nat_le (length mail) datagram_max ≡ true) × (answers xid mail ≡ true)
answers_so xid mail is = (
  grind (arith, is.0),
  ap (is_reply xid) is.1.1 ∙ ap (λ (b : Bool). b && (1 == 1)) (same_number xid),
)

module _ (source : Peer) where
  same_front : {A : Type 0} (a b : A) (more others : List A) → a ∷ more ≡ b ∷ others → (a ≡ b) × (more ≡ others)
  same_front a b more others is = (cc, cc)

  skips : (xid : ℕ) (mail : List ℕ) (mails : List (List ℕ)) (replies : List (List ℕ)) → (IsAwaited xid mail → ⊥)
      → Hears Mail xid mails replies → Hears Mail xid (mail ∷ mails) replies
  skips xid mail mails [] other hears = tt
  skips xid mail mails (reply ∷ replies) other hears = (
    mail ∷ hears.0,
    hears.1,
    ap (λ (l : List (List ℕ)). mail ∷ l) hears.2,
    (other, hears.3),
    hears.4,
    hears.5,
  )

  -- one datagram more, where the others were heard, with this one or without it
  module _ (xid : ℕ) (mail : List ℕ) (events : List InboxEvent) (reply : List ℕ) (used rest : List (List ℕ))
      (without : awaited source xid (heard_of events) ≡ reply ∷ (used ++ rest)
      → Hears Mail xid (mails_from source events) (reply ∷ used))
      (behind : awaited source (next_xid xid) (heard_of events) ≡ used ++ rest
      → Hears Mail (next_xid xid) (mails_from source events) used) where
    short_is : (addr port answer : Bool) → nat_le (length mail) datagram_max ≡ true → answers xid mail ≡ answer
        → cond (addr && (port && answer)) (mail ∷ awaited source (next_xid xid) (heard_of events))
        (awaited source xid (heard_of events)) ≡ reply ∷ (used ++ rest)
        → Hears Mail xid (cond (addr && port) (mail ∷ mails_from source events) (mails_from source events)) (reply ∷ used)
    short_is false port answer fits answered is = without is
    short_is true false answer fits answered is = without is
    short_is true true true fits answered is =
        let parts = same_front mail reply (awaited source (next_xid xid) (heard_of events)) (used ++ rest) is in (
          [],
          mails_from source events,
          ap (λ (m : List ℕ). m ∷ mails_from source events) parts.0,
          tt,
          subst (IsAwaited xid) parts.0 (is_awaited xid mail fits answered),
          behind parts.1,
        )
    short_is true true false fits answered is =
        skips xid mail (mails_from source events) (reply ∷ used)
        (λ so. let e : true ≡ false = sym (answers_so xid mail so).1 ∙ answered in cc) (without is)

    long_is : (from_it : Bool) → nat_le (length mail) datagram_max ≡ false
        → awaited source xid (heard_of events) ≡ reply ∷ (used ++ rest)
        → Hears Mail xid (cond from_it (mail ∷ mails_from source events) (mails_from source events)) (reply ∷ used)
    long_is false fits is = without is
    long_is true fits is =
        skips xid mail (mails_from source events) (reply ∷ used)
        (λ so. let e : true ≡ false = sym (answers_so xid mail so).0 ∙ fits in cc) (without is)

    one_more : (from : Peer) (short : Bool) → nat_le (length mail) datagram_max ≡ short
        → awaited source xid (cond short ((from, mail) ∷ heard_of events) (heard_of events)) ≡ reply ∷ (used ++ rest)
        → Hears Mail xid (mails_from source (Arrived from mail ∷ events)) (reply ∷ used)
    one_more from true fits is =
        short_is (bytes_eq from.addr source.addr) (from.port == source.port) (answers xid mail) fits refl is
    one_more from false fits is = long_is (bytes_eq from.addr source.addr && (from.port == source.port)) fits is

  pub hears : (events : List InboxEvent) (xid : ℕ) (used rest : List (List ℕ))
      → awaited source xid (heard_of events) ≡ used ++ rest → Hears Mail xid (mails_from source events) used
  hears events xid [] rest is = tt
  hears [] xid (reply ∷ used) rest is = absurd cc
  hears (Silent ∷ events) xid (reply ∷ used) rest is = hears events xid (reply ∷ used) rest is
  hears (Sent to mail ∷ events) xid (reply ∷ used) rest is = hears events xid (reply ∷ used) rest is
  hears (Arrived from mail ∷ events) xid (reply ∷ used) rest is =
      one_more xid mail events reply used rest (λ e. hears events xid (reply ∷ used) rest e) (λ e. hears events (next_xid xid) used rest e)
      from (nat_le (length mail) datagram_max) refl is

-- ---- the walk

module _ (source : Peer) (wanted : Wanted) where
  abbrev name : Name
  name = (wanted.domain, wanted.map)

  abbrev walking : ℕ → WalkState → Walking
  walking xid standing = record { source = source; wanted = wanted; xid = xid; standing = standing }

  -- replies came to calls, each to the one that was outstanding
  abbrev pub Steps : Walking → (replies calls : List (List ℕ)) → Type 0
  Steps old [] [] = ⊤
  Steps old (reply ∷ replies) (call ∷ calls) =
      IsAsking old.standing × (outstanding old ≡ call) × Steps (gone_on old reply) replies calls
  Steps _ _ _ = ⊥

  ended_stays : (replies : List (List ℕ)) (xid : ℕ) (outcome : Result Draft XfrFault)
      → (came_of (walking xid (HasEnded outcome)) replies).standing ≡ HasEnded outcome
  ended_stays [] xid outcome = refl
  ended_stays (reply ∷ replies) xid outcome = ended_stays replies (next_xid xid) outcome

  ended_same : (a b : Result Draft XfrFault) → HasEnded a ≡ HasEnded b → a ≡ b
  ended_same a b is = cc

  done_same : (a b : Draft) → (let r : Result Draft XfrFault = Ok a in r) ≡ Ok b → a ≡ b
  done_same a b is = cc

  never : {P : Type 0} (replies : List (List ℕ)) (xid : ℕ) (why : XfrFault) (done : Draft)
      → (came_of (walking xid (refusal why)) replies).standing ≡ HasEnded (Ok done) → P
  never replies xid why done is =
      let e = ended_same (Err why) (Ok done) (sym (ended_stays replies xid (Err why)) ∙ is) in absurd cc

  module _ (done : Draft) where
    abbrev Ends : ℕ → WalkState → List (List ℕ) → Type 0
    Ends xid standing replies = (came_of (walking xid standing) replies).standing ≡ HasEnded (Ok done)

    -- ---- the last ORDER

    record IsAgain (xid : ℕ) (draft : Draft) (replies : List (List ℕ)) : Type 0 where
      again : List ℕ
      rest : List (List ℕ)
      all : replies ≡ again ∷ rest
      says : order_of xid again ≡ Ok draft.order
      is : done ≡ draft
      ended : state_after wanted xid (AsksAgain draft None) again ≡ HasEnded (Ok done)

    again_ends : (xid : ℕ) (draft : Draft) (again : List ℕ) (rest : List (List ℕ)) (order : ℕ) (why cause : Option XfrFault)
        → why ≡ cause → eqb draft.order order ≡ true → order_of xid again ≡ Ok order → outcome_of draft cause ≡ Ok done
        → (why ≡ None) × IsAgain xid draft (again ∷ rest)
    again_ends xid draft again rest order why (Some f) of same said e = absurd cc
    again_ends xid draft again rest order why None of same said e =
        let order_is : order ≡ draft.order = sym (number_is draft.order order same) in
        let whole : draft ≡ done = done_same draft done e in (
          of,
          record {
            again = again;
            rest = rest;
            all = refl;
            says = said ∙ ap (λ (n : ℕ). Ok n) order_is;
            is = sym whole;
            ended = ap (by_again draft None) said
                ∙ ap (λ (b : Bool). unless (cond b None (Some (fault.Skew draft.order order))) (HasEnded (Ok draft))) same
                ∙ ap (λ (d : Draft). HasEnded (Ok d)) whole;
          },
        )

    again_with : (xid : ℕ) (draft : Draft) (why : Option XfrFault) (again : List ℕ) (rest : List (List ℕ)) (order : ℕ) (same : Bool)
        → eqb draft.order order ≡ same → order_of xid again ≡ Ok order
        → Ends (next_xid xid) (unless (cond same None (Some (fault.Skew draft.order order))) (HasEnded (outcome_of draft why))) rest
        → (why ≡ None) × IsAgain xid draft (again ∷ rest)
    again_with xid draft why again rest order false differs said is = never rest (next_xid xid) (fault.Skew draft.order order) done is
    again_with xid draft why again rest order true same said is =
        again_ends xid draft again rest order why why refl same said (ended_same (outcome_of draft why) (Ok done)
        (sym (ended_stays rest (next_xid xid) (outcome_of draft why)) ∙ is))

    again_by : (xid : ℕ) (draft : Draft) (why : Option XfrFault) (again : List ℕ) (rest : List (List ℕ)) (answer : Result ℕ ClientFault)
        → order_of xid again ≡ answer → Ends (next_xid xid) (by_again draft why answer) rest
        → (why ≡ None) × IsAgain xid draft (again ∷ rest)
    again_by xid draft why again rest (Ok order) said is = again_with xid draft why again rest order (eqb draft.order order) refl said is
    again_by xid draft why again rest (Err cause) said is = never rest (next_xid xid) (of_client cause) done is

    asked_again : (xid : ℕ) (draft : Draft) (why : Option XfrFault) (replies : List (List ℕ)) → Ends xid (AsksAgain draft why) replies
        → (why ≡ None) × IsAgain xid draft replies
    asked_again xid draft why [] is = absurd cc
    asked_again xid draft why (again ∷ rest) is = again_by xid draft why again rest (order_of xid again) refl is

    -- ---- the rows

    -- the replies from a state on, which asks for a row by a call
    pub record Going (xid : ℕ) (standing : WalkState) (call : List ℕ) (draft : Draft) (replies : List (List ℕ)) : Type 0 where
      pub rows : List Row
      pub used : List (List ℕ)
      pub rest : List (List ℕ)
      pub all : replies ≡ used ++ rest
      pub says : SayRows Mail xid draft.order rows used
      pub made : done ≡ with_rows draft rows
      pub steps : Steps (walking xid standing) used (call ∷ next_calls name (next_xid xid) rows)
      pub ended : Ends xid standing used

    -- those behind one of these
    record Behind (xid : ℕ) (next : WalkState) (draft : Draft) (reply : List ℕ) (replies : List (List ℕ)) : Type 0 where
      rows : List Row
      used : List (List ℕ)
      rest : List (List ℕ)
      all : replies ≡ used ++ rest
      says : SayRows Mail xid draft.order rows (reply ∷ used)
      made : done ≡ with_rows draft rows
      steps : Steps (walking (next_xid xid) next) used (next_calls name (next_xid xid) rows)
      ended : Ends (next_xid xid) next used

    module _ (xid : ℕ) (draft : Draft) (reply : List ℕ) (replies : List (List ℕ))
        (later : (draft : Draft) (key : List ℕ) → Ends (next_xid xid) (AsksNext draft key) replies
        → Going (next_xid xid) (AsksNext draft key) (next_call wanted.domain wanted.map key (next_xid xid)) draft replies) where
      taken_row : (found : List ℕ × List ℕ) → row_of xid reply ≡ Ok found → (no twice long : Bool)
          → Ends (next_xid xid) (cond no (refusal fault.Dbm) (cond twice (AsksAgain draft (Some (fault.Xfrerr 0)))
          (cond long (refusal fault.Dbm) (AsksNext (with_row draft (found.1, found.0)) found.1)))) replies
          → Behind xid (cond no (refusal fault.Dbm) (cond twice (AsksAgain draft (Some (fault.Xfrerr 0)))
          (cond long (refusal fault.Dbm) (AsksNext (with_row draft (found.1, found.0)) found.1)))) draft reply replies
      taken_row found said true twice long is = never replies (next_xid xid) fault.Dbm done is
      taken_row found said false true long is =
          absurd (let no = (asked_again (next_xid xid) draft (Some (fault.Xfrerr 0)) replies is).0 in cc)
      taken_row found said false false true is = never replies (next_xid xid) fault.Dbm done is
      taken_row found said false false false is =
          let rest = later (with_row draft (found.1, found.0)) found.1 is in
          record {
            rows = (found.1, found.0) ∷ rest.rows;
            used = rest.used;
            rest = rest.rest;
            all = rest.all;
            says = (
              row_said xid reply found said,
              subst (λ (n : ℕ). SayRows Mail (next_xid xid) n rest.rows rest.used) (rows_keep ((found.1, found.0) ∷ []) draft).0 rest.says,
            );
            made = rest.made;
            steps = rest.steps;
            ended = rest.ended;
          }

      behind_row : (found : List ℕ × List ℕ) → row_of xid reply ≡ Ok found
          → Ends (next_xid xid) (by_row wanted draft (found.1, found.0)) replies
          → Behind xid (by_row wanted draft (found.1, found.0)) draft reply replies
      behind_row found said is =
          taken_row found said (is_some (refused draft (found.1, found.0))) (is_some (value_of found.1 draft.rows))
          (nat_lt datagram_max (next_len wanted found.1)) is

      behind_first : (answer : Result (List ℕ × List ℕ) ClientFault) → row_of xid reply ≡ answer
          → Ends (next_xid xid) (by_first wanted draft answer) replies → Behind xid (by_first wanted draft answer) draft reply replies
      behind_first (Ok found) said is = behind_row found said is
      behind_first (Err (Yp Nomore)) said is =
          let again = (asked_again (next_xid xid) draft None replies is).1 in
          record {
            rows = [];
            used = again.again ∷ [];
            rest = again.rest;
            all = again.all;
            says = (none_said xid reply said, order_said (next_xid xid) again.again draft.order again.says);
            made = again.is;
            steps = (tt, refl, tt);
            ended = again.ended;
          }
      behind_first (Err why) said is = never replies (next_xid xid) (of_client why) done is

      behind_next : (answer : Result (List ℕ × List ℕ) ClientFault) → row_of xid reply ≡ answer
          → Ends (next_xid xid) (by_next wanted draft answer) replies → Behind xid (by_next wanted draft answer) draft reply replies
      behind_next (Ok found) said is = behind_row found said is
      behind_next (Err (Yp Nokey)) said is =
          absurd (let no = (asked_again (next_xid xid) draft (Some (fault.Yperr (Some Nokey))) replies is).0 in cc)
      behind_next (Err why) said is = behind_first (Err why) said is

    going_next : (replies : List (List ℕ)) (xid : ℕ) (draft : Draft) (key : List ℕ) → Ends xid (AsksNext draft key) replies
        → Going xid (AsksNext draft key) (next_call wanted.domain wanted.map key xid) draft replies
    going_next [] xid draft key is = absurd cc
    going_next (reply ∷ replies) xid draft key is =
        let more = behind_next xid draft reply replies (λ d k e. going_next replies (next_xid xid) d k e) (row_of xid reply) refl is in
        record {
          rows = more.rows;
          used = reply ∷ more.used;
          rest = more.rest;
          all = ap (λ (l : List (List ℕ)). reply ∷ l) more.all;
          says = more.says;
          made = more.made;
          steps = (tt, refl, more.steps);
          ended = more.ended;
        }

    going_first : (replies : List (List ℕ)) (xid : ℕ) (draft : Draft) → Ends xid (AsksFirst draft) replies
        → Going xid (AsksFirst draft) (first_call wanted.domain wanted.map xid) draft replies
    going_first [] xid draft is = absurd cc
    going_first (reply ∷ replies) xid draft is =
        let more = behind_first xid draft reply replies (λ d k e. going_next replies (next_xid xid) d k e) (row_of xid reply) refl is in
        record {
          rows = more.rows;
          used = reply ∷ more.used;
          rest = more.rest;
          all = ap (λ (l : List (List ℕ)). reply ∷ l) more.all;
          says = more.says;
          made = more.made;
          steps = (tt, refl, more.steps);
          ended = more.ended;
        }

    -- ---- the whole

    -- a walk that is done: what its replies say, and which calls they answer
    pub record IsWalked (replies : List (List ℕ)) : Type 0 where
      pub number : ℕ
      pub host : List ℕ
      pub rows : List Row
      pub order : List ℕ
      pub master : List ℕ
      pub others : List (List ℕ)
      pub rest : List (List ℕ)
      pub all : replies ≡ order ∷ (master ∷ (others ++ rest))
      pub says_order : order_of 1 order ≡ Ok number
      pub says_master : master_of 2 master ≡ Ok host
      pub says_rows : SayRows Mail 3 number rows others
      pub made : done ≡ with_rows (empty_draft number host) rows
      pub steps : Steps (begun source wanted) (order ∷ master ∷ others) (map_call 10 name 1 ∷ later_calls Mail name rows)
      pub ended : (came_of (begun source wanted) (order ∷ master ∷ others)).standing ≡ HasEnded (Ok done)

    -- behind the reply to MASTER
    record BehindMaster (number : ℕ) (next : WalkState) (master : List ℕ) (replies : List (List ℕ)) : Type 0 where
      host : List ℕ
      says : master_of 2 master ≡ Ok host
      going : Going 3 next (first_call wanted.domain wanted.map 3) (empty_draft number host) replies

    master_taken : (number : ℕ) (master : List ℕ) (replies : List (List ℕ)) (host : List ℕ) → master_of 2 master ≡ Ok host
        → (cause : Option XfrFault) → Ends 3 (unless cause (AsksFirst (empty_draft number host))) replies
        → BehindMaster number (unless cause (AsksFirst (empty_draft number host))) master replies
    master_taken number master replies host said (Some why) is = never replies 3 why done is
    master_taken number master replies host said None is =
        record { host = host; says = said; going = going_first replies 3 (empty_draft number host) is }

    behind_master : (number : ℕ) (master : List ℕ) (replies : List (List ℕ)) (answer : Result (List ℕ) ClientFault)
        → master_of 2 master ≡ answer → Ends 3 (by_master number answer) replies
        → BehindMaster number (by_master number answer) master replies
    behind_master number master replies (Err why) said is = never replies 3 (of_client why) done is
    behind_master number master replies (Ok host) said is = master_taken number master replies host said (against_master host) is

    -- behind the reply to ORDER
    record BehindOrder (next : WalkState) (order : List ℕ) (replies : List (List ℕ)) : Type 0 where
      number : ℕ
      says : order_of 1 order ≡ Ok number
      master : List ℕ
      behind : List (List ℕ)
      all : replies ≡ master ∷ behind
      asking : IsAsking next
      call : outstanding (walking 2 next) ≡ map_call 9 name 2
      more : BehindMaster number (state_after wanted 2 next master) master behind

    asked_master : (number : ℕ) (order : List ℕ) (replies : List (List ℕ)) → order_of 1 order ≡ Ok number → Ends 2 (AsksMaster number) replies
        → BehindOrder (AsksMaster number) order replies
    asked_master number order [] said is = absurd cc
    asked_master number order (master ∷ behind) said is = record {
      number = number;
      says = said;
      master = master;
      behind = behind;
      all = refl;
      asking = tt;
      call = refl;
      more = behind_master number master behind (master_of 2 master) refl is;
    }

    order_taken : (order : List ℕ) (replies : List (List ℕ)) (number : ℕ) → order_of 1 order ≡ Ok number → (cause : Option XfrFault)
        → Ends 2 (unless cause (AsksMaster number)) replies → BehindOrder (unless cause (AsksMaster number)) order replies
    order_taken order replies number said (Some why) is = never replies 2 why done is
    order_taken order replies number said None is = asked_master number order replies said is

    behind_order : (order : List ℕ) (replies : List (List ℕ)) (answer : Result ℕ ClientFault) → order_of 1 order ≡ answer
        → Ends 2 (by_order wanted answer) replies → BehindOrder (by_order wanted answer) order replies
    behind_order order replies (Err why) said is = never replies 2 (of_client why) done is
    behind_order order replies (Ok number) said is = order_taken order replies number said (against_order wanted number) is

    pub walked : (replies : List (List ℕ)) → (came_of (begun source wanted) replies).standing ≡ HasEnded (Ok done) → IsWalked replies
    walked [] is = absurd cc
    walked (order ∷ replies) is =
        let one = behind_order order replies (order_of 1 order) refl is in
        let going = one.more.going in
        record {
          number = one.number;
          host = one.more.host;
          rows = going.rows;
          order = order;
          master = one.master;
          others = going.used;
          rest = going.rest;
          all = ap (λ (l : List (List ℕ)). order ∷ l) (one.all ∙ ap (λ (l : List (List ℕ)). one.master ∷ l) going.all);
          says_order = one.says;
          says_master = one.more.says;
          says_rows = going.says;
          made = going.made;
          steps = (tt, refl, (one.asking, one.call, going.steps));
          ended = going.ended;
        }
