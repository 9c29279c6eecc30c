-- The order that a walk keeps, and what its source showed at the last reply.
use Rattle.std.proofs.Common.{◌≡◌, ◌≢◌, ℕ, ◌⊎◌, Bool, true, false, cond, List, [], ◌∷◌, Option, Some, None}
use Rattle.std.proofs.Common.{Result, Ok, Err, refl, sym, ap, subst, ◌∙◌, inl, inr, eqb}
use Rattle.std.specs.Prelude.{is_some, nat_lt, ⊤}
use Rattle.std.proofs.lemmas.Bool.Decides.{eqb_tells}
use Rattle.yp_io.specs.declared.stream.Peer.{Peer}
use Rattle.yp_rpc.specs.Turns.{datagram_max}
use Rattle.yp_messages.specs.declared.stat.YpStat.{YpStat}
use Rattle.yp_messages.specs.declared.stat.YpStat.TheVariants.{Nomore, Nokey, Nomap, Nodom}
use Rattle.yp_version.specs.Rows.{Row, value_of}
use Rattle.yp_version.specs.Versions.{MapVersion}
use Rattle.yp_version.specs.Drafts.{Draft, refused, with_row, with_new}
use Rattle.yp_version.specs.declared.builder.VersionFault.TheVariants.{NoMemory}
use Rattle.yp_board.specs.Catalogues.{Catalogue, is_name}
use Rattle.yp_board.specs.Logs.{Log}
use Rattle.yp_board.specs.Views.{IsFront}
use Rattle.yp_answer.specs.Maps.{Maps, map_check}
use Rattle.yp_answer.specs.Served.{maps_on}
use Rattle.yp_client.specs.declared.fault.ClientFault.{ClientFault}
use Rattle.yp_client.specs.declared.fault.ClientFault.TheVariants.{Yp, Rows}
use Rattle.yp_client.specs.Results.{order_of, master_of, row_of}
use Rattle.yp_end_to_end.specs.exchange.Told.{told, of_version, order_in}
use Rattle.yp_transfer.specs.declared.fault.XfrFault.{XfrFault}
use Rattle.yp_transfer.specs.declared.fault.XfrFault.TheVariants.{Skew, Xfrerr, Dbm, Age}
use Rattle.yp_transfer.specs.Faults.{of_client}
use Rattle.yp_transfer.specs.Fetching.{Wanted, against_age, against_order, against_master, against_second}
use Rattle.yp_end_to_end.specs.transfer.Replies.{IsShown}
use Rattle.yp_end_to_end.specs.inside.transfer.Shown.{FrontIsServed}
use Rattle.yp_transfer.specs.walk.Standings.{WalkState, AsksOrder, AsksMaster, AsksFirst, AsksNext, AsksAgain, HasEnded}
use Rattle.yp_transfer.specs.walk.Standings.{IsAsking, refusal, unless, by_order, by_master, by_row, by_behind_key, by_first}
use Rattle.yp_transfer.specs.walk.Standings.{by_next, by_again, outcome_of, state_after, next_len}
use Rattle.yp_transfer.specs.walk.Schedules.{Walking, gone_on, begun}
use Rattle.yp_end_to_end.specs.walk.Mails.{SourceMail, last_front, GoesBy}
use Rattle.yp_end_to_end.specs.walk.Laws.{IsSource}
use Rattle.yp_end_to_end.proofs.walk.Telling.{Mails, Says, IsNumbered, said}
use Rattle.yp_end_to_end.proofs.walk.Counting.{next_is_numbered}
use Rattle.yp_end_to_end.proofs.walk.Turning.{front_itself, front_then}

-- a fault isn't Skew
abbrev pub IsOther : XfrFault → Type 0
IsOther (Skew first second) = ⊥
IsOther fault = ⊤

abbrev pub IsOtherIfSome : Option XfrFault → Type 0
IsOtherIfSome (Some fault) = IsOther fault
IsOtherIfSome None = ⊤

-- A walk is on its way with an order.
abbrev pub Keeps : ℕ → WalkState → Type 0
Keeps order AsksOrder = ⊥
Keeps order (AsksMaster first) = first ≡ order
Keeps order (AsksFirst draft) = draft.order ≡ order
Keeps order (AsksNext draft key) = draft.order ≡ order
Keeps order (AsksAgain draft why) = (draft.order ≡ order) × IsOtherIfSome why
Keeps order (HasEnded outcome) = ⊥

-- what its source shows where it ends: a version of that order, or of another
abbrev pub Ends : Maps → Wanted → ℕ → Result Draft XfrFault → Type 0
Ends maps wanted order (Ok draft) = (version : MapVersion) × IsShown wanted version maps × (version.order ≡ order)
Ends maps wanted order (Err (Skew first second)) =
    (version : MapVersion) × IsShown wanted version maps × (version.order ≡ second) × (first ≡ order) × (first ≢ second)
Ends maps wanted order (Err fault) = ⊤

abbrev pub Leads : Maps → Wanted → ℕ → WalkState → Type 0
Leads maps wanted order (HasEnded outcome) = Ends maps wanted order outcome
Leads maps wanted order standing = Keeps order standing

-- ---- what is held

pub held_or_not : (held : Result MapVersion YpStat)
    → ((version : MapVersion) × (held ≡ Ok version)) ⊎ ((stat : YpStat) × (held ≡ Err stat))
held_or_not (Ok version) = inl (version, refl)
held_or_not (Err stat) = inr (stat, refl)

-- ---- faults

pub client_is_other : (fault : ClientFault) → IsOther (of_client fault)
client_is_other (Yp Nomap) = tt
client_is_other (Yp Nodom) = tt
client_is_other (Yp stat) = tt
client_is_other (Rows row NoMemory) = tt
client_is_other (Rows row fault) = tt
client_is_other fault = tt

module _ (maps : Maps) (wanted : Wanted) (order : ℕ) where
  other_ends : (fault : XfrFault) → IsOther fault → Leads maps wanted order (refusal fault)
  other_ends (Skew first second) is = absurd is
  other_ends fault is = tt

  unless_leads : (cause : Option XfrFault) (standing : WalkState) → IsOtherIfSome cause
      → Leads maps wanted order standing → Leads maps wanted order (unless cause standing)
  unless_leads None standing other is = is
  unless_leads (Some fault) standing other is = other_ends fault other

  master_leads : (first : ℕ) (answer : Result (List ℕ) ClientFault) → first ≡ order
      → Leads maps wanted order (by_master first answer)
  master_leads first (Ok master) is =
      unless_leads (against_master master) (AsksFirst (record { order = first; master = master; rows = [] }))
      (named (is_name master)) is
    where
      named : (b : Bool) → IsOtherIfSome (cond b None (Some Dbm))
      named true = tt
      named false = tt
  master_leads first (Err fault) is = other_ends (of_client fault) (client_is_other fault)

  key_leads : (draft : Draft) (key : List ℕ) → draft.order ≡ order
      → Leads maps wanted order (by_behind_key wanted draft key)
  key_leads draft key is = by (nat_lt datagram_max (next_len wanted key))
    where
      by : (long : Bool) → Leads maps wanted order (cond long (refusal Dbm) (AsksNext draft key))
      by true = tt
      by false = is

  row_leads : (draft : Draft) (row : Row) → draft.order ≡ order → Leads maps wanted order (by_row wanted draft row)
  row_leads draft row is = by (is_some (refused draft row)) (is_some (value_of row.0 draft.rows))
    where
      kept : (b : Bool) → (cond b draft (with_new draft row)).order ≡ order
      kept true = is
      kept false = is

      by : (why found : Bool)
          → Leads maps wanted order (cond why (refusal Dbm) (cond found (AsksAgain draft (Some (Xfrerr 0)))
          (by_behind_key wanted (with_row draft row) row.0)))
      by true found = tt
      by false true = (is, tt)
      by false false = key_leads (with_row draft row) row.0 (kept (is_some (value_of row.0 draft.rows)))

  first_leads : (draft : Draft) (answer : Result (List ℕ × List ℕ) ClientFault) → draft.order ≡ order
      → Leads maps wanted order (by_first wanted draft answer)
  first_leads draft (Ok found) is = row_leads draft (found.1, found.0) is
  first_leads draft (Err (Yp Nomore)) is = (is, tt)
  first_leads draft (Err fault) is = other_ends (of_client fault) (client_is_other fault)

  next_leads : (draft : Draft) (answer : Result (List ℕ × List ℕ) ClientFault) → draft.order ≡ order
      → Leads maps wanted order (by_next wanted draft answer)
  next_leads draft (Ok found) is = first_leads draft (Ok found) is
  next_leads draft (Err (Yp Nokey)) is = (is, tt)
  next_leads draft (Err fault) is = first_leads draft (Err fault) is

  -- the second ORDER tells the order of what is shown then
  second_leads : (draft : Draft) (why : Option XfrFault) (version : MapVersion) → IsShown wanted version maps
      → draft.order ≡ order → IsOtherIfSome why
      → Leads maps wanted order (unless (against_second draft.order version.order) (HasEnded (outcome_of draft why)))
  second_leads draft why version shows is other =
      elim (eqb_tells draft.order version.order) [
        | inl same ↦ by true same.0 (same_ends why other (sym same.1 ∙ is))
        | inr differ ↦ by false differ.0 (differs differ.1)
      ]
    where
      same_ends : (why : Option XfrFault) → IsOtherIfSome why → version.order ≡ order
          → Leads maps wanted order (HasEnded (outcome_of draft why))
      same_ends None o at = (version, shows, at)
      same_ends (Some fault) o at = other_ends fault o

      differs : (draft.order ≡ version.order → ⊥)
          → Leads maps wanted order (refusal (Skew draft.order version.order))
      differs not = (version, shows, refl, is, not)

      by : (b : Bool) → eqb draft.order version.order ≡ b
          → Leads maps wanted order (cond b (HasEnded (outcome_of draft why)) (refusal (Skew draft.order version.order)))
          → Leads maps wanted order (unless (cond (eqb draft.order version.order) None
          (Some (Skew draft.order version.order))) (HasEnded (outcome_of draft why)))
      by true at ends =
          subst (λ (b : Bool). Leads maps wanted order (unless (cond b None (Some (Skew draft.order version.order)))
          (HasEnded (outcome_of draft why)))) (sym at) ends
      by false at ends =
          subst (λ (b : Bool). Leads maps wanted order (unless (cond b None (Some (Skew draft.order version.order)))
          (HasEnded (outcome_of draft why)))) (sym at) ends

  again_leads : (draft : Draft) (why : Option XfrFault) (answer : Result ℕ ClientFault)
      → answer ≡ told (of_version order_in (map_check maps wanted.domain wanted.map)) → draft.order ≡ order
      → IsOtherIfSome why → Leads maps wanted order (by_again draft why answer)
  again_leads draft why answer says is other =
      elim (held_or_not (map_check maps wanted.domain wanted.map)) [
        | inl held ↦
            let tells : answer ≡ Ok held.0.order =
            says ∙ ap (λ (r : Result MapVersion YpStat). told (of_version order_in r)) held.1 in
            subst (λ (a : Result ℕ ClientFault). Leads maps wanted order (by_again draft why a)) (sym tells)
            (second_leads draft why held.0 held.1 is other)
        | inr none ↦
            let tells : answer ≡ Err (Yp none.0) =
            says ∙ ap (λ (r : Result MapVersion YpStat). told (of_version order_in r)) none.1 in
            subst (λ (a : Result ℕ ClientFault). Leads maps wanted order (by_again draft why a)) (sym tells)
            (other_ends (of_client (Yp none.0)) (client_is_other (Yp none.0)))
      ]

  pub leads : (caller : Peer) (xid : ℕ) (standing : WalkState) (mail : List ℕ)
      → Says maps caller wanted xid standing mail → Keeps order standing
      → Leads maps wanted order (state_after wanted xid standing mail)
  leads caller xid AsksOrder mail says is = absurd is
  leads caller xid (AsksMaster first) mail says is = master_leads first (master_of xid mail) is
  leads caller xid (AsksFirst draft) mail says is = first_leads draft (row_of xid mail) is
  leads caller xid (AsksNext draft key) mail says is = next_leads draft (row_of xid mail) is
  leads caller xid (AsksAgain draft why) mail says is = again_leads draft why (order_of xid mail) says is.0 is.1
  leads caller xid (HasEnded outcome) mail says is = absurd is

  -- it goes on, or has ended
  pub goes_or_ends : (standing : WalkState) → Leads maps wanted order standing
      → Keeps order standing ⊎ ((outcome : Result Draft XfrFault) × (standing ≡ HasEnded outcome)
      × Ends maps wanted order outcome)
  goes_or_ends (HasEnded outcome) is = inr (outcome, refl, is)
  goes_or_ends AsksOrder is = inl is
  goes_or_ends (AsksMaster first) is = inl is
  goes_or_ends (AsksFirst draft) is = inl is
  goes_or_ends (AsksNext draft key) is = inl is
  goes_or_ends (AsksAgain draft why) is = inl is

pub same_end : (one other : Result Draft XfrFault) → HasEnded one ≡ HasEnded other → one ≡ other
same_end one other is = cc

module _ (catalogue : Catalogue) (caller : Peer) where
  -- no mail is awaited behind the end
  pub rest_is_none : (mails : List SourceMail) (before : Log) (old new : Walking) (outcome : Result Draft XfrFault)
      → old.standing ≡ HasEnded outcome → GoesBy catalogue caller mails before old new → (mails ≡ []) × (new ≡ old)
  rest_is_none [] before old new outcome is goes = (refl, goes)
  rest_is_none (made ∷ mails) before old new outcome is goes = absurd (subst IsAsking is goes.0)

  pub front_of_last : (mails : List SourceMail) (before : Log) (old new : Walking) → GoesBy catalogue caller mails before old new
      → IsFront before (last_front before mails)
  front_of_last [] before old new goes = front_itself before
  front_of_last (made ∷ mails) before old new goes =
      front_then before made.front (last_front made.front mails) goes.1
      (front_of_last mails made.front (gone_on old made.mail) new goes.3)

  module _ (laws : Mails) (serves : FrontIsServed) (log : Log) where
    -- what the first of some mails says
    pub says_first : (made : SourceMail) (mails : List SourceMail) (before : Log) (old new : Walking)
        → IsSource catalogue old.wanted log → GoesBy catalogue caller (made ∷ mails) before old new
        → IsFront (last_front made.front mails) log → IsNumbered old.xid old.standing
        → Says (maps_on catalogue made.front) caller old.wanted old.xid old.standing made.mail
    says_first made mails before old new source goes ends numbered =
        let begins = front_then made.front (last_front made.front mails) log
        (front_of_last mails made.front (gone_on old made.mail) new goes.3) ends in
        (said laws (maps_on catalogue made.front) caller old.wanted old.xid
        (serves catalogue made.front log begins source.served) source.domain source.map old.standing made.mail goes.0
        numbered goes.2).0

    -- what is shown at the last mail
    pub last_ends : (order : ℕ) (mails : List SourceMail) (before : Log) (old new : Walking) (outcome : Result Draft XfrFault)
        → IsSource catalogue old.wanted log → GoesBy catalogue caller mails before old new
        → IsFront (last_front before mails) log → IsNumbered old.xid old.standing → Keeps order old.standing
        → new.standing ≡ HasEnded outcome
        → Ends (maps_on catalogue (last_front before mails)) old.wanted order outcome
    last_ends order [] before old new outcome source goes ends numbered keeps is =
        absurd (subst (λ (s : WalkState). Keeps order s)
        (ap (λ (w : Walking). w.standing) (sym goes) ∙ is) keeps)
    last_ends order (made ∷ mails) before old new outcome source goes ends numbered keeps is =
        let says = says_first made mails before old new source goes ends numbered in
        let next = gone_on old made.mail in
        let led = leads (maps_on catalogue made.front) old.wanted order caller old.xid old.standing made.mail says keeps in
        elim (goes_or_ends (maps_on catalogue made.front) old.wanted order next.standing led) [
          | inl on ↦
              last_ends order mails made.front next new outcome source goes.3 ends
              (next_is_numbered old.wanted old.xid old.standing made.mail goes.0 numbered) on is
          | inr over ↦
              let none = rest_is_none mails made.front next new over.0 over.1 goes.3 in
              let same : over.0 ≡ outcome =
              same_end over.0 outcome (sym over.1 ∙ ap (λ (w : Walking). w.standing) (sym none.1) ∙ is) in
              subst (λ (ms : List SourceMail). Ends (maps_on catalogue (last_front made.front ms)) old.wanted order outcome)
              (sym none.0)
              (subst (λ (o : Result Draft XfrFault). Ends (maps_on catalogue made.front) old.wanted order o) same over.2)
        ]

-- ---- the first ORDER

-- a version is shown then, whose order is kept, or it is refused
pub record Begins (maps : Maps) (wanted : Wanted) (next : Walking) : Type 0 where
  pub version : MapVersion
  pub shown : IsShown wanted version maps
  pub kept : Keeps version.order next.standing

age_is_other : (wanted : Wanted) (order : ℕ) → IsOtherIfSome (against_order wanted order)
age_is_other wanted order = by wanted.force wanted.shown
  where
    older : (shown : ℕ) (b : Bool) → IsOtherIfSome (cond b (Some (Age shown order)) None)
    older shown true = tt
    older shown false = tt

    by : (force : Bool) (shown : Option ℕ) → IsOtherIfSome (cond force None (against_age shown order))
    by true shown = tt
    by false None = tt
    by false (Some shown) = older shown _

order_or : (cause : Option XfrFault) (order : ℕ) → IsOtherIfSome cause
    → Keeps order (unless cause (AsksMaster order))
    ⊎ ((fault : XfrFault) × (unless cause (AsksMaster order) ≡ refusal fault) × IsOther fault)
order_or None order other = inl refl
order_or (Some fault) order other = inr (fault, refl, other)

pub first_order : (maps : Maps) (caller source : Peer) (wanted : Wanted) (mail : List ℕ)
    → Says maps caller wanted 1 AsksOrder mail
    → Begins maps wanted (gone_on (begun source wanted) mail)
    ⊎ ((fault : XfrFault) × ((gone_on (begun source wanted) mail).standing ≡ refusal fault) × IsOther fault)
first_order maps caller source wanted mail says =
    elim (held_or_not (map_check maps wanted.domain wanted.map)) [
      | inl held ↦
          let tells : order_of 1 mail ≡ Ok held.0.order =
          says ∙ ap (λ (r : Result MapVersion YpStat). told (of_version order_in r)) held.1 in
          let next : by_order wanted (order_of 1 mail) ≡ unless (against_order wanted held.0.order) (AsksMaster held.0.order) =
          ap (λ (a : Result ℕ ClientFault). by_order wanted a) tells in
          elim (order_or (against_order wanted held.0.order) held.0.order (age_is_other wanted held.0.order)) [
            | inl on ↦ inl (record {
              version = held.0;
              shown = held.1;
              kept = subst (λ (s : WalkState). Keeps held.0.order s) (sym next) on;
            })
            | inr over ↦ inr (over.0, next ∙ over.1, over.2)
          ]
      | inr none ↦
          let tells : order_of 1 mail ≡ Err (Yp none.0) =
          says ∙ ap (λ (r : Result MapVersion YpStat). told (of_version order_in r)) none.1 in
          inr (
            of_client (Yp none.0),
            ap (λ (a : Result ℕ ClientFault). by_order wanted a) tells,
            client_is_other (Yp none.0),
          )
    ]
