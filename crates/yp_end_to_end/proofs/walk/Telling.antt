-- The one reply to the call that is outstanding, and what it says.
use Rattle.std.proofs.Common.{◌≡◌, ℕ, ◌+◌, ◌≤◌, List, length, Ok, sym, subst, ◌∙◌, arith}
use Rattle.yp_io.specs.declared.stream.Peer.{Peer}
use Rattle.yp_xdr.specs.Kind.{U32, Sequence}
use Rattle.yp_xdr.specs.Reading.{Remaining, reading}
use Rattle.yp_rpc.specs.inside.Laws.{IsWord}
use Rattle.yp_messages.specs.Numbers.{name_max}
use Rattle.yp_version.specs.Limits.{key_max, rows_max}
use Rattle.yp_answer.specs.declared.procedure.Path.TheVariants.{Datagram}
use Rattle.yp_answer.specs.Maps.{Maps}
use Rattle.yp_answer.specs.Served.{AreServed}
use Rattle.yp_answer.specs.Reply.{Bytes, reply}
use Rattle.yp_client.specs.Results.{row_of, master_of, order_of}
use Rattle.yp_end_to_end.specs.exchange.Told.{rows_tell, map_tells, master_in, order_in}
use Rattle.yp_end_to_end.specs.inside.exchange.Mail.{first_mailed, next_mailed}
use Rattle.yp_end_to_end.specs.inside.exchange.Mail.{OrderMailTells, MasterMailTells, FirstMailTells, NextMailTells}
use Rattle.yp_transfer.specs.Fetching.{Wanted}
use Rattle.yp_transfer.specs.walk.Standings.{WalkState, AsksOrder, AsksMaster, AsksFirst, AsksNext, AsksAgain, HasEnded}
use Rattle.yp_transfer.specs.walk.Standings.{IsAsking, asked_by}

-- what the replies in datagrams say
pub record Mails : Type 0 where
  pub order : OrderMailTells
  pub master : MasterMailTells
  pub first : FirstMailTells
  pub next : NextMailTells

-- what a mail says, by what was asked
abbrev pub Says : Maps → Peer → Wanted → ℕ → WalkState → List ℕ → Type 0
Says maps caller wanted xid AsksOrder mail = order_of xid mail ≡ map_tells order_in maps wanted.domain wanted.map
Says maps caller wanted xid (AsksMaster order) mail =
    master_of xid mail ≡ map_tells master_in maps wanted.domain wanted.map
Says maps caller wanted xid (AsksFirst draft) mail =
    row_of xid mail ≡ rows_tell first_mailed maps caller wanted.domain wanted.map
Says maps caller wanted xid (AsksNext draft key) mail =
    row_of xid mail ≡ rows_tell (next_mailed key) maps caller wanted.domain wanted.map
Says maps caller wanted xid (AsksAgain draft why) mail =
    order_of xid mail ≡ map_tells order_in maps wanted.domain wanted.map
Says maps caller wanted xid (HasEnded outcome) mail = ⊥

-- The number of the outstanding call counts the mails so far, of which there are few.
abbrev pub IsNumbered : ℕ → WalkState → Type 0
IsNumbered xid AsksOrder = xid ≡ 1
IsNumbered xid (AsksMaster order) = xid ≡ 2
IsNumbered xid (AsksFirst draft) = (xid ≡ 3) × (length draft.rows ≡ 0)
IsNumbered xid (AsksNext draft key) =
    (xid ≡ 3 + length draft.rows) × (length draft.rows ≤ rows_max) × (length key ≤ key_max)
IsNumbered xid (AsksAgain draft why) = xid ≤ 4 + rows_max
IsNumbered xid (HasEnded outcome) = ℕ

pub small : (xid : ℕ) (standing : WalkState) → IsAsking standing → IsNumbered xid standing → xid ≤ 4 + rows_max
small xid AsksOrder asking is = omega (arith, is)
small xid (AsksMaster order) asking is = omega (arith, is)
small xid (AsksFirst draft) asking is = omega (arith, is.0)
small xid (AsksNext draft key) asking is = omega (arith, is.0, is.1)
small xid (AsksAgain draft why) asking is = is
small xid (HasEnded outcome) asking is = absurd asking

-- a mail begins with a number, and 1
abbrev pub Begins : ℕ → List ℕ → Type 0
Begins xid mail =
    (rest : Remaining) × (reading (Sequence U32 U32) (record { at = 0; bytes = mail }) ≡ Ok ((xid, 1), rest))

-- the reply to the outstanding call
pub record Answer (maps : Maps) (caller : Peer) (wanted : Wanted) (xid : ℕ) (standing : WalkState) : Type 0 where
  pub mail : List ℕ
  pub replied : reply Datagram maps caller (asked_by wanted xid standing) ≡ Bytes mail
  pub begins : Begins xid mail
  pub says : Says maps caller wanted xid standing mail

module _ (laws : Mails) (maps : Maps) (caller : Peer) (wanted : Wanted) (xid : ℕ) (served : AreServed maps)
    (domain : length wanted.domain ≤ name_max) (map : length wanted.map ≤ name_max) where
  by_word : IsWord xid → (standing : WalkState) → IsAsking standing → IsNumbered xid standing
      → Answer maps caller wanted xid standing
  by_word word AsksOrder asking is =
      let tells = laws.order maps caller xid wanted.domain served word domain wanted.map map in
      record { mail = tells.bytes; replied = tells.replied; begins = (tells.rest, tells.begins); says = tells.says }
  by_word word (AsksMaster order) asking is =
      let tells = laws.master maps caller xid wanted.domain served word domain wanted.map map in
      record { mail = tells.bytes; replied = tells.replied; begins = (tells.rest, tells.begins); says = tells.says }
  by_word word (AsksFirst draft) asking is =
      let tells = laws.first maps caller xid wanted.domain served word domain wanted.map map in
      record { mail = tells.bytes; replied = tells.replied; begins = (tells.rest, tells.begins); says = tells.says }
  by_word word (AsksNext draft key) asking is =
      let tells = laws.next maps caller xid wanted.domain served word domain wanted.map map key is.2 in
      record { mail = tells.bytes; replied = tells.replied; begins = (tells.rest, tells.begins); says = tells.says }
  by_word word (AsksAgain draft why) asking is =
      let tells = laws.order maps caller xid wanted.domain served word domain wanted.map map in
      record { mail = tells.bytes; replied = tells.replied; begins = (tells.rest, tells.begins); says = tells.says }
  by_word word (HasEnded outcome) asking is = absurd asking

  pub answer : (standing : WalkState) → IsAsking standing → IsNumbered xid standing
      → Answer maps caller wanted xid standing
  answer standing asking is = by_word (omega (arith, small xid standing asking is)) standing asking is

  -- a mail that is that reply says so
  pub said : (standing : WalkState) (mail : List ℕ) → IsAsking standing → IsNumbered xid standing
      → reply Datagram maps caller (asked_by wanted xid standing) ≡ Bytes mail
      → Says maps caller wanted xid standing mail × Begins xid mail
  said standing mail asking is replied =
      let one = answer standing asking is in
      let same : one.mail ≡ mail = (let both : Bytes one.mail ≡ Bytes mail = sym one.replied ∙ replied in cc) in (
        subst (λ (m : List ℕ). Says maps caller wanted xid standing m) same one.says,
        subst (λ (m : List ℕ). Begins xid m) same one.begins,
      )
