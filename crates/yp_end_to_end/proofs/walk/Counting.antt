-- The numbers of the calls of a walk.
use Rattle.std.proofs.Common.{◌≡◌, ℕ, ◌+◌, ◌<◌, ◌≤◌, Bool, true, false, cond, List, [], ◌∷◌, length, Option, Some, None}
use Rattle.std.proofs.Common.{Result, Ok, Err, refl, ap, arith, nat_le}
use Rattle.std.proofs.lemmas.List.{length-append}
use Rattle.std.specs.Prelude.{is_some, nat_lt}
use Rattle.yp_rpc.specs.Turns.{datagram_max}
use Rattle.yp_version.specs.Limits.{key_max, value_max, rows_max, body_max}
use Rattle.yp_version.specs.Rows.{Row, row_len, value_of}
use Rattle.yp_version.specs.Drafts.{Draft, draft_len, refused, with_row, with_new}
use Rattle.yp_version.specs.declared.builder.VersionFault.{VersionFault}
use Rattle.yp_version.specs.declared.builder.VersionFault.TheVariants.{KeyLong, ValueLong, TooManyRows, TooBig}
use Rattle.yp_client.specs.declared.fault.ClientFault.{ClientFault}
use Rattle.yp_client.specs.declared.fault.ClientFault.TheVariants.{Yp}
use Rattle.yp_messages.specs.declared.stat.YpStat.TheVariants.{Nomore, Nokey}
use Rattle.yp_client.specs.Results.{order_of, master_of, row_of}
use Rattle.yp_transfer.specs.declared.fault.XfrFault.{XfrFault}
use Rattle.yp_transfer.specs.declared.fault.XfrFault.TheVariants.{Xfrerr, Dbm}
use Rattle.yp_transfer.specs.Fetching.{Wanted, against_order, against_master, against_second}
use Rattle.yp_transfer.specs.walk.Standings.{WalkState, AsksOrder, AsksMaster, AsksFirst, AsksNext, AsksAgain, HasEnded}
use Rattle.yp_transfer.specs.walk.Standings.{IsAsking, refusal, unless, by_order, by_master, by_row, by_behind_key, by_first}
use Rattle.yp_transfer.specs.walk.Standings.{by_next, by_again, outcome_of, state_after, next_len}
use Rattle.yp_transfer.specs.walk.Schedules.{next_xid}
use Rattle.yp_end_to_end.proofs.walk.Telling.{IsNumbered, small}

-- ---- a row that is taken

tested : (a b c d : Bool) (row : Row)
    → cond a (Some (KeyLong (length row.0))) (cond b (Some (ValueLong (length row.1))) (cond c (Some TooManyRows)
    (cond d (Some TooBig) None))) ≡ None
    → (a ≡ false) × (c ≡ false)
tested true b c d row is = absurd cc
tested false true c d row is = absurd cc
tested false false true d row is = absurd cc
tested false false false d row is = (refl, refl)

-- it has a short key, and there was room for one
pub taken : (draft : Draft) (row : Row) → refused draft row ≡ None → value_of row.0 draft.rows ≡ None
    → (length row.0 ≤ key_max) × (length draft.rows < rows_max) × (with_row draft row ≡ with_new draft row)
taken draft row fits fresh = by (value_of row.0 draft.rows) fresh fits
  where
    by : (found : Option (List ℕ)) → found ≡ None
        → cond (nat_lt key_max (length row.0)) (Some (KeyLong (length row.0))) (cond (nat_lt value_max (length row.1))
        (Some (ValueLong (length row.1))) (cond (is_some found) None (cond (nat_le rows_max (length draft.rows))
        (Some TooManyRows) (cond (nat_lt body_max (draft_len draft + row_len row)) (Some TooBig) None)))) ≡ None
        → (length row.0 ≤ key_max) × (length draft.rows < rows_max)
        × (cond (is_some found) draft (with_new draft row) ≡ with_new draft row)
    by (Some value) is e = absurd cc
    by None is e =
        let tests = tested (nat_lt key_max (length row.0)) (nat_lt value_max (length row.1))
        (nat_le rows_max (length draft.rows)) (nat_lt body_max (draft_len draft + row_len row)) row e in
        (grind (arith, tests.0), grind (arith, tests.1), refl)

-- ---- one mail more

unless_numbered : (xid : ℕ) (cause : Option XfrFault) (standing : WalkState) → IsNumbered xid standing
    → IsNumbered xid (unless cause standing)
unless_numbered xid None standing is = is
unless_numbered xid (Some fault) standing is = 0

module _ (wanted : Wanted) (xid : ℕ) where
  order_numbered : (answer : Result ℕ ClientFault) → xid ≡ 2 → IsNumbered xid (by_order wanted answer)
  order_numbered (Ok order) is = unless_numbered xid (against_order wanted order) (AsksMaster order) is
  order_numbered (Err fault) is = 0

  master_numbered : (order : ℕ) (answer : Result (List ℕ) ClientFault) → xid ≡ 3
      → IsNumbered xid (by_master order answer)
  master_numbered order (Ok master) is =
      unless_numbered xid (against_master master)
      (AsksFirst (record { order = order; master = master; rows = [] })) (is, refl)
  master_numbered order (Err fault) is = 0

  key_numbered : (draft : Draft) (key : List ℕ) → IsNumbered xid (AsksNext draft key)
      → IsNumbered xid (by_behind_key wanted draft key)
  key_numbered draft key is = by (nat_lt datagram_max (next_len wanted key))
    where
      by : (long : Bool) → IsNumbered xid (cond long (refusal Dbm) (AsksNext draft key))
      by true = 0
      by false = is

  row_numbered : (draft : Draft) (row : Row) → xid ≡ 4 + length draft.rows → length draft.rows ≤ rows_max
      → IsNumbered xid (by_row wanted draft row)
  row_numbered draft row is few = by (refused draft row) (value_of row.0 draft.rows) refl refl
    where
      by : (why : Option VersionFault) (found : Option (List ℕ)) → refused draft row ≡ why
          → value_of row.0 draft.rows ≡ found
          → IsNumbered xid (cond (is_some why) (refusal Dbm) (cond (is_some found)
          (AsksAgain draft (Some (Xfrerr 0))) (by_behind_key wanted (with_row draft row) row.0)))
      by (Some fault) found fits fresh = 0
      by None (Some value) fits fresh = omega (arith, is, few)
      by None None fits fresh =
          let one = taken draft row fits fresh in
          let longer : length (with_row draft row).rows ≡ length draft.rows + 1 =
          grind (arith, ap (λ (d : Draft). length d.rows) one.2, length-append draft.rows (row ∷ [])) in
          key_numbered (with_row draft row) row.0 (
            omega (arith, is, longer),
            omega (arith, one.1, longer),
            one.0,
          )

  first_numbered : (draft : Draft) (answer : Result (List ℕ × List ℕ) ClientFault) → xid ≡ 4 + length draft.rows
      → length draft.rows ≤ rows_max → IsNumbered xid (by_first wanted draft answer)
  first_numbered draft (Ok found) is few = row_numbered draft (found.1, found.0) is few
  first_numbered draft (Err (Yp Nomore)) is few = omega (arith, is, few)
  first_numbered draft (Err fault) is few = 0

  next_numbered : (draft : Draft) (answer : Result (List ℕ × List ℕ) ClientFault) → xid ≡ 4 + length draft.rows
      → length draft.rows ≤ rows_max → IsNumbered xid (by_next wanted draft answer)
  next_numbered draft (Ok found) is few = first_numbered draft (Ok found) is few
  next_numbered draft (Err (Yp Nokey)) is few = omega (arith, is, few)
  next_numbered draft (Err fault) is few = first_numbered draft (Err fault) is few

  again_numbered : (draft : Draft) (why : Option XfrFault) (answer : Result ℕ ClientFault)
      → IsNumbered xid (by_again draft why answer)
  again_numbered draft why (Ok order) =
      unless_numbered xid (against_second draft.order order) (HasEnded (outcome_of draft why)) 0
  again_numbered draft why (Err fault) = 0

-- the call behind one has the number behind its number
pub next_is : (xid : ℕ) (standing : WalkState) → IsAsking standing → IsNumbered xid standing → next_xid xid ≡ xid + 1
next_is xid standing asking is = omega (arith, small xid standing asking is)

pub next_is_numbered : (wanted : Wanted) (xid : ℕ) (standing : WalkState) (mail : List ℕ) → IsAsking standing
    → IsNumbered xid standing → IsNumbered (next_xid xid) (state_after wanted xid standing mail)
next_is_numbered wanted xid AsksOrder mail asking is =
    order_numbered wanted (next_xid xid) (order_of xid mail) (omega (arith, is))
next_is_numbered wanted xid (AsksMaster order) mail asking is =
    master_numbered wanted (next_xid xid) order (master_of xid mail) (omega (arith, is))
next_is_numbered wanted xid (AsksFirst draft) mail asking is =
    first_numbered wanted (next_xid xid) draft (row_of xid mail) (omega (arith, is.0, is.1)) (omega (arith, is.1))
next_is_numbered wanted xid (AsksNext draft key) mail asking is =
    next_numbered wanted (next_xid xid) draft (row_of xid mail) (omega (arith, is.0, is.1)) is.1
next_is_numbered wanted xid (AsksAgain draft why) mail asking is =
    again_numbered wanted (next_xid xid) draft why (order_of xid mail)
next_is_numbered wanted xid (HasEnded outcome) mail asking is = absurd asking
