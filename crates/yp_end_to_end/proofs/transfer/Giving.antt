-- A map that doesn't change while it is fetched.
use Rattle.std.proofs.Common.{◌≡◌, ℕ, ◌<◌, ◌≤◌, ◌⊎◌, Bool, true, false, cond, List, [], ◌∷◌, length, Some}
use Rattle.std.proofs.Common.{None, Result, Ok, Err, refl, sym, ap, ◌∙◌, subst, arith, eq-eqb}
use Rattle.std.specs.Prelude.{IsOk, IfOk, ⊤}
use Rattle.yp_io.specs.declared.stream.Peer.{Peer}
use Rattle.yp_rpc.specs.inside.Laws.{IsWord}
use Rattle.yp_messages.specs.declared.stat.YpStat.{YpStat}
use Rattle.yp_messages.specs.Numbers.{name_max}
use Rattle.yp_version.specs.Drafts.{Draft, empty_draft}
use Rattle.yp_version.specs.Versions.{MapVersion, IsVersion, unmarked}
use Rattle.yp_version.specs.inside.Laws.{RisingStays}
use Rattle.yp_board.specs.Catalogues.{is_name}
use Rattle.yp_answer.specs.Maps.{Maps, map_check, row_check}
use Rattle.yp_answer.specs.Served.{AreServed}
use Rattle.yp_client.specs.declared.fault.ClientFault.{ClientFault}
use Rattle.yp_client.specs.Limits.{reply_max, all_max}
use Rattle.yp_client.specs.Asked.{order_call, master_call, all_call}
use Rattle.yp_client.specs.Results.{order_of, master_of}
use Rattle.yp_client.specs.All.{AllSaid, all_said}
use Rattle.yp_end_to_end.specs.exchange.Told.{told, of_version, order_in, master_in}
use Rattle.yp_end_to_end.specs.inside.exchange.Told.{all_told}
use Rattle.yp_end_to_end.specs.inside.exchange.Served.{ReplyTells}
use Rattle.yp_end_to_end.specs.inside.exchange.Laws.{OrderTells, MasterTells, AllTells, RoomForVersion}
use Rattle.yp_transfer.specs.declared.fault.XfrFault.TheVariants.{Skew, Dbm, Badargs}
use Rattle.yp_transfer.specs.Fetching.{Wanted, FetchOutcome, InMemory, Gives, AsksAgain, AsksRows, AsksMaster}
use Rattle.yp_transfer.specs.Fetching.{against_names, against_order, against_master, against_second}
use Rattle.yp_transfer.specs.Fetched.{StreamPlace, place_of, draft_of, rows_of, by_bytes, Fetched}
use Rattle.yp_end_to_end.specs.transfer.Replies.{next_xid}
use Rattle.yp_end_to_end.specs.inside.transfer.Replies.{Moments, AtEach, GivesSecond, GivesAll, GivesMaster, GivesFetch}
use Rattle.yp_end_to_end.specs.transfer.Replies.{unsecured, IsShown}
use Rattle.yp_end_to_end.proofs.transfer.Showing.{is_held, held_sound, rows_held}
use Rattle.yp_end_to_end.proofs.transfer.Hearing.{Records}
use Rattle.yp_end_to_end.proofs.transfer.Going.{goes, goes_by, goes_in_memory, stepped}

-- what the replies to the calls say
pub record Replies : Type 0 where
  pub records : Records
  pub order : OrderTells
  pub master : MasterTells
  pub all : AllTells
  pub room : RoomForVersion
  pub rising : RisingStays

pub next_is_word : (xid : ℕ) → IsWord (next_xid xid)
next_is_word xid = omega arith

pub is_ok : {V E : Type 0} (result : Result V E) (value : V) → result ≡ Ok value → IsOk result
is_ok (Ok v) value is = refl
is_ok (Err e) value is = absurd cc

-- ---- what stands against it

pub no_bad_names : (maps : Maps) (wanted : Wanted) (version : MapVersion)
    → map_check maps wanted.domain wanted.map ≡ Ok version → against_names wanted ≡ None
no_bad_names maps wanted version is =
    ap (λ (b : Bool). cond b (Some Badargs) None) (is_held maps wanted.domain wanted.map version is).names

some_bytes : (bytes : List ℕ) → (bytes ≡ [] → ⊥) → 0 < length bytes
some_bytes [] some = absurd (some refl)
some_bytes (byte ∷ bytes) some = omega arith

pub has_name : (master : List ℕ) → (master ≡ [] → ⊥) → length master ≤ 64 → against_master master ≡ None
has_name master some few =
    let is : is_name master ≡ true = grind (arith, some_bytes master some, few) in
    ap (λ (b : Bool). cond b None (Some Dbm)) is

pub same_second : (first second : ℕ) → first ≡ second → against_second first second ≡ None
same_second first second same =
    ap (λ (b : Bool). cond b None (Some (Skew first second))) (eq-eqb first second same)

-- ---- the replies

-- ALL says its rows, behind those of a draft
pub rows_tell : (draft : Draft) (maps : Maps) (peer : Peer) (call : List ℕ) (xid : ℕ) (expected : AllSaid)
    → ReplyTells maps peer all_max call (all_said draft xid) expected
    → ReplyTells maps peer all_max call (rows_of draft xid) (draft_of expected.draft expected.end)
rows_tell draft maps peer call xid expected tells = record {
  bytes = tells.bytes;
  replied = tells.replied;
  within = tells.within;
  says = ap (λ (said : AllSaid). draft_of said.draft said.end) tells.says;
}

module _ (laws : Replies) (moments : Moments) (peer : Peer) (wanted : Wanted) (source : MapVersion)
    (served : AtEach AreServed moments) (domain_fits : length wanted.domain ≤ name_max)
    (map_fits : length wanted.map ≤ name_max) (shown : AtEach (IsShown wanted source) moments)
    (may : (source.secure ≡ false) ⊎ (peer.port < 1024)) where
  sound : IsVersion source
  sound = held_sound moments.first wanted.domain wanted.map source served.first shown.first

  order_told : (maps : Maps) (xid : ℕ) → AreServed maps → IsWord xid → IsShown wanted source maps
      → ReplyTells maps peer reply_max (order_call wanted.domain wanted.map xid) (order_of xid) (Ok source.order)
  order_told maps xid serves word shows =
      let expected : Result MapVersion YpStat → Result ℕ ClientFault = λ held. told (of_version order_in held) in
      subst (λ (r : Result MapVersion YpStat). ReplyTells maps peer reply_max
      (order_call wanted.domain wanted.map xid) (order_of xid) (expected r)) shows
      (laws.order maps peer xid wanted.domain serves word domain_fits wanted.map map_fits)

  master_told : (maps : Maps) (xid : ℕ) → AreServed maps → IsWord xid → IsShown wanted source maps
      → ReplyTells maps peer reply_max (master_call wanted.domain wanted.map xid) (master_of xid) (Ok source.master)
  master_told maps xid serves word shows =
      let expected : Result MapVersion YpStat → Result (List ℕ) ClientFault = λ held. told (of_version master_in held) in
      subst (λ (r : Result MapVersion YpStat). ReplyTells maps peer reply_max
      (master_call wanted.domain wanted.map xid) (master_of xid) (expected r)) shows
      (laws.master maps peer xid wanted.domain serves word domain_fits wanted.map map_fits)

  rows_told : (maps : Maps) (xid : ℕ) → AreServed maps → IsWord xid → IsShown wanted source maps
      → ReplyTells maps peer all_max (all_call wanted.domain wanted.map xid)
      (rows_of (empty_draft source.order source.master) xid)
      (Ok (record { order = source.order; master = source.master; rows = source.rows }))
  rows_told maps xid serves word shows =
      let draft = empty_draft source.order source.master in
      let rows : row_check maps peer.port wanted.domain wanted.map ≡ Ok source =
      rows_held maps peer.port wanted.domain wanted.map source may shows in
      let fits : IfOk (row_check maps peer.port wanted.domain wanted.map)
      (λ version. length source.master ≤ length version.master) =
      subst (λ (r : Result MapVersion YpStat). IfOk r (λ version. length source.master ≤ length version.master))
      (sym rows) (omega arith) in
      let tells = laws.all maps peer xid wanted.domain serves word domain_fits wanted.map map_fits draft
      (laws.room maps peer.port wanted.domain wanted.map source.order source.master serves fits) in
      subst (λ (r : Result MapVersion YpStat). ReplyTells maps peer all_max (all_call wanted.domain wanted.map xid)
      (rows_of draft xid) (draft_of (all_told draft r).draft (all_told draft r).end)) rows
      (rows_tell draft maps peer (all_call wanted.domain wanted.map xid) xid
      (all_told draft (row_check maps peer.port wanted.domain wanted.map)) tells)

  -- ---- in turn, from the last on

  module _ (outcome : FetchOutcome) (last : StreamPlace) where
    again : (place : StreamPlace) (xid : ℕ) → place.xid ≡ xid → IsWord xid
        → GivesSecond peer wanted.domain wanted.map moments xid place.bytes
        → AsksAgain by_bytes (record { order = source.order; master = source.master; rows = source.rows })
        outcome place last
        → outcome ≡ Ok (unsecured source)
    again place xid at word gives asks =
        let step = stepped laws.records reply_max (order_call wanted.domain wanted.map) order_of moments.fourth peer
        (λ rest. ⊤) xid place asks.middle asks.answer at gives asks.answered (Ok source.order)
        (order_told moments.fourth xid served.fourth word shown.fourth) in
        let draft : Draft = record { order = source.order; master = source.master; rows = source.rows } in
        let more = goes_by _ _ outcome place last asks source.order step.answer_is in
        let gave = goes_in_memory (Gives by_bytes draft) outcome asks.middle last
        (goes (against_second source.order source.order) (InMemory by_bytes (Gives by_bytes draft)) outcome asks.middle
        last (same_second source.order source.order refl) more) in
        gave.0 ∙ ap (λ rows. Ok (unmarked source.order source.master rows)) (laws.rising source.rows sound.rising)

    rows : (place : StreamPlace) (xid : ℕ) → place.xid ≡ xid → IsWord xid
        → GivesAll peer wanted.domain wanted.map moments xid place.bytes
        → AsksRows by_bytes (empty_draft source.order source.master) outcome place last → outcome ≡ Ok (unsecured source)
    rows place xid at word gives asks =
        let step = stepped laws.records all_max (all_call wanted.domain wanted.map)
        (rows_of (empty_draft source.order source.master)) moments.third peer _ xid place asks.middle asks.answer at gives
        asks.answered _ (rows_told moments.third xid served.third word shown.third) in
        let more = goes_by _ _ outcome place last asks _ step.answer_is in
        let rows : row_check moments.third peer.port wanted.domain wanted.map ≡ Ok source =
        rows_held moments.third peer.port wanted.domain wanted.map source may shown.third in
        again asks.middle (next_xid xid) step.xid_is (next_is_word xid) (step.behind (is_ok _ source rows)) more

    master : (source.master ≡ [] → ⊥) → (place : StreamPlace) (xid : ℕ) → place.xid ≡ xid → IsWord xid
        → GivesMaster peer wanted.domain wanted.map moments xid place.bytes
        → AsksMaster by_bytes source.order outcome place last → outcome ≡ Ok (unsecured source)
    master some place xid at word gives asks =
        let step = stepped laws.records reply_max (master_call wanted.domain wanted.map) master_of moments.second peer _
        xid place asks.middle asks.answer at gives asks.answered (Ok source.master)
        (master_told moments.second xid served.second word shown.second) in
        let more = goes_by _ _ outcome place last asks source.master step.answer_is in
        let asked = goes_in_memory (AsksRows by_bytes (empty_draft source.order source.master)) outcome asks.middle last
        (goes (against_master source.master) (InMemory by_bytes (AsksRows by_bytes (empty_draft source.order source.master)))
        outcome asks.middle last (has_name source.master some sound.master) more) in
        rows asks.middle (next_xid xid) step.xid_is (next_is_word xid) (step.behind (is_ok _ source shown.second)) asked

  pub is_given : (xid at : ℕ) (stream : List ℕ) (outcome : FetchOutcome) → IsWord xid → (source.master ≡ [] → ⊥)
      → against_order wanted source.order ≡ None
      → GivesFetch peer wanted.domain wanted.map moments xid stream
      → Fetched wanted (place_of xid at stream) outcome → outcome ≡ Ok (unsecured source)
  is_given xid at stream outcome word some newer gives fetched =
      let first = place_of xid at stream in
      let asks = goes (against_names wanted) _ outcome first fetched.0
      (no_bad_names moments.first wanted source shown.first) fetched.1 in
      let step = stepped laws.records reply_max (order_call wanted.domain wanted.map) order_of moments.first peer _ xid
      first asks.middle asks.answer refl gives asks.answered (Ok source.order)
      (order_told moments.first xid served.first word shown.first) in
      let more = goes_by _ _ outcome first fetched.0 asks source.order step.answer_is in
      let asked = goes (against_order wanted source.order) (AsksMaster by_bytes source.order) outcome asks.middle
      fetched.0 newer more in
      master outcome fetched.0 some asks.middle (next_xid xid) step.xid_is (next_is_word xid)
      (step.behind (is_ok _ source shown.first)) asked
