-- A map that is fetched while versions are shown: it is the one that was shown throughout.
use Rattle.std.proofs.Common.{◌≡◌, ℕ, zero, suc, ◌+◌, ◌≤◌, ◌⊎◌, Bool, true, false, cond, List, [], length, Option, Some, None}
use Rattle.std.proofs.Common.{Result, Ok, Err, refl, sym, ap, ◌∙◌, subst, arith, inl, inr, eqb}
use Rattle.std.specs.Prelude.{IfOk, is_some, ⊤}
use Rattle.std.proofs.lemmas.List.{append-nil}
use Rattle.std.proofs.lemmas.Bool.Decides.{eqb_tells}
use Rattle.yp_io.specs.declared.stream.Peer.{Peer}
use Rattle.yp_xdr.specs.Reading.{Remaining}
use Rattle.yp_rpc.specs.inside.Laws.{IsWord}
use Rattle.yp_messages.specs.Numbers.{name_max}
use Rattle.yp_messages.specs.declared.stat.YpStat.{YpStat}
use Rattle.yp_version.specs.declared.builder.VersionFault.{VersionFault}
use Rattle.yp_version.specs.Rows.{listed, rows_len, value_of}
use Rattle.yp_version.specs.Limits.{body_max}
use Rattle.yp_version.specs.Drafts.{Draft, draft_len, refused, with_row, empty_draft}
use Rattle.yp_version.specs.Versions.{MapVersion, unmarked}
use Rattle.yp_board.specs.Catalogues.{Catalogue}
use Rattle.yp_board.specs.Logs.{Log}
use Rattle.yp_board.specs.Views.{IsFront}
use Rattle.yp_answer.specs.Maps.{Maps, map_check, row_check}
use Rattle.yp_answer.specs.Served.{AreServed, maps_on}
use Rattle.yp_client.specs.declared.fault.ClientFault.{ClientFault}
use Rattle.yp_client.specs.Limits.{reply_max, all_max}
use Rattle.yp_client.specs.Asked.{order_call, master_call, all_call}
use Rattle.yp_client.specs.Results.{order_of, master_of, results_of}
use Rattle.yp_client.specs.All.{AllSaid, ItemRead, by_item, by_refusal, filled, filled_by, all_said, all_item_at}
use Rattle.yp_end_to_end.specs.exchange.Told.{told, of_version, order_in, master_in}
use Rattle.yp_end_to_end.specs.inside.exchange.Told.{all_told}
use Rattle.yp_end_to_end.specs.inside.exchange.Served.{DraftHasRoom}
use Rattle.yp_end_to_end.specs.inside.exchange.Answered.{GivesReply}
use Rattle.yp_transfer.specs.Fetching.{Wanted, FetchOutcome, InMemory, Gives, AsksRows, AsksMaster}
use Rattle.yp_transfer.specs.Fetching.{against_names, against_order, against_master, against_second}
use Rattle.yp_transfer.specs.Fetched.{StreamPlace, place_of, ReadsReply, draft_of, rows_of, by_bytes, Fetched}
use Rattle.yp_end_to_end.specs.transfer.Replies.{next_xid}
use Rattle.yp_end_to_end.specs.inside.transfer.Replies.{Moments, AtEach, GivesFetch}
use Rattle.yp_end_to_end.specs.transfer.Replies.{unsecured, IsShown}
use Rattle.yp_end_to_end.specs.inside.transfer.Laws.{Fronts, moments_on}
use Rattle.yp_end_to_end.proofs.transfer.Showing.{held_sound, rows_of_held, served_before, front_then}
use Rattle.yp_end_to_end.proofs.transfer.Between.{shown_between}
use Rattle.yp_end_to_end.proofs.transfer.Going.{goes_in_memory, unless_ok, asked_ok, passed, stepped}
use Rattle.yp_end_to_end.proofs.transfer.Giving.{Replies, next_is_word, is_ok, rows_tell}

-- ---- what the answers tell

order_held : (held : Result MapVersion YpStat) (order : ℕ) → Ok order ≡ told (of_version order_in held)
    → (version : MapVersion) × (held ≡ Ok version) × (version.order ≡ order)
order_held (Ok version) order is = let same : order ≡ version.order = cc in (version, refl, sym same)
order_held (Err stat) order is = absurd cc

master_held : (held : Result MapVersion YpStat) (master : List ℕ) → Ok master ≡ told (of_version master_in held)
    → (version : MapVersion) × (held ≡ Ok version) × (version.master ≡ master)
master_held (Ok version) master is = let same : master ≡ version.master = cc in (version, refl, sym same)
master_held (Err stat) master is = absurd cc

held_or_not : (held : Result MapVersion YpStat)
    → ((version : MapVersion) × (held ≡ Ok version)) ⊎ ((stat : YpStat) × (held ≡ Err stat))
held_or_not (Ok version) = inl (version, refl)
held_or_not (Err stat) = inr (stat, refl)

same_held : (held : Result MapVersion YpStat) (a b : MapVersion) → held ≡ Ok a → held ≡ Ok b → a ≡ b
same_held held a b one other = let both : Ok a ≡ Ok b = sym one ∙ other in cc

same_given : (a b : MapVersion) → (let one : FetchOutcome = Ok a in one) ≡ Ok b → a ≡ b
same_given a b is = cc

no_skew : (first second : ℕ) → against_second first second ≡ None → first ≡ second
no_skew first second none =
    elim (eqb_tells first second) [
      | inl same ↦ same.1
      | inr differ ↦ absurd (let e : eqb first second ≡ false = differ.0 in cc)
    ]

-- ---- rows that are pushed keep the order of a draft

row_keeps : (b : Bool) (draft other : Draft) → other.order ≡ draft.order → (cond b draft other).order ≡ draft.order
row_keeps true draft other same = refl
row_keeps false draft other same = same

refusal_keeps : (why : Option VersionFault) (draft : Draft) (rows : ℕ) (others : AllSaid)
    → others.draft.order ≡ draft.order → (by_refusal why draft rows others).draft.order ≡ draft.order
refusal_keeps None draft rows others same = same
refusal_keeps (Some fault) draft rows others same = refl

item_keeps : (others : Draft → ℕ → Remaining → AllSaid) (draft : Draft) (rows : ℕ)
    → ((d : Draft) (n : ℕ) (left : Remaining) → (others d n left).draft.order ≡ d.order)
    → (item : ItemRead) → (by_item others draft rows item).draft.order ≡ draft.order
item_keeps others draft rows keeps (Err fault) = refl
item_keeps others draft rows keeps (Ok (None, left)) = refl
item_keeps others draft rows keeps (Ok (Some row, left)) =
    refusal_keeps (refused draft row) draft rows (others (with_row draft row) (rows + 1) left)
    (keeps (with_row draft row) (rows + 1) left
    ∙ row_keeps (is_some (value_of row.0 draft.rows)) draft _ refl)

filled_keeps : (n : ℕ) (draft : Draft) (rows : ℕ) (left : Remaining) → (filled n draft rows left).draft.order ≡ draft.order
unfolding filled
filled_keeps zero draft rows left = refl
filled_keeps (suc n) draft rows left = item_keeps (filled n) draft rows (filled_keeps n) (all_item_at left)

results_keep : (draft : Draft) (results : Result Remaining ClientFault) → (filled_by draft results).draft.order ≡ draft.order
results_keep draft (Ok left) = filled_keeps (length left.bytes) draft 0 left
results_keep draft (Err fault) = refl

said_keeps : (draft : Draft) (xid : ℕ) (reply : List ℕ) → (all_said draft xid reply).draft.order ≡ draft.order
unfolding all_said
said_keeps draft xid reply = results_keep draft (results_of xid reply)

draft_is : (said : AllSaid) (draft : Draft) → draft_of said.draft said.end ≡ Ok draft → said.draft ≡ draft
draft_is said draft is = by said.end is
  where
    by : (end : Result (Unit {0}) ClientFault) → draft_of said.draft end ≡ Ok draft → said.draft ≡ draft
    by (Ok done) e = cc
    by (Err fault) e = absurd cc

read_keeps : (draft value : Draft) (old new : StreamPlace) → ReadsReply all_max (rows_of draft) (Ok value) old new
    → value.order ≡ draft.order
read_keeps draft value old new (inl read) =
    let said = all_said draft old.xid read.reply in
    ap (λ (d : Draft). d.order) (sym (draft_is said value read.says)) ∙ said_keeps draft old.xid read.reply
read_keeps draft value old new (inr none) = elim none.0 [
  | inl torn ↦ absurd (let is = torn.1 in cc)
  | inr long ↦ absurd (let is = long.1 in cc)
]

-- ---- in turn

module _ (laws : Replies) (catalogue : Catalogue) (fronts : Fronts) (peer : Peer) (wanted : Wanted)
    (version : MapVersion) (served : AreServed (maps_on catalogue fronts.log))
    (domain_fits : length wanted.domain ≤ name_max) (map_fits : length wanted.map ≤ name_max) where
  at : Log → Maps
  at log = maps_on catalogue log

  moments : Moments
  moments = moments_on catalogue fronts

  third_to_log : IsFront fronts.third fronts.log
  third_to_log = front_then fronts.third fronts.fourth fronts.log fronts.goes_on fronts.ends

  second_to_log : IsFront fronts.second fronts.log
  second_to_log = front_then fronts.second fronts.third fronts.log fronts.grows third_to_log

  first_to_log : IsFront fronts.first fronts.log
  first_to_log = front_then fronts.first fronts.second fronts.log fronts.begins second_to_log

  -- what is shown at the first reply and, with the same order, at the last one is shown between them, too
  record Throughout (source : MapVersion) : Type 0 where
    pub second : map_check (maps_on catalogue fronts.second) wanted.domain wanted.map ≡ Ok source
    pub third : map_check (maps_on catalogue fronts.third) wanted.domain wanted.map ≡ Ok source
    pub fourth : map_check (maps_on catalogue fronts.fourth) wanted.domain wanted.map ≡ Ok source

  throughout : (source other : MapVersion)
      → map_check (maps_on catalogue fronts.first) wanted.domain wanted.map ≡ Ok source
      → map_check (maps_on catalogue fronts.fourth) wanted.domain wanted.map ≡ Ok other → source.order ≡ other.order
      → Throughout source
  throughout source other held1 held4 same =
      let here : (log : Log) → IsFront fronts.first log → IsFront log fronts.fourth
      → map_check (maps_on catalogue log) wanted.domain wanted.map ≡ Ok source =
      λ log begins ends. shown_between catalogue fronts.first log fronts.fourth fronts.log wanted.domain wanted.map source
      other fronts.rises begins ends fronts.ends held1 held4 same in
      let second_to_fourth = front_then fronts.second fronts.third fronts.fourth fronts.grows fronts.goes_on in
      record {
        second = here fronts.second fronts.begins second_to_fourth;
        third = here fronts.third (front_then fronts.first fronts.second fronts.third fronts.begins fronts.grows)
            fronts.goes_on;
        fourth = here fronts.fourth (front_then fronts.first fronts.second fronts.fourth fronts.begins second_to_fourth)
            ([], sym (append-nil fronts.fourth));
      }

  -- where rows were read, they are shown to this caller
  rows_are_shown : (order : ℕ) (name : List ℕ) (value : Draft) (xid : ℕ) (old new : StreamPlace) (P : List ℕ → Type 0)
      → IsWord xid → old.xid ≡ xid
      → GivesReply (maps_on catalogue fronts.third) peer all_max (all_call wanted.domain wanted.map xid) old.bytes P
      → ReadsReply all_max (rows_of (empty_draft order name)) (Ok value) old new
      → (source : MapVersion)
      × (row_check (maps_on catalogue fronts.third) peer.port wanted.domain wanted.map ≡ Ok source)
  rows_are_shown order name value xid old new P word here gives read =
      let maps = maps_on catalogue fronts.third in
      let draft = empty_draft order name in
      let held = row_check maps peer.port wanted.domain wanted.map in
      elim (held_or_not held) [
        | inl shows ↦ shows
        | inr none ↦
            let room : DraftHasRoom draft held = record {
              empty = refl;
              room = subst (λ (r : Result MapVersion YpStat). IfOk r (λ version. draft_len draft + rows_len version.rows ≤ body_max))
                  (sym none.1) tt;
            } in
            let tells = rows_tell draft maps peer (all_call wanted.domain wanted.map xid) xid (all_told draft held)
            (laws.all maps peer xid wanted.domain (served_before catalogue fronts.third fronts.log third_to_log served) word
            domain_fits wanted.map map_fits draft room) in
            let step = stepped laws.records all_max (all_call wanted.domain wanted.map) (rows_of draft) maps peer P xid old
            new (Ok value) here gives read _ tells in
            let refused : Ok value ≡ draft_of (all_told draft (Err none.0)).draft (all_told draft (Err none.0)).end =
            step.answer_is ∙ ap (λ (r : Result MapVersion YpStat). draft_of (all_told draft r).draft (all_told draft r).end)
            none.1 in
            absurd cc
      ]

  -- and they are those of the version
  rows_are : (source : MapVersion) (order : ℕ) (name : List ℕ) (value : Draft) (xid : ℕ) (old new : StreamPlace)
      (P : List ℕ → Type 0) → IsWord xid → old.xid ≡ xid → name ≡ source.master
      → row_check (maps_on catalogue fronts.third) peer.port wanted.domain wanted.map ≡ Ok source
      → GivesReply (maps_on catalogue fronts.third) peer all_max (all_call wanted.domain wanted.map xid) old.bytes P
      → ReadsReply all_max (rows_of (empty_draft order name)) (Ok value) old new
      → value ≡ record { order = order; master = name; rows = source.rows }
  rows_are source order name value xid old new P word here same shows gives read =
      let maps = maps_on catalogue fronts.third in
      let draft = empty_draft order name in
      let held = row_check maps peer.port wanted.domain wanted.map in
      let serves = served_before catalogue fronts.third fronts.log third_to_log served in
      let fits : IfOk held (λ version. length name ≤ length version.master) =
      subst (λ (r : Result MapVersion YpStat). IfOk r (λ version. length name ≤ length version.master)) (sym shows)
      (omega (arith, ap (λ (l : List ℕ). length l) same)) in
      let tells = rows_tell draft maps peer (all_call wanted.domain wanted.map xid) xid (all_told draft held)
      (laws.all maps peer xid wanted.domain serves word domain_fits wanted.map map_fits draft
      (laws.room maps peer.port wanted.domain wanted.map order name serves fits)) in
      let step = stepped laws.records all_max (all_call wanted.domain wanted.map) (rows_of draft) maps peer P xid old new
      (Ok value) here gives read _ tells in
      let is : Ok value ≡ draft_of (all_told draft (Ok source)).draft (all_told draft (Ok source)).end =
      step.answer_is ∙ ap (λ (r : Result MapVersion YpStat). draft_of (all_told draft r).draft (all_told draft r).end)
      shows in
      cc

  pub is_kept : (xid place : ℕ) (stream : List ℕ) → IsWord xid
      → GivesFetch peer wanted.domain wanted.map (moments_on catalogue fronts) xid stream
      → Fetched wanted (place_of xid place stream) (Ok version)
      → (source : MapVersion) × AtEach (IsShown wanted source) (moments_on catalogue fronts)
      × (version ≡ unsecured source)
  is_kept xid place stream word gives fetched =
      let d = wanted.domain in
      let m = wanted.map in
      let m1 = maps_on catalogue fronts.first in
      let m2 = maps_on catalogue fronts.second in
      let m3 = maps_on catalogue fronts.third in
      let m4 = maps_on catalogue fronts.fourth in
      let x2 = next_xid xid in
      let x3 = next_xid x2 in
      let x4 = next_xid x3 in
      let start = place_of xid place stream in
      let last = fetched.0 in
      let one = asked_ok _ _ version start last (unless_ok (against_names wanted) _ version start last fetched.1).1 in
      let told1 = stepped laws.records reply_max (order_call d m) order_of m1 peer _ xid start one.middle (Ok one.value)
      refl gives one.answered _ (laws.order m1 peer xid d
      (served_before catalogue fronts.first fronts.log first_to_log served) word domain_fits m map_fits) in
      let held1 = order_held (map_check m1 d m) one.value told1.answer_is in
      let gives2 = told1.behind (is_ok _ held1.0 held1.1) in
      let two = asked_ok _ _ version one.middle last
      (unless_ok (against_order wanted one.value) (AsksMaster by_bytes one.value) version one.middle last one.follow).1 in
      let told2 = stepped laws.records reply_max (master_call d m) master_of m2 peer _ x2 one.middle two.middle
      (Ok two.value) told1.xid_is gives2 two.answered _ (laws.master m2 peer x2 d
      (served_before catalogue fronts.second fronts.log second_to_log served) (next_is_word xid) domain_fits m map_fits) in
      let held2 = master_held (map_check m2 d m) two.value told2.answer_is in
      let gives3 = told2.behind (is_ok _ held2.0 held2.1) in
      let draft = empty_draft one.value two.value in
      let three = asked_ok _ _ version two.middle last
      (goes_in_memory (AsksRows by_bytes draft) (Ok version) two.middle last
      (unless_ok (against_master two.value) (InMemory by_bytes (AsksRows by_bytes draft)) version two.middle last
      two.follow).1) in
      let shows = rows_are_shown one.value two.value three.value x3 two.middle three.middle _ (next_is_word x2)
      told2.xid_is gives3 three.answered in
      let pass3 = passed laws.records all_max (all_call d m) (rows_of draft) m3 peer _ x3 two.middle three.middle
      (Ok three.value) told2.xid_is gives3 three.answered in
      let gives4 = pass3.0 (is_ok _ shows.0 shows.1) in
      let four = asked_ok _ _ version three.middle last three.follow in
      let told4 = stepped laws.records reply_max (order_call d m) order_of m4 peer (λ rest. ⊤) x4 three.middle four.middle
      (Ok four.value) pass3.1 gives4 four.answered _ (laws.order m4 peer x4 d
      (served_before catalogue fronts.fourth fronts.log fronts.ends served) (next_is_word x3) domain_fits m map_fits) in
      let held4 = order_held (map_check m4 d m) four.value told4.answer_is in
      let ended = unless_ok (against_second three.value.order four.value) (InMemory by_bytes (Gives by_bytes three.value))
      version four.middle last four.follow in
      let gave = goes_in_memory (Gives by_bytes three.value) (Ok version) four.middle last ended.1 in
      let source = held1.0 in
      let orders : source.order ≡ held4.0.order =
      held1.2 ∙ sym (read_keeps draft three.value two.middle three.middle three.answered)
      ∙ no_skew three.value.order four.value ended.0 ∙ sym held4.2 in
      let kept = throughout source held4.0 held1.1 held4.1 orders in
      let name : two.value ≡ source.master =
      sym held2.2 ∙ ap (λ (v : MapVersion). v.master) (same_held (map_check m2 d m) held2.0 source held2.1 kept.second) in
      let third : shows.0 ≡ source =
      same_held (map_check m3 d m) shows.0 source (rows_of_held m3 peer.port d m shows.0 shows.1) kept.third in
      let rows = rows_are source one.value two.value three.value x3 two.middle three.middle _ (next_is_word x2)
      told2.xid_is name (shows.1 ∙ ap (λ (v : MapVersion). Ok v) third) gives3 three.answered in
      let sound = held_sound m1 d m source (served_before catalogue fronts.first fronts.log first_to_log served) held1.1 in
      let final : version ≡ unmarked three.value.order three.value.master (listed three.value.rows) =
      same_given version _ gave.0 in (
        source,
        record { first = held1.1; second = kept.second; third = kept.third; fourth = kept.fourth },
        final
            ∙ ap (λ (v : Draft). unmarked v.order v.master (listed v.rows)) rows
            ∙ ap (λ (o : ℕ). unmarked o two.value (listed source.rows)) (sym held1.2)
            ∙ ap (λ (l : List ℕ). unmarked source.order l (listed source.rows)) name
            ∙ ap (λ r. unmarked source.order source.master r) (laws.rising source.rows sound.rising),
      )
