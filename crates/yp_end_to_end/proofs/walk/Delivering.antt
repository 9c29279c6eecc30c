-- A walk behind all that happened is the one by what was delivered.
use Rattle.std.proofs.Common.{◌≡◌, Bool, true, false, cond, ℕ, ◌+◌, List, [], ◌∷◌, length, map, Ok, Err, refl, sym, ap, subst, ◌∙◌}
use Rattle.std.proofs.lemmas.List.{length-map}
use Rattle.yp_io.specs.declared.stream.Peer.{Peer}
use Rattle.yp_version.specs.Rows.{listed}
use Rattle.yp_version.specs.Versions.{MapVersion, unmarked}
use Rattle.yp_version.specs.Drafts.{Draft}
use Rattle.yp_version.specs.inside.Laws.{RisingStays}
use Rattle.yp_board.specs.Catalogues.{Catalogue}
use Rattle.yp_board.specs.Views.{IsFront}
use Rattle.yp_transfer.specs.declared.fault.XfrFault.TheVariants.{Skew}
use Rattle.yp_transfer.specs.walk.Standings.{WalkState, HasEnded}
use Rattle.yp_transfer.specs.walk.Schedules.{Walking, Delivery, is_awaited, next_xid, gone_on, heard, awaited, came_of, begun}
use Rattle.yp_end_to_end.specs.walk.Sources.{Event, Handles, Delivers, Rests, WalkExchange, first_scene, deliveries_of, AllHappen}
use Rattle.yp_end_to_end.specs.walk.Mails.{SourceMail, last_front, GoesBy}
use Rattle.yp_end_to_end.specs.inside.walk.Laws.{HeardIsInTurn, WalkedIsShown, SkewIsShown, ShownIsWalked}
use Rattle.yp_end_to_end.specs.inside.walk.Laws.{HappenedIsDelivered}
use Rattle.yp_end_to_end.specs.walk.Laws.{DeliveredWalk, AnswersWalk}
use Rattle.yp_end_to_end.specs.inside.walk.Laws.{DeliveredIsOfSource, DeliveredIsWhole, DeliveredSkews}

-- the walk by some mails
by_mails : Walking → List Delivery → Walking
by_mails walk deliveries = came_of walk (awaited walk.source walk.xid deliveries)

-- the first mail is heard, and then the others
first_is_heard : (walk : Walking) (one : Delivery) (deliveries : List Delivery)
    → by_mails walk (one ∷ deliveries) ≡ by_mails (heard walk one) deliveries
unfolding by_mails
first_is_heard walk one deliveries = by (is_awaited walk.source walk.xid one)
  where
    by : (b : Bool)
        → came_of walk (cond b (one.1 ∷ awaited walk.source (next_xid walk.xid) deliveries)
        (awaited walk.source walk.xid deliveries))
        ≡ came_of (cond b (gone_on walk one.1) walk) (awaited (cond b (gone_on walk one.1) walk).source
        (cond b (gone_on walk one.1) walk).xid deliveries)
    by true = refl
    by false = refl

module _ (catalogue : Catalogue) (caller : Peer) where
  walk_is : (events : List Event) (old new : WalkExchange) → AllHappen catalogue caller events old new
      → new.walk ≡ by_mails old.walk (deliveries_of events)
  unfolding by_mails
  walk_is [] old new is = ap (λ (s : WalkExchange). s.walk) is
  walk_is (Handles call front ∷ events) old new is =
      walk_is events is.0 new is.2
      ∙ ap (λ (s : WalkExchange). by_mails s.walk (deliveries_of events)) is.1.2
  walk_is (Delivers one ∷ events) old new is =
      walk_is events is.0 new is.2
      ∙ ap (λ (s : WalkExchange). by_mails s.walk (deliveries_of events)) is.1.2
      ∙ sym (first_is_heard old.walk one (deliveries_of events))
  walk_is (Rests ∷ events) old new is =
      walk_is events is.0 new is.2
      ∙ ap (λ (s : WalkExchange). by_mails s.walk (deliveries_of events)) is.1

pub happened_is_delivered : HappenedIsDelivered
unfolding by_mails
happened_is_delivered catalogue caller source wanted log events last happen =
    walk_is catalogue caller events (first_scene source wanted log) last happen

pub delivered_is_of_source : HeardIsInTurn → WalkedIsShown → HappenedIsDelivered → RisingStays → DeliveredIsOfSource
unfolding by_mails
delivered_is_of_source in_turn shown is_delivered rising catalogue walk draft answers done =
    let caller = walk.caller in
    let source = walk.source in
    let wanted = walk.wanted in
    let turns = in_turn catalogue caller source wanted answers.log answers.events answers.last answers.is_source
    answers.happen in
    let same = is_delivered catalogue caller source wanted answers.log answers.events answers.last answers.happen in
    let ended : answers.last.walk.standing ≡ HasEnded (Ok draft) =
    ap (λ (w : Walking). w.standing) same
    ∙ ap (λ (ds : List Delivery). (by_mails (begun source wanted) ds).standing) answers.delivered ∙ done in
    let is = shown catalogue caller source wanted answers.log answers.last.front turns.0 answers.last.walk draft
    answers.is_source turns.1 turns.2 ended in
    let origin = is.0 in
    record {
      mails = turns.0;
      heard = turns.3 ∙ ap (λ (ds : List Delivery). awaited source 1 ds) answers.delivered;
      goes = subst (λ (w : Walking). GoesBy catalogue caller turns.0 answers.log (begun source wanted) w)
          (same ∙ ap (λ (ds : List Delivery). by_mails (begun source wanted) ds) answers.delivered) turns.1;
      ends = turns.2;
      origin = origin;
      throughout = is.2;
      same = ap (λ (d : Draft). unmarked d.order d.master (listed d.rows)) is.3
          ∙ ap (λ rows. unmarked origin.order origin.master rows) (rising origin.rows is.1.rising);
    }

-- what was heard of a source by these mails, and the walk that they lead to
heard_of_source : HeardIsInTurn → HappenedIsDelivered → (catalogue : Catalogue) (walk : DeliveredWalk)
    → (answers : AnswersWalk catalogue walk)
    → (mails : List SourceMail) × (map (λ (made : SourceMail). made.mail) mails ≡ awaited walk.source 1 walk.deliveries)
    × GoesBy catalogue walk.caller mails answers.log (begun walk.source walk.wanted) answers.last.walk
    × IsFront (last_front answers.log mails) answers.last.front
    × (answers.last.walk ≡ by_mails (begun walk.source walk.wanted) walk.deliveries)
unfolding by_mails
heard_of_source in_turn is_delivered catalogue walk answers =
    let caller = walk.caller in
    let source = walk.source in
    let wanted = walk.wanted in
    let turns = in_turn catalogue caller source wanted answers.log answers.events answers.last answers.is_source
    answers.happen in (
      turns.0,
      turns.3 ∙ ap (λ (ds : List Delivery). awaited source 1 ds) answers.delivered,
      turns.1,
      turns.2,
      is_delivered catalogue caller source wanted answers.log answers.events answers.last answers.happen
          ∙ ap (λ (ds : List Delivery). by_mails (begun source wanted) ds) answers.delivered,
    )

pub delivered_is_whole : HeardIsInTurn → ShownIsWalked → HappenedIsDelivered → DeliveredIsWhole
unfolding by_mails heard_of_source
delivered_is_whole in_turn walked is_delivered catalogue walk version answers walkable shown count =
    let heard = heard_of_source in_turn is_delivered catalogue walk answers in
    let many : length heard.0 ≡ length version.rows + 4 =
    sym (length-map heard.0 (λ (made : SourceMail). made.mail)) ∙ ap length heard.1 ∙ count in
    ap (λ (w : Walking). w.standing) (sym heard.4)
    ∙ walked catalogue walk.caller walk.source walk.wanted answers.log answers.last.front heard.0 answers.last.walk
    version answers.is_source heard.2 heard.3 walkable shown many

pub delivered_skews : HeardIsInTurn → SkewIsShown → HappenedIsDelivered → DeliveredSkews
unfolding by_mails heard_of_source
delivered_skews in_turn skews is_delivered catalogue walk first second answers refused =
    let caller = walk.caller in
    let source = walk.source in
    let wanted = walk.wanted in
    let heard = heard_of_source in_turn is_delivered catalogue walk answers in
    let ended : answers.last.walk.standing ≡ HasEnded (Err (Skew first second)) =
    ap (λ (w : Walking). w.standing) heard.4 ∙ refused in
    record {
      mails = heard.0;
      heard = heard.1;
      goes = subst (λ (w : Walking). GoesBy catalogue caller heard.0 answers.log (begun source wanted) w) heard.4
          heard.2;
      ends = heard.3;
      two = skews catalogue caller source wanted answers.log answers.last.front heard.0 answers.last.walk first second
          answers.is_source heard.2 heard.3 ended;
    }
