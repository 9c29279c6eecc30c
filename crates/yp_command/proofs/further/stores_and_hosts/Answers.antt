use Rattle.std.proofs.Common.{◌≡◌, ◌+◌, ◌<◌, ◌≤◌, Bool, true, false, List, length, [], ◌∷◌, ◌++◌, drop, Ok, Err, refl, sym, ◌∙◌, ap}
use Rattle.std.proofs.Common.{arith, subst}
use Rattle.std.specs.Prelude.{string_bytes, map}
use Rattle.std.specs.List.{list_any}
use Rattle.std.proofs.lemmas.List.{length-map, map-append}
use Rattle.std.proofs.lemmas.Result.{err_from_is_err_and}
use Rattle.yp_board.specs.Catalogues.{Name, is_same, maps_max}
use Rattle.yp_command.specs.Forms.{Host}
use Rattle.yp_command.specs.Words.{texts, served, is_new_store}
use Rattle.yp_command.proofs.Reading.{served_store, served_known, served_host, served_wrong, new_store, known_store}
use Rattle.yp_command.proofs.Reading.{last_store, room_left, no_room, all_read, any_viewed}
use Rattle.yp_command.proofs.further.stores_and_hosts.Goals as goal
use Rattle.yp_command.proofs.further.stores_and_hosts.Goals.{then-is_named-via-then-is_named, then-is_named-via-else-is_named+then-is_full}
use Rattle.yp_command.proofs.further.stores_and_hosts.Goals.{in-Ok+else-is_named+else-is_full, in_default+in_ok-host}

pub loop-i-preserved : goal.loop-i-preserved
loop-i-preserved c =
    let words = texts c.args.words.words.now in
    let before = c.loop-i.invariant in
    let stores : List Name = map (λ store. (store.0.now, store.1.now)) c.loop-i.stores.items in
    let long : length stores ≡ length c.loop-i.stores.items =
    length-map c.loop-i.stores.items (λ store. (store.0.now, store.1.now)) in
    let within : c.loop-i.i < length words =
    omega (arith, c.loop-i-test.true, length-map c.args.words.words.now string_bytes) in
    elim c.match-store.branch [
      | in-Ok+else-is_named+else-is_full w ↦
          let store = w.in-Ok.store in
          let value : Name = (store.0.now, store.1.now) in
          let same = any_viewed (is_same value) (λ store. (store.0.now, store.1.now)) c.loop-i.stores.items in
          let other : list_any (is_same value) stores ≡ false = cc in
          let room = room_left (length c.loop-i.stores.items) w.is_full.ensures.fits
          (sym w.is_full.ensures.value ∙ w.if-is_full.false) in
          let under : length stores < maps_max = omega (arith, long, room) in
          let new = new_store stores value other under in
          let more : map (λ store. (store.0.now, store.1.now)) c.match-store.stores.items ≡ stores ++ value ∷ [] =
          ap (map (λ store. (store.0.now, store.1.now))) (ap (λ s. s.items) w.stores-is ∙ w.push.ensures.items)
          ∙ map-append (λ store. (store.0.now, store.1.now)) c.loop-i.stores.items (store ∷ []) in (
            before.0,
            rw w.hosts-is before.1,
            ap (λ (l : List Name). served (c.loop-i.i + 1) l before.0 (drop (c.loop-i.i + 1) words)) more
                ∙ sym (served_store c.loop-i.i stores before.0 words value (sym w.in-Ok.ensures) new) ∙ before.2,
          )
      | in_default+in_ok-host w ↦
          let host = w.in_ok-host.host in
          let value : Host = (host.0.now, host.1) in
          let same : map (λ store. (store.0.now, store.1.now)) c.match-store.stores.items ≡ stores =
          ap (λ s. map (λ store. (store.0.now, store.1.now)) s.items) w.stores-is in (
            before.0 ++ value ∷ [],
            rw w.hosts-is (w.with_host-hosts.ensures before.0 before.1),
            ap (λ (l : List Name). served (c.loop-i.i + 1) l (before.0 ++ value ∷ []) (drop (c.loop-i.i + 1) words)) same
                ∙ sym (served_host c.loop-i.i stores before.0 words value _ within (sym w.in_default.ensures)
                (sym w.in_ok-host.ensures)) ∙ before.2,
          )
    ]

pub returns-in_err-host : goal.returns-in_err-host
returns-in_err-host c =
    let words = texts c.args.words.words.now in
    let before = c.loop-i.invariant in
    let within : c.loop-i.i < length words =
    omega (arith, c.loop-i-test.true, length-map c.args.words.words.now string_bytes) in
    let p = err_from_is_err_and c.from_residual.result c.from_residual.ensures.1 in
    let stores : List Name = map (λ store. (store.0.now, store.1.now)) c.loop-i.stores.items in
    rw (p.1, p.2) (all_read c.args.at words (Err _)
    (sym before.2 ∙ served_wrong c.loop-i.i stores before.0 words _ _ within (sym c.in_default.ensures)
    (sym c.in_err-host.ensures)))

pub returns-then-is_named : goal.returns-then-is_named
returns-then-is_named c =
    let words = texts c.args.words.words.now in
    let before = c.loop-i.invariant in
    let stores : List Name = map (λ store. (store.0.now, store.1.now)) c.loop-i.stores.items in
    let long : length stores ≡ length c.loop-i.stores.items =
    length-map c.loop-i.stores.items (λ store. (store.0.now, store.1.now)) in
    let store = c.in-Ok.store in
    let value : Name = (store.0.now, store.1.now) in
    let same = any_viewed (is_same value) (λ store. (store.0.now, store.1.now)) c.loop-i.stores.items in
    let old : is_new_store stores value ≡ false =
    elim c.then-is_named.branch [
      | then-is_named-via-then-is_named w ↦
          let known : list_any (is_same value) stores ≡ true = cc in
          known_store stores value known
      | then-is_named-via-else-is_named+then-is_full w ↦
          let other : list_any (is_same value) stores ≡ false = cc in
          let none = no_room (length c.loop-i.stores.items) (sym w.is_full.ensures.value ∙ w.if-is_full.true) in
          let full : length stores ≡ maps_max = omega (arith, long, none) in
          last_store stores value other full
    ] in
    all_read c.args.at words (Err c.loop-i.i)
    (sym before.2 ∙ served_known c.loop-i.i stores before.0 words value (sym c.in-Ok.ensures) old)
