use Rattle.std.proofs.Common.{◌≡◌, ◌≤◌, ◌+◌, ◌∷◌, [], ◌++◌, length, take, List, Some, slice_get, sym, subst}
use Rattle.std.proofs.lemmas.Result.{err_from_is_err_and}
use Rattle.yp_messages.specs.Numbers.{name_max}
use Rattle.yp_client.specs.inside.States.{state_of}
use Rattle.yp_client.specs.declared.query.fault.QueryFault.TheVariants.{NoMemory}
use Rattle.yp_client.specs.orders.InTurn.{EachMade}
use Rattle.yp_client.specs.orders.Asked.{Mastered, TellsMaster}
use Rattle.yp_client.specs.inside.orders.Asked.{mastered_view, masters_view, HasShortNames}
use Rattle.yp_client.proofs.orders.Turns.{made_next, stops_next, one_of_all, all_and_one, pushed, stop_told, call_forgone}
use Rattle.yp_client.proofs.orders.asked.ask_masters.Goals as goal

pub loop-i-preserved : goal.loop-i-preserved
loop-i-preserved g c =
    let state = state_of g.S.Source g.K.Sink in
    let names = c.args.names.now in
    let i = c.loop-i.i in
    let name = c.in-Some.name.now in
    let there : slice_get names i ≡ Some name = sym c.in-Some.ensures in
    let maps = masters_view c.loop-i.maps in
    let value : Mastered = mastered_view c.in_ok-map.map in
    let more : masters_view c.push.new.self ≡ maps ++ value ∷ [] =
    pushed mastered_view c.loop-i.maps.items c.push.new.self.items c.in_ok-map.map c.in-Ok.ensures.items in
    let short : length name ≤ name_max = one_of_all (λ (n : List _). length n ≤ name_max) names i name c.requires.names there in
    let own : length value.0 ≤ name_max = rw c.in_ok-map.ensures.named short in
    record {
      made = subst (λ (l : List Mastered). EachMade (TellsMaster c.args.domain.now) (take (i + 1) names) l (state c.args.client.now) (state c.ask_master.new.client))
          (sym more) (made_next (TellsMaster c.args.domain.now) names i name maps value (state c.args.client.now)
          (state c.loop-i.client) (state c.ask_master.new.client) there c.loop-i.invariant.made c.in_ok-map.ensures.tells);
      short = subst HasShortNames (sym more)
          (all_and_one (λ (m : Mastered). length m.0 ≤ name_max) maps value c.loop-i.invariant.short own);
    }

pub returns-in_err-map-clause-tells : goal.returns-in_err-map-clause-tells
returns-in_err-map-clause-tells g c =
    let state = state_of g.S.Source g.K.Sink in
    let step = TellsMaster c.args.domain.now in
    let names = c.args.names.now in
    let p = err_from_is_err_and c.from_residual.result c.from_residual.ensures.1 in
    stop_told step names masters_view c.from_residual.result p.0 c.in_err-map.field-0.0 (state c.args.client.now)
    (state c.ask_master.new.client) p.1 p.2
    (stops_next step names c.loop-i.i c.in-Some.name.now (masters_view c.loop-i.maps) c.in_err-map.field-0.0
    (state c.args.client.now) (state c.loop-i.client) (state c.ask_master.new.client) (sym c.in-Some.ensures)
    c.loop-i.invariant.made c.in_err-map.ensures.tells)

pub returns-in_default-push-clause-tells : goal.returns-in_default-push-clause-tells
returns-in_default-push-clause-tells g c =
    let state = state_of g.S.Source g.K.Sink in
    stops_next (TellsMaster c.args.domain.now) c.args.names.now c.loop-i.i c.in-Some.name.now (masters_view c.loop-i.maps)
    NoMemory (state c.args.client.now) (state c.loop-i.client) (state c.ask_master.new.client) (sym c.in-Some.ensures)
    c.loop-i.invariant.made (call_forgone _ _ _ _ _ _ _ c.in_ok-map.ensures.tells)
