use Rattle.std.proofs.Common.{refl, sym, ap, ◌∙◌, subst, inl}
use Rattle.yp_answer.specs.Maps.{Maps, maps_of}
use Rattle.yp_answer.specs.session.Progress.{begun}
use Rattle.yp_answer.specs.session.Wires.{wire_of}
use Rattle.yp_answer.specs.declared.session.session.TheConstants.{CALLS_MAX}
use Rattle.yp_answer.specs.session.Runs.{dialogue_at, Runs}
use Rattle.yp_command.specs.declared.office.status.Status.{Status}
use Rattle.yp_command.specs.Words.{nobody}
use Rattle.yp_command_serve.specs.Served.{Traffic, ServesInput, IsStatusOf, Fixed, fixed, fixed_conduct, status_of}
use Rattle.yp_command_serve.proofs.Told.{serves_told, none_is_open, if_told}
use Rattle.yp_command_serve.proofs.Ended.{status_of_end}
use Rattle.yp_command_serve.proofs.Watching.{watched}
use Rattle.yp_command_serve.proofs.once.serve.Goals as goal

pub returns-clause-served : goal.returns-clause-served
returns-clause-served g c =
    let maps : Maps = maps_of c.args.board in
    let wire = wire_of g.S.Source g.K.Sink in
    let traffic : Traffic = record { left = g.S.Source.input c.run-end.new.wire.source; before = g.K.Sink.output c.args.wire.now.sink; after = g.K.Sink.output c.run-end.new.wire.sink } in
    if_told (g.S.Source.input c.args.wire.now.source) (λ stream. ServesInput maps c.status_of_end.result stream traffic) (λ stream e.
    subst (λ status. ServesInput maps status stream traffic) (sym c.status_of_end.ensures.status)
    (serves_told maps stream fixed_conduct (dialogue_at c.new-host.result (wire c.args.wire.now) begun) (dialogue_at c.run-end.new.host (wire c.run-end.new.wire) c.run-end.new.self) _ c.run-end.result (record {
      none = none_is_open c.open_is_from_own_host.ensures;
      keeps = record { stepped = λ old new h. ap (λ (host : Fixed). maps_of host.board) h; carried = λ taken peer old new h. ap (λ (host : Fixed). maps_of host.board) h };
      is = ap (λ (host : Fixed). maps_of host.board) c.new-host.ensures.host;
      input = e;
      start = refl;
      runs = c.run-end.ensures.runs.done;
    })))

pub returns-clause-watched : goal.returns-clause-watched
returns-clause-watched g c =
    let wire = wire_of g.S.Source g.K.Sink in
    let runs = c.run-end.ensures.runs in
    let last = dialogue_at c.run-end.new.host (wire c.run-end.new.wire) c.run-end.new.self in
    let all : Runs fixed_conduct nobody CALLS_MAX c.run-end.result (dialogue_at (fixed c.args.board) (wire c.args.wire.now) begun) last runs.more =
    subst (λ (host : Fixed). Runs fixed_conduct nobody CALLS_MAX c.run-end.result (dialogue_at host (wire c.args.wire.now) begun) last runs.more) c.new-host.ensures.host runs.done in
    record {
      more = runs.more;
      behind = runs.behind;
      done = rw c.status_of_end.ensures.status (watched c.args.board c.run-end.new.host (record { catalogue = c.new-host.ensures.catalogue; versions = c.rest.ensures }) c.run-end.new.self (wire c.args.wire.now) (wire c.run-end.new.wire) runs.more c.run-end.result all);
    }

pub returns-clause-complete : goal.returns-clause-complete
returns-clause-complete g c = λ stream messages rest told cut reads writes.
    let wire = wire_of g.S.Source g.K.Sink in
    let is = c.status_of_end.ensures.status in
    inl (subst (λ (status : Status). IsStatusOf stream messages rest status) (sym is)
    (status_of_end (record { one = c.cut_is_one.ensures; front = c.first_is_one.ensures; rest = c.rest_is_not_whole.ensures }) stream messages rest cut fixed_conduct nobody
    (dialogue_at c.new-host.result (wire c.args.wire.now) begun) (dialogue_at c.run-end.new.host (wire c.run-end.new.wire) c.run-end.new.self) _ told refl c.run-end.result c.run-end.ensures.runs.done
    (λ e. reads (is ∙ ap status_of e)) (λ e. writes (is ∙ ap status_of e))))
