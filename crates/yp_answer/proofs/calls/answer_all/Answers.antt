use Rattle.std.proofs.Common.{◌≡◌, ap, ◌∙◌, subst, sym}
use Rattle.std.specs.Option.{ok_or}
use Rattle.yp_messages.specs.inside.Messages.{req_nokey_view}
use Rattle.yp_messages.specs.declared.stat.YpStat.TheVariants.{Nomap}
use Rattle.yp_answer.specs.Maps.{Maps, maps_of, row_check}
use Rattle.yp_answer.specs.inside.Streams.{source_of}
use Rattle.yp_answer.specs.inside.Answers.{StreamIsInside}
use Rattle.yp_answer.proofs.Streaming.{all_streams}
use Rattle.yp_answer.proofs.calls.answer_all.Goals as goal
use Rattle.yp_answer.proofs.calls.answer_all.Goals.{in-Ok, in-Err}

pub returns-clause-reply : goal.returns-clause-reply
returns-clause-reply g c =
    let maps : Maps = maps_of (g.V.View.seen c.read_refreshed.new.view) in
    let caller = c.args.caller.now in
    let asked = req_nokey_view c.in_ok-asked.asked in
    let same : source_of maps.log c.match-row_check.source ≡ row_check maps caller.peer.port asked.0 asked.1 =
    elim c.match-row_check.branch [
      | in-Ok w ↦
          ap (source_of maps.log) w.source-is ∙ ap (λ v. ok_or v Nomap) w.in-Ok.ensures.held.shown_of ∙ w.in-Ok.ensures.check
      | in-Err w ↦ ap (source_of maps.log) w.source-is ∙ w.in-Err.ensures.check
    ] in
    let inside : StreamIsInside maps c.match-row_check.source =
    elim c.match-row_check.branch [
      | in-Ok w ↦ subst (StreamIsInside maps) (sym w.source-is) w.in-Ok.ensures.held.inside
      | in-Err w ↦ subst (StreamIsInside maps) (sym w.source-is) tt
    ] in
    all_streams maps caller c.args.arguments.now asked c.match-row_check.source c.new.result c.in_ok-asked.ensures.read same inside c.new.ensures
