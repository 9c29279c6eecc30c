use Rattle.std.proofs.Common.{rules, ℕ, Bool, List, [], map, OnOk, refl, sym, subst}
use Rattle.std.proofs.KnownBytes.{Appends-nil}
use Rattle.std.specs.Io.KnownBytes.{Appends}
use Rattle.yp_io.specs.Counts.{HasRisen, CountsFaults}
use Rattle.yp_board.specs.Catalogues.{name_view}
use Rattle.yp_command_serve.specs.serve.Log.{IsLog}
use Rattle.yp_command_serve.specs.inside.serve.Log.{WritesLines, totals_told}
use Rattle.yp_command_serve.proofs.serve.Logging.{logged, stays_count}
use Rattle.yp_command_serve.proofs.serve.telling.host_told.Goals as goal

pub returns-then-not-log-clause-logged : goal.returns-then-not-log-clause-logged
returns-then-not-log-clause-logged g c =
    let maps = map name_view c.args.names.now in
    let totals = totals_told c.host-hosted.result.0 in (
      [],
      subst (λ (log : Bool). IsLog log maps totals []) (sym c.if-not-log.true) refl,
      λ fine. Appends-nil (g.N.Sink.output c.args.notes),
    )

pub returns-clause-logged : goal.returns-clause-logged
returns-clause-logged g c =
    let output = g.N.Sink.output in
    let faults = g.N.Sink.faults in
    let maps = map name_view c.args.names.now in
    let notes = c.join-notes.result.0.0 in
    let told = c.join-notes.result.0.1 in
    let end = c.end_log in
    let totals = totals_told c.join-notes.result.1.0 in
    let lines : OnOk told (WritesLines maps (output c.args.notes) (output notes)) = search rules in
    let counts : CountsFaults (faults c.args.notes) (faults notes) told = search rules in
    subst (λ (log : Bool). (text : List ℕ) × IsLog log maps totals text
    × (¬ HasRisen (faults c.args.notes) (faults end.new.notes)
    → Appends (output c.args.notes) (output end.new.notes) text))
    (sym c.if-not-log.false)
    (logged maps totals (output c.args.notes) (output notes) (output end.new.notes) told end.result
    (faults c.args.notes) (faults notes) (faults end.new.notes) lines counts end.ensures.written end.ensures.cause
    (stays_count faults notes end.new.notes told end.ensures.stays))
