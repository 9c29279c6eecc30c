use Rattle.yp_program.proofs.Noting.{noted}
use Rattle.yp_program.proofs.program.run_server.Goals as goal

pub returns-clause-does : goal.returns-clause-does
returns-clause-does g c =
    let faults = g.K.Sink.faults in
    let output = g.K.Sink.output in
    let old = c.args.outside.notes in
    let did = c.serve_maps-status in
    let end = c.tell in
    let does = did.ensures.does in (
      does.0,
      does.1,
      noted did.result.0 does.0 (output old) (output did.result.1.notes) (output end.new.notes) (faults old)
          (faults did.result.1.notes) (faults end.new.notes) did.ensures.never_falls end.ensures.never_falls does.2
          end.ensures.note,
    )
