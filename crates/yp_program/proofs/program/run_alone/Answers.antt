use Rattle.yp_command.specs.Words.{meaning}
use Rattle.yp_command.specs.office.Seeing.{seeing}
use Rattle.yp_program.proofs.Kept.{command_keeps}
use Rattle.yp_program.proofs.program.run_alone.Goals as goal

pub returns-clause-disks : goal.returns-clause-disks
returns-clause-disks g c =
    let did = c.obey-status in
    (command_keeps (seeing g.S.Source g.K.Sink g.D.Disk g.C.Clock g.A.Dial g.I.Inbox g.T.Texts) did.result.0
    c.args.outside.office did.result.1 (g.W.Witness.wires c.args.witness.now) (g.W.Witness.wires did.new.witness)
    (meaning c.args.command) did.ensures.does).names

pub returns-clause-clock : goal.returns-clause-clock
returns-clause-clock g c =
    let did = c.obey-status in
    (command_keeps (seeing g.S.Source g.K.Sink g.D.Disk g.C.Clock g.A.Dial g.I.Inbox g.T.Texts) did.result.0
    c.args.outside.office did.result.1 (g.W.Witness.wires c.args.witness.now) (g.W.Witness.wires did.new.witness)
    (meaning c.args.command) did.ensures.does).told
