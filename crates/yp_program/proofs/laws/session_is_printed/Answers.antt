use Rattle.yp_publisher.specs.Keeping.{keeping_of}
use Rattle.yp_publisher.specs.Begins.{plain_log}
use Rattle.yp_host.specs.inside.Locals.{telling_by}
use Rattle.yp_host.specs.Connections.{service_of}
use Rattle.yp_command.specs.office.Seeing.{seeing}
use Rattle.yp_program.proofs.Sending.{session_printed, once_printed}
use Rattle.yp_program.proofs.laws.session_is_printed.Goals as goal

pub returns-clause-session : goal.returns-clause-session
returns-clause-session g c = λ catalogue peer.
    session_printed (service_of (keeping_of g.D.Disk.history g.D.Disk.faults plain_log) (telling_by g.T.Texts g.C.Clock g.A.Dial) catalogue peer)
    (seeing g.S.Source g.K.Sink g.D.Disk g.C.Clock g.A.Dial g.I.Inbox g.T.Texts)

pub returns-clause-once : goal.returns-clause-once
returns-clause-once g c = once_printed (seeing g.S.Source g.K.Sink g.D.Disk g.C.Clock g.A.Dial g.I.Inbox g.T.Texts)
