use Rattle.yp_publisher.proofs.Growing.{opened_front}
use Rattle.yp_host.proofs.steps.reopen.Goals as goal

pub returns-in-Ok-clause-grown : goal.returns-in-Ok-clause-grown
returns-in-Ok-clause-grown g c =
    opened_front g.B.Show.log c.args.map c.args.publisher.now c.reopen.new.self c.requires c.in-Ok.ensures.opened.upheld.elsewhere c.in-Ok.ensures.opened.shown
