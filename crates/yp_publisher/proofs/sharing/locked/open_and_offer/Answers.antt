use Rattle.yp_publisher.specs.Keeping.{keeping_of}
use Rattle.yp_publisher.proofs.sharing.Installing.{on_ok, if_err, installed, refused, shown_both, grown}
use Rattle.yp_publisher.proofs.sharing.locked.open_and_offer.Goals as goal

pub returns-in-Ok-clause-installed : goal.returns-in-Ok-clause-installed
returns-in-Ok-clause-installed g c =
    on_ok c.offer.result
    (installed (keeping_of g.D.Disk.history g.D.Disk.faults g.B.Show.log) c.args.map c.args.version c.args.origin
    c.args.publisher.now c.reopen.new.self c.offer.new.publisher c.in-Ok.ensures.opened) c.offer.ensures.installed

pub returns-in-Ok-clause-refused : goal.returns-in-Ok-clause-refused
returns-in-Ok-clause-refused g c =
    if_err c.offer.result
    (refused (keeping_of g.D.Disk.history g.D.Disk.faults g.B.Show.log) c.args.map c.args.version c.args.origin
    c.args.publisher.now c.reopen.new.self c.offer.new.publisher c.in-Ok.ensures.opened) c.offer.ensures.refused

pub returns-in-Ok-clause-shown : goal.returns-in-Ok-clause-shown
returns-in-Ok-clause-shown g c =
    shown_both (keeping_of g.D.Disk.history g.D.Disk.faults g.B.Show.log) c.args.map c.args.version c.args.origin
    c.args.publisher.now c.reopen.new.self c.offer.new.publisher c.in-Ok.ensures.opened c.offer.result c.requires
    c.offer.ensures.installed c.offer.ensures.follows

pub returns-in-Ok-clause-grown : goal.returns-in-Ok-clause-grown
returns-in-Ok-clause-grown g c =
    grown (keeping_of g.D.Disk.history g.D.Disk.faults g.B.Show.log) c.args.map c.args.version c.args.origin
    c.args.publisher.now c.reopen.new.self c.offer.new.publisher c.in-Ok.ensures.opened c.offer.result c.requires
    c.offer.ensures.installed c.offer.ensures.unshown
