use Rattle.std.proofs.Common.{ℕ, Option, subst}
use Rattle.yp_transfer.specs.inside.Dials.{dial_by}
use Rattle.yp_transfer.specs.inside.CallBack.{TellsPort}
use Rattle.yp_transfer.proofs.Telling.{mapper_tells_port}
use Rattle.yp_transfer.proofs.calling_back.tell_by_mapper.Goals as goal

pub returns-in-Ok-Some : goal.returns-in-Ok-Some
returns-in-Ok-Some g c =
    let asker = c.args.asker.now in
    let tells = dial_by g.A.Dial in
    let old = tells c.args.dial.now in
    let mid = tells c.port_of.new.dial in
    mapper_tells_port asker c.args.stat c.in-Ok-Some.port old mid (tells c.tell_at.new.dial) c.requires
    c.port_of.ensures.past c.port_of.ensures.cause.never_falls
    (subst (λ (port : Option ℕ). TellsPort asker port old.letters mid.letters) c.in-Ok-Some.field-0-is
    c.in-Ok-Some.ensures.asked)
    c.tell_at.ensures
