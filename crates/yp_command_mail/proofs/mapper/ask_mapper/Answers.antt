use Rattle.std.proofs.Common.{refl}
use Rattle.yp_command.specs.office.Seeing.{seeing}
use Rattle.yp_command_mail.specs.Mapper.{begun}
use Rattle.yp_command_mail.proofs.Doing.{mapper_told, mapper_failed}
use Rattle.yp_command_mail.proofs.mapper.ask_mapper.Goals as goal

pub returns-in-Ok-take_turns-clause-does : goal.returns-in-Ok-take_turns-clause-does
returns-in-Ok-take_turns-clause-does g c =
    mapper_told (seeing g.S.Source g.K.Sink g.D.Disk g.C.Clock g.A.Dial g.I.Inbox g.T.Texts) c.args.turns
    c.args.office.now (begun c.args.mapper c.args.call) c.take_turns.new.handler
    c.take_turns.new.inbox c.tell_answer.new.sink c.tell_answer.result c.in-Ok-take_turns.field-0 refl
    c.in-Ok-take_turns.ensures.takes c.tell_answer.ensures.tells c.tell_answer.ensures.cause
    c.tell_answer.ensures.heard

pub returns-clause-does : goal.returns-clause-does
returns-clause-does g c =
    mapper_failed (seeing g.S.Source g.K.Sink g.D.Disk g.C.Clock g.A.Dial g.I.Inbox g.T.Texts) c.args.turns
    c.args.office.now (begun c.args.mapper c.args.call) c.take_turns.new.handler
    c.take_turns.new.inbox c.in-Err.field-0 refl c.in-Err.ensures.takes c.in-Err.ensures.cause.risen
