use Rattle.std.proofs.Common.{sym, ◌∙◌, arith}
use Rattle.yp_command_mail.specs.Mapper.{call_of}
use Rattle.yp_command_mail.proofs.Calling.{front_set}
use Rattle.yp_command_mail.proofs.Going.{call_short, letter_goes}
use Rattle.yp_command_mail.proofs.mapper.AskingHandler.next.Goals as goal

pub unreachable-requires : goal.unreachable-requires
unreachable-requires c = omega (arith, c.in-Err.ensures.no_room, c.requires, call_short c.args.self.now.call)

pub returns-clause-goes : goal.returns-clause-goes
returns-clause-goes c =
    let old = c.args.self.now in
    letter_goes old.answer old.is_due old _ (sym c.is_some.ensures ∙ c.if-is_some.false) c.if-not-self.false
    (front_set c.args.buf.now c.write_port_call.new.buf (call_of old) c.in-Ok.len c.in-Ok.ensures.bytes_there c.in-Ok.ensures.place.0)
