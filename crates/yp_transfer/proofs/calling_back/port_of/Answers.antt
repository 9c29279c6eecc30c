use Rattle.std.proofs.Common.{◌≡◌, ℕ, Option, refl, sym, ◌∙◌, ap, arith}
use Rattle.yp_io.specs.Dials.{came_in}
use Rattle.yp_xdr.specs.Spelling.{opaque, fixed}
use Rattle.yp_messages.specs.Numbers.{push_version}
use Rattle.yp_binding.specs.portmap.Asking.{getport_call}
use Rattle.yp_binding.specs.portmap.Numbers.{udp}
use Rattle.yp_transfer.specs.CallBack.{port_in, port_told}
use Rattle.yp_transfer.proofs.Setting.{front_set}
use Rattle.yp_transfer.proofs.Telling.{port_asked}
use Rattle.yp_transfer.proofs.calling_back.port_of.Goals as goal

pub unreachable-requires : goal.unreachable-requires
unfolding opaque fixed
unreachable-requires g c = omega (arith, c.in-Err.ensures.no_room)

pub returns-in-Some-clause-asked : goal.returns-in-Some-clause-asked
returns-in-Some-clause-asked g c =
    let asker = c.args.asker.now in
    port_asked asker _ c.ask.new.buf c.in_ok-len.field-0 c.port_in.result _ _
    (front_set _ c.ask_port.new.buf (getport_call asker.transid asker.prog push_version udp) c.in-Ok.len
    c.in-Ok.ensures.bytes_there c.in-Ok.ensures.place.0)
    c.in_ok-len.ensures.sent
    (c.port_in.ensures ∙ ap (port_in asker.transid) c.read_port.ensures
    ∙ sym (ap (λ (came : Option ℕ). port_told asker.transid (came_in c.ask.new.buf came)) c.in-Some.is))

pub returns-in-None-clause-asked : goal.returns-in-None-clause-asked
returns-in-None-clause-asked g c =
    let asker = c.args.asker.now in
    port_asked asker _ c.ask.new.buf c.in_ok-len.field-0 _ _ _
    (front_set _ c.ask_port.new.buf (getport_call asker.transid asker.prog push_version udp) c.in-Ok.len
    c.in-Ok.ensures.bytes_there c.in-Ok.ensures.place.0)
    c.in_ok-len.ensures.sent
    (sym (ap (λ (came : Option ℕ). port_told asker.transid (came_in c.ask.new.buf came)) c.in-None.is))
