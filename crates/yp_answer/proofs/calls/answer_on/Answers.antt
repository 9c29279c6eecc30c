use Rattle.std.proofs.Common.{length, sym, ap, ◌∙◌, arith}
use Rattle.std.proofs.lemmas.List.{length-take}
use Rattle.yp_answer.specs.Maps.{Maps, maps_of}
use Rattle.yp_answer.specs.Reply.{Bytes, judged_reply}
use Rattle.yp_answer.proofs.Rooms.{least_room, head_some}
use Rattle.yp_answer.proofs.calls.answer_on.Goals as goal

pub returns-in-Refused-clause-reply : goal.returns-in-Refused-clause-reply
returns-in-Refused-clause-reply g c =
    let maps : Maps = maps_of (g.V.View.seen c.args.view.now) in
    let len = c.put_head.result in
    let buf = c.put_head.new.buf in
    record {
      some = omega (arith, ap length c.put_head.ensures.head, length-take len buf, head_some c.in-Refused.xid c.in-Refused.head);
      within = omega (arith, c.put_head.ensures.short, c.put_head.auto.buf, least_room c.args.path, c.requires);
      bytes =
          ap (judged_reply c.args.path maps c.args.peer c.args.record.now) (sym c.in-Refused.ensures.judged) ∙ ap Bytes (sym c.put_head.ensures.head);
    }
