use Rattle.std.proofs.Common.{◌≡◌, ap, ◌∙◌}
use Rattle.std.proofs.lemmas.Result.{err_from_is_err_and}
use Rattle.yp_rpc.specs.Records.{sent}
use Rattle.yp_rpc.proofs.Holding.{room_for_one, idle, all_sent, flushed}
use Rattle.yp_rpc.proofs.record.writer.RecordWriter.end.Goals as goal

pub close-requires : goal.close-requires
close-requires g c = room_for_one c.self.inside.batch c.self.invariant.holds

pub returns-in_err-send-clause-prefix : goal.returns-in_err-send-clause-prefix
returns-in_err-send-clause-prefix g c =
    let all : c.close.new.self.whole ≡ sent c.args.self.now =
    ap (λ w. w.whole) c.close.ensures
    ∙ all_sent c.self.inside.batch c.args.self.now c.self.view_is c.self.invariant c.requires in
    let p = err_from_is_err_and c.from_residual.result c.from_residual.ensures.1 in
    let part = c.in_err-send.ensures.prefix in
    rw (p.1, ← all) (part.0, part.2)

pub returns-in_err-send-clause-as_new : goal.returns-in_err-send-clause-as_new
returns-in_err-send-clause-as_new g c = idle c.send.new.self c.send.ensures.as_new

pub returns-clause-sent : goal.returns-clause-sent
returns-clause-sent g c =
    let all : c.close.new.self.whole ≡ sent c.args.self.now =
    ap (λ w. w.whole) c.close.ensures
    ∙ all_sent c.self.inside.batch c.args.self.now c.self.view_is c.self.invariant c.requires in
    (flushed c.flush.result _ _ _ c.close.new.self.whole
    (sent c.args.self.now) all c.in_ok-send.ensures.sent c.flush.ensures.bytes).0

pub returns-clause-prefix : goal.returns-clause-prefix
returns-clause-prefix g c =
    let all : c.close.new.self.whole ≡ sent c.args.self.now =
    ap (λ w. w.whole) c.close.ensures
    ∙ all_sent c.self.inside.batch c.args.self.now c.self.view_is c.self.invariant c.requires in
    (flushed c.flush.result _ _ _ c.close.new.self.whole
    (sent c.args.self.now) all c.in_ok-send.ensures.sent c.flush.ensures.bytes).1

pub returns-clause-as_new : goal.returns-clause-as_new
returns-clause-as_new g c = idle c.send.new.self c.send.ensures.as_new
