use Rattle.std.proofs.Common.{◌≡◌, ◌+◌, ◌<◌, [], ◌++◌, length, sym, ap, ◌∙◌, subst, List, ℕ, arith, take}
use Rattle.std.specs.Io.KnownBytes.{Appends}
use Rattle.std.proofs.lemmas.List.{append-nil, length-append}
use Rattle.std.proofs.lemmas.Result.{on_err_weaker}
use Rattle.yp_rpc.specs.Records.{sent}
use Rattle.yp_rpc.proofs.Whole.{on_err, alone, front_sent}
use Rattle.yp_rpc.proofs.record.writer.RecordWriter.send.Goals as goal

pub returns-in_err-put-clause-prefix : goal.returns-in_err-put-clause-prefix
returns-in_err-put-clause-prefix g c =
    let p = c.in_err-put.ensures.prefix [] in
    let whole = ap sent (alone c.args.self.now c.args.message.now c.requires.idle) in
    let taken : List ℕ → Type 0 =
    λ bytes. Appends (g.K.Sink.output c.args.sink.now) (g.K.Sink.output c.put.new.sink) (take p.0 bytes) in
    on_err _ c.from_residual.result (p.0, subst taken whole p.1)

pub returns-clause-prefix : goal.returns-clause-prefix
returns-clause-prefix g c =
    let old = c.args.self.now in
    let message = c.args.message.now in
    let rest = c.put.new.self in
    let put = c.in_ok-put.ensures.sent in
    let some : 0 < length rest = c.in_ok-put.ensures.pending (omega (arith, length-append old message)) in
    let more : 0 < length (rest ++ []) = rw append-nil some in
    let whole : sent message ≡ put.0 ++ sent rest =
    sym (ap sent (alone old message c.requires.idle)) ∙ put.2 [] more
    ∙ ap (λ (xs : List ℕ). put.0 ++ sent xs) (append-nil rest) in
    on_err_weaker c.end.result
    (λ h. (length put.0 + h.0, front_sent _ _ _ put.0 message rest h.0 put.1 h.1 whole)) c.end.ensures.prefix
