use Rattle.std.proofs.Common.{refl, sym, subst, inl, inr}
use Rattle.yp_messages.specs.inside.Transfers.{req_xfr_view}
use Rattle.yp_client.specs.States.{ClientModel}
use Rattle.yp_client.specs.inside.States.{state_of, unspent}
use Rattle.yp_push.specs.turns.Sendings.{IsCalled}
use Rattle.yp_push.proofs.turns.sending.call_over.Goals as goal

pub returns-in-Err : goal.returns-in-Err
returns-in-Err g c = (unspent c.args.wire 1 0, sym c.in-Err.ensures, inr (refl, refl))

pub returns : goal.returns
returns g c =
    let state = state_of g.S.Source g.K.Sink in
    let last = c.xfr-answer.new.self in
    let P : ClientModel g.row.S.Denot g.row.K.Denot → Type 0 =
    λ first. IsCalled (req_xfr_view c.args.request.now) c.xfr-answer.result (state first) (state last) in
    (last, sym c.into_wire.ensures, subst P c.in-Ok.ensures (inl c.xfr-answer.ensures))
