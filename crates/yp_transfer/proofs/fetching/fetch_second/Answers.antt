use Rattle.std.proofs.Common.{sym, ◌∙◌}
use Rattle.yp_client.specs.inside.States.{state_of}
use Rattle.yp_transfer.proofs.Going.{skewed, given, not_given}
use Rattle.yp_transfer.proofs.fetching.fetch_second.Goals as goal

pub returns-then-first-second : goal.returns-then-first-second
returns-then-first-second g c =
    let domain = c.args.request.now.domain.now in
    let map = c.args.request.now.map.now in
    let differ = rw (c.number-second.ensures.number) at c.if-first-second.true in
    rw (c.number-second.ensures.number)
    (skewed domain map c.args.builder c.in-Ok.order
    (state_of g.S.Source g.K.Sink c.args.client.now) (state_of g.S.Source g.K.Sink c.order-2.new.self) c.in-Ok.ensures
    c.number-first.result (c.number-first.ensures.number ∙ c.order.ensures) differ)

pub returns-in-Ok-finish : goal.returns-in-Ok-finish
returns-in-Ok-finish g c =
    let domain = c.args.request.now.domain.now in
    let map = c.args.request.now.map.now in
    let first = c.number-first.ensures.number ∙ c.order.ensures in
    given domain map c.args.builder c.in-Ok.order
    (state_of g.S.Source g.K.Sink c.args.client.now) (state_of g.S.Source g.K.Sink c.order-2.new.self) c.in-Ok.ensures
    c.in-Ok-finish.version (sym first ∙ c.if-first-second.false ∙ c.number-second.ensures.number) c.in-Ok-finish.ensures

pub returns-in-Err-finish : goal.returns-in-Err-finish
returns-in-Err-finish g c =
    let domain = c.args.request.now.domain.now in
    let map = c.args.request.now.map.now in
    let first = c.number-first.ensures.number ∙ c.order.ensures in
    not_given domain map c.args.builder c.in-Ok.order
    (state_of g.S.Source g.K.Sink c.args.client.now) (state_of g.S.Source g.K.Sink c.order-2.new.self) c.in-Ok.ensures
    (sym first ∙ c.if-first-second.false ∙ c.number-second.ensures.number)
