use Rattle.yp_client.specs.inside.States.{state_of}
use Rattle.yp_transfer.proofs.Going.{rows_refused, rows_taken}
use Rattle.yp_transfer.proofs.fetching.fetch_rows.Goals as goal

pub returns-in-Err : goal.returns-in-Err
returns-in-Err g c =
    let domain = c.args.request.now.domain.now in
    let map = c.args.request.now.map.now in
    rows_refused domain map c.args.builder c.all.new.into c.in-Err.fault c.into.result
    (state_of g.S.Source g.K.Sink c.args.client.now) (state_of g.S.Source g.K.Sink c.all.new.self) c.in-Err.ensures.calls
    c.into.ensures

pub returns : goal.returns
returns g c =
    let domain = c.args.request.now.domain.now in
    let map = c.args.request.now.map.now in
    rows_taken domain map c.args.builder c.all.new.into c.in-Ok.field-0 c.fetch_second.result
    (state_of g.S.Source g.K.Sink c.args.client.now) (state_of g.S.Source g.K.Sink c.all.new.self)
    (state_of g.S.Source g.K.Sink c.fetch_second.new.client) c.in-Ok.ensures.calls c.fetch_second.ensures
