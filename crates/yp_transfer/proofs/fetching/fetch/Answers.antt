use Rattle.yp_client.specs.inside.States.{state_of}
use Rattle.yp_transfer.specs.inside.Requests.{wanted_by}
use Rattle.yp_transfer.proofs.ByBytes.{is_fetched}
use Rattle.yp_transfer.proofs.fetching.fetch.Goals as goal

pub returns-clause-fetched : goal.returns-clause-fetched
returns-clause-fetched g c =
    let did = c.fetch_by_calls in
    is_fetched (wanted_by c.args.request.now) did.result
    (state_of g.S.Source g.K.Sink c.args.client.now) (state_of g.S.Source g.K.Sink did.new.client) c.requires.unspent
    did.ensures
