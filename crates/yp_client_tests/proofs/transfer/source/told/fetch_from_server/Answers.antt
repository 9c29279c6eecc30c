use Rattle.yp_version.specs.Versions.{MapVersion}
use Rattle.yp_client.specs.inside.States.{state_of}
use Rattle.yp_transfer.specs.inside.Requests.{wanted_by}
use Rattle.yp_transfer.specs.Fetched.{place_of}
use Rattle.yp_client_tests.proofs.Composing.{where_ok, unless_failed}
use Rattle.yp_client_tests.proofs.transfer.source.told.fetch_from_server.Goals as goal

pub returns-clause-shown : goal.returns-clause-shown
returns-clause-shown g c = λ catalogue fronts peer stream served word told gives.
    let wanted = wanted_by c.args.request.now in
    let first = c.args.client.now in
    where_ok wanted (place_of first.xid first.place stream) (state_of g.S.Source g.K.Sink first)
    (state_of g.S.Source g.K.Sink c.fetch.new.client) c.fetch.result _ (c.fetch.ensures.fetched stream told)
    (λ version fetched. c.fetched_is_shown.ensures catalogue fronts peer wanted first.xid first.place stream version
    served word c.requires.domain c.requires.map gives fetched)

pub returns-clause-complete : goal.returns-clause-complete
returns-clause-complete g c = λ moments peer stream source served word shown may some newer told gives.
    let wanted = wanted_by c.args.request.now in
    let first = c.args.client.now in
    unless_failed wanted (place_of first.xid first.place stream) (state_of g.S.Source g.K.Sink first)
    (state_of g.S.Source g.K.Sink c.fetch.new.client) c.fetch.result _ (c.fetch.ensures.fetched stream told)
    (λ fetched. c.shown_is_fetched.ensures moments peer wanted first.xid first.place stream source c.fetch.result
    served word c.requires.domain c.requires.map shown may some newer gives fetched)
