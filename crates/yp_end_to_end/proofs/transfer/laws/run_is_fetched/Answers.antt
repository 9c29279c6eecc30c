use Rattle.yp_end_to_end.proofs.transfer.Sourcing.{run_is_fetched}
use Rattle.yp_end_to_end.proofs.transfer.laws.run_is_fetched.Goals as goal

pub returns : goal.returns
returns c =
    let replied = c.calls_have_replies.ensures in
    run_is_fetched (record { order = replied.order; master = replied.master; all = replied.all })
    c.run_is_on_logs.ensures c.turns_give_fetch.ensures c.fetched_is_shown.ensures c.wire_is_fetched.ensures
