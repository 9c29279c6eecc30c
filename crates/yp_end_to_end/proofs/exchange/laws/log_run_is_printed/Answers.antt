use Rattle.yp_end_to_end.proofs.exchange.OnLogs.{log_run_is_printed}
use Rattle.yp_end_to_end.proofs.exchange.laws.log_run_is_printed.Goals as goal

pub returns : goal.returns
returns c =
    let replied = c.calls_have_replies.ensures in
    log_run_is_printed (record { value = replied.value; all = replied.all; master = replied.master; order = replied.order; names = replied.names; pull = replied.pull; make = c.make_tells.ensures.response })
    c.run_is_in_turn.ensures c.run_is_printed.ensures
