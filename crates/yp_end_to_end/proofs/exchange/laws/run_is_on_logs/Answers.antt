use Rattle.yp_end_to_end.proofs.exchange.OnLogs.{run_is_on_logs}
use Rattle.yp_end_to_end.proofs.exchange.laws.run_is_on_logs.Goals as goal

pub returns : goal.returns
returns c = run_is_on_logs
