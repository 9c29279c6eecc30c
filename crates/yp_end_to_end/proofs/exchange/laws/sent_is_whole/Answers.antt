use Rattle.yp_end_to_end.proofs.exchange.Sent.{sent_is_whole}
use Rattle.yp_end_to_end.proofs.exchange.laws.sent_is_whole.Goals as goal

pub returns : goal.returns
returns c = sent_is_whole
