use Rattle.yp_binding.proofs.portmap.Repeating.{repeats_nothing}
use Rattle.yp_binding.proofs.portmap.laws.repeated_call_changes_nothing.Goals as goal

pub returns : goal.returns
returns c = repeats_nothing
