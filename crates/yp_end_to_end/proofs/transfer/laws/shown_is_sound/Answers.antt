use Rattle.yp_end_to_end.proofs.transfer.Between.{shown_is_sound}
use Rattle.yp_end_to_end.proofs.transfer.laws.shown_is_sound.Goals as goal

pub returns : goal.returns
returns c = shown_is_sound
