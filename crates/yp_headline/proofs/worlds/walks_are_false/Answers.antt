use Rattle.yp_headline.proofs.WrongWalks as wrong
use Rattle.yp_headline.proofs.worlds.walks_are_false.Goals as goal

pub returns : goal.returns
returns c = record {
  gave_nothing = wrong.gave_nothing;
  rows_mixed = wrong.rows_mixed;
  row_skipped = wrong.row_skipped;
  copy_taken = wrong.copy_taken;
}
