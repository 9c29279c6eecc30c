use Rattle.yp_headline.proofs.Torn.{of_no_server}
use Rattle.yp_headline.proofs.Skewed as skewed
use Rattle.yp_headline.proofs.Mixed as mixed
use Rattle.yp_headline.proofs.Called as called
use Rattle.yp_headline.proofs.Asked as asked
use Rattle.yp_headline.proofs.worlds.transfers_are_false.Goals as goal

pub returns : goal.returns
returns c =
    let one = c.first_is_one.ensures in
    record {
      of_no_server = of_no_server;
      gave_nothing = skewed.gave_nothing one;
      gave_order = skewed.gave_order one;
      gave_no_rows = skewed.gave_no_rows one;
      gave_skewed = skewed.gave_skewed one;
      gave_refusal = mixed.gave_refusal one;
      of_another_call = mixed.of_another_call one;
      stored_nothing = mixed.stored_nothing one;
      stored_another_row = mixed.stored_another_row one;
      stored_another_order = mixed.stored_another_order one;
      row_missing = mixed.row_missing one;
      row_added = mixed.row_added one;
      called_without_call = called.called_without_call;
      called_of_no_server = called.called_of_no_server;
      called_of_order = called.called_of_order one;
      called_of_skewed = called.called_of_skewed one;
      called_unshown = called.called_unshown one;
      of_another_host = called.of_another_host;
      called_twice = called.called_twice one;
      entered_before = called.entered_before one;
      asked_by_nobody = asked.asked_by_nobody;
      asked_of_no_server = asked.asked_of_no_server;
      asked_unshown = asked.asked_unshown one;
      asked_when_shown = asked.asked_when_shown;
      asked_elsewhere = asked.asked_elsewhere;
      asked_at_another_port = asked.asked_at_another_port one;
      asked_once_more = asked.asked_once_more one;
      mail_elsewhere = asked.mail_elsewhere;
    }
