use Rattle.yp_headline.proofs.Wrong as wrong
use Rattle.yp_headline.proofs.Matched as matched
use Rattle.yp_headline.proofs.Mailed as mailed
use Rattle.yp_headline.proofs.LateMakes as late
use Rattle.yp_headline.proofs.worlds.replies_are_false.Goals as goal

pub returns : goal.returns
returns c =
    let one = c.cut_is_one.ensures in
    record {
      unanswered = wrong.unanswered one;
      another_xid = wrong.another_xid one;
      answered_twice = wrong.answered_twice one;
      answered_short = wrong.answered_short one;
      unasked = wrong.unasked one;
      out_of_order = wrong.out_of_order one;
      second_unanswered = wrong.second_unanswered one;
      mail_unanswered = wrong.mail_unanswered one;
      mail_of_another = wrong.mail_of_another one;
      mail_too_long = mailed.mail_too_long;
      mail_lost_and_sent = mailed.mail_lost_and_sent;
      mail_goes_back = mailed.mail_goes_back;
      late_unanswered = late.late_unanswered;
      late_and_known = late.late_and_known;
      late_of_no_make = late.late_of_no_make;
      late_to_nobody = late.late_to_nobody;
      never_shown = matched.never_shown one;
      answered_as_null = matched.answered_as_null one;
    }
