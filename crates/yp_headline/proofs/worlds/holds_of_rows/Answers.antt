use Rattle.yp_headline.proofs.Matched.{first_match}
use Rattle.yp_headline.proofs.Worked.{make_then_match, three_installs, skewed_source}
use Rattle.yp_headline.proofs.Fetching.{session_transfer, mail_transfer}
use Rattle.yp_headline.proofs.Right.{of_source}
use Rattle.yp_headline.proofs.Mailed.{two_inboxes}
use Rattle.yp_headline.proofs.LateMakes.{make_between}
use Rattle.yp_headline.proofs.Served.{served}
use Rattle.yp_headline.proofs.worlds.holds_of_rows.Goals as goal

pub returns : goal.returns
returns c = record {
  first_match = first_match;
  make_then_match = make_then_match;
  session_transfer = session_transfer
      (of_source c.read_is_body.ensures c.fetched_is_shown.ensures c.shown_between.ensures);
  mail_transfer = mail_transfer (of_source c.read_is_body.ensures c.fetched_is_shown.ensures c.shown_between.ensures);
  two_inboxes = two_inboxes;
  late_make = make_between;
  three_installs = three_installs;
  skewed_source = skewed_source;
  served = served;
}
