use Rattle.yp_headline.proofs.Right.{crashes, transfers}
use Rattle.yp_headline.proofs.worlds.holds_of_transfer.Goals as goal

pub returns : goal.returns
returns c = record {
  crashes = crashes;
  transfers = transfers c.read_is_body.ensures c.fetched_is_shown.ensures c.shown_between.ensures;
}
