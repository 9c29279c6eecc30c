use Rattle.yp_headline.proofs.RightWalk.{crashes, transfers}
use Rattle.yp_headline.proofs.worlds.holds_of_walk.Goals as goal

pub returns : goal.returns
returns c = record {
  crashes = crashes c.read_is_body.ensures c.walked_is_shown.ensures;
  transfers = transfers c.read_is_body.ensures c.walked_is_shown.ensures;
}
