use Rattle.std.proofs.Common.{ap, ◌∙◌}
use Rattle.yp_answer.specs.Maps.{Maps, maps_of}
use Rattle.yp_command_serve.specs.Callers.{reply_to}
use Rattle.yp_command_serve.specs.Sample.{reply_len, sample_all}
use Rattle.yp_command_serve.proofs.Counted.{tally_is}
use Rattle.yp_command_serve.proofs.sample.tally.Goals as goal

pub returns : goal.returns
returns c =
    tally_is c.args.version.now (maps_of c.args.board) c.len.result c.body_len.result c.in_ok-all.all c.in_ok-matched.matched c.requires c.len.ensures.len c.body_len.ensures.len
    (c.in_ok-all.ensures ∙ ap (λ (m : Maps). reply_len (reply_to m sample_all)) c.count_matched.ensures.maps) c.in_ok-matched.ensures.matched
