use Rattle.std.proofs.Common.{◌≡◌, ◌∙◌}
use Rattle.yp_command_serve.proofs.sample.tally_of.Goals as goal

pub returns : goal.returns
returns c =
    let same : c.deref.result.now ≡ c.args.version = c.deref.ensures ∙ c.in-Ok.ensures.ok in
    rw same at c.tally.ensures
