use Rattle.std.proofs.Common.{map}
use Rattle.yp_command.specs.Words.{row_view}
use Rattle.yp_command_serve.proofs.Pushed.{once_finished}
use Rattle.yp_command_serve.proofs.once.version_of.Goals as goal

pub returns-in-Ok-finish-clause-ok : goal.returns-in-Ok-finish-clause-ok
returns-in-Ok-finish-clause-ok g c =
    let rows = map row_view c.args.rows.now in
    once_finished rows c.in-Ok.builder c.push_rows.new.builder c.in-Ok-finish.version c.in-Ok.ensures c.in_default-push_rows.ensures.pushed c.in-Ok-finish.ensures
