use Rattle.std.proofs.Common.{ap, ◌∙◌}
use Rattle.yp_board.specs.Logs.{shown}
use Rattle.yp_publisher.specs.Standing.{Published, versions}
use Rattle.yp_command_serve.proofs.serve.Starts.{start_of}
use Rattle.yp_command_serve.proofs.serve.resources.publisher_of.Goals as goal

pub new-requires-clause-shown : goal.new-requires-clause-shown
new-requires-clause-shown g c = λ number.
    ap (shown number) c.requires.log ∙ c.starts_are_shown.ensures (versions c.args.loaded) number

pub returns-clause-start : goal.returns-clause-start
returns-clause-start g c =
    start_of c.beginning_is_start.ensures g.B.Show.log c.new.result c.args.loaded
    (ap (λ (p : Published g.row.D.Denot g.row.B.Denot). p.maps) c.new.ensures)
    (ap (λ (p : Published g.row.D.Denot g.row.B.Denot). g.B.Show.log p.board) c.new.ensures ∙ c.requires.log)
    c.requires.level
