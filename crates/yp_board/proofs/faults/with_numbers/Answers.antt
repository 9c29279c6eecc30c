use Rattle.std.proofs.Common.{arith}
use Rattle.yp_board.specs.Catalogues.{name_view}
use Rattle.yp_board.proofs.Again.{front-map}
use Rattle.yp_board.proofs.faults.with_numbers.Goals as goal

pub returns-clause-names : goal.returns-clause-names
returns-clause-names c =
    front-map name_view 4294967296 c.min.result c.args.maps.now (omega arith)
