use Rattle.std.proofs.Common.{refl, sym, ap, ◌∙◌}
use Rattle.yp_board.specs.Logs.{shown}
use Rattle.yp_server.proofs.resources.disassemble.Goals as goal

pub returns-clause-stand : goal.returns-clause-stand
returns-clause-stand g c = (
  record {
    kept = c.args.publisher.maps;
    disks_are = c.into_parts.ensures.disks;
    count = c.catalog-catalog.ensures.maps;
    shows = λ number. ap (λ b. shown number (g.B.Show.log b)) (sym c.into_parts.ensures.board)
        ∙ c.into_parts.ensures.shown number;
    standing = c.into_parts.ensures.standing;
  },
  refl,
)
