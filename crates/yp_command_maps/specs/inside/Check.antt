-- What `check` tells of a version that was surveyed.
use Rattle.std.specs.Prelude.{ℕ, List}
use Rattle.yp_map_file.specs.declared.survey.Summary.{Summary}
use Rattle.yp_board.specs.Catalogues.{Name}
use Rattle.yp_command_maps.specs.Check.{check_text}

-- the line of the version that a summary sums up
abbrev pub summary_line : Name → ℕ → Summary → List ℕ
summary_line store generation summary =
    check_text store generation summary.order summary.master.items summary.rows summary.secure
