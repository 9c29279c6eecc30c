-- What a file stands for that isn't damaged but for a body.
use Rattle.std.specs.Prelude.{ℕ, List, Option, Some, None}
use Rattle.yp_map_file.specs.declared.cells.Entry.{Entry}
use Rattle.yp_map_file.specs.Cells.{bytes_at}
use Rattle.yp_map_file.specs.Bodies.{body_at}
use Rattle.yp_map_file.specs.Stands.{Stands, by_body, Nothing}

-- what a file stands for that isn't damaged but for the body of the cell that wins, if one does
abbrev pub standing : Option Entry → List ℕ → Stands
standing None file = Nothing
standing (Some numbers) file = by_body numbers.place (body_at (bytes_at numbers.place numbers.len file))
