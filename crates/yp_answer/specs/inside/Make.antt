-- That a map is made of what its name says.
use Rattle.std.specs.Prelude.{◌≡◌}
use Rattle.yp_board.specs.Catalogues.{Catalogue}
use Rattle.yp_answer.specs.declared.make.MakeJob.{MakeJob}
use Rattle.yp_answer.specs.Make.{map_name, making_of}

-- A map is made of what its name says.
abbrev pub IsMadeAsNamed : Catalogue → MakeJob → Type 0
IsMadeAsNamed catalogue job = job.making ≡ making_of (map_name job.map catalogue)
