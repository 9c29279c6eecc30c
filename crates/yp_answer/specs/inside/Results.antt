-- The bytes of a map in a list.
use Rattle.std.specs.Prelude.{ℕ, if◌then◌else◌, List, [], ◌∷◌, Some}
use Rattle.yp_xdr.specs.Spelling.{spelling}
use Rattle.yp_messages.specs.inside.MapLists.{map_item}
use Rattle.yp_board.specs.Catalogues.{Name}
use Rattle.yp_answer.specs.Maps.{Maps}
use Rattle.yp_answer.specs.Results.{is_listed}

-- the bytes of a map in the list, and none where it isn't listed
abbrev pub map_part : Maps → List ℕ → Name → List ℕ
map_part maps domain named = if is_listed maps domain named then spelling map_item (Some named.1) else []
