-- Names that a catalogue refuses, and the first fault of its list.
use Rattle.std.specs.Prelude.{ℕ, ◌+◌, Bool, not, ◌&&◌, List, [], ◌∷◌, ◌++◌, length, take, position}
use Rattle.std.specs.Prelude.{Option, None, Some, if◌then◌else◌, nat_lt}
use Rattle.std.specs.List.{list_any}
use Rattle.std.specs.Option.{option_map_or}
-- the most bytes of a name (`yp.x`, YPMAXDOMAIN, YPMAXMAP, YPMAXPEER)
use Rattle.yp_board.specs.declared.catalog.CatalogFault.{CatalogFault}
use Rattle.yp_board.specs.declared.catalog.CatalogFault.TheVariants.{OwnName, BadName, Twice, TooMany}
use Rattle.yp_board.specs.Catalogues.{Name, maps_max, is_same, is_name}

-- both parts of a name are such bytes
abbrev pub is_map_name : Name → Bool
is_map_name name = is_name name.0 && is_name name.1

-- the maps that have a number of 32 bits
abbrev pub with_numbers : List Name → List Name
with_numbers maps = take 4294967296 maps

-- the first name that stands among those before it, counted from a number
abbrev pub again_from : ℕ → List Name → List Name → Option ℕ
again_from at before [] = None
again_from at before (name ∷ names) =
    if list_any (is_same name) before then Some at else again_from (at + 1) (before ++ name ∷ []) names

-- the number of the first map whose name has a part that is empty or too long
abbrev pub bad_name : List Name → Option ℕ
bad_name maps = position (λ name. not (is_map_name name)) (with_numbers maps)

-- the number of the first map whose name stands a second time
abbrev pub twice : List Name → Option ℕ
twice maps = again_from 0 [] (with_numbers maps)

-- what is wrong with maps whose names are good
abbrev pub maps_fault : List Name → Option CatalogFault
maps_fault maps =
    option_map_or (λ index. Some (Twice index)) (twice maps)
    (if nat_lt maps_max (length maps) then Some TooMany else None)

-- what is wrong with an own name and maps, the first fault that applies
abbrev pub catalog_fault : List ℕ → List Name → Option CatalogFault
catalog_fault own maps =
    if not (is_name own) then Some OwnName
    else option_map_or (λ index. Some (BadName index)) (bad_name maps) (maps_fault maps)
