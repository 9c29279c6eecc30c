-- The text of `orders`, and whether all servers have the same orders.
use Rattle.std.specs.Prelude.{◌≡◌, ℕ, List, [], ◌∷◌, ◌++◌, codes, decimal, flat_map, All, Option, Some, None}
use Rattle.std.specs.Prelude.{slice_index_or}
use Rattle.std.specs.List.{enumerate_from}
use Rattle.yp_client.specs.query.Lines.{line}
use Rattle.yp_client.specs.orders.Asked.{Mastered, Orders, Comparison}

-- an order in decimal, or that there is none
abbrev pub order_text : Option ℕ → List ℕ
order_text (Some order) = decimal order
order_text None = codes "none"

-- the order of the map with this number, behind a space
abbrev pub order_column : ℕ → Orders → List ℕ
order_column number orders = 32 ∷ order_text (slice_index_or orders number None)

-- the line of a map, by its number: its name, its master, and its order at each server, with spaces between
abbrev pub map_line : Comparison → ℕ × Mastered → List ℕ
map_line comparison (number, map) =
    line ((map.0 ++ 32 ∷ map.1)
    ++ (order_column number comparison.survey.orders ++ flat_map (order_column number) comparison.others))

-- a line for each map, in the order in which the first server names them
abbrev pub comparison_text : Comparison → List ℕ
comparison_text comparison = flat_map (map_line comparison) (enumerate_from 0 comparison.survey.maps)

-- each server has the orders of the first, and none where that has none
abbrev pub IsLevel : Comparison → Type 0
IsLevel comparison = All (λ orders. orders ≡ comparison.survey.orders) comparison.others
