-- What the code keeps of a plain board.
use Rattle.std.specs.Prelude.{◌≡◌, ℕ, ◌<◌, length, None, option_map, slice_index_or}
use Rattle.std.specs.Arc.{arc_value}
use Rattle.yp_board.specs.Logs.{shown}
use Rattle.yp_board.specs.Views.{Seen}
use Rattle.yp_board.specs.declared.plain.PlainBoard.TheInside.{Inside}

-- what the fields tell
abbrev pub seen_of : Inside → Seen
seen_of inside = record {
  catalogue = inside.catalog;
  known = inside.log;
  asked = inside.asked;
}

-- the last version of each map stands beside the log
pub record IsKept (inside : Inside) : Type 0 where
  pub count : length inside.last.items ≡ length inside.catalog.maps
  pub last : (k : ℕ) → k < length inside.last.items
      → option_map arc_value (slice_index_or inside.last.items k None) ≡ shown k inside.log
