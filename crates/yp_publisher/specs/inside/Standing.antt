-- The name of a standing, as the code has it, and what a publisher knows.
use Rattle.yp_io.specs.Counts.{last_count}
use Rattle.yp_board.specs.Logs.{Log}
use Rattle.yp_board.specs.Views.{Seen}
use Rattle.yp_publisher.specs.declared.publisher.Standing.{Standing}
use Rattle.yp_publisher.specs.declared.publisher.Standing.TheVariants as name
use Rattle.yp_publisher.specs.Standing.{MapStanding, Level, Behind, Published}

-- the name of a standing
abbrev pub standing_name : MapStanding → Standing
standing_name Level = name.Level
standing_name (Behind failed) = name.Behind

-- what a publisher knows: the whole log; the count of its read steps stands at the last count
abbrev pub knows_all : {D B : Type 0} → (B → Log) → Published D B → Seen
knows_all log published =
    record { catalogue = published.catalogue; known = log published.board; asked = last_count }
