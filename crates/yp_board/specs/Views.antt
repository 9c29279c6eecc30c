-- What a view of a board tells, and what a read step does to it.
use Rattle.std.specs.Prelude.{◌≡◌, ℕ, List, ◌++◌}
use Rattle.yp_io.specs.Counts.{next_count}
use Rattle.yp_board.specs.Catalogues.{Catalogue}
use Rattle.yp_board.specs.Logs.{Log}

-- its catalogue, the front of the board's log that it knows, and how often it was asked, up to the last count
pub record Seen : Type 0 where
  pub catalogue : Catalogue
  pub known : Log
  pub asked : ℕ

-- a log is the other one, with more behind it or nothing
abbrev pub IsFront : {E : Type 0} → List E → List E → Type 0
IsFront {E} front log = (more : List E) × (log ≡ front ++ more)

-- a read step: it counts, and what is known stays the front of what is known
pub record Refreshes (old new : Seen) : Type 0 where
  pub catalogue : new.catalogue ≡ old.catalogue
  pub grown : IsFront old.known new.known
  pub asked : new.asked ≡ next_count old.asked
