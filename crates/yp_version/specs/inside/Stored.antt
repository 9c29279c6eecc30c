-- A stored body whose rows are found.
use Rattle.std.specs.Prelude.{◌≡◌, ℕ, ◌+◌, List, length}
use Rattle.yp_version.specs.Rows.{padded}
use Rattle.yp_version.specs.Versions.{MapVersion}
use Rattle.yp_version.specs.inside.Bodies.{IsBody}
use Rattle.yp_version.specs.inside.Slabs.{places_from}

-- the place of each row in the body of a version
abbrev pub row_places : MapVersion → List ℕ
row_places version = places_from (16 + padded (length version.master)) version.rows

-- bytes are the body of a version, whose rows stand at these places
pub record IsStoredBody (bytes starts : List ℕ) (version : MapVersion) : Type 0 where
  pub body : IsBody bytes version
  pub places : starts ≡ row_places version
