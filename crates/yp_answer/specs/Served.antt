-- What holds of the maps that every server answers from.
use Rattle.std.specs.Prelude.{All}
use Rattle.yp_version.specs.Versions.{IsVersion}
use Rattle.yp_board.specs.Catalogues.{Catalogue, IsCatalogue}
use Rattle.yp_board.specs.Logs.{Log}
use Rattle.yp_answer.specs.Maps.{Maps}

-- the maps of a catalogue, of which a log is known
abbrev pub maps_on : Catalogue → Log → Maps
maps_on catalogue log = record { catalogue = catalogue; log = log }

-- a catalogue, and versions within their limits
pub record AreServed (maps : Maps) : Type 0 where
  pub catalogue : IsCatalogue maps.catalogue
  pub versions : All (λ entry. IsVersion entry.1) maps.log
