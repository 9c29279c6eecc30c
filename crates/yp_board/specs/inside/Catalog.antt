-- What the code keeps of a catalogue.
use Rattle.std.specs.Prelude.{◌≡◌, ◌<◌, map, length, All, slice_index_or, []}
use Rattle.yp_board.specs.Catalogues.{Catalogue, IsCatalogue, name_view, listed}
use Rattle.yp_board.specs.declared.catalog.Catalog.TheInside.{Inside}

-- the catalogue that the fields stand for
abbrev pub catalogue_of : Inside → Catalogue
catalogue_of inside = record {
  own = inside.own.items;
  maps = map name_view inside.maps.items;
}

-- the fields keep a catalogue, and the numbers of its maps in rising order of their names
pub record IsKept (inside : Inside) : Type 0 where
  pub catalogue : IsCatalogue (catalogue_of inside)
  pub numbers : All (λ map. map < length inside.maps.items) inside.listed.items
  pub rising :
      map (λ number. slice_index_or (map name_view inside.maps.items) number ([], [])) inside.listed.items
      ≡ listed (map name_view inside.maps.items)
