-- How the text of a map is read, and which text that is.
use Rattle.std.specs.Prelude.{ℕ, List}
use Rattle.std.specs.Option.{option_map_or}
use Rattle.yp_texts.specs.declared.reading.Reading.{Reading}
use Rattle.yp_texts.specs.declared.reading.Reading.TheVariants.{Text, Rows}
use Rattle.yp_texts.specs.Kinds.{file_of, kind_named}

-- how the text of the map with this name is read: as that of the kind with its name, or else as rows
abbrev pub reading_of : List ℕ → Reading
reading_of map = option_map_or (λ kind. Text kind) (kind_named map) Rows

-- the name of the text of a map, which is read so: that of its kind, or else the name of the map
abbrev pub source_of : Reading → List ℕ → List ℕ
source_of (Text kind) map = file_of kind
source_of Rows map = map
