-- What came in turn.
use Rattle.std.specs.Prelude.{List, [], ◌∷◌, ◌++◌}
use Rattle.yp_io.specs.declared.trail.Past.{Past}
use Rattle.yp_io.specs.declared.trail.Past.TheVariants.{Empty, Grown'}

-- what came, in its order
abbrev pub items_of : {T : Type 0} → Past T → List T
items_of Empty = []
items_of (Grown' _ before last) = items_of before ++ last.value ∷ []
