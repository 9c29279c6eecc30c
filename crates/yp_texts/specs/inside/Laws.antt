-- What holds of every version that is built, and of rows that are told.
use Rattle.std.specs.Prelude.{◌≡◌, ◌≤◌, List, None, Ok, Option}
use Rattle.yp_version.specs.Rows.{Row}
use Rattle.yp_version.specs.Versions.{MapVersion}
use Rattle.yp_texts.specs.declared.reading.Reading.TheVariants.{Rows}
use Rattle.yp_texts.specs.Rows.{rows as rows_of}
use Rattle.yp_texts.specs.Pushes.{plain}
use Rattle.yp_texts.specs.Dumps.{dump_text, first_unfit}
use Rattle.yp_texts.specs.Builds.{order_max}
use Rattle.yp_texts.specs.After.{Basis, Material, other_master, secured, built_after, HasLaterOrder}

-- A version that was built from a text for one shown version is also what is built for another shown version of a lower
-- order, at the moment of the built version's own order, but for its mark. So a built version may be shown although a
-- newer one than it was built for is shown meanwhile.
abbrev pub BuiltIsBuiltBehind : Type 0
BuiltIsBuiltBehind = (basis : Basis) (material : Material) (version : MapVersion) (last : Option MapVersion)
    → built_after basis material ≡ Ok version → version.order ≤ order_max → other_master basis.own last ≡ None
    → HasLaterOrder last version
    → built_after (record basis { last = last }) (record material { moment = version.order })
    ≡ Ok (secured basis.flag last version)

-- Rows that all fit a line are read again of their text.
abbrev pub DumpIsReadAgain : Type 0
DumpIsReadAgain = (rows : List Row) → first_unfit 1 rows ≡ None → plain (rows_of Rows (dump_text rows)) ≡ rows
