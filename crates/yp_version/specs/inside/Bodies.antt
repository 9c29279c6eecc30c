-- The bytes of a version's body, row by row.
use Rattle.std.specs.Prelude.{◌≡◌, ℕ, List, ◌++◌}
use Rattle.std.specs.List.{flat_map}
use Rattle.yp_xdr.specs.Kind.{Opaque}
use Rattle.yp_xdr.specs.Spelling.{spelling}
use Rattle.yp_version.specs.Limits.{key_max, value_max}
use Rattle.yp_version.specs.Rows.{Row}
use Rattle.yp_version.specs.Versions.{MapVersion, IsVersion}
use Rattle.yp_version.specs.Bodies.{head_bytes}

-- a row's key and its value, each for itself
abbrev pub spelled_row : Row → List ℕ × List ℕ
spelled_row row = (spelling (Opaque key_max) row.0, spelling (Opaque value_max) row.1)

-- a row: its key and then its value
unfoldable pub row_bytes : Row → List ℕ
row_bytes row = spelling (Opaque key_max) row.0 ++ spelling (Opaque value_max) row.1

-- the whole body
abbrev pub body : MapVersion → List ℕ
body version = head_bytes version ++ flat_map row_bytes version.rows

-- These bytes are the body of this version.
pub record IsBody (bytes : List ℕ) (version : MapVersion) : Type 0 where
  pub within : IsVersion version
  pub spelled : bytes ≡ body version
