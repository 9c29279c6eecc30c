-- The body of a version, as it is stored: XDR values in a row (RFC 4506). What stands in it is this project's own.
use Rattle.std.specs.Prelude.{ℕ, Bool, List, ◌++◌, length, if◌then◌else◌}
use Rattle.yp_xdr.specs.Kind.{U32, Opaque}
use Rattle.yp_xdr.specs.Spelling.{spelling}
use Rattle.yp_version.specs.Limits.{master_max}
use Rattle.yp_version.specs.Versions.{MapVersion}

-- the first word says whether the version is secure
abbrev pub format : Bool → ℕ
format secure = if secure then 2 else 1

-- format, order, master and count of rows
unfoldable pub front_bytes : ℕ → ℕ → List ℕ → ℕ → List ℕ
front_bytes number order master count =
    spelling U32 number ++ spelling U32 order ++ spelling (Opaque master_max) master ++ spelling U32 count

-- what stands before the rows
abbrev pub head_bytes : MapVersion → List ℕ
head_bytes version = front_bytes (format version.secure) version.order version.master (length version.rows)
