-- What the code keeps of a version.
use Rattle.std.specs.Prelude.{◌≡◌}
use Rattle.yp_version.specs.Bodies.{head_bytes}
use Rattle.yp_version.specs.Table.{IsWhole}
use Rattle.yp_version.specs.Versions.{MapVersion, IsVersion}
use Rattle.yp_version.specs.declared.version.Version.TheInside.{Inside}

-- the version that the fields stand for
abbrev pub version_of : Inside → MapVersion
version_of inside = record {
  order = inside.order;
  master = inside.master.items;
  secure = inside.secure;
  rows = inside.slab.rows;
}

-- the slab is the body of a version, and the table, where it has buckets, is that of all its rows
pub record IsKept (inside : Inside) : Type 0 where
  pub version : IsVersion (version_of inside)
  pub head : inside.slab.head ≡ head_bytes (version_of inside)
  pub table : IsWhole inside.table inside.slab.rows
