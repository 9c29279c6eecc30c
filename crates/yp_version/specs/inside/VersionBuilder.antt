-- What the code keeps of a draft.
use Rattle.std.specs.Prelude.{◌≡◌, ◌+◌, true, length, IfSome}
use Rattle.yp_version.specs.Drafts.{Draft}
use Rattle.yp_version.specs.inside.Drafts.{IsDraft}
use Rattle.yp_version.specs.Rows.{IsRising, padded}
use Rattle.yp_version.specs.Table.{IsTable}
use Rattle.yp_version.specs.declared.builder.VersionBuilder.TheInside.{Inside}

-- the draft that the fields stand for
abbrev pub draft_of : Inside → Draft
draft_of inside = record {
  order = inside.order;
  master = inside.master.items;
  rows = inside.slab.rows;
}

-- the slab has the rows of a draft, and the table knows the first of them
pub record IsKept (inside : Inside) : Type 0 where
  pub draft : IsDraft (draft_of inside)
  pub head : length inside.slab.head ≡ 16 + padded (length inside.master.items)
  pub rising : inside.rising ≡ true → IsRising inside.slab.rows
  pub table : IfSome inside.table (λ table. IsTable table inside.slab.rows)
