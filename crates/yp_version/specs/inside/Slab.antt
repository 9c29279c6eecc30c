-- What the code keeps of a slab.
use Rattle.std.specs.Prelude.{◌≡◌, length, take, map}
use Rattle.yp_version.specs.inside.Slabs.{Packed, Lies, row_from}
use Rattle.yp_version.specs.declared.slab.Slab.TheInside.{Inside}

-- the bytes before the rows, and the rows at their places
abbrev pub packed_of : Inside → Packed
packed_of inside = record {
  head = take inside.head_len inside.bytes.items;
  rows = map (row_from inside.bytes.items) inside.places.items;
}

-- the bytes are those before the rows, and the rows, which stand at their places
pub record IsPacked (inside : Inside) : Type 0 where
  pub lies : Lies inside.bytes.items inside.places.items (packed_of inside)
  pub head : inside.head_len ≡ length (packed_of inside).head
