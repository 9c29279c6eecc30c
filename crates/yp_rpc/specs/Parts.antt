-- What the code keeps of a record that is given piece by piece.
use Rattle.yp_rpc.specs.declared.record.reader.Part.{Part as Kept}
use Rattle.yp_rpc.specs.Pieces.{Part}

abbrev pub part_of : Kept → Part
part_of part = record {
  named =
      part.named;
  empty = part.empty;
  left = part.left;
  last = part.last;
  passed = part.passed;
}
