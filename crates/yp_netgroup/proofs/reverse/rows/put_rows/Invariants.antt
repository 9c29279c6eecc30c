use Rattle.std.proofs.Common.{[], List, take}
use Rattle.yp_version.specs.Rows.{Row}
use Rattle.yp_version.specs.Drafts.{Draft}
use Rattle.yp_netgroup.specs.declared.reverse.field.Field.{Field}
use Rattle.yp_netgroup.specs.inside.reverse.Links.{bytes_in}
use Rattle.yp_netgroup.specs.inside.reverse.Groups.{IsKeptOf}
use Rattle.yp_netgroup.specs.inside.reverse.Refused.{IsSoFar}
use Rattle.yp_netgroup.proofs.reverse.rows.put_rows.Given as goal

abbrev pub invariant-loop-key : goal.invariant-loop-key
invariant-loop-key g l =
    (rows : List Row) (field : Field) (start : Draft) → IsKeptOf rows field l.named l.listed
    → IsSoFar rows field start l.initial.builder []
    → IsSoFar rows field start l.builder (take l.key-index (bytes_in l.keys))
