use Rattle.std.proofs.Common.{◌≡◌, bytes_eq, length}
use Rattle.indexmap.specs.IndexSet.{insert_all}
use Rattle.yp_netgroup.specs.Parts.{names, parts}
use Rattle.yp_netgroup.specs.inside.Who.{sought_of}
use Rattle.yp_netgroup.specs.inside.Seen.{names_of, has_sought}
use Rattle.yp_netgroup.proofs.search.read.Given as goal

abbrev pub invariant-loop-member : goal.invariant-loop-member
invariant-loop-member l = record {
  found : has_sought (sought_of l.sought) (parts l.rest) ≡ has_sought (sought_of l.sought) (parts l.text);
  met : insert_all bytes_eq (names_of l.seen) (names (parts l.rest)) ≡ insert_all bytes_eq (names_of l.initial.seen) (names (parts l.text));
}

abbrev pub decreases-loop-member : goal.decreases-loop-member
decreases-loop-member l = length l.rest
