-- These maps are those of a server.
use Rattle.std.proofs.Common.{◌≤◌, [], length, arith}
use Rattle.std.specs.List.{IsDistinct}
use Rattle.std.specs.List.Sorted.{IsStrictlySortedBy}
use Rattle.std.proofs.lemmas.List.Elements.{All-nil, All-cons}
use Rattle.yp_version.specs.Versions.{IsVersion}
use Rattle.yp_version.specs.Rows.{Row}
use Rattle.yp_board.specs.Catalogues.{Name, IsName}
use Rattle.yp_client_tests.specs.Hosts.{lab, hosts, alpha, address, hosts_version, hosts_maps}
use Rattle.yp_answer.specs.Served.{AreServed}

hosts_is_version : IsVersion hosts_version
unfolding IsStrictlySortedBy
hosts_is_version = record {
  order = omega arith;
  master = omega arith;
  rising = (tt, tt);
  keys = All-cons (λ (row : Row). length row.0 ≤ 65536) (alpha, address) [] (omega arith) (All-nil (λ (row : Row). length row.0 ≤ 65536));
  values = All-cons (λ (row : Row). length row.1 ≤ 65536) (alpha, address) [] (omega arith) (All-nil (λ (row : Row). length row.1 ≤ 65536));
  count = omega arith;
  body = omega arith;
}

pub hosts_are_served : AreServed hosts_maps
unfolding IsDistinct
hosts_are_served = record {
  catalogue = record {
    own = record { some = omega arith; within = omega arith };
    domains = All-cons (λ (name : Name). IsName name.0) (lab, hosts) [] (record { some = omega arith; within = omega arith }) (All-nil (λ (name : Name). IsName name.0));
    maps = All-cons (λ (name : Name). IsName name.1) (lab, hosts) [] (record { some = omega arith; within = omega arith }) (All-nil (λ (name : Name). IsName name.1));
    distinct = (tt, tt);
    count = omega arith;
  };
  versions = All-cons (λ entry. IsVersion entry.1) (0, hosts_version) [] hosts_is_version (All-nil (λ entry. IsVersion entry.1));
}
