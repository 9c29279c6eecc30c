use Rattle.std.proofs.Common.{refl, arith}
use Rattle.std.specs.Prelude.{codes}
use Rattle.yp_client.specs.query.Asked.{no_rows}
use Rattle.yp_client_tests.specs.Hosts.{lab, hosts, alpha, hosts_maps, caller}
use Rattle.yp_client_tests.proofs.Hosted.{hosts_are_served}
use Rattle.yp_client_tests.proofs.exchange.worked.worked_rows.Goals as goal

pub returns : goal.returns
returns c = record {
  value = c.match_tells.ensures hosts_maps caller 1 lab hosts_are_served (omega arith) (omega arith) hosts (omega arith) alpha (omega arith);
  no_value = c.match_tells.ensures hosts_maps caller 1 lab hosts_are_served (omega arith) (omega arith) hosts (omega arith) (codes "alp") (omega arith);
  first = c.first_tells.ensures hosts_maps caller 1 lab hosts_are_served (omega arith) (omega arith) hosts (omega arith);
  last = c.next_tells.ensures hosts_maps caller 1 lab hosts_are_served (omega arith) (omega arith) hosts (omega arith) alpha (omega arith);
  all = c.all_tells.ensures hosts_maps caller 1 lab hosts_are_served (omega arith) (omega arith) hosts (omega arith) no_rows (record { empty = refl; room = omega arith });
  master = c.master_tells.ensures hosts_maps caller 1 lab hosts_are_served (omega arith) (omega arith) hosts (omega arith);
  order = c.order_tells.ensures hosts_maps caller 1 lab hosts_are_served (omega arith) (omega arith) hosts (omega arith);
  pull = c.pull_tells.ensures hosts_maps caller 1 lab hosts_are_served (omega arith) (omega arith) hosts (omega arith) (codes "m9") (omega arith);
  names = c.maplist_tells.ensures hosts_maps caller 1 lab hosts_are_served (omega arith) (omega arith);
}
