use Rattle.std.proofs.Common.{◌≡◌, ◌∙◌, ap, map, rules}
use Rattle.indexmap.specs.IndexSet.{insert_key}
use Rattle.yp_netgroup.proofs.NameBytes.{bytes, same, bytes-insert}
use Rattle.yp_netgroup.proofs.search.meet.Goals as goal

pub returns-in_ok-map_err-in-Group-clause-met : goal.returns-in_ok-map_err-in-Group-clause-met
returns-in_ok-map_err-in-Group-clause-met c =
    let keys : c.insert.new.self.keys ≡ insert_key same c.args.seen.now.keys c.in-Group.name = search rules in
    rw c.in-Group.is (ap (map bytes) keys ∙ bytes-insert c.args.seen.now.keys c.in-Group.name)
