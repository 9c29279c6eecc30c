use Rattle.std.proofs.Common.{◌≡◌, List, [], ℕ, get_or, rules}
use Rattle.std.specs.Borrow.{Bor}
use Rattle.indexmap.specs.IndexSet.{insert_key}
use Rattle.yp_netgroup.proofs.reverse.Linking.{alike}
use Rattle.yp_netgroup.proofs.reverse.Meeting.{meet-step}
use Rattle.yp_netgroup.proofs.reverse.back.meet.Goals as goal

pub loop-group-preserved : goal.loop-group-preserved
loop-group-preserved c =
    let none : Bor (List ℕ) = record { ref_ptr = (0, 0); now = [] } in
    let i = c.loop-group.group-index in
    let keys : c.insert.new.self.keys ≡ insert_key alike c.loop-group.seen.keys (get_or c.args.groups.now i none) = search rules in
    meet-step c.args.groups.now c.loop-group.seen.keys c.insert.new.self.keys i none _ c.loop-group-test.true keys c.loop-group.invariant
