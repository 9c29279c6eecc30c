use Rattle.std.proofs.Common.{◌++◌, arith}
use Rattle.yp_transfer.specs.inside.Dials.{dial_by}
use Rattle.yp_host.specs.workers.Wires.{BeginsWithOrder, IsGood}
use Rattle.yp_host.specs.inside.workers.Uses.{dial_told}
use Rattle.yp_host.proofs.workers.Dialing.{covers_fewer, same_wires}
use Rattle.yp_host.proofs.workers.Sourcing.{sources_fewer, same_sources}
use Rattle.yp_host.proofs.workers.Noting.{all_known, all_same}
use Rattle.yp_host.proofs.workers.Telling.{past_stays, faults_stay, all_told, all_came}
use Rattle.yp_host.proofs.workers.Using.{used_told}
use Rattle.yp_host.proofs.workers.dial.SharedDial.close.Goals as goal

pub returns-clause-orders : goal.returns-clause-orders
returns-clause-orders g c = λ n le.
    let told = c.tell_waiting.ensures.told in
    same_wires BeginsWithOrder g.S.Supplies.wires _ _ n (past_stays told.more _ _ told.in_turn)
    (covers_fewer BeginsWithOrder g.S.Supplies.wires (g.A.Dial.past c.shared.inside.dialer.dial) n c.shared.inside.orders.total
    (omega (arith, le, c.audit.ensures.bound)) c.shared.invariant.1)

pub returns-clause-sources : goal.returns-clause-sources
returns-clause-sources g c = λ n le.
    let told = c.tell_waiting.ensures.told in
    same_sources g.S.Supplies.wires _ _ g.S.Supplies.dial_faults _ _ n (past_stays told.more _ _ told.in_turn)
    (faults_stay told.more _ _ told.in_turn)
    (sources_fewer g.S.Supplies.wires (g.A.Dial.past c.shared.inside.dialer.dial) g.S.Supplies.dial_faults
    (g.A.Dial.faults c.shared.inside.dialer.dial) n c.shared.inside.sources.total (omega (arith, le, c.audit-2.ensures.bound))
    c.shared.invariant.2)

pub returns-clause-versions : goal.returns-clause-versions
returns-clause-versions g c = λ n le.
    let told = c.tell_waiting.ensures.told in
    same_wires IsGood g.S.Supplies.wires _ _ n (past_stays told.more _ _ told.in_turn)
    (covers_fewer IsGood g.S.Supplies.wires (g.A.Dial.past c.shared.inside.dialer.dial) n c.shared.inside.versions.total
    (omega (arith, le, c.audit-3.ensures.bound)) c.shared.invariant.3)

pub returns-clause-known : goal.returns-clause-known
returns-clause-known g c =
    let told = c.tell_waiting.ensures.told in
    all_same g.S.Supplies.wires _ _ c.args.known.now (past_stays told.more _ _ told.in_turn)
    (all_known g.S.Supplies.wires (g.A.Dial.past c.shared.inside.dialer.dial) c.args.known.now c.shared.inside.fetches
    c.covers.ensures.front c.shared.invariant.4)

pub returns-clause-dialed : goal.returns-clause-dialed
returns-clause-dialed g c =
    let told = c.tell_waiting.ensures.told in
    let tells = dial_by g.A.Dial in
    let all = all_told c.shared.inside.call_backs c.args.others.pass _ _ told.more g.S.Accounts.shares
    c.shared.invariant.7 c.shared.invariant.8 c.requires.left c.merge.ensures.parts c.merge.ensures.same told.takes
    c.tell_waiting.ensures.all in
    record {
      posted = c.shared.inside.call_backs.took ++ told.more;
      used = used_told g.S.Supplies.hosts g.S.Site.catalogue.maps told.more c.shared.inside.call_backs.took
          (dial_told g.S.Supplies.wires g.S.Supplies.letters g.S.Supplies.dial_faults) (tells c.shared.inside.dialer.dial)
          (tells c.tell_waiting.new.dial) c.shared.invariant.5 told.in_turn;
      same = λ is. (all is).same;
      among = λ is. (all is).among;
      came = all_came g.S.Supplies.wires _ _ _ c.shared.inside.fetches c.args.others.pass.left
          (rw c.covers.ensures.same at c.cover_told.ensures.front) c.shared.invariant.4
          (past_stays told.more _ _ told.in_turn) c.requires.told;
    }
