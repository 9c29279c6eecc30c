use Rattle.std.proofs.Common.{Ok, ap, rules}
use Rattle.yp_publisher.specs.Keeping.{keeping_of}
use Rattle.yp_publisher.specs.Begins.{plain_log}
use Rattle.yp_board.specs.Views.{Seen}
use Rattle.yp_answer.specs.session.Wires.{wire_of}
use Rattle.yp_answer.specs.declared.session.session.End.{End}
use Rattle.yp_host.specs.inside.Locals.{telling_by}
use Rattle.yp_host.specs.Connections.{service_of, IsLastHost}
use Rattle.yp_host.specs.inside.Connections.{connection_of}
use Rattle.yp_host.proofs.Serving.{uncalled, bound_at, falls_at, count_of, first_from, went_on, served, served_bound, served_falls, served_count, served_desk}
use Rattle.yp_host.proofs.connection.serve_wire.Goals as goal

-- no disk was called
pub returns-in_default-clause-unserved : goal.returns-in_default-clause-unserved
returns-in_default-clause-unserved g c = uncalled g.D.Disk.history g.D.Disk.faults c.args.resources.disks.items

pub returns-in_default-clause-unwritten : goal.returns-in_default-clause-unwritten
returns-in_default-clause-unwritten g c = uncalled g.D.Disk.history g.D.Disk.faults c.args.resources.disks.items

pub returns-clause-bound : goal.returns-clause-bound
returns-clause-bound g c = bound_at g.D.Disk.history g.D.Disk.faults c.args.resources.disks.items _ c.in-Err.ensures.unwritten

pub returns-clause-never_falls : goal.returns-clause-never_falls
returns-clause-never_falls g c = falls_at g.D.Disk.history g.D.Disk.faults c.args.resources.disks.items _ c.in-Err.ensures.unwritten

pub returns-clause-count : goal.returns-clause-count
returns-clause-count g c = count_of g.D.Disk.history g.D.Disk.faults c.args.resources.disks.items _ c.in-Err.ensures.unwritten

pub returns-in-Ok-open_publisher : goal.returns-in-Ok-open_publisher
returns-in-Ok-open_publisher g c =
    let wire = wire_of g.S.Source g.K.Sink in
    let service = service_of (keeping_of g.D.Disk.history g.D.Disk.faults plain_log) (telling_by g.T.Texts g.C.Clock g.A.Dial) c.args.spec.catalog c.args.spec.peer in
    let old = connection_of (wire c.args.wire.now) c.args.resources in
    let new = connection_of (wire c.run-end.new.wire) c.stock_of.result in
    let start = c.new-host.result in
    let finish = c.run-end.new.host in
    let begun = c.in-Ok-open_publisher.ensures.begun in
    let first = first_from service old new start finish c.in-Ok-open_publisher.publisher c.new-host.ensures begun.catalogue begun.opened (ap (λ (board : Seen). board.known) begun.board) in
    let runs = c.run-end.ensures.runs in
    let went = went_on service old new start finish c.starts_are_shown.ensures c.run-end.result c.run-end.new.self runs.more first runs.done in
    let last : IsLastHost service finish new = record { disks = c.stock_of.ensures.disks; desk = c.stock_of.ensures.desk; shows = c.stock_of.ensures.shows; standing = c.stock_of.ensures.standing } in
    record {
      served = record {
        more = runs.more;
        behind = runs.behind;
        done = served service old new start finish c.log_rises.ensures c.beginning_is_start.ensures c.run-end.result c.run-end.new.self runs.more first runs.done went last
            c.len-count.ensures.catalogue c.stock_of.ensures.versions;
      };
      unserved = search rules;
      untouched = search rules;
      unasked = search rules;
      unseen = search rules;
      unwritten = search rules;
      bound = served_bound service old new start finish first went last;
      never_falls = served_falls service old new start finish first went last;
      count = served_count service old new start finish first went last;
      desk = served_desk service old new start finish first went last;
      counts = c.run-end.ensures.counts;
      read_fault = λ is. c.run-end.ensures.read_fault cc;
      write_fault = λ is. c.run-end.ensures.write_fault cc;
      flushed = λ kept. c.run-end.ensures.flushed (λ same. kept (ap (λ (end : End). Ok end) same));
    }
