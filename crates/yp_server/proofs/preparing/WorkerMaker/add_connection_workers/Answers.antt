use Rattle.std.proofs.Common.{refl, ◌∙◌, arith}
use Rattle.std.proofs.lemmas.List.{length_push}
use Rattle.yp_server.specs.Serving.{IsAtStart}
use Rattle.yp_server.specs.inside.Serving.{before_work}
use Rattle.yp_server.specs.declared.workers.ServerWorker.TheVariants.{Connections}
use Rattle.yp_server.proofs.Adding.{one_of_those}
use Rattle.yp_server.proofs.Rows.{all_before, all_last}
use Rattle.yp_server.proofs.preparing.WorkerMaker.add_connection_workers.Goals as goal

pub loop-buffers-preserved : goal.loop-buffers-preserved
loop-buffers-preserved g c =
    let before = c.loop-buffers.invariant in
    let one = c.in-Some.ensures.len in
    let reader = c.in-Some-pop.ensures.len in
    let all_workers = c.push_reserved.ensures.items in
    let made = c.connection_worker-connection_worker in
    let longer = length_push c.loop-buffers.all_workers.items (Connections made.result) in
    record {
      all_workers = one_of_those before_work made.result c.loop-buffers.all_workers.items _ _ _ _ (omega (arith, one)) before.all_workers all_workers made.ensures.connection_worker;
      room = rw (all_workers, c.push_reserved.ensures.capacity) (omega (arith, longer, before.room, one));
      readers = omega (arith, before.readers, one, reader);
      knows = all_before (λ reader. IsAtStart g.J.Site.catalogue g.J.Reception.starts (g.B.Reader.View.seen reader)) _ _ _
          c.in-Some-pop.ensures.items before.knows;
      shares = record {
        charges =
            let less = made.ensures.charges.0 in
            let old = before.shares.charges.0 in
            (omega (arith, less, old, one), made.ensures.charges.1 ∙ before.shares.charges.1);
        out = (let less = made.ensures.out.0 in let old = before.shares.out.0 in omega (arith, less, old, one), made.ensures.out.1);
        ended = (let less = made.ensures.ended.0 in let old = before.shares.ended.0 in omega (arith, less, old, one), made.ensures.ended.1);
      };
    }

pub loop-buffers-init : goal.loop-buffers-init
loop-buffers-init g c = record {
  all_workers = refl;
  room = c.requires.room;
  readers = c.requires.readers;
  knows = c.requires.knows;
  shares = c.requires.shares;
}

pub connection_worker-connection_worker-requires-clause-knows : goal.connection_worker-connection_worker-requires-clause-knows
connection_worker-connection_worker-requires-clause-knows g c =
    all_last (λ reader. IsAtStart g.J.Site.catalogue g.J.Reception.starts (g.B.Reader.View.seen reader)) _ _ _
    c.in-Some-pop.ensures.items c.loop-buffers.invariant.knows
