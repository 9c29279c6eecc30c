use Rattle.std.proofs.Common.{refl, arith}
use Rattle.std.proofs.lemmas.List.{length-map}
use Rattle.yp_rpc.specs.inside.Turns.{box_by}
use Rattle.yp_server.proofs.Fronts.{starts_in, served_of}
use Rattle.yp_server.proofs.serving.under_locks.Goals as goal

pub returns-clause-gone : goal.returns-clause-gone
returns-clause-gone g c = rw (c.unlock.ensures.listen, c.unlock.ensures.tally) c.serve-ended.ensures.kept

pub returns-clause-datagrams : goal.returns-clause-datagrams
returns-clause-datagrams g c =
    rw (c.unlock.ensures.inboxes.0, c.unlock.ensures.inboxes.1, c.unlock.ensures.inbox_fault) (served_of _ _ _ _ _ _ _ _
    (c.serve-ended.ensures.counted (g.B.Show.log c.unlock.result.writer) c.unlock.ensures.grown).of_datagrams)

pub returns-clause-inbox_fault : goal.returns-clause-inbox_fault
returns-clause-inbox_fault g c =
    rw (c.unlock.ensures.inboxes.0, c.unlock.ensures.inboxes.1, c.unlock.ensures.inbox_fault) c.serve-ended.ensures.cause

pub returns-clause-grown : goal.returns-clause-grown
returns-clause-grown g c =
    let some = c.requires.inboxes.0 in
    let long = length-map c.args.resources.inboxes.items (box_by g.I.Inbox) in
    starts_in _ _ _ _ _ _ _ _ (omega (arith, some, long))
    (c.serve-ended.ensures.counted (g.B.Show.log c.unlock.result.writer) c.unlock.ensures.grown).of_datagrams

pub returns-clause-rises : goal.returns-clause-rises
returns-clause-rises g c = c.unlock.ensures.rises

pub returns-clause-counted : goal.returns-clause-counted
returns-clause-counted g c =
    let back = c.unlock.ensures in
    let tells = back.told in record {
      told = c.serve-ended.result.account.told;
      counted = rw (back.listen, back.tally, back.inboxes.0, back.inboxes.1, back.inbox_fault, back.totals)
          (c.serve-ended.ensures.counted (g.B.Show.log c.unlock.result.writer) back.grown);
      posted = tells.posted;
      used = tells.used;
      same = tells.same refl;
      came = tells.came;
    }

pub returns-clause-files : goal.returns-clause-files
returns-clause-files g c = λ texts well.
    let covered = c.unlock.ensures.files texts well in omega (arith, covered, c.requires.texts, c.requires.disks)
