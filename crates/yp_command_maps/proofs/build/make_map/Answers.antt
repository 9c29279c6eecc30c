use Rattle.std.proofs.Common.{◌≡◌, refl, sym, subst}
use Rattle.yp_board.specs.Catalogues.{name_view}
use Rattle.yp_command.specs.office.Seeing.{Seeing, seeing, input}
use Rattle.yp_command.specs.declared.office.status.Status.{Status}
use Rattle.yp_command_maps.specs.Build.{JobDoes}
use Rattle.yp_command_maps.specs.inside.Build.{job_view}
use Rattle.yp_command_maps.proofs.Telling.{whole_text}
use Rattle.yp_command_maps.proofs.Checking.{one_name}
use Rattle.yp_command_maps.proofs.Ending.{build_does, unread_does}
use Rattle.yp_command_maps.proofs.build.make_map.Goals as goal

pub build_on-built-requires-clause-only : goal.build_on-built-requires-clause-only
build_on-built-requires-clause-only g c = one_name c.args.office.now.disks.items (name_view c.args.job.store) c.requires.only

pub returns-in-Err-clause-does : goal.returns-in-Err-clause-does
returns-in-Err-clause-does g c =
    let seen : Seeing g.row.S.Denot g.row.K.Denot g.row.D.Denot g.row.C.Denot g.row.A.Denot g.row.I.Denot g.row.T.Denot = seeing g.S.Source g.K.Sink g.D.Disk g.C.Clock g.A.Dial g.I.Inbox g.T.Texts in
    let old = c.args.office.now in
    let new = record old { wire = record old.wire { source = c.read_all.new.source } } in
    let job = job_view c.args.job in
    subst (λ (status : Status). JobDoes seen job status old new) (sym c.status_unread.ensures.status)
    (unread_does seen job c.in-Err.unread c.read_all.new.source old c.in-Err.ensures.stopped c.in-Err.ensures.cause)

pub returns-clause-does : goal.returns-clause-does
returns-clause-does g c =
    let seen : Seeing g.row.S.Denot g.row.K.Denot g.row.D.Denot g.row.C.Denot g.row.A.Denot g.row.I.Denot g.row.T.Denot = seeing g.S.Source g.K.Sink g.D.Disk g.C.Clock g.A.Dial g.I.Inbox g.T.Texts in
    let old = c.args.office.now in
    let new = record old { wire = record { source = c.read_all.new.source; sink = c.tell_end.new.sink }; disks = c.build_on-built.new.disks; clock = c.now-now.new.self } in
    let text = c.in-Ok.text.items in
    let job = job_view c.args.job in
    let read = whole_text (input seen old) _ c.in-Ok.text.items c.in-Ok.ensures.text c.in-Ok.ensures.end in
    build_does seen job c.args.job.store text c.now-now.result c.build_on-built.result c.tell_end.result old new
    (record {
      named = refl;
      read = read;
      clock = c.now-now.ensures.told;
      builds = c.build_on-built.ensures.builds;
      ends = c.tell_end.ensures.ends;
      write_fault = c.tell_end.ensures.write_fault;
      names = c.build_on-built.ensures.names;
      told = c.now-now.ensures.same;
      stays = refl;
    })
