use Rattle.std.proofs.Common.{◌≡◌, [], map, refl, sym, ap, subst, ◌∙◌}
use Rattle.std.proofs.KnownBytes.{Appends-nil}
use Rattle.std.specs.Prelude.{All}
use Rattle.yp_board.specs.Catalogues.{Catalogue, name_view}
use Rattle.yp_command.specs.inside.Words.{IsNamed}
use Rattle.yp_transfer.specs.HostTable.{HostList}
use Rattle.yp_command.specs.office.Seeing.{Seeing, seeing}
use Rattle.yp_command_serve.specs.serve.Hosting.{doors_by, outside_by}
use Rattle.yp_command_serve.specs.serve.Serve.{Job, ServeDoes, serve_job_of}
use Rattle.yp_command_serve.specs.inside.serve.Serve.{serve_job_view}
use Rattle.yp_command_serve.proofs.serve.Told.{nothing_done}
use Rattle.yp_command_serve.proofs.serve.serve.serve_maps.Goals as goal

pub returns-in_default-clause-does : goal.returns-in_default-clause-does
returns-in_default-clause-does g c = (
  [],
  nothing_done (seeing g.S.Source g.K.Sink g.D.Disk g.C.Clock g.A.Dial g.I.Inbox g.T.Texts) (serve_job_view c.args.job)
      c.args.outside.office (doors_by g.L.Hall g.I.Inbox c.args.outside.doors) (doors_by g.L.Hall g.I.Inbox c.args.outside.doors) refl,
  λ fine. Appends-nil (g.K.Sink.output c.args.outside.notes),
)

pub returns-in-Err-NoMemory-clause-does : goal.returns-in-Err-NoMemory-clause-does
returns-in-Err-NoMemory-clause-does g c = (
  [],
  nothing_done (seeing g.S.Source g.K.Sink g.D.Disk g.C.Clock g.A.Dial g.I.Inbox g.T.Texts) (serve_job_view c.args.job)
      c.args.outside.office (doors_by g.L.Hall g.I.Inbox c.args.outside.doors) (doors_by g.L.Hall g.I.Inbox c.args.outside.doors) refl,
  λ fine. Appends-nil (g.K.Sink.output c.args.outside.notes),
)

pub serve_catalog-requires-clause-named : goal.serve_catalog-requires-clause-named
serve_catalog-requires-clause-named g c κs within =
    subst (λ (k : Catalogue). All IsNamed k.maps) (sym c.in-Ok-new.ensures.ok) c.requires.named

pub returns-clause-does : goal.returns-clause-does
returns-clause-does g c =
    let seen : Seeing g.row.S.Denot g.row.K.Denot g.row.D.Denot g.row.C.Denot g.row.A.Denot g.row.I.Denot g.row.T.Denot =
    seeing g.S.Source g.K.Sink g.D.Disk g.C.Clock g.A.Dial g.I.Inbox g.T.Texts in
    let job = c.args.job in
    let did = c.serve_catalog in
    let tells = outside_by g.L.Hall g.I.Inbox in
    let same : serve_job_of c.in-Ok-new.catalog.own job.connections job.turns c.in-Ok-new.catalog.maps c.in-Ok.hosts job.log
    ≡ serve_job_view job =
    ap (λ (k : Catalogue). serve_job_of k.own job.connections job.turns k.maps c.in-Ok.hosts job.log) c.in-Ok-new.ensures.ok
    ∙ ap (λ (h : HostList). serve_job_of job.name.items job.connections job.turns (map name_view job.stores.items) h job.log)
    c.in-Ok.ensures in
    let does = did.ensures.does in (
      does.0,
      subst (λ (o : Job). ServeDoes seen o did.result.0 (tells c.args.outside) (tells did.result.1) does.0) same (does.1 job.connections),
      does.2,
    )
