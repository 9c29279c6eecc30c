use Rattle.std.proofs.Common.{rules, ◌≤◌, map, length, inr, refl}
use Rattle.yp_map_file.specs.Stands.{file_max}
use Rattle.yp_board.specs.Catalogues.{name_view}
use Rattle.yp_command.specs.Words.{host_view}
use Rattle.yp_command.specs.office.Disks.{disks_of}
use Rattle.yp_command.specs.office.Seeing.{Seeing, seeing}
use Rattle.yp_command_serve.specs.Session.{service, connection}
use Rattle.yp_command_serve.proofs.Sessioned.{nothing_served, nothing_more}
use Rattle.yp_command_serve.proofs.session.serve_session.Goals as goal

pub returns-in-Err-clause-does : goal.returns-in-Err-clause-does
returns-in-Err-clause-does g c =
    let seen : Seeing g.row.S.Denot g.row.K.Denot g.row.D.Denot g.row.C.Denot g.row.A.Denot g.row.I.Denot g.row.T.Denot = seeing g.S.Source g.K.Sink g.D.Disk g.C.Clock g.A.Dial g.I.Inbox g.T.Texts in
    record {
      serves = nothing_served (service seen c.args.spec.own.items c.args.spec.peer (map name_view c.args.spec.stores.items)) (connection seen (map host_view c.args.hosts.items) c.args.office) (g.W.Witness.wires c.args.witness.now);
      bound = nothing_more g.D.Disk.history (λ image. length image ≤ file_max) (disks_of c.args.office.disks.items);
      complete = λ sound disks stream messages rest told cut reads writes. inr refl;
      causes = search rules;
      names = refl;
      told = refl;
      inbox = refl;
    }
