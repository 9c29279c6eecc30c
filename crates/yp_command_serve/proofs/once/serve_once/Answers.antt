use Rattle.std.proofs.Common.{◌≡◌, [], ◌∷◌, map, inl, rules, refl, ap, ◌∙◌, subst}
use Rattle.std.specs.Prelude.{IfSome}
use Rattle.yp_version.specs.Versions.{MapVersion}
use Rattle.yp_answer.specs.Maps.{maps_of}
use Rattle.yp_board.specs.Catalogues.{name_view}
use Rattle.yp_board.specs.Views.{Seen}
use Rattle.yp_command_serve.specs.Served.{ServesInput, traffic_of}
use Rattle.yp_command.specs.Words.{row_view}
use Rattle.yp_command.specs.office.Seeing.{Seeing, seeing, input}
use Rattle.yp_command_serve.specs.Once.{once_board}
use Rattle.yp_command_serve.proofs.Foregone.{nothing_served}
use Rattle.yp_command_serve.proofs.once.serve_once.Goals as goal

pub returns-in-Err-clause-does : goal.returns-in-Err-clause-does
returns-in-Err-clause-does g c =
    nothing_served (seeing g.S.Source g.K.Sink g.D.Disk g.C.Clock g.A.Dial g.I.Inbox g.T.Texts) (name_view c.args.store) (map row_view c.args.rows.now) c.args.office.now
    (g.W.Witness.wires c.args.witness.now) c.in-Err.status c.in-Err.ensures.cause

pub returns-in-Err-board_of-clause-does : goal.returns-in-Err-board_of-clause-does
returns-in-Err-board_of-clause-does g c =
    nothing_served (seeing g.S.Source g.K.Sink g.D.Disk g.C.Clock g.A.Dial g.I.Inbox g.T.Texts) (name_view c.args.store) (map row_view c.args.rows.now) c.args.office.now
    (g.W.Witness.wires c.args.witness.now) _ (inl refl)

pub returns-in-Ok-board_of-clause-does : goal.returns-in-Ok-board_of-clause-does
returns-in-Ok-board_of-clause-does g c =
    let seen : Seeing g.row.S.Denot g.row.K.Denot g.row.D.Denot g.row.C.Denot g.row.A.Denot g.row.I.Denot g.row.T.Denot = seeing g.S.Source g.K.Sink g.D.Disk g.C.Clock g.A.Dial g.I.Inbox g.T.Texts in
    let old = c.args.office.now in
    let new = record old { wire = c.serve.new.wire } in
    let did = c.serve.ensures in
    let board = once_board (name_view c.args.store) (map row_view c.args.rows.now) in
    let shown : MapVersion → Seen = λ version. record { catalogue = board.catalogue; known = (0, version) ∷ []; asked = 0 } in
    let same : c.in-Ok-board_of.board ≡ board = ◌∙◌ {b = shown c.in-Ok.version} c.in-Ok-board_of.ensures (ap shown c.in-Ok.ensures.ok) in
    record {
      serves = λ none. subst (λ (b : Seen). IfSome (input seen old) (λ stream. ServesInput (maps_of b) c.serve.result stream (traffic_of seen old new))) same did.served;
      watched = rw (← same) did.watched;
      refused = search rules;
      complete = λ none stream messages rest told cut reads writes. did.complete stream messages rest told cut (λ e. reads (did.read_fault e)) (λ e. writes (did.write_fault e));
      causes = record { read_fault = did.read_fault; write_fault = did.write_fault; disk_fault = search rules };
      stays = refl;
    }
