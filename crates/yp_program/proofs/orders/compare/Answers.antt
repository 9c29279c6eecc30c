use Rattle.std.proofs.Common.{◌∙◌, refl, sym, subst}
use Rattle.yp_command.specs.office.Seeing.{seeing}
use Rattle.yp_program.specs.Asking.{scene, IsClientAnswer}
use Rattle.yp_program.proofs.Comparing.{answered, read_cause, write_cause, dial_cause, not_output}
use Rattle.yp_program.proofs.orders.compare.Goals as goal

pub returns-clause-does : goal.returns-clause-does
returns-clause-does g c =
    let seen = seeing g.S.Source g.K.Sink g.D.Disk g.C.Clock g.A.Dial g.I.Inbox g.T.Texts in
    let old = c.args.office.now in
    let did = c.compare_orders-compared in
    let new = record old { wire = record old.wire { sink = did.new.sink }; dial = did.new.dial } in
    let told = c.compared_status.ensures.status in
    record {
      compares = record { result = did.result; compares = did.ensures.compares; told = told };
      complete = λ maps stream streams good has come dial sink.
          subst IsClientAnswer (sym told) (answered did.result (did.ensures.complete maps stream streams good has come dial sink));
      read_fault = λ is. read_cause (scene seen old) (scene seen new) did.result did.ensures.cause (sym told ∙ is);
      write_fault = λ is. write_cause (scene seen old) (scene seen new) did.result did.ensures.cause (sym told ∙ is);
      dial_fault = λ is. dial_cause (scene seen old) (scene seen new) did.result did.ensures.cause (sym told ∙ is);
      stays = refl;
      letters = did.ensures.letters;
    }

pub returns-clause-passed_on : goal.returns-clause-passed_on
returns-clause-passed_on g c = λ other flushed.
    let did = c.compare_orders-compared in
    let told = c.compared_status.ensures.status in
    did.ensures.flushed (not_output did.result (λ is. other (told ∙ is))) flushed
