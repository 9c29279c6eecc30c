use Rattle.std.proofs.Common.{rules, refl, Ok, Err}
use Rattle.yp_client.specs.Questions.{bytes_of}
use Rattle.yp_command.specs.office.Seeing.{seeing}
use Rattle.yp_program.specs.Asking.{scene}
use Rattle.yp_program.proofs.ask.ask.Goals as goal

pub returns-in-Ok-clause-does : goal.returns-in-Ok-clause-does
returns-in-Ok-clause-does g c =
    let seen = seeing g.S.Source g.K.Sink g.D.Disk g.C.Clock g.A.Dial g.I.Inbox g.T.Texts in
    let old = c.args.office.now in
    let new = record old { wire = record old.wire { sink = c.query.new.sink }; dial = c.query.new.dial } in
    record {
      asks = record { result = Ok c.in-Ok.field-0; asks = c.in-Ok.ensures.asks; told = refl };
      prints = λ catalogue caller turns rest before after answers came.
          c.log_run_is_printed.ensures catalogue c.args.to caller (bytes_of c.args.question) turns rest before after (Ok c.in-Ok.field-0) (scene seen old) (scene seen new) c.requires answers came c.in-Ok.ensures.asks;
      complete = search rules;
      read_fault = search rules;
      write_fault = search rules;
      dial_fault = search rules;
      stays = search rules;
      letters = c.query.ensures.letters;
    }

pub returns-in-Err-clause-does : goal.returns-in-Err-clause-does
returns-in-Err-clause-does g c =
    let seen = seeing g.S.Source g.K.Sink g.D.Disk g.C.Clock g.A.Dial g.I.Inbox g.T.Texts in
    let old = c.args.office.now in
    let new = record old { wire = record old.wire { sink = c.query.new.sink }; dial = c.query.new.dial } in
    record {
      asks = record { result = Err c.in-Err.fault; asks = c.in-Err.ensures.asks; told = c.status_of.ensures };
      prints = λ catalogue caller turns rest before after answers came.
          c.log_run_is_printed.ensures catalogue c.args.to caller (bytes_of c.args.question) turns rest before after (Err c.in-Err.fault) (scene seen old) (scene seen new) c.requires answers came c.in-Err.ensures.asks;
      complete = search rules;
      read_fault = search rules;
      write_fault = search rules;
      dial_fault = search rules;
      stays = search rules;
      letters = c.query.ensures.letters;
    }
