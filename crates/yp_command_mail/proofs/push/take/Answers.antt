use Rattle.std.proofs.Common.{rules, Ok, Err, refl}
use Rattle.yp_command_mail.proofs.push.take.Goals as goal

pub returns-in-Ok-clause-takes : goal.returns-in-Ok-clause-takes
returns-in-Ok-clause-takes g c = record {
  end = Ok c.in-Ok.field-0;
  last = c.take_turns.new.handler;
  takes = c.in-Ok.ensures.takes;
  dial_is = search rules;
  told = search rules;
}

pub returns-in-Err-clause-takes : goal.returns-in-Err-clause-takes
returns-in-Err-clause-takes g c = record {
  end = Err c.in-Err.field-0;
  last = c.take_turns.new.handler;
  takes = c.in-Err.ensures.takes;
  dial_is = search rules;
  told = (refl, refl);
}
