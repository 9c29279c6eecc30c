use Rattle.yp_transfer.proofs.walk.state_after.state_after.Goals as goal

pub returns-in-Again-clause-room : goal.returns-in-Again-clause-room
returns-in-Again-clause-room g c = c.after_again.ensures.room c.args.asked.now
