use Rattle.std.proofs.Common.{length}
use Rattle.std.specs.Prelude.{IfSome}
use Rattle.yp_answer.specs.inside.session.Errands.{IsDue}
use Rattle.yp_publisher_tests.proofs.answer.session.conversations.last.Given as goal

abbrev pub invariant-loop : goal.invariant-loop
invariant-loop l = IfSome l.conversation.waiting (IsDue (length l.host.board.catalogue.maps))
