use Rattle.std.proofs.Common.{◌≡◌, None}
use Rattle.yp_transfer.specs.walk.Standings.{IsAsking}
use Rattle.yp_client_tests.proofs.transfer.walks.hear_all.Given as goal

-- it asks on, and has no end so far
abbrev pub invariant-loop-mail : goal.invariant-loop-mail
invariant-loop-mail g l = record { asks : IsAsking l.walk.standing; open_ended : l.heard.end ≡ None }
