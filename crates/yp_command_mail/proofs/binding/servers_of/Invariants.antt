use Rattle.std.proofs.Common.{◌≡◌, map, take}
use Rattle.yp_command.specs.Words.{host_view}
use Rattle.yp_command_mail.specs.Bind.{servers_of}
use Rattle.yp_command_mail.proofs.binding.servers_of.Given as goal

abbrev pub invariant-loop-host : goal.invariant-loop-host
invariant-loop-host l = l.servers.items ≡ servers_of (map host_view (take l.host-index l.hosts))
