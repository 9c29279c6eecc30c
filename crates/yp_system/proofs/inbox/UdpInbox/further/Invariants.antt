use Rattle.std.proofs.Common.{◌≡◌, length, All}
use Rattle.yp_system.proofs.inbox.UdpInbox.further.Given as goal

abbrev pub invariant-loop : goal.invariant-loop
invariant-loop g l = (length l.ends.items ≡ l.counter)
    × All (λ end. end.turns ≡ 0) l.ends.items × All (λ end. end.quiets ≡ 0) l.ends.items
    × All (λ end. end.faults ≡ 0) l.ends.items
    × (l.self.port ≡ l.initial.self.port) × (l.self.turns ≡ l.initial.self.turns)
    × (l.self.quiets ≡ l.initial.self.quiets) × (l.self.faults ≡ l.initial.self.faults)
