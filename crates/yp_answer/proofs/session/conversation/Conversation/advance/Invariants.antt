use Rattle.std.proofs.Common.{length}
use Rattle.std.specs.Prelude.{IfSome}
use Rattle.yp_answer.specs.session.Hosts.{conduct_of}
use Rattle.yp_answer.specs.inside.session.Cuts.{GoesOn, cut_of, talking}
use Rattle.yp_answer.specs.inside.session.Errands.{IsDue}
use Rattle.yp_answer.proofs.session.conversation.Conversation.advance.Given as goal

-- what was done so far
pub record Advanced (Goes Due : Type 0) : Type 0 where
  pub goes : Goes
  pub due : Due

abbrev pub invariant-loop : goal.invariant-loop
invariant-loop g l =
    let conduct = conduct_of g.H.View.seen g.H.Host.told g.H.Host.counts g.H.View.stepped g.H.Host.made g.H.Host.carried in
    Advanced (GoesOn conduct l.terms.peer l.terms.carries (talking l.initial.host (cut_of g.S.TrySource g.K.TrySink l.initial.self)) (talking l.host (cut_of g.S.TrySource g.K.TrySink l.self)))
    (IfSome l.self.waiting (IsDue (length (g.H.View.seen l.host).catalogue.maps)))
