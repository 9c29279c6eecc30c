use Rattle.yp_answer.specs.session.Hosts.{conduct_of}
use Rattle.yp_answer.proofs.session.Cutting.{goes_still, goes_then, follows_none}
use Rattle.yp_answer.proofs.session.conversation.Conversation.advance.Goals as goal

pub loop-init : goal.loop-init
loop-init g c =
    let conduct = conduct_of g.H.View.seen g.H.Host.told g.H.Host.counts g.H.View.stepped g.H.Host.made g.H.Host.carried in
    record { goes = goes_still conduct c.args.terms.now.peer c.args.terms.now.carries c.args.host.now _ _ (follows_none _); due = c.requires.due }

pub loop-preserved : goal.loop-preserved
loop-preserved g c =
    let conduct = conduct_of g.H.View.seen g.H.Host.told g.H.Host.counts g.H.View.stepped g.H.Host.made g.H.Host.carried in
    record {
      goes = goes_then conduct c.args.terms.now.peer c.args.terms.now.carries _ _ _ _ _ _ c.loop.invariant.goes c.step.ensures.goes;
      due = c.step.ensures.due;
    }

pub returns-in_default : goal.returns-in_default
returns-in_default g c =
    let conduct = conduct_of g.H.View.seen g.H.Host.told g.H.Host.counts g.H.View.stepped g.H.Host.made g.H.Host.carried in
    record {
      goes = goes_then conduct c.args.terms.now.peer c.args.terms.now.carries _ _ _ _ _ _ c.loop.invariant.goes c.step.ensures.goes;
      comes_to = c.step.ensures.comes_to;
      due = c.step.ensures.due;
    }

pub returns-then-is_some-clause-goes : goal.returns-then-is_some-clause-goes
returns-then-is_some-clause-goes g c =
    let conduct = conduct_of g.H.View.seen g.H.Host.told g.H.Host.counts g.H.View.stepped g.H.Host.made g.H.Host.carried in
    goes_then conduct c.args.terms.now.peer c.args.terms.now.carries _ _ _ _ _ _ c.loop.invariant.goes c.step.ensures.goes
