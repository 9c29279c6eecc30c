use Rattle.yp_answer.specs.session.Hosts.{conduct_of}
use Rattle.yp_answer.proofs.session.Cutting.{goes_still, follows_none}
use Rattle.yp_answer.proofs.session.conversation.Conversation.step.Goals as goal

pub returns-then-self-clause-goes : goal.returns-then-self-clause-goes
returns-then-self-clause-goes g c =
    let conduct = conduct_of g.H.View.seen g.H.Host.told g.H.Host.counts g.H.View.stepped g.H.Host.made g.H.Host.carried in
    goes_still conduct c.args.terms.now.peer c.args.terms.now.carries c.args.host.now _ _ (follows_none _)

pub returns-then-not-terms-clause-goes : goal.returns-then-not-terms-clause-goes
returns-then-not-terms-clause-goes g c =
    let conduct = conduct_of g.H.View.seen g.H.Host.told g.H.Host.counts g.H.View.stepped g.H.Host.made g.H.Host.carried in
    goes_still conduct c.args.terms.now.peer c.args.terms.now.carries c.args.host.now _ _ (follows_none _)

pub returns-then-is_some-clause-goes : goal.returns-then-is_some-clause-goes
returns-then-is_some-clause-goes g c =
    let conduct = conduct_of g.H.View.seen g.H.Host.told g.H.Host.counts g.H.View.stepped g.H.Host.made g.H.Host.carried in
    goes_still conduct c.args.terms.now.peer c.args.terms.now.carries c.args.host.now _ _ c.go_on.ensures.follows

pub returns-then-not-self-clause-goes : goal.returns-then-not-self-clause-goes
returns-then-not-self-clause-goes g c =
    let conduct = conduct_of g.H.View.seen g.H.Host.told g.H.Host.counts g.H.View.stepped g.H.Host.made g.H.Host.carried in
    goes_still conduct c.args.terms.now.peer c.args.terms.now.carries c.args.host.now _ _ c.pay.ensures.follows

pub returns-then-len-ge-OWED_MAX-clause-goes : goal.returns-then-len-ge-OWED_MAX-clause-goes
returns-then-len-ge-OWED_MAX-clause-goes g c =
    let conduct = conduct_of g.H.View.seen g.H.Host.told g.H.Host.counts g.H.View.stepped g.H.Host.made g.H.Host.carried in
    goes_still conduct c.args.terms.now.peer c.args.terms.now.carries c.args.host.now _ _ c.pay-then-len-ge-OWED_MAX.ensures.follows
