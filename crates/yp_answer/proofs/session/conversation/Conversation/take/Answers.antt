use Rattle.std.proofs.Common.{rules, ◌≡◌, ◌∙◌, ℕ, List, length, take, inr, ap, sym}
use Rattle.yp_answer.specs.Numbers.{record_max}
use Rattle.yp_answer.specs.declared.procedure.Path.TheVariants.{Stream}
use Rattle.yp_answer.specs.session.Makes.{may_make}
use Rattle.yp_answer.proofs.session.Making.{make_came, take_front}
use Rattle.yp_answer.specs.session.Hosts.{conduct_of}
use Rattle.yp_answer.proofs.session.Cutting.{goes_read, goes_still}
use Rattle.yp_answer.proofs.session.conversation.Conversation.take.Goals as goal

pub returns-in-Part-clause-goes : goal.returns-in-Part-clause-goes
returns-in-Part-clause-goes g c =
    let conduct = conduct_of g.H.View.seen g.H.Host.told g.H.Host.counts g.H.View.stepped g.H.Host.made g.H.Host.carried in
    goes_read conduct c.args.terms.now.peer c.args.terms.now.carries c.args.host.now _ _ c.read.ensures.follows

pub returns-in-TooLong-clause-goes : goal.returns-in-TooLong-clause-goes
returns-in-TooLong-clause-goes g c =
    let conduct = conduct_of g.H.View.seen g.H.Host.told g.H.Host.counts g.H.View.stepped g.H.Host.made g.H.Host.carried in
    goes_still conduct c.args.terms.now.peer c.args.terms.now.carries c.args.host.now _ _ c.rest-in-TooLong.ensures.follows

pub returns-then-self-terms-clause-goes : goal.returns-then-self-terms-clause-goes
returns-then-self-terms-clause-goes g c =
    let conduct = conduct_of g.H.View.seen g.H.Host.told g.H.Host.counts g.H.View.stepped g.H.Host.made g.H.Host.carried in
    goes_still conduct c.args.terms.now.peer c.args.terms.now.carries c.args.host.now _ _ c.rest.ensures.follows

pub returns-then-may_make-clause-goes : goal.returns-then-may_make-clause-goes
returns-then-may_make-clause-goes g c =
    let conduct = conduct_of g.H.View.seen g.H.Host.told g.H.Host.counts g.H.View.stepped g.H.Host.made g.H.Host.carried in
    goes_still conduct c.args.terms.now.peer c.args.terms.now.carries c.args.host.now _ _ c.rest-then-may_make.ensures.follows

pub returns-then-may_make-clause-comes_to : goal.returns-then-may_make-clause-comes_to
returns-then-may_make-clause-comes_to g c =
    let long : length c.first.new.buf ≡ record_max = search rules in
    let all : c.buffers.inside.call.len ≡ length c.first.new.buf = search rules in
    let seen : c.deref.result.now ≡ c.first.new.buf = c.deref.ensures.value ∙ take_front c.buffers.inside.call.len c.first.new.buf _ all in
    let makes = ap (λ (l : List ℕ). may_make Stream c.args.terms.now.peer (take c.in-Whole.len l)) (sym seen) ∙ sym c.may_make.ensures ∙ c.if-may_make.true in
    let comes = make_came (length c.first.new.buf) c.in-Whole.len c.in-Whole.spelled c.args.terms.now.peer c.self.inside.incoming c.first.new.buf long c.in-Whole.ensures makes in
    c.rest-then-may_make.ensures.comes_to c.args.terms.now.peer c.args.terms.now.most (λ rest. (rest.settled, inr (rw (← c.self.view_is) comes)))
