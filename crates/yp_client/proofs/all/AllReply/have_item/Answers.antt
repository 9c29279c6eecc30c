use Rattle.std.proofs.Common.{◌≡◌, [], refl, sym, ap}
use Rattle.std.proofs.lemmas.List.{append-nil}
use Rattle.yp_client.specs.declared.all.AllReply.{AllReply}
use Rattle.yp_client.proofs.Waiting.{gives_nothing}
use Rattle.yp_client.proofs.all.AllReply.have_item.Goals as goal

pub returns-then-self-clause-more : goal.returns-then-self-clause-more
returns-then-self-clause-more g c = ([], λ whole. (refl, whole), gives_nothing _, sym (append-nil _))

pub returns-clause-more : goal.returns-clause-more
returns-clause-more g c =
    let whole : c.to_front.new.self.whole ≡ c.args.self.now.whole =
    ap (λ (r : AllReply). r.whole) c.to_front.ensures.same in
    rw (whole, c.to_front.ensures.waiting) at c.read_on.ensures.more

pub returns-clause-cause : goal.returns-clause-cause
returns-clause-cause g c =
    let whole : c.to_front.new.self.whole ≡ c.args.self.now.whole =
    ap (λ (r : AllReply). r.whole) c.to_front.ensures.same in
    rw whole at c.read_on.ensures.cause
