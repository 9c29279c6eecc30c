use Rattle.std.proofs.Common.{ℕ, ◌+◌, sym, ap, ◌∙◌, arith}
use Rattle.std.proofs.lemmas.List.Elements.{All-push}
use Rattle.yp_answer.specs.session.Hosts.{conduct_of}
use Rattle.yp_worker.specs.Receptions.{terms_of}
use Rattle.yp_worker.specs.Summing.{counting_of}
use Rattle.yp_worker.specs.inside.Guests.{IsWaiting}
use Rattle.yp_worker.proofs.Attending.{if_found}
use Rattle.yp_worker.proofs.Listenings.{where_ok}
use Rattle.yp_worker.proofs.left.GuestQueue.keep.Goals as goal

pub push_back_reserved-requires : goal.push_back_reserved-requires
push_back_reserved-requires g c =
    let room = where_ok c.reserve.result c.if-is_err.ensures.value c.reserve.ensures.ok in omega (arith, room)

pub invariant_of-self-2 : goal.invariant_of-self-2
invariant_of-self-2 g c =
    let conduct = conduct_of g.H.View.seen g.H.Host.told g.H.Host.counts g.H.View.stepped g.H.Host.made g.H.Host.carried in
    let counting = counting_of g.H.CatchUp.counted g.H.HandsOver.none g.H.HandsOver.plus in
    let terms = terms_of g.J.Site.catalogue g.J.Reception.starts g.J.Reception.most in
    let P = IsWaiting g.L.In.TrySource g.L.Out.TrySink conduct counting terms g.J.Reception.opening.past g.H.Front.Known.known in
    rw (rw (c.new.ensures, c.reserve.ensures.items) at c.push_back_reserved.ensures.items) (All-push P _ _ c.self.invariant
    (if_found (λ guest. P (record { guest = guest; front = c.args.front })) _ c.in-Some.guest (sym c.in-Some.ensures.value) c.requires.waits))

pub invariant_of-self : goal.invariant_of-self
invariant_of-self g c = rw c.reserve.ensures.items c.self.invariant

pub invariant_of-self-in_default : goal.invariant_of-self-in_default
invariant_of-self-in_default g c = rw c.reserve.ensures.items c.self.invariant

pub returns-clause-kept : goal.returns-clause-kept
returns-clause-kept g c = λ yes. (
  record {
    guest = c.in-Some.guest;
    found = sym c.in-Some.ensures.value;
    updates = c.in-Some.ensures.updates;
    count = c.in-Some.ensures.len;
  },
  rw (← c.self.view_is) (c.push_back_reserved.ensures.len ∙ ap (λ (n : ℕ). n + 1) c.reserve.ensures.len),
)
