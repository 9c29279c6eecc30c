use Rattle.std.proofs.Common.{◌≡◌, true, false, arith}
use Rattle.yp_answer.specs.session.Hosts.{conduct_of}
use Rattle.yp_worker.specs.Receptions.{terms_of}
use Rattle.yp_worker.specs.Summing.{counting_of}
use Rattle.yp_worker.proofs.Attending.{all_gone, all_passed, comes_same, comes_then}
use Rattle.yp_worker.proofs.Growing.{front_same, front_then}
use Rattle.yp_worker.proofs.worker.Worker.run.Goals as goal
use Rattle.yp_worker.proofs.worker.Worker.run.Goals.{in-None, in-Some-2+then-is_over}

pub returns-in_default-clause-grown : goal.returns-in_default-clause-grown
returns-in_default-clause-grown g c = front_same (g.H.View.seen c.args.self.now.host).known

pub returns-in_default-clause-pass : goal.returns-in_default-clause-pass
returns-in_default-clause-pass g c = c.in_default.ensures.ended

pub loop-init : goal.loop-init
loop-init g c = record {
  next = tt;
  finite = tt;
  under = c.requires.under;
  grown = front_same (g.H.View.seen c.args.self.now.host).known;
  served = c.in-Some.ensures.served;
  comes = comes_same _ _ _ _ _ c.in-Some.ensures.nobody.0 c.in-Some.ensures.nobody.1;
}

pub turn-requires-clause-out : goal.turn-requires-clause-out
turn-requires-clause-out g c = let out = c.loop.invariant.comes.out in omega (arith, out)

pub turn-requires-clause-served : goal.turn-requires-clause-served
turn-requires-clause-served g c = c.loop.invariant.served

pub loop-preserved : goal.loop-preserved
loop-preserved g c = record {
  next = tt;
  finite = tt;
  under = c.turn.ensures.under;
  grown = front_then _ _ _ c.loop.invariant.grown c.turn.ensures.grown;
  served = c.turn.ensures.served;
  comes = comes_then _ _ _ _ _ _ _ _ _ c.loop.invariant.comes c.turn.ensures.comes;
}

pub retire-requires-clause-out : goal.retire-requires-clause-out
retire-requires-clause-out g c = let out = c.loop.invariant.comes.out in omega (arith, out)

pub retire-requires-clause-served : goal.retire-requires-clause-served
retire-requires-clause-served g c =
    let conduct = conduct_of g.H.View.seen g.H.Host.told g.H.Host.counts g.H.View.stepped g.H.Host.made g.H.Host.carried in
    let counting = counting_of g.H.CatchUp.counted g.H.HandsOver.none g.H.HandsOver.plus in
    let terms = terms_of g.J.Site.catalogue g.J.Reception.starts g.J.Reception.most in
    elim c.match-next.branch [
      | in-None w ↦ absurd (let e : false ≡ true = w.in-None.ensures.steps in cc)
      | in-Some-2+then-is_over w ↦
          let over = w.is_over.ensures w.if-is_over.true in
          all_gone g.L.In.TrySource g.L.Out.TrySink conduct counting terms g.J.Reception.opening.past _ c.loop.self over.1 c.loop.invariant.served
    ]

pub returns-clause-grown : goal.returns-clause-grown
returns-clause-grown g c = rw c.retire.ensures.seen c.loop.invariant.grown

pub returns-clause-pass : goal.returns-clause-pass
returns-clause-pass g c =
    elim c.match-next.branch [
      | in-None w ↦ absurd (let e : false ≡ true = w.in-None.ensures.steps in cc)
      | in-Some-2+then-is_over w ↦
          let over = w.is_over.ensures w.if-is_over.true in
          rw c.in-Some.ensures.same at (all_passed _ _ _ c.loop.shift.tally.connections _ _ c.loop.invariant.comes over.0 over.1
          c.retire.ensures.same c.retire.ensures.out)
    ]
