use Rattle.yp_board.specs.Views.{IsFront}
use Rattle.std.specs.Prelude.{true}
use Rattle.yp_answer.specs.session.Hosts.{conduct_of}
use Rattle.yp_worker.specs.Receptions.{IsUnder, terms_of}
use Rattle.yp_worker.specs.Summing.{counting_of}
use Rattle.yp_worker.specs.inside.Guests.{Comes, HasServed, came_to, serving_of}
use Rattle.yp_worker.proofs.worker.Worker.run.Given as goal

abbrev pub invariant-loop : goal.invariant-loop
invariant-loop g l =
    let conduct = conduct_of g.H.View.seen g.H.Host.told g.H.Host.counts g.H.View.stepped g.H.Host.made g.H.Host.carried in
    let counting = counting_of g.H.CatchUp.counted g.H.HandsOver.none g.H.HandsOver.plus in
    let terms = terms_of g.J.Site.catalogue g.J.Reception.starts g.J.Reception.most in
    record {
      next : (goal.iterator-loop g).can_next l.iterator';
      finite : (goal.iterator-loop g).is_finite l.iterator';
      under : IsUnder conduct terms l.self;
      grown : IsFront (g.H.View.seen l.initial.self.host).known (g.H.View.seen l.self.host).known;
      served : HasServed g.L.In.TrySource g.L.Out.TrySink conduct counting terms g.J.Reception.opening.past
          (serving_of g.L.Hall.closed g.L.Hall.closed_count g.L.Watch.Watch.let_go l.shift.guests l.shift.closer l.shift.watch l.shift.tally l.shift.next)
          l.self;
      comes : Comes l.initial.pass l.pass 0 (came_to l.shift.tally l.shift.guests) true l.shift.is_open;
    }
