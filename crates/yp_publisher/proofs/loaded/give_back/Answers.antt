use Rattle.std.proofs.Common.{◌≡◌, [], ◌++◌, List, map, reverse, ap, sym, ◌∙◌, subst, rules, vec_capacity, arith}
use Rattle.yp_publisher.specs.Standing.{StoredMap, OfMap, IsStanding, IsNumbered}
use Rattle.yp_publisher.proofs.Giving.{giving_none, giving_more}
use Rattle.yp_publisher.proofs.loaded.give_back.Goals as goal

pub loop-stored-init : goal.loop-stored-init
loop-stored-init g c = giving_none g.D.Disk.history c.args.maps.items c.args.rest.items (vec_capacity c.args.rest)
    c.requires

pub loop-stored-preserved : goal.loop-stored-preserved
loop-stored-preserved g c =
    giving_more g.D.Disk.history c.args.maps.items c.args.rest.items c.loop-stored.maps.items c.pop.new.self.items
    c.in-Some.stored c.loop-stored.disks.items c.push_reserved.new.self.items c.into_disk.result _ _
    c.loop-stored.invariant c.in-Some.ensures.items c.into_disk.ensures.disk c.push_reserved.ensures.items
    c.push_reserved.ensures.capacity c.into_disk.ensures.standing c.into_disk.ensures.numbered

pub push_reserved-requires : goal.push_reserved-requires
push_reserved-requires g c =
    let room = c.loop-stored.invariant.room in
    let len = c.in-Some.ensures.len in
    omega (arith, c.loop-stored.disks.ok, c.loop-stored.maps.ok)

pub returns-clause-disks : goal.returns-clause-disks
returns-clause-disks g c =
    let none : c.loop-stored.maps.items ≡ [] = search rules in
    c.reverse.ensures.items ∙ sym (c.loop-stored.invariant.kept
    ∙ ap (λ (l : List (StoredMap g.row.D.Denot)). map (λ (k : StoredMap g.row.D.Denot). k.disk)
    l ++ reverse c.loop-stored.disks.items) none)

pub returns-clause-standing : goal.returns-clause-standing
returns-clause-standing g c =
    let none : c.loop-stored.maps.items ≡ [] = search rules in
    let all : c.args.maps.items ≡ c.loop-stored.invariant.given = c.loop-stored.invariant.front
    ∙ ap (λ (l : List (StoredMap g.row.D.Denot)). l ++ c.loop-stored.invariant.given) none in
    λ k. subst (λ (l : List (StoredMap g.row.D.Denot)). OfMap k l (IsStanding g.D.Disk.history)) (sym all)
    (c.loop-stored.invariant.stands k)

pub returns-clause-numbered : goal.returns-clause-numbered
returns-clause-numbered g c =
    let none : c.loop-stored.maps.items ≡ [] = search rules in
    let all : c.args.maps.items ≡ c.loop-stored.invariant.given = c.loop-stored.invariant.front
    ∙ ap (λ (l : List (StoredMap g.row.D.Denot)). l ++ c.loop-stored.invariant.given) none in
    λ k. subst (λ (l : List (StoredMap g.row.D.Denot)). OfMap k l (IsNumbered g.D.Disk.history)) (sym all)
    (c.loop-stored.invariant.numbers k)
