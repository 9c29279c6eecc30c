use Rattle.std.proofs.Common.{◌≡◌, ◌<◌, ◌≤◌, ◌+◌, ◌∙◌, refl, sym, ap, subst, bytes_eq, map, rules, get_or, false, arith, length, ◌∷◌, []}
use Rattle.std.proofs.lemmas.List.{length-map}
use Rattle.std.proofs.lemmas.List.Elements.{Contains-get_or}
use Rattle.indexmap.specs.IndexSet.{insert_key, insert_all}
use Rattle.yp_netgroup.specs.Parts.{names, parts}
use Rattle.yp_netgroup.specs.Reach.{members_of, group_text}
use Rattle.yp_netgroup.specs.inside.Who.{sought_of}
use Rattle.yp_netgroup.specs.inside.Seen.{names_of, has_sought, IsMet}
use Rattle.yp_netgroup.proofs.NamesMet.{met-first, met-next}
use Rattle.yp_netgroup.proofs.NameBytes.{bytes, same, name-at, distinct-bytes}
use Rattle.yp_netgroup.proofs.search.reach.Goals as goal

pub loop-next-init : goal.loop-next-init
loop-next-init g c =
    let keys : c.insert.new.self.keys ≡ insert_key same c.with_hasher-seen.result.keys c.args.group = search rules in
    let one : c.insert.new.self.keys ≡ c.args.group ∷ [] =
    keys ∙ ap (λ before. insert_key same before c.args.group) c.with_hasher-seen.ensures.empty in
    subst (λ met. IsMet c.args.version.now.rows c.args.group.now (sought_of c.args.sought) met 0) (sym (ap (map bytes) one))
    (met-first c.args.version.now.rows c.args.group.now (sought_of c.args.sought))

pub returns-then-branch-clause-met : goal.returns-then-branch-clause-met
returns-then-branch-clause-met g c =
    let rows = c.args.version.now.rows in
    let met = names_of c.loop-next.seen in
    let group = get_or met c.loop-next.next [] in
    let within : c.loop-next.next < length c.loop-next.seen.keys = omega (arith, c.len.ensures.len, c.loop-next-test.true) in
    let text : c.group_text.result.now ≡ group_text rows group =
    c.group_text.ensures ∙ ap (group_text rows) (name-at c.loop-next.seen.keys c.as_slice.result.now c.loop-next.next _ c.as_slice.ensures.keys within) in
    let there : c.loop-next.next < length met = omega (arith, within, length-map c.loop-next.seen.keys bytes) in
    record {
      via = group;
      reached = c.loop-next.invariant.reached group (Contains-get_or met c.loop-next.next [] there);
      listed = ap (λ bytes. has_sought (sought_of c.args.sought) (parts bytes)) (sym text) ∙ sym c.in_ok-read.ensures.found
          ∙ c.if-branch.true;
    }

pub loop-next-preserved : goal.loop-next-preserved
loop-next-preserved g c =
    let rows = c.args.version.now.rows in
    let sought = sought_of c.args.sought in
    let met = names_of c.loop-next.seen in
    let group = get_or met c.loop-next.next [] in
    let within : c.loop-next.next < length c.loop-next.seen.keys = omega (arith, c.len.ensures.len, c.loop-next-test.true) in
    let text : c.group_text.result.now ≡ group_text rows group =
    c.group_text.ensures ∙ ap (group_text rows) (name-at c.loop-next.seen.keys c.as_slice.result.now c.loop-next.next _ c.as_slice.ensures.keys within) in
    let there : c.loop-next.next < length met = omega (arith, within, length-map c.loop-next.seen.keys bytes) in
    let missed : has_sought sought (members_of rows group) ≡ false =
    ap (λ bytes. has_sought sought (parts bytes)) (sym text) ∙ sym c.in_ok-read.ensures.found ∙ c.if-branch.false in
    let new : names_of c.read.new.seen ≡ insert_all bytes_eq met (names (members_of rows group)) =
    c.in_ok-read.ensures.met c.if-branch.false ∙ ap (λ bytes. insert_all bytes_eq met (names (parts bytes))) text in
    subst (λ names. IsMet rows c.args.group.now sought names (c.loop-next.next + 1)) (sym new)
    (met-next rows c.args.group.now sought met c.loop-next.next group c.loop-next.invariant there refl missed)

pub returns-clause-met : goal.returns-clause-met
returns-clause-met g c =
    let is = c.loop-next.invariant in
    let over : length (names_of c.loop-next.seen) ≤ c.loop-next.next =
    omega (arith, c.len.ensures.len, c.loop-next-test.false, length-map c.loop-next.seen.keys bytes) in
    record {
      some = is.some;
      first = is.first;
      reached = is.reached;
      closed = λ k name h. is.closed k name (omega (arith, h, over));
      missed = λ k h. is.missed k (omega (arith, h, over));
    }

pub returns-clause-once : goal.returns-clause-once
returns-clause-once g c = distinct-bytes c.loop-next.seen.keys c.len.ensures.unique
