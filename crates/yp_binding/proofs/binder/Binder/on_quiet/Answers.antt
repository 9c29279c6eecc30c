use Rattle.std.proofs.Common.{◌≡◌, length, map, drop, arith}
use Rattle.std.proofs.lemmas.List.{take_at, length-map}
use Rattle.yp_binding.specs.inside.Standings.{rested}
use Rattle.yp_binding.specs.inside.Kept.{bindings_of}
use Rattle.yp_binding.proofs.Keeping.{quiets}
use Rattle.yp_binding.proofs.binder.Binder.on_quiet.Goals as goal

pub invariant_of-self : goal.invariant_of-self
invariant_of-self c =
    let items = c.self.inside.standings.items in
    let new = map rested items in
    let len : length new ≡ c.self.inside.standings.len = omega (arith, length-map items rested) in
    rw (
      c.add.ensures,
      c.rest_all.ensures,
      c.deref_mut.ensures.value,
      take_at new (drop (length new) items) c.self.inside.standings.len len,
    )
    (quiets (bindings_of c.self.inside) _ _ _ _ c.self.invariant)
