use Rattle.std.proofs.Common.{rules, [], ◌∷◌, length, List, ap, sym, subst, arith, length-append}
use Rattle.std.specs.List.{All}
use Rattle.std.proofs.lemmas.List.Elements.{All-drop}
use Rattle.yp_memory.specs.inside.MemHall.{HallConnection, EntryIsNew}
use Rattle.yp_memory.proofs.hall.MemHall.next_call.Goals as goal

pub invariant_of-self : goal.invariant_of-self
invariant_of-self c =
    let longer = length-append c.self.inside.came (c.remove-call.result ∷ []) in (
      subst (λ (calls : List HallConnection). All EntryIsNew calls) (sym c.remove-call.ensures.items)
          (All-drop EntryIsNew 1 c.self.inside.waiting.items c.self.invariant.0),
      search rules,
      omega (arith, ap length c.push.ensures, longer, c.self.invariant.2),
      search rules,
    )
