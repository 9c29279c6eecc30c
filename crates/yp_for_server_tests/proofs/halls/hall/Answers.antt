use Rattle.std.proofs.Common.{Bool, true, false, List, [], ◌∷◌, ◌++◌, sym, subst}
use Rattle.std.specs.Prelude.{if◌then◌else◌, is_ok}
use Rattle.std.specs.List.{All}
use Rattle.std.proofs.lemmas.List.Elements.{All-push}
use Rattle.yp_memory.specs.inside.MemHall.{HallConnection, EntryIsNew}
use Rattle.yp_for_server_tests.proofs.halls.hall.Goals as goal

-- one more connection that has met no fault and taken nothing, where there is memory for it
added : (calls : List HallConnection) (call : HallConnection) (pushed : Bool) → All EntryIsNew calls → EntryIsNew call
    → All EntryIsNew (if pushed then calls ++ call ∷ [] else calls)
added calls call true all fresh = All-push EntryIsNew calls call all fresh
added calls call false all fresh = all

pub loop-caller-preserved : goal.loop-caller-preserved
loop-caller-preserved c =
    subst (All EntryIsNew) (sym c.push.ensures.items)
    (added c.loop-caller.arrivals.items c.in_ok-call.call (is_ok c.push.result) c.loop-caller.invariant c.in_ok-call.ensures)
