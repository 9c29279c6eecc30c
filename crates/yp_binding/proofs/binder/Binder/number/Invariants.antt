use Rattle.std.proofs.Common.{◌≡◌, ℕ, ◌<◌, false, map, get_or, []}
use Rattle.std.specs.Prelude.{bytes_eq}
use Rattle.yp_binding.proofs.binder.Binder.number.Given as goal

abbrev pub invariant-loop-number : goal.invariant-loop-number
invariant-loop-number l =
    (k : ℕ) → k < l.number
    → bytes_eq (get_or (map (λ name. name.items) l.self-inside.domains.items) k []) l.domain ≡ false
