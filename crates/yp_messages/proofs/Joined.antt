-- Two writes in turn are one write.
use Rattle.std.proofs.Common.{ℕ, List, ◌++◌, append_assoc, ap, ◌∙◌, sym, arith}
use Rattle.std.proofs.lemmas.List.{length-append}
use Rattle.yp_xdr.specs.inside.Writing.{written, Sets}

pub joined : {one other : List ℕ} {at mid end : ℕ} {old half new : List ℕ} → Sets one at mid old half
    → Sets other mid end half new → Sets (one ++ other) at end old new
joined {one = one} {other = other} {at = at} {mid = mid} {end = end} {old = old} {half = half} {new = new} first
    second = record {
      place = omega (arith, first.place, second.place, length-append one other);
      bytes_there = first.with_more other new second.bytes_there;
      with_more = λ more last e. first.with_more (other ++ more) last (second.with_more more last e)
          ∙ ap (λ (xs : List ℕ). written old at xs) (sym (append_assoc one other more));
    }
