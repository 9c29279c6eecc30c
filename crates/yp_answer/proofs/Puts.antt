-- Parts that are put one behind the other.
use Rattle.std.proofs.Common.{◌≡◌, ℕ, ◌+◌, ◌<◌, ◌≤◌, List, ◌++◌, length, take, Some, refl, sym, ap, ◌∙◌, append_assoc, arith, slice_get}
use Rattle.std.proofs.lemmas.List.{append-nil}
use Rattle.std.proofs.lemmas.Option.{slice_get_within}
use Rattle.yp_xdr.specs.inside.Writing.{Sets}
use Rattle.yp_rpc.specs.Records.{joined}
use Rattle.yp_answer.specs.inside.Streams.{filled_buffer, PutsParts, between}
use Rattle.yp_answer.proofs.Fronts.{front_set}
use Rattle.yp_answer.proofs.Parts.{between_none, between_more}

-- none yet
pub puts_none : (parts : List (List ℕ)) (first at : ℕ) (old : List ℕ) → at ≤ length old
    → PutsParts parts (filled_buffer first at old) (filled_buffer first at old)
puts_none parts first at old within = record {
  put = sym (ap (λ (bytes : List ℕ). take at old ++ bytes) (between_none first parts) ∙ append-nil (take at old));
  within = within;
  forward = omega arith;
  later = omega arith;
  starts = λ e. refl;
  moved = λ lt. absurd (omega (arith, lt));
  inside = λ lt. absurd (omega (arith, lt));
}

-- one part more
pub puts_more : (parts : List (List ℕ)) (part : List ℕ) (first next at end last : ℕ) (old mid new : List ℕ)
    → PutsParts parts (filled_buffer first at old) (filled_buffer next end mid)
    → slice_get parts next ≡ Some part → 0 < length part
    → end + length part ≤ length mid → length new ≡ length mid → Sets part end last mid new
    → PutsParts parts (filled_buffer first at old) (filled_buffer (next + 1) last new)
puts_more parts part first next at end last old mid new so_far there some room len set =
    let more = between_more first next parts part so_far.forward there in
    record {
      put = front_set part mid new end last set so_far.within
          ∙ ap (λ (bytes : List ℕ). bytes ++ part) so_far.put ∙ append_assoc (take at old) (joined (between first next parts)) part
          ∙ ap (λ (bytes : List ℕ). take at old ++ bytes) (sym more);
      within = omega (arith, set.place, len, room);
      forward = omega (arith, so_far.forward);
      later = omega (arith, so_far.later, set.place);
      starts = λ e. absurd (omega (arith, so_far.forward, e));
      moved = λ lt. omega (arith, so_far.later, set.place, some);
      inside = λ lt. omega (arith, slice_get_within parts next part there);
    }
