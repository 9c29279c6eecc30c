-- Bytes that are set one behind the other.
use Rattle.std.proofs.Common.{◌≡◌, ℕ, ◌+◌, ◌<◌, ◌≤◌, List, [], ◌∷◌, ◌++◌, length, map, take, drop, get_or, Ok, ap, sym, ◌∙◌, append_assoc, arith}
use Rattle.std.specs.Prelude.{flat_map}
use Rattle.std.proofs.lemmas.List.{length-append, length-take, take_at, take_more, map-append, append-nil}
use Rattle.std.proofs.lemmas.Grind.{flat_map-append}
use Rattle.yp_xdr.specs.inside.Writing.{Sets, Writes, written}
use Rattle.yp_xdr.specs.Spelling.{present, spelling}
use Rattle.yp_binding.specs.declared.portmap.mapping.Mapping.{Mapping}
use Rattle.yp_binding.specs.portmap.Registry.{mapping_kind, mapping_view}

pub joined : {one other : List ℕ} {at mid end : ℕ} {old half new : List ℕ} → Sets one at mid old half
    → Sets other mid end half new → Sets (one ++ other) at end old new
joined {one = one} {other = other} {at = at} {mid = mid} {end = end} {old = old} {half = half} {new = new} first
    second = record {
      place = omega (arith, first.place, second.place, length-append one other);
      bytes_there = first.with_more other new second.bytes_there;
      with_more = λ more last e. first.with_more (other ++ more) last (second.with_more more last e)
          ∙ ap (λ (xs : List ℕ). written old at xs) (sym (append_assoc one other more));
    }

pub front_set : (bytes old new : List ℕ) (at end : ℕ) → Sets bytes at end old new → at ≤ length old → take end new ≡ take at old ++ bytes
front_set bytes old new at end h within =
    ap (take end) h.bytes_there
    ∙ take_at (take at old ++ bytes) (drop (at + length bytes) old) end (omega (arith, h.place, length-append (take at old) bytes, length-take at old))

-- Mappings of a list, and the one behind them.
pub listed_more : (ms : List Mapping) (i : ℕ) (d : Mapping) → i < length ms
    → flat_map (present (spelling mapping_kind)) (map mapping_view (take (i + 1) ms))
    ≡ flat_map (present (spelling mapping_kind)) (map mapping_view (take i ms)) ++ present (spelling mapping_kind) (mapping_view (get_or ms i d))
listed_more ms i d lt =
    let put = present (spelling mapping_kind) in
    ap (λ (l : List Mapping). flat_map put (map mapping_view l)) (take_more ms i d lt)
    ∙ ap (flat_map put) (map-append mapping_view (take i ms) (get_or ms i d ∷ []))
    ∙ flat_map-append put (map mapping_view (take i ms)) (mapping_view (get_or ms i d) ∷ [])
    ∙ ap (λ (l : List ℕ). flat_map put (map mapping_view (take i ms)) ++ l) (append-nil (put (mapping_view (get_or ms i d))))

-- A writer that needs the room is one that answers the place after the bytes, where that is in the buffer.
pub writes_from_sets : (bytes : List ℕ) (at end : ℕ) (old new : List ℕ) → Sets bytes at end old new → end ≤ length old
    → Writes bytes at (Ok end) old new
writes_from_sets bytes at end old new sets within =
    record { place = (sets.place, within); bytes_there = sets.bytes_there; no_room = tt; unchanged = tt }
