-- Replaying the steps of a disk gives what a crash leaves.
use Rattle.std.proofs.Common.{◌≡◌, ℕ, ◌/◌, ◌^◌, List, [], ◌∷◌, ◌++◌, length, refl, sym, ◌∙◌, ap, arith}
use Rattle.std.proofs.lemmas.List.{length_push}
use Rattle.std.proofs.lemmas.Nat.{pow-add}
use Rattle.std.proofs.Math.Nat.{div-div-eq-div-mul}
use Rattle.std.specs.List.{fold}
use Rattle.yp_io.specs.Disk.{History, written_at, after_sync, overwritten}
use Rattle.yp_memory.specs.inside.MemDisk.{DiskStep, Wrote, Synced, after_step, fresh, unsynced_after, with_kept, crashed}
use Rattle.yp_memory.specs.inside.MemDiskLaws.{with_kept_last}
use Rattle.yp_memory.specs.inside.MemSteps.{Replayed, after_crash_step}

-- the bit of the write after these is the lowest of what is left
next_bits : (kept : ℕ) (writes : List (ℕ × List ℕ)) (write : ℕ × List ℕ)
    → kept / 2 ^ length writes / 2 ≡ kept / 2 ^ length (writes ++ write ∷ [])
next_bits kept writes write =
    div-div-eq-div-mul kept (2 ^ length writes) 2
    ∙ ap (λ (n : ℕ). kept / n) (sym (pow-add 2 (length writes) 1))
    ∙ ap (λ (n : ℕ). kept / 2 ^ n) (sym (length_push writes write))

-- what is replayed after some steps
abbrev at_history : ℕ → History → List (ℕ × List ℕ) → Replayed
at_history kept history writes = record {
  reads = history.state.reads;
  image = with_kept kept 0 writes history.state.synced;
  bits = kept / 2 ^ length writes;
}

replay_from : (kept : ℕ) (history : History) (writes : List (ℕ × List ℕ)) (steps : List DiskStep)
    → (fold (after_crash_step kept) (at_history kept history writes) steps).image
    ≡ with_kept kept 0 (fold unsynced_after writes steps) (fold after_step history steps).state.synced
replay_from kept history writes [] = refl
replay_from kept history writes (Wrote at piece ∷ steps) =
    let synced = history.state.synced in
    let image = sym (with_kept_last kept 0 (length writes) writes (at, piece) synced (omega arith)) in
    let bits = next_bits kept writes (at, piece) in
    let reads = overwritten at piece history.state.reads in
    (λ i. (fold (after_crash_step kept) (record { reads = reads; image = image i; bits = bits i }) steps).image)
    ∙ replay_from kept (written_at at piece history) (writes ++ (at, piece) ∷ []) steps
replay_from kept history writes (Synced ∷ steps) =
    (λ i. (fold (after_crash_step kept)
    (record { reads = history.state.reads; image = history.state.reads; bits = whole kept i }) steps).image)
    ∙ replay_from kept (after_sync history) [] steps
  where
    whole : (kept : ℕ) → kept ≡ kept / 2 ^ 0
    whole kept = omega arith

pub replay_all : (kept : ℕ) (first : List ℕ) (steps : List DiskStep)
    → (fold (after_crash_step kept) (record { reads = first; image = first; bits = kept }) steps).image
    ≡ crashed kept first steps
replay_all kept first steps =
    (λ i. (fold (after_crash_step kept) (record { reads = first; image = first; bits = whole kept i }) steps).image)
    ∙ replay_from kept (fresh first) [] steps
  where
    whole : (kept : ℕ) → kept ≡ kept / 2 ^ 0
    whole kept = omega arith
