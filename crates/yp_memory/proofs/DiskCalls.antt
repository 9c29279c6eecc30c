-- What the calls of a disk that tells its history leave.
use Rattle.std.proofs.Common.{◌≡◌, ℕ, List, [], ◌∷◌, ◌++◌, length, ap, Some, refl, sym, ◌∙◌, subst, ⊎_elim, arith}
use Rattle.std.proofs.lemmas.List.{ext_get_or}
use Rattle.yp_io.specs.Disk.{IsImage, History, LeavesOnly, MayLeave, MayLeaveTorn, IsReadAnImage, IsDurable}
use Rattle.yp_io.specs.Disk.{written_at, after_sync}
use Rattle.yp_io.specs.inside.DiskLaws.{stays, only_now, continued_once, left_once}
use Rattle.std.proofs.lemmas.List.Sums.{fold-append}
use Rattle.yp_memory.specs.inside.MemDisk.{DiskStep, Wrote, Synced, fresh, after_step, played}
use Rattle.yp_memory.specs.inside.MemDiskLaws.{torn_same, torn_image, same_image, reads_image}

-- a disk all of whose bytes are synced leaves them
pub synced_image : (bytes image : List ℕ) → IsImage (record { synced = bytes; written = []; reads = bytes }) image
    → image ≡ bytes
synced_image bytes image is =
    let size : length image ≡ length bytes = omega (arith, is.no_shorter, is.no_longer) in
    ext_get_or 0 image bytes size (λ place lt. is.others_stay place (omega (arith, size)) refl)

pub durable_after : (old : History) → IsDurable (Some (after_sync old))
durable_after old image is = synced_image old.state.reads image is

pub write_crash : (at : ℕ) (piece : List ℕ) (old : History)
    → LeavesOnly (Some old) (Some (written_at at piece old)) (MayLeaveTorn at (length piece) (Some old))
write_crash at piece old =
    let new = written_at at piece old in record {
      goes_on = continued_once old new refl;
      each = λ image left. ⊎_elim
          (λ now. same_image new.state old.state.reads image now)
          (λ before. torn_image old.state at (length piece) image image before (torn_same at (length piece) image))
          (left_once old new refl image left);
    }

-- where nothing was written
pub no_crash : (at n : ℕ) (old : History) → LeavesOnly (Some old) (Some old) (MayLeaveTorn at n (Some old))
no_crash at n old = record {
  goes_on = stays (Some old);
  each = λ image left. torn_image old.state at n image image (only_now (Some old) image left) (torn_same at n image);
}

pub sync_crash : (old : History) → IsReadAnImage (Some old)
    → LeavesOnly (Some old) (Some (after_sync old)) (MayLeave (Some old))
sync_crash old is = record {
  goes_on = continued_once old (after_sync old) refl;
  each = λ image left. ⊎_elim
      (λ now. subst (IsImage old.state) (sym (synced_image old.state.reads image now)) is)
      (λ before. before)
      (left_once old (after_sync old) refl image left);
}

-- where nothing was synced
pub no_sync_crash : (old : History) → LeavesOnly (Some old) (Some old) (MayLeave (Some old))
no_sync_crash old = record { goes_on = stays (Some old); each = λ image left. only_now (Some old) image left }

-- the same of a disk in memory, whose last step it was
pub write_leaves : (first : List ℕ) (old new : List DiskStep) (at : ℕ) (piece : List ℕ)
    → new ≡ old ++ Wrote at piece ∷ []
    → LeavesOnly (Some (played first old)) (Some (played first new))
    (MayLeaveTorn at (length piece) (Some (played first old)))
write_leaves first old new at piece last =
    let is = ap (played first) last ∙ fold-append after_step (fresh first) old (Wrote at piece ∷ []) in
    subst (λ (h : History). LeavesOnly (Some (played first old)) (Some h)
    (MayLeaveTorn at (length piece) (Some (played first old)))) (sym is) (write_crash at piece (played first old))

after_last_sync : (first : List ℕ) (old new : List DiskStep) → new ≡ old ++ Synced ∷ []
    → played first new ≡ after_sync (played first old)
after_last_sync first old new last = ap (played first) last ∙ fold-append after_step (fresh first) old (Synced ∷ [])

pub sync_leaves : (first : List ℕ) (old new : List DiskStep) → new ≡ old ++ Synced ∷ []
    → LeavesOnly (Some (played first old)) (Some (played first new)) (MayLeave (Some (played first old)))
sync_leaves first old new last =
    subst (λ (h : History). LeavesOnly (Some (played first old)) (Some h) (MayLeave (Some (played first old))))
    (sym (after_last_sync first old new last)) (sync_crash (played first old) (reads_image first old))

pub sync_durable : (first : List ℕ) (old new : List DiskStep) → new ≡ old ++ Synced ∷ []
    → IsDurable (Some (played first new))
sync_durable first old new last =
    subst (λ (h : History). IsDurable (Some h)) (sym (after_last_sync first old new last))
    (durable_after (played first old))
