-- What a crash may leave of a disk in memory: the proofs of its laws.
use Rattle.std.specs.Prelude.{◌≡◌, ◌⊎◌, ℕ, ◌+◌, ◌/◌, ◌%◌, ◌^◌, ◌<◌, ◌≤◌, max, Bool, true, false, ◌&&◌, ◌||◌, nat_le}
use Rattle.std.specs.Prelude.{nat_lt, List, [], ◌∷◌, ◌++◌, length, slice_index, Some, ◌==◌, if◌then◌else◌}
use Rattle.std.specs.List.{fold}
use Rattle.std.proofs.Common.{refl, sym, ◌∙◌, ap, subst, ⊎_elim, arith}
use Rattle.std.proofs.lemmas.List.{places}
use Rattle.std.proofs.lemmas.Bool.Decides.{nat_tests}
use Rattle.yp_io.specs.Disk.{DiskState, IsImage, Torn, History, is_written, overwritten, touched, written_at}
use Rattle.yp_io.specs.Disk.{after_sync, IsReadAnImage}
use Rattle.yp_memory.specs.inside.MemDisk.{DiskStep, Wrote, Synced, fresh, after_step, played, unsynced_after, placed}
use Rattle.yp_memory.specs.inside.MemDisk.{with_kept}
use Rattle.yp_memory.specs.inside.MemDisk.{crashed}

length-overwritten : (at : ℕ) (piece old : List ℕ) → at ≤ length old
    → length (overwritten at piece old) ≡ max (length old) (at + length piece)
length-overwritten at piece old le = grind (arith, places)

pub torn-overwritten : (at : ℕ) (piece old : List ℕ) → Torn at (length piece) old (overwritten at piece old)
torn-overwritten at piece old = record {
  no_shorter = grind (arith, places);
  no_longer = grind (arith, places);
  before = λ place lt under. grind (arith, places);
  after = λ place lt over. grind (arith, places);
}

pub torn_same : (at n : ℕ) (bytes : List ℕ) → Torn at n bytes bytes
torn_same at n bytes = record {
  no_shorter = omega arith;
  no_longer = omega arith;
  before = λ place lt under. refl;
  after = λ place lt over. refl;
}

-- a place outside all ranges is outside the first and outside the others
outside_first : (at end place : ℕ) (rest : Bool) → ((nat_le at place && nat_lt place end) || rest) ≡ false
    → (place < at) ⊎ (end ≤ place)
outside_first at end place rest outside = grind (arith, nat_tests)

outside_rest : (b rest : Bool) → (b || rest) ≡ false → rest ≡ false
outside_rest true rest outside = cc
outside_rest false rest outside = outside

-- an image that is torn is one of the state where the range counts as written
pub torn_image : (state : DiskState) (at n : ℕ) (image new : List ℕ) → IsImage state image → Torn at n image new
    → IsImage (touched at n state) new
torn_image state at n image new is torn = record {
  no_shorter = omega (arith, is.no_shorter, torn.no_shorter);
  no_longer = omega (arith, is.no_longer, torn.no_longer);
  others_stay = λ place lt outside.
      let within : place < length image = omega (arith, is.no_shorter) in
      let stays : slice_index new place
      ≡ slice_index image place = ⊎_elim (torn.before place within) (torn.after place within)
      (outside_first at (at + n) place (is_written state.written place) outside) in
      stays ∙ is.others_stay place lt (outside_rest _ _ outside);
}

-- what one state may leave, each with the same bytes synced and the same ranges may leave
pub same_image : (state : DiskState) (reads image : List ℕ) → IsImage state image
    → IsImage (record state { reads = reads }) image
same_image state reads image is =
    record { no_shorter = is.no_shorter; no_longer = is.no_longer; others_stay = is.others_stay }

pub fresh_image : (bytes : List ℕ) → IsImage (record { synced = bytes; written = []; reads = bytes }) bytes
fresh_image bytes = record { no_shorter = omega arith; no_longer = omega arith; others_stay = λ place lt outside. refl }

-- what is read is an image, after every step
reads_play : (history : History) → IsImage history.state history.state.reads → (steps : List DiskStep) → let end =
    fold after_step history steps in IsImage end.state end.state.reads
reads_play history is [] = is
reads_play history is (Wrote at piece ∷ steps) =
    reads_play (written_at at piece history)
    (same_image _ _ _
    (torn_image history.state at (length piece) history.state.reads _ is
    (torn-overwritten at piece history.state.reads))) steps
reads_play history is (Synced ∷ steps) = reads_play (after_sync history) (fresh_image history.state.reads) steps

pub reads_image : (first : List ℕ) (steps : List DiskStep) → IsReadAnImage (Some (played first steps))
reads_image first steps = reads_play (fresh first) (fresh_image first) steps

pub torn-placed : (at : ℕ) (piece old : List ℕ) → Torn at (length piece) old (placed at piece old)
torn-placed at piece old = record {
  no_shorter = grind (arith, places);
  no_longer = grind (arith, places);
  before = λ place lt under. grind (arith, places);
  after = λ place lt over. grind (arith, places);
}

-- the last of the writes is kept or it isn't
pub with_kept_last : (kept number last : ℕ) (writes : List (ℕ × List ℕ)) (write : ℕ × List ℕ) (bytes : List ℕ)
    → last ≡ number + length writes
    → with_kept kept number (writes ++ write ∷ []) bytes
    ≡ (if (kept / 2 ^ last) % 2 == 1 then placed write.0 write.1
    (with_kept kept number writes bytes) else with_kept kept number writes bytes)
with_kept_last kept number last [] write bytes is =
    let same : number ≡ last = omega arith in
    ap (λ (n : ℕ). if (kept / 2 ^ n) % 2 == 1 then placed write.0 write.1 bytes else bytes) same
with_kept_last kept number last (first ∷ writes) write bytes is =
    with_kept_last kept (number + 1) last writes write
    (if (kept / 2 ^ number) % 2 == 1 then placed first.0 first.1 bytes else bytes) (omega arith)

one_kept : (state : DiskState) (keep : Bool) (at : ℕ) (piece image : List ℕ) → IsImage state image
    → IsImage (touched at (length piece) state) (if keep then placed at piece image else image)
one_kept state true at piece image is = torn_image state at (length piece) image _ is (torn-placed at piece image)
one_kept state false at piece image is =
    torn_image state at (length piece) image _ is (torn_same at (length piece) image)

-- what a crash leaves that keeps some of the writes is an image, after every step
kept_play : (kept : ℕ) (history : History) (writes : List (ℕ × List ℕ))
    → IsImage history.state (with_kept kept 0 writes history.state.synced) → (steps : List DiskStep)
    → let end = fold after_step history steps in
    IsImage end.state (with_kept kept 0 (fold unsynced_after writes steps) end.state.synced)
kept_play kept history writes is [] = is
kept_play kept history writes is (Wrote at piece ∷ steps) =
    let synced = history.state.synced in
    let one = one_kept history.state ((kept / 2 ^ length writes) % 2 == 1) at piece
    (with_kept kept 0 writes synced) is in
    let last = subst (IsImage (touched at (length piece) history.state))
    (sym (with_kept_last kept 0 (length writes) writes (at, piece) synced (omega arith))) one in
    kept_play kept (written_at at piece history) (writes ++ (at, piece) ∷ []) (same_image _ _ _ last) steps
kept_play kept history writes is (Synced ∷ steps) =
    kept_play kept (after_sync history) [] (fresh_image history.state.reads) steps

-- what a crash leaves that keeps some of the writes may be left by a crash
pub crashed_image : (kept : ℕ) (first : List ℕ) (steps : List DiskStep)
    → IsImage (played first steps).state (crashed kept first steps)
crashed_image kept first steps = kept_play kept (fresh first) [] (fresh_image first) steps
