-- What a crash leaves at the moments of a file: by a front of the log at each, and so at any of them.
use Rattle.std.proofs.Common.{◌≡◌, ◌⊎◌, ℕ, List, [], ◌∷◌, Option, refl, inl, inr, ⊎_elim}
use Rattle.yp_io.specs.Disk.{DiskState, History, IsImage, LeftIn, MayLeave, LeavesOnly}
use Rattle.yp_board.specs.Logs.{Log}
use Rattle.yp_board.specs.Views.{IsFront}
use Rattle.yp_board.specs.Between.{Between}
use Rattle.yp_publisher.specs.Grown.{LeavesInTurn, LeavesByFronts, OrAsBefore}
use Rattle.yp_publisher.proofs.Chains.{by_one_log, by_fronts_then, by_fronts_so}
use Rattle.yp_headline.specs.World.{World}
use Rattle.yp_headline.specs.Publishing.{StandsBy, AreLeft}
use Rattle.yp_headline.proofs.Runs.{front_self}
use Rattle.yp_headline.proofs.Steps.{front_then}

module _ (world : World) (number : ℕ) (first : DiskState) where
  -- at each the first log is enough
  pub all_by_first : (moments : List DiskState) (begun log : Log) → IsFront begun log
      → ((image : List ℕ) → LeftIn moments image → IsImage first image ⊎ StandsBy world number begun image)
      → AreLeft world number first moments begun log
  all_by_first [] begun log goes each = goes
  all_by_first (state ∷ earlier) begun log goes each = record {
    log = begun;
    begins = front_self begun;
    goes_on = goes;
    holds = (
      λ image is. ⊎_elim (λ before. inl (before, refl)) (λ by. inr by) (each image (inl is)),
      all_by_first earlier begun begun (front_self begun) (λ image left. each image (inr left)),
    );
  }

  -- the file is as it was at first
  pub unchanged : (begun log : Log) → IsFront begun log → AreLeft world number first (first ∷ []) begun log
  unchanged begun log goes =
      all_by_first (first ∷ []) begun log goes (λ image left. inl (⊎_elim (λ is. is) (λ none. absurd none) left))

  -- at any of them
  pub at_any : (moments : List DiskState) (begun log : Log) → AreLeft world number first moments begun log
      → (image : List ℕ) → LeftIn moments image
      → IsImage first image ⊎ Between begun log (λ front. StandsBy world number front image)
  at_any [] begun log are image left = absurd left
  at_any (state ∷ earlier) begun log are image left = ⊎_elim
      (λ is. ⊎_elim (λ before. inl before.0)
      (λ by. inr (record { log = are.log; begins = are.begins; goes_on = are.goes_on; holds = by }))
      (are.holds.0 image is))
      (λ later. ⊎_elim (λ before. inl before)
      (λ by. inr (record {
        log = by.log;
        begins = by.begins;
        goes_on = front_then by.log are.log log by.goes_on are.goes_on;
        holds = by.holds;
      }))
      (at_any earlier begun are.log are.holds.1 image later)) left

  -- a crash leaves at each what stands by its front
  pub of_turn : (P : Log → List ℕ → Type 0) (begun : Log)
      → ((front : Log) (image : List ℕ) → P front image
      → (IsImage first image × (front ≡ begun)) ⊎ StandsBy world number front image)
      → (moments : List DiskState) (log : Log) → LeavesInTurn P moments begun log
      → AreLeft world number first moments begun log
  of_turn P begun then [] log is = is
  of_turn P begun then (state ∷ earlier) log is = record {
    log = is.log;
    begins = is.begins;
    goes_on = is.goes_on;
    holds = (
      λ image may. then is.log image (is.holds.0 image may),
      of_turn P begun then earlier is.log is.holds.1,
    );
  }

-- what a crash leaves since a disk was opened is what it leaves since before
pub since_before : (P : Log → List ℕ → Type 0) (begun log : Log) (old opened new : Option History)
    → LeavesOnly old opened (MayLeave old) → LeavesByFronts P opened new begun log
    → LeavesByFronts (OrAsBefore old begun P) old new begun log
since_before P begun log old opened new first later =
    by_fronts_then old opened new begun begun log
    (by_one_log old opened begun begun (front_self begun)
    (record { goes_on = first.goes_on; each = λ image left. inl (first.each image left, refl) }))
    (by_fronts_so opened new begun log (λ front image is. inr is) later)
