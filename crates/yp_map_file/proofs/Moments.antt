-- How a run of calls of a disk goes on.
use Rattle.std.proofs.Common.{◌⊎◌, ⊎_elim, ℕ, List, Option}
use Rattle.yp_io.specs.Disk.{History, HistoryGoesOn, LeftBetween, LeavesOnly, MayLeave}

-- where what a crash leaves has P, it has what follows from P
pub weaker : (old new : Option History) (P Q : List ℕ → Type 0) → ((image : List ℕ) → P image → Q image)
    → LeavesOnly old new P → LeavesOnly old new Q
weaker old new P Q f leaves = record { goes_on = leaves.goes_on; each = λ image left. f image (leaves.each image left) }

module _ {Self : Type 0} (history : Self → Option History) where
  -- no call at all
  pub nothing : (disk : Self) (P : List ℕ → Type 0) → ((disk : Self) → HistoryGoesOn (history disk) (history disk))
      → ((disk : Self) (image : List ℕ) → LeftBetween (history disk) (history disk) image
      → MayLeave (history disk) image)
      → ((image : List ℕ) → MayLeave (history disk) image → P image) → LeavesOnly (history disk) (history disk) P
  nothing disk P stays only_now here = record {
    goes_on = stays disk;
    each = λ image left. here image (only_now disk image left);
  }

  -- one call after another
  pub then : (old middle new : Self) (P : List ℕ → Type 0)
      → ((old middle new : Self) → HistoryGoesOn (history old) (history middle) → HistoryGoesOn (history middle) (history new)
      → HistoryGoesOn (history old) (history new))
      → ((old middle new : Self) (image : List ℕ) → HistoryGoesOn (history old) (history middle)
      → HistoryGoesOn (history middle) (history new) → LeftBetween (history old) (history new) image
      → LeftBetween (history old) (history middle) image ⊎ LeftBetween (history middle) (history new) image)
      → LeavesOnly (history old) (history middle) P → LeavesOnly (history middle) (history new) P
      → LeavesOnly (history old) (history new) P
  then old middle new P goes_on splits first second = record {
    goes_on = goes_on old middle new first.goes_on second.goes_on;
    each = λ image left. ⊎_elim (first.each image) (second.each image)
        (splits old middle new image first.goes_on second.goes_on left);
  }
