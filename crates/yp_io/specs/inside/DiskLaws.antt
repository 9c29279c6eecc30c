-- What follows from the words on disks: the proofs of the laws of a disk that tells its history.
use Rattle.std.specs.Prelude.{◌≡◌, ◌⊎◌, ℕ, suc, ◌-◌, List, [], ◌∷◌, ◌++◌, length, take, Option, None, Some}
use Rattle.std.proofs.Common.{refl, sym, ◌∙◌, ap, subst, inl, inr, ⊎_elim, arith, append_assoc, length-append, take_at}
use Rattle.yp_io.specs.Disk.{DiskState, IsImage, History, states, moment, LeftIn, LeftSince, Continues, HistoryGoesOn}
use Rattle.yp_io.specs.Disk.{LeftBetween, MayLeave}

left_in_either : (xs ys : List DiskState) (image : List ℕ) → LeftIn (xs ++ ys) image → LeftIn xs image ⊎ LeftIn ys image
left_in_either [] ys image left = inr left
left_in_either (x ∷ xs) ys image (inl here) = inl (inl here)
left_in_either (x ∷ xs) ys image (inr there) =
    ⊎_elim (λ first. inl (inr first)) (λ second. inr second) (left_in_either xs ys image there)

left_in_first : (xs ys : List DiskState) (image : List ℕ) → LeftIn xs image → LeftIn (xs ++ ys) image
left_in_first [] ys image left = absurd left
left_in_first (x ∷ xs) ys image (inl here) = inl here
left_in_first (x ∷ xs) ys image (inr there) = inr (left_in_first xs ys image there)

-- the moments from one history to another
since_is : (old new : History) (steps : List DiskState) → states new ≡ steps ++ states old
    → take (suc (moment new - moment old)) (states new) ≡ steps ++ old.state ∷ []
since_is old new steps follow =
    let size : length (steps ++ old.state ∷ []) ≡ suc (moment new - moment old) =
    omega (arith, length-append steps (old.state ∷ []), length-append steps (states old), ap length follow) in
    ap (λ (l : List DiskState). take (suc (moment new - moment old)) l)
    (follow ∙ sym (append_assoc steps (old.state ∷ []) old.past))
    ∙ take_at (steps ++ old.state ∷ []) old.past (suc (moment new - moment old)) size

from_between : (old new : History) (went : Continues old new) (image : List ℕ) → LeftSince new (moment old) image
    → LeftIn (went.steps ++ old.state ∷ []) image
from_between old new went image left =
    subst (λ (l : List DiskState). LeftIn l image) (since_is old new went.steps went.follow) left

to_between : (old new : History) (went : Continues old new) (image : List ℕ)
    → LeftIn (went.steps ++ old.state ∷ []) image → LeftSince new (moment old) image
to_between old new went image left =
    subst (λ (l : List DiskState). LeftIn l image) (sym (since_is old new went.steps went.follow)) left

pub stays : (history : Option History) → HistoryGoesOn history history
stays None = tt
stays (Some h) = record { steps = []; follow = refl }

pub only_now : (history : Option History) (image : List ℕ) → LeftBetween history history image → MayLeave history image
only_now None image left = absurd left
only_now (Some h) image left =
    ⊎_elim (λ here. here) (λ none. absurd none) (from_between h h (record { steps = []; follow = refl }) image left)

-- the newest moment is one of those
newest : (old new : History) (steps : List DiskState) → states new ≡ steps ++ states old → (image : List ℕ)
    → IsImage new.state image → LeftIn (steps ++ old.state ∷ []) image
newest old new [] follow image now = subst (λ (l : List DiskState). LeftIn (take 1 l) image) follow (inl now)
newest old new (step ∷ steps) follow image now =
    let first : LeftIn (step ∷ []) image = subst (λ (l : List DiskState). LeftIn (take 1 l) image) follow (inl now) in
    ⊎_elim (λ here. inl here) (λ none. absurd none) first

pub counts_now : (old new : Option History) (image : List ℕ) → HistoryGoesOn old new → MayLeave new image
    → LeftBetween old new image
counts_now None None image went now = absurd now
counts_now None (Some new) image went now = absurd went
counts_now (Some old) None image went now = absurd went
counts_now (Some old) (Some new) image went now =
    to_between old new went image (newest old new went.steps went.follow image now)

continues_twice : (old middle new : History) → Continues old middle → Continues middle new → Continues old new
continues_twice old middle new first second = record {
  steps = second.steps ++ first.steps;
  follow =
      second.follow ∙ ap (λ (l : List DiskState). second.steps ++ l) first.follow
      ∙ sym (append_assoc second.steps first.steps (states old));
}

pub goes_on : (old middle new : Option History) → HistoryGoesOn old middle → HistoryGoesOn middle new
    → HistoryGoesOn old new
goes_on None None None first second = tt
goes_on None None (Some new) first second = second
goes_on None (Some middle) new first second = absurd first
goes_on (Some old) None new first second = absurd first
goes_on (Some old) (Some middle) None first second = absurd second
goes_on (Some old) (Some middle) (Some new) first second = continues_twice old middle new first second

pub splits : (old middle new : Option History) (image : List ℕ) → HistoryGoesOn old middle → HistoryGoesOn middle new
    → LeftBetween old new image → LeftBetween old middle image ⊎ LeftBetween middle new image
unfolding continues_twice
splits None middle new image first second left = absurd left
splits (Some old) None new image first second left = absurd first
splits (Some old) (Some middle) None image first second left = absurd second
splits (Some old) (Some middle) (Some new) image first second left =
    let all = from_between old new (continues_twice old middle new first second) image left in
    let apart : LeftIn (second.steps ++ (first.steps ++ old.state ∷ [])) image =
    subst (λ (l : List DiskState). LeftIn l image) (append_assoc second.steps first.steps (old.state ∷ [])) all in
    ⊎_elim
    (λ later. inr (to_between middle new second image (left_in_first second.steps (middle.state ∷ []) image later)))
    (λ earlier. inl (to_between old middle first image earlier))
    (left_in_either second.steps (first.steps ++ old.state ∷ []) image apart)

-- one step of the clock
pub continued_once : (old new : History) → new.past ≡ states old → Continues old new
continued_once old new follow =
    record { steps = new.state ∷ []; follow = ap (λ (l : List DiskState). new.state ∷ l) follow }

pub left_once : (old new : History) → new.past ≡ states old → (image : List ℕ) → LeftSince new (moment old) image
    → IsImage new.state image ⊎ IsImage old.state image
unfolding continued_once
left_once old new follow image left =
    ⊎_elim (λ now. inl now) (λ before. inr (⊎_elim (λ here. here) (λ none. absurd none) before))
    (from_between old new (continued_once old new follow) image left)
