-- The four parts of a commit, one after another.
use Rattle.std.proofs.Common.{◌≡◌, ◌≤◌, ◌⊎◌, ⊎_elim, inl, inr, sym, subst, length, ◌∙◌, ap, List, ℕ, Option, Some, None}
use Rattle.std.proofs.Common.{Result, Ok, Err}
use Rattle.std.specs.Prelude.{OnErr, IfSome}
use Rattle.yp_io.specs.Disk.{History, HistoryGoesOn, LeftBetween, LeavesOnly, MayLeave, IsReadAnImage}
use Rattle.yp_version.specs.Versions.{MapVersion}
use Rattle.yp_map_file.specs.Stands.{file_max, stands}
use Rattle.yp_map_file.specs.inside.Commits.{laid, closed, filled, opened, committed}
use Rattle.yp_map_file.specs.Slots.{IsSound, IsAsBefore}
use Rattle.yp_map_file.specs.inside.Slots.{ReadIsTold, IsAsBeforeOr, IsAsBeforeOrOpened, WouldStand, ReadsChanged}
use Rattle.yp_map_file.proofs.Moments.{weaker, then}
use Rattle.yp_map_file.proofs.Sits.{sound_small}

-- what holds at all holds at a refusal
pub on_err : {T E P : Type 0} (result : Result T E) → P → OnErr result P
on_err (Ok x) p = tt
on_err (Err e) p = p

-- what is read after some calls stands for what was read before them
abbrev pub StandsAlike : Option History → Option History → Type 0
StandsAlike None new = Unit {0}
StandsAlike (Some h) None = ⊥
StandsAlike (Some h) (Some k) = stands k.state.reads ≡ stands h.state.reads

before_through : (old new : Option History) → StandsAlike old new → (image : List ℕ) → IsAsBefore new image
    → IsAsBefore old image
before_through None new alike image as_new = tt
before_through (Some h) None alike image as_new = absurd alike
before_through (Some h) (Some k) alike image as_new = as_new ∙ alike

opened_through : (version : MapVersion) (old new : Option History) → StandsAlike old new → WouldStand version new
    → (image : List ℕ) → IsAsBeforeOrOpened new image → IsAsBeforeOr version old image
opened_through version None new alike would image left = inl tt
opened_through version (Some h) None alike would image left = absurd alike
opened_through version (Some h) (Some k) alike would image left = ⊎_elim (λ before. inl (before
    ∙ alike)) (λ as_opened. inr (as_opened ∙ would)) left

alike_told : (old new : Option History) → HistoryGoesOn old new → IsReadAnImage new
    → ((image : List ℕ) → MayLeave new image → IsAsBefore old image) → StandsAlike old new
alike_told None new went is_image here = tt
alike_told (Some h) None went is_image here = absurd went
alike_told (Some h) (Some k) went is_image here = here k.state.reads is_image

pub makes_all : (body : List ℕ) (a b c d e : Option History) → ReadsChanged laid a b → ReadsChanged closed b c
    → ReadsChanged (filled body) c d → ReadsChanged opened d e → ReadsChanged (committed body) a e
unfolding committed
makes_all body None b c d e one two three four = tt
makes_all body (Some a) None c d e one two three four = absurd one
makes_all body (Some a) (Some b) None d e one two three four = absurd two
makes_all body (Some a) (Some b) (Some c) None e one two three four = absurd three
makes_all body (Some a) (Some b) (Some c) (Some d) None one two three four = absurd four
makes_all body (Some a) (Some b) (Some c) (Some d) (Some e) one two three four =
    four ∙ ap opened (three ∙ ap (filled body) (two ∙ ap closed one))

module _ {Self : Type 0} (history : Self → Option History)
    (goes_on : (old middle new : Self) → HistoryGoesOn (history old) (history middle) → HistoryGoesOn (history middle) (history new)
    → HistoryGoesOn (history old) (history new))
    (splits : (old middle new : Self) (image : List ℕ) → HistoryGoesOn (history old) (history middle)
    → HistoryGoesOn (history middle) (history new) → LeftBetween (history old) (history new) image
    → LeftBetween (history old) (history middle) image ⊎ LeftBetween (history middle) (history new) image)
    (counts_now : (old new : Self) (image : List ℕ) → HistoryGoesOn (history old) (history new) → MayLeave (history new) image
    → LeftBetween (history old) (history new) image)
    (reads_image : (disk : Self) → IsReadAnImage (history disk)) where
  -- what a crash leaves at the end is what one leaves at some moment
  pub now : (old new : Self) (P : List ℕ → Type 0) → LeavesOnly (history old) (history new) P → (image : List ℕ)
      → MayLeave (history new) image → P image
  now old new P leaves image left = leaves.each image (counts_now old new image leaves.goes_on left)

  alike : (old new : Self) → LeavesOnly (history old) (history new) (IsAsBefore (history old))
      → StandsAlike (history old) (history new)
  alike old new leaves = alike_told (history old) (history new) leaves.goes_on (reads_image new)
      (now old new (IsAsBefore (history old)) leaves)

  -- one more part, during which the file stands for what it stood for
  pub part_more : (old middle new : Self) → LeavesOnly (history old) (history middle) (IsAsBefore (history old))
      → LeavesOnly (history middle) (history new) (IsAsBefore (history middle))
      → LeavesOnly (history old) (history new) (IsAsBefore (history old))
  part_more old middle new first second =
      then history old middle new (IsAsBefore (history old)) goes_on splits first
      (weaker (history middle) (history new) (IsAsBefore (history middle)) (IsAsBefore (history old))
      (before_through (history old) (history middle) (alike old middle first)) second)

  -- the last part
  pub part_last : (version : MapVersion) (old middle new : Self)
      → LeavesOnly (history old) (history middle) (IsAsBefore (history old))
      → LeavesOnly (history middle) (history new) (IsAsBeforeOrOpened (history middle))
      → WouldStand version (history middle)
      → LeavesOnly (history old) (history new) (IsAsBeforeOr version (history old))
  part_last version old middle new first second would =
      then history old middle new (IsAsBeforeOr version (history old)) goes_on splits
      (weaker (history old) (history middle) (IsAsBefore (history old)) (IsAsBeforeOr version (history old))
      (λ image before. inl before) first)
      (weaker (history middle) (history new) (IsAsBeforeOrOpened (history middle)) (IsAsBeforeOr version (history old))
      (opened_through version (history old) (history middle) (alike old middle first) would) second)

  pub or_version : (version : MapVersion) (old new : Self)
      → LeavesOnly (history old) (history new) (IsAsBefore (history old))
      → LeavesOnly (history old) (history new) (IsAsBeforeOr version (history old))
  or_version version old new leaves = weaker (history old) (history new) (IsAsBefore (history old))
      (IsAsBeforeOr version (history old)) (λ image before. inl before) leaves

-- ---- the bound of the file

image_small : (version : MapVersion) (history : Option History) (image : List ℕ)
    → IfSome history (λ h. IsSound (stands h.state.reads)) → ReadIsTold (λ file. Unit {0}) history
    → IsAsBeforeOr version history image → length image ≤ file_max
image_small version None image sound told left = absurd told
image_small version (Some h) image sound told (inl before) = sound_small image (subst IsSound (sym before) sound)
image_small version (Some h) image sound told (inr stored) = sound_small image (subst IsSound (sym stored) tt)

between_told : (old new : Option History) (image : List ℕ) → LeftBetween old new image → ReadIsTold (λ file. Unit {0}) old
between_told None new image left = absurd left
between_told (Some h) new image left = tt

pub bounded : (version : MapVersion) (old new : Option History) → IfSome old (λ h. IsSound (stands h.state.reads))
    → LeavesOnly old new (IsAsBeforeOr version old) → LeavesOnly old new (λ image. length image ≤ file_max)
bounded version old new sound leaves = record {
  goes_on = leaves.goes_on;
  each = λ image left. image_small version old image sound (between_told old new image left) (leaves.each image left);
}
