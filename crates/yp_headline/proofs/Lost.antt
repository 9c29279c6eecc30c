-- Worlds that are wrong in which version a crash leaves.
use Rattle.std.proofs.Common.{◌≡◌, ℕ, ◌<◌, List, [], ◌∷◌, ◌++◌, length, Option, Some, None, refl, sym, ap, ◌∙◌, subst, arith, inl, inr, ⊎_elim, append_assoc}
use Rattle.std.specs.Prelude.{slice_index}
use Rattle.std.specs.List.{AllZip}
use Rattle.std.proofs.lemmas.List.{append_cancel_left}
use Rattle.yp_io.specs.Disk.{IsImage}
use Rattle.yp_version.specs.Versions.{MapVersion}
use Rattle.yp_board.specs.Logs.{Log, shown, starts}
use Rattle.yp_board.specs.Views.{IsFront}
use Rattle.yp_publisher.specs.Grown.{AreMade}
use Rattle.yp_headline.specs.inside.Tried.{version_with, whole_file, synced, one_file, IsTornWorld}
use Rattle.yp_headline.specs.World.{World}
use Rattle.yp_headline.specs.Storing.{stood_for}
use Rattle.yp_headline.specs.Publishing.{IsNew, StoreHas, IsPublishedLog, StandsBy}
use Rattle.yp_headline.proofs.Runs.{front_self}
use Rattle.yp_headline.proofs.Moments.{at_any}
use Rattle.yp_headline.proofs.Torn.{is_image, image_length, stands_first, stands_second, stands_none}
use Rattle.yp_headline.proofs.Matched.{stays, never_new}

pub same_held : (a b : Option MapVersion) → Some a ≡ Some b → a ≡ b
same_held a b is = cc

-- a server of one map of another master, whose file stood for a version
module _ (middle last : List ℕ) (begun log : Log)
    (published : IsPublishedLog (one_file (whole_file 7 118) middle last [] []) begun log) where
  abbrev world : World
  world = one_file (whole_file 7 118) middle last [] []

  first_is : (first : List (Option MapVersion)) → AllZip StoreHas world.stores first → first ≡ Some (version_with 7 118) ∷ []
  first_is [] stored = absurd stored
  first_is (one ∷ []) stored =
      ap (λ (o : Option MapVersion). o ∷ []) (same_held one (Some (version_with 7 118)) (sym stored.0 ∙ stands_first))
  first_is (one ∷ two ∷ more) stored = absurd stored.1

  begun_shows : shown 0 begun ≡ Some (version_with 7 118)
  begun_shows = ap (shown 0) (published.begun_is ∙ ap (starts 0) (first_is published.first published.stored))

  shows : (front : Log) → IsFront begun front → IsFront front log → shown 0 front ≡ Some (version_with 7 118)
  shows front begins goes_on =
      let parts : begun ++ published.more ≡ begun ++ (begins.0 ++ goes_on.0) =
      sym published.all ∙ goes_on.1 ∙ ap (λ (l : Log). l ++ goes_on.0) begins.1 ∙ append_assoc begun begins.0 goes_on.0 in
      let more : published.more ≡ begins.0 ++ goes_on.0 = append_cancel_left begun published.more (begins.0 ++ goes_on.0) parts in
      ap (shown 0) begins.1 ∙ stays world refl refl begun begins.0 goes_on.0 begun_shows
      (subst (λ (l : Log). AreMade (IsNew world) begun l) more published.new)

  -- it stands for that alone
  pub stands_so : (front : Log) → IsFront begun front → IsFront front log → (image : List ℕ) → StandsBy world 0 front image
      → stood_for image ≡ Some (Some (version_with 7 118))
  stands_so front begins goes_on image by = ⊎_elim
      (λ same. same ∙ ap (λ (o : Option MapVersion). Some o) (shows front begins goes_on))
      (λ new. absurd (never_new world refl refl front new.0 (shows front begins goes_on) new.1)) by

  pub grown : IsFront begun log
  grown = (published.more, published.all)

pub stored_same : (a b : MapVersion) → Some (Some a) ≡ Some (Some b) → a ≡ b
stored_same a b is = let e : Some a ≡ Some b = same_held (Some a) (Some b) is in cc

pub order_same : (a b : MapVersion) → Some (Some a) ≡ Some (Some b) → a.order ≡ b.order
order_same a b is = ap (λ (v : MapVersion). v.order) (stored_same a b is)

pub no_image : (one other : List ℕ) → IsImage (synced one) other → (place : ℕ) → place < length one
    → slice_index other place ≡ slice_index one place
no_image one other is place within = is.others_stay place within refl

-- a version that is gone at the end
pub lost_at_end : IsTornWorld (one_file (whole_file 7 118) [] [] [] [])
lost_at_end begun log crashes = ⊎_elim
    (λ first. let same = image_length (whole_file 7 118) [] first in omega (arith, same))
    (λ by. let is = stands_so [] [] begun log crashes.published log (grown [] [] begun log crashes.published) (front_self log) [] by in
    let e : None ≡ Some (version_with 7 118) = same_held None (Some (version_with 7 118)) (sym stands_none ∙ is) in cc)
    (crashes.at_end 0 [] (is_image []))

-- one that is gone at a moment
pub lost_meanwhile : IsTornWorld (one_file (whole_file 7 118) [] (whole_file 7 118) [] [])
lost_meanwhile begun log crashes = ⊎_elim
    (λ first. let same = image_length (whole_file 7 118) [] first in omega (arith, same))
    (λ by. let is = stands_so [] (whole_file 7 118) begun log crashes.published by.log by.begins by.goes_on [] by.holds in
    let e : None ≡ Some (version_with 7 118) = same_held None (Some (version_with 7 118)) (sym stands_none ∙ is) in cc)
    (at_any (one_file (whole_file 7 118) [] (whole_file 7 118) [] []) 0 (synced (whole_file 7 118))
    (synced (whole_file 7 118) ∷ synced [] ∷ synced (whole_file 7 118) ∷ []) begun log (crashes.any_moment 0) []
    (inr (inl (is_image []))))

-- a version that nobody made or sent
pub from_nowhere : IsTornWorld (one_file (whole_file 7 118) (whole_file 7 118) (whole_file 9 119) [] [])
from_nowhere begun log crashes = ⊎_elim
    (λ first. let same = no_image (whole_file 7 118) (whole_file 9 119) first 71 (omega arith) in
    let e : 9 ≡ 7 = same in omega (arith, e))
    (λ by. let is = stands_so (whole_file 7 118) (whole_file 9 119) begun log crashes.published log
    (grown (whole_file 7 118) (whole_file 9 119) begun log crashes.published) (front_self log) (whole_file 9 119) by in
    let e : Some (Some (version_with 9 119)) ≡ Some (Some (version_with 7 118)) = sym stands_second ∙ is in
    let orders : 9 ≡ 7 = order_same (version_with 9 119) (version_with 7 118) e in omega (arith, orders))
    (crashes.at_end 0 (whole_file 9 119) (is_image (whole_file 9 119)))
