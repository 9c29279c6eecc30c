-- Worlds that are wrong in which version a crash leaves, of a map that is made of a text, and of two maps.
use Rattle.std.proofs.Common.{◌≡◌, ◌⊎◌, ℕ, zero, suc, ◌+◌, ◌<◌, ◌≤◌, max, Bool, true, false, leb, ltb, List, [], ◌∷◌, ◌++◌, length, take, Option, Some, None, IfSome, if◌then◌else◌, refl, sym, ap, ◌∙◌, subst, arith, inl, inr, ⊎_elim}
use Rattle.std.specs.Prelude.{slice_index}
use Rattle.std.specs.List.{AllZip}
use Rattle.std.proofs.lemmas.Bool.{cases_lt}
use Rattle.std.proofs.lemmas.Bool.Decides.{nat_tests, eqb_tells}
use Rattle.yp_io.specs.Disk.{DiskState, is_written, IsImage}
use Rattle.yp_xdr.specs.Reading.{word_at, content_at, opaque_at}
use Rattle.yp_version.specs.Rows.{Row}
use Rattle.yp_version.specs.Versions.{MapVersion}
use Rattle.yp_board.specs.Logs.{Log, shown, starts}
use Rattle.yp_texts.specs.Builds.{order_max, order_after}
use Rattle.yp_texts.specs.After.{last_order}
use Rattle.yp_headline.specs.inside.Tried.{open_cell, shut_cell, body_with, version_with, whole_file, synced, one_file, IsTornWorld}
use Rattle.yp_headline.specs.inside.TriedFiles.{in_writing, text_world, two_files}
use Rattle.yp_headline.specs.Storing.{stood_for}
use Rattle.yp_headline.specs.Publishing.{IsNew, StoreHas, IsPublishedLog}
use Rattle.yp_headline.proofs.Runs.{front_self}
use Rattle.yp_headline.proofs.Torn.{is_image, image_length, no_damage, no_server, stands_first, stands_none}
use Rattle.yp_headline.proofs.Lost.{same_held, stored_same, order_same, no_image}
use Rattle.yp_headline.proofs.Listing.{one_listed, listed_once}
use Rattle.yp_headline.proofs.Kept.{stands_so}

-- ---- what these files stand for

stands_cut : stood_for (take 99 (whole_file 7 118)) ≡ None
unfolding word_at content_at opaque_at
stands_cut = refl

stands_mixed : stood_for (whole_file 8 118) ≡ Some (Some (version_with 8 118))
unfolding word_at content_at opaque_at
stands_mixed = refl

stands_older : stood_for (whole_file 6 119) ≡ Some (Some (version_with 6 119))
unfolding word_at content_at opaque_at
stands_older = refl

pub stands_untold : stood_for (whole_file 8 120) ≡ Some (Some (version_with 8 120))
unfolding word_at content_at opaque_at
stands_untold = refl

stands_next : stood_for (whole_file 8 119) ≡ Some (Some (version_with 8 119))
unfolding word_at content_at opaque_at
stands_next = refl

-- a file that ends within its body
pub cut_at_end : IsTornWorld (one_file [] [] (take 99 (whole_file 7 118)) [] [])
cut_at_end begun log crashes = ⊎_elim
    (λ first. let same = image_length [] (take 99 (whole_file 7 118)) first in omega (arith, same))
    (λ stood. no_damage (one_file [] [] (take 99 (whole_file 7 118)) [] []) log (take 99 (whole_file 7 118)) stands_cut stood)
    (crashes.at_end 0 (take 99 (whole_file 7 118)) (is_image (take 99 (whole_file 7 118))))

-- ---- a body that is written over

same_front : (front one other : List ℕ) (place : ℕ) → place < length front
    → slice_index (front ++ one) place ≡ slice_index (front ++ other) place
same_front [] one other place within = absurd (omega (arith, within))
same_front (byte ∷ front) one other zero within = refl
same_front (byte ∷ front) one other (suc place) within = same_front front one other place (omega (arith, within))

in_cells : (place : ℕ) → place < 100 → is_written ((64, 100) ∷ []) place ≡ false → place < 64
in_cells place within not_written = elim (cases_lt place 64) [
  | inl before ↦ before
  | inr behind ↦
      let e : leb 64 place ≡ true = grind (arith, nat_tests) in
      let e2 : ltb place 100 ≡ true = grind (arith, nat_tests) in
      absurd (let no : true ≡ false = rw (e, e2) at not_written in cc)
]

-- a crash may leave any body then
body_left : (order value : ℕ) → IsImage (in_writing (whole_file 7 118) (whole_file 8 119)) (whole_file order value)
body_left order value = record {
  no_shorter = omega arith;
  no_longer = omega arith;
  others_stay = λ place within not_written. same_front (open_cell ++ shut_cell) (body_with order value) (body_with 7 118) place
      (in_cells place within not_written);
}

-- it is told as stored, and a crash may still leave the old one
pub told_too_early : IsTornWorld (text_world (whole_file 7 118) (in_writing (whole_file 7 118) (whole_file 8 119)) (0 ∷ []))
told_too_early begun log crashes =
    let old = crashes.stored 0 ([], [], refl) (whole_file 7 118) (body_left 7 118) in
    let new = crashes.stored 0 ([], [], refl) (whole_file 8 119) (body_left 8 119) in
    let e : Some (Some (version_with 7 118)) ≡ Some (Some (version_with 8 119)) = sym stands_first ∙ old ∙ sym new ∙ stands_next in
    let orders : 7 ≡ 8 = order_same (version_with 7 118) (version_with 8 119) e in omega (arith, orders)

-- ---- a map that is made of a text

-- an order that is next is over the last
pub later : (previous : MapVersion) (moment : ℕ) (version : MapVersion)
    → order_after (last_order (Some previous)) moment ≡ Some version.order → previous.order < version.order
later previous moment version next = elim (eqb_tells previous.order order_max) [
  | inl is ↦
      let none : None ≡ Some version.order =
      subst (λ (b : Bool). (if b then None else Some (max (previous.order + 1) moment)) ≡ Some version.order) is.0 next in absurd cc
  | inr isnt ↦
      let some : Some (max (previous.order + 1) moment) ≡ Some version.order =
      subst (λ (b : Bool). (if b then None else Some (max (previous.order + 1) moment)) ≡ Some version.order) isnt.0 next in
      let same : max (previous.order + 1) moment ≡ version.order = cc in omega (arith, same)
]

module _ (last : DiskState) (done : List ℕ) where
  first_is : (first : List (Option MapVersion)) → AllZip StoreHas (text_world (whole_file 7 118) last done).stores first
      → first ≡ Some (version_with 7 118) ∷ []
  first_is [] stored = absurd stored
  first_is (one ∷ []) stored =
      ap (λ (o : Option MapVersion). o ∷ []) (same_held one (Some (version_with 7 118)) (sym stored.0 ∙ stands_first))
  first_is (one ∷ two ∷ more) stored = absurd stored.1

  begun_shows : (begun log : Log) → IsPublishedLog (text_world (whole_file 7 118) last done) begun log
      → shown 0 begun ≡ Some (version_with 7 118)
  begun_shows begun log published =
      ap (shown 0) (published.begun_is ∙ ap (starts 0) (first_is published.first published.stored))

  -- each is the first, or has the rows of the text
  abbrev pub OfText : Option MapVersion → Type 0
  OfText shows = (version : MapVersion) × (shows ≡ Some version)
      × ((version ≡ version_with 7 118) ⊎ (version.rows ≡ (107 ∷ [], 119 ∷ []) ∷ []))

  new_of_text : (log : Log) (version : MapVersion) → OfText (shown 0 log)
      → IsNew (text_world (whole_file 7 118) last done) 0 log version → OfText (Some version)
  new_of_text log version is (inl built) = (
    version,
    refl,
    inr (listed_once ((107 ∷ [], 119 ∷ []) ∷ []) version.rows ((107 ∷ [], 119 ∷ []) ∷ []) (built.rows refl)
        (one_listed (107 ∷ [], 119 ∷ []))),
  )
  new_of_text log version is (inr fetched) = absurd (no_server fetched.server fetched.among)

  never_left : (image : List ℕ) (left : MapVersion) → stood_for image ≡ Some (Some left) → (left ≡ version_with 7 118 → ⊥)
      → (left.rows ≡ (107 ∷ [], 119 ∷ []) ∷ [] → ⊥)
      → (version : Option MapVersion) × OfText version × (stood_for image ≡ Some version) → ⊥
  never_left image left is not_first not_text stood =
      let same = stored_same left stood.1.0 (sym is ∙ stood.2 ∙ ap (λ (o : Option MapVersion). Some o) stood.1.1) in
      ⊎_elim (λ first. not_first (same ∙ first)) (λ rows. not_text (ap (λ (v : MapVersion). v.rows) same ∙ rows)) stood.1.2

  text_false : (image : List ℕ) (left : MapVersion) → IsImage last image → stood_for image ≡ Some (Some left)
      → (IsImage (synced (whole_file 7 118)) image → ⊥) → (left ≡ version_with 7 118 → ⊥)
      → (left.rows ≡ (107 ∷ [], 119 ∷ []) ∷ [] → ⊥) → IsTornWorld (text_world (whole_file 7 118) last done)
  text_false image left may_be is not_kept not_first not_text begun log crashes =
      let published = crashes.published in
      ⊎_elim not_kept
      (λ stood. never_left image left is not_first not_text
      (stands_so (text_world (whole_file 7 118) last done) 0 OfText new_of_text begun log published
      (subst OfText (sym (begun_shows begun log published)) (version_with 7 118, refl, inl refl)) log
      (published.more, published.all) (front_self log) image stood))
      (crashes.at_end 0 image may_be)

  -- each has an order that isn't under the first
  abbrev pub NotOlder : Option MapVersion → Type 0
  NotOlder shows = (version : MapVersion) × (shows ≡ Some version) × (7 ≤ version.order)

  new_not_older : (log : Log) (version : MapVersion) → NotOlder (shown 0 log)
      → IsNew (text_world (whole_file 7 118) last done) 0 log version → NotOlder (Some version)
  new_not_older log version is (inl built) =
      let over = later is.0 built.moment version
      (subst (λ (o : Option MapVersion). order_after (last_order o) built.moment ≡ Some version.order) is.1 built.order) in
      let first : 7 ≤ is.0.order = is.2 in
      (version, refl, omega (arith, over, first))
  new_not_older log version is (inr fetched) = absurd (no_server fetched.server fetched.among)

  not_older : (begun log : Log) → IsPublishedLog (text_world (whole_file 7 118) last done) begun log → NotOlder (shown 0 begun)
  not_older begun log published = subst NotOlder (sym (begun_shows begun log published)) (version_with 7 118, refl, omega arith)

abbrev pub first_value : List Row → ℕ
first_value [] = 0
first_value (row ∷ rows) = slice_index row.1 0

abbrev one_row : ℕ → List Row
one_row value = (107 ∷ [], value ∷ []) ∷ []

pub another_value : (value : ℕ) → (value ≡ 119 → ⊥) → one_row value ≡ one_row 119 → ⊥
another_value value not_same rows = not_same (ap first_value rows)

pub another_order : (order value : ℕ) → (order ≡ 7 → ⊥) → version_with order value ≡ version_with 7 118 → ⊥
another_order order value not_same same = not_same (ap (λ (v : MapVersion). v.order) same)

pub not_kept : (order value : ℕ) → (order ≡ 7 → ⊥) → IsImage (synced (whole_file 7 118)) (whole_file order value) → ⊥
not_kept order value not_same kept = not_same (no_image (whole_file 7 118) (whole_file order value) kept 71 (omega arith))

-- the order of one version with the rows of another
pub torn_body : IsTornWorld (text_world (whole_file 7 118) (in_writing (whole_file 7 118) (whole_file 8 119)) [])
torn_body = text_false (in_writing (whole_file 7 118) (whole_file 8 119)) [] (whole_file 8 118) (version_with 8 118) (body_left 8 118)
    stands_mixed (not_kept 8 118 (λ e. omega (arith, e))) (another_order 8 118 (λ e. omega (arith, e)))
    (another_value 118 (λ e. omega (arith, e)))

-- rows that aren't those of the text
pub of_no_text : IsTornWorld (text_world (whole_file 7 118) (synced (whole_file 8 120)) [])
of_no_text = text_false (synced (whole_file 8 120)) [] (whole_file 8 120) (version_with 8 120) (is_image (whole_file 8 120))
    stands_untold (not_kept 8 120 (λ e. omega (arith, e))) (another_order 8 120 (λ e. omega (arith, e)))
    (another_value 120 (λ e. omega (arith, e)))

-- an order under that of the first
pub older_at_end : IsTornWorld (text_world (whole_file 7 118) (synced (whole_file 6 119)) [])
older_at_end begun log crashes =
    let last = synced (whole_file 6 119) in
    let published = crashes.published in
    ⊎_elim (not_kept 6 119 (λ e. omega (arith, e)))
    (λ stood.
    let so = stands_so (text_world (whole_file 7 118) last []) 0 (NotOlder last []) (new_not_older last []) begun log published
    (not_older last [] begun log published) log (published.more, published.all) (front_self log) (whole_file 6 119) stood in
    let orders : 6 ≡ so.1.0.order = order_same (version_with 6 119) so.1.0 (sym stands_older ∙ so.2 ∙ ap (λ (o : Option MapVersion). Some o) so.1.1) in
    let least : 7 ≤ so.1.0.order = so.1.2 in omega (arith, orders, least))
    (crashes.at_end 0 (whole_file 6 119) (is_image (whole_file 6 119)))

-- ---- two maps

abbrev OfOwn : Option MapVersion → Type 0
OfOwn shows = IfSome shows (λ version. version.master ≡ 110 ∷ [])

new_of_own : (log : Log) (version : MapVersion) → OfOwn (shown 1 log) → IsNew (two_files (whole_file 7 118)) 1 log version
    → OfOwn (Some version)
new_of_own log version is (inl built) = built.master
new_of_own log version is (inr fetched) = absurd (no_server fetched.server fetched.among)

second_is : (first : List (Option MapVersion)) → AllZip StoreHas (two_files (whole_file 7 118)).stores first
    → (one : Option MapVersion) × (first ≡ one ∷ None ∷ [])
second_is [] stored = absurd stored
second_is (one ∷ []) stored = absurd stored.1
second_is (one ∷ two ∷ []) stored =
    (one, ap (λ (o : Option MapVersion). one ∷ o ∷ []) (same_held two None (sym stored.1.0 ∙ stands_none)))
second_is (one ∷ two ∷ three ∷ more) stored = absurd stored.1.1

none_begun : (one : Option MapVersion) → shown 1 (starts 0 (one ∷ None ∷ [])) ≡ None
none_begun None = refl
none_begun (Some version) = refl

own_begun : (begun log : Log) → IsPublishedLog (two_files (whole_file 7 118)) begun log → OfOwn (shown 1 begun)
own_begun begun log published =
    let two = second_is published.first published.stored in
    subst OfOwn (sym (ap (shown 1) (published.begun_is ∙ ap (starts 0) two.1) ∙ none_begun two.0)) tt

never_own : (shows : Option MapVersion) → OfOwn shows → Some (Some (version_with 7 118)) ≡ Some shows → ⊥
never_own None own is = let e : Some (version_with 7 118) ≡ None = same_held (Some (version_with 7 118)) None is in cc
never_own (Some version) own is =
    let masters : 109 ∷ [] ≡ 110 ∷ [] = ap (λ (v : MapVersion). v.master) (stored_same (version_with 7 118) version is) ∙ own in
    let e : 109 ≡ 110 = ap (λ (l : List ℕ). slice_index l 0) masters in omega (arith, e)

-- the second file holds the version of the first map
pub of_another_map : IsTornWorld (two_files (whole_file 7 118))
of_another_map begun log crashes =
    let published = crashes.published in
    ⊎_elim
    (λ first. let same = image_length [] (whole_file 7 118) first in omega (arith, same))
    (λ stood.
    let so = stands_so (two_files (whole_file 7 118)) 1 OfOwn new_of_own begun log published (own_begun begun log published) log
    (published.more, published.all) (front_self log) (whole_file 7 118) stood in
    never_own so.0 so.1 (sym stands_first ∙ so.2))
    (crashes.at_end 1 (whole_file 7 118) (is_image (whole_file 7 118)))
