-- A world that is wrong: a file goes back by two versions.
use Rattle.std.proofs.Common.{◌≡◌, ◌⊎◌, ◌<◌, List, [], ◌∷◌, ◌++◌, Option, Some, refl, sym, ap, ◌∙◌, subst, arith, inl, inr, ⊎_elim, append_assoc}
use Rattle.std.specs.List.{AllZip}
use Rattle.std.proofs.lemmas.List.{append-nil, append_cancel_left}
use Rattle.yp_xdr.specs.Reading.{word_at, content_at, opaque_at}
use Rattle.yp_rpc.specs.inside.Laws.{FirstIsOne}
use Rattle.yp_version.specs.Versions.{MapVersion}
use Rattle.yp_board.specs.Logs.{Log, shown, starts}
use Rattle.yp_board.specs.Views.{IsFront}
use Rattle.yp_texts.specs.Builds.{order_after}
use Rattle.yp_texts.specs.After.{last_order}
use Rattle.yp_publisher.specs.Grown.{Making, AreMade}
use Rattle.yp_headline.specs.inside.Tried.{somebody, version_with, whole_file, fetched_bytes, IsTornWorld}
use Rattle.yp_headline.specs.inside.TriedFiles.{back_world}
use Rattle.yp_headline.specs.World.{Dialed}
use Rattle.yp_headline.specs.Fetching.{Gives}
use Rattle.yp_headline.specs.Storing.{stood_for}
use Rattle.yp_headline.specs.Publishing.{IsFetched, IsNew, StoreHas, IsPublishedLog, StandsBy}
use Rattle.yp_headline.specs.inside.Files.{streamed}
use Rattle.yp_headline.proofs.Listing.{one_listed, listed_once}
use Rattle.yp_headline.proofs.Torn.{is_image}
use Rattle.yp_headline.proofs.Lost.{same_held, stored_same, order_same, no_image}
use Rattle.yp_headline.proofs.Kept.{kept, on_front}
use Rattle.yp_headline.proofs.Skewed.{one_server}
use Rattle.yp_headline.proofs.Mixed.{gives_one}
use Rattle.yp_headline.proofs.Spoiled.{later, first_value}

stands_first : stood_for (whole_file 20 118) ≡ Some (Some (version_with 20 118))
unfolding word_at content_at opaque_at
stands_first = refl

stands_third : stood_for (whole_file 10 119) ≡ Some (Some (version_with 10 119))
unfolding word_at content_at opaque_at
stands_third = refl

-- what was made behind a front
made_behind : (Is : Making) (log front more : Log) → AreMade Is log (front ++ more) → AreMade Is (log ++ front) more
made_behind Is log [] more made = subst (λ (l : Log). AreMade Is l more) (sym (append-nil log)) made
made_behind Is log (entry ∷ front) more made = subst (λ (l : Log). AreMade Is l more) (append_assoc log (entry ∷ []) front)
    (made_behind Is (log ++ entry ∷ []) front more made.1)

first_is : (first : List (Option MapVersion)) → AllZip StoreHas back_world.stores first → first ≡ Some (version_with 20 118) ∷ []
first_is [] stored = absurd stored
first_is (held ∷ []) stored =
    ap (λ (o : Option MapVersion). o ∷ []) (same_held held (Some (version_with 20 118)) (sym stored.0 ∙ stands_first))
first_is (held ∷ two ∷ more) stored = absurd stored.1

-- its value is that of the text
abbrev IsText : Option MapVersion → Type 0
IsText shows = (version : MapVersion) × (shows ≡ Some version) × (first_value version.rows ≡ 119)

never_first : (shows : Option MapVersion) → shows ≡ Some (version_with 20 118) → IsText shows → ⊥
never_first shows is text =
    let same = stored_same (version_with 20 118) text.0 (ap (λ (o : Option MapVersion). Some o) (sym is ∙ text.1)) in
    let e : 118 ≡ 119 = ap (λ (v : MapVersion). first_value v.rows) same ∙ text.2 in omega (arith, e)

module _ (one : FirstIsOne) where
  -- the version that the server gave, but for its mark
  fetched_is : (version : MapVersion) → IsFetched back_world version
      → (version.order ≡ 9) × (version.rows ≡ (107 ∷ [], 119 ∷ []) ∷ [])
  fetched_is version is =
      let server = one_server (streamed somebody fetched_bytes) is.server is.among in
      let given = gives_one one is.fetched (subst (λ (d : Dialed). Gives d is.fetched) server is.gives) in (
        ap (λ (v : MapVersion). v.order) is.marked ∙ ap (λ (v : MapVersion). v.order) given,
        ap (λ (v : MapVersion). v.rows) is.marked ∙ ap (λ (v : MapVersion). v.rows) given,
      )

  new_rows : (log : Log) (version : MapVersion) → IsNew back_world 0 log version → version.rows ≡ (107 ∷ [], 119 ∷ []) ∷ []
  new_rows log version (inl built) = listed_once ((107 ∷ [], 119 ∷ []) ∷ []) version.rows ((107 ∷ [], 119 ∷ []) ∷ [])
      (built.rows refl) (one_listed (107 ∷ [], 119 ∷ []))
  new_rows log version (inr given) = (fetched_is version given).1

  new_text : (log : Log) (version : MapVersion) → IsNew back_world 0 log version → IsText (Some version)
  new_text log version is = (version, refl, ap first_value (new_rows log version is))

  module _ (begun log : Log) (published : IsPublishedLog back_world begun log) where
    begun_shows : shown 0 begun ≡ Some (version_with 20 118)
    begun_shows = ap (shown 0) (published.begun_is ∙ ap (starts 0) (first_is published.first published.stored))

    -- what a front shows is the first version, or is of the text from then on
    first_or_text : (front : Log) → IsFront begun front → IsFront front log
        → (shown 0 front ≡ Some (version_with 20 118)) ⊎ IsText (shown 0 front)
    first_or_text = on_front back_world 0 (λ shows. (shows ≡ Some (version_with 20 118)) ⊎ IsText shows)
        (λ log version was is. inr (new_text log version is)) begun log published (inl begun_shows)

    stays_text : (front next : Log) → IsFront begun front → IsFront front next → IsFront next log
        → IsText (shown 0 front) → IsText (shown 0 next)
    stays_text front next begins goes up is =
        let rest : log ≡ front ++ (goes.0 ++ up.0) =
        up.1 ∙ ap (λ (l : Log). l ++ up.0) goes.1 ∙ append_assoc front goes.0 up.0 in
        let parts : begun ++ published.more ≡ begun ++ (begins.0 ++ (goes.0 ++ up.0)) =
        sym published.all ∙ rest ∙ ap (λ (l : Log). l ++ (goes.0 ++ up.0)) begins.1
        ∙ append_assoc begun begins.0 (goes.0 ++ up.0) in
        let more : published.more ≡ begins.0 ++ (goes.0 ++ up.0) =
        append_cancel_left begun published.more (begins.0 ++ (goes.0 ++ up.0)) parts in
        let made : AreMade (IsNew back_world) front (goes.0 ++ up.0) =
        subst (λ (l : Log). AreMade (IsNew back_world) l (goes.0 ++ up.0)) (sym begins.1)
        (made_behind (IsNew back_world) begun begins.0 (goes.0 ++ up.0)
        (subst (λ (l : Log). AreMade (IsNew back_world) begun l) more published.new)) in
        subst (λ (l : Log). IsText (shown 0 l)) (sym goes.1)
        (kept back_world 0 IsText (λ log version was is. new_text log version is) front goes.0 up.0 is made)

    -- where a front shows the first version, each front before it does
    before_first : (front next : Log) → IsFront begun front → IsFront front next → IsFront next log
        → shown 0 next ≡ Some (version_with 20 118) → shown 0 front ≡ Some (version_with 20 118)
    before_first front next begins goes up is =
        let up_all : IsFront front log = (
          goes.0 ++ up.0,
          up.1 ∙ ap (λ (l : Log). l ++ up.0) goes.1 ∙ append_assoc front goes.0 up.0,
        ) in
        ⊎_elim (λ first. first)
        (λ text. absurd (never_first (shown 0 next) is (stays_text front next begins goes up text)))
        (first_or_text front begins up_all)

    -- the first version is new behind no front
    first_shown : (front : Log) → StandsBy back_world 0 front (whole_file 20 118) → shown 0 front ≡ Some (version_with 20 118)
    first_shown front (inl same) = same_held (shown 0 front) (Some (version_with 20 118)) (sym same ∙ stands_first)
    first_shown front (inr new) =
        let same = stored_same (version_with 20 118) new.0 (sym stands_first ∙ new.2) in
        let e : 118 ≡ 119 = ap (λ (v : MapVersion). first_value v.rows) same ∙ ap first_value (new_rows front new.0 new.1) in
        absurd (omega (arith, e))

    -- nor is the third behind one that shows the first
    third_new : (front : Log) → shown 0 front ≡ Some (version_with 20 118) → (version : MapVersion) → version.order ≡ 10
        → IsNew back_world 0 front version → ⊥
    third_new front shows version order (inl built) =
        let over : 20 < version.order = later (version_with 20 118) built.moment version
        (subst (λ (o : Option MapVersion). order_after (last_order o) built.moment ≡ Some version.order) shows built.order) in
        omega (arith, over, order)
    third_new front shows version order (inr given) =
        let nine = (fetched_is version given).0 in omega (arith, nine, order)

    never_third : (front : Log) → shown 0 front ≡ Some (version_with 20 118) → StandsBy back_world 0 front (whole_file 10 119) → ⊥
    never_third front shows (inl same) =
        let e : 10 ≡ 20 = order_same (version_with 10 119) (version_with 20 118)
        (sym stands_third ∙ same ∙ ap (λ (o : Option MapVersion). Some o) shows) in omega (arith, e)
    never_third front shows (inr new) =
        let order : new.0.order ≡ 10 = sym (order_same (version_with 10 119) new.0 (sym stands_third ∙ new.2)) in
        third_new front shows new.0 order new.1

  -- at a moment it stands for the third version, and at a later one for the first
  pub went_back : IsTornWorld back_world
  went_back begun log crashes =
      let published = crashes.published in
      let last = crashes.any_moment 0 in
      let middle = last.holds.1 in
      let shows_last : shown 0 last.log ≡ Some (version_with 20 118) = ⊎_elim
      (λ as_first. ap (shown 0) as_first.1 ∙ begun_shows begun log published)
      (λ by. first_shown begun log published last.log by)
      (last.holds.0 (whole_file 20 118) (is_image (whole_file 20 118))) in
      let shows = before_first begun log published middle.log last.log middle.begins middle.goes_on last.goes_on shows_last in
      ⊎_elim
      (λ as_first. let e : 10 ≡ 20 = no_image (whole_file 20 118) (whole_file 10 119) as_first.0 71 (omega arith) in omega (arith, e))
      (never_third begun log published middle.log shows)
      (middle.holds.0 (whole_file 10 119) (is_image (whole_file 10 119)))
