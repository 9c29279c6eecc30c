-- Worlds of a server that makes and fetches: a right one, and wrong ones.
use Rattle.std.proofs.Common.{◌≡◌, ◌⊎◌, ℕ, zero, suc, ◌≤◌, List, [], ◌∷◌, Option, Some, refl, sym, ap, ◌∙◌, subst, arith, inl, inr, ⊎_elim}
use Rattle.std.specs.Prelude.{◌==◌}
use Rattle.std.specs.List.{AllZip}
use Rattle.std.proofs.lemmas.List.{append-nil}
use Rattle.yp_io.specs.Disk.{IsImage}
use Rattle.yp_xdr.specs.Reading.{word_at, content_at, opaque_at}
use Rattle.yp_rpc.specs.Records.{sent}
use Rattle.yp_rpc.specs.inside.Laws.{FirstIsOne}
use Rattle.yp_version.specs.Versions.{MapVersion}
use Rattle.yp_board.specs.Logs.{Log, shown, starts}
use Rattle.yp_board.specs.Between.{Between}
use Rattle.yp_texts.specs.Builds.{order_after}
use Rattle.yp_texts.specs.After.{last_order}
use Rattle.yp_answer.specs.Reply.{Response}
use Rattle.yp_headline.specs.inside.Tried.{somebody, version_with, whole_file, synced, match_call, match_reply, first_log, made_log, fetched_bytes, served_world, IsTornWorld}
use Rattle.yp_headline.specs.World.{World, Dialed}
use Rattle.yp_headline.specs.Fetching.{Gives}
use Rattle.yp_headline.specs.Storing.{stood_for}
use Rattle.yp_headline.specs.Publishing.{IsBuilt, IsFetched, IsNew, StoreHas, IsPublishedLog, OfFile, StandsBy, AreLeft}
use Rattle.yp_headline.specs.Serving.{IsReply}
use Rattle.yp_headline.specs.Headline.{Replies, Crashes}
use Rattle.yp_headline.specs.inside.Files.{streamed}
use Rattle.yp_headline.proofs.Runs.{front_self, none_among}
use Rattle.yp_headline.proofs.Listing.{one_listed, listed_once}
use Rattle.yp_headline.proofs.Torn.{is_image, stands_first, stands_second}
use Rattle.yp_headline.proofs.Lost.{same_held, stored_same, no_image}
use Rattle.yp_headline.proofs.Kept.{stands_so}
use Rattle.yp_headline.proofs.Moments.{unchanged, at_any}
use Rattle.yp_headline.proofs.Matched.{match_record}
use Rattle.yp_headline.proofs.Worked.{matched_on, two_rise, make_then_match, stands_as, eighth}
use Rattle.yp_headline.proofs.Mailed.{two_inboxes}
use Rattle.yp_headline.proofs.Fetching.{gives}
use Rattle.yp_headline.proofs.Skewed.{one_server}
use Rattle.yp_headline.proofs.Mixed.{gives_one}
use Rattle.yp_headline.proofs.Spoiled.{later, stands_untold, first_value, another_value, another_order, not_kept}

-- ---- a right one

abbrev right : World
right = served_world (whole_file 8 119) (whole_file 9 119)

made : IsBuilt right 0 first_log (version_with 8 119)
made = record { moment = 8; master = refl; of_own = refl; order = refl; rows = λ none. one_listed (107 ∷ [], 119 ∷ []) }

fetched : IsFetched right (version_with 9 119)
fetched = record {
  server = streamed somebody fetched_bytes;
  among = ([], [], refl);
  fetched = version_with 9 119;
  gives = gives;
  marked = refl;
}

published : IsPublishedLog right first_log made_log
published = record {
  first = Some (version_with 7 118) ∷ [];
  stored = (stands_first, tt);
  begun_is = refl;
  more = (0, version_with 8 119) ∷ [];
  all = refl;
  new = (inl made, tt);
}

replies : Replies right first_log made_log
replies = record {
  published = published;
  rises = λ number. two_rise (0 == number);
  connections = (
    make_then_match.connections.0,
    (
      record {
        exchanges = record { caller = somebody; call = match_call; reply = Some (match_reply 118) } ∷ [];
        callers = (refl, tt);
        rest = [];
        came = (sent match_call, [], match_record, sym (append-nil (sent match_call)), refl);
        answered = (
          first_log,
          first_log,
          front_self first_log,
          front_self first_log,
          subst (λ (r : Response). IsReply r (Some (match_reply 118)) first_log first_log)
              (sym (matched_on first_log somebody 7 118 refl)) refl,
          ((0, version_with 8 119) ∷ [], refl),
        );
        unsent = [];
        sent = refl;
        whole = λ uncut. (inl refl, refl);
      },
      tt,
    ),
  );
  datagrams = two_inboxes.datagrams;
}

-- the version that was given
given_stands : (image : List ℕ) → IsImage (synced (whole_file 9 119)) image → StandsBy right 0 made_log image
given_stands image is =
    inr (version_with 9 119, inr fetched, stands_as (whole_file 9 119) image (version_with 9 119) stands_second is)

moments : (number : ℕ) → OfFile number right.stores
    (λ file. AreLeft right number file.first file.moments first_log made_log)
moments zero = record {
  log = made_log;
  begins = ((0, version_with 8 119) ∷ [], refl);
  goes_on = front_self made_log;
  holds = (
    λ image is. inr (given_stands image is),
    record {
      log = made_log;
      begins = ((0, version_with 8 119) ∷ [], refl);
      goes_on = front_self made_log;
      holds = (
        λ image is. inr (inl (stands_as (whole_file 8 119) image (version_with 8 119) eighth is)),
        unchanged right 0 (synced (whole_file 7 118)) first_log made_log ((0, version_with 8 119) ∷ [], refl),
      );
    },
  );
}
moments (suc number) = tt

ends : (number : ℕ) → OfFile number right.stores (λ file. (image : List ℕ) → IsImage file.last image
    → IsImage file.first image ⊎ StandsBy right number made_log image)
ends zero = λ image is. inr (given_stands image is)
ends (suc number) = tt

pub served : Replies right first_log made_log × Crashes right first_log made_log
served = (
  replies,
  record { published = published; any_moment = moments; at_end = ends; stored = λ number among. absurd (none_among number among) },
)

-- ---- wrong ones

stands_early : stood_for (whole_file 7 119) ≡ Some (Some (version_with 7 119))
unfolding word_at content_at opaque_at
stands_early = refl

module _ (one : FirstIsOne) (middle last : List ℕ) where
  abbrev world : World
  world = served_world middle last

  first_is : (first : List (Option MapVersion)) → AllZip StoreHas world.stores first → first ≡ Some (version_with 7 118) ∷ []
  first_is [] stored = absurd stored
  first_is (held ∷ []) stored =
      ap (λ (o : Option MapVersion). o ∷ []) (same_held held (Some (version_with 7 118)) (sym stored.0 ∙ stands_first))
  first_is (held ∷ two ∷ more) stored = absurd stored.1

  begun_shows : (begun log : Log) → IsPublishedLog world begun log → shown 0 begun ≡ Some (version_with 7 118)
  begun_shows begun log published =
      ap (shown 0) (published.begun_is ∙ ap (starts 0) (first_is published.first published.stored))

  -- a version that was fetched is the one that the server gave, but for its mark
  fetched_is : (version : MapVersion) → IsFetched world version
      → (version.order ≡ 9) × (version.rows ≡ (107 ∷ [], 119 ∷ []) ∷ [])
  fetched_is version is =
      let server = one_server (streamed somebody fetched_bytes) is.server is.among in
      let given = gives_one one is.fetched (subst (λ (d : Dialed). Gives d is.fetched) server is.gives) in (
        ap (λ (v : MapVersion). v.order) is.marked ∙ ap (λ (v : MapVersion). v.order) given,
        ap (λ (v : MapVersion). v.rows) is.marked ∙ ap (λ (v : MapVersion). v.rows) given,
      )

  -- each version is the first, or has the rows of the text
  abbrev OfText : Option MapVersion → Type 0
  OfText shows = (version : MapVersion) × (shows ≡ Some version)
      × ((version ≡ version_with 7 118) ⊎ (version.rows ≡ (107 ∷ [], 119 ∷ []) ∷ []))

  new_of_text : (log : Log) (version : MapVersion) → OfText (shown 0 log) → IsNew world 0 log version
      → OfText (Some version)
  new_of_text log version is (inl built) = (
    version,
    refl,
    inr (listed_once ((107 ∷ [], 119 ∷ []) ∷ []) version.rows ((107 ∷ [], 119 ∷ []) ∷ []) (built.rows refl)
        (one_listed (107 ∷ [], 119 ∷ []))),
  )
  new_of_text log version is (inr given) = (version, refl, inr ((fetched_is version given).1))

  -- and is the first, or has a higher order
  abbrev IsLater : Option MapVersion → Type 0
  IsLater shows = (version : MapVersion) × (shows ≡ Some version) × ((version ≡ version_with 7 118) ⊎ (8 ≤ version.order))

  least : (version : MapVersion) → (version ≡ version_with 7 118) ⊎ (8 ≤ version.order) → 7 ≤ version.order
  least version is = ⊎_elim
      (λ first. let order : version.order ≡ 7 = ap (λ (v : MapVersion). v.order) first in omega (arith, order))
      (λ over. omega (arith, over)) is

  new_is_later : (log : Log) (version : MapVersion) → IsLater (shown 0 log) → IsNew world 0 log version
      → IsLater (Some version)
  new_is_later log version is (inl built) =
      let over = later is.0 built.moment version
      (subst (λ (o : Option MapVersion). order_after (last_order o) built.moment ≡ Some version.order) is.1 built.order) in
      let first = least is.0 is.2 in
      (version, refl, inr (omega (arith, over, first)))
  new_is_later log version is (inr given) =
      let order = (fetched_is version given).0 in (version, refl, inr (omega (arith, order)))

  module _ (begun log : Log) (crashes : Crashes world begun log) where
    shows_text : OfText (shown 0 begun)
    shows_text = subst OfText (sym (begun_shows begun log crashes.published)) (version_with 7 118, refl, inl refl)

    shows_later : IsLater (shown 0 begun)
    shows_later = subst IsLater (sym (begun_shows begun log crashes.published)) (version_with 7 118, refl, inl refl)

    -- the file stands for another row
    pub another_row : (image : List ℕ) → stood_for image ≡ Some (Some (version_with 8 120))
        → Between begun log (λ front. StandsBy world 0 front image) → ⊥
    another_row image is by =
        let so = stands_so world 0 OfText new_of_text begun log crashes.published shows_text by.log by.begins by.goes_on image
        by.holds in
        let same = stored_same (version_with 8 120) so.1.0
        (sym is ∙ so.2 ∙ ap (λ (o : Option MapVersion). Some o) so.1.1) in
        ⊎_elim (λ first. another_order 8 120 (λ e. omega (arith, e)) (same ∙ first))
        (λ rows. another_value 120 (λ e. omega (arith, e)) (ap (λ (v : MapVersion). v.rows) same ∙ rows)) so.1.2

    -- it stands for the first order with other rows
    pub too_early : (image : List ℕ) → stood_for image ≡ Some (Some (version_with 7 119))
        → Between begun log (λ front. StandsBy world 0 front image) → ⊥
    too_early image is by =
        let so = stands_so world 0 IsLater new_is_later begun log crashes.published shows_later by.log by.begins by.goes_on
        image by.holds in
        let same = stored_same (version_with 7 119) so.1.0
        (sym is ∙ so.2 ∙ ap (λ (o : Option MapVersion). Some o) so.1.1) in
        ⊎_elim
        (λ first. let e : 119 ≡ 118 = ap (λ (v : MapVersion). first_value v.rows) (same ∙ first) in omega (arith, e))
        (λ over. let order : 7 ≡ so.1.0.order = ap (λ (v : MapVersion). v.order) same in omega (arith, order, over)) so.1.2

pub of_nobody_meanwhile : FirstIsOne → IsTornWorld (served_world (whole_file 8 120) (whole_file 8 119))
of_nobody_meanwhile one begun log crashes = ⊎_elim (not_kept 8 120 (λ e. omega (arith, e)))
    (another_row one (whole_file 8 120) (whole_file 8 119) begun log crashes (whole_file 8 120) stands_untold)
    (at_any (served_world (whole_file 8 120) (whole_file 8 119)) 0 (synced (whole_file 7 118))
    (synced (whole_file 8 119) ∷ synced (whole_file 8 120) ∷ synced (whole_file 7 118) ∷ []) begun log
    (crashes.any_moment 0) (whole_file 8 120) (inr (inl (is_image (whole_file 8 120)))))

pub of_nobody_at_end : FirstIsOne → IsTornWorld (served_world (whole_file 8 119) (whole_file 8 120))
of_nobody_at_end one begun log crashes = ⊎_elim (not_kept 8 120 (λ e. omega (arith, e)))
    (λ by. another_row one (whole_file 8 119) (whole_file 8 120) begun log crashes (whole_file 8 120) stands_untold (record {
      log = log;
      begins = (crashes.published.more, crashes.published.all);
      goes_on = front_self log;
      holds = by;
    }))
    (crashes.at_end 0 (whole_file 8 120) (is_image (whole_file 8 120)))

pub never_new : FirstIsOne → IsTornWorld (served_world (whole_file 7 119) (whole_file 8 119))
never_new one begun log crashes = ⊎_elim
    (λ first. let e : 119 ≡ 118 = no_image (whole_file 7 118) (whole_file 7 119) first 96 (omega arith) in omega (arith, e))
    (too_early one (whole_file 7 119) (whole_file 8 119) begun log crashes (whole_file 7 119) stands_early)
    (at_any (served_world (whole_file 7 119) (whole_file 8 119)) 0 (synced (whole_file 7 118))
    (synced (whole_file 8 119) ∷ synced (whole_file 7 119) ∷ synced (whole_file 7 118) ∷ []) begun log
    (crashes.any_moment 0) (whole_file 7 119) (inr (inl (is_image (whole_file 7 119)))))
