-- Worlds that are right: a map that is made and then asked for, three installs, a source that changes, and a map that is
-- fetched.
use Rattle.std.proofs.Common.{◌≡◌, ◌⊎◌, ℕ, zero, suc, Bool, true, false, cond, List, [], ◌∷◌, ◌++◌, map, Option, Some, None, refl, sym, ap, ◌∙◌, subst, arith, inl, inr, append_assoc}
use Rattle.std.specs.Prelude.{◌==◌}
use Rattle.std.specs.List.Sorted.{IsStrictlyIncreasing}
use Rattle.std.proofs.lemmas.List.{append-nil}
use Rattle.std.proofs.lemmas.List.Elements.{All-nil, All-cons}
use Rattle.yp_io.specs.declared.stream.Peer.{Peer}
use Rattle.yp_io.specs.Disk.{DiskState, IsImage}
use Rattle.yp_xdr.specs.Reading.{word_at, content_at, opaque_at}
use Rattle.yp_xdr.specs.Spelling.{fixed, opaque}
use Rattle.yp_rpc.specs.Records.{Fragments, IsShort, sent, sent_within}
use Rattle.yp_messages.specs.declared.transfer.XfrStat.TheVariants.{Succ}
use Rattle.yp_version.specs.Versions.{MapVersion}
use Rattle.yp_board.specs.Logs.{Log, shown}
use Rattle.yp_board.specs.Views.{IsFront}
use Rattle.yp_answer.specs.declared.procedure.Path.TheVariants.{Stream}
use Rattle.yp_answer.specs.Numbers.{record_max}
use Rattle.yp_answer.specs.Make.{job_of}
use Rattle.yp_answer.specs.Served.{maps_on}
use Rattle.yp_answer.specs.Reply.{Response, Bytes, Open, reply, make_reply}
use Rattle.std.proofs.lemmas.Grind.{same_number_lists}
use Rattle.yp_texts.specs.Builds.{order_after}
use Rattle.yp_texts.specs.After.{other_master, last_order}
use Rattle.yp_headline.specs.inside.Tried.{version_with, whole_file, synced, match_call, match_reply, first_log, own_map, own_caller, make_call, make_world, made_log, skewed_world, installing, all_log, twice_log}
use Rattle.yp_headline.specs.Publishing.{IsAmong, IsBuilt, OfFile, StandsBy, AreLeft}
use Rattle.yp_headline.specs.Serving.{IsReply}
use Rattle.yp_headline.specs.Storing.{stood_for}
use Rattle.yp_headline.specs.Headline.{Replies, Crashes, Transfers}
use Rattle.yp_headline.proofs.Runs.{front_self, none_among}
use Rattle.yp_headline.proofs.Listing.{one_listed}
use Rattle.yp_headline.proofs.Moments.{unchanged}
use Rattle.yp_headline.proofs.Torn.{stands_first}
use Rattle.yp_headline.proofs.Matched.{match_record}

-- ---- a map that is made, and then asked for

make_record : Fragments record_max make_call (sent make_call)
unfolding sent_within
make_record = record {
  pieces = [];
  last = make_call;
  whole = refl;
  spelled = refl;
  within = record { len = omega arith; empty = omega arith; short = All-cons IsShort make_call [] (omega arith) (All-nil IsShort) };
}

make_open : (log : Log) → reply Stream (maps_on own_map log) own_caller make_call ≡ Open 7 (job_of own_map 0)
unfolding word_at content_at opaque_at
make_open log = refl

pub matched_on : (log : Log) (peer : Peer) (order value : ℕ) → shown 0 log ≡ Some (version_with order value)
    → reply Stream (maps_on own_map log) peer match_call ≡ Bytes (match_reply value)
unfolding word_at content_at opaque_at fixed opaque
matched_on log peer order value is = rw is refl

pub made : IsBuilt make_world 0 first_log (version_with 8 119)
made = record { moment = 8; master = refl; of_own = refl; order = refl; rows = λ none. one_listed (107 ∷ [], 119 ∷ []) }

two : IsStrictlyIncreasing (7 ∷ 8 ∷ [])
two zero within = omega arith
two (suc k) within = absurd (omega (arith, within))

pub two_rise : (b : Bool) → IsStrictlyIncreasing (map (λ (entry : ℕ × MapVersion). entry.1.order)
    (cond b ((0, version_with 7 118) ∷ cond b ((0, version_with 8 119) ∷ []) []) (cond b ((0, version_with 8 119) ∷ []) [])))
two_rise true = two
two_rise false = λ k within. absurd (omega (arith, within))

pub make_then_match : Replies make_world first_log made_log
make_then_match = record {
  published = record {
    first = Some (version_with 7 118) ∷ [];
    stored = (refl, tt);
    begun_is = refl;
    more = (0, version_with 8 119) ∷ [];
    all = refl;
    new = (inl made, tt);
  };
  rises = λ number. two_rise (0 == number);
  connections = (
    record {
      exchanges = record { caller = own_caller; call = make_call; reply = Some (make_reply 7 Succ) }
          ∷ record { caller = own_caller; call = match_call; reply = Some (match_reply 119) } ∷ [];
      callers = (refl, (refl, tt));
      rest = [];
      came = (
        sent make_call,
        sent match_call,
        make_record,
        refl,
        (sent match_call, [], match_record, sym (append-nil (sent match_call)), refl),
      );
      answered = (
        first_log,
        made_log,
        front_self first_log,
        ((0, version_with 8 119) ∷ [], refl),
        subst (λ (r : Response). IsReply r (Some (make_reply 7 Succ)) first_log made_log) (sym (make_open first_log)) (
          Succ,
          refl,
          λ done. record {
            version = version_with 8 119;
            before = first_log;
            entry = front_self made_log;
            newer = record { log = first_log; begins = front_self first_log; goes_on = ((0, version_with 8 119) ∷ [], refl); holds = omega arith };
          },
        ),
        (
          made_log,
          made_log,
          front_self made_log,
          front_self made_log,
          subst (λ (r : Response). IsReply r (Some (match_reply 119)) made_log made_log)
              (sym (matched_on made_log own_caller 8 119 refl)) refl,
          front_self made_log,
        ),
      );
      unsent = [];
      sent = sym (append_assoc (sent (make_reply 7 Succ)) (sent (match_reply 119)) []);
      whole = λ uncut. (inl refl, refl);
    },
    tt,
  );
  datagrams = tt;
}

-- ---- a source that changes between its replies: nothing is stored

skewed_moments : (came : List ℕ) (number : ℕ) → OfFile number (skewed_world came).stores
    (λ file. AreLeft (skewed_world came) number file.first file.moments first_log first_log)
skewed_moments came zero =
    unchanged (skewed_world came) 0 (synced (whole_file 7 118)) first_log first_log (front_self first_log)
skewed_moments came (suc number) = tt

skewed_end : (came : List ℕ) (number : ℕ) → OfFile number (skewed_world came).stores (λ file. (image : List ℕ)
    → IsImage file.last image → IsImage file.first image ⊎ StandsBy (skewed_world came) number first_log image)
skewed_end came zero = λ image is. inl is
skewed_end came (suc number) = tt

pub skewed_source : (came : List ℕ) → Crashes (skewed_world came) first_log first_log
    × Transfers (skewed_world came) first_log first_log
skewed_source came = (
  record {
    published = record {
      first = Some (version_with 7 118) ∷ [];
      stored = (stands_first, tt);
      begun_is = refl;
      more = [];
      all = refl;
      new = tt;
    };
    any_moment = skewed_moments came;
    at_end = skewed_end came;
    stored = λ number among. absurd (none_among number among);
  },
  record { done = λ number among. absurd (none_among number among); called_back = λ some. absurd (some refl) },
)

-- ---- three installs of one file

image_is : (bytes image : List ℕ) → IsImage (synced bytes) image → image ≡ bytes
image_is bytes image is = same_number_lists image bytes (omega (arith, is.no_shorter, is.no_longer))
    (λ place within. is.others_stay place (omega (arith, within, is.no_shorter, is.no_longer)) refl)

pub stands_as : (bytes image : List ℕ) (version : MapVersion) → stood_for bytes ≡ Some (Some version) → IsImage (synced bytes) image
    → stood_for image ≡ Some (Some version)
stands_as bytes image version stood is = ap stood_for (image_is bytes image is) ∙ stood

pub eighth : stood_for (whole_file 8 119) ≡ Some (Some (version_with 8 119))
unfolding word_at content_at opaque_at
eighth = refl

ninth : stood_for (whole_file 9 119) ≡ Some (Some (version_with 9 119))
unfolding word_at content_at opaque_at
ninth = refl

tenth : stood_for (whole_file 10 119) ≡ Some (Some (version_with 10 119))
unfolding word_at content_at opaque_at
tenth = refl

next_made : (moment : ℕ) (log : Log) → other_master (109 ∷ []) (shown 0 log) ≡ None
    → order_after (last_order (shown 0 log)) moment ≡ Some moment → IsBuilt installing 0 log (version_with moment 119)
next_made moment log own order = record { moment = moment; master = refl; of_own = own; order = order; rows = λ none. one_listed (107 ∷ [], 119 ∷ []) }

-- a moment at which a version is shown
shown_then : (front next later : Log) (bytes : List ℕ) (version : MapVersion) (earlier : List DiskState)
    → IsFront first_log front → next ≡ front ++ later → shown 0 front ≡ Some version → stood_for bytes ≡ Some (Some version)
    → AreLeft installing 0 (synced (whole_file 7 118)) earlier first_log front
    → AreLeft installing 0 (synced (whole_file 7 118)) (synced bytes ∷ earlier) first_log next
shown_then front next later bytes version earlier begins goes shows is rest = record {
  log = front;
  begins = begins;
  goes_on = (later, goes);
  holds = (
    λ image may. inr (inl (stands_as bytes image version is may ∙ ap (λ (o : Option MapVersion). Some o) (sym shows))),
    rest,
  );
}

install_moments : (number : ℕ) → OfFile number installing.stores
    (λ file. AreLeft installing number file.first file.moments first_log all_log)
install_moments zero =
    let first = synced (whole_file 7 118) in
    let eight : IsFront first_log made_log = ((0, version_with 8 119) ∷ [], refl) in
    shown_then all_log all_log [] (whole_file 10 119) (version_with 10 119)
    (synced (whole_file 9 119) ∷ synced (whole_file 8 119) ∷ first ∷ [])
    ((0, version_with 8 119) ∷ (0, version_with 9 119) ∷ (0, version_with 10 119) ∷ [], refl) refl refl tenth
    (shown_then twice_log all_log ((0, version_with 10 119) ∷ []) (whole_file 9 119) (version_with 9 119)
    (synced (whole_file 8 119) ∷ first ∷ []) ((0, version_with 8 119) ∷ (0, version_with 9 119) ∷ [], refl) refl refl ninth
    (shown_then made_log twice_log ((0, version_with 9 119) ∷ []) (whole_file 8 119) (version_with 8 119) (first ∷ [])
    eight refl refl eighth (unchanged installing 0 first first_log made_log eight)))
install_moments (suc number) = tt

install_end : (number : ℕ) → OfFile number installing.stores (λ file. (image : List ℕ)
    → IsImage file.last image → IsImage file.first image ⊎ StandsBy installing number all_log image)
install_end zero = λ image is. inr (inl (stands_as (whole_file 10 119) image (version_with 10 119) tenth is))
install_end (suc number) = tt

install_stored : (number : ℕ) → IsAmong installing.done number → OfFile number installing.stores (λ file. (image : List ℕ)
    → IsImage file.last image → stood_for image ≡ Some (shown number all_log))
install_stored zero among = λ image is. stands_as (whole_file 10 119) image (version_with 10 119) tenth is
install_stored (suc number) among = tt

pub three_installs : Crashes installing first_log all_log
three_installs = record {
  published = record {
    first = Some (version_with 7 118) ∷ [];
    stored = (stands_first, tt);
    begun_is = refl;
    more = (0, version_with 8 119) ∷ (0, version_with 9 119) ∷ (0, version_with 10 119) ∷ [];
    all = refl;
    new = (inl (next_made 8 first_log refl refl), (inl (next_made 9 made_log refl refl), (inl (next_made 10 twice_log refl refl), tt)));
  };
  any_moment = install_moments;
  at_end = install_end;
  stored = install_stored;
}
