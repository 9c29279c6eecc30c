-- A world that is right: a transfer that is told as done stored what the server gave.
use Rattle.std.proofs.Common.{◌≡◌, ◌⊎◌, ℕ, zero, suc, ◌+◌, min, List, [], ◌∷◌, ◌++◌, length, false, Some, None, Ok, refl, sym, subst, inl, inr, ⊎_elim}
use Rattle.std.proofs.lemmas.List.{append-nil}
use Rattle.yp_io.specs.Counts.{last_count}
use Rattle.yp_io.specs.Disk.{IsImage}
use Rattle.yp_xdr.specs.Reading.{word_at, content_at, opaque_at, bool_at, one_of_at}
use Rattle.yp_rpc.specs.Records.{sent}
use Rattle.yp_version.specs.Drafts.{Draft, empty_draft}
use Rattle.yp_board.specs.Catalogues.{Name}
use Rattle.yp_board.specs.Logs.{shown}
use Rattle.yp_client.specs.Results.{order_of, master_of}
use Rattle.yp_client.specs.All.{row_at, status_at, all_item_at, filled, all_said}
use Rattle.yp_transfer.specs.Fetching.{wanted_of}
use Rattle.yp_transfer.specs.Fetched.{StreamPlace, place_of, rows_of, Fetched}
use Rattle.yp_end_to_end.specs.inside.transfer.Laws.{FetchedIsShown}
use Rattle.yp_end_to_end.specs.inside.transfer.Shown.{ShownBetween}
use Rattle.yp_map_file.specs.inside.Laws.{ReadIsBody}
use Rattle.yp_headline.specs.World.{World, Dialed}
use Rattle.yp_headline.specs.Publishing.{IsAmong, IsPublishedLog, OfFile, StandsBy, AreLeft}
use Rattle.yp_headline.specs.Storing.{stood_for}
use Rattle.yp_headline.specs.Sources.{Source, IsOfSource, Succeeded}
use Rattle.yp_headline.specs.inside.Files.{streamed}
use Rattle.yp_headline.specs.Headline.{Crashes, Transfers}
use Rattle.yp_headline.specs.inside.Tried.{somebody, version_with, whole_file, synced, order_reply, master_reply, all_reply, fetched_bytes, transfer_world}
use Rattle.yp_headline.specs.inside.TriedFiles.{stored_of, stored_log}
use Rattle.yp_headline.proofs.Runs.{front_self}
use Rattle.yp_headline.proofs.Torn.{stands_second, stands_none}
use Rattle.yp_headline.proofs.Worked.{stands_as}
use Rattle.yp_headline.proofs.Fetching.{gives, order_record, master_record, rows_record, again_record}
use Rattle.yp_headline.proofs.Storing.{only_done}
use Rattle.yp_headline.proofs.Moments.{all_by_first}
use Rattle.yp_headline.proofs.Sourced.{Throughout, stream_throughout}

abbrev world : World
world = stored_of (whole_file 9 119)

abbrev server : Dialed
server = streamed somebody fetched_bytes

-- ---- the file

published : IsPublishedLog world [] stored_log
published = record {
  first = None ∷ [];
  stored = (stands_none, tt);
  begun_is = refl;
  more = stored_log;
  all = refl;
  new = (
    inr (record { server = server; among = ([], [], refl); fetched = version_with 9 119; gives = gives; marked = refl }),
    tt,
  );
}

stands_stored : (image : List ℕ) → IsImage (synced (whole_file 9 119)) image → stood_for image ≡ Some (Some (version_with 9 119))
stands_stored image is = stands_as (whole_file 9 119) image (version_with 9 119) stands_second is

moments : (number : ℕ) → OfFile number world.stores (λ file. AreLeft world number file.first file.moments [] stored_log)
moments zero = record {
  log = stored_log;
  begins = (stored_log, refl);
  goes_on = front_self stored_log;
  holds = (
    λ image is. inr (inl (stands_stored image is)),
    all_by_first world 0 (synced []) (synced [] ∷ synced [] ∷ []) [] stored_log (stored_log, refl)
        (λ image left. inl (⊎_elim (λ is. is) (λ last. ⊎_elim (λ is. is) (λ none. absurd none) last) left)),
  );
}
moments (suc number) = tt

ends : (number : ℕ) → OfFile number world.stores (λ file. (image : List ℕ) → IsImage file.last image
    → IsImage file.first image ⊎ StandsBy world number stored_log image)
ends zero = λ image is. inr (inl (stands_stored image is))
ends (suc number) = tt

stored : (number : ℕ) → IsAmong world.done number → OfFile number world.stores (λ file. (image : List ℕ)
    → IsImage file.last image → stood_for image ≡ Some (shown number stored_log))
stored zero among = stands_stored
stored (suc number) among = tt

pub crashes : Crashes (stored_of (whole_file 9 119)) [] stored_log
crashes = record { published = published; any_moment = moments; at_end = ends; stored = stored }

-- ---- the transfer

its_order : order_of 1 (order_reply 1 9) ≡ Ok 9
unfolding word_at content_at opaque_at one_of_at
its_order = refl

its_master : master_of 2 (master_reply 2) ≡ Ok (109 ∷ [])
unfolding word_at content_at opaque_at one_of_at
its_master = refl

abbrev its_draft : Draft
its_draft = record { order = 9; master = 109 ∷ []; rows = (107 ∷ [], 119 ∷ []) ∷ [] }

its_rows : rows_of (empty_draft 9 (109 ∷ [])) 3 (all_reply 3) ≡ Ok its_draft
unfolding word_at content_at opaque_at bool_at one_of_at row_at status_at all_item_at filled all_said
its_rows = refl

its_second : order_of 4 (order_reply 4 9) ≡ Ok 9
unfolding word_at content_at opaque_at one_of_at
its_second = refl

-- the place behind a record
abbrev behind : ℕ → StreamPlace → List ℕ → List ℕ → StreamPlace
behind xid place taken bytes = place_of xid (min (place.at + length taken) last_count) bytes

abbrev first_place : StreamPlace
first_place = place_of 1 0 fetched_bytes

abbrev second_place : StreamPlace
second_place = behind 2 first_place (sent (order_reply 1 9)) (sent (master_reply 2) ++ (sent (all_reply 3) ++ sent (order_reply 4 9)))

abbrev third_place : StreamPlace
third_place = behind 3 second_place (sent (master_reply 2)) (sent (all_reply 3) ++ sent (order_reply 4 9))

abbrev fourth_place : StreamPlace
fourth_place = behind 4 third_place (sent (all_reply 3)) (sent (order_reply 4 9))

abbrev last_place : StreamPlace
last_place = behind 5 fourth_place (sent (order_reply 4 9)) []

fetched : Fetched (wanted_of (100 ∷ []) (112 ∷ []) None false) first_place (Ok (version_with 9 119))
fetched = (
  last_place,
  record {
    answer = Ok 9;
    middle = second_place;
    answered = inl (record {
      reply = order_reply 1 9;
      taken = sent (order_reply 1 9);
      fragments = order_record;
      whole = refl;
      says = its_order;
      at = refl;
      xid = refl;
    });
    goes_on = record {
      answer = Ok (109 ∷ []);
      middle = third_place;
      answered = inl (record {
        reply = master_reply 2;
        taken = sent (master_reply 2);
        fragments = master_record;
        whole = refl;
        says = its_master;
        at = refl;
        xid = refl;
      });
      goes_on = inl (record {
        answer = Ok its_draft;
        middle = fourth_place;
        answered = inl (record {
          reply = all_reply 3;
          taken = sent (all_reply 3);
          fragments = rows_record;
          whole = refl;
          says = its_rows;
          at = refl;
          xid = refl;
        });
        goes_on = record {
          answer = Ok 9;
          middle = last_place;
          answered = inl (record {
            reply = order_reply 4 9;
            taken = sent (order_reply 4 9);
            fragments = again_record;
            whole = sym (append-nil (sent (order_reply 4 9)));
            says = its_second;
            at = refl;
            xid = refl;
          });
          goes_on = inl (refl, refl);
        };
      });
    };
  },
)

throughout : ReadIsBody → FetchedIsShown → ShownBetween → (name : Name) → (let it : Name = (100 ∷ [], 112 ∷ []) in it) ≡ name
    → (source : Source name gives) → Throughout name gives source (version_with 9 119)
throughout read shows between name same = subst (λ (n : Name). (source : Source n gives) → Throughout n gives source (version_with 9 119)) same
    (stream_throughout read shows between (wanted_of (100 ∷ []) (112 ∷ []) None false) somebody fetched_bytes (version_with 9 119) gives fetched)

-- it is what a source showed, by the name of the one map
pub of_source : ReadIsBody → FetchedIsShown → ShownBetween → IsOfSource transfer_world 0 gives (version_with 9 119)
of_source read shows between = λ name named. throughout read shows between name (cc)

succeeded : ReadIsBody → FetchedIsShown → ShownBetween → Succeeded world stored_log 0
succeeded read shows between = record {
  stored = version_with 9 119;
  fetched = record {
    server = server;
    among = ([], [], refl);
    fetched = version_with 9 119;
    gives = gives;
    marked = refl;
  };
  shows = refl;
  of_source = of_source read shows between;
}

pub transfers : ReadIsBody → FetchedIsShown → ShownBetween → Transfers (stored_of (whole_file 9 119)) [] stored_log
transfers read shows between = record {
  done = λ number among. subst (λ (n : ℕ). Succeeded world stored_log n) (sym (only_done number among)) (succeeded read shows between);
  called_back = λ some. absurd (some refl);
}
