-- A world that is right: a walk that is told as done stored the version whose rows came.
use Rattle.std.proofs.Common.{◌≡◌, ℕ, zero, suc, List, [], ◌∷◌, false, Some, None, Ok, refl, sym, subst, inl, inr, ⊎_elim, ◌⊎◌}
use Rattle.yp_io.specs.Disk.{IsImage}
use Rattle.yp_io.specs.Inboxes.{InboxEvent, Arrived}
use Rattle.yp_xdr.specs.Reading.{word_at, content_at, opaque_at, one_of_at}
use Rattle.yp_xdr.specs.Spelling.{fixed, opaque}
use Rattle.yp_version.specs.Versions.{MapVersion}
use Rattle.yp_version.specs.Drafts.{Draft}
use Rattle.yp_map_file.specs.inside.Laws.{ReadIsBody}
use Rattle.yp_board.specs.Catalogues.{Name}
use Rattle.yp_board.specs.Logs.{shown}
use Rattle.yp_transfer.specs.Fetching.{Wanted, wanted_of}
use Rattle.yp_transfer.specs.walk.Standings.{HasEnded}
use Rattle.yp_transfer.specs.walk.Schedules.{walk_by}
use Rattle.yp_end_to_end.specs.inside.walk.Laws.{WalkedIsShown}
use Rattle.yp_command_maps.specs.walk.Turns.{heard_of}
use Rattle.yp_headline.specs.World.{World, Dialed}
use Rattle.yp_headline.specs.Publishing.{IsAmong, IsPublishedLog, OfFile, StandsBy, AreLeft, IsFetched}
use Rattle.yp_headline.specs.Storing.{stood_for}
use Rattle.yp_headline.specs.Sources.{Source, Succeeded}
use Rattle.yp_headline.specs.inside.Files.{mailed}
use Rattle.yp_headline.specs.Headline.{Crashes, Transfers}
use Rattle.yp_headline.specs.inside.Tried.{somebody, synced, order_reply, master_reply}
use Rattle.yp_headline.specs.inside.TriedFiles.{two_row_file}
use Rattle.yp_headline.specs.inside.TriedWalks.{row_reply, end_reply, walk_of, two_mails, walked_log}
use Rattle.yp_headline.proofs.Moments.{all_by_first}
use Rattle.yp_headline.proofs.Runs.{front_self}
use Rattle.yp_headline.proofs.Torn.{stands_none}
use Rattle.yp_headline.proofs.Worked.{stands_as}
use Rattle.yp_headline.proofs.Storing.{only_done}
use Rattle.yp_headline.proofs.Sourced.{Throughout}
use Rattle.yp_headline.proofs.Walk.{WalkGave, walk_gave}

abbrev world : World
world = walk_of (two_row_file 9 119) two_mails

abbrev server : Dialed
server = mailed somebody two_mails

abbrev its_draft : Draft
its_draft = record { order = 9; master = 109 ∷ []; rows = (107 ∷ [], 119 ∷ []) ∷ (108 ∷ [], 119 ∷ []) ∷ [] }

abbrev its_version : MapVersion
its_version = record {
  order = 9;
  master = 109 ∷ [];
  secure = false;
  rows = (107 ∷ [], 119 ∷ []) ∷ (108 ∷ [], 119 ∷ []) ∷ [];
}

-- ---- the walk

abbrev arrived : List InboxEvent
arrived = Arrived somebody (order_reply 1 9) ∷ Arrived somebody (master_reply 2) ∷ Arrived somebody (row_reply 3 107 119)
    ∷ Arrived somebody (row_reply 4 108 119) ∷ Arrived somebody (end_reply 5) ∷ Arrived somebody (order_reply 6 9) ∷ []

abbrev asked : Wanted
asked = wanted_of (100 ∷ []) (112 ∷ []) None false

ends : (walk_by somebody asked (heard_of arrived)).standing ≡ HasEnded (Ok its_draft)
unfolding word_at content_at opaque_at one_of_at fixed opaque
ends = refl

module _ (read : ReadIsBody) (shows : WalkedIsShown) where
  gave : WalkGave somebody asked arrived its_version
  gave = walk_gave read shows somebody asked arrived its_draft ends

  abbrev fetched : IsFetched world its_version
  fetched = record { server = server; among = ([], [], refl); fetched = its_version; gives = gave.gives; marked = refl }

  -- ---- the file

  stands_two : stood_for (two_row_file 9 119) ≡ Some (Some its_version)
  unfolding word_at content_at opaque_at
  stands_two = refl

  stands_stored : (image : List ℕ) → IsImage (synced (two_row_file 9 119)) image → stood_for image ≡ Some (Some its_version)
  stands_stored image is = stands_as (two_row_file 9 119) image its_version stands_two is

  published : IsPublishedLog world [] walked_log
  published = record {
    first = None ∷ [];
    stored = (stands_none, tt);
    begun_is = refl;
    more = walked_log;
    all = refl;
    new = (inr fetched, tt);
  }

  moments : (number : ℕ) → OfFile number world.stores (λ file. AreLeft world number file.first file.moments [] walked_log)
  moments zero = record {
    log = walked_log;
    begins = (walked_log, refl);
    goes_on = front_self walked_log;
    holds = (
      λ image is. inr (inl (stands_stored image is)),
      all_by_first world 0 (synced []) (synced [] ∷ synced [] ∷ []) [] walked_log (walked_log, refl)
          (λ image left. inl (⊎_elim (λ is. is) (λ last. ⊎_elim (λ is. is) (λ none. absurd none) last) left)),
    );
  }
  moments (suc number) = tt

  at_end : (number : ℕ) → OfFile number world.stores (λ file. (image : List ℕ) → IsImage file.last image
      → IsImage file.first image ⊎ StandsBy world number walked_log image)
  at_end zero = λ image is. inr (inl (stands_stored image is))
  at_end (suc number) = tt

  stored : (number : ℕ) → IsAmong world.done number → OfFile number world.stores (λ file. (image : List ℕ)
      → IsImage file.last image → stood_for image ≡ Some (shown number walked_log))
  stored zero among = stands_stored
  stored (suc number) among = tt

  pub crashes : Crashes (walk_of (two_row_file 9 119) two_mails) [] walked_log
  crashes = record { published = published; any_moment = moments; at_end = at_end; stored = stored }

  -- ---- the transfer

  same_some : (a b : Name) → Some a ≡ Some b → a ≡ b
  same_some a b e = cc

  throughout : (name : Name) → (let it : Name = (100 ∷ [], 112 ∷ []) in it) ≡ name
      → (source : Source name gave.gives) → Throughout name gave.gives source its_version
  throughout name same = subst (λ (n : Name). (source : Source n gave.gives) → Throughout n gave.gives source its_version) same gave.of_source

  succeeded : Succeeded world walked_log 0
  succeeded = record {
    stored = its_version;
    fetched = fetched;
    shows = refl;
    of_source = λ name named. throughout name (same_some (100 ∷ [], 112 ∷ []) name named);
  }

  pub transfers : Transfers (walk_of (two_row_file 9 119) two_mails) [] walked_log
  transfers = record {
    done = λ number among. subst (λ (n : ℕ). Succeeded world walked_log n) (sym (only_done number among)) succeeded;
    called_back = λ some. absurd (some refl);
  }
