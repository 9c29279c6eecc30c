-- A command over one file: what a crash leaves of it, and what it stored.
use Rattle.std.proofs.Common.{◌≡◌, ◌⊎◌, ℕ, zero, suc, ◌-◌, Bool, true, false, List, [], ◌∷◌, ◌++◌, take, Option, Some, None, refl, sym, ap, ◌∙◌, inl, inr, ⊎_elim}
use Rattle.std.proofs.lemmas.List.{append-nil}
use Rattle.yp_io.specs.Disk.{History, IsImage, LeftBetween, MayLeave, states, moment}
use Rattle.yp_version.specs.Versions.{MapVersion}
use Rattle.yp_map_file.specs.Stands.{Stored, stands}
use Rattle.yp_board.specs.Logs.{Log, shown}
use Rattle.yp_publisher.specs.Standing.{stands_for}
use Rattle.yp_headline.specs.World.{World}
use Rattle.yp_headline.specs.Publishing.{IsAmong, IsNew, OfFile, StandsBy, AreLeft}
use Rattle.yp_headline.specs.Headline.{Crashes}
use Rattle.yp_headline.specs.inside.Files.{FileRun, file_world, file_log, file_log_with}
use Rattle.yp_headline.specs.Storing.{stood_for}
use Rattle.yp_headline.proofs.Stood.{stood as as_stood}
use Rattle.yp_headline.proofs.Moments.{all_by_first}

pub shown_first : (held : Option MapVersion) → shown 0 (file_log held) ≡ held
shown_first None = refl
shown_first (Some version) = refl

pub shown_with : (held : Option MapVersion) (version : MapVersion) → shown 0 (file_log_with held version) ≡ Some version
shown_with None version = refl
shown_with (Some one) version = refl

no_item : (number : ℕ) → IsAmong [] number → ⊥
no_item number ([], back, is) = cc
no_item number (one ∷ front, back, is) = cc

module _ (run : FileRun) (held made : Option MapVersion) where
  abbrev world : Bool → World
  world told = file_world run told

  abbrev old : History
  old = run.old

  abbrev new : History
  new = run.new

  -- what a crash may leave, by what was made
  abbrev pub IsLeft : List ℕ → Type 0
  IsLeft image = MayLeave (Some old) image
      ⊎ ((stands image ≡ stands_for held) ⊎ ((version : MapVersion) × (made ≡ Some version) × (stands image ≡ Stored version)))

  last_left : (image : List ℕ) → IsImage new.state image → LeftBetween (Some old) (Some new) image
  last_left image is = inl is

  module _ (told : Bool) (stood : stands old.state.reads ≡ stands_for held)
      (is_new : (version : MapVersion) → made ≡ Some version → IsNew (world told) 0 (file_log held) version)
      (each : (image : List ℕ) → LeftBetween (Some old) (Some new) image → IsLeft image) where
    by_first : (image : List ℕ) → LeftBetween (Some old) (Some new) image
        → IsImage old.state image ⊎ StandsBy (world told) 0 (file_log held) image
    by_first image left = ⊎_elim (λ first. inl first)
        (λ later. inr (⊎_elim (λ same. inl (as_stood image (shown 0 (file_log held)) (same ∙ ap stands_for (sym (shown_first held)))))
        (λ one. inr (one.0, is_new one.0 one.1, as_stood image (Some one.0) one.2)) later)) (each image left)

    any_moment : (log more : Log) → log ≡ file_log held ++ more → (number : ℕ) → OfFile number (world told).stores
        (λ file. AreLeft (world told) number file.first file.moments (file_log held) log)
    any_moment log more is zero = all_by_first (world told) 0 old.state
        (take (suc (moment new - moment old)) (states new)) (file_log held) log (more, is) by_first
    any_moment log more is (suc number) = tt

    no_end : (number : ℕ) → OfFile number (world told).stores (λ file. (image : List ℕ) → IsImage file.last image
        → IsImage file.first image ⊎ StandsBy (world told) number (file_log held) image)
    no_end zero = λ image is. by_first image (last_left image is)
    no_end (suc number) = tt

  -- nothing was told as stored
  pub left_crashes : stands old.state.reads ≡ stands_for held
      → ((version : MapVersion) → made ≡ Some version → IsNew (world false) 0 (file_log held) version)
      → ((image : List ℕ) → LeftBetween (Some old) (Some new) image → IsLeft image)
      → Crashes (world false) (file_log held) (file_log held)
  left_crashes stood is_new each = record {
    published = record {
      first = held ∷ [];
      stored = (as_stood old.state.reads held stood, tt);
      begun_is = refl;
      more = [];
      all = sym (append-nil (file_log held));
      new = tt;
    };
    any_moment = any_moment false stood is_new each (file_log held) [] (sym (append-nil (file_log held)));
    at_end = no_end false stood is_new each;
    stored = λ number among. absurd (no_item number among);
  }

  -- a version was told as stored
  module _ (version : MapVersion) (all : (image : List ℕ) → IsImage new.state image → stands image ≡ Stored version) where
    stored_so : (image : List ℕ) → IsImage new.state image → stood_for image ≡ Some (shown 0 (file_log_with held version))
    stored_so image is =
        as_stood image (shown 0 (file_log_with held version)) (all image is ∙ ap stands_for (sym (shown_with held version)))

    end_with : (number : ℕ) → OfFile number (world true).stores (λ file. (image : List ℕ) → IsImage file.last image
        → IsImage file.first image ⊎ StandsBy (world true) number (file_log_with held version) image)
    end_with zero = λ image is. inr (inl (stored_so image is))
    end_with (suc number) = tt

    stored_with : (number : ℕ) → IsAmong (world true).done number → OfFile number (world true).stores
        (λ file. (image : List ℕ) → IsImage file.last image → stood_for image ≡ Some (shown number (file_log_with held version)))
    stored_with zero among = stored_so
    stored_with (suc number) among = tt

    pub stored_crashes : made ≡ Some version → stands old.state.reads ≡ stands_for held
        → ((version : MapVersion) → made ≡ Some version → IsNew (world true) 0 (file_log held) version)
        → ((image : List ℕ) → LeftBetween (Some old) (Some new) image → IsLeft image)
        → Crashes (world true) (file_log held) (file_log_with held version)
    stored_crashes is stood is_new each = record {
      published = record {
        first = held ∷ [];
        stored = (as_stood old.state.reads held stood, tt);
        begun_is = refl;
        more = (0, version) ∷ [];
        all = refl;
        new = (is_new version is, tt);
      };
      any_moment = any_moment true stood is_new each (file_log_with held version) ((0, version) ∷ []) refl;
      at_end = end_with;
      stored = stored_with;
    }
