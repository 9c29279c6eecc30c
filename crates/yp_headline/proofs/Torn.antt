-- Worlds that are wrong in what a crash leaves, and in what a transfer stored.
use Rattle.std.proofs.Common.{◌≡◌, ℕ, List, [], ◌∷◌, length, Option, Some, None, refl, sym, ◌∙◌, arith, inl, inr, ⊎_elim}
use Rattle.yp_io.specs.Disk.{IsImage}
use Rattle.yp_xdr.specs.Reading.{word_at, content_at, opaque_at}
use Rattle.yp_version.specs.Versions.{MapVersion}
use Rattle.yp_board.specs.Logs.{Log, shown}
use Rattle.yp_headline.specs.inside.Tried.{version_with, whole_file, torn_file, synced, one_file, IsTornWorld, IsWrongTransfer}
use Rattle.yp_headline.specs.World.{World, Dialed}
use Rattle.yp_headline.specs.Storing.{stood_for}
use Rattle.yp_headline.specs.Publishing.{IsAmong, StandsBy}
use Rattle.yp_headline.proofs.Moments.{at_any}

-- ---- files

pub stands_first : stood_for (whole_file 7 118) ≡ Some (Some (version_with 7 118))
unfolding word_at content_at opaque_at
stands_first = refl

pub stands_second : stood_for (whole_file 9 119) ≡ Some (Some (version_with 9 119))
unfolding word_at content_at opaque_at
stands_second = refl

stands_torn : stood_for torn_file ≡ None
stands_torn = refl

pub stands_none : stood_for [] ≡ Some None
stands_none = refl

-- ---- worlds of one file

pub is_image : (bytes : List ℕ) → IsImage (synced bytes) bytes
is_image bytes = record { no_shorter = omega arith; no_longer = omega arith; others_stay = λ place within not. refl }

-- no byte of a synced disk may be another
pub image_length : (bytes image : List ℕ) → IsImage (synced bytes) image → length image ≡ length bytes
image_length bytes image is = omega (arith, is.no_shorter, is.no_longer)

-- a file that is damaged stands for nothing that was shown or is new
never_none : (held : Option MapVersion) → None ≡ Some held → ⊥
never_none held is = cc

pub no_damage : (world : World) (log : Log) (image : List ℕ) → stood_for image ≡ None → StandsBy world 0 log image → ⊥
no_damage world log image damaged by = ⊎_elim
    (λ same. never_none (shown 0 log) (sym damaged ∙ same)) (λ new. never_none (Some new.0) (sym damaged ∙ new.2)) by

-- a file that is damaged at the end
pub torn_at_end : IsTornWorld (one_file [] [] torn_file [] [])
torn_at_end begun log crashes = ⊎_elim
    (λ first. let same = image_length [] torn_file first in omega (arith, same))
    (λ by. no_damage (one_file [] [] torn_file [] []) log torn_file stands_torn by)
    (crashes.at_end 0 torn_file (is_image torn_file))

-- one that is damaged at a moment, and whole at the end
pub torn_meanwhile : IsTornWorld (one_file [] torn_file [] [] [])
torn_meanwhile begun log crashes = ⊎_elim
    (λ first. let same = image_length [] torn_file first in omega (arith, same))
    (λ by. no_damage (one_file [] torn_file [] [] []) by.log torn_file stands_torn by.holds)
    (at_any (one_file [] torn_file [] [] []) 0 (synced []) (synced [] ∷ synced torn_file ∷ synced [] ∷ []) begun log
    (crashes.any_moment 0) torn_file (inr (inl (is_image torn_file))))

-- ---- transfers

pub no_server : (server : Dialed) → IsAmong [] server → ⊥
no_server server ([], back, is) = cc
no_server server (one ∷ front, back, is) = cc

-- a transfer that is told as done, where no server was dialed
pub of_no_server : IsWrongTransfer (one_file [] [] (whole_file 7 118) (0 ∷ []) [])
of_no_server begun log transfers =
    let done = transfers.done 0 ([], [], refl) in no_server done.fetched.server done.fetched.among
