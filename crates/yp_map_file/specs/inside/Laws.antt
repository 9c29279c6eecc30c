-- What joins the body of a version, the cells and the file.
use Rattle.std.specs.Prelude.{◌≡◌, ◌⊎◌, ◌≤◌, ℕ, List, [], ◌∷◌, length, Ok, ⊤}
use Rattle.std.specs.List.{AllByRecursion}
use Rattle.yp_xdr.specs.inside.Reading.{IsBytes}
use Rattle.yp_version.specs.Limits.{body_max}
use Rattle.yp_version.specs.Versions.{MapVersion}
use Rattle.yp_version.specs.inside.Bodies.{IsBody}
use Rattle.yp_map_file.specs.Bodies.{body_at}
use Rattle.yp_map_file.specs.Stands.{file_max, Stored, stands}
use Rattle.yp_map_file.specs.Slots.{IsSound}

-- the body of a version is read again as that version
abbrev pub BodyIsReadAgain : Type 0
BodyIsReadAgain = (bytes : List ℕ) (version : MapVersion) → IsBody bytes version → body_at bytes ≡ Ok version

-- a version that is read of bytes has them as its body
abbrev pub ReadIsBody : Type 0
ReadIsBody = (bytes : List ℕ) (version : MapVersion) → IsBytes bytes → length bytes ≤ body_max
    → body_at bytes ≡ Ok version → IsBody bytes version

-- what a crash in a commit leaves of a file stands for what stood before, or for a version
abbrev pub IsLeft : List ℕ → List ℕ → Type 0
IsLeft before after = (stands after ≡ stands before) ⊎ ((version : MapVersion) × (stands after ≡ Stored version))

-- each of these files is left of the one before it
abbrev pub AreLeft : List ℕ → List (List ℕ) → Type 0
AreLeft first [] = ⊤
AreLeft first (next ∷ files) = IsLeft first next × AreLeft next files

-- Of a file that isn't damaged, whatever commits and crashes follow, none that is left is over the most bytes.
abbrev pub FileIsBounded : Type 0
FileIsBounded = (first : List ℕ) (files : List (List ℕ)) → IsSound (stands first) → AreLeft first files
    → AllByRecursion (λ file. length file ≤ file_max) (first ∷ files)
