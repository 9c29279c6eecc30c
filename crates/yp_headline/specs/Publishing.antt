-- The log of published versions, and what of them a crash leaves.
use Rattle.std.specs.Prelude.{◌≡◌, ◌⊎◌, ℕ, List, [], ◌∷◌, ◌++◌, Option, Some, None, slice_get}
use Rattle.std.specs.Prelude.{IfSome, ⊤}
use Rattle.std.specs.List.{AllZip}
use Rattle.yp_io.specs.Disk.{DiskState, IsImage}
use Rattle.yp_version.specs.Versions.{MapVersion}
use Rattle.yp_board.specs.Logs.{Log, shown, starts}
use Rattle.yp_board.specs.Views.{IsFront}
use Rattle.yp_board.specs.Between.{Between}
use Rattle.yp_publisher.specs.Grown.{AreMade}
use Rattle.yp_texts.specs.Builds.{order_after}
use Rattle.yp_texts.specs.After.{other_master, last_order}
use Rattle.yp_texts.specs.Readings.{source_of}
use Rattle.yp_answer.specs.Make.{map_name, field_named}
use Rattle.yp_headline.specs.World.{World, MapFile, Store, Given, Filed, Dialed}
use Rattle.yp_headline.specs.Texts.{text_rows}
use Rattle.yp_headline.specs.Listing.{AreListed}
use Rattle.yp_headline.specs.Fetching.{Gives}
use Rattle.yp_headline.specs.Storing.{stood_for}

-- ---- versions that are new

-- a list has this item
abbrev pub IsAmong : {A : Type 0} → List A → A → Type 0
IsAmong {A} items item = (front : List A) × (back : List A) × (items ≡ front ++ item ∷ back)

-- but for whether they are secure, which is each site's own, two versions are the same
abbrev pub IsMarked : MapVersion → MapVersion → Type 0
IsMarked version marked = marked ≡ record version { secure = marked.secure }

-- A version was built of a map behind a log: the own name is its master and that of what was shown, its order is the
-- next at some moment, and its rows are those that the text makes, the first of each key. Those of a map that is made
-- of netgroups aren't said here.
pub record IsBuilt (world : World) (number : ℕ) (log : Log) (version : MapVersion) : Type 0 where
  pub moment : ℕ
  pub master : version.master ≡ world.catalogue.own
  pub of_own : other_master world.catalogue.own (shown number log) ≡ None
  pub order : order_after (last_order (shown number log)) moment ≡ Some version.order
  pub rows : field_named (map_name number world.catalogue) ≡ None
      → IfSome (world.text (source_of (world.reading (map_name number world.catalogue))
      (map_name number world.catalogue)))
      (λ text. AreListed (text_rows (world.reading (map_name number world.catalogue)) text) version.rows)

-- A version was fetched: a server gave it that was asked for the map.
pub record IsFetched (world : World) (version : MapVersion) : Type 0 where
  pub server : Dialed
  pub among : IsAmong world.dialed server
  pub fetched : MapVersion
  pub gives : Gives server fetched
  pub marked : IsMarked fetched version

-- a version that is new behind a log
abbrev pub IsNew : World → ℕ → Log → MapVersion → Type 0
IsNew world number log version = IsBuilt world number log version ⊎ IsFetched world version

-- ---- the log

-- A store has this version, or none, at first.
abbrev pub StoreHas : Store → Option MapVersion → Type 0
StoreHas (Given version) first = first ≡ Some version
StoreHas (Filed file) first = stood_for file.first.reads ≡ Some first

-- A log was published: it begins with what the stores have, and each version behind that was new.
pub record IsPublishedLog (world : World) (begun log : Log) : Type 0 where
  pub first : List (Option MapVersion)
  pub stored : AllZip StoreHas world.stores first
  pub begun_is : begun ≡ starts 0 first
  pub more : Log
  pub all : log ≡ begun ++ more
  pub new : AreMade (IsNew world) begun more

-- ---- files

-- P holds of the file of a map
abbrev pub OfStore : (MapFile → Type 0) → Store → Type 0
OfStore P (Given version) = ⊤
OfStore P (Filed file) = P file

abbrev pub OfFile : ℕ → List Store → (MapFile → Type 0) → Type 0
OfFile number stores P = IfSome (slice_get stores number) (OfStore P)

-- These bytes stand for what a log shows of a map, or for a version that is new behind it.
abbrev pub StandsBy : World → ℕ → Log → List ℕ → Type 0
StandsBy world number log image = (stood_for image ≡ Some (shown number log))
    ⊎ ((version : MapVersion) × IsNew world number log version × (stood_for image ≡ Some (Some version)))

-- Of these moments of a map's file, the last one first: each has a front of the log, which is a front of that of the
-- next moment. What a crash leaves then stands for what that shows of the map, or for a version that is new behind it;
-- or nothing was published yet, and it might have been left at first.
abbrev pub AreLeft : World → ℕ → (first : DiskState) → List DiskState → (begun log : Log) → Type 0
AreLeft world number first [] begun log = IsFront begun log
AreLeft world number first (moment ∷ earlier) begun log = Between begun log (λ front. ((image : List ℕ)
    → IsImage moment image → (IsImage first image × (front ≡ begun)) ⊎ StandsBy world number front image)
    × AreLeft world number first earlier begun front)
