-- What the stores of a world have, what a crash leaves of them, and what is new of a log.
use Rattle.std.proofs.Common.{◌≡◌, ◌⊎◌, ℕ, zero, suc, ◌-◌, List, [], ◌∷◌, ◌++◌, length, map, take, Option, Some, None, refl, sym, ap, ◌∙◌, subst, arith, inl, inr, ⊎_elim}
use Rattle.std.specs.Prelude.{IfSome, IsSome, slice_get, slice_index_or, unwrap_or}
use Rattle.std.specs.List.{AllZip}
use Rattle.std.proofs.lemmas.List.{map-append}
use Rattle.yp_io.specs.Disk.{History, IsImage, MayLeave, states, moment}
use Rattle.yp_io.specs.Dials.{Connected}
use Rattle.yp_version.specs.Versions.{MapVersion}
use Rattle.yp_map_file.specs.Stands.{stands}
use Rattle.yp_board.specs.Logs.{Log, shown, starts}
use Rattle.yp_publisher.specs.Standing.{StoredMap, MapStanding, Level, Behind, OfMap, Shows, stands_for, StandsAs, IsStanding, versions}
use Rattle.yp_publisher.specs.Opens.{IsOpened}
use Rattle.yp_publisher.specs.Grown.{Making, AreMade, GrowsBy, IsShownOrMade, LeavesByFronts, OrAsBefore, IsBehindMade, AtDisk, AreTold}
use Rattle.yp_headline.specs.World.{World}
use Rattle.yp_headline.specs.Fetching.{Gives}
use Rattle.yp_headline.specs.Publishing.{IsMarked, IsFetched, IsNew, StoreHas, IsPublishedLog, OfStore, OfFile, StandsBy, AreLeft}
use Rattle.yp_headline.specs.inside.Files.{filed, stores_between, streamed, dialed_of}
use Rattle.yp_headline.proofs.Stood.{stood as as_stood}
use Rattle.yp_headline.proofs.Moments.{of_turn}

-- ---- files

-- a disk that tells at first and at last
module _ {D : Type 0} (history : D → Option History) where
  told_first : (disk : D) (disks : List D) → AreTold history (disk ∷ disks) → IsSome (history disk)
  told_first disk disks told = told 0 disk (omega (arith))

  told_rest : (disk : D) (disks : List D) → AreTold history (disk ∷ disks) → AreTold history disks
  told_rest disk disks told = λ k d within. told (suc k) d (omega (arith, within))

  -- what the store of a disk has, where both moments are told
  store_has : (old new : Option History) (version : Option MapVersion) → IsSome old → IsSome new
      → IfSome old (λ h. stands h.state.reads ≡ stands_for version) → StoreHas (filed old new) version
  store_has None new version is is' has = absurd cc
  store_has (Some old) None version is is' has = absurd cc
  store_has (Some old) (Some new) version is is' has = as_stood old.state.reads version has

  pub stores_have : (faults : D → ℕ) (olds news : List D) (maps : List (StoredMap D)) → AllZip (IsOpened history faults) olds maps
      → length news ≡ length maps → AreTold history olds → AreTold history news
      → AllZip StoreHas (stores_between history olds news) (versions maps)
  stores_have faults [] [] [] opened count told told' = tt
  stores_have faults [] (new ∷ news) [] opened count told told' = absurd (omega (arith, count))
  stores_have faults [] news (kept ∷ maps) opened count told told' = absurd opened
  stores_have faults (old ∷ olds) news [] opened count told told' = absurd opened
  stores_have faults (old ∷ olds) [] (kept ∷ maps) opened count told told' = absurd (omega (arith, count))
  stores_have faults (old ∷ olds) (new ∷ news) (kept ∷ maps) opened count told told' = (
    store_has (history old) (history new) kept.version (told_first old olds told) (told_first new news told')
        opened.0.stood.version,
    stores_have faults olds news maps opened.1 (omega (arith, count)) (told_rest old olds told) (told_rest new news told'),
  )

  -- what a crash leaves of a file at each moment
  module _ (world : World) (map : ℕ) (begun log : Log) (P : Log → List ℕ → Type 0)
      (then : (front : Log) (image : List ℕ) → P front image → StandsBy world map front image) where
    abbrev LeavesSo : Option History → Option History → Type 0
    LeavesSo old new = LeavesByFronts (OrAsBefore old begun P) old new begun log

    left_of : (old new : Option History) → LeavesSo old new
        → OfStore (λ file. AreLeft world map file.first file.moments begun log) (filed old new)
    left_of None None leaves = tt
    left_of None (Some new) leaves = tt
    left_of (Some old) None leaves = tt
    left_of (Some old) (Some new) leaves = of_turn world map old.state (OrAsBefore (Some old) begun P) begun
        (λ front image is. ⊎_elim (λ before. inl before) (λ by. inr (then front image by)) is)
        (take (suc (moment new - moment old)) (states new)) log leaves.each

    pub left_at : (number : ℕ) (olds news : List D)
        → AtDisk number olds news (λ before after. LeavesSo (history before) (history after))
        → OfFile number (stores_between history olds news) (λ file. AreLeft world map file.first file.moments begun log)
    left_at number [] [] at = tt
    left_at number [] (new ∷ news) at = tt
    left_at number (old ∷ olds) [] at = tt
    left_at zero (old ∷ olds) (new ∷ news) at = left_of (history old) (history new) at
    left_at (suc number) (old ∷ olds) (new ∷ news) at = left_at number olds news at

  -- what a crash leaves of a file at the end
  end_of : (P : List ℕ → Type 0) (old new : Option History)
      → ((h : History) → new ≡ Some h → (image : List ℕ) → IsImage h.state image → P image)
      → OfStore (λ file. (image : List ℕ) → IsImage file.last image → IsImage file.first image ⊎ P image) (filed old new)
  end_of P None None then = tt
  end_of P None (Some new) then = tt
  end_of P (Some old) None then = tt
  end_of P (Some old) (Some new) then = λ image is. inr (then new refl image is)

  pub end_at : (P : List ℕ → Type 0) (number : ℕ) (olds : List D) (maps : List (StoredMap D))
      → ((kept : StoredMap D) (h : History) → slice_get maps number ≡ Some kept → history kept.disk ≡ Some h
      → (image : List ℕ) → IsImage h.state image → P image)
      → OfFile number (stores_between history olds (map (λ kept. kept.disk) maps))
      (λ file. (image : List ℕ) → IsImage file.last image → IsImage file.first image ⊎ P image)
  end_at P number [] [] then = tt
  end_at P number [] (kept ∷ maps) then = tt
  end_at P number (old ∷ olds) [] then = tt
  end_at P zero (old ∷ olds) (kept ∷ maps) then =
      end_of P (history old) (history kept.disk) (λ h is. then kept h refl is)
  end_at P (suc number) (old ∷ olds) (kept ∷ maps) then = end_at P number olds maps then

version_at : {D : Type 0} (maps : List (StoredMap D)) (number : ℕ) (kept : StoredMap D) → slice_get maps number ≡ Some kept
    → slice_index_or (versions maps) number None ≡ kept.version
version_at [] number kept is = absurd cc
version_at (one ∷ maps) zero kept is = let same : one ≡ kept = cc in ap (λ k. k.version) same
version_at (one ∷ maps) (suc number) kept is = version_at maps number kept is

-- ---- versions that are new

made_so : (Is Is' : Making) → ((number : ℕ) (log : Log) (version : MapVersion) → Is number log version → Is' number log version)
    → (log more : Log) → AreMade Is log more → AreMade Is' log more
made_so Is Is' then log [] made = tt
made_so Is Is' then log (entry ∷ more) made =
    (then entry.0 log entry.1 made.0, made_so Is Is' then (log ++ entry ∷ []) more made.1)

pub told_input : (input : Option (List ℕ)) (stream : List ℕ) → input ≡ Some stream → unwrap_or input [] ≡ stream
told_input input stream is = ap (λ (o : Option (List ℕ)). unwrap_or o []) is

-- a version that came by a wire
abbrev pub by_wire : (world : World) (wires front back : List Connected) (wire : Connected) → world.dialed ≡ map dialed_of wires
    → wires ≡ front ++ wire ∷ back → (stream : List ℕ) → wire.input ≡ Some stream → (fetched version : MapVersion)
    → Gives (streamed wire.peer stream) fetched → IsMarked fetched version → IsFetched world version
by_wire world wires front back wire dialed parts stream input fetched version gives marked = record {
  server = dialed_of wire;
  among = (
    map dialed_of front,
    map dialed_of back,
    dialed ∙ ap (map dialed_of) parts ∙ map-append dialed_of front (wire ∷ back),
  );
  fetched = fetched;
  gives = subst (λ (l : List ℕ). Gives (streamed wire.peer l) fetched) (sym (told_input wire.input stream input)) gives;
  marked = marked;
}

pub zip_length : {A B : Type 0} (R : A → B → Type 0) (xs : List A) (ys : List B) → AllZip R xs ys → length xs ≡ length ys
zip_length R [] [] all = refl
zip_length R [] (y ∷ ys) all = absurd all
zip_length R (x ∷ xs) [] all = absurd all
zip_length R (x ∷ xs) (y ∷ ys) all = let rest = zip_length R xs ys all.1 in omega (arith, rest)

-- ---- a log of versions that are new

module _ (world : World) (Is : Making) (first last : Log)
    (is_new : (number : ℕ) (log : Log) (version : MapVersion) → Is number log version → IsNew world number log version) where
  pub is_published : (held : List (Option MapVersion)) → AllZip StoreHas world.stores held → first ≡ starts 0 held
      → GrowsBy Is first last → IsPublishedLog world first last
  is_published held stored begins grown = record {
    first = held;
    stored = stored;
    begun_is = begins;
    more = grown.more;
    all = grown.last_is;
    new = made_so Is (IsNew world) is_new first grown.more grown.made;
  }

  pub stands_by : (number : ℕ) (log : Log) (image : List ℕ) → IsShownOrMade Is number log image → StandsBy world number log image
  stands_by number log image is = ⊎_elim (λ as_shown. inl (as_stood image (shown number log) as_shown))
      (λ made. inr (made.0, is_new number log made.0 made.1, as_stood image (Some made.0) made.2)) is

  by_standing : (number : ℕ) (standing : MapStanding) (image : List ℕ) → StandsAs standing (shown number last) image
      → IsBehindMade Is number last standing → StandsBy world number last image
  by_standing number Level image stands_as behind = inl (as_stood image (shown number last) stands_as)
  by_standing number (Behind failed) image stands_as behind =
      ⊎_elim (λ as_shown. inl (as_stood image (shown number last) as_shown))
      (λ as_failed. inr (failed, is_new number last failed behind, as_stood image (Some failed) as_failed)) stands_as

  -- what a crash leaves of a map at the end
  pub left_of_map : {D : Type 0} (history : D → Option History) (maps : List (StoredMap D)) → Shows last (versions maps)
      → ((number : ℕ) → OfMap number maps (IsStanding history))
      → ((number : ℕ) → OfMap number maps (λ kept. IsSome (history kept.disk) → IsBehindMade Is number last kept.standing))
      → (number : ℕ) (kept : StoredMap D) (h : History) → slice_get maps number ≡ Some kept
      → history kept.disk ≡ Some h → (image : List ℕ) → IsImage h.state image → StandsBy world number last image
  left_of_map {D} history maps shows standing behind number kept h kept_is told_is image may =
      let stands_now : IsStanding history kept =
      subst (λ (o : Option (StoredMap D)). IfSome o (IsStanding history)) kept_is (standing number) in
      let may' : MayLeave (history kept.disk) image =
      subst (λ (o : Option History). MayLeave o image) (sym told_is) may in
      let behind_so = subst (λ (o : Option (StoredMap D)). IfSome o (λ k. IsSome (history k.disk)
      → IsBehindMade Is number last k.standing)) kept_is (behind number) in
      let some : IsSome (history kept.disk) = subst (λ (o : Option History). IsSome o) (sym told_is) refl in
      let version : kept.version ≡ shown number last = sym (version_at maps number kept kept_is) ∙ sym (shows number) in
      by_standing number kept.standing image
      (subst (λ (v : Option MapVersion). StandsAs kept.standing v image) version (stands_now image may')) (behind_so some)
