-- Disks that are loaded, the first one first. They stand in reverse, so that the last one is next.
use Rattle.std.proofs.Common.{◌≡◌, ℕ, zero, suc, List, [], ◌∷◌, ◌++◌, map, reverse, length, append_assoc, arith, refl, sym}
use Rattle.std.proofs.Common.{◌∙◌, ap, subst, Option, None, Some, IfSome, Err}
use Rattle.std.proofs.lemmas.List.{reverse-append, append-nil, reverse-reverse}
use Rattle.std.specs.List.{AllZip}
use Rattle.yp_io.specs.Disk.{History, HistoryGoesOn, LeftBetween, MayLeave}
use Rattle.yp_map_file.specs.declared.fault.SlotFault.{SlotFault}
use Rattle.yp_map_file.specs.declared.fault.SlotFault.TheVariants.{DiskFault, NoMemory}
use Rattle.yp_map_file.specs.Loads.{Loads}
use Rattle.yp_map_file.specs.Stands.{stands}
use Rattle.yp_publisher.specs.Standing.{StoredMap, IsStanding, OfMap}
use Rattle.yp_publisher.specs.Opens.{IsOpened, DiskIsRefused, OpeningStopped}
use Rattle.yp_publisher.proofs.Moments.{left_alone}

zip_more : {A B : Type 0} (R : A → B → Type 0) (xs : List A) (ys : List B) (x : A) (y : B) → AllZip R xs ys → R x y
    → AllZip R (xs ++ x ∷ []) (ys ++ y ∷ [])
zip_more R [] [] x y all one = (one, tt)
zip_more R [] (b ∷ ys) x y all one = absurd all
zip_more R (a ∷ xs) [] x y all one = absurd all
zip_more R (a ∷ xs) (b ∷ ys) x y all one = (all.0, zip_more R xs ys x y all.1 one)

zip_length : {A B : Type 0} (R : A → B → Type 0) (xs : List A) (ys : List B) → AllZip R xs ys → length xs ≡ length ys
zip_length R [] [] all = refl
zip_length R [] (b ∷ ys) all = absurd all
zip_length R (a ∷ xs) [] all = absurd all
zip_length R (a ∷ xs) (b ∷ ys) all = ap suc (zip_length R xs ys all.1)

-- the disks so far, each with what is kept of its map
pub record IsLoading {D : Type 0} (H : D → Option History) (F : D
    → ℕ) (all rest : List D) (maps : List (StoredMap D)) : Type 0 where
  pub front : List D
  pub is : all ≡ front ++ reverse rest
  pub each : AllZip (IsOpened H F) front maps

pub loading_none : {D : Type 0} (H : D → Option History) (F : D → ℕ) (all rest : List D) (maps : List (StoredMap D))
    → rest ≡ reverse all → maps ≡ [] → IsLoading H F all rest maps
loading_none {D} H F all rest maps reversed none = record {
  front = [];
  is = sym (ap reverse reversed ∙ reverse-reverse all);
  each = subst (λ (l : List (StoredMap D)). AllZip (IsOpened H F) [] l) (sym none) tt;
}

-- the disk that is next
next_is : {D : Type 0} (all front rest fewer : List D) (disk : D) → all ≡ front ++ reverse rest
    → rest ≡ fewer ++ disk ∷ [] → all ≡ front ++ disk ∷ reverse fewer
next_is {D} all front rest fewer disk is popped =
    is ∙ ap (λ (l : List D). front ++ l) (ap reverse popped ∙ reverse-append fewer (disk ∷ []))

pub loading_more : {D : Type 0} (H : D → Option History) (F : D
    → ℕ) (all rest fewer : List D) (maps more : List (StoredMap D)) (disk : D) (kept : StoredMap D) → IsLoading H F all rest maps
    → rest ≡ fewer ++ disk ∷ [] → IsOpened H F disk kept → more ≡ maps ++ kept ∷ [] → IsLoading H F all fewer more
loading_more {D} H F all rest fewer maps more disk kept l popped opened pushed = record {
  front = l.front ++ disk ∷ [];
  is = next_is all l.front rest fewer disk l.is popped ∙ sym (append_assoc l.front (disk ∷ []) (reverse fewer));
  each = subst (λ (k : List (StoredMap D)). AllZip (IsOpened H F) (l.front ++ disk ∷ []) k) (sym pushed)
      (zip_more (IsOpened H F) l.front maps disk kept l.each opened);
}

pub loading_all : {D : Type 0} (H : D → Option History) (F : D → ℕ) (all rest : List D) (maps : List (StoredMap D))
    → IsLoading H F all rest maps → rest ≡ [] → AllZip (IsOpened H F) all maps
loading_all {D} H F all rest maps l none =
    let e : l.front ≡ all = sym (l.is ∙ ap (λ (r : List D). l.front ++ reverse r) none ∙ append-nil l.front) in
    subst (λ (d : List D). AllZip (IsOpened H F) d maps) e l.each

-- each map that was opened stands as it should
pub all_stand : {D : Type 0} (H : D → Option History) (F : D → ℕ) (disks : List D) (maps : List (StoredMap D)) → AllZip (IsOpened H F) disks maps
    → (number : ℕ) → OfMap number maps (IsStanding H)
all_stand H F [] [] all number = tt
all_stand H F [] (kept ∷ maps) all number = absurd all
all_stand H F (disk ∷ disks) [] all number = absurd all
all_stand H F (disk ∷ disks) (kept ∷ maps) all zero = all.0.standing
all_stand H F (disk ∷ disks) (kept ∷ maps) all (suc number) = all_stand H F disks maps all.1 number

-- where a disk is refused
pub loading_stopped : {D : Type 0} (H : D → Option History) (F : D
    → ℕ) (all rest fewer left new : List D) (maps : List (StoredMap D)) (disk after : D) (number : ℕ) (fault : SlotFault)
    → IsLoading H F all rest maps
    → rest ≡ fewer ++ disk ∷ [] → DiskIsRefused H F disk after fault → left ≡ fewer ++ after ∷ []
    → new ≡ map (λ (k : StoredMap D). k.disk) maps ++ reverse left → number ≡ length maps
    → OpeningStopped H F all new number fault
loading_stopped {D} H F all rest fewer left new maps disk after number fault l popped refused pushed given counted =
    record {
      front = l.front;
      opened = maps;
      before = disk;
      after = after;
      rest = reverse fewer;
      old_is = next_is all l.front rest fewer disk l.is popped;
      new_is = given ∙ ap (λ (r : List D). map (λ (k : StoredMap D). k.disk) maps ++ r) (ap reverse pushed
          ∙ reverse-append fewer (after ∷ []));
      number_is = counted ∙ sym (zip_length (IsOpened H F) l.front maps l.each);
      each = l.each;
      refused = refused;
    }

-- want of memory says nothing of a file
no_cause : (told : Option History) → IfSome told (λ h. Loads (stands h.state.reads) (Err NoMemory))
no_cause None = tt
no_cause (Some h) = tt

-- where memory runs out before any disk is called
pub stopped_first : {D : Type 0} (H : D → Option History) (F : D → ℕ) (stays : (disk : D)
    → HistoryGoesOn (H disk) (H disk)) (only : (disk : D) (image : List ℕ) → LeftBetween (H disk) (H disk) image
    → MayLeave (H disk) image)
    (all : List D) → (length all ≡ 0 → ⊥) → OpeningStopped H F all all 0 NoMemory
stopped_first H F stays only [] some = absurd (some refl)
stopped_first H F stays only (disk ∷ rest) some = record {
  front = [];
  opened = [];
  before = disk;
  after = disk;
  rest = rest;
  old_is = refl;
  new_is = refl;
  number_is = refl;
  each = tt;
  refused = record {
    cause = no_cause (H disk);
    disk_fault = λ (e : NoMemory ≡ DiskFault). cc;
    moments = left_alone (H disk) (stays disk) (only disk) (λ image left. left);
    never_falls = omega arith;
  };
}
