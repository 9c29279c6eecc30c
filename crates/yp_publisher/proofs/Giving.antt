-- Disks that are given back, the last one first.
use Rattle.std.proofs.Common.{◌≡◌, ℕ, zero, suc, ◌+◌, ◌≤◌, List, [], ◌∷◌, ◌++◌, map, reverse, length, Option}
use Rattle.std.proofs.Common.{append_assoc, arith, refl, sym, ◌∙◌, ap}
use Rattle.std.proofs.lemmas.List.{append-nil, reverse-append, map-append, length-append}
use Rattle.yp_io.specs.Disk.{History}
use Rattle.yp_publisher.specs.Standing.{StoredMap, OfMap, IsStanding, IsNumbered}

-- what isn't given back yet, and the disks that are
pub record IsGiving {D : Type 0} (H : D
    → Option History) (all : List (StoredMap D)) (first : List D) (maps : List (StoredMap D)) (disks : List D)
    (capacity : ℕ) : Type 0 where
  pub kept : map (λ (k : StoredMap D). k.disk) all ++ reverse first ≡ map (λ (k : StoredMap D). k.disk) maps ++ reverse disks
  pub room : length disks + length maps ≤ capacity
  pub given : List (StoredMap D)
  pub front : all ≡ maps ++ given
  pub stands : (k : ℕ) → OfMap k given (IsStanding H)
  pub numbers : (k : ℕ) → OfMap k given (IsNumbered H)

pub giving_none : {D : Type 0} (H : D → Option History) (all : List (StoredMap D)) (first : List D) (capacity : ℕ)
    → length first + length all ≤ capacity → IsGiving H all first all first capacity
giving_none H all first capacity room = record {
  kept = refl;
  room = room;
  given = [];
  front = sym (append-nil all);
  stands = λ k. tt;
  numbers = λ k. tt;
}

more_hold : {D : Type 0} (P : StoredMap D → Type 0) (kept : StoredMap D) (given : List (StoredMap D)) → P kept
    → ((k : ℕ) → OfMap k given P) → (k : ℕ) → OfMap k (kept ∷ given) P
more_hold P kept given holds all zero = holds
more_hold P kept given holds all (suc k) = all k

pub giving_more : {D : Type 0} (H : D
    → Option History) (all : List (StoredMap D)) (first : List D) (maps fewer : List (StoredMap D)) (kept : StoredMap D)
    (disks more : List D) (disk : D) (capacity after : ℕ)
    → IsGiving H all first maps disks capacity → maps ≡ fewer ++ kept ∷ [] → disk ≡ kept.disk
    → more ≡ disks ++ disk ∷ [] → after ≡ capacity → IsStanding H kept → IsNumbered H kept
    → IsGiving H all first fewer more after
giving_more {D} H all first maps fewer kept disks more disk capacity after is popped own pushed same stands numbered =
    let f : StoredMap D → D = λ k. k.disk in
    let here : map f maps ≡ map f fewer ++ f kept ∷ [] = ap (map f) popped ∙ map-append f fewer (kept ∷ []) in
    let there : reverse more ≡ f kept ∷ reverse disks = ap reverse pushed ∙ reverse-append disks (disk ∷ [])
    ∙ ap (λ (d : D). d ∷ reverse disks) own in
    let len : length maps ≡ length fewer + 1 = ap length popped ∙ length-append fewer (kept ∷ []) in
    let size : length more ≡ length disks + 1 = ap length pushed ∙ length-append disks (disk ∷ []) in
    let room = is.room in
    record {
      kept = is.kept ∙ ap (λ (l : List D). l ++ reverse disks) here
          ∙ append_assoc (map f fewer) (f kept ∷ []) (reverse disks)
          ∙ ap (λ (l : List D). map f fewer ++ l) (sym there);
      room = omega arith;
      given = kept ∷ is.given;
      front = is.front ∙ ap (λ (l : List (StoredMap D)). l ++ is.given) popped ∙ append_assoc fewer (kept ∷ []) is.given;
      stands = more_hold (IsStanding H) kept is.given stands is.stands;
      numbers = more_hold (IsNumbered H) kept is.given numbered is.numbers;
    }
