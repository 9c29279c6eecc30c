-- What a crash leaves in two times, one after the other, and facts of places in lists.
use Rattle.std.proofs.Common.{◌≡◌, ◌⊎◌, inl, inr, ⊎_elim, ℕ, zero, suc, List, [], ◌∷◌, length, slice_get, All, Option, Some, None, IfSome, IsSome, option_map, refl, sym, subst}
use Rattle.std.specs.List.{AllZip}
use Rattle.std.proofs.lemmas.Option.{slice_get_cases}
use Rattle.yp_io.specs.Disk.{History, HistoryGoesOn, LeavesOnly, MayLeave}
use Rattle.yp_io.specs.inside.DiskLaws.{stays, only_now, counts_now, goes_on, splits}

-- ---- disks

-- what holds of all that is left holds of it in other words, and only told disks count
pub weaker : {P Q : List ℕ → Type 0} (old new : Option History) → (IsSome old → (image : List ℕ) → P image → Q image) → LeavesOnly old new P → LeavesOnly old new Q
weaker None new f l = record { goes_on = l.goes_on; each = λ image left. absurd left }
weaker (Some h) new f l = record { goes_on = l.goes_on; each = λ image left. f refl image (l.each image left) }

-- a disk that is left alone leaves what it might leave
pub left_alone : {P : List ℕ → Type 0} (history : Option History) → ((image : List ℕ) → MayLeave history image → P image) → LeavesOnly history history P
left_alone history each = record { goes_on = stays history; each = λ image left. each image (only_now history image left) }

-- all moments of both times
pub both_leave : {P : List ℕ → Type 0} (old middle new : Option History) → LeavesOnly old middle P → LeavesOnly middle new P → LeavesOnly old new P
both_leave old middle new first second = record {
  goes_on = goes_on old middle new first.goes_on second.goes_on;
  each = λ image left. ⊎_elim (λ l. first.each image l) (λ l. second.each image l) (splits old middle new image first.goes_on second.goes_on left);
}

-- what might be left between them was left in the first one
pub both_leave_or : {P : List ℕ → Type 0} (old middle new : Option History) → LeavesOnly old middle (λ image. MayLeave old image ⊎ P image)
    → LeavesOnly middle new (λ image. MayLeave middle image ⊎ P image) → LeavesOnly old new (λ image. MayLeave old image ⊎ P image)
both_leave_or {P} old middle new first second =
    both_leave old middle new first record {
      goes_on = second.goes_on;
      each = λ image left. ⊎_elim (λ before. first.each image (counts_now old middle image first.goes_on before)) (λ is. inr is) (second.each image left);
    }

-- a disk that goes on tells its history exactly where it did
pub told_on : (old new : Option History) → HistoryGoesOn old new → IsSome old → IsSome new
told_on None new went told = absurd (cc)
told_on (Some h) None went told = absurd went
told_on (Some h) (Some k) went told = refl

pub told_before : (old new : Option History) → HistoryGoesOn old new → IsSome new → IsSome old
told_before None None went told = told
told_before None (Some k) went told = absurd went
told_before (Some h) new went told = refl

-- ---- options

pub opt_one : {A : Type 0} {P Q : A → Type 0} (o : Option A) → ((a : A) → o ≡ Some a → P a → Q a) → IfSome o P → IfSome o Q
opt_one None f h = tt
opt_one (Some a) f h = f a refl h

pub opt_both : {A B : Type 0} {P Q : A → B → Type 0} (o : Option A) (p : Option B)
    → ((a : A) (b : B) → o ≡ Some a → p ≡ Some b → P a b → Q a b) → IfSome o (λ a. IfSome p (P a)) → IfSome o (λ a. IfSome p (Q a))
opt_both None p f h = tt
opt_both (Some a) None f h = tt
opt_both (Some a) (Some b) f h = f a b refl refl h

pub opt_same : {A : Type 0} (P : A → A → Type 0) (o p : Option A) → p ≡ o → ((a : A) → o ≡ Some a → P a a) → IfSome o (λ a. IfSome p (P a))
opt_same {A} P o p e f = subst (λ (q : Option A). IfSome o (λ a. IfSome q (P a))) (sym e) (here o f) where
  here : (o : Option A) → ((a : A) → o ≡ Some a → P a a) → IfSome o (λ a. IfSome o (P a))
  here None f = tt
  here (Some a) f = f a refl

pub opt_then : {A B C : Type 0} {P : A → B → Type 0} {Q : B → C → Type 0} {R : A → C → Type 0} (o : Option A) (p : Option B) (q : Option C)
    → (IsSome o → IsSome p) → ((a : A) (b : B) (c : C) → P a b → Q b c → R a c)
    → IfSome o (λ a. IfSome p (P a)) → IfSome p (λ b. IfSome q (Q b)) → IfSome o (λ a. IfSome q (R a))
opt_then None p q some f h k = tt
opt_then {A} {B} (Some a) None q some f h k = let no : IsSome {T = B} None = some refl in absurd (cc)
opt_then (Some a) (Some b) None some f h k = tt
opt_then (Some a) (Some b) (Some c) some f h k = f a b c h k

-- what follows of the second one
pub opt_second : {A B : Type 0} {P : A → B → Type 0} {Q : B → Type 0} (o : Option A) (p : Option B)
    → (IsSome p → IsSome o) → ((a : A) (b : B) → o ≡ Some a → p ≡ Some b → P a b → Q b) → IfSome o (λ a. IfSome p (P a)) → IfSome p Q
opt_second o None some f h = tt
opt_second {A} None (Some b) some f h = let no : IsSome {T = A} None = some refl in absurd (cc)
opt_second (Some a) (Some b) some f h = f a b refl refl h

pub opt_at : {A : Type 0} (P : A → Type 0) (o : Option A) (a : A) → o ≡ Some a → IfSome o P → P a
opt_at {A} P o a e h = subst (λ (q : Option A). IfSome q P) e h

pub opt_at_both : {A B : Type 0} (P : A → B → Type 0) (o : Option A) (p : Option B) (a : A) (b : B) → o ≡ Some a → p ≡ Some b → IfSome o (λ a. IfSome p (P a)) → P a b
opt_at_both {A} {B} P o p a b there here h = opt_at (P a) p b here (opt_at (λ (x : A). IfSome p (P x)) o a there h)

pub opt_put : {A : Type 0} (P : A → Type 0) (o : Option A) (a : A) → o ≡ Some a → P a → IfSome o P
opt_put {A} P o a e h = subst (λ (q : Option A). IfSome q P) (sym e) h

-- ---- lists

-- lists of one length have the same places
pub same_places : {A B : Type 0} (xs : List A) (ys : List B) (n : ℕ) → length xs ≡ length ys → IsSome (slice_get xs n) → IsSome (slice_get ys n)
same_places [] ys n e some = absurd (cc)
same_places (x ∷ xs) [] n e some = absurd (cc)
same_places (x ∷ xs) (y ∷ ys) zero e some = refl
same_places (x ∷ xs) (y ∷ ys) (suc n) e some = same_places xs ys n (cc) some

pub zip_at : {A B : Type 0} (R : A → B → Type 0) (xs : List A) (ys : List B) (n : ℕ) → AllZip R xs ys → IfSome (slice_get xs n) (λ x. IfSome (slice_get ys n) (R x))
zip_at R [] ys n all = tt
zip_at R (x ∷ xs) [] n all = absurd all
zip_at R (x ∷ xs) (y ∷ ys) zero all = all.0
zip_at R (x ∷ xs) (y ∷ ys) (suc n) all = zip_at R xs ys n all.1

pub all_at : {A : Type 0} (P : A → Type 0) (xs : List A) (n : ℕ) → All P xs → IfSome (slice_get xs n) P
all_at {A} P xs n all = elim (slice_get_cases xs n).1 [
  | inl here ↦ opt_put P (slice_get xs n) here.0 here.2 (subst P here.3 (all n here.0 here.1))
  | inr past ↦ subst (λ (o : Option A). IfSome o P) (sym past.1) tt
]

-- the same of the second list with a part of each element
pub opt_put_map : {A B C : Type 0} (P : A → C → Type 0) (f : B → C) (o : Option A) (p : Option B) (q : Option C) → q ≡ option_map f p
    → IfSome o (λ a. IfSome p (λ b. P a (f b))) → IfSome o (λ a. IfSome q (P a))
opt_put_map {A} {B} {C} P f o p q e h = subst (λ (r : Option C). IfSome o (λ a. IfSome r (P a))) (sym e) (mapped o p h) where
  mapped : (o : Option A) (p : Option B) → IfSome o (λ a. IfSome p (λ b. P a (f b))) → IfSome o (λ a. IfSome (option_map f p) (P a))
  mapped None p h = tt
  mapped (Some a) None h = tt
  mapped (Some a) (Some b) h = h
