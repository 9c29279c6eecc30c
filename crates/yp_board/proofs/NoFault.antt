-- Maps in which no fault is found make a catalogue.
use Rattle.std.proofs.Common.{◌≡◌, ℕ, ◌+◌, ◌≤◌, ◌||◌, Bool, true, false, cond, not, ltb, leb, List, [], ◌∷◌, ◌++◌}
use Rattle.std.proofs.Common.{length, Option, Some, None, refl, sym, ap, ◌∙◌, arith, suc}
use Rattle.std.specs.List.{IsDistinct, AllByRecursion, list_any, position, position_or_len}
use Rattle.std.specs.Option.{option_map_or}
use Rattle.std.specs.Cmp.{first_so, second_so}
use Rattle.std.proofs.lemmas.List.{take_all}
use Rattle.std.proofs.lemmas.List.Folds.{list_any-append}
use Rattle.std.proofs.lemmas.List.Elements.{All-from_recursion}
use Rattle.std.proofs.lemmas.Bool.Decides.{nat_tests}
use Rattle.std.proofs.lemmas.Cmp.{nat_list_eq_equiv}
use Rattle.yp_board.specs.declared.catalog.CatalogFault.TheVariants.{OwnName, BadName, Twice, TooMany}
use Rattle.yp_board.specs.Catalogues.{Name, IsName, IsCatalogue, is_name, is_same}
use Rattle.yp_board.specs.inside.Catalogues.{is_map_name, with_numbers, bad_name}
use Rattle.yp_board.specs.Catalogues.{name_max, maps_max}
use Rattle.yp_board.specs.inside.Catalogues.{again_from, twice, maps_fault, catalog_fault}

-- a test that no element passes
head_fails : (b : Bool) (n m : ℕ) → suc n ≤ cond (not b) (1 + m) 0 → (b ≡ false) × (n ≤ m)
head_fails true n m h = absurd (omega arith)
head_fails false n m h = (refl, omega arith)

all_fail : {X : Type 0} (p : X → Bool) (xs : List X) → length xs ≤ position_or_len p xs
    → AllByRecursion (λ x. p x ≡ false) xs
all_fail p [] h = tt
all_fail p (x ∷ xs) h =
    let f = head_fails (p x) (length xs) (position_or_len p xs) h in
    (f.0, all_fail p xs f.1)

not_below : (n m : ℕ) (b : Bool) → b ≡ ltb n m → cond b (Some n) None ≡ None → m ≤ n
not_below n m true e h = absurd (cc)
not_below n m false e h = grind (arith, nat_tests)

pub none_passes : {X : Type 0} (p : X → Bool) (xs : List X) → position p xs ≡ None
    → AllByRecursion (λ x. p x ≡ false) xs
none_passes p xs h = all_fail p xs
    (not_below (position_or_len p xs) (length xs) (ltb (position_or_len p xs) (length xs)) refl h)

-- no name stands among those before it
not_either : (a b : Bool) → (a || b) ≡ false → (a ≡ false) × (b ≡ false)
not_either true b h = absurd (cc)
not_either false b h = (refl, h)

none_here : {X : Type 0} (b : Bool) (x : X) (rest : Option X) → cond b (Some x) rest ≡ None
    → (b ≡ false) × (rest ≡ None)
none_here true x rest h = absurd (cc)
none_here false x rest h = (refl, h)

is_same-symm : (a b : Name) → is_same a b ≡ is_same b a
is_same-symm a b = rw (nat_list_eq_equiv.symm a.0 b.0, nat_list_eq_equiv.symm a.1 b.1) refl

AllByRecursion-weaker : {X : Type 0} (P Q : X → Type 0) → ((x : X) → P x → Q x) → (xs : List X) → AllByRecursion P xs
    → AllByRecursion Q xs
AllByRecursion-weaker P Q f [] all = tt
AllByRecursion-weaker P Q f (x ∷ xs) all = (f x all.0, AllByRecursion-weaker P Q f xs all.1)

unlike_both : (before : List Name) (name x : Name) → list_any (is_same x) (before ++ name ∷ []) ≡ false
    → (list_any (is_same x) before ≡ false) × (is_same name x ≡ false)
unlike_both before name x h =
    let both = not_either (list_any (is_same x) before) (is_same x name || false)
    (sym (list_any-append (is_same x) before (name ∷ [])) ∙ h) in
    let last = not_either (is_same x name) false both.1 in
    (both.0, is_same-symm name x ∙ last.0)

pub none_again : (at : ℕ) (before names : List Name) → again_from at before names ≡ None
    → AllByRecursion (λ x. list_any (is_same x) before ≡ false) names × IsDistinct is_same names
unfolding IsDistinct
none_again at before [] h = (tt, tt)
none_again at before (name ∷ names) h =
    let here = none_here (list_any (is_same name) before) at (again_from (at + 1) (before ++ name ∷ []) names) h in
    let more = none_again (at + 1) (before ++ name ∷ []) names here.1 in
    let Old : Name → Type 0 = λ x. list_any (is_same x) (before ++ name ∷ []) ≡ false in (
      (
        here.0,
        AllByRecursion-weaker Old (λ x. list_any (is_same x) before ≡ false)
            (λ x e. (unlike_both before name x e).0) names more.0,
      ),
      (
        AllByRecursion-weaker Old (λ x. is_same name x ≡ false) (λ x e. (unlike_both before name x e).1)
            names more.0,
        more.1,
      ),
    )

-- names within the limits
not_false : (b : Bool) → not b ≡ false → b ≡ true
not_false true h = refl
not_false false h = absurd (cc)

name_passes : (bytes : List ℕ) → is_name bytes ≡ true → IsName bytes
name_passes bytes h =
    let some = first_so (ltb 0 (length bytes)) (leb (length bytes) name_max) h in
    let within = second_so (ltb 0 (length bytes)) (leb (length bytes) name_max) h in
    record { some = grind (arith, nat_tests); within = grind (arith, nat_tests) }

both_pass : (name : Name) → not (is_map_name name) ≡ false → IsName name.0 × IsName name.1
both_pass name h =
    let so = not_false (is_map_name name) h in (
      name_passes name.0 (first_so (is_name name.0) (is_name name.1) so),
      name_passes name.1
          (second_so (is_name name.0) (is_name name.1) so),
    )

-- the faults, one after another
none_else : {X Y : Type 0} (f : X → Y) (o : Option X) (rest : Option Y) → option_map_or (λ x. Some (f x)) o rest ≡ None
    → (o ≡ None) × (rest ≡ None)
none_else f None rest h = (refl, h)
none_else f (Some x) rest h = absurd (cc)

few : (n m : ℕ) → ltb n m ≡ false → m ≤ n
few n m h = grind (arith, nat_tests)

pub no_fault : (own : List ℕ) (maps : List Name) → catalog_fault own maps ≡ None
    → IsCatalogue (record { own = own; maps = maps })
no_fault own maps h =
    let named = none_here (not (is_name own)) OwnName
    (option_map_or (λ index. Some (BadName index)) (bad_name maps) (maps_fault maps)) h in
    let good = none_else (λ index. BadName index) (bad_name maps) (maps_fault maps) named.1 in
    let once = none_else (λ index. Twice index) (twice maps) (cond (ltb maps_max (length maps)) (Some TooMany) None)
    good.1 in
    let count = few maps_max (length maps) (none_here (ltb maps_max (length maps)) TooMany None once.1).0 in
    let all : with_numbers maps ≡ maps = take_all 4294967296 maps (omega arith) in
    let pass = none_passes (λ name. not (is_map_name name)) maps
    (ap (position (λ name. not (is_map_name name))) (sym all) ∙ good.0) in
    let apart = none_again 0 [] maps (ap (again_from 0 []) (sym all) ∙ once.0) in
    let Passes : Name → Type 0 = λ name. not (is_map_name name) ≡ false in
    record {
      own = name_passes own (not_false (is_name own) named.0);
      domains = All-from_recursion (λ name. IsName name.0) maps
          (AllByRecursion-weaker Passes (λ name. IsName name.0) (λ name e. (both_pass name e).0) maps pass);
      maps = All-from_recursion (λ name. IsName name.1) maps
          (AllByRecursion-weaker Passes (λ name. IsName name.1) (λ name e. (both_pass name e).1) maps pass);
      distinct = apart.1;
      count = count;
    }
