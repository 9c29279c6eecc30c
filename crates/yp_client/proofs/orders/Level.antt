-- Whether lists of orders are the same.
use Rattle.std.proofs.Common.{◌≡◌, ℕ, zero, suc, ◌<◌, Bool, true, false, ◌&&◌, List, [], ◌∷◌, length, Option, Some, None, refl}
use Rattle.std.proofs.Common.{sym, ap, ◌∙◌, subst, arith}
use Rattle.std.specs.Prelude.{nat_eq, All, map, ◌↔◌, IsTrue}
use Rattle.std.specs.Bool.{Decides}
use Rattle.std.specs.List.{list_all}
use Rattle.std.specs.Option.{option_eq}
use Rattle.std.specs.Cmp.Lexicographic.{pointwise, pointwise_decides}
use Rattle.std.proofs.lemmas.Bool.Decides.{Decides-eqb}
use Rattle.std.proofs.lemmas.List.Elements.{All-cons}
use Rattle.std.proofs.lemmas.List.Folds.{list_all-map}
use Rattle.yp_client.specs.orders.Asked.{Orders}

some_same : (a b : ℕ) → Some a ≡ Some b → a ≡ b
some_same a b e = cc

-- two orders are compared by their values
orders_decide : (a b : Option ℕ) → Decides (option_eq nat_eq a b) (a ≡ b)
orders_decide None None = (λ t. refl, λ e. refl)
orders_decide None (Some b) = (λ t. absurd cc, λ e. absurd cc)
orders_decide (Some a) None = (λ t. absurd cc, λ e. absurd cc)
orders_decide (Some a) (Some b) =
    let same = Decides-eqb a b in
    (λ t. ap (λ (n : ℕ). Some n) (same.0 t), λ e. same.1 (some_same a b e))

abbrev is_same : Orders → Orders → Bool
is_same first orders = pointwise (option_eq nat_eq) orders first

both : (a b : Bool) → (a && b) ≡ true → (a ≡ true) × (b ≡ true)
both true b h = (refl, h)
both false b h = absurd cc

all_same : (first : Orders) (lists : List Orders) → list_all (is_same first) lists ≡ true
    → All (λ orders. orders ≡ first) lists
all_same first [] e = λ k d lt. absurd (omega arith)
all_same first (orders ∷ lists) e =
    let parts = both (is_same first orders) (list_all (is_same first) lists) e in
    All-cons (λ (l : Orders). l ≡ first) orders lists ((pointwise_decides orders_decide orders first).0 parts.0)
    (all_same first lists parts.1)

same_all : (first : Orders) (lists : List Orders) → All (λ orders. orders ≡ first) lists
    → list_all (is_same first) lists ≡ true
same_all first [] all = refl
same_all first (orders ∷ lists) all =
    let head : is_same first orders ≡ true = (pointwise_decides orders_decide orders first).1 (all 0 orders (omega arith)) in
    let rest : list_all (is_same first) lists ≡ true = same_all first lists (λ k d lt. all (suc k) d (omega (arith, lt))) in
    rw (head, rest) refl

-- so are those of servers
pub level : {A : Type 0} (view : A → Orders) (first : Orders) (others : List A) (result : Bool)
    → result ≡ list_all (λ other. pointwise (option_eq nat_eq) (view other) first) others
    → IsTrue result ↔ All (λ orders. orders ≡ first) (map view others)
level view first others result is =
    let same : result ≡ list_all (is_same first) (map view others) = is ∙ sym (list_all-map (is_same first) view others) in
    (λ t. all_same first (map view others) (sym same ∙ t), λ all. same ∙ same_all first (map view others) all)
