-- Each step keeps the rule of a queue of call backs.
use Rattle.std.proofs.Common.{◌≡◌, ◌≢◌, ◌⊎◌, inl, inr, ◌<◌, ◌≤◌, ℕ, zero, suc, ◌+◌, ◌-◌, List, [], ◌∷◌, ◌++◌, set, refl, sym, ap, ◌∙◌, subst, ⊎_elim, arith}
use Rattle.std.specs.List.{Contains}
use Rattle.std.proofs.lemmas.List.Elements.{Contains-append_left, Contains-append_right, Contains-append_cases}
use mathlib.Core.Option.{some, some-ne-none, some-injective}
use lib.ListN.{get_elem?}
use Rattle.crossbeam_queue.specs.Fifo.{Pushes, Pops, Forks, Merges, Learns}
use Rattle.crossbeam_queue.proofs.Lists.{at_set, at_snoc, at_longer, set_else}
use native.Mathlib.Decide.{ℕ_discrete}
use mathlib.Core.Logic.{dite}
use Rattle.yp_host.specs.declared.workers.call_backs.CallBack.{CallBack}
use Rattle.yp_host.specs.declared.workers.call_backs.Dealt.{Dealt}
use Rattle.yp_worker.specs.datagrams.Queues.{weigh}
use Rattle.yp_host.specs.inside.workers.Queues.{dealt, dealt_all, total, IdleIsEmpty, IsOfOne, IsFair, Balances, Leaves, TakesOver}

pub weigh_append : (h : CallBack → ℕ) (xs ys : List CallBack) → weigh h (xs ++ ys) ≡ weigh h xs + weigh h ys
weigh_append h [] ys = omega arith
weigh_append h (x ∷ xs) ys = let more = weigh_append h xs ys in omega (arith, more)

-- ---- the total of one number of each pass

total_set : (f : Dealt → ℕ) (views : List Dealt) (seat : ℕ) (v w : Dealt) → get_elem? views seat ≡ some v
    → total f (set views seat w) + f v ≡ total f views + f w
total_set f [] seat v w at = absurd (some-ne-none v (sym at))
total_set f (x ∷ views) zero v w at = let same : f x ≡ f v = ap f (some-injective x v at) in omega (arith, same)
total_set f (x ∷ views) (suc seat) v w at = let more = total_set f views seat v w at in omega (arith, more)

total_snoc : (f : Dealt → ℕ) (views : List Dealt) (w : Dealt) → total f (views ++ w ∷ []) ≡ total f views + f w
total_snoc f [] w = omega arith
total_snoc f (x ∷ views) w = let more = total_snoc f views w in omega (arith, more)

-- one pass has no more than all
total_has : (f : Dealt → ℕ) (views : List Dealt) (seat : ℕ) (v : Dealt) → get_elem? views seat ≡ some v → f v ≤ total f views
total_has f [] seat v at = absurd (some-ne-none v (sym at))
total_has f (x ∷ views) zero v at = let same : f x ≡ f v = ap f (some-injective x v at) in omega (arith, same)
total_has f (x ∷ views) (suc seat) v at = let more = total_has f views seat v at in omega (arith, more)

-- Where one pass has all parts, no other has left or taken over any.
module _ (f : Dealt → ℕ) (none : (u : Dealt) → (u.left ≡ []) × (u.took ≡ []) → f u ≡ 0) where
  all_idle : (views : List Dealt) → IdleIsEmpty views → total (λ u. u.parts) views ≡ 0 → total f views ≡ 0
  all_idle [] idle parts = refl
  all_idle (x ∷ views) idle parts =
      let first : f x ≡ 0 = none x (idle 0 x refl (omega (arith, parts))) in
      let more = all_idle views (λ seat u at e. idle (suc seat) u at e) (omega (arith, parts)) in
      omega (arith, first, more)

  total_alone : (views : List Dealt) (seat : ℕ) (v : Dealt) → IdleIsEmpty views → get_elem? views seat ≡ some v
      → total (λ u. u.parts) views ≡ v.parts → total f views ≡ f v
  total_alone [] seat v idle at parts = absurd (some-ne-none v (sym at))
  total_alone (x ∷ views) zero v idle at parts =
      let is : x ≡ v = some-injective x v at in
      let more = all_idle views (λ seat u at e. idle (suc seat) u at e)
      (let p : x.parts ≡ v.parts = ap (λ (d : Dealt). d.parts) is in omega (arith, parts, p)) in
      let same : f x ≡ f v = ap f is in omega (arith, same, more)
  total_alone (x ∷ views) (suc seat) v idle at parts =
      let has = total_has (λ u. u.parts) views seat v at in
      let first : f x ≡ 0 = none x (idle 0 x refl (omega (arith, parts, has))) in
      let more = total_alone views seat v (λ seat u at e. idle (suc seat) u at e) at (omega (arith, parts, has)) in
      omega (arith, first, more)

-- ---- who has no part

idle_set : (views : List Dealt) (seat : ℕ) (w : Dealt) → (w.parts ≡ 0 → (w.left ≡ []) × (w.took ≡ []))
    → IdleIsEmpty views → IdleIsEmpty (set views seat w)
idle_set views seat w mine idle j u e none =
    ⊎_elim
    (λ (x : (j ≡ seat) × (w ≡ u)). subst (λ (d : Dealt). (d.left ≡ []) × (d.took ≡ [])) x.1
    (mine (ap (λ (d : Dealt). d.parts) x.1 ∙ none)))
    (λ (x : (j ≢ seat) × (get_elem? views j ≡ some u)). idle j u x.1 none)
    (at_set views seat j w u e)

idle_snoc : (views : List Dealt) (w : Dealt) → (w.parts ≡ 0 → (w.left ≡ []) × (w.took ≡ []))
    → IdleIsEmpty views → IdleIsEmpty (views ++ w ∷ [])
idle_snoc views w mine idle j u e none =
    ⊎_elim
    (λ (x : get_elem? views j ≡ some u). idle j u x none)
    (λ (is : w ≡ u). subst (λ (d : Dealt). (d.left ≡ []) × (d.took ≡ [])) is
    (mine (ap (λ (d : Dealt). d.parts) is ∙ none)))
    (at_snoc views w u j e)

-- ---- what is of one pass

set_at : (views : List Dealt) (seat : ℕ) (v w : Dealt) → get_elem? views seat ≡ some v
    → get_elem? (set views seat w) seat ≡ some w
set_at [] seat v w at = absurd (some-ne-none v (sym at))
set_at (x ∷ views) zero v w at = refl
set_at (x ∷ views) (suc seat) v w at = set_at views seat v w at

none_among : (one : CallBack) → Contains [] one → ⊥
none_among one among = let within = among.1 in omega (arith, within)

module _ (f : Dealt → List CallBack) (one : CallBack) where
  -- it stays where this pass has no fewer
  still_of_one : (views : List Dealt) (seat : ℕ) (v w : Dealt) → get_elem? views seat ≡ some v
      → (Contains (f v) one → Contains (f w) one) → IsOfOne f views one → IsOfOne f (set views seat w) one
  still_of_one views seat v w at more of_one =
      dite (ℕ_discrete of_one.0 seat)
      (λ (is : of_one.0 ≡ seat). (
        seat,
        w,
        set_at views seat v w at,
        more (subst (λ (d : Dealt). Contains (f d) one)
            (some-injective of_one.1 v (sym of_one.2 ∙ ap (get_elem? views) is ∙ at)) of_one.3),
      ))
      (λ (apart : of_one.0 ≢ seat). (of_one.0, of_one.1, set_else views seat of_one.0 w apart ∙ of_one.2, of_one.3))

  -- and was there before, or this pass has it
  was_of_one : (views : List Dealt) (seat : ℕ) (w : Dealt) → IsOfOne f (set views seat w) one
      → IsOfOne f views one ⊎ Contains (f w) one
  was_of_one views seat w of_one =
      ⊎_elim
      (λ (x : (of_one.0 ≡ seat) × (w ≡ of_one.1)). inr (subst (λ (d : Dealt). Contains (f d) one) (sym x.1) of_one.3))
      (λ (x : (of_one.0 ≢ seat) × (get_elem? views of_one.0 ≡ some of_one.1)). inl (of_one.0, of_one.1, x.1, of_one.3))
      (at_set views seat of_one.0 w of_one.1 of_one.2)

  longer_of_one : (views : List Dealt) (w : Dealt) → IsOfOne f views one → IsOfOne f (views ++ w ∷ []) one
  longer_of_one views w of_one =
      (of_one.0, of_one.1, at_longer views (w ∷ []) of_one.0 of_one.1 of_one.2, of_one.3)

  shorter_of_one : (views : List Dealt) (w : Dealt) → f w ≡ [] → IsOfOne f (views ++ w ∷ []) one → IsOfOne f views one
  shorter_of_one views w none of_one =
      ⊎_elim
      (λ (x : get_elem? views of_one.0 ≡ some of_one.1). (of_one.0, of_one.1, x, of_one.3))
      (λ (is : w ≡ of_one.1). absurd (none_among one (subst (λ (l : List CallBack). Contains l one)
      (ap f (sym is) ∙ none) of_one.3)))
      (at_snoc views w of_one.1 of_one.0 of_one.2)

  -- One pass takes in what another has.
  moved : (views : List Dealt) (seat : ℕ) (v both : Dealt) (other : ℕ) (u spent : Dealt) → get_elem? views seat ≡ some v
      → get_elem? (set views seat both) other ≡ some u
      → get_elem? (set (set views seat both) other spent) seat ≡ some both
      → (Contains (f v) one → Contains (f both) one) → (Contains (f u) one → Contains (f both) one)
      → IsOfOne f views one → IsOfOne f (set (set views seat both) other spent) one
  moved views seat v both other u spent at there mine has' takes of_one =
      let now = still_of_one views seat v both at has' of_one in
      dite (ℕ_discrete now.0 other)
      (λ (is : now.0 ≡ other). (
        seat,
        both,
        mine,
        takes (subst (λ (d : Dealt). Contains (f d) one)
            (some-injective now.1 u (sym now.2 ∙ ap (get_elem? (set views seat both)) is ∙ there)) now.3),
      ))
      (λ (apart : now.0 ≢ other). (now.0, now.1, set_else (set views seat both) other now.0 spent apart ∙ now.2, now.3))

  -- Where one pass has all parts, it is of that.
  of_one_alone : (views : List Dealt) (seat : ℕ) (v : Dealt) → ((u : Dealt) → (u.left ≡ []) × (u.took ≡ []) → f u ≡ [])
      → IdleIsEmpty views → get_elem? views seat ≡ some v → total (λ u. u.parts) views ≡ v.parts
      → IsOfOne f views one → Contains (f v) one
  of_one_alone views seat v none idle at parts of_one =
      dite (ℕ_discrete of_one.0 seat)
      (λ (is : of_one.0 ≡ seat). subst (λ (d : Dealt). Contains (f d) one)
      (some-injective of_one.1 v (sym of_one.2 ∙ ap (get_elem? views) is ∙ at)) of_one.3)
      (λ (apart : of_one.0 ≢ seat).
      let spent = dealt 0 [] [] in
      let less = total_set (λ u. u.parts) views seat v spent at in
      let has = total_has (λ u. u.parts) (set views seat spent) of_one.0 of_one.1
      (set_else views seat of_one.0 spent apart ∙ of_one.2) in
      absurd (none_among one (subst (λ (l : List CallBack). Contains l one)
      (none of_one.1 (idle of_one.0 of_one.1 of_one.2 (omega (arith, less, has, parts)))) of_one.3)))

abbrev left_of : Dealt → List CallBack
left_of v = v.left

abbrev took_of : Dealt → List CallBack
took_of v = v.took

-- ---- the steps

idle_first : IdleIsEmpty (dealt_all ∷ [])
idle_first zero u e none =
    subst (λ (d : Dealt). (d.left ≡ []) × (d.took ≡ [])) (some-injective dealt_all u e) (refl, refl)
idle_first (suc seat) u e none = absurd (some-ne-none u (sym e))

none_first : (one : CallBack) (seat : ℕ) (v : Dealt) → get_elem? (dealt_all ∷ []) seat ≡ some v
    → Contains v.took one → ⊥
none_first one zero v at has = none_among one
    (subst (λ (d : Dealt). Contains d.took one) (sym (some-injective dealt_all v at)) has)
none_first one (suc seat) v at has = some-ne-none v (sym at)

pub begins : IsFair [] (dealt_all ∷ [])
begins = record {
  parts = omega arith;
  balanced = λ h. refl;
  idle = idle_first;
  among = λ one has. ⊎_elim
      (λ (x : IsOfOne took_of (dealt_all ∷ []) one). absurd (none_first one x.0 x.1 x.2 x.3))
      (λ (x : Contains [] one). absurd (none_among one x))
      has;
}

pub leaves : (n seat : ℕ) (v : Dealt) (one : CallBack) → 0 < v.parts → Pushes IsFair n seat v one (Leaves v one)
leaves n seat v one some_part items views room fair at =
    let w = dealt v.parts (v.left ++ one ∷ []) v.took in (
      w,
      record {
        parts = (let s = total_set (λ u. u.parts) views seat v w at in omega (arith, s)) ∙ fair.parts;
        balanced = λ h.
            let s = total_set (λ u. weigh h u.left) views seat v w at in
            let t = total_set (λ u. weigh h u.took) views seat v w at in
            let b = fair.balanced h in
            omega (arith, s, t, b, weigh_append h v.left (one ∷ []), weigh_append h items (one ∷ []));
        idle = idle_set views seat w (λ none. absurd (omega (arith, some_part, none))) fair.idle;
        among = λ x has.
            let old : IsOfOne took_of views x ⊎ Contains items x → IsOfOne left_of (set views seat w) x = λ was.
            still_of_one left_of x views seat v w at (Contains-append_left v.left (one ∷ []) x) (fair.among x was) in
            ⊎_elim
            (λ (took : IsOfOne took_of (set views seat w) x). ⊎_elim
            (λ (was : IsOfOne took_of views x). old (inl was))
            (λ (own : Contains v.took x). old (inl (seat, v, at, own)))
            (was_of_one took_of x views seat w took))
            (λ (waits : Contains (items ++ one ∷ []) x). ⊎_elim
            (λ (was : Contains items x). old (inr was))
            (λ (new : Contains (one ∷ []) x).
            (seat, w, set_at views seat v w at, Contains-append_right v.left (one ∷ []) x new))
            (Contains-append_cases items (one ∷ []) x waits))
            has;
      },
      refl,
    )

pub takes_over : (seat : ℕ) (v : Dealt) → 0 < v.parts → Pops IsFair seat v (TakesOver v)
takes_over seat v some_part one items views fair at =
    let w = dealt v.parts v.left (v.took ++ one ∷ []) in (
      w,
      record {
        parts = (let s = total_set (λ u. u.parts) views seat v w at in omega (arith, s)) ∙ fair.parts;
        balanced = λ h.
            let s = total_set (λ u. weigh h u.left) views seat v w at in
            let t = total_set (λ u. weigh h u.took) views seat v w at in
            let b = fair.balanced h in
            omega (arith, s, t, b, weigh_append h v.took (one ∷ []));
        idle = idle_set views seat w (λ none. absurd (omega (arith, some_part, none))) fair.idle;
        among = λ x has.
            let old : IsOfOne took_of views x ⊎ Contains (one ∷ items) x → IsOfOne left_of (set views seat w) x = λ was.
            still_of_one left_of x views seat v w at (λ own. own) (fair.among x was) in
            ⊎_elim
            (λ (took : IsOfOne took_of (set views seat w) x). ⊎_elim
            (λ (was : IsOfOne took_of views x). old (inl was))
            (λ (own : Contains (v.took ++ one ∷ []) x). ⊎_elim
            (λ (before : Contains v.took x). old (inl (seat, v, at, before)))
            (λ (new : Contains (one ∷ []) x). old (inr (Contains-append_left (one ∷ []) items x new)))
            (Contains-append_cases v.took (one ∷ []) x own))
            (was_of_one took_of x views seat w took))
            (λ (waits : Contains items x). old (inr (Contains-append_right (one ∷ []) items x waits)))
            has;
      },
      refl,
    )

weighs_none : (h : CallBack → ℕ) (u : Dealt) → (u.left ≡ []) × (u.took ≡ []) → weigh h u.left ≡ 0
weighs_none h u none = ap (weigh h) none.0

took_none : (h : CallBack → ℕ) (u : Dealt) → (u.left ≡ []) × (u.took ≡ []) → weigh h u.took ≡ 0
took_none h u none = ap (weigh h) none.1

left_none : (u : Dealt) → (u.left ≡ []) × (u.took ≡ []) → left_of u ≡ []
left_none u none = none.0

pub balances : (seat : ℕ) (v : Dealt) → Learns IsFair seat v (Balances v)
balances seat v items views fair at all =
    let parts = fair.parts ∙ sym all in (
      λ h.
          let left = total_alone (λ u. weigh h u.left) (weighs_none h) views seat v fair.idle at parts in
          let took = total_alone (λ u. weigh h u.took) (took_none h) views seat v fair.idle at parts in
          let b = fair.balanced h in omega (arith, left, took, b),
      λ one has. of_one_alone left_of one views seat v left_none fair.idle at parts (fair.among one (⊎_elim
          (λ (took : Contains v.took one). inl (seat, v, at, took))
          (λ (waits : Contains items one). inr waits)
          has)),
    )

pub cuts : (n seat : ℕ) (v : Dealt) → n < v.parts
    → Forks IsFair seat v (dealt (v.parts - n) v.left v.took) (dealt n [] [])
cuts n seat v more items views fair at =
    let w = dealt (v.parts - n) v.left v.took in
    let one = dealt n [] [] in
    let now = set views seat w in
    record {
      parts = (let s = total_set (λ u. u.parts) views seat v w at in
          omega (arith, s, more, total_snoc (λ u. u.parts) now one)) ∙ fair.parts;
      balanced = λ h.
          let s = total_set (λ u. weigh h u.left) views seat v w at in
          let t = total_set (λ u. weigh h u.took) views seat v w at in
          let b = fair.balanced h in
          omega (arith, s, t, b, total_snoc (λ u. weigh h u.left) now one, total_snoc (λ u. weigh h u.took) now one);
      idle = idle_snoc now one (λ none. (refl, refl))
          (idle_set views seat w (λ none. absurd (omega (arith, more, none))) fair.idle);
      among = λ x has.
          let old : IsOfOne took_of views x ⊎ Contains items x → IsOfOne left_of (now ++ one ∷ []) x = λ was.
          longer_of_one left_of x now one (still_of_one left_of x views seat v w at (λ own. own) (fair.among x was)) in
          ⊎_elim
          (λ (took : IsOfOne took_of (now ++ one ∷ []) x). ⊎_elim
          (λ (was : IsOfOne took_of views x). old (inl was))
          (λ (own : Contains v.took x). old (inl (seat, v, at, own)))
          (was_of_one took_of x views seat w (shorter_of_one took_of x now one refl took)))
          (λ (waits : Contains items x). old (inr waits))
          has;
    }

pub joins : (seat : ℕ) (v : Dealt) (other : ℕ) (u : Dealt) → 0 < v.parts
    → Merges IsFair seat v other u (dealt (v.parts + u.parts) (v.left ++ u.left) (v.took ++ u.took)) (dealt 0 [] [])
joins seat v other u some_part items views fair at apart there =
    let both = dealt (v.parts + u.parts) (v.left ++ u.left) (v.took ++ u.took) in
    let spent = dealt 0 [] [] in
    let now = set views seat both in
    record {
      parts = (let s = total_set (λ d. d.parts) views seat v both at in
          let t = total_set (λ d. d.parts) now other u spent there in omega (arith, s, t)) ∙ fair.parts;
      balanced = λ h.
          let s = total_set (λ d. weigh h d.left) views seat v both at in
          let t = total_set (λ d. weigh h d.left) now other u spent there in
          let p = total_set (λ d. weigh h d.took) views seat v both at in
          let q = total_set (λ d. weigh h d.took) now other u spent there in
          let b = fair.balanced h in
          omega (arith, s, t, p, q, b, weigh_append h v.left u.left, weigh_append h v.took u.took);
      idle = idle_set now other spent (λ none. (refl, refl))
          (idle_set views seat both (λ none. absurd (omega (arith, some_part, none))) fair.idle);
      among = λ x has.
          let was_there : get_elem? views other ≡ some u = sym (set_else views seat other both apart) ∙ there in
          let mine : get_elem? (set now other spent) seat ≡ some both =
          set_else now other seat spent (λ is. apart (sym is)) ∙ set_at views seat v both at in
          let old : IsOfOne took_of views x ⊎ Contains items x → IsOfOne left_of (set now other spent) x = λ was.
          moved left_of x views seat v both other u spent at there mine
          (Contains-append_left v.left u.left x) (Contains-append_right v.left u.left x) (fair.among x was) in
          ⊎_elim
          (λ (took : IsOfOne took_of (set now other spent) x). ⊎_elim
          (λ (first : IsOfOne took_of now x). ⊎_elim
          (λ (was : IsOfOne took_of views x). old (inl was))
          (λ (own : Contains (v.took ++ u.took) x). ⊎_elim
          (λ (one : Contains v.took x). old (inl (seat, v, at, one)))
          (λ (one : Contains u.took x). old (inl (other, u, was_there, one)))
          (Contains-append_cases v.took u.took x own))
          (was_of_one took_of x views seat both first))
          (λ (none : Contains [] x). absurd (none_among x none))
          (was_of_one took_of x now other spent took))
          (λ (waits : Contains items x). old (inr waits))
          has;
    }
