-- Each step keeps the rule of the queue between servers and a carrier.
use Rattle.std.proofs.Common.{◌≡◌, ◌≢◌, ◌<◌, ◌≤◌, ℕ, zero, suc, ◌+◌, ◌-◌, List, [], ◌∷◌, ◌++◌, set, refl, sym, ap, ◌∙◌, subst, ⊎_elim, arith}
use mathlib.Core.Option.{some, some-ne-none, some-injective}
use lib.ListN.{get_elem?}
use Rattle.crossbeam_queue.specs.Fifo.{Pushes, Pops, Forks, Merges, Learns}
use Rattle.crossbeam_queue.proofs.Lists.{at_set, at_snoc}
use Rattle.yp_worker.specs.datagrams.Mailing.{Deferred}
use Rattle.yp_worker.specs.datagrams.Queues.{weigh}
use Rattle.yp_worker.specs.inside.Queues.{Dealt, dealt, dealt_all, total, IdleIsEmpty, IsReady, AreReady, IsFair, Balances, Leaves, TakesOver}

pub weigh_append : (h : Deferred → ℕ) (xs ys : List Deferred) → weigh h (xs ++ ys) ≡ weigh h xs + weigh h ys
weigh_append h [] ys = omega arith
weigh_append h (x ∷ xs) ys = let more = weigh_append h xs ys in omega (arith, more)

ready_append : (maps : ℕ) (items : List Deferred) (one : Deferred) → AreReady maps items → IsReady maps one → AreReady maps (items ++ one ∷ [])
ready_append maps [] one ready is = (is, tt)
ready_append maps (x ∷ items) one ready is = (ready.0, ready_append maps items one ready.1 is)

-- ---- the total of one number of each pass

total_set : (f : Dealt → ℕ) (views : List Dealt) (seat : ℕ) (v w : Dealt) → get_elem? views seat ≡ some v
    → total f (set views seat w) + f v ≡ total f views + f w
total_set f [] seat v w at = absurd (some-ne-none v (sym at))
total_set f (x ∷ views) zero v w at = let same : f x ≡ f v = ap f (some-injective x v at) in omega (arith, same)
total_set f (x ∷ views) (suc seat) v w at = let more = total_set f views seat v w at in omega (arith, more)

total_snoc : (f : Dealt → ℕ) (views : List Dealt) (w : Dealt) → total f (views ++ w ∷ []) ≡ total f views + f w
total_snoc f [] w = omega arith
total_snoc f (x ∷ views) w = let more = total_snoc f views w in omega (arith, more)

-- one pass has no more than all
total_has : (f : Dealt → ℕ) (views : List Dealt) (seat : ℕ) (v : Dealt) → get_elem? views seat ≡ some v → f v ≤ total f views
total_has f [] seat v at = absurd (some-ne-none v (sym at))
total_has f (x ∷ views) zero v at = let same : f x ≡ f v = ap f (some-injective x v at) in omega (arith, same)
total_has f (x ∷ views) (suc seat) v at = let more = total_has f views seat v at in omega (arith, more)

-- Where one pass has all parts, no other has left or taken over any.
module _ (f : Dealt → ℕ) (none : (u : Dealt) → (u.left ≡ []) × (u.took ≡ []) → f u ≡ 0) where
  all_idle : (views : List Dealt) → IdleIsEmpty views → total (λ u. u.parts) views ≡ 0 → total f views ≡ 0
  all_idle [] idle parts = refl
  all_idle (x ∷ views) idle parts =
      let first : f x ≡ 0 = none x (idle 0 x refl (omega (arith, parts))) in
      let more = all_idle views (λ seat u at e. idle (suc seat) u at e) (omega (arith, parts)) in
      omega (arith, first, more)

  total_alone : (views : List Dealt) (seat : ℕ) (v : Dealt) → IdleIsEmpty views → get_elem? views seat ≡ some v
      → total (λ u. u.parts) views ≡ v.parts → total f views ≡ f v
  total_alone [] seat v idle at parts = absurd (some-ne-none v (sym at))
  total_alone (x ∷ views) zero v idle at parts =
      let is : x ≡ v = some-injective x v at in
      let more = all_idle views (λ seat u at e. idle (suc seat) u at e)
      (let p : x.parts ≡ v.parts = ap (λ (d : Dealt). d.parts) is in omega (arith, parts, p)) in
      let same : f x ≡ f v = ap f is in omega (arith, same, more)
  total_alone (x ∷ views) (suc seat) v idle at parts =
      let has = total_has (λ u. u.parts) views seat v at in
      let first : f x ≡ 0 = none x (idle 0 x refl (omega (arith, parts, has))) in
      let more = total_alone views seat v (λ seat u at e. idle (suc seat) u at e) at (omega (arith, parts, has)) in
      omega (arith, first, more)

-- ---- who has no part

idle_set : (views : List Dealt) (seat : ℕ) (w : Dealt) → (w.parts ≡ 0 → (w.left ≡ []) × (w.took ≡ []))
    → IdleIsEmpty views → IdleIsEmpty (set views seat w)
idle_set views seat w mine idle j u e none =
    ⊎_elim
    (λ (x : (j ≡ seat) × (w ≡ u)). subst (λ (d : Dealt). (d.left ≡ []) × (d.took ≡ [])) x.1
    (mine (ap (λ (d : Dealt). d.parts) x.1 ∙ none)))
    (λ (x : (j ≢ seat) × (get_elem? views j ≡ some u)). idle j u x.1 none)
    (at_set views seat j w u e)

idle_snoc : (views : List Dealt) (w : Dealt) → (w.parts ≡ 0 → (w.left ≡ []) × (w.took ≡ []))
    → IdleIsEmpty views → IdleIsEmpty (views ++ w ∷ [])
idle_snoc views w mine idle j u e none =
    ⊎_elim
    (λ (x : get_elem? views j ≡ some u). idle j u x none)
    (λ (is : w ≡ u). subst (λ (d : Dealt). (d.left ≡ []) × (d.took ≡ [])) is
    (mine (ap (λ (d : Dealt). d.parts) is ∙ none)))
    (at_snoc views w u j e)

-- ---- the steps

idle_first : IdleIsEmpty (dealt_all ∷ [])
idle_first zero u e none =
    subst (λ (d : Dealt). (d.left ≡ []) × (d.took ≡ [])) (some-injective dealt_all u e) (refl, refl)
idle_first (suc seat) u e none = absurd (some-ne-none u (sym e))

pub begins : (maps : ℕ) → IsFair maps [] (dealt_all ∷ [])
begins maps = record {
  parts = omega arith;
  balanced = λ h. refl;
  idle = idle_first;
  ready = tt;
}

pub leaves : (maps n seat : ℕ) (v : Dealt) (one : Deferred) → 0 < v.parts → IsReady maps one
    → Pushes (IsFair maps) n seat v one (Leaves v one)
leaves maps n seat v one some_part is items views room fair at =
    let w = dealt v.parts (v.left ++ one ∷ []) v.took in (
      w,
      record {
        parts = (let s = total_set (λ u. u.parts) views seat v w at in omega (arith, s)) ∙ fair.parts;
        balanced = λ h.
            let s = total_set (λ u. weigh h u.left) views seat v w at in
            let t = total_set (λ u. weigh h u.took) views seat v w at in
            let b = fair.balanced h in
            omega (arith, s, t, b, weigh_append h v.left (one ∷ []), weigh_append h items (one ∷ []));
        idle = idle_set views seat w (λ none. absurd (omega (arith, some_part, none))) fair.idle;
        ready = ready_append maps items one fair.ready is;
      },
      refl,
    )

pub takes_over : (maps seat : ℕ) (v : Dealt) → 0 < v.parts → Pops (IsFair maps) seat v (TakesOver maps v)
takes_over maps seat v some_part one items views fair at =
    let w = dealt v.parts v.left (v.took ++ one ∷ []) in (
      w,
      record {
        parts = (let s = total_set (λ u. u.parts) views seat v w at in omega (arith, s)) ∙ fair.parts;
        balanced = λ h.
            let s = total_set (λ u. weigh h u.left) views seat v w at in
            let t = total_set (λ u. weigh h u.took) views seat v w at in
            let b = fair.balanced h in
            omega (arith, s, t, b, weigh_append h v.took (one ∷ []));
        idle = idle_set views seat w (λ none. absurd (omega (arith, some_part, none))) fair.idle;
        ready = fair.ready.1;
      },
      (refl, fair.ready.0),
    )

weighs_none : (h : Deferred → ℕ) (u : Dealt) → (u.left ≡ []) × (u.took ≡ []) → weigh h u.left ≡ 0
weighs_none h u none = ap (weigh h) none.0

took_none : (h : Deferred → ℕ) (u : Dealt) → (u.left ≡ []) × (u.took ≡ []) → weigh h u.took ≡ 0
took_none h u none = ap (weigh h) none.1

pub balances : (maps seat : ℕ) (v : Dealt) → Learns (IsFair maps) seat v (Balances v)
balances maps seat v items views fair at all h =
    let parts = fair.parts ∙ sym all in
    let left = total_alone (λ u. weigh h u.left) (weighs_none h) views seat v fair.idle at parts in
    let took = total_alone (λ u. weigh h u.took) (took_none h) views seat v fair.idle at parts in
    let b = fair.balanced h in omega (arith, left, took, b)

pub cuts : (maps seat : ℕ) (v : Dealt) → 1 < v.parts
    → Forks (IsFair maps) seat v (dealt (v.parts - 1) v.left v.took) (dealt 1 [] [])
cuts maps seat v more items views fair at =
    let w = dealt (v.parts - 1) v.left v.took in
    let one = dealt 1 [] [] in
    let now = set views seat w in
    record {
      parts = (let s = total_set (λ u. u.parts) views seat v w at in
          omega (arith, s, more, total_snoc (λ u. u.parts) now one)) ∙ fair.parts;
      balanced = λ h.
          let s = total_set (λ u. weigh h u.left) views seat v w at in
          let t = total_set (λ u. weigh h u.took) views seat v w at in
          let b = fair.balanced h in
          omega (arith, s, t, b, total_snoc (λ u. weigh h u.left) now one, total_snoc (λ u. weigh h u.took) now one);
      idle = idle_snoc now one (λ none. (refl, refl))
          (idle_set views seat w (λ none. absurd (omega (arith, more, none))) fair.idle);
      ready = fair.ready;
    }

pub joins : (maps seat : ℕ) (v : Dealt) (other : ℕ) (u : Dealt) → 0 < v.parts
    → Merges (IsFair maps) seat v other u (dealt (v.parts + u.parts) (v.left ++ u.left) (v.took ++ u.took)) (dealt 0 [] [])
joins maps seat v other u some_part items views fair at apart there =
    let both = dealt (v.parts + u.parts) (v.left ++ u.left) (v.took ++ u.took) in
    let spent = dealt 0 [] [] in
    let now = set views seat both in
    record {
      parts = (let s = total_set (λ d. d.parts) views seat v both at in
          let t = total_set (λ d. d.parts) now other u spent there in omega (arith, s, t)) ∙ fair.parts;
      balanced = λ h.
          let s = total_set (λ d. weigh h d.left) views seat v both at in
          let t = total_set (λ d. weigh h d.left) now other u spent there in
          let p = total_set (λ d. weigh h d.took) views seat v both at in
          let q = total_set (λ d. weigh h d.took) now other u spent there in
          let b = fair.balanced h in
          omega (arith, s, t, p, q, b, weigh_append h v.left u.left, weigh_append h v.took u.took);
      idle = idle_set now other spent (λ none. (refl, refl))
          (idle_set views seat both (λ none. absurd (omega (arith, some_part, none))) fair.idle);
      ready = fair.ready;
    }
