-- What is built behind one version is built behind another.
use Rattle.std.proofs.Common.{◌≡◌, inl, inr, ℕ, ◌+◌, ◌≤◌, max, Bool, List, Option, Some, None, Result}
use Rattle.std.proofs.Common.{Ok, Err, if◌then◌else◌, arith, refl, sym, ◌∙◌, ap, subst}
use Rattle.std.specs.Option.{option_map_or}
use Rattle.std.proofs.lemmas.Bool.Decides.{eqb_tells}
use Rattle.yp_version.specs.Versions.{MapVersion}
use Rattle.yp_version.specs.Drafts.{empty_draft}
use Rattle.yp_texts.specs.declared.reading.Reading.{Reading}
use Rattle.yp_texts.specs.declared.fault.BuildFault.{BuildFault}
use Rattle.yp_texts.specs.declared.fault.BuildFault.TheVariants as fault
use Rattle.yp_texts.specs.Rows.{rows}
use Rattle.yp_texts.specs.Builds.{order_max, order_after, filled, built}
use Rattle.yp_texts.specs.After.{HasOther, other_master, last_order}
use Rattle.yp_texts.specs.After.{secured, secured_build, built_after, HasLaterOrder}
use Rattle.yp_texts.specs.inside.Laws.{BuiltIsBuiltBehind}
use Rattle.yp_texts.proofs.Orders.{filled_order}

-- a moment that is over the last order is the next one
order_stays : (last : Option MapVersion) (version : MapVersion) → version.order ≤ order_max → HasLaterOrder last version
    → order_after (last_order last) version.order ≡ Some version.order
order_stays None version most over = refl
order_stays (Some last) version most over = elim (eqb_tells last.order order_max) [
  | inl is ↦ let same : last.order ≡ order_max = is.1 in absurd (omega (arith, same, most, over))
  | inr isnt ↦
      let larger : max (last.order + 1) version.order ≡ version.order = omega (arith, over) in
      subst (λ (b : Bool). (if b then None else Some (max (last.order + 1) version.order)) ≡ Some version.order)
      (sym isnt.0) (ap (λ (n : ℕ). Some n) larger)
]

-- a version that is built is that of a draft with its order
built_filled : (reading : Reading) (text : List ℕ) (previous : Option ℕ) (now : ℕ) (master : List ℕ) (version : MapVersion)
    → built reading text previous now master ≡ Ok version
    → filled (empty_draft version.order master) (rows reading text) ≡ Ok version
built_filled reading text previous now master version h = builds (order_after previous now) h where
  builds : (order : Option ℕ)
      → option_map_or (λ o. filled (empty_draft o master) (rows reading text)) order (Err fault.OrderSpent) ≡ Ok version
      → filled (empty_draft version.order master) (rows reading text) ≡ Ok version
  builds None e = absurd (cc)
  builds (Some o) e =
      subst (λ (n : ℕ). filled (empty_draft n master) (rows reading text) ≡ Ok version)
      (filled_order (empty_draft o master) (rows reading text) version e) e

-- and is built behind any other, at the moment of its order
built_again : (reading : Reading) (text : List ℕ) (previous : Option ℕ) (now : ℕ) (master : List ℕ) (version : MapVersion)
    (last : Option MapVersion)
    → built reading text previous now master ≡ Ok version → version.order ≤ order_max → HasLaterOrder last version
    → built reading text (last_order last) version.order master ≡ Ok version
built_again reading text previous now master version last h most over =
    subst (λ (o : Option ℕ). option_map_or (λ n. filled (empty_draft n master) (rows reading text)) o (Err fault.OrderSpent)
    ≡ Ok version) (sym (order_stays last version most over)) (built_filled reading text previous now master version h)

pub built_is_built_behind : BuiltIsBuiltBehind
built_is_built_behind basis material version last h most own over =
    by_master (other_master basis.own basis.last) h where
      again : (next : MapVersion) → built basis.reading material.text (last_order basis.last) material.moment basis.own ≡ Ok next
          → secured basis.flag basis.last next ≡ version
          → built_after (record basis { last = last }) (record material { moment = version.order })
          ≡ Ok (secured basis.flag last version)
      again next e is =
          let order : next.order ≡ version.order = ap (λ (v : MapVersion). v.order) is in
          let more : next.order ≤ order_max = subst (λ (n : ℕ). n ≤ order_max) (sym order) most in
          let above : HasLaterOrder last next = subst (λ (v : MapVersion). HasLaterOrder last v) (sym is) over in
          let fresh = built_again basis.reading material.text (last_order basis.last) material.moment basis.own next last e more above in
          let at_order : built basis.reading material.text (last_order last) version.order basis.own ≡ Ok next =
          subst (λ (n : ℕ). built basis.reading material.text (last_order last) n basis.own ≡ Ok next) order fresh in
          let marked : secured basis.flag last next ≡ secured basis.flag last version =
          ap (λ (v : MapVersion). secured basis.flag last v) is in
          subst (λ (other : Option (List ℕ)). option_map_or (λ master. Err (HasOther master)) other
          (secured_build basis.flag last (built basis.reading material.text (last_order last) version.order basis.own))
          ≡ Ok (secured basis.flag last version)) (sym own)
          (ap (λ (r : Result MapVersion BuildFault). secured_build basis.flag last r) at_order
          ∙ ap (λ (v : MapVersion). Ok v) marked)

      by_build : (next : Result MapVersion BuildFault)
          → built basis.reading material.text (last_order basis.last) material.moment basis.own ≡ next
          → secured_build basis.flag basis.last next ≡ Ok version
          → built_after (record basis { last = last }) (record material { moment = version.order })
          ≡ Ok (secured basis.flag last version)
      by_build (Ok next) e is = again next e (cc)
      by_build (Err why) e is = absurd (cc)

      by_master : (other : Option (List ℕ))
          → option_map_or (λ master. Err (HasOther master)) other (secured_build basis.flag basis.last (built basis.reading material.text (last_order basis.last) material.moment basis.own)) ≡ Ok version
          → built_after (record basis { last = last }) (record material { moment = version.order })
          ≡ Ok (secured basis.flag last version)
      by_master (Some other) e = absurd (cc)
      by_master None e = by_build (built basis.reading material.text (last_order basis.last) material.moment basis.own) refl e
