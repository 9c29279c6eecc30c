-- Workers that are made one after the other.
use Rattle.std.proofs.Common.{◌≡◌, ℕ, zero, suc, ◌+◌, List, [], ◌∷◌, ◌++◌, length, reverse, sym, ap, ◌∙◌, append_assoc, arith}
use Rattle.std.specs.List.{AllZip}
use Rattle.std.proofs.lemmas.List.{append-nil, reverse-append}
use Rattle.yp_worker.specs.inside.Receptions.{Passed}
use Rattle.yp_server.specs.declared.workers.ServerWorker.{ServerWorker}
use Rattle.yp_server.specs.declared.workers.ServerWorker.TheVariants.{Connections}
use Rattle.yp_server.specs.inside.Workers.{connections_of}

pub zip_more : {A B : Type 0} (R : A → B → Type 0) (xs : List A) (ys : List B) (x : A) (y : B) → AllZip R xs ys → R x y
    → AllZip R (xs ++ x ∷ []) (ys ++ y ∷ [])
zip_more R [] [] x y zip one = (one, tt)
zip_more R [] (b ∷ ys) x y zip one = absurd zip
zip_more R (a ∷ xs) [] x y zip one = absurd zip
zip_more R (a ∷ xs) (b ∷ ys) x y zip one = (zip.0, zip_more R xs ys x y zip.1 one)

-- one more of a list that is turned round was taken
pub one_more_inbox : {I : Type 0} (done all front whole : List I) (inbox : I) → all ≡ front ++ inbox ∷ []
    → done ++ reverse all ≡ whole → (done ++ inbox ∷ []) ++ reverse front ≡ whole
one_more_inbox done all front whole inbox is before =
    append_assoc done (inbox ∷ []) (reverse front)
    ∙ ap (λ (l : List _). done ++ l) (sym (reverse-append front (inbox ∷ [])))
    ∙ ap (λ (l : List _). done ++ reverse l) (sym is) ∙ before

-- all of it was taken
pub all_inboxes : {I : Type 0} (done all whole : List I) → length all ≡ 0 → done ++ reverse all ≡ whole → done ≡ whole
all_inboxes done [] whole none is = sym (append-nil done) ∙ is
all_inboxes done (x ∷ xs) whole none is = absurd (omega (arith, none))

module _ {J E H G I R M F N : Type 0} where
  -- one of the workers of connections that are still to come has come
  pub one_of_those : (held one : Passed) (now new whole : List (ServerWorker J E H F G I R M F N)) (before after : ℕ) → before ≡ after + 1
      → now ++ connections_of before held ≡ whole → new ≡ now ++ Connections one ∷ [] → one ≡ held
      → new ++ connections_of after held ≡ whole
  one_of_those held one now new whole before after count was is same =
      let more : suc after ≡ before = omega (arith, count) in
      ap (λ (l : List (ServerWorker J E H F G I R M F N)). l ++ connections_of after held) (is ∙ ap (λ (h : Passed). now ++ Connections h ∷ []) same)
      ∙ append_assoc now (Connections held ∷ []) (connections_of after held)
      ∙ ap (λ (n : ℕ). now ++ connections_of n held) more
      ∙ was

  -- all of them have come
  pub none_to_come : (held : Passed) (now whole : List (ServerWorker J E H F G I R M F N)) (left : ℕ) → left ≡ 0
      → now ++ connections_of left held ≡ whole → now ≡ whole
  none_to_come held now whole zero none is = sym (append-nil now) ∙ is
  none_to_come held now whole (suc n) none is = absurd (omega (arith, none))
