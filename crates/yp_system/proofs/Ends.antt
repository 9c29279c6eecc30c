-- Lists that grow at their ends.
use Rattle.std.proofs.Common.{List, [], ◌∷◌, ◌++◌, All}
use Rattle.std.proofs.lemmas.List.Elements.{All-push}

-- what holds of each and of one more holds of all of them
pub and_one_more : {X : Type 0} (P : X → Type 0) (xs : List X) (x : X) → All P xs → P x → All P (xs ++ x ∷ [])
and_one_more P xs x all one = All-push P xs x all one
