-- What a reader learns.
use Rattle.std.proofs.Common.{◌≡◌, ℕ, List, [], Result, Ok, Err, OnOk, OnErr, refl, sym, ◌∙◌, ap, subst}
use Rattle.std.proofs.lemmas.List.{append-nil}
use Rattle.yp_version.specs.Versions.{MapVersion}
use Rattle.yp_board.specs.Logs.{Log}
use Rattle.yp_board.specs.Views.{Seen, IsFront}
use Rattle.yp_publisher.specs.declared.install.Origin.{Origin}
use Rattle.yp_publisher.specs.declared.install.Origin.TheVariants.{Built, Fetched}
use Rattle.yp_publisher.specs.sharing.Shares.{Learns}
use Rattle.yp_publisher.specs.sharing.Sources.{Building}
use Rattle.yp_publisher.specs.inside.sharing.Sources.{IsBuiltThere}
use Rattle.yp_publisher.proofs.Growing.{front_then}

-- what it is told
pub learned : (old new : Seen) (log : Log) → IsFront old.known log → new ≡ record old { known = log } → Learns old new
learned old new log front told =
    let knows = ap (λ (s : Seen). s.known) told in record {
      same = told ∙ ap (λ (l : Log). record old { known = l }) (sym knows);
      grown = subst (λ (l : Log). IsFront old.known l) (sym knows) front;
    }

-- what it is told, or nothing
pub told_or_not : {T E V : Type 0} (r : Result T E) (seen : V → Seen) (old new : V) (log : Log) → IsFront (seen old).known log
    → OnOk r (seen new ≡ record (seen old) { known = log }) → OnErr r (new ≡ old) → Learns (seen old) (seen new)
told_or_not (Ok done) seen old new log front told same = learned (seen old) (seen new) log front told
told_or_not {T} {E} {V} (Err fault) seen old new log front told same =
    subst (λ (v : V). Learns (seen old) (seen v)) (sym same) (record { same = refl; grown = ([], sym (append-nil (seen old).known)) })

-- what is installed was built of what was shown up to a later log, too
pub there_later : (Is : Building) (old new : Log) (number : ℕ) (own : List ℕ) (version : MapVersion) (origin : Origin)
    → IsFront old new → IsBuiltThere Is old number own version origin → IsBuiltThere Is new number own version origin
there_later Is old new number own version Built front built = (built.0, front_then built.0 old new built.1 front, built.2)
there_later Is old new number own version Fetched front built = tt
