use Rattle.std.proofs.Common.{ℕ, List, [], Option, sym}
use Rattle.std.proofs.lemmas.List.{append-nil}
use Rattle.yp_version.specs.Versions.{MapVersion}
use Rattle.yp_board.specs.Logs.{Log}
use Rattle.yp_publisher.specs.declared.install.Origin.{Origin}
use Rattle.yp_publisher.specs.declared.install.Origin.TheVariants.{Built, Fetched}
use Rattle.yp_publisher.specs.sharing.Sources.{Building}
use Rattle.yp_publisher.specs.inside.sharing.Sources.{marked_behind, IsBuiltThere}
use Rattle.yp_publisher_tests.proofs.shared.installs.play.Goals as goal

-- where whatever is offered as built is
there : (Is : Building) (log : Log) (number : ℕ) (own : List ℕ) (version : MapVersion) (origin : Origin)
    → ((at : Log) (n : ℕ) (last : Option MapVersion) (v : MapVersion) → Is at n last v) → IsBuiltThere Is log number own version origin
there Is log number own version Built any =
    (log, ([], sym (append-nil log)), λ last follows. any log number last (marked_behind version last))
there Is log number own version Fetched any = tt

pub install_shared-requires-clause-built : goal.install_shared-requires-clause-built
install_shared-requires-clause-built g c =
    there g.S.Accounts.built _ 0 g.S.Site.catalogue.own c.version-version.result c.args.row.now.0 c.requires.any
