-- What a host of the tests makes.
use Rattle.std.proofs.Common.{◌≡◌, inl, inr, ℕ, List, [], ◌∷◌, ◌++◌, Option, Some, None, Ok, refl, sym, ◌∙◌, ap, subst}
use Rattle.std.proofs.lemmas.List.{append-nil}
use Rattle.yp_messages.specs.declared.transfer.XfrStat.{XfrStat}
use Rattle.yp_messages.specs.declared.transfer.XfrStat.TheVariants.{Succ, Age, Nomap, Nodom, Rsrc, Rpc, Maddr, Yperr, Badargs, Dbm, File, Skew, Clear, Force, Xfrerr, Refused}
use Rattle.yp_version.specs.Versions.{MapVersion}
use Rattle.yp_board.specs.Logs.{Log, shown}
use Rattle.yp_board.specs.Views.{IsFront}
use Rattle.yp_texts.specs.declared.reading.Reading.{Reading}
use Rattle.yp_texts.specs.After.{Material, material_of, basis_of, other_master, built_after, HasLaterOrder}
use Rattle.yp_answer.specs.declared.make.Making.TheVariants.{Text}
use Rattle.yp_board.specs.Catalogues.{Catalogue}
use Rattle.yp_answer.specs.Causes.{IsCaused}
use Rattle.yp_answer.specs.session.Hosts.{Counts, counts_after}

pub front : (log : Log) → IsFront log log
front log = ([], sym (append-nil log))

-- the same names and versions have the same master of another, and the same build
pub other_so : {own name : List ℕ} {last now : Option MapVersion} {found : Option (List ℕ)} → own ≡ name → last ≡ now → found ≡ other_master own last → other_master name now ≡ found
other_so {own} {name} {last} o l e = ap (λ (v : Option MapVersion). other_master name v) (sym l) ∙ ap (λ (n : List ℕ). other_master n last) (sym o) ∙ sym e

pub built_so : {own name : List ℕ} {last now : Option MapVersion} (reading : Reading) (text : List ℕ) (moment : ℕ) (version : MapVersion) → own ≡ name → last ≡ now
    → built_after (basis_of reading own None last) (material_of text moment) ≡ Ok version → HasLaterOrder last version
    → (material : Material) × (built_after (basis_of reading name None now) material ≡ Ok version) × HasLaterOrder now version
built_so {own} {name} {last} {now} reading text moment version o l e over = (
  material_of text moment,
  subst (λ (v : Option MapVersion). built_after (basis_of reading name None v) (material_of text moment) ≡ Ok version) l
      (subst (λ (n : List ℕ). built_after (basis_of reading n None last) (material_of text moment) ≡ Ok version) o e),
  subst (λ (v : Option MapVersion). HasLaterOrder v version) l over,
)

-- a version that was built and is shown
pub shown_anew : (catalogue : Catalogue) (map : ℕ) (reading : Reading) (log : Log) (version : MapVersion) (new : Log)
    → (material : Material) × (built_after (basis_of reading catalogue.own None (shown map log)) material ≡ Ok version) × HasLaterOrder (shown map log) version
    → new ≡ log ++ (map, version) ∷ []
    → IsCaused (record { text = λ file. None; moment = None }) catalogue (record { map = map; making = Text reading }) Succ log new
shown_anew catalogue map reading log version new made is = record {
  version = version;
  before = log;
  entry = ([], is ∙ sym (append-nil (log ++ (map, version) ∷ [])));
  anew = record {
    log = log;
    begins = front log;
    goes_on = ((map, version) ∷ [], is);
    holds = record { material = made.0; of_told = record { text = tt; moment = tt }; built = made.1 };
  };
  over = record { log = log; begins = front log; goes_on = ((map, version) ∷ [], is); holds = made.2 };
}

-- another status than FILE counts nothing
pub uncounted : (counts : Counts) (stat : XfrStat) → (stat ≡ File → ⊥) → counts ≡ counts_after counts stat
uncounted counts File other = absurd (other refl)
uncounted counts Succ other = refl
uncounted counts Age other = refl
uncounted counts Nomap other = refl
uncounted counts Nodom other = refl
uncounted counts Rsrc other = refl
uncounted counts Rpc other = refl
uncounted counts Maddr other = refl
uncounted counts Yperr other = refl
uncounted counts Badargs other = refl
uncounted counts Dbm other = refl
uncounted counts Skew other = refl
uncounted counts Clear other = refl
uncounted counts Force other = refl
uncounted counts Xfrerr other = refl
uncounted counts Refused other = refl
