-- A version that was made is one that was built.
use Rattle.std.proofs.Common.{◌≡◌, ℕ, Bool, true, false, cond, List, [], ◌∷◌, Option, Some, None, Result, Ok, Err, refl, sym, ap, ◌∙◌, subst}
use Rattle.std.specs.Prelude.{IfSome, is_some}
use Rattle.std.specs.Option.{option_map_or}
use Rattle.yp_version.specs.Rows.{Row, listed, value_of}
use Rattle.yp_version.specs.Versions.{MapVersion}
use Rattle.yp_version.specs.Drafts.{Draft, empty_draft, with_row, with_new, with_rows}
use Rattle.yp_board.specs.Logs.{Log, shown}
use Rattle.yp_texts.specs.declared.reading.Reading.{Reading}
use Rattle.yp_texts.specs.declared.fault.BuildFault.{BuildFault}
use Rattle.yp_texts.specs.declared.fault.BuildFault.TheVariants.{OrderSpent}
use Rattle.yp_texts.specs.Builds.{order_after, finished}
use Rattle.yp_texts.specs.Pushes.{plain, first_fault}
use Rattle.yp_texts.specs.Rows.{rows}
use Rattle.yp_texts.specs.Readings.{reading_of, source_of}
use Rattle.yp_texts.specs.After.{Material, Hindrance, HasOther, basis_of, other_master, last_order, secured, secured_build, built_after}
use Rattle.yp_netgroup.specs.declared.reverse.field.Field.{Field}
use Rattle.yp_answer.specs.declared.make.Making.{Making}
use Rattle.yp_answer.specs.declared.make.Making.TheVariants.{Text, Netgroups}
use Rattle.yp_answer.specs.declared.make.MakeJob.{MakeJob}
use Rattle.yp_answer.specs.Make.{map_name, field_named, making_of, netgroups_at}
use Rattle.yp_answer.specs.Causes.{Told, IsMadeOf, matter_of, IsAnew, task_of}
use Rattle.yp_headline.specs.World.{World}
use Rattle.yp_headline.specs.Texts.{text_rows}
use Rattle.yp_headline.specs.Listing.{AreListed}
use Rattle.yp_headline.proofs.Listing.{listed_is}
use Rattle.yp_headline.proofs.Texts.{plain_rows}
use Rattle.yp_headline.specs.Publishing.{IsBuilt}

-- ---- drafts

row_keeps : (b : Bool) (draft : Draft) (row : Row) → ((cond b draft (with_new draft row)).order ≡ draft.order)
    × ((cond b draft (with_new draft row)).master ≡ draft.master)
row_keeps true draft row = (refl, refl)
row_keeps false draft row = (refl, refl)

pub rows_keep : (rows : List Row) (draft : Draft) → ((with_rows draft rows).order ≡ draft.order)
    × ((with_rows draft rows).master ≡ draft.master)
rows_keep [] draft = (refl, refl)
rows_keep (row ∷ rows) draft =
    let one = row_keeps (is_some (value_of row.0 draft.rows)) draft row in
    let rest = rows_keep rows (with_row draft row) in
    (rest.0 ∙ one.0, rest.1 ∙ one.1)

-- ---- what a build gave

no_other : (other : Option (List ℕ)) (later : Result MapVersion Hindrance) (version : MapVersion)
    → option_map_or (λ master. Err (HasOther master)) other later ≡ Ok version → (other ≡ None) × (later ≡ Ok version)
no_other None later version is = (refl, is)
no_other (Some master) later version is = absurd cc

unsecured_build : (flag : Option Bool) (last : Option MapVersion) (result : Result MapVersion BuildFault) (version : MapVersion)
    → secured_build flag last result ≡ Ok version → (plain : MapVersion) × (result ≡ Ok plain) × (secured flag last plain ≡ version)
unsecured_build flag last (Ok plain) version is = (plain, refl, cc)
unsecured_build flag last (Err fault) version is = absurd cc

with_order : (order : Option ℕ) (make : ℕ → Result MapVersion BuildFault) (version : MapVersion)
    → option_map_or make order (Err OrderSpent) ≡ Ok version → (some : ℕ) × (order ≡ Some some) × (make some ≡ Ok version)
with_order None make version is = absurd cc
with_order (Some order) make version is = (order, refl, is)

no_fault : (fault : Option BuildFault) (done version : MapVersion)
    → (let given : Result MapVersion BuildFault = option_map_or (λ f. Err f) fault (Ok done) in given) ≡ Ok version → done ≡ version
no_fault None done version is = cc
no_fault (Some fault) done version is = absurd cc

-- what is said of a version that a text made
pub record FromText (reading : Reading) (own : List ℕ) (last : Option MapVersion) (text : List ℕ) (moment : ℕ)
    (version : MapVersion) : Type 0 where
  pub master : version.master ≡ own
  pub of_own : other_master own last ≡ None
  pub order : order_after (last_order last) moment ≡ Some version.order
  pub rows_are : AreListed (text_rows reading text) version.rows

pub from_text : (reading : Reading) (own : List ℕ) (flag : Option Bool) (last : Option MapVersion) (material : Material)
    (version : MapVersion) → built_after (basis_of reading own flag last) material ≡ Ok version
    → FromText reading own last material.text material.moment version
from_text reading own flag last material version is =
    let a = no_other (other_master own last) _ version is in
    let b = unsecured_build flag last _ version a.1 in
    let c = with_order (order_after (last_order last) material.moment) _ b.0 b.1 in
    let draft = with_rows (empty_draft c.0 own) (plain (rows reading material.text)) in
    let done : finished draft ≡ b.0 =
    no_fault (first_fault (empty_draft c.0 own) (rows reading material.text)) (finished draft) b.0 c.2 in
    let kept = rows_keep (plain (rows reading material.text)) (empty_draft c.0 own) in
    let order : version.order ≡ c.0 = ap (λ (v : MapVersion). v.order) (sym b.2) ∙ ap (λ (v : MapVersion). v.order) (sym done) ∙ kept.0 in
    let master : version.master ≡ own =
    ap (λ (v : MapVersion). v.master) (sym b.2) ∙ ap (λ (v : MapVersion). v.master) (sym done) ∙ kept.1 in
    let made : version.rows ≡ listed draft.rows =
    ap (λ (v : MapVersion). v.rows) (sym b.2) ∙ ap (λ (v : MapVersion). v.rows) (sym done) in
    record {
      master = master;
      of_own = a.0;
      order = c.1 ∙ ap (λ (n : ℕ). Some n) (sym order);
      rows_are = subst (λ (l : List Row). AreListed l version.rows) (plain_rows reading material.text)
          (listed_is c.0 own (plain (rows reading material.text)) version.rows made);
    }

-- ---- a map that was made

named_text : (name : List ℕ) (reading : Reading) (field : Option Field) → field ≡ None
    → Text reading ≡ option_map_or (λ f. Netgroups f) field (Text (reading_of name)) → reading ≡ reading_of name
named_text name reading None none is = cc
named_text name reading (Some field) none is = absurd cc

named_netgroups : (name : List ℕ) (by : Field) (field : Option Field) → field ≡ None
    → Netgroups by ≡ option_map_or (λ f. Netgroups f) field (Text (reading_of name)) → ⊥
named_netgroups name by None none is = cc
named_netgroups name by (Some field) none is = cc

text_told : (told : Option (List ℕ)) (reading : Reading) (version : MapVersion) (text : List ℕ)
    → AreListed (text_rows reading text) version.rows
    → IfSome told (λ known. text ≡ known)
    → IfSome told (λ known. AreListed (text_rows reading known) version.rows)
text_told None reading version text is told = tt
text_told (Some known) reading version text is told =
    subst (λ (t : List ℕ). AreListed (text_rows reading t) version.rows) told is

module _ (world : World) (number : ℕ) (log : Log) (version : MapVersion) (told : Told)
    (reads : world.reading ≡ reading_of) (texts : told.text ≡ world.text) where
  abbrev name : List ℕ
  name = map_name number world.catalogue

  built_by : (making : Making) (netgroups : Option MapVersion) → making ≡ making_of name
      → IsMadeOf told (matter_of making name netgroups) world.catalogue.own (shown number log) version
      → IsBuilt world number log version
  built_by (Netgroups field) None named made = absurd made
  built_by (Netgroups field) (Some netgroups) named made = record {
    moment = made.moment;
    master = ap (λ (v : MapVersion). v.master) made.is;
    of_own = made.of_own;
    order = made.next;
    rows = λ none. absurd (named_netgroups name field (field_named name) none named);
  }
  built_by (Text reading) netgroups named made =
      let from = from_text reading world.catalogue.own None (shown number log) made.material version made.built in
      record {
        moment = made.material.moment;
        master = from.master;
        of_own = from.of_own;
        order = from.order;
        rows = λ none.
            let same : reading ≡ world.reading name = named_text name reading (field_named name) none named
            ∙ ap (λ (f : List ℕ → Reading). f name) (sym reads) in
            let P : Reading → Type 0 = λ r. IfSome (world.text (source_of r name)) (λ text. AreListed (text_rows r text) version.rows) in
            subst P same (text_told (world.text (source_of reading name)) reading version made.material.text from.rows_are
            (subst (λ (f : List ℕ → Option (List ℕ)). IfSome (f (source_of reading name)) (λ text. made.material.text ≡ text))
            texts made.of_told.text));
      }

  pub made_built : (job : MakeJob) (at : Log) → job.map ≡ number
      → job.making ≡ making_of (map_name job.map world.catalogue)
      → IsAnew told (task_of world.catalogue job at (shown number log)) version → IsBuilt world number log version
  made_built job at of_map named anew =
      let P : ℕ → Type 0 = λ n. IsMadeOf told (matter_of job.making (map_name n world.catalogue) (netgroups_at world.catalogue job at))
      world.catalogue.own (shown number log) version in
      built_by job.making (netgroups_at world.catalogue job at)
      (named ∙ ap (λ (n : ℕ). making_of (map_name n world.catalogue)) of_map) (subst P of_map anew)
