-- Why a map that is made of a text or of netgroups has its status, and what is made behind another version.
use Rattle.std.proofs.Common.{◌≡◌, inl, inr, ℕ, ◌+◌, ◌≤◌, max, Bool, List, Option, Some, None, Err, IfSome, if◌then◌else◌, refl, sym, ap, subst, arith}
use Rattle.std.proofs.lemmas.Bool.Decides.{eqb_tells}
use Rattle.yp_version.specs.Versions.{MapVersion}
use Rattle.yp_board.specs.Catalogues.{Catalogue}
use Rattle.yp_board.specs.Logs.{Log, shown}
use Rattle.yp_board.specs.Views.{IsFront}
use Rattle.yp_texts.specs.declared.reading.Reading.{Reading}
use Rattle.yp_texts.specs.Builds.{order_max, order_after}
use Rattle.yp_texts.specs.Readings.{source_of}
use Rattle.yp_texts.specs.After.{HasFault, basis_of, other_master, last_order, was_secure, built_after, HasLaterOrder}
use Rattle.yp_texts.specs.inside.Laws.{BuiltIsBuiltBehind}
use Rattle.yp_publisher.specs.inside.sharing.Sources.{marked_behind}
use Rattle.yp_answer.specs.declared.make.Making.{Making}
use Rattle.yp_answer.specs.declared.make.Making.TheVariants.{Text, Netgroups}
use Rattle.yp_answer.specs.declared.make.MakeJob.{MakeJob}
use Rattle.yp_answer.specs.Make.{map_name, netgroups_at}
use Rattle.yp_answer.specs.Causes.{Told, Matter, OfText, OfNetgroups, IsMadeOf, HasBadLine, HasBadRowOf, HasBadRow, RowIsBad, NetgroupsAreMissing, matter_of}
use Rattle.yp_host.specs.Anew.{NoneAreShown}

-- ---- why none is made

bad_line : (told : Told) (served : Catalogue) (job : MakeJob) (reading : Reading) (name : List ℕ) (log : Log)
    (bad : HasBadLine told reading name served.own (shown job.map log)) (text : Option (List ℕ))
    → IfSome text (λ known. bad.material.text ≡ known) → IfSome text (HasBadRow served job reading)
bad_line told served job reading name log bad None h = tt
bad_line told served job reading name log bad (Some text) h = record {
  log = log;
  moment = bad.material.moment;
  fault = bad.fault;
  of_row = bad.of_row;
  refused = subst (λ (t : List ℕ). built_after (basis_of reading served.own None (shown job.map log)) (record { text = t; moment = bad.material.moment }) ≡ Err (HasFault bad.fault)) h bad.cause;
}

pub row_is_bad : (told : Told) (served : Catalogue) (job : MakeJob) (making : Making) (old log new : Log) → IsFront old log → IsFront log new
    → HasBadRowOf told (matter_of making (map_name job.map served) (netgroups_at served job log)) served.own (shown job.map log)
    → RowIsBad told served job making old new
row_is_bad told served job (Text reading) old log new begins goes_on bad =
    let name = source_of reading (map_name job.map served) in bad_line told served job reading name log bad (told.text name) bad.of_told.text
row_is_bad told served job (Netgroups field) old log new begins goes_on bad =
    record { log = log; begins = begins; goes_on = goes_on; holds = bad }

pub none_shown : (served : Catalogue) (job : MakeJob) (making : Making) (old log new : Log) → IsFront old log → IsFront log new
    → NoneAreShown (matter_of making (map_name job.map served) (netgroups_at served job log))
    → NetgroupsAreMissing served job making old new
none_shown served job (Text reading) old log new begins goes_on none = absurd none
none_shown served job (Netgroups field) old log new begins goes_on none =
    record { log = log; begins = begins; goes_on = goes_on; holds = none }

-- ---- what is made behind another version

-- a moment that is over the last order is the next one
order_stays : (last : Option MapVersion) (version : MapVersion) → version.order ≤ order_max → HasLaterOrder last version
    → order_after (last_order last) version.order ≡ Some version.order
order_stays None version most over = refl
order_stays (Some last) version most over = elim (eqb_tells last.order order_max) [
  | inl is ↦ let same : last.order ≡ order_max = is.1 in absurd (omega (arith, same, most, over))
  | inr isnt ↦
      let larger : max (last.order + 1) version.order ≡ version.order = omega (arith, over) in
      subst (λ (b : Bool). (if b then None else Some (max (last.order + 1) version.order)) ≡ Some version.order)
      (sym isnt.0) (ap (λ (n : ℕ). Some n) larger)
]

-- an order that is the next one is later
pub later_order : (last : Option MapVersion) (moment : ℕ) (version : MapVersion) → order_after (last_order last) moment ≡ Some version.order
    → HasLaterOrder last version
later_order None moment version next = tt
later_order (Some last) moment version next = elim (eqb_tells last.order order_max) [
  | inl is ↦
      let none : None ≡ Some version.order =
      subst (λ (b : Bool). (if b then None else Some (max (last.order + 1) moment)) ≡ Some version.order) is.0 next in absurd cc
  | inr isnt ↦
      let some : Some (max (last.order + 1) moment) ≡ Some version.order =
      subst (λ (b : Bool). (if b then None else Some (max (last.order + 1) moment)) ≡ Some version.order) isnt.0 next in
      let same : max (last.order + 1) moment ≡ version.order = cc in omega (arith, same)
]

pub made_behind : BuiltIsBuiltBehind → (told : Told) → told.moment ≡ None → (matter : Matter) (own : List ℕ) (before last : Option MapVersion)
    (version : MapVersion) → IsMadeOf told matter own before version → version.order ≤ order_max → other_master own last ≡ None
    → HasLaterOrder last version → IsMadeOf told matter own last (marked_behind version last)
made_behind law told none (OfText reading name) own before last version made most same over = record {
  material = record made.material { moment = version.order };
  of_told = record { text = made.of_told.text; moment = subst (λ (o : Option ℕ). IfSome o (λ known. version.order ≡ known)) (sym none) tt };
  built = law (basis_of reading own None before) made.material version last made.built most same over;
}
made_behind law told none (OfNetgroups field None) own before last version made most same over = absurd made
made_behind law told none (OfNetgroups field (Some netgroups)) own before last version made most same over = record {
  moment = version.order;
  of_told = subst (λ (o : Option ℕ). IfSome o (λ known. version.order ≡ known)) (sym none) tt;
  of_own = same;
  next = order_stays last version most over;
  is = ap (λ (v : MapVersion). record v { secure = was_secure last }) made.is;
  reverse = made.reverse;
  fits = made.fits;
}
