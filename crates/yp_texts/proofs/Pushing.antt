-- Rows that are pushed in turn, in parts.
use Rattle.std.proofs.Common.{◌≡◌, ℕ, ◌⊎◌, inl, inr, List, [], ◌∷◌, ◌++◌, take, append_assoc, append-nil, refl, sym, ap}
use Rattle.std.proofs.Common.{subst, ◌∙◌}
use Rattle.std.specs.Prelude.{Option, Some, None}
use Rattle.std.specs.Option.{option_map_or}
use Rattle.yp_version.specs.Drafts.{Draft, refused, with_row, with_rows}
use Rattle.yp_version.specs.declared.builder.VersionFault.{VersionFault}
use Rattle.yp_texts.specs.declared.fault.BuildFault.{BuildFault}
use Rattle.yp_texts.specs.declared.fault.BuildFault.TheVariants.{NoMemory}
use Rattle.yp_texts.specs.Rows.{LineRow}
use Rattle.yp_texts.specs.Pushes.{fault_at, plain, first_fault}
use Rattle.yp_texts.specs.inside.Pushes.{Pushed, Stopped}

first_fault-step : (line : ℕ) (refusal : Option VersionFault) (later later' : Option BuildFault)
    → option_map_or (λ fault. Some (fault_at line fault)) refusal later ≡ None → (later ≡ None → later' ≡ later')
    → option_map_or (λ fault. Some (fault_at line fault)) refusal later' ≡ later'
first_fault-step line None later later' none same = refl
first_fault-step line (Some fault) later later' none same = cc

first_fault-later : (line : ℕ) (refusal : Option VersionFault) (later : Option BuildFault)
    → option_map_or (λ fault. Some (fault_at line fault)) refusal later ≡ None → later ≡ None
first_fault-later line None later none = none
first_fault-later line (Some fault) later none = cc

pub first_fault-append : (draft : Draft) (xs ys : List LineRow) → first_fault draft xs ≡ None
    → first_fault draft (xs ++ ys) ≡ first_fault (with_rows draft (plain xs)) ys
first_fault-append draft [] ys none = refl
first_fault-append draft (row ∷ xs) ys none =
    first_fault-step row.0 (refused draft row.1) (first_fault (with_row draft row.1) xs)
    (first_fault (with_row draft row.1) (xs ++ ys)) none (λ _. refl)
    ∙ first_fault-append (with_row draft row.1) xs ys
    (first_fault-later row.0 (refused draft row.1) (first_fault (with_row draft row.1) xs) none)

pub with_rows-append : (draft : Draft) (xs ys : List LineRow)
    → with_rows draft (plain (xs ++ ys)) ≡ with_rows (with_rows draft (plain xs)) (plain ys)
with_rows-append draft [] ys = refl
with_rows-append draft (row ∷ xs) ys = with_rows-append (with_row draft row.1) xs ys

pub pushed-start : (draft : Draft) (rows : List LineRow) → Pushed draft rows rows draft
pushed-start draft rows = record { before = []; parts = refl; fits = refl; stands = refl }

pub pushed-more : (draft : Draft) (rows more left : List LineRow) (now next : Draft)
    → Pushed draft rows (more ++ left) now → first_fault now more ≡ None → next ≡ with_rows now (plain more)
    → Pushed draft rows left next
pushed-more draft rows more left now next so_far none e = record {
  before = so_far.before ++ more;
  parts = so_far.parts ∙ sym (append_assoc so_far.before more left);
  fits = first_fault-append draft so_far.before more so_far.fits
      ∙ ap (λ (d : Draft). first_fault d more) (sym so_far.stands) ∙ none;
  stands = e ∙ ap (λ (d : Draft). with_rows d (plain more)) so_far.stands
      ∙ sym (with_rows-append draft so_far.before more);
}

still_first : (draft : Draft) (xs ys : List LineRow) (fault : BuildFault) → first_fault draft (take 1 xs) ≡ Some fault
    → first_fault draft (take 1 (xs ++ ys)) ≡ Some fault
still_first draft [] ys fault h = cc
still_first draft (row ∷ xs) ys fault h = h

still_cause : (draft : Draft) (xs ys : List LineRow) (fault : BuildFault)
    → (fault ≡ NoMemory) ⊎ (first_fault draft (take 1 xs) ≡ Some fault)
    → (fault ≡ NoMemory) ⊎ (first_fault draft (take 1 (xs ++ ys)) ≡ Some fault)
still_cause draft xs ys fault (inl memory) = inl memory
still_cause draft xs ys fault (inr first) = inr (still_first draft xs ys fault first)

pub pushed-stopped : (draft : Draft) (rows more left : List LineRow) (now next : Draft) (fault : BuildFault)
    → Pushed draft rows (more ++ left) now → Stopped now more next fault → Stopped draft rows next fault
pushed-stopped draft rows more left now next fault so_far stopped =
    let so_far' : Pushed draft rows (stopped.before ++ (stopped.after ++ left)) now = record {
      before = so_far.before;
      parts = so_far.parts ∙ ap (λ xs. so_far.before ++ xs) (ap (λ xs. xs ++ left) stopped.parts
          ∙ append_assoc stopped.before stopped.after left);
      fits = so_far.fits;
      stands = so_far.stands;
    } in
    let whole : Pushed draft rows (stopped.after ++ left) next =
    pushed-more draft rows stopped.before (stopped.after ++ left) now next so_far' stopped.fits stopped.stands in
    record {
      before = whole.before;
      after = stopped.after ++ left;
      parts = whole.parts;
      fits = whole.fits;
      stands = whole.stands;
      cause = still_cause next stopped.after left fault stopped.cause;
    }

-- where memory ran out before the next row was pushed
pub pushed-no_memory : (draft : Draft) (rows left : List LineRow) (now : Draft) → Pushed draft rows left now
    → Stopped draft rows now NoMemory
pushed-no_memory draft rows left now so_far = record {
  before = so_far.before;
  after = left;
  parts = so_far.parts;
  fits = so_far.fits;
  stands = so_far.stands;
  cause = inl refl;
}

pub pushed-end : (draft : Draft) (rows : List LineRow) (now : Draft) → Pushed draft rows [] now
    → (first_fault draft rows ≡ None) × (now ≡ with_rows draft (plain rows))
pushed-end draft rows now whole =
    let all : rows ≡ whole.before = whole.parts ∙ append-nil whole.before in (
      ap (first_fault draft) all ∙ whole.fits,
      whole.stands
          ∙ ap (λ (xs : List LineRow). with_rows draft (plain xs)) (sym all),
    )

first_alone : (line : ℕ) (refusal : Option VersionFault) (later : Option BuildFault) (fault : BuildFault)
    → option_map_or (λ fault. Some (fault_at line fault)) refusal None ≡ Some fault
    → option_map_or (λ fault. Some (fault_at line fault)) refusal later ≡ Some fault
first_alone line None later fault h = cc
first_alone line (Some refusal) later fault h = h

-- the one fault that the first row has is that of all rows
first_fault-take_one : (draft : Draft) (rows : List LineRow) (fault : BuildFault)
    → first_fault draft (take 1 rows) ≡ Some fault → first_fault draft rows ≡ Some fault
first_fault-take_one draft [] fault h = h
first_fault-take_one draft (row ∷ rows) fault h =
    first_alone row.0 (refused draft row.1) (first_fault (with_row draft row.1) rows) fault h

-- the cause of a stop, said of all rows
pub stopped-cause : (draft : Draft) (rows : List LineRow) (now : Draft) (fault : BuildFault)
    → Stopped draft rows now fault → (fault ≡ NoMemory) ⊎ (first_fault draft rows ≡ Some fault)
stopped-cause draft rows now fault stopped =
    elim stopped.cause [
      | inl memory ↦ inl memory
      | inr first ↦ inr (ap (first_fault draft) stopped.parts
          ∙ first_fault-append draft stopped.before stopped.after stopped.fits
          ∙ ap (λ (d : Draft). first_fault d stopped.after) (sym stopped.stands)
          ∙ first_fault-take_one now stopped.after fault first)
    ]

pub pushed-left : (draft : Draft) (rows left left' : List LineRow) (now : Draft) → left ≡ left'
    → Pushed draft rows left now → Pushed draft rows left' now
pushed-left draft rows left left' now e so_far = let P : List LineRow → Type 0 = λ xs. Pushed draft rows xs now in
    subst P e so_far

-- ---- the first part of rows

pub pushed-first : (draft : Draft) (rows more left : List LineRow) (next : Draft) → rows ≡ more ++ left
    → first_fault draft more ≡ None → next ≡ with_rows draft (plain more) → Pushed draft rows left next
pushed-first draft rows more left next e none stands = record { before = more; parts = e; fits = none; stands = stands }

pub stopped-first : (draft : Draft) (rows more left : List LineRow) (next : Draft) (fault : BuildFault)
    → rows ≡ more ++ left → Stopped draft more next fault → Stopped draft rows next fault
stopped-first draft rows more left next fault e stopped =
    pushed-stopped draft rows more left draft next fault
    (pushed-left draft rows rows (more ++ left) draft e (pushed-start draft rows)) stopped

-- ---- rows that are pushed on

pub pushed-then : (draft : Draft) (rows left rest : List LineRow) (now next : Draft) → Pushed draft rows left now
    → Pushed now left rest next → Pushed draft rows rest next
pushed-then draft rows left rest now next so_far
    then = pushed-more draft rows then.before rest now next
    (pushed-left draft rows left (then.before ++ rest) now then.parts so_far) then.fits then.stands

pub stopped-then : (draft : Draft) (rows left : List LineRow) (now next : Draft) (fault : BuildFault)
    → Pushed draft rows left now → Stopped now left next fault → Stopped draft rows next fault
stopped-then draft rows left now next fault so_far stopped =
    pushed-stopped draft rows left [] now next fault
    (pushed-left draft rows left (left ++ []) now (sym (append-nil left)) so_far) stopped
