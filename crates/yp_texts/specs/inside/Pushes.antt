-- Rows that were pushed so far, and where they stopped.
use Rattle.std.specs.Prelude.{◌≡◌, ◌⊎◌, List, ◌++◌, take, Some, None}
use Rattle.yp_version.specs.Drafts.{Draft, with_rows}
use Rattle.yp_texts.specs.declared.fault.BuildFault.{BuildFault}
use Rattle.yp_texts.specs.declared.fault.BuildFault.TheVariants.{NoMemory}
use Rattle.yp_texts.specs.Rows.{LineRow}
use Rattle.yp_texts.specs.Pushes.{plain, first_fault}

-- Rows were pushed up to those that are left.
pub record Pushed (draft : Draft) (rows left : List LineRow) (now : Draft) : Type 0 where
  pub before : List LineRow
  pub parts : rows ≡ before ++ left
  pub fits : first_fault draft before ≡ None
  pub stands : now ≡ with_rows draft (plain before)

-- Pushing rows ended before the last: those before stand, and the next is refused, or memory ran out.
pub record Stopped (draft : Draft) (rows : List LineRow) (now : Draft) (fault : BuildFault) : Type 0 where
  pub before : List LineRow
  pub after : List LineRow
  pub parts : rows ≡ before ++ after
  pub fits : first_fault draft before ≡ None
  pub stands : now ≡ with_rows draft (plain before)
  pub cause : (fault ≡ NoMemory) ⊎ (first_fault now (take 1 after) ≡ Some fault)
