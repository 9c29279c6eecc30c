-- Words that the headline has of its own, and those of other crates that are the same.
use Rattle.std.specs.Prelude.{◌≡◌, ℕ, List, Option, Some}
use Rattle.yp_version.specs.Rows.{Row, listed}
use Rattle.yp_version.specs.Versions.{MapVersion}
use Rattle.yp_version.specs.Drafts.{empty_draft, with_rows}
use Rattle.yp_map_file.specs.Stands.{stands}
use Rattle.yp_publisher.specs.Standing.{stands_for}
use Rattle.yp_texts.specs.declared.reading.Reading.{Reading}
use Rattle.yp_texts.specs.Pushes.{plain}
use Rattle.yp_texts.specs.Rows.{rows}
use Rattle.yp_headline.specs.Storing.{stood_for}
use Rattle.yp_headline.specs.Listing.{AreListed}
use Rattle.yp_headline.specs.Texts.{text_rows}

-- A file stands for a version, or for none, by one word where it does by the other; rows are listed by one where they
-- are by the other; and the rows of a text are the same.
pub record WordsAreSame : Type 0 where
  pub stood : (file : List ℕ) (held : Option MapVersion) → stands file ≡ stands_for held → stood_for file ≡ Some held
  pub stands_so : (file : List ℕ) (held : Option MapVersion) → stood_for file ≡ Some held
      → stands file ≡ stands_for held
  pub listed_so : (order : ℕ) (master : List ℕ) (list some : List Row)
      → some ≡ listed (with_rows (empty_draft order master) list).rows → AreListed list some
  pub listed_alone : (order : ℕ) (master : List ℕ) (list some : List Row)
      → AreListed list some → some ≡ listed (with_rows (empty_draft order master) list).rows
  pub texts : (reading : Reading) (text : List ℕ) → plain (rows reading text) ≡ text_rows reading text
