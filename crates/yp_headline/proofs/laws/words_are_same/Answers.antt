use Rattle.std.proofs.Common.{refl}
use Rattle.yp_version.specs.Rows.{listed}
use Rattle.yp_version.specs.Drafts.{empty_draft, with_rows}
use Rattle.yp_headline.proofs.Stood.{stood}
use Rattle.yp_headline.proofs.StoodBack.{stood_back}
use Rattle.yp_headline.proofs.Listing.{listed_is, listed_once}
use Rattle.yp_headline.proofs.Texts.{plain_rows}
use Rattle.yp_headline.proofs.laws.words_are_same.Goals as goal

pub returns : goal.returns
returns c = record {
  stood = stood;
  stands_so = stood_back;
  listed_so = listed_is;
  listed_alone = λ order master list some is.
      let all = listed (with_rows (empty_draft order master) list).rows in
      listed_once list some all is (listed_is order master list all refl);
  texts = plain_rows;
}
