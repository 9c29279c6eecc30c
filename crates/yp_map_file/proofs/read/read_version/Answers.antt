use Rattle.std.proofs.Common.{◌≡◌, ap, sym, subst, ◌∙◌, Ok, List, ℕ, ◌≤◌, length}
use Rattle.yp_xdr.specs.inside.Reading.{IsBytes}
use Rattle.yp_version.specs.Limits.{body_max}
use Rattle.yp_version.specs.Versions.{MapVersion}
use Rattle.yp_version.specs.inside.Stored.{IsStoredBody, row_places}
use Rattle.yp_map_file.specs.Bodies.{body_at}
use Rattle.yp_map_file.specs.inside.Heads.{found_of}
use Rattle.yp_map_file.specs.inside.Laws.{ReadIsBody}
use Rattle.yp_map_file.proofs.read.read_version.Goals as goal

-- the parts that were found are those of the stored body
stored : (bytes found : List ℕ) (starts : List ℕ) (version : MapVersion) → ReadIsBody → found ≡ bytes → IsBytes found
    → length bytes ≤ body_max → body_at found ≡ Ok version → starts ≡ row_places version → IsStoredBody bytes starts version
stored bytes found starts version law same are_bytes few is places = record {
  body = law bytes version (subst IsBytes same are_bytes) few (ap body_at (sym same) ∙ is);
  places = places;
}

pub of_body-requires : goal.of_body-requires
of_body-requires g c =
    let finds = c.in_ok-secure.ensures.finds in (
      finds.0,
      stored c.args.body.items c.deref.result.now c.in_ok-secure.field-0.places.items (found_of c.in_ok-secure.field-0 finds.0)
          c.read_is_body.ensures c.deref.ensures.value c.in_ok-secure.ensures.are_bytes c.requires finds.1 finds.2,
    )

pub returns : goal.returns
returns g c =
    let finds = c.in_ok-secure.ensures.finds in
    let is = stored c.args.body.items c.deref.result.now c.in_ok-secure.field-0.places.items (found_of c.in_ok-secure.field-0 finds.0)
    c.read_is_body.ensures c.deref.ensures.value c.in_ok-secure.ensures.are_bytes c.requires finds.1 finds.2 in
    ap body_at (sym c.deref.ensures.value) ∙ finds.1 ∙ ap Ok (sym (c.in_ok-of_body.ensures finds.0 is))
