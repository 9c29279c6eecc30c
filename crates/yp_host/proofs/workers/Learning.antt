-- What a reader learns.
use Rattle.std.proofs.Common.{◌≡◌, [], ◌++◌, refl, sym, ◌∙◌, ap}
use Rattle.std.proofs.lemmas.List.{append-nil, append_assoc}
use Rattle.yp_board.specs.Catalogues.{Catalogue}
use Rattle.yp_board.specs.Logs.{Log}
use Rattle.yp_board.specs.Views.{Seen, IsFront}
use Rattle.yp_publisher.specs.sharing.Shares.{Learns}

pub front_same : (log : Log) → IsFront log log
front_same log = ([], sym (append-nil log))

pub front_then : (a b c : Log) → IsFront a b → IsFront b c → IsFront a c
front_then a b c first second =
    (first.0 ++ second.0, second.1 ∙ ap (λ (l : Log). l ++ second.0) first.1 ∙ append_assoc a first.0 second.0)

-- nothing
pub learns_none : (seen : Seen) → Learns seen seen
learns_none seen = record { same = refl; grown = front_same seen.known }

-- one thing after another
pub learns_then : (a b c : Seen) → Learns a b → Learns b c → Learns a c
learns_then a b c first second = record {
  same = second.same ∙ ap (λ (s : Seen). record s { known = c.known }) first.same;
  grown = front_then a.known b.known c.known first.grown second.grown;
}

-- its catalogue stays
pub learns_maps : (a b : Seen) (catalogue : Catalogue) → Learns a b → a.catalogue ≡ catalogue → b.catalogue ≡ catalogue
learns_maps a b catalogue learns is = ap (λ (s : Seen). s.catalogue) learns.same ∙ is
