-- What is sent of a record is one spelling of it.
use Rattle.std.proofs.Common.{◌≡◌, ℕ, zero, suc, ◌+◌, ◌<◌, ◌≤◌, Bool, true, false, cond, eqb, List, [], ◌∷◌, ◌++◌, length, take, drop, refl, sym, ap, ◌∙◌, arith, append_assoc, All, nat_le, ne_eqb}
use Rattle.std.proofs.lemmas.Bool.{leb-true, leb-false}
use Rattle.std.proofs.lemmas.List.{length-take, length-drop, take-append-drop, append-nil}
use Rattle.std.proofs.lemmas.List.Elements.{All-nil, All-cons, All-append}
use Rattle.std.proofs.lemmas.List.Sums.{sum_by-append, sum_by-cons, count_by-le-length}
use Rattle.std.proofs.lemmas.Grind.{flat_map-append}
use Rattle.yp_rpc.specs.Records.{fragment_max, fragment, begun, joined, empties, IsShort, Fragments, sent_within, sent}

-- full pieces, and a last one
record Pieces (message bytes : List ℕ) : Type 0 where
  pieces : List (List ℕ)
  last : List ℕ
  whole : message ≡ joined pieces ++ last
  spelled : bytes ≡ begun pieces ++ fragment true last
  full : All IsShort pieces
  none : empties pieces ≡ 0
  short : length last ≤ fragment_max

one_piece : (message : List ℕ) → length message ≤ fragment_max → Pieces message (fragment true message)
one_piece message short = record { pieces = []; last = message; whole = refl; spelled = refl; full = All-nil IsShort; none = refl; short = short }

-- how many pieces are empty, with a full one before them
empties-full : (piece : List ℕ) (pieces : List (List ℕ)) → 0 < length piece → empties (piece ∷ pieces) ≡ empties pieces
empties-full piece pieces some =
    sum_by-cons (λ p. cond (eqb (length p) 0) 1 0) piece pieces
    ∙ ap (λ b. cond b 1 0 + empties pieces) (ne_eqb (length piece) 0 (omega arith)) ∙ omega arith

more_pieces : (message bytes : List ℕ) → fragment_max < length message → Pieces (drop fragment_max message) bytes → Pieces message (fragment false (take fragment_max message) ++ bytes)
more_pieces message bytes long others =
    let first = take fragment_max message in
    let len = length-take fragment_max message in
    record {
      pieces = first ∷ others.pieces;
      last = others.last;
      whole = sym (take-append-drop fragment_max message) ∙ ap (λ (xs : List ℕ). first ++ xs) others.whole ∙ sym (append_assoc first (joined others.pieces) others.last);
      spelled = ap (λ (xs : List ℕ). fragment false first ++ xs) others.spelled ∙ sym (append_assoc (fragment false first) (begun others.pieces) (fragment true others.last));
      full = All-cons IsShort first others.pieces (omega (arith, len)) others.full;
      none = empties-full first others.pieces (omega (arith, len)) ∙ others.none;
      short = others.short;
    }

pieces_of : (turns : ℕ) (message : List ℕ) → length message ≤ turns → Pieces message (sent_within turns message)
unfolding sent_within
pieces_of zero message few = one_piece message (omega (arith, few))
pieces_of (suc turns) message few = by (nat_le (length message) fragment_max) refl (pieces_of turns (drop fragment_max message))
  where
    by : (b : Bool) → nat_le (length message) fragment_max ≡ b → (length (drop fragment_max message) ≤ turns → Pieces (drop fragment_max message) (sent_within turns (drop fragment_max message)))
        → Pieces message (cond b (fragment true message) (fragment false (take fragment_max message) ++ sent_within turns (drop fragment_max message)))
    by true is later = one_piece message (leb-true _ _ is)
    by false is later = let long = leb-false _ _ is in more_pieces message _ long (later (omega (arith, length-drop fragment_max message, long, few)))

pub sent_is_whole : (limit : ℕ) (message : List ℕ) → length message ≤ limit → Fragments limit message (sent message)
sent_is_whole limit message within =
    let p = pieces_of (length message) message (omega arith) in
    let all : joined (p.pieces ++ p.last ∷ []) ≡ message = flat_map-append (λ (piece : List ℕ). piece) p.pieces (p.last ∷ []) ∙ ap (λ (xs : List ℕ). joined p.pieces ++ xs) (append-nil p.last) ∙ sym p.whole in
    record {
      pieces = p.pieces;
      last = p.last;
      whole = p.whole;
      spelled = p.spelled;
      within = record {
        len = omega (arith, ap length all, within);
        empty = omega (arith, p.none, sum_by-append (λ (piece : List ℕ). cond (eqb (length piece) 0) 1 0) p.pieces (p.last ∷ []), count_by-le-length (λ (piece : List ℕ). eqb (length piece) 0) (p.last ∷ []));
        short = All-append IsShort p.pieces (p.last ∷ []) p.full (All-cons IsShort p.last [] (omega (arith, p.short)) (All-nil IsShort));
      };
    }
