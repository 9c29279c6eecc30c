-- Lemmas on what is sent of a record.
use Rattle.std.proofs.Common.{◌≡◌, ℕ, zero, suc, ◌<◌, ◌≤◌, All, true, false, List, [], ◌∷◌, ◌++◌, length, take, drop}
use Rattle.std.proofs.Common.{refl, sym, ap, ◌∙◌, ⊎_elim, arith, append_assoc}
use Rattle.std.proofs.lemmas.List.{length-append, length-drop, take_at, drop_at}
use Rattle.std.proofs.lemmas.List.Elements.{All-head, All-tail}
use Rattle.std.proofs.lemmas.Bool.{cases_lt, le-leb, lt-leb}
use Rattle.yp_rpc.specs.Records.{fragment_max, fragment, begun, joined, sent_within, sent}
use Rattle.yp_rpc.specs.Waiting.{IsFull}

-- a short message is one fragment
sent_within-short : (turns : ℕ) (message : List ℕ) → length message ≤ fragment_max
    → sent_within turns message ≡ fragment true message
unfolding sent_within
sent_within-short zero message short = refl
sent_within-short (suc turns) message short = rw (le-leb (length message) fragment_max short) refl

-- a long message is a full fragment, and what is sent of the rest
sent_within-long : (turns : ℕ) (message : List ℕ) → fragment_max < length message
    → sent_within (suc turns) message
    ≡ fragment false (take fragment_max message) ++ sent_within turns (drop fragment_max message)
unfolding sent_within
sent_within-long turns message long = rw (lt-leb (length message) fragment_max long) refl

-- any number of turns will do, if there are as many as bytes
sent_within-enough : (turns others : ℕ) (message : List ℕ) → length message ≤ turns → length message ≤ others
    → sent_within turns message ≡ sent_within others message
sent_within-enough zero others message few many =
    sent_within-short zero message (omega arith) ∙ sym (sent_within-short others message (omega arith))
sent_within-enough (suc turns) zero message few many =
    sent_within-short (suc turns) message (omega arith) ∙ sym (sent_within-short zero message (omega arith))
sent_within-enough (suc turns) (suc others) message few many =
    ⊎_elim
    (λ (long : fragment_max < length message). sent_within-long turns message long
    ∙ ap (λ (rest : List ℕ). fragment false (take fragment_max message) ++ rest)
    (sent_within-enough turns others (drop fragment_max message) (omega (arith, length-drop fragment_max message))
    (omega (arith, length-drop fragment_max message)))
    ∙ sym (sent_within-long others message long))
    (λ (short : length message ≤ fragment_max). sent_within-short (suc turns) message short
    ∙ sym (sent_within-short (suc others) message short))
    (cases_lt fragment_max (length message))

-- what one fragment holds is sent as the last one
pub sent-last : (message : List ℕ) → length message ≤ fragment_max → sent message ≡ fragment true message
sent-last message short = sent_within-short (length message) message short

-- a full fragment, and what is sent of the bytes behind it
pub sent-full : (full rest : List ℕ) → length full ≡ fragment_max → 0 < length rest
    → sent (full ++ rest) ≡ fragment false full ++ sent rest
sent-full full rest len some =
    let turns = length (full ++ rest) in
    let size = length-append full rest in
    sent_within-enough turns (suc turns) (full ++ rest) (omega arith) (omega arith)
    ∙ sent_within-long turns (full ++ rest) (omega arith)
    ∙ rw (take_at full rest fragment_max len, drop_at full rest fragment_max len)
    (ap (λ (others : List ℕ). fragment false full ++ others)
    (sent_within-enough turns (length rest) rest (omega arith) (omega arith)))

-- full fragments, and what is sent of the bytes behind them
pub sent-begun : (pieces : List (List ℕ)) (rest : List ℕ) → All IsFull pieces → 0 < length rest
    → sent (joined pieces ++ rest) ≡ begun pieces ++ sent rest
sent-begun [] rest full some = refl
sent-begun (piece ∷ pieces) rest full some =
    ap sent (append_assoc piece (joined pieces) rest)
    ∙ sent-full piece (joined pieces ++ rest) (All-head IsFull piece pieces full)
    (omega (arith, length-append (joined pieces) rest))
    ∙ ap (λ bytes. fragment false piece ++ bytes) (sent-begun pieces rest (All-tail IsFull piece pieces full) some)
    ∙ sym (append_assoc (fragment false piece) (begun pieces) (sent rest))
