-- Pieces of text that are put one behind the other.
use Rattle.std.proofs.Common.{◌≡◌, ℕ, ◌+◌, List, [], ◌++◌, length, take, min, Option, Result, Ok, Err, refl, sym}
use Rattle.std.proofs.Common.{ap, ◌∙◌, append_assoc, append-nil, length-append, arith}
use Rattle.std.specs.Prelude.{OnOk, OnErr}
use Rattle.std.specs.Io.KnownBytes.{Appends}
use Rattle.std.proofs.KnownBytes.{Appends-trans, Appends-nil}
use Rattle.std.proofs.lemmas.List.{take_min, take-append-le, take_at}
use Rattle.std.proofs.Math.Seq.{take-append-add}
use Rattle.yp_io.specs.Streams.{AppendsFront}
use Rattle.yp_client.specs.inside.query.Printed.{Puts}

-- nothing was put
pub puts_none : (E : Type 0) (waits : List ℕ) (sink : Option (List ℕ)) → Puts {E = E} [] (Ok tt) waits waits sink sink
puts_none E waits sink = ([], Appends-nil sink, append-nil waits)

-- a front of a text is a front of a longer one
pub front_longer : (text more : List ℕ) (before after : Option (List ℕ)) → AppendsFront text before after
    → AppendsFront (text ++ more) before after
front_longer text more before after h =
    let n = min h.0 (length text) in
    let same : take n (text ++ more) ≡ take h.0 text = take-append-le n text more (omega arith) ∙ take_min h.0 text in
    (n, omega (arith, length-append text more), rw same h.2)

-- a front of what comes behind a text
pub front_behind : (text more : List ℕ) (before between after : Option (List ℕ)) → Appends before between text
    → AppendsFront more between after → AppendsFront (text ++ more) before after
front_behind text more before between after first h = (
  length text + h.0,
  omega (arith, h.1, length-append text more),
  rw take-append-add (Appends-trans before between after text (take h.0 more) first h.2),
)

-- the whole is a front
pub front_whole : (text : List ℕ) (before after : Option (List ℕ)) → Appends before after text
    → AppendsFront text before after
front_whole text before after h =
    let whole : take (length text) text ≡ text = rw append-nil at (take_at text [] (length text) refl) in
    (length text, omega arith, rw whole h)

-- a piece behind another
pub puts_more : {E : Type 0} (piece more : List ℕ) (result : Result (Unit {0}) E) (waited waits now : List ℕ)
    (before between after : Option (List ℕ))
    → Puts {E = E} piece (Ok tt) waited waits before between → Puts more result waits now between after
    → Puts (piece ++ more) result waited now before after
puts_more piece more (Ok done) waited waits now before between after first second =
    let whole : waited ++ (piece ++ more) ≡ (first.0 ++ second.0) ++ now =
    sym (append_assoc waited piece more) ∙ ap (λ (xs : List ℕ). xs ++ more) first.2 ∙ append_assoc first.0 waits more
    ∙ ap (λ (xs : List ℕ). first.0 ++ xs) second.2 ∙ sym (append_assoc first.0 second.0 now) in
    (first.0 ++ second.0, Appends-trans before between after first.0 second.0 first.1 second.1, whole)
puts_more piece more (Err fault) waited waits now before between after first second =
    let whole : waited ++ (piece ++ more) ≡ first.0 ++ (waits ++ more) =
    sym (append_assoc waited piece more) ∙ ap (λ (xs : List ℕ). xs ++ more) first.2 ∙ append_assoc first.0 waits more in
    rw whole (front_behind first.0 (waits ++ more) before between after first.1 second)

-- a piece that the sink didn't take whole, and what was to come
pub puts_stopped : {E : Type 0} (piece more : List ℕ) (result : Result (Unit {0}) E) (fault : E) (waited now : List ℕ)
    (before after : Option (List ℕ))
    → result ≡ Err fault → AppendsFront (waited ++ piece) before after
    → Puts (piece ++ more) result waited now before after
puts_stopped piece more result fault waited now before after is h =
    let longer : AppendsFront (waited ++ (piece ++ more)) before after =
    rw (← append_assoc waited piece more) (front_longer (waited ++ piece) more before after h) in
    rw is longer

-- the same, where the sink took all that had come before, and a front of the next piece
pub puts_written : {E : Type 0} (result : Result (Unit {0}) E) (waited piece now : List ℕ)
    (before between after : Option (List ℕ)) → now ≡ []
    → Appends before between waited → OnOk result (Appends between after piece)
    → OnErr result (AppendsFront piece between after)
    → Puts piece result waited now before after
puts_written (Ok done) waited piece now before between after none first ok err = (
  waited ++ piece,
  Appends-trans before between after waited piece first ok,
  rw none
      (sym (append-nil (waited ++ piece))),
)
puts_written (Err fault) waited piece now before between after none first ok err =
    front_behind waited piece before between after first err
