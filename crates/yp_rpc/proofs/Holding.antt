-- Lemmas on what a writer of records holds back.
use Rattle.std.proofs.Common.{◌≡◌, ℕ, zero, suc, ◌+◌, ◌*◌, ◌<◌, ◌≤◌, ◌↔◌, All, Bool, true, false, ◌==◌, inl, inr}
use Rattle.std.proofs.Common.{List, [], ◌∷◌, ◌++◌, Option, Result, Ok, Err, IsOk, OnOk, OnErr, length, take, drop}
use Rattle.std.proofs.Common.{drop-drop, refl, sym, ap, ◌∙◌, arith, append_assoc}
use Rattle.std.proofs.lemmas.List.{length-append, length-drop, append-nil, take_all, take_at, drop_at, length-take-le}
use Rattle.std.proofs.lemmas.List.{take-append-le, take-append-drop, take-take}
use Rattle.std.proofs.lemmas.List.Elements.{All-nil, All-head, All-tail, All-push}
use Rattle.std.proofs.lemmas.Bool.{cases_lt, eqb-false}
use Rattle.std.proofs.Math.Seq.{take-append-add}
use Rattle.std.proofs.KnownBytes.{Appends-nil, Appends-trans, Appends-kept, Keeps-refl, Keeps-trans}
use Rattle.std.specs.Io.KnownBytes.{Appends, Keeps}
use Rattle.yp_rpc.specs.Records.{fragment_max, head, fragment, begun, joined, sent}
use Rattle.yp_rpc.specs.Waiting.{held_max, full_len, Waiting, bodies, waiting}
use Rattle.yp_rpc.specs.inside.Waiting.{held_bytes, held_room, none, promised}
use Rattle.yp_rpc.specs.Waiting.{IsFull, HoldsFragments, RestsBetweenCalls}
use Rattle.yp_rpc.proofs.CutPieces.{length-joined}
use Rattle.yp_rpc.proofs.Fragments.{length-fragment, joined-push, begun-push}
use Rattle.yp_rpc.proofs.Sending.{sent-last, sent-full, sent-begun}
use Rattle.yp_rpc.proofs.Stream.{take-past, waiting-put}
use borrow.Rule.Slice.PartMut.{put_mid, post_of}

-- the length of full fragments
length-begun : (pieces : List (List ℕ)) → All IsFull pieces → length (begun pieces) ≡ full_len * length pieces
length-begun [] full = refl
length-begun (piece ∷ pieces) full =
    omega (
      arith,
      length-append (fragment false piece)
          (begun pieces),
      length-fragment false piece,
      All-head IsFull piece pieces full,
      length-begun pieces
          (All-tail IsFull piece pieces full),
    )

-- there is room for one fragment more
pub room_for_one : (held : Waiting) → HoldsFragments held → length held.whole + full_len ≤ held_room
room_for_one held h = omega (arith, ap length h.framed, length-begun h.pieces h.full, h.few)

-- no fragments, no bytes
bodies-none : (turns : ℕ) → bodies turns [] ≡ []
unfolding bodies
bodies-none zero = refl
bodies-none (suc turns) = bodies-none turns

-- full fragments without their heads are their pieces
bodies-begun : (turns : ℕ) (pieces : List (List ℕ)) → All IsFull pieces → length pieces ≤ turns
    → bodies turns (begun pieces) ≡ joined pieces
unfolding bodies
bodies-begun turns [] full few = bodies-none turns
bodies-begun zero (piece ∷ pieces) full few = absurd (omega arith)
bodies-begun (suc turns) (piece ∷ pieces) full few =
    let len : length piece ≡ fragment_max = All-head IsFull piece pieces full in
    let others = bodies-begun turns pieces (All-tail IsFull piece pieces full) (omega arith) in
    let first : take fragment_max (piece ++ begun pieces) ≡ piece = take_at piece (begun pieces) fragment_max len in
    let behind : drop full_len (fragment false piece ++ begun pieces) ≡ begun pieces =
    drop_at (fragment false piece) (begun pieces) full_len (omega (arith, length-fragment false piece)) in
    rw (first, behind, others) refl

-- the bytes that wait are those of the pieces, and the next ones
waiting_is : (held : Waiting) (h : HoldsFragments held) → waiting held ≡ joined h.pieces ++ held.piece
waiting_is held h = ap (λ bytes. bytes ++ held.piece)
    (ap (bodies held_max) h.framed ∙ bodies-begun held_max h.pieces h.full (omega (arith, h.few)))

-- what is sent of the bytes that wait, and of the rest, is what was promised
pub promise : (held : Waiting) (rest : List ℕ) → HoldsFragments held → 0 < length (held.piece ++ rest)
    → sent (waiting held ++ rest) ≡ promised held rest
promise held rest h some =
    ap (λ bytes. sent (bytes ++ rest)) (waiting_is held h)
    ∙ ap sent (append_assoc (joined h.pieces) held.piece rest)
    ∙ sent-begun h.pieces (held.piece ++ rest) h.full some
    ∙ ap (λ bytes. bytes ++ sent (held.piece ++ rest)) (sym h.framed)

-- the length of the bytes of full pieces
length-joined_full : (pieces : List (List ℕ)) → All IsFull pieces
    → length (joined pieces) ≡ fragment_max * length pieces
length-joined_full [] full = refl
length-joined_full (piece ∷ pieces) full =
    omega (
      arith,
      length-joined piece pieces,
      All-head IsFull piece pieces full,
      length-joined_full pieces
          (All-tail IsFull piece pieces full),
    )

-- some bytes wait, and so some that aren't whole yet
pub some_piece : (held : Waiting) → RestsBetweenCalls held → 0 < length (waiting held) → 0 < length held.piece
some_piece held r some =
    let h = r.holds in
    let all : length (waiting held) ≡ length (joined h.pieces) + length held.piece =
    ap length (waiting_is held h) ∙ length-append (joined h.pieces) held.piece in
    elim (cases_lt 0 (length held.whole)) [
      | inl whole ↦ r.some whole
      | inr nothing ↦ omega (
        arith,
        all,
        nothing,
        ap length h.framed,
        length-begun h.pieces h.full,
        length-joined_full
            h.pieces h.full,
      )
    ]

-- ---- making room

-- nothing was sent
pub stays : (before : Option (List ℕ)) (held : Waiting)
    → (out : List ℕ) × Appends before before out
    × ((more : List ℕ) → 0 < length more → promised held more ≡ out ++ promised held more)
stays before held = ([], Appends-nil before, λ more some. refl)

-- a full piece and its head, and what is sent of the bytes behind it
promised_full : (held : Waiting) (more : List ℕ) → length held.piece ≡ fragment_max → 0 < length more
    → promised held more ≡ (held.whole ++ fragment false held.piece) ++ sent more
promised_full held more full some =
    ap (λ bytes. held.whole ++ bytes) (sent-full held.piece more full some)
    ∙ sym (append_assoc held.whole (fragment false held.piece) (sent more))

-- one fragment more is whole
abbrev pub closed : Waiting → Waiting
closed held = record { whole = held.whole ++ fragment false held.piece; piece = [] }

-- it was held back too
pub closed_stays : (before : Option (List ℕ)) (held new : Waiting) → new ≡ closed held
    → length held.piece ≡ fragment_max
    → (out : List ℕ) × Appends before before out
    × ((more : List ℕ) → 0 < length more → promised held more ≡ out ++ promised new more)
closed_stays before held new is full =
    ([], Appends-nil before, λ more some. promised_full held more full some ∙ ap (λ w. promised w more) (sym is))

-- there is room for another behind it
pub closed_holds : (held new : Waiting) → HoldsFragments held → new ≡ closed held → length held.piece ≡ fragment_max
    → length new.whole + full_len ≤ held_room → HoldsFragments new
closed_holds held new h is full room =
    let pieces = h.pieces ++ held.piece ∷ [] in
    let all : All IsFull pieces = All-push IsFull h.pieces held.piece h.full full in
    let framed : new.whole ≡ begun pieces =
    ap (λ w. w.whole) is ∙ ap (λ bytes. bytes ++ fragment false held.piece) h.framed
    ∙ sym (begun-push h.pieces held.piece) in
    record {
      pieces = pieces;
      framed = framed;
      full = all;
      few = omega (arith, room, ap length framed, length-begun pieces all);
      short = omega (arith, ap (λ w. length w.piece) is);
    }

-- the same bytes wait
pub closed_waits : (held new : Waiting) → HoldsFragments held → new ≡ closed held → length held.piece ≡ fragment_max
    → waiting new ≡ waiting held
closed_waits held new h is full =
    let pieces = h.pieces ++ held.piece ∷ [] in
    ap waiting is
    ∙ append-nil (bodies held_max (held.whole ++ fragment false held.piece))
    ∙ ap (λ whole. bodies held_max (whole ++ fragment false held.piece)) h.framed
    ∙ ap (bodies held_max) (sym (begun-push h.pieces held.piece))
    ∙ bodies-begun held_max pieces (All-push IsFull h.pieces held.piece h.full full)
    (omega (arith, h.few, length-append h.pieces (held.piece ∷ [])))
    ∙ joined-push h.pieces held.piece
    ∙ sym (waiting_is held h)

-- where there is no room for another, as many bytes wait as can
pub full_batch : (held new : Waiting) → HoldsFragments held → new ≡ closed held → length held.piece ≡ fragment_max
    → (length new.whole + full_len ≤ held_room → ⊥) → length (waiting held) < held_bytes → ⊥
full_batch held new h is full past fits =
    past (omega (
      arith,
      fits,
      full,
      ap (λ w. length w.whole) is,
      length-append held.whole (fragment false held.piece),
      length-fragment false held.piece,
      ap length h.framed,
      length-begun h.pieces h.full,
      ap length (waiting_is held h),
      length-append (joined h.pieces) held.piece,
      length-joined_full h.pieces h.full,
    ))

-- nothing is held
pub none_holds : HoldsFragments none
none_holds = record { pieces = []; framed = refl; full = All-nil IsFull; few = omega arith; short = omega arith }

-- all that was held was sent, with a full fragment
pub closed_sent : {T E : Type 0} (result : Result T E) (before now : Option (List ℕ)) (held mid new : Waiting)
    → mid ≡ closed held → new ≡ none → length held.piece ≡ fragment_max → OnOk result (Appends before now mid.whole)
    → OnOk result ((out : List ℕ) × Appends before now out
    × ((more : List ℕ) → 0 < length more → promised held more ≡ out ++ promised new more))
closed_sent (Ok x) before now held mid new is empty full taken = (
  mid.whole,
  taken,
  λ more some. promised_full held more full some ∙ ap (λ w. w.whole ++ sent more) (sym is)
      ∙ ap (λ w. mid.whole ++ promised w more) (sym empty),
)
closed_sent (Err e) before now held mid new is empty full taken = tt

-- a part of it was
pub closed_part : {T E : Type 0} (result : Result T E) (before now : Option (List ℕ)) (held mid : Waiting)
    → mid ≡ closed held → length held.piece ≡ fragment_max
    → OnErr result ((n : ℕ) × (n ≤ length mid.whole) × Appends before now (take n mid.whole))
    → OnErr result ((more : List ℕ) → 0 < length more → (n : ℕ) × Appends before now (take n (promised held more)))
closed_part (Ok x) before now held mid is full part = tt
closed_part (Err e) before now held mid is full part = λ more some.
    let same : promised held more ≡ mid.whole ++ sent more =
    promised_full held more full some ∙ ap (λ w. w.whole ++ sent more) (sym is) in
    (part.0, rw (same, take-append-le part.0 mid.whole (sent more) part.1) part.2)

-- ---- putting a piece

-- What a sink took so far of a piece of a record, of which others are still to be put.
pub record HasPut (before now : Option (List ℕ)) (old new : Waiting) (piece rest : List ℕ) : Type 0 where
  pub rests : RestsBetweenCalls new
  pub out : List ℕ
  pub taken : Appends before now out
  pub same : (more : List ℕ) → promised old (piece ++ more) ≡ out ++ promised new (rest ++ more)
  pub some : 0 < length (old.piece ++ piece) → 0 < length (new.piece ++ rest)
  pub came : 0 < length (new.piece ++ rest) → 0 < length (old.piece ++ piece)
  pub fewer : length rest ≤ length piece
  pub quiet : length (waiting old ++ piece) ≤ held_bytes
      → Keeps before now × (waiting new ++ rest ≡ waiting old ++ piece)

-- nothing was put yet
pub HasPut-none : (before : Option (List ℕ)) (old : Waiting) (piece : List ℕ) → RestsBetweenCalls old
    → HasPut before before old old piece piece
HasPut-none before old piece r =
    record {
      rests = r;
      out = [];
      taken = Appends-nil before;
      same = λ more. refl;
      some = λ some. some;
      came = λ some.
          some;
      fewer = omega arith;
      quiet = λ _. (Keeps-refl before, refl);
    }

-- a list that was cut is the same list
regroup : (room rest more : List ℕ) (count : ℕ)
    → room ++ take count rest ++ (drop count rest ++ more) ≡ room ++ (rest ++ more)
regroup room rest more count =
    append_assoc room (take count rest) (drop count rest ++ more)
    ∙ ap (λ (bytes : List ℕ). room ++ bytes)
    (sym (append_assoc (take count rest) (drop count rest) more)
    ∙ ap (λ (bytes : List ℕ). bytes ++ more) (take-append-drop count rest))

-- with these bytes behind it
abbrev pub kept : Waiting → List ℕ → Waiting
kept held bytes = record held { piece = held.piece ++ bytes }

-- some bytes were sent, and the next ones wait
pub HasPut-more : {T E : Type 0} (result : Result T E) (before now after : Option (List ℕ))
    (old new mid last : Waiting) (piece rest out : List ℕ) (count : ℕ) → HasPut before now old new piece rest
    → HoldsFragments mid → Appends now after out
    → ((more : List ℕ) → 0 < length more → promised new more ≡ out ++ promised mid more)
    → last ≡ kept mid (take count rest) → 0 < count → count ≤ length rest → length mid.piece + count ≤ fragment_max
    → (length (waiting new) < held_bytes → IsOk result × Keeps now after × (waiting mid ≡ waiting new))
    → HasPut before after old last piece (drop count rest)
HasPut-more result before now after old new mid last piece rest out count h held taken same is some within short quiet =
    let size : length (take count rest) ≡ count = length-take-le count rest within in
    let long : length last.piece ≡ length mid.piece + length (take count rest) =
    ap (λ w. length w.piece) is ∙ length-append mid.piece (take count rest) in
    let whole : last.whole ≡ mid.whole = ap (λ w. w.whole) is in
    record {
      rests = record {
        holds = record {
          pieces = held.pieces;
          framed = whole ∙ held.framed;
          full = held.full;
          few = held.few;
          short =
              omega arith;
        };
        some = λ _. omega arith;
      };
      out = h.out ++ out;
      taken = Appends-trans before now after _ _ h.taken taken;
      same = λ more.
          h.same more
          ∙ ap (λ (bytes : List ℕ). h.out ++ bytes) (same (rest ++ more) (omega (arith, length-append rest more)))
          ∙ sym (append_assoc h.out out (promised mid (rest ++ more)))
          ∙ ap (λ (bytes : List ℕ). h.out ++ out ++ (mid.whole ++ sent bytes)) (sym (regroup mid.piece rest more count))
          ∙ ap (λ w. h.out ++ out ++ promised w (drop count rest ++ more)) (sym is);
      some = λ _. omega (arith, length-append last.piece (drop count rest));
      came = λ _. h.came (omega (arith, length-append new.piece rest));
      fewer = omega (arith, h.fewer, length-drop count rest);
      quiet = λ fits.
          let kept_so_far = h.quiet fits in
          let stays = quiet (omega (arith, fits, ap length kept_so_far.1, length-append (waiting new) rest)) in (
            Keeps-trans before now after kept_so_far.0 stays.1,
            ap (λ w. waiting w ++ drop count rest) is
                ∙ ap (λ bytes. bytes ++ drop count rest)
                (sym (append_assoc (bodies held_max mid.whole) mid.piece (take count rest)))
                ∙ append_assoc (waiting mid) (take count rest) (drop count rest)
                ∙ ap (λ bytes. waiting mid ++ bytes) (take-append-drop count rest)
                ∙ ap (λ bytes. bytes ++ rest) stays.2
                ∙ kept_so_far.1,
          );
    }

-- a part of the next bytes was taken behind those that were sent
pub prefix_behind : (before now after : Option (List ℕ)) (old new : Waiting) (piece rest more : List ℕ)
    → HasPut before now old new piece rest
    → ((others : List ℕ) → 0 < length others → (n : ℕ) × Appends now after (take n (promised new others)))
    → 0 < length rest
    → (n : ℕ) × Appends before after (take n (promised old (piece ++ more)))
prefix_behind before now after old new piece rest more h part some =
    let p = part (rest ++ more) (omega (arith, length-append rest more)) in
    (length h.out + p.0, rw (h.same more, take-append-add) (Appends-trans before now after _ _ h.taken p.1))

-- what `is_empty` denies
pub some_left : (n : ℕ) (test : Bool) → test ≡ (n == 0) → test ≡ false → 0 < n
some_left n test is fails = omega (arith, eqb-false n 0 (sym is ∙ fails))

-- ---- a record

-- where nothing is held, nothing waits
pub idle : (held : Waiting) → held ≡ none → waiting held ≡ []
unfolding none_holds
idle held is = ap waiting is ∙ waiting_is none none_holds

-- so it is after an error
pub idle_err : {T E : Type 0} (result : Result T E) (held : Waiting) → OnErr result (held ≡ none)
    → OnErr result (waiting held ≡ [])
idle_err (Ok x) held is = tt
idle_err (Err e) held is = idle held is

-- the bytes that wait are some where a fragment isn't whole yet, or where more come
some_old : (held : Waiting) (more : List ℕ) → RestsBetweenCalls held → 0 < length (waiting held ++ more)
    → 0 < length (held.piece ++ more)
some_old held more r some =
    elim (cases_lt 0 (length more)) [
      | inl m ↦ omega (arith, m, length-append held.piece more)
      | inr nothing ↦ omega (
        arith,
        some_piece held r
            (omega (arith, some, nothing, length-append (waiting held) more)),
        length-append held.piece more,
      )
    ]

-- a piece was put
pub put_sent : {T E : Type 0} (result : Result T E) (before now : Option (List ℕ)) (old new : Waiting)
    (view piece : List ℕ) → waiting old ≡ view → RestsBetweenCalls old → OnOk result (RestsBetweenCalls new)
    → OnOk result ((out : List ℕ) × Appends before now out
    × ((more : List ℕ) → promised old (piece ++ more) ≡ out ++ promised new more))
    → OnOk result (0 < length (old.piece ++ piece) ↔ 0 < length new.piece)
    → OnOk result ((out : List ℕ) × Appends before now out
    × ((more : List ℕ) → 0 < length (waiting new ++ more)
    → sent (view ++ piece ++ more) ≡ out ++ sent (waiting new ++ more)))
put_sent (Err e) before now old new view piece is r rests sends came = tt
put_sent (Ok x) before now old new view piece is r rests sends came = (
  sends.0,
  sends.1,
  λ more some.
      let behind : 0 < length (new.piece ++ more) = some_old new more rests some in
      let front : 0 < length (old.piece ++ (piece ++ more)) =
      elim (cases_lt 0 (length more)) [
        | inl m ↦ omega (arith, m, length-append old.piece (piece ++ more), length-append piece more)
        | inr nothing ↦ omega (
          arith,
          came.1
              (omega (arith, behind, nothing, length-append new.piece more)),
          length-append old.piece piece,
          length-append old.piece (piece ++ more),
          length-append piece more,
        )
      ] in
      ap (λ v. sent (v ++ piece ++ more)) (sym is)
      ∙ ap sent (append_assoc (waiting old) piece more)
      ∙ promise old (piece ++ more) r.holds front
      ∙ sends.2 more
      ∙ ap (λ bytes. sends.0 ++ bytes) (sym (promise new more rests.holds behind)),
)

-- a part of it was
pub put_part : {T E : Type 0} (result : Result T E) (before now : Option (List ℕ)) (old : Waiting)
    (view piece : List ℕ) → waiting old ≡ view → RestsBetweenCalls old → OnErr result (0 < length piece)
    → OnErr result ((more : List ℕ) → (n : ℕ) × Appends before now (take n (promised old (piece ++ more))))
    → OnErr result ((more : List ℕ) → (n : ℕ) × Appends before now (take n (sent (view ++ piece ++ more))))
put_part (Ok x) before now old view piece is r some part = tt
put_part (Err e) before now old view piece is r some part = λ more.
    let front : 0 < length (old.piece ++ (piece ++ more)) =
    omega (arith, some, length-append old.piece (piece ++ more), length-append piece more) in
    let same : sent (view ++ piece ++ more) ≡ promised old (piece ++ more) =
    ap (λ v. sent (v ++ piece ++ more)) (sym is) ∙ ap sent (append_assoc (waiting old) piece more)
    ∙ promise old (piece ++ more) r.holds front in
    let p = part more in (p.0, rw same p.1)

-- what is sent at the end: the whole fragments, and the rest as the last one
pub all_sent : (held : Waiting) (view : List ℕ) → waiting held ≡ view → RestsBetweenCalls held → 0 < length view
    → held.whole ++ fragment true held.piece ≡ sent view
all_sent held view is r some =
    let piece : 0 < length held.piece = some_piece held r (omega (arith, some, ap length is)) in
    ap (λ bytes. held.whole ++ bytes) (sym (sent-last held.piece r.holds.short) ∙ ap sent (sym (append-nil held.piece)))
    ∙ sym (promise held [] r.holds (omega (arith, piece, length-append held.piece [])))
    ∙ ap sent (append-nil (waiting held) ∙ is)

-- what holds anyway holds on Ok
OnOk-always : {T E P : Type 0} (result : Result T E) → P → OnOk result P
OnOk-always (Ok x) p = p
OnOk-always (Err e) p = tt

-- what holds anyway holds on Err
OnErr-always : {T E P : Type 0} (result : Result T E) → P → OnErr result P
OnErr-always (Ok x) p = tt
OnErr-always (Err e) p = p

-- what was written and then flushed was taken
pub flushed : {T E : Type 0} (result : Result T E) (before mid after : Option (List ℕ)) (bytes all : List ℕ)
    → bytes ≡ all → Appends before mid bytes → Keeps mid after
    → OnOk result (Appends before after all) × OnErr result ((n : ℕ) × Appends before after (take n all))
flushed result before mid after bytes all is taken kept =
    let whole : Appends before after all = rw (← is) (Appends-kept before mid after bytes taken kept) in
    let part : Appends before after (take (length all) all) = rw (take_all (length all) all (omega arith)) whole in
    (OnOk-always result whole, OnErr-always result (length all, part))

-- ---- the bytes of a batch

-- bytes were written behind those that wait, which begin behind a head
pub batch_kept : (start n k count : ℕ) (xs ys : List ℕ) → start + 4 + n ≤ length xs → length ys ≡ count
    → record {
      whole = take start (put_mid (start + 4 + n) k xs ys);
      piece =
          take (n + count) (drop (start + 4) (put_mid (start + 4 + n) k xs ys));
    }
    ≡ kept (record { whole = take start xs; piece = take n (drop (start + 4) xs) }) ys
batch_kept start n k count xs ys within len =
    let front : length (take (start + 4 + n) xs) ≡ start + 4 + n = length-take-le (start + 4 + n) xs within in
    let before : take start (put_mid (start + 4 + n) k xs ys) ≡ take start xs =
    take-append-le start (take (start + 4 + n) xs) (ys ++ post_of (start + 4 + n) k xs) (omega arith)
    ∙ take-take start (start + 4 + n) xs (omega arith) in
    rw (before, waiting-put (start + 4) n k count xs ys within len) refl

-- a head was written before them
pub batch_closed : (last : Bool) (start n k : ℕ) (xs ys : List ℕ) → start + 4 + n ≤ length xs → k ≡ 4 → ys ≡ head last n
    → take (start + (4 + n)) (put_mid start k xs ys) ≡ take start xs ++ fragment last (take n (drop (start + 4) xs))
batch_closed last start n k xs ys within four is =
    let size : length (take n (drop (start + 4) xs)) ≡ n =
    length-take-le n (drop (start + 4) xs) (omega (arith, length-drop (start + 4) xs)) in
    let behind : post_of start 4 xs ≡ drop (start + 4) xs = drop-drop 4 start xs in
    ap (λ j. take (start + (4 + n)) (put_mid start j xs ys)) four
    ∙ ap (λ hd. take (start + (4 + n)) (put_mid start 4 xs hd)) is
    ∙ take-past (take start xs) (head last n ++ post_of start 4 xs) start (4 + n)
    (length-take-le start xs (omega arith))
    ∙ ap (λ bytes. take start xs ++ bytes) (take-past (head last n) (post_of start 4 xs) 4 n refl)
    ∙ ap (λ bytes. take start xs ++ (head last n ++ take n bytes)) behind
    ∙ ap (λ m. take start xs ++ (head last m ++ take n (drop (start + 4) xs))) (sym size)
