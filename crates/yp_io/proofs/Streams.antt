-- Bytes that were read in turn, and a piece that was written whole.
use Rattle.std.proofs.Common.{◌≡◌, ℕ, List, [], ◌++◌, length, take, Option, None, Some, Result, Ok, Err}
use Rattle.std.proofs.Common.{refl, sym, ap, ◌∙◌, arith, length-append, append_assoc}
use Rattle.std.specs.Prelude.{OnErr}
use Rattle.std.proofs.lemmas.List.{append-nil, take_at}
use Rattle.std.specs.Io.KnownBytes.{Keeps, Appends, Consumes}
use Rattle.yp_io.specs.declared.whole.Unread.{Unread}
use Rattle.yp_io.specs.declared.whole.Unread.TheVariants.{NoMemory}
use Rattle.yp_io.specs.Streams.{AppendsFront}
use Rattle.yp_io.specs.inside.Streams.{ReadingStopped}

-- what holds, holds after an error
pub on_err : {T E : Type 0} {P : Type 0} (r : Result T E) → P → OnErr r P
on_err (Ok x) h = tt
on_err (Err e) h = h

-- a whole piece that was taken, and then nothing more
pub put_whole : (a b c : Option (List ℕ)) (text : List ℕ) → Appends a b text → Keeps b c → AppendsFront text a c
put_whole None b c text h k = (length text, omega arith, tt)
put_whole (Some x) None c text h k = absurd h
put_whole (Some x) (Some y) None text h k = absurd k
put_whole (Some x) (Some y) (Some z) text h k =
    let whole : take (length text) text ≡ text = rw append-nil at (take_at text [] (length text) refl) in
    (length text, omega arith, k ∙ h ∙ ap (λ (t : List ℕ). x ++ t) (sym whole))

-- nothing was read
pub reads_nothing : (a : Option (List ℕ)) → Consumes a a []
reads_nothing None = tt
reads_nothing (Some xs) = refl

-- one piece behind another
pub reads_both : (a b c : Option (List ℕ)) (x y : List ℕ) → Consumes a b x → Consumes b c y → Consumes a c (x ++ y)
reads_both None b c x y h k = tt
reads_both (Some xs) None c x y h k = absurd h
reads_both (Some xs) (Some ys) None x y h k = absurd k
reads_both (Some xs) (Some ys) (Some zs) x y h k = h ∙ ap (λ (l : List ℕ). x ++ l) k ∙ sym (append_assoc x y zs)

-- what stopped a reading stopped it from its beginning on
pub stopped_behind : (most : ℕ) (a b c : Option (List ℕ)) (text : List ℕ) (why : Unread) → Consumes a b text
    → ReadingStopped most b c (length text) why → ReadingStopped most a c 0 why
stopped_behind most a b c text why read stopped = record {
  piece = text ++ stopped.piece;
  taken = reads_both a b c text stopped.piece read stopped.taken;
  over = λ is. let more = stopped.over is in omega (arith, more, length-append text stopped.piece);
}

-- where nothing was read
pub unread_stopped : (most : ℕ) (a : Option (List ℕ)) (why : Unread) → why ≡ NoMemory → ReadingStopped most a a 0 why
unread_stopped most a why is = record { piece = []; taken = reads_nothing a; over = λ long. absurd cc }
