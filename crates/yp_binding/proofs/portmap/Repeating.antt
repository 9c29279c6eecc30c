-- A call that is repeated directly after itself.
use Rattle.std.proofs.Common.{◌≡◌, ◌∙◌, ◌++◌, ◌&&◌, ◌||◌, ◌==◌, ℕ, Bool, true, false, not, cond, List, [], ◌∷◌, ap, sym, refl, arith, length}
use Rattle.std.specs.Prelude.{nat_lt}
use Rattle.std.specs.List.{filter, list_any}
use Rattle.std.proofs.lemmas.List.Folds.{list_any-append}
use Rattle.yp_io.specs.declared.stream.Peer.{Peer}
use Rattle.yp_binding.specs.declared.portmap.mapping.Mapping.{Mapping}
use Rattle.yp_binding.specs.declared.portmap.request.Request.{Request}
use Rattle.yp_binding.specs.declared.portmap.request.Request.TheVariants.{Nothing, Answer, Set, Unset, GetPort, Dump}
use Rattle.yp_binding.specs.portmap.Numbers.{mappings_max}
use Rattle.yp_binding.specs.portmap.Registry.{is_of, is_same, is_here, may_stand, is_set, with_set, with_unset}
use Rattle.yp_binding.specs.portmap.Replies.{request_after}
use Rattle.yp_binding.specs.inside.portmap.Replies.{RepeatsNothing}
use Rattle.yp_binding.specs.portmap.Requests.{asked_by}

-- A number is itself.
own : (n : ℕ) → (n == n) ≡ true
own n = grind arith

same_own : (m : Mapping) → is_same m m ≡ true
same_own m = rw (own m.prog, own m.vers, own m.prot) refl

or_true : (b : Bool) → (b || true) ≡ true
or_true true = refl
or_true false = refl

last_same : (m : Mapping) (ms : List Mapping) → list_any (is_same m) (ms ++ m ∷ []) ≡ true
last_same m ms =
    list_any-append (is_same m) ms (m ∷ []) ∙ ap (λ (b : Bool). list_any (is_same m) ms || (b || false)) (same_own m)
    ∙ or_true (list_any (is_same m) ms)

refused : (here stands more : Bool) → here && stands && not true && more ≡ false
refused true true more = refl
refused true false more = refl
refused false stands more = refl

set_already : (from : Peer) (m : Mapping) (ms : List Mapping) → is_set from m (ms ++ m ∷ []) ≡ false
set_already from m ms =
    ap (λ (b : Bool). is_here from && may_stand m && not b && nat_lt (length (ms ++ m ∷ [])) mappings_max) (last_same m ms)
    ∙ refused (is_here from) (may_stand m) (nat_lt (length (ms ++ m ∷ [])) mappings_max)

set_is : (from : Peer) (m : Mapping) (ms : List Mapping) (b : Bool) → is_set from m ms ≡ b
    → with_set from m ms ≡ cond b (ms ++ m ∷ []) ms
set_is from m ms b e = ap (λ (x : Bool). cond x (ms ++ m ∷ []) ms) e

set_again_by : (from : Peer) (m : Mapping) (ms : List Mapping) (b : Bool) → is_set from m ms ≡ b
    → with_set from m (with_set from m ms) ≡ with_set from m ms
set_again_by from m ms true e =
    let there = set_is from m ms true e in
    ap (with_set from m) there ∙ set_is from m (ms ++ m ∷ []) false (set_already from m ms) ∙ sym there
set_again_by from m ms false e = ap (with_set from m) (set_is from m ms false e)

set_again : (from : Peer) (m : Mapping) (ms : List Mapping) → with_set from m (with_set from m ms) ≡ with_set from m ms
set_again from m ms = set_again_by from m ms (is_set from m ms) refl

kept_by : (p : Mapping → Bool) (x : Mapping) (ms : List Mapping) (b : Bool) → p x ≡ b → filter p (filter p ms) ≡ filter p ms
    → filter p (filter p (x ∷ ms)) ≡ filter p (x ∷ ms)
kept_by p x ms true e again = rw e (rw e (ap (λ (l : List Mapping). x ∷ l) again))
kept_by p x ms false e again = rw e again

kept_again : (p : Mapping → Bool) (ms : List Mapping) → filter p (filter p ms) ≡ filter p ms
kept_again p [] = refl
kept_again p (x ∷ ms) = kept_by p x ms (p x) refl (kept_again p ms)

unset_by : (from : Peer) (m : Mapping) (ms : List Mapping) (b : Bool) → is_here from ≡ b
    → with_unset from m (with_unset from m ms) ≡ with_unset from m ms
unset_by from m ms true e = rw e (kept_again (λ (x : Mapping). not (is_of m x)) ms)
unset_by from m ms false e = rw e refl

asked_again : (from : Peer) (ms : List Mapping) (r : Request) → request_after from (request_after from ms r) r ≡ request_after from ms r
asked_again from ms Nothing = refl
asked_again from ms (Answer xid head) = refl
asked_again from ms (Set xid asked) = set_again from asked ms
asked_again from ms (Unset xid asked) = unset_by from asked ms (is_here from) refl
asked_again from ms (GetPort xid asked) = refl
asked_again from ms (Dump xid) = refl

pub repeats_nothing : RepeatsNothing
repeats_nothing from ms call = asked_again from ms (asked_by call)
