-- What is kept of a listener, from one call of it to the next.
use Rattle.std.proofs.Common.{◌≡◌, ◌⊎◌, inl, inr, ℕ, ◌+◌, ◌<◌, ◌≤◌, Bool, true, false, List, [], ◌∷◌, ◌++◌, length, Option, None, Some, refl, sym, ap, subst, ◌∙◌, append_assoc, arith}
use Rattle.std.specs.Prelude.{Contains, IfSome}
use Rattle.std.proofs.lemmas.List.{append-nil, length_push}
use Rattle.std.proofs.lemmas.List.Elements.{Contains-append_left, Contains-push}
use Rattle.std.proofs.lemmas.List.Sums.{fold-append}
use Rattle.yp_io.specs.Counts.{HasRisen, capped}
use Rattle.yp_io.specs.Dials.{Connected}
use Rattle.yp_io.specs.Calls.{ListenerHistory, ClosedConnection, Accepting, ConnectionComes, GainsCall, taken_in}
use Rattle.yp_io.specs.declared.called.Called.{Called}
use Rattle.yp_io.specs.Hall.{IfComes}
use Rattle.yp_io.specs.declared.hall.Coming.{Coming}
use Rattle.yp_io.specs.declared.hall.Coming.TheVariants.{Came}
use Rattle.yp_worker.specs.Receptions.{closed_in, GainsConnections, GainsWhereTold, IsExpected, ListenTells, AcceptsNoMore, IsListenerState}

-- what a listener tells, as it was before the first connection
abbrev pub told : ListenTells → Accepting
told opening = record { past = opening.past; most = opening.most; accepted = opening.accepted }

-- what holds of the connection that came
pub came_one : {S K : Type 0} (P : Called S K → Type 0) (arrival : Coming S K) (call : Called S K)
    → arrival ≡ Came call → IfComes P arrival → P call
came_one P arrival call is h = subst (IfComes P) is h

-- before the first connection
gains_none : (calls : ListenerHistory) → GainsConnections calls calls 0
gains_none calls = record {
  came = [];
  to_come = refl;
  more_came = sym (append-nil calls.came);
  gone = 0;
  more_closed = omega arith;
  all = refl;
}

tells_none : (past : Option ListenerHistory) → GainsWhereTold past past 0
tells_none None = tt
tells_none (Some calls) = gains_none calls

pub kept_none : (now : ListenTells) → IsListenerState now now 0 false 0 0
kept_none now = record {
  most = refl;
  accepts = record {
    count = 0;
    gone = 0;
    accepted = omega arith;
    connections_are = refl;
    all = refl;
    returned = refl;
  };
  tells = tells_none now.past;
  never_falls = omega arith;
  fault = λ was. absurd cc;
  over = λ some. absurd (omega (arith, some));
}

-- those that were to come, behind one that came
all_to_come : (wire : Connected) (old now : ListenerHistory) (rest : List Connected) (out : ℕ) → now.coming ≡ wire ∷ rest
    → (gains : GainsConnections old now out) → old.coming ≡ (gains.came ++ wire ∷ []) ++ rest
all_to_come wire old now rest out first gains =
    gains.to_come
    ∙ ap (λ (l : List Connected). gains.came ++ l) first
    ∙ sym (append_assoc gains.came (wire ∷ []) rest)

-- one more came
gains_came : (wire : Connected) (old now : ListenerHistory) (rest : List Connected) (out : ℕ) → now.coming ≡ wire ∷ rest
    → GainsConnections old now out
    → GainsConnections old (record { coming = rest; came = now.came ++ wire ∷ []; closed = now.closed }) (out + 1)
gains_came wire old now rest out first gains = record {
  came = gains.came ++ wire ∷ [];
  to_come = all_to_come wire old now rest out first gains;
  more_came = ap (λ (l : List Connected). l ++ wire ∷ []) gains.more_came
      ∙ append_assoc old.came gains.came (wire ∷ []);
  gone = gains.gone;
  more_closed = gains.more_closed;
  all = let longer = length_push gains.came wire in omega (arith, longer, gains.all);
}

tells_came : (wire : Connected) (old past new : Option ListenerHistory) (out : ℕ) → GainsWhereTold old past out
    → GainsCall wire past new → GainsWhereTold old new (out + 1)
tells_came wire None past new out tells gained = tt
tells_came wire (Some old) None new out tells gained = absurd tells
tells_came wire (Some old) (Some now) None out tells gained = absurd gained
tells_came wire (Some old) (Some now) (Some others) out tells gained =
    subst (λ (c : ListenerHistory). GainsConnections old c (out + 1)) (sym gained.1)
    (gains_came wire old now others.coming out gained.0 tells)

-- it was one of those that were to come
pub came_expected : (wire : Connected) (old past new : Option ListenerHistory) (out : ℕ) → GainsWhereTold old past out
    → GainsCall wire past new → IsExpected old wire
came_expected wire None past new out tells gained = tt
came_expected wire (Some old) None new out tells gained = absurd tells
came_expected wire (Some old) (Some now) None out tells gained = absurd gained
came_expected wire (Some old) (Some now) (Some others) out tells gained =
    subst (λ (l : List Connected). Contains l wire)
    (sym (all_to_come wire old now others.coming out gained.0 tells))
    (Contains-append_left (tells.came ++ wire ∷ []) others.coming wire (Contains-push tells.came wire))

-- a closer was taken in that had closed these
pub closed_in_push : (closed : List (List ClosedConnection)) (list : List ClosedConnection)
    → closed_in (closed ++ list ∷ []) ≡ closed_in closed + length list
closed_in_push closed list = fold-append (λ (count : ℕ) (more : List ClosedConnection). count + length more) 0 closed (list ∷ [])

gains_closed : (list : List ClosedConnection) (old now : ListenerHistory) (less : ℕ) → GainsConnections old now (less + length list)
    → GainsConnections old (record { coming = now.coming; came = now.came; closed = now.closed ++ list ∷ [] }) less
gains_closed list old now less gains = record {
  came = gains.came;
  to_come = gains.to_come;
  more_came = gains.more_came;
  gone = gains.gone + length list;
  more_closed = let longer = closed_in_push now.closed list in omega (arith, longer, gains.more_closed);
  all = omega (arith, gains.all);
}

tells_closed : (list : List ClosedConnection) (old past new : Option ListenerHistory) (told : Option (List ClosedConnection)) (less : ℕ)
    → GainsWhereTold old past (less + length list) → IfSome old (λ _. told ≡ Some list) → new ≡ taken_in past told
    → GainsWhereTold old new less
tells_closed list None past new told less tells is taken = tt
tells_closed list (Some old) None new told less tells is taken = absurd tells
tells_closed list (Some old) (Some now) new told less tells is taken =
    subst (λ (past : Option ListenerHistory). GainsWhereTold (Some old) past less)
    (sym (taken ∙ ap (λ (t : Option (List ClosedConnection)). taken_in (Some now) t) is))
    (gains_closed list old now less tells)

module _ (old now new : ListenTells) (connections : ℕ) (failed : Bool) (out ended : ℕ)
    (kept : IsListenerState old now connections failed out ended) where
  -- a connection came, while no accept had failed
  pub kept_came : (wire : Connected) → failed ≡ false → ConnectionComes wire (told now) (told new)
      → new.returned ≡ now.returned → now.faults ≤ new.faults
      → IsListenerState old new (capped connections 1) failed (out + 1) ended
  kept_came wire is comes returned falls = record {
    most = comes.most ∙ kept.most;
    accepts = let first = kept.accepts in record {
      count = first.count + 1;
      gone = first.gone;
      accepted = omega (arith, first.accepted, comes.accepted);
      connections_are = let are = first.connections_are in omega (arith, are);
      all = omega (arith, first.all);
      returned = ap (λ (r : ℕ). capped r 0) returned ∙ first.returned;
    };
    tells = tells_came wire old.past now.past new.past out kept.tells comes.gained;
    never_falls = let before = kept.never_falls in omega (arith, before, falls);
    fault = λ was. absurd cc;
    over = λ some. elim (kept.over some) [
      | inl was ↦ absurd cc
      | inr all ↦ absurd (omega (arith, all, comes.room))
    ];
  }

  -- none came, and the listener tells what it told
  pub kept_none_more : (after : Bool) (more : ℕ) → told new ≡ told now → new.returned ≡ now.returned
      → now.faults ≤ new.faults → (after ≡ true → (failed ≡ true) ⊎ HasRisen now.faults new.faults)
      → (0 < more → AcceptsNoMore after new) → IsListenerState old new connections after out more
  kept_none_more after more same returned falls fault over = record {
    most = ap (λ (a : Accepting). a.most) same ∙ kept.most;
    accepts = record {
      count = kept.accepts.count;
      gone = kept.accepts.gone;
      accepted = ap (λ (a : Accepting). a.accepted) same ∙ kept.accepts.accepted;
      connections_are = kept.accepts.connections_are;
      all = kept.accepts.all;
      returned = ap (λ (r : ℕ). capped r 0) returned ∙ kept.accepts.returned;
    };
    tells = subst (λ (past : Option ListenerHistory). GainsWhereTold old.past past out)
        (sym (ap (λ (a : Accepting). a.past) same)) kept.tells;
    never_falls = let before = kept.never_falls in omega (arith, before, falls);
    fault = λ was. let before = kept.never_falls in elim (fault was) [
      | inl earlier ↦ let risen = kept.fault earlier in omega (arith, risen, falls)
      | inr now_risen ↦ omega (arith, before, now_risen)
    ];
    over = over;
  }

  pub over_same : new.accepted ≡ now.accepted → new.most ≡ now.most → AcceptsNoMore failed now → AcceptsNoMore failed new
  over_same accepted most over = elim over [
    | inl was ↦ inl was
    | inr all ↦ inr (accepted ∙ all ∙ sym most)
  ]

  -- a closer was taken in that had closed connections which were out
  pub kept_closed : (list : List ClosedConnection) (told : Option (List ClosedConnection)) (count less : ℕ) → out ≡ less + length list
      → IfSome old.past (λ _. told ≡ Some list) → count ≡ capped 0 (length list)
      → new.past ≡ taken_in now.past told → new.most ≡ now.most → new.accepted ≡ now.accepted
      → new.returned ≡ capped now.returned count → new.faults ≡ now.faults
      → IsListenerState old new connections failed less ended
  kept_closed list told count less all is count_is taken most accepted returned faults = record {
    most = most ∙ kept.most;
    accepts = let first = kept.accepts in record {
      count = first.count;
      gone = first.gone + length list;
      accepted = accepted ∙ first.accepted;
      connections_are = first.connections_are;
      all = omega (arith, first.all, all);
      returned = let before = first.returned in omega (arith, before, returned, count_is);
    };
    tells = tells_closed list old.past now.past new.past told less
        (subst (λ (n : ℕ). GainsWhereTold old.past now.past n) all kept.tells) is taken;
    never_falls = let before = kept.never_falls in omega (arith, before, faults);
    fault = λ was. let before = kept.fault was in omega (arith, before, faults);
    over = λ some. over_same accepted most (kept.over some);
  }
