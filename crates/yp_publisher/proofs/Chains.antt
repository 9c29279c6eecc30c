-- Moments of a map's file, each with a front of the log of the next one.
use Rattle.std.proofs.Common.{◌≡◌, inl, inr, ℕ, suc, ◌-◌, List, [], ◌∷◌, ◌++◌, length, take, Option, Some, None, IfSome, IsSome, refl, sym, ◌∙◌, ap, subst, arith, append_assoc, length-append, take_at}
use Rattle.yp_io.specs.Disk.{DiskState, History, states, moment, LeftIn, LeftBetween, Continues, HistoryGoesOn, LeavesOnly, MayLeave}
use Rattle.yp_io.specs.inside.DiskLaws.{goes_on}
use Rattle.yp_board.specs.Logs.{Log}
use Rattle.yp_board.specs.Views.{IsFront}
use Rattle.yp_publisher.specs.Grown.{LeavesInTurn, LeavesByFronts}
use Rattle.yp_publisher.proofs.Growing.{front_none, front_then}
use Rattle.yp_publisher.proofs.Leaving.{left_alone}

-- ---- moments, the last one first

module _ (P : Log → List ℕ → Type 0) where
  front_of : (moments : List DiskState) (first last : Log) → LeavesInTurn P moments first last → IsFront first last
  front_of [] first last chain = chain
  front_of (state ∷ earlier) first last chain = front_then first chain.log last chain.begins chain.goes_on

  -- up to a longer log
  widen : (moments : List DiskState) (a b c : Log) → IsFront b c → LeavesInTurn P moments a b → LeavesInTurn P moments a c
  widen [] a b c front chain = front_then a b c chain front
  widen (state ∷ earlier) a b c front chain = record {
    log = chain.log;
    begins = chain.begins;
    goes_on = front_then chain.log b c chain.goes_on front;
    holds = chain.holds;
  }

  -- one chain behind another
  append : (later earlier : List DiskState) (a b c : Log) → LeavesInTurn P earlier a b → LeavesInTurn P later b c → LeavesInTurn P (later ++ earlier) a c
  append [] earlier a b c first second = widen earlier a b c second first
  append (state ∷ later) earlier a b c first second = record {
    log = second.log;
    begins = front_then a b second.log (front_of earlier a b first) second.begins;
    goes_on = second.goes_on;
    holds = (second.holds.0, append later earlier a b second.log first second.holds.1);
  }

  -- the last moments alone
  later_part : (later earlier : List DiskState) (first last : Log) → LeavesInTurn P (later ++ earlier) first last → LeavesInTurn P later first last
  later_part [] earlier first last chain = front_of earlier first last chain
  later_part (state ∷ later) earlier first last chain = record {
    log = chain.log;
    begins = chain.begins;
    goes_on = chain.goes_on;
    holds = (chain.holds.0, later_part later earlier first chain.log chain.holds.1);
  }

  -- all moments by one log
  by_one : (moments : List DiskState) (log last : Log) → IsFront log last → ((image : List ℕ) → LeftIn moments image → P log image) → LeavesInTurn P moments log last
  by_one [] log last front each = front
  by_one (state ∷ earlier) log last front each = record {
    log = log;
    begins = front_none log log refl;
    goes_on = front;
    holds = (λ image is. each image (inl is), by_one earlier log log (front_none log log refl) (λ image left. each image (inr left)));
  }

-- in other words
in_turn_so : (P Q : Log → List ℕ → Type 0) → ((log : Log) (image : List ℕ) → P log image → Q log image) → (moments : List DiskState) (first last : Log)
    → LeavesInTurn P moments first last → LeavesInTurn Q moments first last
in_turn_so P Q says [] first last chain = chain
in_turn_so P Q says (state ∷ earlier) first last chain = record {
  log = chain.log;
  begins = chain.begins;
  goes_on = chain.goes_on;
  holds = (λ image is. says chain.log image (chain.holds.0 image is), in_turn_so P Q says earlier first chain.log chain.holds.1);
}

-- ---- from one history to another

-- the moments from one to the other
since : (old new : History) (steps : List DiskState) → states new ≡ steps ++ states old
    → take (suc (moment new - moment old)) (states new) ≡ steps ++ old.state ∷ []
since old new steps follow =
    let size : length (steps ++ old.state ∷ []) ≡ suc (moment new - moment old) =
    omega (arith, length-append steps (old.state ∷ []), length-append steps (states old), ap length follow) in
    ap (λ (l : List DiskState). take (suc (moment new - moment old)) l)
    (follow ∙ sym (append_assoc steps (old.state ∷ []) old.past))
    ∙ take_at (steps ++ old.state ∷ []) old.past (suc (moment new - moment old)) size

-- it is so of those moments, where they are told
abbrev InTurn : (Log → List ℕ → Type 0) → Option History → Option History → Log → Log → Type 0
InTurn P old new first last =
    IfSome old (λ before. IfSome new (λ after. LeavesInTurn P (take (suc (moment after - moment before)) (states after)) first last))

module _ {P : Log → List ℕ → Type 0} where
  -- at each moment a crash leaves bytes by one log
  pub by_one_log : (old new : Option History) (log last : Log) → IsFront log last → LeavesOnly old new (P log) → LeavesByFronts P old new log last
  by_one_log old new log last front leaves = record { goes_on = leaves.goes_on; each = all old new leaves.each } where
    all : (old new : Option History) → ((image : List ℕ) → LeftBetween old new image → P log image)
        → InTurn P old new log last
    all None new each = tt
    all (Some before) None each = tt
    all (Some before) (Some after) each = by_one P (take (suc (moment after - moment before)) (states after)) log last front each

  -- a disk that is left alone
  pub by_one_alone : (history : Option History) (log last : Log) → IsFront log last → (IsSome history → (image : List ℕ) → MayLeave history image → P log image)
      → LeavesByFronts P history history log last
  by_one_alone None log last front each = by_one_log None None log last front (left_alone None (λ image left. absurd left))
  by_one_alone (Some h) log last front each = by_one_log (Some h) (Some h) log last front (left_alone (Some h) (λ image left. each refl image left))

  -- two times, one after the other
  pub by_fronts_then : (old middle new : Option History) (a b c : Log) → LeavesByFronts P old middle a b → LeavesByFronts P middle new b c → LeavesByFronts P old new a c
  by_fronts_then old middle new a b c first second = record {
    goes_on = goes_on old middle new first.goes_on second.goes_on;
    each = all old middle new first.goes_on second.goes_on first.each second.each;
  } where
    both : (before between after : History) (went : Continues before between) (on : Continues between after)
        → LeavesInTurn P (take (suc (moment between - moment before)) (states between)) a b
        → LeavesInTurn P (take (suc (moment after - moment between)) (states after)) b c
        → LeavesInTurn P (take (suc (moment after - moment before)) (states after)) a c
    both before between after went on f s =
        let earlier : LeavesInTurn P (went.steps ++ before.state ∷ []) a b = subst (λ (l : List DiskState). LeavesInTurn P l a b) (since before between went.steps went.follow) f in
        let later : LeavesInTurn P (on.steps ++ between.state ∷ []) b c = subst (λ (l : List DiskState). LeavesInTurn P l b c) (since between after on.steps on.follow) s in
        let follow : states after ≡ (on.steps ++ went.steps) ++ states before =
        on.follow ∙ ap (λ (l : List DiskState). on.steps ++ l) went.follow ∙ sym (append_assoc on.steps went.steps (states before)) in
        subst (λ (l : List DiskState). LeavesInTurn P l a c)
        (sym (since before after (on.steps ++ went.steps) follow ∙ append_assoc on.steps went.steps (before.state ∷ [])))
        (append P on.steps (went.steps ++ before.state ∷ []) a b c earlier (later_part P on.steps (between.state ∷ []) b c later))

    all : (old middle new : Option History) → HistoryGoesOn old middle → HistoryGoesOn middle new → InTurn P old middle a b → InTurn P middle new b c → InTurn P old new a c
    all None middle new went on f s = tt
    all (Some before) None new went on f s = absurd went
    all (Some before) (Some between) None went on f s = tt
    all (Some before) (Some between) (Some after) went on f s = both before between after went on f s

-- in other words
pub by_fronts_so : {P Q : Log → List ℕ → Type 0} (old new : Option History) (first last : Log) → ((log : Log) (image : List ℕ) → P log image → Q log image)
    → LeavesByFronts P old new first last → LeavesByFronts Q old new first last
by_fronts_so {P} {Q} old new first last says leaves = record { goes_on = leaves.goes_on; each = all old new leaves.each } where
  all : (old new : Option History) → InTurn P old new first last → InTurn Q old new first last
  all None new each = tt
  all (Some before) None each = tt
  all (Some before) (Some after) each = in_turn_so P Q says (take (suc (moment after - moment before)) (states after)) first last each
