-- What it does to the guests of a worker that it goes on with one of them.
use Rattle.std.proofs.Common.{◌≡◌, ◌≢◌, ℕ, ◌==◌, if◌then◌else◌, Bool, true, false, List, [], ◌∷◌, ◌++◌, map, refl, sym, ap, subst, ◌∙◌}
use Rattle.std.proofs.lemmas.Bool.{eq-eqb, ne_eqb}
use Rattle.std.proofs.lemmas.List.{append-nil}
use Rattle.yp_io.specs.declared.stream.Peer.{Peer}
use Rattle.yp_io.specs.declared.ready.TrySource as try_source
use Rattle.yp_io.specs.declared.ready.TrySink as try_sink
use Rattle.yp_answer.specs.session.Hosts.{Conduct}
use Rattle.yp_answer.specs.session.Cuts.{Deed}
use Rattle.yp_answer.specs.inside.session.Cuts.{DoesDeeds, GoesOn, Talk, cut_of, talking}
use Rattle.yp_worker.specs.Working.{WorkerStep, Learned, TookOver, Did, deeds_of, TakesSteps}
use Rattle.yp_worker.specs.inside.GuestStates.{GuestState}
use Rattle.yp_worker.specs.inside.Guests.{steps_then, came_with, WorksOn}

-- ---- the deeds of a number

chosen : {X : Type 0} (b : Bool) (x y : X) → b ≡ true → (if b then x else y) ≡ x
chosen true x y h = refl
chosen false x y h = absurd (let e : false ≡ true = h in cc)

pub left_out : {X : Type 0} (b : Bool) (x y : X) → b ≡ false → (if b then x else y) ≡ y
left_out true x y h = absurd (let e : true ≡ false = h in cc)
left_out false x y h = refl

either_way : (b : Bool) (deed : Deed) (whole front behind : List Deed) → whole ≡ front ++ behind
    → (if b then deed ∷ whole else whole) ≡ (if b then deed ∷ front else front) ++ behind
either_way true deed whole front behind h = ap (λ (deeds : List Deed). deed ∷ deeds) h
either_way false deed whole front behind h = h

pub deeds_append : (number : ℕ) (steps more : List WorkerStep) → deeds_of number (steps ++ more) ≡ deeds_of number steps ++ deeds_of number more
deeds_append number [] more = refl
deeds_append number (Learned ∷ steps) more = deeds_append number steps more
deeds_append number (TookOver one known ∷ steps) more = deeds_append number steps more
deeds_append number (Did one peer deed ∷ steps) more =
    either_way (one == number) deed (deeds_of number (steps ++ more)) (deeds_of number steps) (deeds_of number more) (deeds_append number steps more)

deeds_same : (number : ℕ) (peer : Peer) (deeds : List Deed) → deeds_of number (map (Did number peer) deeds) ≡ deeds
deeds_same number peer [] = refl
deeds_same number peer (deed ∷ deeds) =
    let rest = deeds_of number (map (Did number peer) deeds) in
    chosen (number == number) (deed ∷ rest) rest (eq-eqb number number refl) ∙ ap (λ (l : List Deed). deed ∷ l) (deeds_same number peer deeds)

deeds_none : (number other : ℕ) (peer : Peer) (deeds : List Deed) → number ≢ other → deeds_of other (map (Did number peer) deeds) ≡ []
deeds_none number other peer [] apart = refl
deeds_none number other peer (deed ∷ deeds) apart =
    let rest = deeds_of other (map (Did number peer) deeds) in
    left_out (number == other) (deed ∷ rest) rest (ne_eqb number other apart) ∙ deeds_none number other peer deeds apart

pub own_deeds : (steps : List WorkerStep) (number : ℕ) (peer : Peer) (deeds : List Deed) → deeds_of number (steps_then steps number peer deeds) ≡ deeds_of number steps ++ deeds
own_deeds steps number peer deeds =
    deeds_append number steps (map (Did number peer) deeds) ∙ ap (λ (l : List Deed). deeds_of number steps ++ l) (deeds_same number peer deeds)

pub other_deeds : (steps : List WorkerStep) (number other : ℕ) (peer : Peer) (deeds : List Deed) → other ≢ number
    → deeds_of other (steps_then steps number peer deeds) ≡ deeds_of other steps
other_deeds steps number other peer deeds apart =
    deeds_append other steps (map (Did number peer) deeds)
    ∙ ap (λ (l : List Deed). deeds_of other steps ++ l) (deeds_none number other peer deeds (λ same. apart (sym same))) ∙ append-nil (deeds_of other steps)

-- ---- the steps of a worker

module _ {H T : Type 0} (conduct : Conduct H) (counted : H → T) where
  did_all : (number : ℕ) (peer : Peer) (deeds : List Deed) (old new : H) → DoesDeeds conduct peer deeds old new
      → TakesSteps conduct counted (map (Did number peer) deeds) old new
  did_all number peer [] old new does = does
  did_all number peer (deed ∷ deeds) old new does = (does.0, does.1, did_all number peer deeds does.0 new does.2)

  steps_done : (steps : List WorkerStep) (number : ℕ) (peer : Peer) (deeds : List Deed) (first old new : H) → TakesSteps conduct counted steps first old
      → DoesDeeds conduct peer deeds old new → TakesSteps conduct counted (steps_then steps number peer deeds) first new
  steps_done [] number peer deeds first old new taken does =
      let P : H → Type 0 = λ h. TakesSteps conduct counted (map (Did number peer) deeds) h new in
      subst P taken (did_all number peer deeds old new does)
  steps_done (step ∷ steps) number peer deeds first old new taken does =
      (taken.0, taken.1, steps_done steps number peer deeds taken.0 old new taken.2 does)

  -- ---- one guest goes on

  pub works_on : {S K : Type 0} (source : try_source.Ghosts S) (sink : try_sink.Ghosts K) (carries : Bool) (guest : GuestState S K) (talk : Talk S K) (old new : H)
      → GoesOn conduct guest.origin.peer carries (talking old (cut_of source sink guest.talk)) (talking new (cut_of source sink talk))
      → WorksOn conduct counted source sink (record { guest = guest; host = old })
      (record { guest = record guest { talk = talk }; host = new })
  works_on source sink carries guest talk old new goes = record {
    deeds = goes.deeds;
    origin = refl;
    number = refl;
    own = λ past earlier is. record {
      expected = is.expected;
      fresh = is.fresh;
      cut = goes.follows (came_with source sink guest) earlier is.cut;
    };
    taken = λ first steps taken. steps_done steps guest.number guest.origin.peer goes.deeds first old new taken goes.does;
    sees = goes.sees;
  }
