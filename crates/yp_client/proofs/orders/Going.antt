-- What holds of each step holds of steps in turn: that its state moves on, that what follows may begin afresh, and what
-- is told of its fault.
use Rattle.std.proofs.Common.{◌≡◌, List, [], ◌∷◌, Ok, Err, refl, sym, subst}
use Rattle.std.specs.Prelude.{IsOk, IfErr}
use Rattle.yp_client.specs.declared.query.fault.QueryFault.{QueryFault}
use Rattle.yp_client.specs.declared.query.fault.QueryFault.TheVariants.{NoMemory}
use Rattle.yp_client.specs.query.Asked.{Outcome, IsInMemory}
use Rattle.yp_client.specs.orders.InTurn.{Step, EachMade, StopsAt, InTurn, Follows, Then, Comes, InMemory}

-- what is said of a state, of two states, and of a fault between two states
pub record Course (S : Type 0) : Type 1 where
  pub fresh : S → Type 0
  pub moves : S → S → Type 0
  pub tells : QueryFault → S → S → Type 0
  pub still : (s : S) → moves s s
  pub on : (a b c : S) → moves a b → moves b c → moves a c
  pub behind : (fault : QueryFault) (a b c : S) → moves a b → tells fault b c → tells fault a c
  pub memory : (a b : S) → tells NoMemory a b

-- a step keeps to it
pub record Goes {S : Type 0} (course : Course S) {V : Type 0} (outcome : Outcome V) (old new : S) : Type 0 where
  pub moves : course.moves old new
  pub fresh : IsOk outcome → course.fresh new
  pub fault : IfErr outcome (λ fault. course.tells fault old new)

module _ {S : Type 0} (course : Course S) where
  abbrev pub AllGo : {A V : Type 0} → (A → Step V S) → Type 0
  AllGo {A} {V} step = (item : A) (outcome : Outcome V) (old new : S) → course.fresh old → step item outcome old new
      → Goes course outcome old new

  -- a move, and then a step that keeps to it
  behind_goes : {V : Type 0} (outcome : Outcome V) (old mid new : S) → course.moves old mid
      → Goes course outcome mid new → Goes course outcome old new
  behind_goes (Ok value) old mid new before goes =
      record { moves = course.on old mid new before goes.moves; fresh = goes.fresh; fault = tt }
  behind_goes (Err fault) old mid new before goes = record {
    moves = course.on old mid new before goes.moves;
    fresh = goes.fresh;
    fault = course.behind fault old mid new before goes.fault;
  }

  each_goes : {A V : Type 0} (step : A → Step V S) (items : List A) (values : List V) (old new : S) → AllGo step
      → course.fresh old → EachMade step items values old new → course.moves old new × course.fresh new
  each_goes step [] [] old new go fresh made =
      subst (λ (s : S). course.moves old s × course.fresh s) (sym made) (course.still old, fresh)
  each_goes step [] (value ∷ values) old new go fresh made = absurd made
  each_goes step (item ∷ items) [] old new go fresh made = absurd made
  each_goes step (item ∷ items) (value ∷ values) old new go fresh made =
      let one = go item (Ok value) old made.0 fresh made.1 in
      let rest = each_goes step items values made.0 new go (one.fresh refl) made.2 in
      (course.on old made.0 new one.moves rest.0, rest.1)

  -- the same fault of what comes to nothing else
  stopped : {A V : Type 0} (fault : QueryFault) (old new : S) → Goes course {V = A} (Err fault) old new
      → Goes course {V = V} (Err fault) old new
  stopped fault old new goes = record { moves = goes.moves; fresh = λ ok. absurd cc; fault = goes.fault }

  pub turn_goes : {A V : Type 0} (step : A → Step V S) (items : List A) (outcome : Outcome (List V)) (old new : S)
      → AllGo step → course.fresh old → InTurn step items outcome old new → Goes course outcome old new
  turn_goes step items (Ok values) old new go fresh did =
      let all = each_goes step items values old new go fresh did in
      record { moves = all.0; fresh = λ _. all.1; fault = tt }
  turn_goes step items (Err fault) old new go fresh did =
      let front = each_goes step did.front did.values old did.mid go fresh did.made in
      stopped fault old new
      (behind_goes (Err fault) old did.mid new front.0 (go did.item (Err fault) did.mid new front.1 did.stops))

  follows_go : {A V : Type 0} (next : A → Step V S) (said : Outcome A) (outcome : Outcome V) (old mid new : S)
      → AllGo next → Goes course said old mid → Follows next said outcome mid new → Goes course outcome old new
  follows_go next (Ok value) outcome old mid new go first did =
      behind_goes outcome old mid new first.moves (go value outcome mid new (first.fresh refl) did)
  follows_go {V} next (Err fault) outcome old mid new go first did =
      let here : Goes course {V = V} (Err fault) old new =
      subst (λ (s : S). Goes course {V = V} (Err fault) old s) (sym did.1) (stopped fault old mid first) in
      subst (λ (o : Outcome V). Goes course o old new) (sym did.0) here

  pub then_goes : {A V : Type 0} (first : Step A S) (next : A → Step V S) (outcome : Outcome V) (old new : S)
      → ((said : Outcome A) (mid : S) → first said old mid → Goes course said old mid) → AllGo next
      → Then first next outcome old new → Goes course outcome old new
  then_goes first next outcome old new one go did =
      follows_go next did.said outcome old did.mid new go (one did.said did.mid did.begins) did.follows

  pub comes_goes : {V : Type 0} (value : V) (outcome : Outcome V) (old new : S) → course.fresh old
      → Comes value outcome old new → Goes course outcome old new
  comes_goes {V} value outcome old new fresh did =
      let here : Goes course (Ok value) old old = record { moves = course.still old; fresh = λ _. fresh; fault = tt } in
      let there : Goes course (Ok value) old new = subst (λ (s : S). Goes course (Ok value) old s) (sym did.1) here in
      subst (λ (o : Outcome V). Goes course o old new) (sym did.0) there

  -- memory ran out for what a step came to
  pub forgone : {A V : Type 0} (outcome : Outcome A) (old new : S) → Goes course outcome old new
      → Goes course {V = V} (Err NoMemory) old new
  forgone outcome old new goes =
      record { moves = goes.moves; fresh = λ ok. absurd cc; fault = course.memory old new }

  pub memory_goes : {V : Type 0} (step : Step V S) (outcome : Outcome V) (old new : S)
      → ((said : Outcome V) → step said old new → Goes course said old new)
      → InMemory step outcome old new → Goes course outcome old new
  memory_goes step (Ok value) old new go did =
      subst (λ (o : Outcome _). Goes course o old new) (sym did.2) (go did.0 did.1)
  memory_goes step (Err NoMemory) old new go did = forgone did.0 old new (go did.0 did.1)
  memory_goes step (Err fault) old new go did =
      subst (λ (o : Outcome _). Goes course o old new) (sym did.2) (go did.0 did.1)
