-- What lies under the lock of a listener, and whom it lets in.
use Rattle.std.specs.Prelude.{◌≡◌, ℕ, ◌+◌, Bool}
use Rattle.std.specs.Prelude.{Option, ⊤}
use Rattle.yp_board.specs.Catalogues.{Catalogue}
use Rattle.yp_board.specs.Logs.{Log}
use Rattle.yp_io.specs.Calls.{ListenerHistory, Halves, IsFreshCall, came_by}
use Rattle.yp_io.specs.declared.called.Called.{Called}
use Rattle.yp_worker.specs.declared.listening.Admission.{Admission}
use Rattle.yp_worker.specs.declared.listening.Admission.TheVariants.{Came, Left, NotNow, Closed, Failed}
use Rattle.yp_worker.specs.Receptions.{Terms, terms_of, IsExpected, ListenTells}
use Rattle.yp_worker.specs.inside.GuestStates.{WaitingGuest}

-- the terms of a reception
abbrev pub terms_by : record {
  name : ℕ;
  parts : ℕ;
  catalogue : Catalogue;
  starts : Log;
  most : ℕ;
  opening :
      ListenTells;
}
    → Terms
terms_by reception = terms_of reception.catalogue reception.starts reception.most

-- what the lock of a listener keeps: the listener, how many connections came by it and how many records of those that
-- were closed were read, each up to the last count, whether an accept or a watch has failed, how many are out with
-- workers that haven't ended yet or wait between two workers, how many workers have ended, and how many wait so
pub record ListenerState (L : Type 0) : Type 0 where
  pub listen : L
  pub connections : ℕ
  pub calls : ℕ
  pub failed : Bool
  pub out : ℕ
  pub ended : ℕ
  pub waiting : ℕ

-- what a worker holds of a listener: its parts of the right to know how many connections are out, how many it accepted
-- since its closer was last taken in, and how often it has ended
pub record Passed : Type 0 where
  pub parts : ℕ
  pub out : ℕ
  pub ended : ℕ

-- A connection is as it came, and one of those that were to come.
pub record IsExpectedCall {S K : Type 0} (halves : Halves S K) (past : Option ListenerHistory)
    (call : Called S K) : Type 0 where
  pub fresh : IsFreshCall halves call
  pub expected : IsExpected past (came_by halves call)

-- A connection that came, of which P holds, is one more that is out with the worker, and so is one that another worker
-- had left, of which Q holds; and where none came the worker has ended once more.
abbrev pub Admits : {S K G F : Type 0} → (Called S K → Type 0) → (WaitingGuest S K F → Type 0) → Admission S K G F
    → Passed → Passed → Type 0
Admits P Q (Came call connection) old new = P call × (new ≡ record old { out = old.out + 1 })
Admits P Q (Left waiting) old new = Q waiting × (new ≡ record old { out = old.out + 1 })
Admits P Q NotNow old new = new ≡ old
Admits P Q Closed old new = new ≡ record old { ended = old.ended + 1 }
Admits P Q Failed old new = new ≡ record old { ended = old.ended + 1 }

-- It is no guest that another worker left.
abbrev pub IsNotLeft : {S K G F : Type 0} → Admission S K G F → Type 0
IsNotLeft (Left waiting) = ⊥
IsNotLeft _ = ⊤
