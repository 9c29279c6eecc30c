-- A listener that workers share, and what lies under its lock.
use Rattle.std.specs.Prelude.{◌≡◌, ◌⊎◌, ℕ, ◌+◌, ◌<◌, ◌≤◌, Bool, true, List, ◌++◌, length, fold, Contains}
use Rattle.std.specs.Prelude.{Option, None, Some, IfSome, ⊤}
use Rattle.yp_io.specs.Counts.{HasRisen, capped}
use Rattle.yp_board.specs.Catalogues.{Catalogue}
use Rattle.yp_board.specs.Logs.{Log}
use Rattle.yp_board.specs.Views.{IsFront}
use Rattle.yp_answer.specs.session.Hosts.{Conduct}
use Rattle.yp_io.specs.Dials.{Connected}
use Rattle.yp_io.specs.Calls.{ListenerHistory, ClosedConnection}
use Rattle.yp_io.specs.declared.hall.Hall as hall
use Rattle.yp_worker.specs.Working.{Working}

-- what every connection gets: the maps, what was shown before the first came, and the most records of one
pub record Terms : Type 0 where
  pub catalogue : Catalogue
  pub starts : Log
  pub most : ℕ

abbrev pub terms_of : Catalogue → Log → ℕ → Terms
terms_of catalogue starts most = record { catalogue = catalogue; starts = starts; most = most }

-- A worker serves these maps, knows what was shown at the start, and answers so many records.
pub record IsUnder {H : Type 0} (conduct : Conduct H) (terms : Terms) (worker : Working H) : Type 0 where
  pub catalogue : (conduct.seen worker.host).catalogue ≡ terms.catalogue
  pub knows : IsFront terms.starts (conduct.seen worker.host).known
  pub most : worker.most ≡ terms.most

-- how many connections these closers have closed
abbrev pub closed_in : List (List ClosedConnection) → ℕ
closed_in closed = fold (λ count more. count + length more) 0 closed

-- A listener gained connections, the first ones of those that were to come, and took in closers that have closed all
-- but so many.
pub record GainsConnections (old new : ListenerHistory) (out : ℕ) : Type 0 where
  pub came : List Connected
  pub to_come : old.coming ≡ came ++ new.coming
  pub more_came : new.came ≡ old.came ++ came
  pub gone : ℕ
  pub more_closed : closed_in new.closed ≡ closed_in old.closed + gone
  pub all : length came ≡ gone + out

-- A listener that told its connections still tells them, and has gained connections so.
abbrev pub GainsWhereTold : Option ListenerHistory → Option ListenerHistory → ℕ → Type 0
GainsWhereTold None now out = ⊤
GainsWhereTold (Some old) None out = ⊥
GainsWhereTold (Some old) (Some now) out = GainsConnections old now out

-- A connection is one of those that were to come, where they are told.
abbrev pub IsExpected : Option ListenerHistory → Connected → Type 0
IsExpected past wire = IfSome past (λ calls. Contains calls.coming wire)

-- a listener: what it tells, how many connections it is to accept and has accepted, how many were closed by closers
-- that it took in, how many its watches let go, and how often it has failed
pub record ListenTells : Type 0 where
  pub past : Option ListenerHistory
  pub most : ℕ
  pub accepted : ℕ
  pub returned : ℕ
  pub let_go : ℕ
  pub faults : ℕ

abbrev pub opening_by : {L X Y Z W V : Type 0} → hall.Ghosts L X Y Z W V → L → ListenTells
opening_by ghosts listener = record {
  past = ghosts.past listener;
  most = ghosts.most listener;
  accepted = ghosts.accepted listener;
  returned = ghosts.returned listener;
  let_go = ghosts.let_go listener;
  faults = ghosts.faults listener;
}

-- As many connections came as the listener accepted since, and all but so many of them were closed by closers that it
-- took in.
pub record Accepts (old new : ListenTells) (connections out : ℕ) : Type 0 where
  pub count : ℕ
  pub gone : ℕ
  pub accepted : new.accepted ≡ old.accepted + count
  pub connections_are : connections ≡ capped 0 count
  pub all : count ≡ gone + out
  pub returned : capped new.returned 0 ≡ capped old.returned gone

-- Workers end where all connections were accepted, or an accept or the handing out of a watch has failed.
abbrev pub AcceptsNoMore : Bool → ListenTells → Type 0
AcceptsNoMore failed now = (failed ≡ true) ⊎ (now.accepted ≡ now.most)

-- What is so whenever the lock is got.
pub record IsListenerState (old now : ListenTells) (connections : ℕ) (failed : Bool) (out ended : ℕ) : Type 0 where
  pub most : now.most ≡ old.most
  pub accepts : Accepts old now connections out
  pub tells : GainsWhereTold old.past now.past out
  pub never_falls : old.faults ≤ now.faults
  pub fault : failed ≡ true → HasRisen old.faults now.faults
  pub over : 0 < ended → AcceptsNoMore failed now
