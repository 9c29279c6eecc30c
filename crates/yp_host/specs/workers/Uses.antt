-- What a server does with the dial that its workers share: whom it dials, what it asks there, and what it posts.
use Rattle.std.specs.Prelude.{◌≡◌, ℕ, false, List, [], ◌∷◌, Option, Some, slice_get}
use Rattle.yp_io.specs.Dials.{DialTells, wires_told}
use Rattle.yp_board.specs.Catalogues.{Name}
use Rattle.yp_transfer.specs.HostTable.{HostList}
use Rattle.yp_transfer.specs.Fetching.{FetchOutcome, wanted_of}
use Rattle.yp_transfer.specs.Dialing.{FetchesFrom}
use Rattle.yp_transfer.specs.CallBack.{wants_call, CallsBack}
use Rattle.yp_host.specs.declared.workers.call_backs.CallBack.{CallBack}

-- a use of a dial: a map of this name was wanted of this source behind the order that was shown, and that came of it;
-- or a caller was told a status, where it wants to be
pub data DialUse : Type 0 where
  Fetching : List ℕ → Name → Option ℕ → FetchOutcome → DialUse
  Telling : CallBack → DialUse

-- A map of this name is served.
abbrev pub IsAmong : List Name → Name → Type 0
IsAmong maps name = (number : ℕ) × (slice_get maps number ≡ Some name)

-- what a use does to a dial: a fetch of a map that is served, which isn't forced, from a host of the table posts
-- nothing, and a call back opens no wire
abbrev pub UsesDial : HostList → List Name → DialUse → DialTells → DialTells → Type 0
UsesDial hosts maps (Fetching source name shown outcome) old new =
    IsAmong maps name
    × FetchesFrom hosts source (wanted_of name.0 name.1 shown false) outcome (wires_told old) (wires_told new)
    × (new.letters ≡ old.letters)
UsesDial hosts maps (Telling call_back) old new =
    CallsBack (wants_call call_back.asker) call_back.asker call_back.stat old new

-- uses, one after the other
abbrev pub UsesInTurn : HostList → List Name → List DialUse → DialTells → DialTells → Type 0
UsesInTurn hosts maps [] old new = new ≡ old
UsesInTurn hosts maps (one ∷ more) old new =
    (next : DialTells) × UsesDial hosts maps one old next × UsesInTurn hosts maps more next new

-- who was told what among uses
abbrev pub told_in : List DialUse → List CallBack
told_in [] = []
told_in (Fetching source name shown outcome ∷ more) = told_in more
told_in (Telling call_back ∷ more) = call_back ∷ told_in more

-- A dial was used for transfers of these maps alone, from these hosts, and these callers were told this, in that order.
pub record IsUsedForTransfers (hosts : HostList) (maps : List Name) (told : List CallBack) (old new : DialTells)
    : Type 0 where
  pub uses : List DialUse
  pub in_turn : UsesInTurn hosts maps uses old new
  pub told_is : told_in uses ≡ told
