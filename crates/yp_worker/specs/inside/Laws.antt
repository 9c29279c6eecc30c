-- What holds of sums, whatever the listener, and of carriers.
use Rattle.std.specs.Prelude.{◌≡◌, ℕ, [], ◌++◌, map}
use Rattle.yp_board.specs.Logs.{Log}
use Rattle.yp_board.specs.Views.{IsFront}
use Rattle.yp_answer.specs.session.Hosts.{Conduct}
use Rattle.yp_worker.specs.Receptions.{Terms, ListenTells}
use Rattle.yp_rpc.specs.Turns.{InboxTells}
use Rattle.yp_worker.specs.Summing.{Counting, SumsUp}
use Rattle.yp_worker.specs.datagrams.Mailing.{held_behind}
use Rattle.yp_worker.specs.datagrams.Carrying.{left_for}
use Rattle.yp_worker.specs.inside.Mailing.{Carrying, CarriesOn}

-- What connections were answered on, as fronts of one log, is so of each log of which that one is a front.
abbrev pub SumsReachFurther : {H T : Type 0} → Conduct H → Counting H T → Type 0
SumsReachFurther {H} {T} conduct counting =
    (terms : Terms) (old now : ListenTells) (calls : ℕ) (sum : T) (reached log : Log)
    → SumsUp conduct counting terms old now (record { calls = calls; sum = sum; reached = reached })
    → IsFront reached log
    → SumsUp conduct counting terms old now (record { calls = calls; sum = sum; reached = log })

-- A carrier that took in what servers held between two times has done what it did in both.
abbrev pub CarriersGoOn : {I H T : Type 0} → Conduct H → (H → T) → (I → InboxTells) → (I → ℕ) → Type 0
CarriersGoOn {I} {H} {T} conduct counted box faults =
    (a b mid c : Carrying I H) → CarriesOn conduct counted box faults a b → mid ≡ record b { holding = mid.holding }
    → (second : CarriesOn conduct counted box faults mid c)
    → CarriesOn conduct counted box faults a
    (record c { holding = held_behind b.holding [] (map left_for (second.steps ++ second.unsent)) })
