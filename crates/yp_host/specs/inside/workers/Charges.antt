-- What a worker is charged with, and how charges add up.
use Rattle.std.specs.Prelude.{◌≡◌, ℕ, ◌+◌, ◌<◌, ◌≤◌, List, [], ◌++◌, Result, Ok, Err}
use Rattle.yp_io.specs.Counts.{last_count}
use Rattle.yp_messages.specs.declared.transfer.XfrStat.{XfrStat}
use Rattle.yp_messages.specs.declared.transfer.XfrStat.TheVariants as stats
use Rattle.yp_board.specs.Logs.{Log}
use Rattle.yp_publisher.specs.inside.sharing.Failures.{files_in}
use Rattle.yp_host.specs.declared.workers.call_backs.CallBack.{CallBack}
use Rattle.yp_host.specs.declared.workers.charges.Counted.{Counted}
use Rattle.yp_host.specs.declared.workers.outcome.Group.{Group}
use Rattle.yp_host.specs.declared.workers.outcome.Group.TheVariants.{File, Source, Reached}
use Rattle.yp_host.specs.declared.workers.outcome.Totals.{Totals}

-- ---- what was counted

-- what hosts have counted, whom they left what to be told, and all that they knew as they handed it over: a front of
-- what was shown
pub record Accounted : Type 0 where
  pub totals : Totals
  pub told : List CallBack
  pub reached : Log

-- what they have counted, and whom they left what to be told
abbrev pub counted_by : Accounted → Counted
counted_by account = record { totals = account.totals; told = account.told }

-- ---- what that is charged with

-- what a worker is charged with: so many texts that weren't read, files that failed, orders that were reached, sources
-- that failed, and built versions that were shown; and so many versions that it fetched and didn't install; and with
-- the call backs that it left. It has so many parts of the right to be charged.
pub record Charged : Type 0 where
  pub parts : ℕ
  pub unread : ℕ
  pub failures : ℕ
  pub orders : ℕ
  pub sources : ℕ
  pub made : ℕ
  pub versions : ℕ
  pub left : List CallBack

abbrev pub free_of_charge : ℕ → Charged
free_of_charge parts =
    record { parts = parts; unread = 0; failures = 0; orders = 0; sources = 0; made = 0; versions = 0; left = [] }

abbrev pub charged_both : Charged → Charged → Charged
charged_both one other = record {
  parts = one.parts + other.parts;
  unread = one.unread + other.unread;
  failures = one.failures + other.failures;
  orders = one.orders + other.orders;
  sources = one.sources + other.sources;
  made = one.made + other.made;
  versions = one.versions + other.versions;
  left = one.left ++ other.left;
}

-- As many makes and transfers as ended in FILE are charged, as many transfers as reached an order or had a source that
-- failed, and as many makes as were answered SUCC.
pub record TotalsAreCharged (totals : Totals) (charged : Charged) : Type 0 where
  pub files : totals.files + totals.outcomes.file ≤ charged.unread + charged.failures
  pub orders : totals.outcomes.reached ≤ charged.orders
  pub sources : totals.outcomes.source ≤ charged.sources
  pub made : totals.made ≤ charged.made

-- ---- what an answer costs

-- how much is charged for something: files, orders, sources, and built versions
pub record Cost : Type 0 where
  pub files : ℕ
  pub orders : ℕ
  pub sources : ℕ
  pub made : ℕ

abbrev pub no_cost : Cost
no_cost = record { files = 0; orders = 0; sources = 0; made = 0 }

-- At least this cost was added to the charges of a worker.
pub record ChargesMore (cost : Cost) (old new : Charged) : Type 0 where
  pub parts : new.parts ≡ old.parts
  pub files_are : old.unread + old.failures + cost.files ≤ new.unread + new.failures
  pub orders_are : old.orders + cost.orders ≤ new.orders
  pub sources_are : old.sources + cost.sources ≤ new.sources
  pub made_are : old.made + cost.made ≤ new.made

-- how many built versions a status stands for
abbrev pub made_in : XfrStat → ℕ
made_in stats.Succ = 1
made_in _ = 0

-- what the ledgers are charged with for a transfer, by what it came to: failed files, reached orders, failed sources
abbrev pub files_at : Group → ℕ
files_at File = 1
files_at _ = 0

abbrev pub orders_at : Group → ℕ
orders_at Reached = 1
orders_at _ = 0

abbrev pub sources_at : Group → ℕ
sources_at Source = 1
sources_at _ = 0

-- what the ledgers are charged with: for a make, by its status; for the installing of a fetched version, and for a
-- whole transfer, by what it came to
abbrev pub cost_of_make : XfrStat → Cost
cost_of_make stat = record { files = files_in stat; orders = 0; sources = 0; made = made_in stat }

abbrev pub cost_of_install : Group → Cost
cost_of_install group = record { files = files_at group; orders = 0; sources = 0; made = 0 }

abbrev pub cost_of_transfer : Group → Cost
cost_of_transfer group =
    record { files = files_at group; orders = orders_at group; sources = sources_at group; made = 0 }

-- how many texts weren't read, where no version was built
abbrev pub unread_in : {T : Type 0} → Result T XfrStat → ℕ
unread_in (Ok version) = 0
unread_in (Err stat) = files_in stat

-- The count of failed texts rose at least by the number of texts that workers couldn't read, unless the count stands at
-- its last value.
abbrev pub CoversUnread : (before now unread : ℕ) → Type 0
CoversUnread before now unread = now < last_count → before + unread ≤ now
