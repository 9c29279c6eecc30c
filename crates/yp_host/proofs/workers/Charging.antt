-- What is charged.
use Rattle.std.proofs.Common.{◌≡◌, ℕ, ◌+◌, List, refl, ap, ◌∙◌, arith}
use Rattle.yp_messages.specs.declared.transfer.XfrStat.{XfrStat}
use Rattle.yp_map_file.specs.declared.fault.SlotFault.TheVariants as slot
use Rattle.yp_publisher.specs.declared.install.InstallFault.TheVariants as fault
use Rattle.yp_publisher.specs.declared.sharing.locked.ShareFault.{ShareFault}
use Rattle.yp_publisher.specs.declared.sharing.locked.ShareFault.TheVariants.{Shut, Unfit, Untold}
use Rattle.yp_publisher.specs.Stats.{share_stat}
use Rattle.yp_publisher.specs.inside.sharing.Failures.{files_in, failures_in}
use Rattle.yp_publisher.specs.inside.sharing.Debits.{Debit, DebitIsCharged}
use Rattle.yp_host.specs.declared.workers.call_backs.CallBack.{CallBack}
use Rattle.yp_host.specs.inside.workers.Charges.{Charged, ChargesMore, cost_of_make, made_in}

-- ---- a status

-- a version that isn't installed is never SUCC
none_made : (why : ShareFault) → made_in (share_stat why) ≡ 0
none_made Untold = refl
none_made (Shut slot.NoMemory) = refl
none_made (Shut slot.DiskFault) = refl
none_made (Shut (slot.Damaged at rule)) = refl
none_made (Unfit fault.NoMemory) = refl
none_made (Unfit (fault.Refused master)) = refl
none_made (Unfit (fault.Age last offered)) = refl
none_made (Unfit fault.Behind) = refl
none_made (Unfit fault.GenerationsSpent) = refl
none_made (Unfit fault.DiskFault) = refl

-- ---- an install

-- what stands beside what is charged by it
abbrev pub with_debit : (parts unread orders sources : ℕ) → List CallBack → Debit → Charged
with_debit parts unread orders sources left debit = record {
  parts = parts;
  unread = unread;
  failures = debit.failures;
  orders = orders;
  sources = sources;
  made = debit.made;
  versions = debit.versions;
  left = left;
}

-- of a version that was built, and then isn't installed
pub charged_so : (why : ShareFault) (stat : XfrStat) (old : Charged) (parts unread orders sources made versions : ℕ)
    (left : List CallBack) (debit debit' : Debit) → with_debit parts unread orders sources left debit ≡ record old { unread = old.unread + 0 }
    → DebitIsCharged (failures_in why) made versions debit debit' → stat ≡ share_stat why
    → ChargesMore (cost_of_make stat) old (with_debit parts unread orders sources left debit')
charged_so why stat old parts unread orders sources made versions left debit debit' inside more is =
    let files : files_in stat ≡ failures_in why = ap files_in is in
    let none : made_in stat ≡ 0 = ap made_in is ∙ none_made why in
    let failures_are = more.failures_are in
    let made_are = more.made_are in record {
      parts = ap (λ (c : Charged). c.parts) inside;
      files_are =
          let one = ap (λ (c : Charged). c.unread) inside in
          let two = ap (λ (c : Charged). c.failures) inside in omega (arith, one, two, files, failures_are);
      orders_are = let one = ap (λ (c : Charged). c.orders) inside in omega (arith, one);
      sources_are = let one = ap (λ (c : Charged). c.sources) inside in omega (arith, one);
      made_are = let one = ap (λ (c : Charged). c.made) inside in omega (arith, one, none, made_are);
    }
