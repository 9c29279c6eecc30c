-- Why a map that a worker made has its status.
use Rattle.std.proofs.Common.{◌≡◌, ◌≢◌, ℕ, ◌+◌, ◌≤◌, true, List, [], ◌∷◌, Option, Some, None, is_some}
use Rattle.std.proofs.Common.{arith, refl, sym, ◌∙◌, ap, subst, false}
use Rattle.std.proofs.lemmas.List.{append-nil}
use Rattle.std.specs.Option.{option_map_or}
use Rattle.yp_messages.specs.declared.transfer.XfrStat.{XfrStat}
use Rattle.yp_messages.specs.declared.transfer.XfrStat.TheVariants.{Succ, Age, Nomap, Nodom, Rsrc, Rpc, Maddr, Yperr, Badargs, Dbm, File, Skew, Clear, Force, Xfrerr, Refused}
use Rattle.yp_version.specs.Versions.{MapVersion}
use Rattle.yp_map_file.specs.declared.fault.SlotFault.TheVariants as slot
use Rattle.yp_board.specs.Catalogues.{Catalogue}
use Rattle.yp_board.specs.Logs.{Log, shown}
use Rattle.yp_board.specs.Views.{IsFront}
use Rattle.yp_board.specs.Between.{Between}
use Rattle.yp_texts.specs.Builds.{order_max}
use Rattle.yp_texts.specs.After.{other_master, HasLaterOrder}
use Rattle.yp_texts.specs.inside.Laws.{BuiltIsBuiltBehind}
use Rattle.yp_publisher.specs.declared.install.Origin.TheVariants.{Built}
use Rattle.yp_publisher.specs.declared.install.InstallFault.TheVariants as fault
use Rattle.yp_publisher.specs.Installs.{offer, not_following}
use Rattle.yp_publisher.specs.Rising.{with_shown}
use Rattle.yp_answer.specs.declared.make.Making.{Making}
use Rattle.yp_answer.specs.declared.make.Making.TheVariants.{Text, Netgroups}
use Rattle.yp_answer.specs.inside.Make.{IsMadeAsNamed}
use Rattle.yp_answer.specs.declared.make.MakeJob.{MakeJob}
use Rattle.yp_answer.specs.Causes.{Told, IsAnew, IsCaused, RowIsBad, NetgroupsAreMissing, task_of, task_at}
use Rattle.yp_host.specs.Anew.{IsUnbuilt}
use Rattle.yp_publisher.specs.declared.sharing.locked.ShareFault.{ShareFault}
use Rattle.yp_publisher.specs.declared.sharing.locked.ShareFault.TheVariants.{Shut, Unfit, Untold}
use Rattle.yp_publisher.specs.sharing.Shares.{offer_behind, IsShownBehind}
use Rattle.yp_publisher.specs.sharing.Shares.{IsReason}
use Rattle.yp_publisher.specs.sharing.Sources.{Building}
use Rattle.yp_publisher.specs.inside.sharing.Sources.{marked_behind, IsBuiltThere}
use Rattle.yp_host.specs.workers.Desks.{texts_alone}
use Rattle.yp_publisher.specs.Stats.{share_stat}
use Rattle.yp_host.specs.workers.Makings.{IsShownLast, IsMadeSo}
use Rattle.yp_host.specs.inside.workers.Makings.{SiteBuilds, height, IsOvertaken}
use Rattle.yp_host.proofs.Reversing.{row_is_bad, none_shown, made_behind}
use Rattle.yp_host.proofs.workers.Reasons.{followed, of_another, not_lower}
use Rattle.yp_host.proofs.workers.Learning.{front_same, front_then}

-- a master is another's
another : (master : Option (List ℕ)) → is_some master ≡ true → (name : List ℕ) × (master ≡ Some name)
another None e = absurd cc
another (Some name) e = (name, refl)

-- ---- why none is built

pub unmade : (text : List ℕ → Option (List ℕ)) (faults faults' : ℕ) (served : Catalogue) (job : MakeJob) (log : Log) (stat : XfrStat)
    → IsUnbuilt (texts_alone text) faults faults' (task_at served job log) stat
    → IsMadeSo (texts_alone text) served job stat log log
unmade text faults faults' served job log Refused none =
    let master = another (other_master served.own (shown job.map log)) none in (log, front_same log, master.0, master.1)
unmade text faults faults' served job log Age none = (log, front_same log, none.1)
unmade text faults faults' served job log Dbm none =
    row_is_bad (texts_alone text) served job job.making log log log (front_same log) (front_same log) none.1
unmade text faults faults' served job log File none = tt
unmade text faults faults' served job log Rsrc none = tt
unmade text faults faults' served job log Succ none = absurd none
unmade text faults faults' served job log Nomap none =
    none_shown served job job.making log log log (front_same log) (front_same log) none.1
unmade text faults faults' served job log Nodom none = absurd none
unmade text faults faults' served job log Rpc none = absurd none
unmade text faults faults' served job log Maddr none = absurd none
unmade text faults faults' served job log Yperr none = absurd none
unmade text faults faults' served job log Badargs none = absurd none
unmade text faults faults' served job log Skew none = absurd none
unmade text faults faults' served job log Clear none = absurd none
unmade text faults faults' served job log Force none = absurd none
unmade text faults faults' served job log Xfrerr none = absurd none

-- ---- what is shown

-- a version that was made of what a log shows was made so behind whatever it follows
module _ (law : BuiltIsBuiltBehind) (text : List ℕ → Option (List ℕ)) (served : Catalogue) (job : MakeJob) (at : Log) (before : Option MapVersion)
    (version : MapVersion) (anew : IsAnew (texts_alone text) (task_of served job at before) version)
    (most : version.order ≤ order_max) where
  anew_behind : (last : Option MapVersion) → not_following served.own (offer (marked_behind version last) Built false) last ≡ None
      → IsAnew (texts_alone text) (task_of served job at last) (marked_behind version last)
  anew_behind last follows =
      let found = followed served.own (marked_behind version last) last follows in
      made_behind law (texts_alone text) refl (task_of served job at before).matter served.own before last version anew most found.0 found.1

pub built_there : BuiltIsBuiltBehind → (text : List ℕ → Option (List ℕ)) (served : Catalogue) (job : MakeJob) (at : Log)
    (version : MapVersion)
    → IsAnew (texts_alone text) (task_at served job at) version → version.order ≤ order_max
    → IsMadeAsNamed served job → (Is : Building) → SiteBuilds text served Is
    → IsBuiltThere Is at job.map served.own version Built
built_there law text served job at version anew most named Is builds = (
  at,
  front_same at,
  λ last follows. builds at job.map last (marked_behind version last) (
      subst (λ (m : Making). IsAnew (texts_alone text) (task_of served (record job { making = m }) at last) (marked_behind version last)) named
      (anew_behind law text served job at (shown job.map at) version anew most last follows)
      ),
)

pub shown_last : BuiltIsBuiltBehind → (text : List ℕ → Option (List ℕ)) (served : Catalogue) (job : MakeJob) (version : MapVersion) (old new : Log)
    → IsAnew (texts_alone text) (task_at served job old) version → version.order ≤ order_max
    → IsShownBehind served.own job.map version Built old new → IsShownLast (texts_alone text) served job old new
shown_last law text served job version old new anew most s =
    let last = shown job.map s.before in
    let offered = (offer_behind job.map version Built s.before).version in record {
      version = offered;
      before = s.before;
      begins = s.begins;
      anew = record {
        log = old;
        begins = front_same old;
        goes_on = s.begins;
        holds = anew_behind law text served job old (shown job.map old) version anew most last s.follows;
      };
      over = (followed served.own offered last s.follows).1;
      entry = s.entry;
    }

-- ---- why a version isn't installed

pub unfit : (told : Told) (served : Catalogue) (job : MakeJob) (version : MapVersion) (why : ShareFault) (old new : Log)
    → IsReason served.own job.map version Built why new → share_stat why ≢ Age → IsMadeSo told served job (share_stat why) old new
unfit told served job version Untold old new h n = tt
unfit told served job version (Shut slot.NoMemory) old new h n = tt
unfit told served job version (Shut slot.DiskFault) old new h n = tt
unfit told served job version (Shut (slot.Damaged at rule)) old new h n = tt
unfit told served job version (Unfit fault.NoMemory) old new h n = tt
unfit told served job version (Unfit (fault.Refused master)) old new h n =
    let name = of_another served.own (offer_behind job.map version Built new).version (shown job.map new) master.items h in
    (new, front_same new, name.0, name.1)
unfit told served job version (Unfit (fault.Age last offered)) old new h n = absurd (n refl)
unfit told served job version (Unfit fault.Behind) old new h n = absurd h
unfit told served job version (Unfit fault.GenerationsSpent) old new h n = tt
unfit told served job version (Unfit fault.DiskFault) old new h n = tt

-- the height of what is shown is at most an order that is over it
height_under : (last : Option MapVersion) (version : MapVersion) → HasLaterOrder last version
    → option_map_or (λ (v : MapVersion). v.order + 1) last 0 ≤ version.order
height_under None version h = omega arith
height_under (Some last) version h = omega (arith, h)

pub overtaken : (own : List ℕ) (number : ℕ) (version : MapVersion) (why : ShareFault) (old new : Log)
    → HasLaterOrder (shown number old) version → version.order ≤ order_max
    → IsReason own number version Built why new → share_stat why ≡ Age → IsOvertaken number old new
overtaken own number version (Unfit (fault.Age last offered)) old new over most h e =
    let stands = not_lower own (offer_behind number version Built new).version (shown number new) last offered h in
    let under = height_under (shown number old) version over in
    let above : height number new ≡ stands.0.order + 1 = ap (λ (o : Option MapVersion). option_map_or (λ (v : MapVersion). v.order + 1) o 0) stands.1 in
    let least = stands.2 in
    (omega (arith, above, under, least), omega (arith, under, most))
overtaken own number version Untold old new over most h e = absurd (cc)
overtaken own number version (Shut slot.NoMemory) old new over most h e = absurd (cc)
overtaken own number version (Shut slot.DiskFault) old new over most h e = absurd (cc)
overtaken own number version (Shut (slot.Damaged at rule)) old new over most h e = absurd (cc)
overtaken own number version (Unfit fault.NoMemory) old new over most h e = absurd (cc)
overtaken own number version (Unfit (fault.Refused master)) old new over most h e = absurd (cc)
overtaken own number version (Unfit fault.Behind) old new over most h e = absurd (cc)
overtaken own number version (Unfit fault.GenerationsSpent) old new over most h e = absurd (cc)
overtaken own number version (Unfit fault.DiskFault) old new over most h e = absurd (cc)

-- ---- a log before

between_later : {P : Log → Type 0} (first old new : Log) → IsFront first old → Between old new P → Between first new P
between_later first old new front h = record {
  log = h.log;
  begins = front_then first old h.log front h.begins;
  goes_on = h.goes_on;
  holds = h.holds;
}

missing_later : (served : Catalogue) (job : MakeJob) (making : Making) (first old new : Log) → IsFront first old
    → NetgroupsAreMissing served job making old new → NetgroupsAreMissing served job making first new
missing_later served job (Text reading) first old new front h = absurd h
missing_later served job (Netgroups field) first old new front h = between_later first old new front h

bad_later : (told : Told) (served : Catalogue) (job : MakeJob) (making : Making) (first old new : Log) → IsFront first old
    → RowIsBad told served job making old new → RowIsBad told served job making first new
bad_later told served job (Text reading) first old new front h = h
bad_later told served job (Netgroups field) first old new front h = between_later first old new front h

pub made_later : (told : Told) (served : Catalogue) (job : MakeJob) (stat : XfrStat) (first old new : Log) → IsFront first old
    → IsMadeSo told served job stat old new → IsMadeSo told served job stat first new
made_later told served job Succ first old new front h = record {
  version = h.version;
  before = h.before;
  begins = front_then first old h.before front h.begins;
  anew = record {
    log = h.anew.log;
    begins = front_then first old h.anew.log front h.anew.begins;
    goes_on = h.anew.goes_on;
    holds = h.anew.holds;
  };
  over = h.over;
  entry = h.entry;
}
made_later told served job Age first old new front h = h
made_later told served job Nomap first old new front h = missing_later served job job.making first old new front h
made_later told served job Nodom first old new front h = h
made_later told served job Rsrc first old new front h = h
made_later told served job Rpc first old new front h = h
made_later told served job Maddr first old new front h = h
made_later told served job Yperr first old new front h = h
made_later told served job Badargs first old new front h = h
made_later told served job Dbm first old new front h = bad_later told served job job.making first old new front h
made_later told served job File first old new front h = h
made_later told served job Skew first old new front h = h
made_later told served job Clear first old new front h = h
made_later told served job Force first old new front h = h
made_later told served job Xfrerr first old new front h = h
made_later told served job Refused first old new front h = h

pub is_caused : (told : Told) (served : Catalogue) (job : MakeJob) (stat : XfrStat) (old new : Log) → IsMadeSo told served job stat old new
    → IsCaused told served job stat old new
is_caused told served job Succ old new h = record {
  version = h.version;
  before = h.before;
  entry = ([], h.entry ∙ sym (append-nil (with_shown job.map h.version h.before)));
  anew = record {
    log = h.anew.log;
    begins = h.anew.begins;
    goes_on = front_then h.anew.log h.before new h.anew.goes_on ((job.map, h.version) ∷ [], h.entry);
    holds = h.anew.holds;
  };
  over = record { log = h.before; begins = h.begins; goes_on = ((job.map, h.version) ∷ [], h.entry); holds = h.over };
}
is_caused told served job Age old new h = h
is_caused told served job Nomap old new h = h
is_caused told served job Nodom old new h = h
is_caused told served job Rsrc old new h = h
is_caused told served job Rpc old new h = h
is_caused told served job Maddr old new h = h
is_caused told served job Yperr old new h = h
is_caused told served job Badargs old new h = h
is_caused told served job Dbm old new h = h
is_caused told served job File old new h = h
is_caused told served job Skew old new h = h
is_caused told served job Clear old new h = h
is_caused told served job Force old new h = h
is_caused told served job Xfrerr old new h = h
is_caused told served job Refused old new h = h
