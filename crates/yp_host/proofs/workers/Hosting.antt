-- What a host of a worker does, as every host.
use Rattle.std.proofs.Common.{◌≡◌, ℕ, List, Option, refl, sym, ◌∙◌, ap, subst}
use Rattle.yp_messages.specs.declared.transfer.XfrStat.{XfrStat}
use Rattle.yp_messages.specs.declared.transfer.XfrStat.TheVariants.{Succ, Age, Nomap, Nodom, Rsrc, Rpc, Maddr, Yperr, Badargs, Dbm, File, Skew, Clear, Force, Xfrerr, Refused}
use Rattle.yp_board.specs.Catalogues.{Catalogue}
use Rattle.yp_board.specs.Views.{Seen}
use Rattle.yp_answer.specs.declared.make.MakeJob.{MakeJob}
use Rattle.yp_transfer.specs.HostTable.{HostList}
use Rattle.yp_answer.specs.session.Hosts.{Counts, Conduct, conduct_of, counts_after, Fulfils}
use Rattle.yp_publisher.specs.sharing.Shares.{Learns}
use Rattle.yp_host.specs.declared.workers.call_backs.CallBack.{CallBack}
use Rattle.yp_host.specs.workers.Makings.{IsMadeSo}
use Rattle.yp_host.specs.workers.Desks.{texts_alone}
use Rattle.yp_host.specs.workers.Workers.{WorkerState, counts_of, files_after, made_after, Stepped, WorkerMakesMap, WorkerTransfersMap}
use Rattle.yp_host.proofs.workers.Causing.{is_caused}
use Rattle.yp_host.proofs.workers.Learning.{learns_maps}

-- what a status counts
counted : (counts : Counts) (stat : XfrStat)
    → record { files = files_after counts.files stat; transfers = counts.transfers } ≡ counts_after counts stat
counted counts Succ = refl
counted counts Age = refl
counted counts Nomap = refl
counted counts Nodom = refl
counted counts Rsrc = refl
counted counts Rpc = refl
counted counts Maddr = refl
counted counts Yperr = refl
counted counts Badargs = refl
counted counts Dbm = refl
counted counts File = refl
counted counts Skew = refl
counted counts Clear = refl
counted counts Force = refl
counted counts Xfrerr = refl
counted counts Refused = refl

module _ {V : Type 0} (seen : V → Seen) (stepped : V → V → Type 0) (text : List ℕ → Option (List ℕ)) (hosts : HostList) where
  abbrev conduct : Conduct (WorkerState V)
  conduct = conduct_of (λ host. seen host.reader) (λ host. texts_alone text) counts_of (Stepped stepped) (WorkerMakesMap seen text)
      (WorkerTransfersMap seen hosts)

  fulfilled : (job : MakeJob) (stat : XfrStat) (old new : WorkerState V) → WorkerMakesMap seen text job stat old new
      → Fulfils conduct job stat old new
  fulfilled job stat old new made = record {
    made = made;
    cause = is_caused (texts_alone text) (seen old.reader).catalogue job stat (seen old.reader).known (seen new.reader).known made.made;
    catalogue = learns_maps (seen old.reader) (seen new.reader) (seen old.reader).catalogue made.learned refl;
    grown = made.learned.grown;
    counted = ap counts_of made.counted ∙ counted (counts_of old) stat;
  }

  -- the same from a host inside, whose reader learned and whose counts rose
  pub made_from : (job : MakeJob) (stat : XfrStat) (inside old : WorkerState V) (catalogue : Catalogue) (reader : V) (files made : ℕ)
      (told : List CallBack)
      → inside ≡ old → (seen inside.reader).catalogue ≡ catalogue
      → IsMadeSo (texts_alone text) catalogue job stat (seen inside.reader).known (seen reader).known
      → Learns (seen inside.reader) (seen reader) → files ≡ files_after inside.files stat → made ≡ made_after inside.made stat
      → told ≡ inside.told
      → Fulfils conduct job stat old (record inside { reader = reader; files = files; made = made; told = told })
  made_from job stat inside old catalogue reader files made told is maps makes learned counts others same =
      let new : WorkerState V = record inside { reader = reader; files = files; made = made; told = told } in
      subst (λ (o : WorkerState V). Fulfils conduct job stat o new) is
      (fulfilled job stat inside new record {
        made = subst (λ (k : Catalogue). IsMadeSo (texts_alone text) k job stat (seen inside.reader).known (seen reader).known) (sym maps) makes;
        learned = learned;
        counted = ap (λ (n : ℕ). record inside { reader = reader; files = n; made = made; told = told }) counts
            ∙ ap (λ (n : ℕ). record inside { reader = reader; files = files_after inside.files stat; made = n; told = told }) others
            ∙ ap (λ (l : List CallBack). record inside { reader = reader; files = files_after inside.files stat; made = made_after inside.made stat; told = l }) same;
      })
