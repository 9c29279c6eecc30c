-- What was done with a dial, with one use more.
use Rattle.std.proofs.Common.{◌≡◌, ℕ, List, [], ◌∷◌, ◌++◌, Option, refl, sym, ap, ◌∙◌, subst}
use Rattle.std.proofs.lemmas.List.{append-nil, append_assoc}
use Rattle.yp_io.specs.Dials.{DialTells}
use Rattle.yp_board.specs.Catalogues.{Name}
use Rattle.yp_transfer.specs.HostTable.{HostList}
use Rattle.yp_transfer.specs.Fetching.{FetchOutcome}
use Rattle.yp_host.specs.declared.workers.call_backs.CallBack.{CallBack}
use Rattle.yp_host.specs.workers.Uses.{DialUse, Fetching, Telling, UsesDial, UsesInTurn, IsUsedForTransfers, told_in}
use Rattle.yp_host.specs.inside.workers.CallBacks.{TellsInTurn}

told_append : (uses : List DialUse) (one : DialUse) → told_in (uses ++ one ∷ []) ≡ told_in uses ++ told_in (one ∷ [])
told_append [] one = refl
told_append (Fetching source name shown outcome ∷ uses) one = told_append uses one
told_append (Telling call_back ∷ uses) one = ap (λ (l : List CallBack). call_back ∷ l) (told_append uses one)

module _ (hosts : HostList) (maps : List Name) where
  one_behind : (uses : List DialUse) (one : DialUse) (first old new : DialTells) → UsesInTurn hosts maps uses first old
      → UsesDial hosts maps one old new → UsesInTurn hosts maps (uses ++ one ∷ []) first new
  one_behind [] one first old new turns does =
      (new, subst (λ (d : DialTells). UsesDial hosts maps one d new) turns does, refl)
  one_behind (use' ∷ uses) one first old new turns does =
      (turns.0, turns.1, one_behind uses one turns.0 old new turns.2 does)

  -- before the first
  pub unused : (dial : DialTells) → IsUsedForTransfers hosts maps [] dial dial
  unused dial = record { uses = []; in_turn = refl; told_is = refl }

  -- one use more
  used_more : (one : DialUse) (told : List CallBack) (first old new : DialTells) → IsUsedForTransfers hosts maps told first old
      → UsesDial hosts maps one old new → IsUsedForTransfers hosts maps (told ++ told_in (one ∷ [])) first new
  used_more one told first old new used does = record {
    uses = used.uses ++ one ∷ [];
    in_turn = one_behind used.uses one first old new used.in_turn does;
    told_is = told_append used.uses one ∙ ap (λ (l : List CallBack). l ++ told_in (one ∷ [])) used.told_is;
  }

  -- a fetch tells nobody
  pub used_fetch : (source : List ℕ) (name : Name) (shown : Option ℕ) (outcome : FetchOutcome) (told : List CallBack)
      (first old new : DialTells) → IsUsedForTransfers hosts maps told first old
      → UsesDial hosts maps (Fetching source name shown outcome) old new → IsUsedForTransfers hosts maps told first new
  used_fetch source name shown outcome told first old new used does =
      subst (λ (l : List CallBack). IsUsedForTransfers hosts maps l first new) (append-nil told)
      (used_more (Fetching source name shown outcome) told first old new used does)

  -- callers are told, one after the other
  pub used_told : (more told : List CallBack) (first old new : DialTells) → IsUsedForTransfers hosts maps told first old
      → TellsInTurn more old new → IsUsedForTransfers hosts maps (told ++ more) first new
  used_told [] told first old new used same =
      subst (λ (l : List CallBack). IsUsedForTransfers hosts maps l first new) (sym (append-nil told))
      (subst (λ (d : DialTells). IsUsedForTransfers hosts maps told first d) (sym same) used)
  used_told (one ∷ more) told first old new used tells =
      subst (λ (l : List CallBack). IsUsedForTransfers hosts maps l first new) (append_assoc told (one ∷ []) more)
      (used_told more (told ++ one ∷ []) first tells.0 new
      (used_more (Telling one) told first old tells.0 used tells.1) tells.2)
