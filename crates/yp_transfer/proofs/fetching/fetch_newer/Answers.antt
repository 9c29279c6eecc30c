use Rattle.std.proofs.Common.{sym, ◌∙◌, subst, Result, Ok, Err, List, ℕ}
use Rattle.std.specs.Borrow.{Bor}
use Rattle.yp_client.specs.declared.fault.ClientFault.{ClientFault}
use Rattle.yp_client.specs.Limits.{reply_max}
use Rattle.yp_client.specs.Results.{master_of}
use Rattle.yp_client.specs.Said.{SaysBytes}
use Rattle.yp_client.specs.Asked.{master_call}
use Rattle.yp_client.specs.States.{ClientModel}
use Rattle.yp_client.specs.inside.States.{state_of}
use Rattle.yp_client.specs.Calls.{Calls}
use Rattle.yp_transfer.specs.inside.Begun.{BeginsDraft}
use Rattle.yp_transfer.proofs.Going.{master_refused, not_begun, is_begun}
use Rattle.yp_transfer.proofs.fetching.fetch_newer.Goals as goal
use Rattle.yp_transfer.proofs.fetching.fetch_newer.Goals.{in-Ok, in-Err}

pub returns-in-Ok-begun : goal.returns-in-Ok-begun
returns-in-Ok-begun g c =
    let domain = c.args.request.now.domain.now in
    let map = c.args.request.now.map.now in
    let state = state_of g.S.Source g.K.Sink in
    elim c.match-master.branch [
      | in-Ok w ↦
          let Made : Result (Bor (List ℕ)) ClientFault → Type 0 =
          λ lent. Calls reply_max (master_call domain map) (SaysBytes master_of) lent
          (state c.args.client.now) (state c.match-master.client) in
          let At : ClientModel g.row.S.Denot g.row.K.Denot → Type 0 =
          λ held. Calls reply_max (master_call domain map) (SaysBytes master_of) c.master.result
          (state c.args.client.now) (state held) in
          let calls = subst Made w.in-Ok.is (subst At (sym w.client-is) c.master.follows.holds-at-none) in
          let begins : BeginsDraft c.args.order w.in-Ok.master.now (Ok c.in-Ok-begun.builder) =
          subst (BeginsDraft c.args.order w.in-Ok.master.now) (sym w.begun-is ∙ c.in-Ok-begun.is) w.begin-begun.ensures in
          is_begun domain map c.args.order w.in-Ok.master c.in-Ok-begun.builder c.fetch_rows.result
          (state c.args.client.now) (state c.match-master.client) (state c.fetch_rows.new.client) calls begins
          c.fetch_rows.ensures
      | in-Err w ↦ absurd cc
    ]

pub returns-in-Err-begun : goal.returns-in-Err-begun
returns-in-Err-begun g c =
    let domain = c.args.request.now.domain.now in
    let map = c.args.request.now.map.now in
    let state = state_of g.S.Source g.K.Sink in
    let Made : Result (Bor (List ℕ)) ClientFault → Type 0 =
    λ lent. Calls reply_max (master_call domain map) (SaysBytes master_of) lent
    (state c.args.client.now) (state c.match-master.client) in
    let At : ClientModel g.row.S.Denot g.row.K.Denot → Type 0 =
    λ held. Calls reply_max (master_call domain map) (SaysBytes master_of) c.master.result
    (state c.args.client.now) (state held) in
    elim c.match-master.branch [
      | in-Ok w ↦
          let calls = subst Made w.in-Ok.is (subst At (sym w.client-is) c.master.follows.holds-at-none) in
          let begins : BeginsDraft c.args.order w.in-Ok.master.now (Err c.in-Err-begun.fault) =
          subst (BeginsDraft c.args.order w.in-Ok.master.now) (sym w.begun-is ∙ c.in-Err-begun.is) w.begin-begun.ensures in
          not_begun domain map c.args.order w.in-Ok.master c.in-Err-begun.fault
          (state c.args.client.now) (state c.match-master.client) calls begins
      | in-Err w ↦
          let calls = subst Made w.in-Err.is (subst At (sym w.client-is) c.master.follows.holds-at-none) in
          master_refused domain map c.args.order w.in-Err.fault c.in-Err-begun.fault
          (state c.args.client.now) (state c.match-master.client) calls cc
    ]
