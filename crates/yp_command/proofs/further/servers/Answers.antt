use Rattle.std.proofs.Common.{◌≡◌, ◌<◌, ◌≤◌, Bool, true, false, List, length, [], ◌∷◌, ◌++◌, take, refl, sym, ◌∙◌, ap}
use Rattle.std.proofs.Common.{arith}
use Rattle.std.specs.Prelude.{string_bytes, map, slice_set}
use Rattle.std.specs.List.{list_any}
use Rattle.std.proofs.lemmas.List.{length-map, map-append, take_more_set}
use Rattle.std.proofs.lemmas.Result.{err_from_is_err_and}
use Rattle.yp_io.specs.declared.stream.Peer.{Peer}
use Rattle.yp_binding.specs.Kept.{servers_max}
use Rattle.yp_binding.specs.Rounds.{is_same_peer}
use Rattle.yp_command.specs.Forms.{Host}
use Rattle.yp_command.specs.Forms as form
use Rattle.yp_command.specs.Words.{texts, host_view, is_new_server}
use Rattle.yp_command.proofs.Reading.{servers_more, servers_known, servers_wrong, new_server, known_server, last_server}
use Rattle.yp_command.proofs.further.servers.Goals as goal
use Rattle.yp_command.proofs.further.servers.Goals.{then-is_known-via-then-is_known, then-is_known-via-else-is_known+then-count-eq-SERVERS_MAX}

pub loop-i-init : goal.loop-i-init
loop-i-init c =
    let first : Host = (c.args.first.0.now, c.args.first.1) in
    (first ∷ [], c.with_host-hosts.ensures [] (ap (map host_view) c.new.ensures.items), omega arith, refl, refl)

pub loop-i-preserved : goal.loop-i-preserved
loop-i-preserved c =
    let words = texts c.args.words.words.now in
    let before = c.loop-i.invariant in
    let host = c.in_ok-host.host in
    let value : Host = (host.0.now, host.1) in
    let all : length c.loop-i.peers ≡ servers_max = omega arith in
    let known : list_any (is_same_peer host.1) (take c.loop-i.count c.loop-i.peers) ≡ false = cc in
    let new = new_server c.loop-i.peers c.loop-i.count before.0 value all before.2 before.3 known
    (λ full. c.if-count-eq-SERVERS_MAX.false full) in (
      before.0 ++ value ∷ [],
      c.with_host-hosts-in-loop-i.ensures before.0 before.1,
      omega (arith, before.2, c.if-count-eq-SERVERS_MAX.false),
      take_more_set c.loop-i.peers c.loop-i.count host.1 (omega (arith, before.2, c.if-count-eq-SERVERS_MAX.false))
          ∙ ap (λ (l : List Peer). l ++ host.1 ∷ []) before.3 ∙ sym (map-append (λ host. host.1) before.0 (value ∷ [])),
      sym (servers_more c.loop-i.i before.0 words value (sym c.in_ok-host.ensures) new) ∙ before.4,
    )

pub returns-in_err-host : goal.returns-in_err-host
returns-in_err-host c =
    let words = texts c.args.words.words.now in
    let before = c.loop-i.invariant in
    let within : c.loop-i.i < length words =
    omega (arith, c.loop-i-test.true, length-map c.args.words.words.now string_bytes) in
    let p = err_from_is_err_and c.from_residual.result c.from_residual.ensures.1 in
    rw (p.1, p.2)
    (sym before.4 ∙ servers_wrong c.loop-i.i before.0 words _ within (sym c.in_err-host.ensures))

pub returns-then-is_known : goal.returns-then-is_known
returns-then-is_known c =
    let words = texts c.args.words.words.now in
    let before = c.loop-i.invariant in
    let host = c.in_ok-host.host in
    let value : Host = (host.0.now, host.1) in
    let old : is_new_server before.0 value ≡ false =
    elim c.then-is_known.branch [
      | then-is_known-via-then-is_known w ↦
          let known : list_any (is_same_peer host.1) (take c.loop-i.count c.loop-i.peers) ≡ true = cc in
          known_server c.loop-i.peers c.loop-i.count before.0 value before.3 known
      | then-is_known-via-else-is_known+then-count-eq-SERVERS_MAX w ↦
          let all : length c.loop-i.peers ≡ servers_max = omega arith in
          let known : list_any (is_same_peer host.1) (take c.loop-i.count c.loop-i.peers) ≡ false = cc in
          last_server c.loop-i.peers c.loop-i.count before.0 value all before.3 known w.if-count-eq-SERVERS_MAX.true
    ] in
    sym before.4 ∙ servers_known c.loop-i.i before.0 words value (sym c.in_ok-host.ensures) old
