-- How a session ends is how the one cut of its input does, where nothing failed.
use Rattle.std.proofs.Common.{◌≡◌, ℕ, ◌<◌, ◌≤◌, List, [], ◌∷◌, ◌++◌, length, Some, refl, sym, ap, ◌∙◌, subst, arith}
use Rattle.yp_io.specs.declared.stream.Peer.{Peer}
use Rattle.yp_rpc.specs.Records.{Fragments, Cut, IsRest, IsTorn, IsLong}
use Rattle.yp_answer.specs.Numbers.{record_max}
use Rattle.yp_answer.specs.declared.session.session.End.{End}
use Rattle.yp_answer.specs.declared.session.session.End.TheVariants as ends
use Rattle.yp_answer.specs.declared.session.session.TheConstants.{CALLS_MAX}
use Rattle.yp_answer.specs.session.Hosts.{Conduct}
use Rattle.yp_answer.specs.session.Wires.{Wire}
use Rattle.yp_answer.specs.session.Runs.{Dialogue, Runs}
use Rattle.yp_command_serve.specs.Served.{BeginsWithRecords, IsStatusOf, status_of, rest_place}
use Rattle.yp_command_serve.proofs.Told.{Reaches, read_by, reached}

-- What the laws of records say, for the limit of a call.
pub record CutLaws : Type 0 where
  pub one : (limit : ℕ) (stream : List ℕ) (messages others : List (List ℕ)) (rest rest' : List ℕ)
      → Cut limit stream messages rest → Cut limit stream others rest' → (messages ≡ others) × (rest ≡ rest')
  pub front : (limit : ℕ) (message other bytes bytes' more more' : List ℕ) → Fragments limit message bytes → Fragments limit other bytes'
      → bytes ++ more ≡ bytes' ++ more' → (message ≡ other) × (more ≡ more')
  pub rest : (limit : ℕ) (message bytes more : List ℕ) → Fragments limit message bytes → IsRest limit (bytes ++ more) → ⊥

-- no more records were read than the stream has
begins_few : CutLaws → (messages others : List (List ℕ)) (stream rest behind : List ℕ) → BeginsWithRecords stream others behind → Cut record_max stream messages rest → length others ≤ length messages
begins_few laws messages [] stream rest behind h cut = omega arith
begins_few laws [] (other ∷ others) stream rest behind h cut =
    let same : h.0 ++ h.1 ≡ rest = sym h.3 ∙ cut.0 in
    absurd (laws.rest record_max other h.0 h.1 h.2 (rw same cut.1))
begins_few laws (message ∷ messages) (other ∷ others) stream rest behind h cut =
    let same = laws.front record_max other message h.0 cut.0 h.1 cut.1 h.2 cut.2 (sym h.3 ∙ cut.3) in
    let more : Cut record_max h.1 messages rest = rw same.1 cut.4 in
    omega (arith, begins_few laws messages others h.1 rest behind h.4 more)

module _ (laws : CutLaws) (stream : List ℕ) (messages : List (List ℕ)) (rest : List ℕ) (cut : Cut record_max stream messages rest) where
  -- what holds of one cut holds of the other
  same_cut : (others : List (List ℕ)) (behind : List ℕ) → Cut record_max stream others behind → length others < CALLS_MAX → (length messages < CALLS_MAX) × (behind ≡ rest)
  same_cut others behind other few =
      let same = laws.one record_max stream others messages behind rest other cut in
      (omega (arith, ap length same.0, few), same.1)

  module _ {H : Type 0} (conduct : Conduct H) (peer : Peer) (old new : Dialogue H) (wires : List Wire) (input : old.wire.source.input ≡ Some stream) (start : old.progress.place ≡ 0) where
    reaches : (end : End) (runs : Runs conduct peer CALLS_MAX end old new wires) → Reaches end stream (read_by conduct peer old new wires end runs) new.wire.source.input
    reaches end runs = reached conduct peer old new wires stream end runs input start

    pub status_of_end : (end : End) → Runs conduct peer CALLS_MAX end old new wires → (end ≡ ends.ReadFault → ⊥) → (end ≡ ends.WriteFault → ⊥) → IsStatusOf stream messages rest (status_of end)
    status_of_end ends.Clean runs reads writes =
        let r = reaches ends.Clean runs in
        let same = same_cut _ [] r.0 r.1 in
        (same.0, sym same.1)
    status_of_end (ends.Torn at) runs reads writes =
        let r = reaches (ends.Torn at) runs in
        let same = same_cut _ r.0 r.1 r.2 in
        (same.0, subst (IsTorn record_max) same.1 r.3, r.4 ∙ ap (rest_place stream) same.1)
    status_of_end (ends.TooLong at) runs reads writes =
        let r = reaches (ends.TooLong at) runs in
        let long : IsLong record_max (r.0 ++ r.1) = (r.0, r.1, r.4, refl) in
        let same = same_cut _ (r.0 ++ r.1) r.2 r.3 in
        (same.0, subst (IsLong record_max) same.1 long, r.5 ∙ ap (rest_place stream) same.1)
    status_of_end ends.ReadFault runs reads writes = absurd (reads refl)
    status_of_end ends.WriteFault runs reads writes = absurd (writes refl)
    status_of_end ends.Enough runs reads writes =
        let r = reaches ends.Enough runs in
        omega (arith, begins_few laws messages _ stream rest _ r.0.2 cut, r.1)
