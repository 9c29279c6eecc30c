-- Moments that lead to one another by installs that aren't forced and by reopens, and the log at the last of them.
use Rattle.std.proofs.Common.{◌≡◌, inl, inr, ℕ, zero, suc, ◌<◌, List, [], ◌∷◌, ◌++◌, map, length, get_or, Option, refl, sym, subst, arith}
use Rattle.std.specs.List.{AllByRecursion, AllZip}
use Rattle.yp_io.specs.Disk.{History}
use Rattle.yp_board.specs.Logs.{Log, starts}
use Rattle.yp_publisher.specs.inside.Laws.{LogRises, BeginningIsStart}
use Rattle.yp_publisher.specs.Standing.{MapStanding, Level, StoredMap, At, versions}
use Rattle.yp_publisher.specs.Opens.{IsOpened}
use Rattle.yp_publisher.specs.Rising.{PublisherState, IsRisingLog}
use Rattle.yp_publisher.specs.inside.Rising.{Steps, Follow, IsStart}

-- steps lead from a moment to another
pub record Leads (first last : PublisherState) : Type 0 where
  pub moments : List PublisherState
  pub follow : Follow first (moments ++ last ∷ [])

pub leads_one : (first last : PublisherState) → Steps first last → Leads first last
leads_one first last step = record { moments = []; follow = (step, tt) }

pub leads_none : (first last : PublisherState) → last ≡ first → Leads first last
leads_none first last same = leads_one first last (inr (0, inl same))

follow_then : (a b c : PublisherState) (first second : List PublisherState) → Follow a (first ++ b ∷ []) → Follow b (second ++ c ∷ []) → Follow a ((first ++ b ∷ second) ++ c ∷ [])
follow_then a b c [] second f s = (f.0, s)
follow_then a b c (next ∷ first) second f s = (f.0, follow_then next b c first second f.1 s)

pub leads_then : (a b c : PublisherState) → Leads a b → Leads b c → Leads a c
leads_then a b c first second = record { moments = first.moments ++ b ∷ second.moments; follow = follow_then a b c first.moments second.moments first.follow second.follow }

last_of : (P : PublisherState → Type 0) (moments : List PublisherState) (last : PublisherState) → AllByRecursion P (moments ++ last ∷ []) → P last
last_of P [] last all = all.0
last_of P (moment ∷ moments) last all = last_of P moments last all.1

-- maps that were opened are level
levels : {D : Type 0} (history : D → Option History) (faults : D → ℕ) (disks : List D) (maps : List (StoredMap D)) → AllZip (IsOpened history faults) disks maps
    → (k : ℕ) (d : MapStanding) → k < length (map (λ (kept : StoredMap D). kept.standing) maps) → get_or (map (λ (kept : StoredMap D). kept.standing) maps) k d ≡ Level
levels history faults [] [] each k d lt = absurd (omega (arith, lt))
levels history faults [] (kept ∷ maps) each k d lt = absurd each
levels history faults (disk ∷ disks) [] each k d lt = absurd each
levels history faults (disk ∷ disks) (kept ∷ maps) each zero d lt = each.0.level
levels history faults (disk ∷ disks) (kept ∷ maps) each (suc k) d lt = levels history faults disks maps each.1 k d (omega (arith, lt))

-- from maps that were just opened a log rises
pub rises_from : LogRises → BeginningIsStart → {D : Type 0} (history : D → Option History) (faults : D → ℕ) (disks : List D) (maps : List (StoredMap D)) (first last : Log) (standings : List MapStanding)
    → AllZip (IsOpened history faults) disks maps → first ≡ starts 0 (versions maps)
    → Leads (record { log = first; standings = map (λ kept. kept.standing) maps }) (record { log = last; standings = standings }) → IsRisingLog last
rises_from rises start {D} history faults disks maps first last standings opened begins leads =
    let levelled = map (λ (kept : StoredMap D). kept.standing) maps in
    let is : IsStart (record { log = first; standings = levelled }) =
    subst (λ (log : Log). IsStart (record { log = log; standings = levelled })) (sym begins) (start (versions maps) levelled (levels history faults disks maps opened)) in
    let now : PublisherState = record { log = first; standings = levelled } in
    last_of (λ moment. IsRisingLog moment.log) (now ∷ leads.moments) (record { log = last; standings = standings }) (rises now (leads.moments ++ record { log = last; standings = standings } ∷ []) is leads.follow)

-- maps that all stand as they stood
pub stand_same : {D : Type 0} (old new : List (StoredMap D)) → length new ≡ length old → ((number : ℕ) → At number old new (λ before after. after.standing ≡ before.standing))
    → map (λ (kept : StoredMap D). kept.standing) new ≡ map (λ (kept : StoredMap D). kept.standing) old
stand_same [] [] count same = refl
stand_same [] (kept ∷ new) count same = absurd (omega (arith, count))
stand_same (kept ∷ old) [] count same = absurd (omega (arith, count))
stand_same (before ∷ old) (after ∷ new) count same =
    rw (same 0, stand_same old new (omega (arith, count)) (λ number. same (suc number))) refl
