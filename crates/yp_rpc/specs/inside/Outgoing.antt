-- What is owed to a sink that is never waited for.
use Rattle.std.specs.Prelude.{◌≡◌, ◌<◌, ◌≤◌, ℕ, Bool, IsTrue, List, [], ◌++◌, length, take, Option, Some, None}
use Rattle.std.specs.Io.KnownBytes.{Appends, Keeps}
use Rattle.yp_rpc.specs.declared.record.outgoing.Payment.{Payment}
use Rattle.yp_rpc.specs.declared.record.outgoing.Payment.TheVariants.{Whole, Part, NotNow}

-- a sink, what is owed to it, whether that was flushed since it was written, and how often memory ran out
pub record Owing (K : Type 0) : Type 0 where
  pub sink : K
  pub owed : List ℕ
  pub flushed : Bool
  pub faults : ℕ

-- some of what was owed was taken
pub record Pays (before after : Option (List ℕ)) (old new : List ℕ) : Type 0 where
  pub gave : List ℕ
  pub took : Appends before after gave
  pub owed : old ≡ gave ++ new

-- Where all is paid, nothing is owed, and the sink has passed it on; where a part is, less is owed; and else as much.
abbrev pub IsPaid : {K : Type 0} → (K → Bool) → Owing K → Owing K → Payment → Type 0
IsPaid flushed old new Whole = (new.owed ≡ []) × IsTrue (flushed new.sink)
IsPaid flushed old new Part = length new.owed < length old.owed
IsPaid flushed old new NotNow = new.owed ≡ old.owed

-- Some of a piece was taken at once, where nothing was owed; or the sink keeps what it took.
abbrev pub Takes : Option ℕ → Option (List ℕ) → Option (List ℕ) → List ℕ → List ℕ → Type 0
Takes (Some n) before after piece owed =
    (owed ≡ []) × (0 < n) × (n ≤ length piece) × Appends before after (take n piece)
Takes None before after piece owed = Keeps before after

-- the same, and nothing else changed
pub record Passes {K : Type 0} (output : K → Option (List ℕ)) (faults : K → ℕ) (taken : Option ℕ) (piece : List ℕ)
    (old new : Owing K) : Type 0 where
  pub takes : Takes taken (output old.sink) (output new.sink) piece old.owed
  pub same : new ≡ record old { sink = new.sink }
  pub never_falls : faults old.sink ≤ faults new.sink
