-- What a wire tells: its source and its sink.
use Rattle.std.specs.Prelude.{◌≡◌, ◌≤◌, ℕ, Bool, List, ◌++◌, Option}
use Rattle.yp_io.specs.declared.stream.Source as source
use Rattle.yp_io.specs.declared.stream.Sink as sink
use Rattle.yp_io.specs.declared.stream.Pair.{Pair}

-- what is left of the input, where it is told, and how often the source has failed
pub record SourceTells : Type 0 where
  pub input : Option (List ℕ)
  pub faults : ℕ

-- what the output has taken, where it is told, whether it was flushed since, and how often the sink has failed
pub record SinkTells : Type 0 where
  pub output : Option (List ℕ)
  pub flushed : Bool
  pub faults : ℕ

-- both
pub record Wire : Type 0 where
  pub source : SourceTells
  pub sink : SinkTells

abbrev pub source_of : {S : Type 0} → source.Ghosts S → S → SourceTells
source_of ghosts source = record { input = ghosts.input source; faults = ghosts.faults source }

abbrev pub sink_of : {K : Type 0} → sink.Ghosts K → K → SinkTells
sink_of ghosts sink = record { output = ghosts.output sink; flushed = ghosts.flushed sink; faults = ghosts.faults sink }

abbrev pub wire_of : {S K : Type 0} → source.Ghosts S → sink.Ghosts K → Pair S K → Wire
wire_of source sink pair = record { source = source_of source pair.source; sink = sink_of sink pair.sink }

-- neither count has fallen
pub record NeverFalls (old new : Wire) : Type 0 where
  pub reads : old.source.faults ≤ new.source.faults
  pub writes : old.sink.faults ≤ new.sink.faults

-- A list of wires got longer, by wires with P.
pub record SeesMore (old new : List Wire) (P : List Wire → Type 0) : Type 0 where
  pub more : List Wire
  pub behind : new ≡ old ++ more
  pub done : P more
