-- What the forms in memory keep.
use Rattle.std.specs.Prelude.{ℕ, ◌<◌, Bool, List, length, Result, Ok, Err, MatchOption, ⊤}
use Rattle.yp_io.specs.Counts.{next_count}
use Rattle.yp_io.specs.Texts.{text_max}
use Rattle.yp_io.specs.inside.Texts.{text_of}
use Rattle.yp_io.specs.declared.texts.TextFault.{TextFault}
use Rattle.yp_io.specs.declared.texts.TextFault.TheVariants.{Failed, NoMemory}

-- a source: what is left of its input, the most bytes of one read, and which calls fail
pub record Feed : Type 0 where
  pub input : List ℕ
  pub piece : ℕ
  pub failing : List ℕ
  pub calls : ℕ
  pub faults : ℕ

-- a sink: what it has taken, whether it was flushed since then, the most bytes of one write, and which calls fail
pub record Drain : Type 0 where
  pub output : List ℕ
  pub flushed : Bool
  pub piece : ℕ
  pub failing : List ℕ
  pub calls : ℕ
  pub faults : ℕ

-- texts: each with its name, and which calls fail
pub record Shelf : Type 0 where
  pub texts : List (List ℕ × List ℕ)
  pub failing : List ℕ
  pub calls : ℕ
  pub faults : ℕ

-- a text is missing, or over the limit
abbrev pub LacksText : List ℕ → List (List ℕ × List ℕ) → Type 0
LacksText name texts = MatchOption (text_of name texts) ⊤ (λ bytes. text_max < length bytes)

-- the count of faults after a text was read: want of memory is none
abbrev pub text_faults_after : {T : Type 0} → ℕ → Result T TextFault → ℕ
text_faults_after before (Ok x) = before
text_faults_after before (Err Failed) = next_count before
text_faults_after before (Err NoMemory) = before
