-- What is told of the wires and the letters of a dial.
use Rattle.std.specs.Prelude.{◌≡◌, ℕ, ◌≤◌, Bool, List, [], ◌∷◌, ◌++◌, length, take, Option, None, Some, IfSome, ⊤}
use Rattle.std.specs.Prelude.{option_map}
use Rattle.yp_io.specs.declared.stream.Peer.{Peer}

-- what a wire tells: what is left of its input, what it has taken, and whether it was flushed since
pub record WireState : Type 0 where
  pub input : Option (List ℕ)
  pub output : Option (List ℕ)
  pub flushed : Bool

abbrev pub wire_state : Option (List ℕ) → Option (List ℕ) → Bool → WireState
wire_state input output flushed = record { input = input; output = output; flushed = flushed }

-- a wire as it comes: the peer at its other end, its whole input, and what its sink has taken, which is nothing, where
-- they are told
pub record Connected : Type 0 where
  pub peer : Peer
  pub input : Option (List ℕ)
  pub output : Option (List ℕ)

abbrev pub connected : Peer → Option (List ℕ) → Option (List ℕ) → Connected
connected peer input output = record { peer = peer; input = input; output = output }

-- the wires of a dial: each that came, and what each told that was given back, both in order
pub record Wires : Type 0 where
  pub came : List Connected
  pub back : List WireState

-- what a dial tells of its wires, and how often it has failed
pub record Dialing : Type 0 where
  pub past : Option Wires
  pub faults : ℕ

abbrev pub dialing_of : {A : Type 0} → (A → Option Wires) → (A → ℕ) → A → Dialing
dialing_of past faults dial = record { past = past dial; faults = faults dial }

-- what a dial sends to a peer: a datagram that is posted, or one that asks, with what came back of there, if anything
pub data Sending : Type 0 where
  Posted : Peer → List ℕ → Sending
  Asked : Peer → List ℕ → Option (List ℕ) → Sending

-- what came, where so many bytes of it are in a buffer
abbrev pub came_in : List ℕ → Option ℕ → Option (List ℕ)
came_in buf came = option_map (λ len. take len buf) came

-- what a dial tells: the wires that came and went back, what it sent, and how often it has failed
pub record DialTells : Type 0 where
  pub past : Option Wires
  pub letters : Option (List Sending)
  pub faults : ℕ

abbrev pub dial_tells : {A : Type 0} → (A → Option Wires) → (A → Option (List Sending)) → (A → ℕ) → A → DialTells
dial_tells past letters faults dial = record { past = past dial; letters = letters dial; faults = faults dial }

-- what that tells of its wires
abbrev pub wires_told : DialTells → Dialing
wires_told tells = record { past = tells.past; faults = tells.faults }

-- This wire came.
abbrev pub WireComes : Connected → Option Wires → Option Wires → Type 0
WireComes wire None new = ⊤
WireComes wire (Some wires) None = ⊥
WireComes wire (Some wires) (Some others) = others ≡ record { came = wires.came ++ wire ∷ []; back = wires.back }

-- A wire was given back that told this. Where more are given back than came, they aren't told from then on.
abbrev pub GoesBack : WireState → Option Wires → Option Wires → Type 0
GoesBack last None new = ⊤
GoesBack last (Some wires) None = length wires.came ≤ length wires.back
GoesBack last (Some wires) (Some others) = others ≡ record { came = wires.came; back = wires.back ++ last ∷ [] }

-- What is told grew by one item.
abbrev pub GainsItem : {A : Type 0} → A → Option (List A) → Option (List A) → Type 0
GainsItem item None new = ⊤
GainsItem item (Some items) None = ⊥
GainsItem item (Some items) (Some others) = others ≡ items ++ item ∷ []

-- A wire has met no fault and taken nothing.
pub record IsFresh (reads writes : ℕ) (output : Option (List ℕ)) : Type 0 where
  pub no_read : reads ≡ 0
  pub no_write : writes ≡ 0
  pub nothing : IfSome output (λ bytes. bytes ≡ [])
