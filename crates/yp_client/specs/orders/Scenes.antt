-- What `orders` does to a dial, and what it prints.
use Rattle.std.specs.Prelude.{◌≡◌, ◌↔◌, ℕ, Bool, IsTrue, List, Option, Ok, Err, Result, IsOkAnd}
use Rattle.std.specs.Io.KnownBytes.{Keeps, Appends}
use Rattle.yp_io.specs.declared.stream.Peer.{Peer}
use Rattle.yp_io.specs.Streams.{AppendsFront}
use Rattle.yp_client.specs.declared.query.fault.QueryFault.{QueryFault}
use Rattle.yp_client.specs.declared.query.fault.QueryFault.TheVariants.{Output, NoMemory}
use Rattle.yp_client.specs.query.Asked.{Outcome}
use Rattle.yp_client.specs.query.Scenes.{QueryTells}
use Rattle.yp_client.specs.orders.Asked.{Comparison, AsksServers}
use Rattle.yp_client.specs.orders.Lines.{comparison_text, IsLevel}

-- What is printed: the whole text, and then it is told whether all servers have the same orders. A sink that failed has
-- taken a front of it. Nothing is printed of a fault, nor where memory ran out.
abbrev pub PrintsComparison : Outcome Comparison → Result Bool QueryFault → Option (List ℕ) → Option (List ℕ) → Type 0
PrintsComparison outcome (Ok level) before after = IsOkAnd outcome (λ comparison.
    Appends before after (comparison_text comparison) × (IsTrue level ↔ IsLevel comparison))
PrintsComparison outcome (Err Output) before after =
    IsOkAnd outcome (λ comparison. AppendsFront (comparison_text comparison) before after)
PrintsComparison outcome (Err NoMemory) before after = Keeps before after
PrintsComparison outcome (Err fault) before after = (outcome ≡ Err fault) × Keeps before after

-- The servers were asked in turn, and what that came to was printed.
pub record Compares (first : Peer) (others : List Peer) (domain : List ℕ) (result : Result Bool QueryFault)
    (old new : QueryTells) : Type 0 where
  pub outcome : Outcome Comparison
  pub asks : AsksServers first others domain outcome old.dial new.dial
  pub prints : PrintsComparison outcome result old.output new.output
