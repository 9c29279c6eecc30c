-- Records for which a map may be made.
use Rattle.std.specs.Prelude.{◌≡◌, ℕ, true, List, ◌++◌}
use Rattle.yp_io.specs.declared.stream.Peer.{Peer}
use Rattle.yp_rpc.specs.Records.{Fragments}
use Rattle.yp_answer.specs.Numbers.{record_max}
use Rattle.yp_answer.specs.declared.procedure.Path.TheVariants.{Stream}
use Rattle.yp_answer.specs.session.Makes.{may_make}

-- Bytes begin with a whole record for which a map may be made.
pub record BeginsWithMake (peer : Peer) (bytes : List ℕ) : Type 0 where
  pub message : List ℕ
  pub first : List ℕ
  pub rest : List ℕ
  pub fragments : Fragments record_max message first
  pub all : bytes ≡ first ++ rest
  pub makes : may_make Stream peer message ≡ true
