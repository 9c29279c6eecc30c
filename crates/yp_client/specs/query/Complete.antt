-- When a question has an answer: the wire gives whole replies that answer its calls.
use Rattle.std.specs.Prelude.{◌≡◌, ℕ, List, [], ◌∷◌, ◌++◌, Option, Some, Result, Ok, Err, IsOk, ⊤}
use Rattle.yp_io.specs.declared.stream.Peer.{Peer}
use Rattle.yp_io.specs.Dials.{Wires, connected}
use Rattle.yp_rpc.specs.Records.{Fragments}
use Rattle.yp_messages.specs.declared.stat.YpStat.TheVariants.{Nokey}
use Rattle.yp_client.specs.declared.fault.ClientFault.{ClientFault}
use Rattle.yp_client.specs.declared.fault.ClientFault.TheVariants.{Yp}
use Rattle.yp_client.specs.Limits.{reply_max, all_max}
use Rattle.yp_client.specs.Results.{value_of, master_of, order_of, maps_of, taken_of, made_of}
use Rattle.yp_client.specs.All.{all_said}
use Rattle.yp_client.specs.declared.question.Question.TheVariants.{Cat, Catk, Match, Which, Poll, Maps, Innetgr}
use Rattle.yp_client.specs.declared.question.Question.TheVariants.{Pull, Make}
use Rattle.yp_client.specs.Questions.{ByteQuestion}
use Rattle.yp_client.specs.query.Asked.{no_rows}

-- Bytes begin with a whole reply of at most so many bytes, and P holds of it and of what is behind. Its heads fix where
-- it ends.
pub record BeginsWithReply (limit : ℕ) (stream : List ℕ) (P : List ℕ → List ℕ → Type 0) : Type 0 where
  pub reply : List ℕ
  pub bytes : List ℕ
  pub rest : List ℕ
  pub fragments : Fragments limit reply bytes
  pub whole : stream ≡ bytes ++ rest
  pub good : P reply rest

-- a value was found, or the key isn't there
abbrev pub IsValueOrNone : Result (List ℕ) ClientFault → Type 0
IsValueOrNone (Ok value) = ⊤
IsValueOrNone (Err (Yp Nokey)) = ⊤
IsValueOrNone said = ⊥

-- a wire's bytes begin with replies that answer the calls of a question, whose numbers begin with 1
abbrev pub HasAnswer : ByteQuestion → List ℕ → Type 0
HasAnswer (Cat domain map) stream =
    BeginsWithReply all_max stream (λ reply rest. (all_said no_rows 1 reply).end ≡ Ok tt)
HasAnswer (Catk domain map) stream =
    BeginsWithReply all_max stream (λ reply rest. (all_said no_rows 1 reply).end ≡ Ok tt)
HasAnswer (Match domain map key) stream =
    BeginsWithReply reply_max stream (λ reply rest. IsValueOrNone (value_of 1 reply))
HasAnswer (Which domain map) stream = BeginsWithReply reply_max stream (λ reply rest. IsOk (master_of 1 reply))
HasAnswer (Poll domain map) stream = BeginsWithReply reply_max stream (λ reply rest.
    IsOk (order_of 1 reply) × BeginsWithReply reply_max rest (λ second behind. IsOk (master_of 2 second)))
HasAnswer (Innetgr domain group host user user_domain) stream =
    BeginsWithReply all_max stream (λ reply rest. (all_said no_rows 1 reply).end ≡ Ok tt)
HasAnswer (Maps domain) stream = BeginsWithReply reply_max stream (λ reply rest. IsOk (maps_of 1 reply))
HasAnswer (Pull domain map source) stream = BeginsWithReply reply_max stream (λ reply rest. IsOk (taken_of 1 reply))
HasAnswer (Make domain map) stream = BeginsWithReply reply_max stream (λ reply rest. IsOk (made_of 1 reply))

-- One wire to this peer came of the dial. This stream is its input, and its output may be told.
pub record HasCome (peer : Peer) (stream : List ℕ) (old new : Option Wires) : Type 0 where
  pub before : Wires
  pub after : Wires
  pub was : old ≡ Some before
  pub is : new ≡ Some after
  pub sent : Option (List ℕ)
  pub came : after.came ≡ before.came ++ connected peer (Some stream) sent ∷ []
