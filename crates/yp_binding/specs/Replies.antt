-- What a request gets of the binder, and which binding it sets (ypbind of yp.x).
use Rattle.std.specs.Prelude.{ℕ, Bool, true, false, List}
use Rattle.std.specs.Prelude.{◌++◌, Option, Some, None}
use Rattle.std.specs.Prelude.{option_map, position, ◌&&◌, ◌==◌, bytes_eq, if◌then◌else◌}
use Rattle.std.specs.Int.{w16, w32, to_be_bytes, cast_unsigned}
use Rattle.std.proofs.Common.{inl, inr}
use Rattle.yp_io.specs.declared.stream.Peer.{Peer}
use Rattle.yp_io.specs.Peers.{own_host}
use Rattle.yp_xdr.specs.Kind.{Value}
use Rattle.yp_xdr.specs.Spelling.{spelling}
use Rattle.yp_rpc.specs.declared.reply.ReplyHead.TheVariants.{Success}
use Rattle.yp_rpc.specs.Reply.{reply_head}
use Rattle.yp_messages.specs.declared.binding.BindErr.{BindErr}
use Rattle.yp_messages.specs.declared.binding.BindErr.TheVariants.{Err, Noserv}
use Rattle.yp_messages.specs.Bindings.{bind_err_number, bind_resp}
use Rattle.yp_binding.specs.declared.binder.Policy.{Policy}
use Rattle.yp_binding.specs.declared.binder.Policy.TheVariants.{Fixed, Ypsetme, Ypset}
use Rattle.yp_binding.specs.declared.event.Binding.{Binding}
use Rattle.yp_binding.specs.Events.{binding_of}
use Rattle.yp_binding.specs.Rounds.{Bindings, target}
use Rattle.yp_binding.specs.Requests.{BinderCall, AsksNothing, AsksHead, AsksDomain, AsksSetdom}

-- the version of YP that a server speaks that a domain may be bound to
abbrev pub served_version : ℕ
served_version = 2

-- the number of a domain, where the binder has it
abbrev pub domain_number : Bindings → List ℕ → Option ℕ
domain_number bindings domain = position (λ name. bytes_eq name domain) bindings.domains

-- the number of an error, without its sign
abbrev pub error_number : BindErr → ℕ
error_number error = cast_unsigned w32 (bind_err_number error)

-- the address and the port of a server, or the error that none is found
abbrev pub bound_answer : Option Peer → Value bind_resp
bound_answer (Some server) = inl (server.addr, to_be_bytes w16 server.port)
bound_answer None = inr (error_number Noserv)

-- what DOMAIN tells of a domain with this number, or of one that the binder hasn't
abbrev pub number_answer : Bindings → Option ℕ → Value bind_resp
number_answer bindings (Some number) = bound_answer (binding_of number bindings.events)
number_answer bindings None = inr (error_number Err)

abbrev pub domain_answer : Bindings → List ℕ → Value bind_resp
domain_answer bindings domain = number_answer bindings (domain_number bindings domain)

-- the bytes of the reply, or silence
abbrev pub reply_to : Bindings → BinderCall → Option (List ℕ)
reply_to bindings AsksNothing = None
reply_to bindings (AsksHead xid head) = Some (reply_head xid head)
reply_to bindings (AsksDomain xid domain) =
    Some (reply_head xid Success ++ spelling bind_resp (domain_answer bindings domain))
reply_to bindings (AsksSetdom xid asked server) = Some (reply_head xid Success)

-- a caller may set bindings
abbrev pub lets : Policy → Peer → Bool
lets Fixed from = false
lets Ypsetme from = bytes_eq from.addr own_host
lets Ypset from = true

-- the binding that a caller's request sets
abbrev pub set_by : Bindings → Peer → BinderCall → Option Binding
set_by bindings from AsksNothing = None
set_by bindings from (AsksHead xid head) = None
set_by bindings from (AsksDomain xid domain) = None
set_by bindings from (AsksSetdom xid asked server) =
    if asked.1.1.1 == served_version && lets bindings.policy from
    then option_map (λ number. target number server) (domain_number bindings asked.0)
    else None
