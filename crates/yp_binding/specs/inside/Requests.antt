-- What a datagram asks of the binder, as the code has it.
use Rattle.yp_messages.specs.inside.Messages.{req_domain_view}
use Rattle.yp_messages.specs.inside.Bindings.{set_dom_view}
use Rattle.yp_binding.specs.declared.request.Request.{Request}
use Rattle.yp_binding.specs.declared.request.Request.TheVariants.{Nothing, Answer, Domain, Setdom}
use Rattle.yp_binding.specs.Requests.{BinderCall, AsksNothing, AsksHead, AsksDomain, AsksSetdom}

-- a request of the code as one of these
abbrev pub asked_view : Request → BinderCall
asked_view Nothing = AsksNothing
asked_view (Answer xid head) = AsksHead xid head
asked_view (Domain xid asked) = AsksDomain xid (req_domain_view asked)
asked_view (Setdom xid asked server) = AsksSetdom xid (set_dom_view asked) server
