-- What a datagram tells a push, as the code has it.
use Rattle.yp_messages.specs.inside.Pushes.{push_resp_view}
use Rattle.yp_push.specs.declared.turns.callback.Callback.{Callback}
use Rattle.yp_push.specs.declared.turns.callback.Callback.TheVariants as callback
use Rattle.yp_push.specs.turns.Callbacks.{CallbackCall, AsksNothing, AsksHead, AsksTold}

-- what the code has as one of these
abbrev pub asked_view : Callback → CallbackCall
asked_view callback.Nothing = AsksNothing
asked_view (callback.Answer xid head) = AsksHead xid head
asked_view (callback.Told xid told) = AsksTold xid (push_resp_view told)
