-- Guests and listeners may cross threads.
use denote.RattleType.{RattleType}
use denote.Param.Send.{IsSend, sendable}
use Rattle.std.proofs.Crossing.{crosses}
use Rattle.std.proofs.sync.ledger.Share.TheSendSync.{the_send as share_send}
use Rattle.std.proofs.sync.ledger.Book.TheSendSync.{the_send as book_send}
use Rattle.std.specs.declared.sync.ledger.Ledger as ledger
use Rattle.yp_io.specs.declared.hall.Hall as hall
use Rattle.yp_io.specs.declared.hall.Watch as watch
use Rattle.yp_io.specs.declared.ready.TrySource as try_source
use Rattle.yp_io.specs.declared.ready.TrySink as try_sink
use Rattle.yp_board.specs.declared.view.View as view
use Rattle.yp_publisher.specs.declared.sharing.locked.Site as site
use Rattle.yp_answer.specs.declared.session.host.Host as host
use Rattle.yp_answer.specs.contracts.session.conversation.Conversation as Conversation
use Rattle.yp_worker.specs.declared.catch_up.CatchUp as catch_up
use Rattle.yp_worker.specs.declared.catch_up.HandsOver as hands_over
use Rattle.yp_worker.specs.declared.catch_up.Known as known
use Rattle.yp_worker.specs.declared.listening.Reception as reception
use Rattle.yp_worker.specs.contracts.gated.Gated as Gated
use Rattle.yp_worker.specs.contracts.guest.Guest as Guest
use Rattle.yp_worker.specs.contracts.waiting.Waiting as Waiting
use Rattle.yp_worker.specs.contracts.listening.Listening as Listening
use Rattle.yp_worker.specs.contracts.listening.Pass as Pass
use Rattle.yp_worker.specs.contracts.worker.Worker as Worker

module _ (S K G F : RattleType) (s : IsSend S) (k : IsSend K) (gate : IsSend G) (front : IsSend F) where
  gated_send : IsSend (Gated.the_row K G)
  gated_send = search (sendable, crosses) depth 60 fits 50000

  conversation_send : IsSend (Conversation.the_row S (Gated.the_row K G))
  conversation_send = search (sendable, crosses, gated_send) depth 60 fits 50000

  guest_send : IsSend (Guest.the_row S K G)
  guest_send = search (sendable, crosses, conversation_send) depth 60 fits 50000

  pub waiting_send : IsSend (Waiting.the_row S K G F)
  waiting_send = search (sendable, crosses, guest_send) depth 60 fits 50000

pub listening_send : (I E H L G Sum Front Count In Out Closer Waker Watch : RattleType) (receptions : reception.Ghosts I.Denot)
    (sites : site.Ghosts I.Denot) (out : ledger.Ghosts I.Denot) (ended : ledger.Ghosts E.Denot)
    (sums : hands_over.Ghosts H.Denot Sum.Denot Front.Denot Count.Denot) (learners : catch_up.Ghosts H.Denot Count.Denot)
    (hosts : host.Ghosts H.Denot) (views : view.Ghosts H.Denot) (fronts : known.Ghosts Front.Denot)
    (halls : hall.Ghosts L.Denot In.Denot Out.Denot Closer.Denot Waker.Denot Watch.Denot) (source : try_source.Ghosts In.Denot)
    (sink : try_sink.Ghosts Out.Denot) (watches : watch.Ghosts Watch.Denot In.Denot Waker.Denot) → IsSend I → IsSend E → IsSend L
    → IsSend G → IsSend Sum → IsSend Front → IsSend In → IsSend Out → IsSend Waker
    → IsSend (Listening.the_row I E H L G Sum Front Count In Out Closer Waker Watch receptions sites out ended sums learners hosts
    views fronts halls source sink watches)
listening_send I E H L G Sum Front Count In Out Closer Waker Watch receptions sites out ended sums learners hosts views fronts halls source sink watches j e l gate sum
    front in' out' waker =
    search (sendable, crosses, waiting_send, share_send, book_send) depth 60 fits 50000

pub pass_send : (I E : RattleType) (out : ledger.Ghosts I.Denot) (ended : ledger.Ghosts E.Denot) → IsSend (Pass.the_row I E out ended)
pass_send I E out ended = search (sendable, crosses, share_send) depth 60 fits 50000

pub worker_send : (H G : RattleType) → IsSend H → IsSend G → IsSend (Worker.the_row H G)
worker_send H G host gate = search (sendable, crosses) depth 60 fits 50000
