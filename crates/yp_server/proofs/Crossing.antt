-- Guests and listeners may cross threads.
use denote.RattleType.{RattleType}
use denote.Ref.{NamedLft}
use denote.Param.Send.{IsSend, IsSync, sendable}
use denote.Param.SendFields.{variants_send}
use Rattle.std.proofs.Crossing.{crosses}
use Rattle.std.proofs.sync.ledger.Share.TheSendSync.{the_send as share_send}
use Rattle.std.proofs.sync.ledger.Book.TheSendSync.{the_send as book_send}
use Rattle.atomic_table.proofs.shared.Shared.TheSendSync.{the_sync as table_sync}
use Rattle.atomic_table.proofs.shared.Seat.TheSendSync.{the_send as seat_send}
use Rattle.atomic_table.proofs.send_lease.SendLease.TheSendSync.{the_sync as lease_sync}
use Rattle.logbook.proofs.tokens.Seen.TheSendSync.{the_send as seen_send}
use Rattle.logbook.proofs.tokens.Pen.TheSendSync.{the_send as pen_send}
use Rattle.logbook.proofs.word.Word.TheSendSync.{the_send as word_send}
use Rattle.std.specs.declared.sync.ledger.Ledger as ledger
use Rattle.yp_io.specs.declared.clock.Clock as clock
use Rattle.yp_io.specs.declared.dial.Dial as dial
use Rattle.yp_io.specs.declared.disk.Disk as disk
use Rattle.yp_io.specs.declared.hall.Hall as hall
use Rattle.yp_io.specs.declared.hall.Watch as watch
use Rattle.yp_io.specs.declared.ready.TrySource as try_source
use Rattle.yp_io.specs.declared.ready.TrySink as try_sink
use Rattle.yp_io.specs.declared.stream.Sink as sink
use Rattle.yp_io.specs.declared.stream.Source as source
use Rattle.yp_io.specs.declared.texts.Texts as texts
use Rattle.yp_board.specs.declared.history.Naming as naming
use Rattle.yp_board.specs.declared.view.Show as show
use Rattle.yp_board.specs.declared.view.Tell as tell
use Rattle.yp_board.specs.declared.view.View as view
use Rattle.yp_board.specs.contracts.history.Front as HistoryFront
use Rattle.yp_board.specs.contracts.history.History as History
use Rattle.yp_publisher.specs.declared.sharing.locked.Accounts as accounts
use Rattle.yp_publisher.specs.declared.sharing.locked.Site as site
use Rattle.yp_publisher.specs.contracts.sharing.locked.Locked as Locked
use Rattle.yp_answer.specs.declared.session.host.Host as host
use Rattle.yp_answer.specs.contracts.session.conversation.Conversation as Conversation
use Rattle.yp_worker.specs.declared.catch_up.CatchUp as catch_up
use Rattle.yp_worker.specs.declared.catch_up.HandsOver as hands_over
use Rattle.yp_worker.specs.declared.catch_up.Known as known
use Rattle.yp_worker.specs.declared.listening.Reception as reception
use Rattle.yp_worker.specs.contracts.gated.Gated as Gated
use Rattle.yp_worker.specs.contracts.guest.Guest as Guest
use Rattle.yp_worker.specs.contracts.waiting.Waiting as Waiting
use Rattle.yp_worker.specs.contracts.listening.Listening as Listening
use Rattle.yp_worker.specs.contracts.listening.Pass as Pass
use Rattle.yp_worker.specs.contracts.worker.Worker as Worker
use Rattle.yp_worker.specs.contracts.datagrams.deferred.Deferred as Deferred
use Rattle.yp_worker.specs.contracts.datagrams.pending.DeferredQueue as DeferredQueue
use Rattle.yp_worker.specs.contracts.datagrams.pending.DeferredPass as DeferredPass
use Rattle.yp_worker.specs.contracts.datagrams.server.MailServer as MailServer
use Rattle.yp_worker.specs.contracts.datagrams.carrier.Carrier as Carrier
use Rattle.yp_host.specs.contracts.workers.call_backs.PendingCallBacks as PendingCallBacks
use Rattle.yp_host.specs.contracts.workers.call_backs.CallBackPass as CallBackPass
use Rattle.yp_host.specs.declared.workers.supplies.Supplies as supplies
use Rattle.yp_host.specs.contracts.workers.charges.Account as Account
use Rattle.yp_host.specs.contracts.workers.charges.Charges as Charges
use Rattle.yp_host.specs.contracts.workers.dial.SharedDial as SharedDial
use Rattle.yp_host.specs.contracts.workers.front.BoardFront as BoardFront
use Rattle.yp_host.specs.contracts.workers.host.WorkerHost as WorkerHost
use Rattle.yp_host.specs.contracts.workers.journal.Journal as Journal
use Rattle.yp_host.specs.contracts.workers.texts.SharedTexts as SharedTexts
use Rattle.yp_server.specs.contracts.datagrams.DatagramWorker as DatagramWorker
use Rattle.yp_server.specs.contracts.workers.ConnectionWorker as ConnectionWorker
use Rattle.yp_server.specs.contracts.workers.ServerWorker as ServerWorker
use Rattle.yp_server.specs.contracts.workers.Lent as Lent

module _ (S K G F : RattleType) (s : IsSend S) (k : IsSend K) (gate : IsSend G) (front : IsSend F) where
  gated_send : IsSend (Gated.the_row K G)
  gated_send = search (sendable, crosses) depth 60 fits 50000

  conversation_send : IsSend (Conversation.the_row S (Gated.the_row K G))
  conversation_send = search (sendable, crosses, gated_send) depth 60 fits 50000

  guest_send : IsSend (Guest.the_row S K G)
  guest_send = search (sendable, crosses, conversation_send) depth 60 fits 50000

  pub waiting_send : IsSend (Waiting.the_row S K G F)
  waiting_send = search (sendable, crosses, guest_send) depth 60 fits 50000

pub listening_send : (I E H L G Sum Front Count In Out Closer Waker Watch : RattleType) (receptions : reception.Ghosts I.Denot)
    (sites : site.Ghosts I.Denot) (out : ledger.Ghosts I.Denot) (ended : ledger.Ghosts E.Denot)
    (sums : hands_over.Ghosts H.Denot Sum.Denot Front.Denot Count.Denot) (learners : catch_up.Ghosts H.Denot Count.Denot)
    (hosts : host.Ghosts H.Denot) (views : view.Ghosts H.Denot) (fronts : known.Ghosts Front.Denot)
    (halls : hall.Ghosts L.Denot In.Denot Out.Denot Closer.Denot Waker.Denot Watch.Denot) (source : try_source.Ghosts In.Denot)
    (sink : try_sink.Ghosts Out.Denot) (watches : watch.Ghosts Watch.Denot In.Denot Waker.Denot) → IsSend I → IsSend E → IsSend L
    → IsSend G → IsSend Sum → IsSend Front → IsSend In → IsSend Out → IsSend Waker
    → IsSend (Listening.the_row I E H L G Sum Front Count In Out Closer Waker Watch receptions sites out ended sums learners hosts
    views fronts halls source sink watches)
listening_send I E H L G Sum Front Count In Out Closer Waker Watch receptions sites out ended sums learners hosts views fronts halls source sink watches j e l gate sum
    front in' out' waker =
    search (sendable, crosses, waiting_send, share_send, book_send) depth 60 fits 50000

pub pass_send : (I E : RattleType) (out : ledger.Ghosts I.Denot) (ended : ledger.Ghosts E.Denot) → IsSend (Pass.the_row I E out ended)
pass_send I E out ended = search (sendable, crosses, share_send) depth 60 fits 50000

pub worker_send : (H G : RattleType) → IsSend H → IsSend G → IsSend (Worker.the_row H G)
worker_send H G host gate = search (sendable, crosses) depth 60 fits 50000

deferred_send : (F : RattleType) (knowns : known.Ghosts F.Denot) → IsSend F → IsSend (Deferred.the_row F knowns)
deferred_send F knowns front = search (sendable, crosses) depth 60 fits 50000

deferred_pass_send : (F : RattleType) (knowns : known.Ghosts F.Denot) → IsSend F → IsSend (DeferredPass.the_row F knowns)
deferred_pass_send F knowns front = search (sendable, crosses, seat_send, deferred_send) depth 60 fits 50000

pending_sync : (I F : RattleType) (sites : site.Ghosts I.Denot) (knowns : known.Ghosts F.Denot) → IsSend F
    → IsSync (DeferredQueue.the_row I F sites knowns)
pending_sync I F sites knowns front = search (sendable, crosses, table_sync, lease_sync, deferred_send) depth 60 fits 50000

call_back_pass_send : IsSend CallBackPass.the_row
call_back_pass_send = search (sendable, crosses, seat_send) depth 60 fits 50000

call_backs_sync : IsSync PendingCallBacks.the_row
call_backs_sync = search (sendable, crosses, table_sync, lease_sync) depth 60 fits 50000

mail_server_send : (a : NamedLft) (I H F R : RattleType) (sites : site.Ghosts I.Denot) (views : view.Ghosts H.Denot)
    (knowns : known.Ghosts F.Denot) → IsSend H → IsSend F → IsSync R
    → IsSend (MailServer.the_row a I H F R sites views knowns)
mail_server_send a I H F R sites views knowns host front rt =
    search (sendable, crosses, deferred_pass_send, pending_sync) depth 60 fits 50000

pub carrier_send : (a : NamedLft) (B I H F R : RattleType) (sites : site.Ghosts I.Denot) (views : view.Ghosts H.Denot)
    (knowns : known.Ghosts F.Denot) → IsSend B → IsSend H → IsSend F → IsSync R
    → IsSend (Carrier.the_row a B I H F R sites views knowns)
carrier_send a B I H F R sites views knowns inbox host front rt =
    search (sendable, crosses, deferred_pass_send, pending_sync) depth 60 fits 50000

pub datagram_worker_send : (a : NamedLft) (B I H F R : RattleType) (sites : site.Ghosts I.Denot)
    (views : view.Ghosts H.Denot) (knowns : known.Ghosts F.Denot) → IsSend B → IsSend H → IsSend F → IsSync R
    → IsSend (DatagramWorker.the_row a B I H F R sites views knowns)
datagram_worker_send a B I H F R sites views knowns inbox host front rt =
    search (sendable, crosses, mail_server_send) depth 60 fits 50000

pub connection_worker_send : (I E H G Sum Front Count : RattleType) (receptions : reception.Ghosts I.Denot)
    (sites : site.Ghosts I.Denot) (out : ledger.Ghosts I.Denot) (ended : ledger.Ghosts E.Denot)
    (sums : hands_over.Ghosts H.Denot Sum.Denot Front.Denot Count.Denot) (learners : catch_up.Ghosts H.Denot Count.Denot)
    (hosts : host.Ghosts H.Denot) (views : view.Ghosts H.Denot) (fronts : known.Ghosts Front.Denot) → IsSend H → IsSend G
    → IsSend (ConnectionWorker.the_row I E H G Sum Front Count receptions sites out ended sums learners hosts views fronts)
connection_worker_send I E H G Sum Front Count receptions sites out ended sums learners hosts views fronts h gate =
    search (sendable, crosses, pass_send, worker_send) depth 60 fits 50000

pub server_worker_send : (a : NamedLft) (I E H F G B R Sum Front Count : RattleType) (receptions : reception.Ghosts I.Denot)
    (sites : site.Ghosts I.Denot) (out : ledger.Ghosts I.Denot) (ended : ledger.Ghosts E.Denot)
    (sums : hands_over.Ghosts H.Denot Sum.Denot Front.Denot Count.Denot) (learners : catch_up.Ghosts H.Denot Count.Denot)
    (hosts : host.Ghosts H.Denot) (views : view.Ghosts H.Denot) (fronts : known.Ghosts Front.Denot) (knowns : known.Ghosts F.Denot)
    → IsSend H → IsSend G → IsSend F → IsSend B → IsSync R
    → IsSend (ServerWorker.the_row a I E H F G B R Sum Front Count receptions sites out ended sums learners hosts views fronts knowns)
server_worker_send a I E H F G B R Sum Front Count receptions sites out ended sums learners hosts views fronts knowns h gate front inbox rt =
    let connections = connection_worker_send I E H G Sum Front Count receptions sites out ended sums learners hosts views fronts h gate in
    let datagrams = datagram_worker_send a B I H F R sites views knowns inbox h front rt in
    variants_send (ServerWorker.enum a I E H F G B R Sum Front Count receptions sites out ended sums learners hosts views fronts knowns)
    ((connections, tt), ((datagrams, tt), tt))

pub lent_sync : (a : NamedLft) (I E H G L R Sum Front Count In Out Closer Waker Watch : RattleType)
    (receptions : reception.Ghosts I.Denot)
    (sites : site.Ghosts I.Denot) (out : ledger.Ghosts I.Denot) (ended : ledger.Ghosts E.Denot)
    (sums : hands_over.Ghosts H.Denot Sum.Denot Front.Denot Count.Denot) (learners : catch_up.Ghosts H.Denot Count.Denot)
    (hosts : host.Ghosts H.Denot) (views : view.Ghosts H.Denot) (fronts : known.Ghosts Front.Denot)
    (halls : hall.Ghosts L.Denot In.Denot Out.Denot Closer.Denot Waker.Denot Watch.Denot) (source : try_source.Ghosts In.Denot)
    (sink : try_sink.Ghosts Out.Denot) (watches : watch.Ghosts Watch.Denot In.Denot Waker.Denot) → IsSend I → IsSend E → IsSend L
    → IsSend G → IsSend Sum → IsSend Front → IsSend In → IsSend Out → IsSend Waker → IsSync R
    → IsSync (Lent.the_row a I E H G L R Sum Front Count In Out Closer Waker Watch receptions sites out ended sums learners hosts
    views fronts halls source sink watches)
lent_sync a I E H G L R Sum Front Count In Out Closer Waker Watch receptions sites out ended sums learners hosts views fronts halls source sink watches j e l gate sum
    front in' out' waker rt =
    search (sendable, crosses, listening_send) depth 60 fits 50000

front_send : (I E : RattleType) (names : naming.Ghosts I.Denot) → IsSend I → IsSend (HistoryFront.the_row I E names)
front_send I E names j = search (sendable, crosses, seen_send) depth 60 fits 50000

history_send : (I E : RattleType) (names : naming.Ghosts I.Denot) → IsSend I → IsSend (History.the_row I E names)
history_send I E names j = search (sendable, crosses, front_send, pen_send, word_send) depth 60 fits 50000

charges_send : (I : RattleType) (site : accounts.Ghosts I.Denot) (supplied : supplies.Ghosts I.Denot) → IsSend I
    → IsSend (Charges.the_row I site supplied)
charges_send I site supplied j =
    search (sendable, crosses, share_send, front_send, call_back_pass_send) depth 60 fits 50000

pub board_front_send : (B Reader Front Knowledge : RattleType)
    (tells : tell.Ghosts B.Denot Reader.Denot Front.Denot Knowledge.Denot) (shows : show.Ghosts B.Denot)
    (views : view.Ghosts Reader.Denot) → IsSend Knowledge
    → IsSend (BoardFront.the_row B Reader Front Knowledge tells shows views)
board_front_send B Reader Front Knowledge tells shows views knowledge = search (sendable, crosses) depth 60 fits 50000

pub account_send : (I B Reader Front Knowledge : RattleType) (accounted : accounts.Ghosts I.Denot)
    (supplied : supplies.Ghosts I.Denot) (tells : tell.Ghosts B.Denot Reader.Denot Front.Denot Knowledge.Denot)
    (shows : show.Ghosts B.Denot) (views : view.Ghosts Reader.Denot) → IsSend I → IsSend Front
    → IsSend (Account.the_row I B Reader Front Knowledge accounted supplied tells shows views)
account_send I B Reader Front Knowledge accounted supplied tells shows views j front =
    search (sendable, crosses, charges_send) depth 60 fits 50000

texts_send : (I T C : RattleType) (accounted : accounts.Ghosts I.Denot) (supplied : supplies.Ghosts I.Denot)
    (reads : texts.Ghosts T.Denot) (clocks : clock.Ghosts C.Denot) → IsSend I → IsSend T → IsSend C
    → IsSend (SharedTexts.the_row I T C accounted supplied reads clocks)
texts_send I T C accounted supplied reads clocks j t c = search (sendable, crosses, book_send) depth 60 fits 50000

dial_send : (I A In Out : RattleType) (sites : site.Ghosts I.Denot) (accounted : accounts.Ghosts I.Denot)
    (supplied : supplies.Ghosts I.Denot) (dials : dial.Ghosts A.Denot In.Denot Out.Denot) (sources : source.Ghosts In.Denot)
    (sinks : sink.Ghosts Out.Denot) → IsSend I → IsSend A
    → IsSend (SharedDial.the_row I A In Out sites accounted supplied dials sources sinks)
dial_send I A In Out sites accounted supplied dials sources sinks j a =
    search (sendable, crosses, book_send, history_send, call_back_pass_send) depth 60 fits 50000

locked_send : (I D B : RattleType) (sites : site.Ghosts I.Denot) (accounted : accounts.Ghosts I.Denot)
    (disks : disk.Ghosts D.Denot) (shows : show.Ghosts B.Denot) → IsSend I → IsSend D → IsSend B
    → IsSend (Locked.the_row I D B sites accounted disks shows)
locked_send I D B sites accounted disks shows j d b =
    search (sendable, crosses, share_send, book_send, front_send) depth 60 fits 50000

journal_send : IsSend Journal.the_row
journal_send = search (sendable, crosses) depth 60 fits 50000

pub host_send : (a : NamedLft) (I D B A T C R Reader Front Knowledge In Out : RattleType) (sites : site.Ghosts I.Denot)
    (accounted : accounts.Ghosts I.Denot) (supplied : supplies.Ghosts I.Denot) (disks : disk.Ghosts D.Denot)
    (tells : tell.Ghosts B.Denot Reader.Denot Front.Denot Knowledge.Denot) (shows : show.Ghosts B.Denot)
    (views : view.Ghosts Reader.Denot) (dials : dial.Ghosts A.Denot In.Denot Out.Denot) (sources : source.Ghosts In.Denot)
    (sinks : sink.Ghosts Out.Denot) (reads : texts.Ghosts T.Denot) (clocks : clock.Ghosts C.Denot) → IsSend I → IsSend D → IsSend B
    → IsSend A → IsSend T → IsSend C → IsSend R → IsSend Reader
    → IsSend (WorkerHost.the_row a I D B A T C R Reader Front Knowledge In Out sites accounted supplied disks tells shows views
    dials sources sinks reads clocks)
host_send a I D B A T C R Reader Front Knowledge In Out sites accounted supplied disks tells shows views dials sources sinks reads clocks
    j d b h t c r reader =
    search (sendable, crosses, locked_send, texts_send, dial_send, call_backs_sync, journal_send, charges_send) depth 60 fits 50000
