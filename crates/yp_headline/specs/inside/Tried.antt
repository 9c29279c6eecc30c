-- Worlds by which the headline is tried: of right ones it is true, and of wrong ones false.
use Rattle.std.specs.Prelude.{ℕ, pos, Bool, true, false, List, [], ◌∷◌, ◌++◌, Option, Some, None, replicate, take}
use Rattle.yp_io.specs.declared.stream.Peer.{Peer}
use Rattle.yp_io.specs.Disk.{DiskState}
use Rattle.yp_io.specs.Inboxes.{Sent}
use Rattle.yp_io.specs.Peers.{own_host}
use Rattle.yp_rpc.specs.Records.{sent}
use Rattle.yp_rpc.specs.Called.{call_of}
use Rattle.yp_rpc.specs.Reply.{words, reply_head}
use Rattle.yp_rpc.specs.declared.reply.ReplyHead.TheVariants.{Success}
use Rattle.yp_messages.specs.declared.transfer.XfrStat.TheVariants.{Succ}
use Rattle.yp_messages.specs.Transfers.{resp_xfr}
use Rattle.yp_version.specs.Versions.{MapVersion}
use Rattle.yp_board.specs.Catalogues.{Catalogue}
use Rattle.yp_board.specs.Logs.{Log}
use Rattle.yp_texts.specs.declared.reading.Reading.TheVariants.{Rows}
use Rattle.yp_texts.specs.Readings.{reading_of}
use Rattle.yp_answer.specs.Transfer.{Taken}
use Rattle.yp_answer.specs.Reply.{make_reply, xfr_reply}
use Rattle.yp_headline.specs.World.{World, Datagram, Letter, Given, Filed, Dialed}
use Rattle.yp_headline.specs.inside.Files.{streamed}
use Rattle.yp_headline.specs.inside.Server.{AreLate}
use Rattle.yp_headline.specs.Headline.{Replies, Crashes, Transfers, CallBacks}

-- a call of the procedure 0, and its reply
abbrev pub null_call : ℕ → List ℕ
null_call xid = words (xid ∷ 0 ∷ 2 ∷ 100004 ∷ 2 ∷ 0 ∷ 0 ∷ 0 ∷ 0 ∷ 0 ∷ [])

abbrev pub null_reply : ℕ → List ℕ
null_reply xid = reply_head xid Success

abbrev pub somebody : Peer
somebody = record { addr = 10 ∷ 0 ∷ 0 ∷ 7 ∷ []; port = 2000 }

abbrev pub no_maps : Catalogue
no_maps = record { own = 109 ∷ []; maps = [] }

-- a server of no maps, with one connection
abbrev pub one_connection : (came sent : List ℕ) → (cut : Bool) → World
one_connection came sent cut = record {
  catalogue = no_maps;
  stores = [];
  text = λ name. None;
  reading = reading_of;
  coming = [];
  connections = record { peer = somebody; came = came; sent = sent; cut = cut } ∷ [];
  datagrams = [];
  dialed = [];
  posted = [];
  done = [];
}

abbrev pub IsWrong : World → Type 0
IsWrong world = (begun log : Log) → Replies world begun log → ⊥

-- a datagram whose reply wasn't late
abbrev pub mail_of : Peer → (came : List ℕ) → (sent : Option (List ℕ)) → (lost : Bool) → Datagram
mail_of peer came sent lost = record { peer = peer; came = came; sent = sent; lost = lost; late = false }

-- a server of no maps, with one datagram
abbrev pub datagram_world : Datagram → World
datagram_world mail = record {
  catalogue = no_maps;
  stores = [];
  text = λ name. None;
  reading = reading_of;
  coming = [];
  connections = [];
  datagrams = (mail ∷ []) ∷ [];
  dialed = [];
  posted = [];
  done = [];
}

-- with this reply, or none
abbrev pub one_datagram : Option (List ℕ) → World
one_datagram answer = datagram_world (mail_of somebody (null_call 7) answer false)

-- whose reply was sent, and lost
abbrev pub lost_datagram : World
lost_datagram = datagram_world (mail_of somebody (null_call 7) (Some (null_reply 7)) true)

-- a call with so many more bytes that the datagram has 8,193
abbrev pub long_call : List ℕ
long_call = null_call 7 ++ replicate 8153 0

abbrev pub long_datagram : World
long_datagram = datagram_world (mail_of somebody long_call (Some (null_reply 7)) false)

-- a cell with an open gate, of generation 1, whose body is behind the cells and has this length
abbrev pub cell_of : ℕ → List ℕ
cell_of len = 1 ∷ 0 ∷ 0 ∷ 0 ∷ 0 ∷ 0 ∷ 0 ∷ 0 ∷ 0 ∷ 0 ∷ 0 ∷ 0 ∷ 0 ∷ 0 ∷ 0 ∷ 1 ∷ 0 ∷ 0 ∷ 0 ∷ 0 ∷ 0 ∷ 0 ∷ 0 ∷ 64
    ∷ 0 ∷ 0 ∷ 0 ∷ 0 ∷ 0 ∷ 0 ∷ 0 ∷ len ∷ []

abbrev pub open_cell : List ℕ
open_cell = cell_of 36

abbrev pub shut_cell : List ℕ
shut_cell = 0 ∷ 0 ∷ 0 ∷ 0 ∷ 0 ∷ 0 ∷ 0 ∷ 0 ∷ 0 ∷ 0 ∷ 0 ∷ 0 ∷ 0 ∷ 0 ∷ 0 ∷ 0 ∷ 0 ∷ 0 ∷ 0 ∷ 0 ∷ 0 ∷ 0 ∷ 0 ∷ 0
    ∷ 0 ∷ 0 ∷ 0 ∷ 0 ∷ 0 ∷ 0 ∷ 0 ∷ 0 ∷ []

-- the body of a version of one row, with an order and a value
abbrev pub body_with : (order value : ℕ) → List ℕ
body_with order value = 0 ∷ 0 ∷ 0 ∷ 1 ∷ 0 ∷ 0 ∷ 0 ∷ order ∷ 0 ∷ 0 ∷ 0 ∷ 1 ∷ 109 ∷ 0 ∷ 0 ∷ 0 ∷ 0 ∷ 0 ∷ 0 ∷ 1
    ∷ 0 ∷ 0 ∷ 0 ∷ 1 ∷ 107 ∷ 0 ∷ 0 ∷ 0 ∷ 0 ∷ 0 ∷ 0 ∷ 1 ∷ value ∷ 0 ∷ 0 ∷ 0 ∷ []

abbrev pub version_with : (order value : ℕ) → MapVersion
version_with order value =
    record { order = order; master = 109 ∷ []; secure = false; rows = (107 ∷ [], value ∷ []) ∷ [] }

abbrev pub whole_file : (order value : ℕ) → List ℕ
whole_file order value = open_cell ++ shut_cell ++ body_with order value

-- both gates are open
abbrev pub torn_file : List ℕ
torn_file = open_cell ++ open_cell ++ body_with 7 118

-- a disk whose last sync left these bytes
abbrev pub synced : List ℕ → DiskState
synced bytes = record { synced = bytes; written = []; reads = bytes }

-- a server of one map of another master, whose file was so at first, meanwhile and at the end
abbrev pub one_file : (first middle last : List ℕ) → List ℕ → List Dialed → World
one_file first middle last done dialed = record {
  catalogue = record { own = 110 ∷ []; maps = (100 ∷ [], 112 ∷ []) ∷ [] };
  stores = Filed (record {
    first = synced first;
    moments = synced last ∷ synced middle ∷ synced first ∷ [];
    last = synced last;
  }) ∷ [];
  text = λ name. None;
  reading = reading_of;
  coming = [];
  connections = [];
  datagrams = [];
  dialed = dialed;
  posted = [];
  done = done;
}

abbrev pub IsTornWorld : World → Type 0
IsTornWorld world = (begun log : Log) → Crashes world begun log → ⊥

abbrev pub IsWrongTransfer : World → Type 0
IsWrongTransfer world = (begun log : Log) → Transfers world begun log → ⊥

-- MATCH of the key k in the map p of the domain d
abbrev pub match_call : List ℕ
match_call = words (7 ∷ 0 ∷ 2 ∷ 100004 ∷ 2 ∷ 3 ∷ 0 ∷ 0 ∷ 0 ∷ 0 ∷ 1 ∷ []) ++ 100 ∷ 0 ∷ 0 ∷ 0 ∷ 0 ∷ 0 ∷ 0 ∷ 1 ∷ 112
    ∷ 0 ∷ 0 ∷ 0 ∷ 0 ∷ 0
    ∷ 0 ∷ 1 ∷ 107 ∷ 0 ∷ 0 ∷ 0 ∷ []

-- the reply with a value of one byte
abbrev pub match_reply : ℕ → List ℕ
match_reply value = reply_head 7 Success ++ 0 ∷ 0 ∷ 0 ∷ 1 ∷ 0 ∷ 0 ∷ 0 ∷ 1 ∷ value ∷ 0 ∷ 0 ∷ 0 ∷ []

abbrev pub one_map : Catalogue
one_map = record { own = 110 ∷ []; maps = (100 ∷ [], 112 ∷ []) ∷ [] }

-- a server of one map, whose version has another master, with one connection that asks for the value of k
abbrev pub one_match : List ℕ → World
one_match sent_back = record {
  catalogue = one_map;
  stores = Given (version_with 7 118) ∷ [];
  text = λ name. None;
  reading = reading_of;
  coming = [];
  connections = record { peer = somebody; came = sent match_call; sent = sent_back; cut = false } ∷ [];
  datagrams = [];
  dialed = [];
  posted = [];
  done = [];
}

abbrev pub first_log : Log
first_log = (0, version_with 7 118) ∷ []

-- the own name is the master
abbrev pub own_map : Catalogue
own_map = record { own = 109 ∷ []; maps = (100 ∷ [], 112 ∷ []) ∷ [] }

abbrev pub own_caller : Peer
own_caller = record { addr = own_host; port = 2000 }

-- the make program is asked for the map p of the domain d
abbrev pub make_call : List ℕ
make_call = words (7 ∷ 0 ∷ 2 ∷ 536890953 ∷ 1 ∷ 2 ∷ 0 ∷ 0 ∷ 0 ∷ 0 ∷ 1 ∷ []) ++ 100 ∷ 0 ∷ 0 ∷ 0 ∷ 0 ∷ 0 ∷ 0 ∷ 1
    ∷ 112 ∷ 0 ∷ 0 ∷ 0 ∷ []

-- the text is one row: k, a tab and w
abbrev pub text : List ℕ
text = 107 ∷ 9 ∷ 119 ∷ 10 ∷ []

abbrev pub make_world : World
make_world = record {
  catalogue = own_map;
  stores = Given (version_with 7 118) ∷ [];
  text = λ name. Some text;
  reading = λ name. Rows;
  coming = [];
  connections = record {
    peer = own_caller;
    came = sent make_call ++ sent match_call;
    sent = sent (make_reply 7 Succ) ++ sent (match_reply 119);
    cut = false;
  } ∷ [];
  datagrams = [];
  dialed = [];
  posted = [];
  done = [];
}

-- a caller with a port under 1024, which secure maps are shown to, too
abbrev pub low_caller : Peer
low_caller = record { addr = 10 ∷ 0 ∷ 0 ∷ 7 ∷ []; port = 700 }

-- the value of k is asked for in a datagram, and this one told
abbrev pub matched_mail : ℕ → Datagram
matched_mail value = mail_of low_caller match_call (Some (match_reply value)) false

-- the map is asked to be made, and this was the reply, or none, late
abbrev pub late_make : Option (List ℕ) → Datagram
late_make answer = record { peer = own_caller; came = make_call; sent = answer; lost = false; late = true }

-- the value of k is asked for, and was told late
abbrev pub late_match : Datagram
late_match = record { peer = own_caller; came = match_call; sent = Some (match_reply 118); lost = false; late = true }

-- a server of one map, which may be made of the text meanwhile, with datagrams at some inboxes
abbrev pub mails_world : List (List Datagram) → World
mails_world mails = record {
  catalogue = own_map;
  stores = Given (version_with 7 118) ∷ [];
  text = λ name. Some text;
  reading = λ name. Rows;
  coming = [];
  connections = [];
  datagrams = mails;
  dialed = [];
  posted = [];
  done = [];
}

abbrev pub made_log : Log
made_log = (0, version_with 7 118) ∷ (0, version_with 8 119) ∷ []

-- a file that stays as it was, while a server was dialed that gave these bytes
abbrev pub skewed_world : List ℕ → World
skewed_world came = record {
  catalogue = own_map;
  stores = Filed (record {
    first = synced (whole_file 7 118);
    moments = synced (whole_file 7 118) ∷ [];
    last = synced (whole_file 7 118);
  }) ∷ [];
  text = λ name. None;
  reading = λ name. Rows;
  coming = [];
  connections = [];
  datagrams = [];
  dialed = streamed own_caller came ∷ [];
  posted = [];
  done = [];
}

abbrev pub installing : World
installing = record {
  catalogue = own_map;
  stores = Filed (record {
    first = synced (whole_file 7 118);
    moments = synced (whole_file 10 119) ∷ synced (whole_file 9 119) ∷ synced (whole_file 8 119)
        ∷ synced (whole_file 7 118) ∷ [];
    last = synced (whole_file 10 119);
  }) ∷ [];
  text = λ name. Some text;
  reading = λ name. Rows;
  coming = [];
  connections = [];
  datagrams = [];
  dialed = [];
  posted = [];
  done = 0 ∷ [];
}

abbrev pub all_log : Log
all_log = (0, version_with 7 118) ∷ (0, version_with 8 119) ∷ (0, version_with 9 119) ∷ (0, version_with 10 119) ∷ []

abbrev pub twice_log : Log
twice_log = (0, version_with 7 118) ∷ (0, version_with 8 119) ∷ (0, version_with 9 119) ∷ []

abbrev pub order_reply : (xid order : ℕ) → List ℕ
order_reply xid order = reply_head xid Success ++ words (1 ∷ order ∷ [])

abbrev pub master_reply : ℕ → List ℕ
master_reply xid = reply_head xid Success ++ 0 ∷ 0 ∷ 0 ∷ 1 ∷ 0 ∷ 0 ∷ 0 ∷ 1 ∷ 109 ∷ 0 ∷ 0 ∷ 0 ∷ []

-- one row: its value, and its key
abbrev pub all_reply : ℕ → List ℕ
all_reply xid = reply_head xid Success ++ 0 ∷ 0 ∷ 0 ∷ 1 ∷ 0 ∷ 0 ∷ 0 ∷ 1 ∷ 0 ∷ 0 ∷ 0 ∷ 1 ∷ 119 ∷ 0 ∷ 0 ∷ 0
    ∷ 0 ∷ 0 ∷ 0 ∷ 1 ∷ 107 ∷ 0 ∷ 0 ∷ 0 ∷ 0 ∷ 0 ∷ 0 ∷ 0 ∷ []

abbrev pub fetched_bytes : List ℕ
fetched_bytes = sent (order_reply 1 9) ++ (sent (master_reply 2) ++ (sent (all_reply 3) ++ sent (order_reply 4 9)))

-- the transfer of the map p of the domain d from the host s, with the number 5, for a program 1,073,741,824 at the
-- port 700
abbrev pub xfr_call : List ℕ
xfr_call = words (7 ∷ 0 ∷ 2 ∷ 100004 ∷ 2 ∷ 6 ∷ 0 ∷ 0 ∷ 0 ∷ 0 ∷ 1 ∷ []) ++ 100 ∷ 0 ∷ 0 ∷ 0 ∷ 0 ∷ 0 ∷ 0 ∷ 1 ∷ 112
    ∷ 0 ∷ 0 ∷ 0 ∷ 0 ∷ 0
    ∷ 0 ∷ 0 ∷ 0 ∷ 0 ∷ 0 ∷ 1 ∷ 115 ∷ 0 ∷ 0 ∷ 0 ∷ 0 ∷ 0 ∷ 0 ∷ 5 ∷ 64 ∷ 0 ∷ 0 ∷ 0 ∷ 0 ∷ 0 ∷ 2 ∷ 188 ∷ []

-- it is told that its transfer succeeded
abbrev pub success_call : List ℕ
success_call = call_of resp_xfr 5 1073741824 1 1 (5, pos 1)

abbrev pub success_letter : Letter
success_letter = record { peer = low_caller; bytes = success_call }

abbrev pub fetched_log : Log
fetched_log = (0, version_with 7 118) ∷ (0, version_with 9 119) ∷ []

abbrev pub its_transfer : Taken
its_transfer = record { map = 0; source = 115 ∷ []; transid = 5; prog = 1073741824; port = 700 }

abbrev pub transfer_world : World
transfer_world = record {
  catalogue = one_map;
  stores = Given (version_with 7 118) ∷ [];
  text = λ name. None;
  reading = reading_of;
  coming = record { peer = somebody; came = sent xfr_call ++ sent match_call } ∷ [];
  connections = record {
    peer = somebody;
    came = sent xfr_call ++ sent match_call;
    sent = sent (xfr_reply 7 5 Succ) ++ sent (match_reply 119);
    cut = false;
  } ∷ [];
  datagrams = [];
  dialed = streamed somebody fetched_bytes ∷ [];
  posted = success_letter ∷ [];
  done = [];
}

-- the same transfer, which is asked for in a datagram
abbrev pub mailed_transfer : World
mailed_transfer = record transfer_world {
  coming = [];
  connections = [];
  datagrams = (mail_of somebody xfr_call (Some (xfr_reply 7 5 Succ)) false ∷ []) ∷ [];
}

-- a server of one map, which is made of the text in one connection, and asked for in both and at two inboxes, and whose
-- file is so meanwhile and at the end, while a server was dialed that gives a version
abbrev pub served_world : (middle last : List ℕ) → World
served_world middle last = record {
  catalogue = own_map;
  stores = Filed (record {
    first = synced (whole_file 7 118);
    moments = synced last ∷ synced middle ∷ synced (whole_file 7 118) ∷ [];
    last = synced last;
  }) ∷ [];
  text = λ name. Some text;
  reading = λ name. Rows;
  coming = [];
  connections = make_world.connections
      ++ record { peer = somebody; came = sent match_call; sent = sent (match_reply 118); cut = false } ∷ [];
  datagrams = (matched_mail 118 ∷ matched_mail 119 ∷ []) ∷ (matched_mail 118 ∷ []) ∷ [];
  dialed = streamed somebody fetched_bytes ∷ [];
  posted = [];
  done = [];
}

-- ---- the table of the wrong ones

-- Connections and datagrams: a call that isn't answered, or is as another one, or twice, or in part; a reply to
-- nothing; two replies in the wrong order; the second of two calls that isn't answered; a datagram that isn't answered,
-- or is as another one, or is though it is too long, or whose reply is lost and was sent; two datagrams at one inbox of
-- which the second tells the value that was shown before; a make that isn't answered late, either, or is by a version
-- that its server knew before; what is no make, and is answered late; a late reply to nobody; a value that was never
-- shown; and a reply of another procedure.
pub record RepliesAreFalse : Type 0 where
  pub unanswered : IsWrong (one_connection (sent (null_call 7)) [] false)
  pub another_xid : IsWrong (one_connection (sent (null_call 7)) (sent (null_reply 8)) false)
  pub answered_twice : IsWrong (one_connection (sent (null_call 7)) (sent (null_reply 7) ++ sent (null_reply 7)) false)
  pub answered_short : IsWrong (one_connection (sent (null_call 7)) (take 27 (sent (null_reply 7))) false)
  pub unasked : IsWrong (one_connection [] (sent (null_reply 7)) false)
  pub out_of_order : IsWrong (one_connection (sent (null_call 7) ++ sent (null_call 8))
      (sent (null_reply 8) ++ sent (null_reply 7)) false)
  pub second_unanswered : IsWrong (one_connection (sent (null_call 7) ++ sent (null_call 8)) (sent
      (null_reply 7)) false)
  pub mail_unanswered : IsWrong (one_datagram None)
  pub mail_of_another : IsWrong (one_datagram (Some (null_reply 8)))
  pub mail_too_long : IsWrong long_datagram
  pub mail_lost_and_sent : IsWrong lost_datagram
  pub mail_goes_back : IsWrong (mails_world ((matched_mail 119 ∷ matched_mail 118 ∷ []) ∷ []))
  pub late_unanswered : IsWrong (mails_world ((late_make None ∷ []) ∷ []))
  pub late_and_known : Replies (mails_world ((matched_mail 119 ∷ late_make (Some (make_reply 7 Succ)) ∷ []) ∷ []))
      first_log made_log → ⊥
  pub late_of_no_make : IsWrong (mails_world ((late_match ∷ []) ∷ []))
  pub late_to_nobody : (to : Peer) (reply : List ℕ)
      → AreLate (record { before = []; more = Sent to reply ∷ [] }) ((matched_mail 118 ∷ []) ∷ []) → ⊥
  pub never_shown : IsWrong (one_match (sent (match_reply 119)))
  pub answered_as_null : IsWrong (one_match (sent (reply_head 7 Success)))

-- ---- the table of the right ones

-- One MATCH; a map that is made, and then asked for; one that is fetched and called back, and then asked for, of one
-- caller, or of several; one that is fetched and called back for a datagram; datagrams at two inboxes, of which the
-- second is behind the first; a make that is answered late, between two that tell the value before; three installs; a
-- source that changes between its replies, of which nothing is stored; and a server of all these at once, whose file
-- stands at the end for the version that was given, though that isn't shown.
pub record HoldsOfRows : Type 0 where
  pub first_match : Replies (one_match (sent (match_reply 118))) first_log first_log
  pub make_then_match : Replies make_world first_log made_log
  pub session_transfer : Replies transfer_world first_log fetched_log
      × Transfers transfer_world first_log fetched_log × CallBacks transfer_world first_log fetched_log
  pub mail_transfer : CallBacks mailed_transfer first_log fetched_log
  pub two_inboxes : Replies (mails_world
      ((matched_mail 118 ∷ matched_mail 119 ∷ []) ∷ (matched_mail 118 ∷ []) ∷ [])) first_log made_log
  pub late_make : Replies (mails_world
      ((matched_mail 118 ∷ late_make (Some (make_reply 7 Succ)) ∷ matched_mail 118 ∷ []) ∷ [])) first_log made_log
  pub three_installs : Crashes installing first_log all_log
  pub skewed_source : (came : List ℕ) → Crashes (skewed_world came) first_log first_log
      × Transfers (skewed_world came) first_log first_log
  pub served : Replies (served_world (whole_file 8 119) (whole_file 9 119)) first_log made_log
      × Crashes (served_world (whole_file 8 119) (whole_file 9 119)) first_log made_log
