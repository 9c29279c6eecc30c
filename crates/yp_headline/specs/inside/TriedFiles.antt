-- Worlds of files, and of transfers, of which the headline is false.
use Rattle.std.specs.Prelude.{ℕ, pos, true, List, [], ◌∷◌, ◌++◌, Some, None, take}
use Rattle.yp_io.specs.Disk.{DiskState}
use Rattle.yp_rpc.specs.Records.{sent}
use Rattle.yp_rpc.specs.Called.{call_of}
use Rattle.yp_rpc.specs.Reply.{words, reply_head}
use Rattle.yp_rpc.specs.declared.reply.ReplyHead.TheVariants.{Success}
use Rattle.yp_messages.specs.Transfers.{resp_xfr}
use Rattle.yp_board.specs.Logs.{Log}
use Rattle.yp_texts.specs.declared.reading.Reading.TheVariants.{Rows}
use Rattle.yp_texts.specs.Readings.{reading_of}
use Rattle.yp_headline.specs.World.{World, Letter, Filed, Dialed}
use Rattle.yp_headline.specs.inside.Files.{streamed}
use Rattle.yp_headline.specs.Headline.{Crashes, Transfers, CallBacks}
use Rattle.yp_headline.specs.inside.Tried.{cell_of, shut_cell, version_with, whole_file, torn_file}
use Rattle.yp_headline.specs.inside.Tried.{synced, one_file, own_map, text, somebody, low_caller}
use Rattle.yp_headline.specs.inside.Tried.{order_reply, master_reply, all_reply}
use Rattle.yp_headline.specs.inside.Tried.{fetched_bytes, success_call, success_letter, xfr_call, first_log}
use Rattle.yp_headline.specs.inside.Tried.{fetched_log, transfer_world, mailed_transfer}
use Rattle.yp_headline.specs.inside.Tried.{IsTornWorld, IsWrongTransfer, served_world}

-- ---- files

-- a disk whose only body is being written over: what its last sync left, and what a read gives
abbrev pub in_writing : (left reads : List ℕ) → DiskState
in_writing left reads = record { synced = left; written = (64, 100) ∷ []; reads = reads }

-- a server of one map that is made of a text, whose file is so at the end
abbrev pub text_world : (first : List ℕ) → (last : DiskState) → List ℕ → World
text_world first last done = record {
  catalogue = own_map;
  stores = Filed (record { first = synced first; moments = last ∷ synced first ∷ []; last = last }) ∷ [];
  text = λ name. Some text;
  reading = λ name. Rows;
  coming = [];
  connections = [];
  datagrams = [];
  dialed = [];
  posted = [];
  done = done;
}

-- a server of two maps of another master: the file of the first stays as it was, and that of the second was empty
abbrev pub two_files : List ℕ → World
two_files last = record {
  catalogue = record { own = 110 ∷ []; maps = (100 ∷ [], 112 ∷ []) ∷ (100 ∷ [], 113 ∷ []) ∷ [] };
  stores = Filed (record {
    first = synced (whole_file 7 118);
    moments = synced (whole_file 7 118) ∷ [];
    last = synced (whole_file 7 118);
  })
      ∷ Filed (record { first = synced []; moments = synced last ∷ synced [] ∷ []; last = synced last }) ∷ [];
  text = λ name. None;
  reading = reading_of;
  coming = [];
  connections = [];
  datagrams = [];
  dialed = [];
  posted = [];
  done = [];
}

-- a server that makes and fetches, whose file stood for the order 20, then for a version that was built behind the one
-- that was given, and then for the order 20 again
abbrev pub back_world : World
back_world = record (served_world [] []) {
  stores = Filed (record {
    first = synced (whole_file 20 118);
    moments = synced (whole_file 20 118) ∷ synced (whole_file 10 119) ∷ synced (whole_file 20 118) ∷ [];
    last = synced (whole_file 20 118);
  }) ∷ [];
}

-- Files: one that is damaged at the end, or at a moment; a version that is gone at the end, or at a moment; one that
-- nobody made or sent; one that ends within its body; a body that is written over in place, so that a crash may leave
-- the order of one version with the rows of another; one whose order is under that of the first; one whose rows aren't
-- those of the text; that of another map; and one that is told as stored before it is synced. Files of a server that
-- makes and fetches: a version that nobody built or gave, at a moment or at the end; one of the order that was shown at
-- first, which was new at no moment; and one that goes back by two versions, from one that was new only behind the one
-- that was given to the first.
pub record CrashesAreFalse : Type 0 where
  pub torn_at_end : IsTornWorld (one_file [] [] torn_file [] [])
  pub torn_meanwhile : IsTornWorld (one_file [] torn_file [] [] [])
  pub lost_at_end : IsTornWorld (one_file (whole_file 7 118) [] [] [] [])
  pub lost_meanwhile : IsTornWorld (one_file (whole_file 7 118) [] (whole_file 7 118) [] [])
  pub from_nowhere : IsTornWorld (one_file (whole_file 7 118) (whole_file 7 118) (whole_file 9 119) [] [])
  pub cut_at_end : IsTornWorld (one_file [] [] (take 99 (whole_file 7 118)) [] [])
  pub torn_body : IsTornWorld (text_world (whole_file 7 118) (in_writing (whole_file 7 118) (whole_file 8 119)) [])
  pub older_at_end : IsTornWorld (text_world (whole_file 7 118) (synced (whole_file 6 119)) [])
  pub of_no_text : IsTornWorld (text_world (whole_file 7 118) (synced (whole_file 8 120)) [])
  pub of_another_map : IsTornWorld (two_files (whole_file 7 118))
  pub told_too_early : IsTornWorld
      (text_world (whole_file 7 118) (in_writing (whole_file 7 118) (whole_file 8 119)) (0 ∷ []))
  pub of_nobody_meanwhile : IsTornWorld (served_world (whole_file 8 120) (whole_file 8 119))
  pub of_nobody_at_end : IsTornWorld (served_world (whole_file 8 119) (whole_file 8 120))
  pub never_new : IsTornWorld (served_world (whole_file 7 119) (whole_file 8 119))
  pub went_back : IsTornWorld back_world

-- ---- transfers

-- one file that was empty, and a server that gave these bytes
abbrev pub transfer_of : List ℕ → World
transfer_of came = one_file [] [] (whole_file 7 118) (0 ∷ []) (streamed somebody came ∷ [])

-- the reply to ORDER that there is no such map
abbrev pub refused_reply : List ℕ
refused_reply = reply_head 1 Success ++ words (4294967295 ∷ 0 ∷ [])

-- a file of a version without rows, and one of two rows
abbrev pub no_row_file : ℕ → List ℕ
no_row_file order = cell_of 20 ++ shut_cell ++ 0 ∷ 0 ∷ 0 ∷ 1 ∷ 0 ∷ 0 ∷ 0 ∷ order ∷ 0 ∷ 0 ∷ 0 ∷ 1 ∷ 109 ∷ 0 ∷ 0 ∷ 0
    ∷ 0 ∷ 0 ∷ 0 ∷ 0 ∷ []

abbrev pub two_row_file : (order value : ℕ) → List ℕ
two_row_file order value = cell_of 52 ++ shut_cell ++ 0 ∷ 0 ∷ 0 ∷ 1 ∷ 0 ∷ 0 ∷ 0 ∷ order ∷ 0 ∷ 0 ∷ 0 ∷ 1 ∷ 109
    ∷ 0 ∷ 0 ∷ 0 ∷ 0 ∷ 0 ∷ 0 ∷ 2
    ∷ 0 ∷ 0 ∷ 0 ∷ 1 ∷ 107 ∷ 0 ∷ 0 ∷ 0 ∷ 0 ∷ 0 ∷ 0 ∷ 1 ∷ value ∷ 0 ∷ 0 ∷ 0
    ∷ 0 ∷ 0 ∷ 0 ∷ 1 ∷ 108 ∷ 0 ∷ 0 ∷ 0 ∷ 0 ∷ 0 ∷ 0 ∷ 1 ∷ value ∷ 0 ∷ 0 ∷ 0 ∷ []

-- a transfer of the version that a server gave, which is told as done, and left this file
abbrev pub stored_of : List ℕ → World
stored_of file = one_file [] [] file (0 ∷ []) (streamed somebody fetched_bytes ∷ [])

-- The headline is false of its files and its transfers together.
abbrev pub IsWrongStored : World → Type 0
IsWrongStored world = (begun log : Log) → Crashes world begun log → Transfers world begun log → ⊥

-- a transfer that is called back as done where nobody asked for one
abbrev pub called_unasked : World
called_unasked = record (one_file [] [] [] [] []) { posted = success_letter ∷ [] }

-- one that was asked for, where such servers were dialed
abbrev pub called_of : List Dialed → World
called_of dialed = record transfer_world { dialed = dialed }

-- one that is called back by these letters
abbrev pub called_by : List Letter → World
called_by letters = record transfer_world { posted = letters }

-- at another host, at another port, and by the right letter and one more, of the number 6
abbrev pub far_letter : Letter
far_letter = record { peer = record { addr = 10 ∷ 0 ∷ 0 ∷ 8 ∷ []; port = 700 }; bytes = success_call }

abbrev pub called_elsewhere : World
called_elsewhere = called_by (far_letter ∷ [])

abbrev pub port_letter : Letter
port_letter = record { peer = record { addr = 10 ∷ 0 ∷ 0 ∷ 7 ∷ []; port = 701 }; bytes = success_call }

abbrev pub called_at_another_port : World
called_at_another_port = called_by (port_letter ∷ [])

abbrev pub sixth_letter : Letter
sixth_letter = record { peer = low_caller; bytes = call_of resp_xfr 6 1073741824 1 1 (6, pos 1) }

abbrev pub called_once_more : World
called_once_more = called_by (success_letter ∷ sixth_letter ∷ [])

-- one that is asked for in a datagram, and called back at another host
abbrev pub mailed_elsewhere : World
mailed_elsewhere = record mailed_transfer { posted = far_letter ∷ [] }

-- the replies of a source that went from the order 9 to the order 10 between them
abbrev pub skewed_bytes : List ℕ
skewed_bytes = sent (order_reply 1 9) ++ (sent (master_reply 2) ++ (sent (all_reply 3) ++ sent (order_reply 4 10)))

-- what came is these bytes, and two transfers are called back
abbrev pub called_two : List ℕ → World
called_two came = record transfer_world {
  connections = record { peer = somebody; came = came; sent = []; cut = true } ∷ [];
  posted = success_letter ∷ success_letter ∷ [];
}

-- The headline is false of its call backs.
abbrev pub IsWrongCallBack : World → Type 0
IsWrongCallBack world = (begun log : Log) → CallBacks world begun log → ⊥

-- Transfers that are told as done: of no server; of one that gave nothing, its order alone, no rows, or another order
-- at last; of one that told that it has no such map, or that answered another call; and of one that gave a version,
-- where the file stands for nothing, for another row, for another order, for no rows, or for a row more. And transfers
-- that are called back as done: for which nobody asked, of no server, of one that gave its order alone, of a source
-- that showed no version throughout, and of one that gave a version that the log hasn't; one that is called back at
-- another host than that of its caller; one that is called back twice; and two of which the second was taken when the
-- one version of the server had been entered. Of many callers: one for which nobody asked, one of no server, one of a
-- server that gave a version that the log hasn't, or had when the first call came; one at another host, or port; one
-- more, of another number; and one that was asked for in a datagram, at another host.
pub record TransfersAreFalse : Type 0 where
  pub of_no_server : IsWrongTransfer (one_file [] [] (whole_file 7 118) (0 ∷ []) [])
  pub gave_nothing : IsWrongTransfer (transfer_of [])
  pub gave_order : IsWrongTransfer (transfer_of (sent (order_reply 1 9)))
  pub gave_no_rows : IsWrongTransfer (transfer_of (sent (order_reply 1 9) ++ sent (master_reply 2)))
  pub gave_skewed : IsWrongTransfer (transfer_of skewed_bytes)
  pub gave_refusal : IsWrongTransfer (transfer_of (sent refused_reply))
  pub of_another_call : IsWrongTransfer (transfer_of (sent (order_reply 8 9)))
  pub stored_nothing : IsWrongStored (stored_of [])
  pub stored_another_row : IsWrongStored (stored_of (whole_file 9 118))
  pub stored_another_order : IsWrongStored (stored_of (whole_file 10 119))
  pub row_missing : IsWrongStored (stored_of (no_row_file 9))
  pub row_added : IsWrongStored (stored_of (two_row_file 9 119))
  pub called_without_call : IsWrongTransfer called_unasked
  pub called_of_no_server : IsWrongTransfer (called_of [])
  pub called_of_order : IsWrongTransfer (called_of (streamed somebody (sent (order_reply 1 9)) ∷ []))
  pub called_of_skewed : IsWrongTransfer (called_of (streamed somebody skewed_bytes ∷ []))
  pub called_unshown : (begun : Log) → Transfers transfer_world begun first_log → ⊥
  pub of_another_host : IsWrongTransfer called_elsewhere
  pub called_twice : IsWrongTransfer (called_two (sent xfr_call))
  pub entered_before : (begun : Log) → Transfers (called_two (sent xfr_call ++ sent xfr_call)) begun fetched_log → ⊥
  pub asked_by_nobody : IsWrongCallBack called_unasked
  pub asked_of_no_server : IsWrongCallBack (called_of [])
  pub asked_unshown : (begun : Log) → CallBacks transfer_world begun first_log → ⊥
  pub asked_when_shown : CallBacks transfer_world fetched_log fetched_log → ⊥
  pub asked_elsewhere : IsWrongCallBack called_elsewhere
  pub asked_at_another_port : IsWrongCallBack called_at_another_port
  pub asked_once_more : IsWrongCallBack called_once_more
  pub mail_elsewhere : IsWrongCallBack mailed_elsewhere

-- ---- a right one

abbrev pub stored_log : Log
stored_log = (0, version_with 9 119) ∷ []

-- The file that was empty stands for the version that the server gave.
pub record HoldsOfTransfer : Type 0 where
  pub crashes : Crashes (stored_of (whole_file 9 119)) [] stored_log
  pub transfers : Transfers (stored_of (whole_file 9 119)) [] stored_log
