-- Worlds of walks, right and wrong.
use Rattle.std.specs.Prelude.{ℕ, List, [], ◌∷◌, ◌++◌, false}
use Rattle.yp_rpc.specs.Reply.{reply_head}
use Rattle.yp_rpc.specs.declared.reply.ReplyHead.TheVariants.{Success}
use Rattle.yp_board.specs.Logs.{Log}
use Rattle.yp_headline.specs.World.{World}
use Rattle.yp_headline.specs.Headline.{Crashes, Transfers}
use Rattle.yp_headline.specs.inside.Files.{mailed}
use Rattle.yp_headline.specs.inside.Tried.{somebody, whole_file, one_file, order_reply, master_reply, IsWrongTransfer}
use Rattle.yp_headline.specs.inside.TriedFiles.{two_row_file, IsWrongStored}

-- the reply to FIRST or NEXT with a row: its value, and its key
abbrev pub row_reply : (xid key value : ℕ) → List ℕ
row_reply xid key value = reply_head xid Success ++ 0 ∷ 0 ∷ 0 ∷ 1 ∷ 0 ∷ 0 ∷ 0 ∷ 1 ∷ value ∷ 0 ∷ 0 ∷ 0
    ∷ 0 ∷ 0 ∷ 0 ∷ 1 ∷ key ∷ 0 ∷ 0 ∷ 0 ∷ []

-- the reply that there is no row, NOMORE
abbrev pub end_reply : ℕ → List ℕ
end_reply xid = reply_head xid Success ++ 0 ∷ 0 ∷ 0 ∷ 2 ∷ 0 ∷ 0 ∷ 0 ∷ 0 ∷ 0 ∷ 0 ∷ 0 ∷ 0 ∷ []

-- a walk over a server that sent these datagrams, which is told as done, and left this file, which was empty
abbrev pub walk_of : List ℕ → List (List ℕ) → World
walk_of file mails = one_file [] [] file (0 ∷ []) (mailed somebody mails ∷ [])

-- a map of two rows, of which each value is w
abbrev pub two_mails : List (List ℕ)
two_mails =
    order_reply 1 9 ∷ master_reply 2 ∷ row_reply 3 107 119 ∷ row_reply 4 108 119 ∷ end_reply 5 ∷ order_reply 6 9 ∷ []

-- a server that goes on to the order 10 in between
abbrev pub mixed_mails : List (List ℕ)
mixed_mails =
    order_reply 1 9 ∷ master_reply 2 ∷ row_reply 3 107 119 ∷ row_reply 4 108 118 ∷ end_reply 5 ∷ order_reply 6 10 ∷ []

-- the reply to FIRST comes again, with another value
abbrev pub copied_mails : List (List ℕ)
copied_mails =
    order_reply 1 9 ∷ master_reply 2 ∷ row_reply 3 107 119 ∷ row_reply 3 107 118 ∷ end_reply 4 ∷ order_reply 5 9 ∷ []

-- Walks that are told as done: of nothing that came; of rows of two versions, whose orders the first ORDER and the last
-- tell; of a row that was skipped; and of a row of another version, which came in a late copy of a reply.
pub record WalksAreFalse : Type 0 where
  pub gave_nothing : IsWrongTransfer (walk_of (whole_file 9 119) [])
  pub rows_mixed : IsWrongTransfer (walk_of (two_row_file 9 119) mixed_mails)
  pub row_skipped : IsWrongStored (walk_of (whole_file 9 119) two_mails)
  pub copy_taken : IsWrongStored (walk_of (whole_file 9 118) copied_mails)

abbrev pub walked_log : Log
walked_log = (
  0,
  record {
    order = 9;
    master = 109 ∷ [];
    secure = false;
    rows = (107 ∷ [], 119 ∷ []) ∷ (108 ∷ [], 119 ∷ []) ∷ [];
  },
) ∷ []

-- The file that was empty stands for the version whose rows came one by one.
pub record HoldsOfWalk : Type 0 where
  pub crashes : Crashes (walk_of (two_row_file 9 119) two_mails) [] walked_log
  pub transfers : Transfers (walk_of (two_row_file 9 119) two_mails) [] walked_log
