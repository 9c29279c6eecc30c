-- A world that is right: a map that is fetched behind a call, and then asked for.
use Rattle.std.proofs.Common.{◌≡◌, ℕ, zero, suc, Bool, true, false, cond, pos, List, [], ◌∷◌, ◌++◌, map, Some, refl, sym, subst, arith, inl, inr, append_assoc}
use Rattle.std.specs.Prelude.{◌==◌}
use Rattle.std.specs.List.Sorted.{IsStrictlyIncreasing}
use Rattle.std.proofs.lemmas.List.{append-nil}
use Rattle.std.proofs.lemmas.List.Elements.{All-nil, All-cons}
use Rattle.yp_messages.specs.Messages.{resp_order, resp_master}
use Rattle.yp_xdr.specs.Reading.{Remaining, word_at, content_at, opaque_at, bool_at, one_of_at}
use Rattle.yp_xdr.specs.Spelling.{fixed, opaque}
use Rattle.yp_rpc.specs.Records.{Fragments, IsShort, sent, sent_within}
use Rattle.yp_rpc.specs.Reply.{words}
use Rattle.yp_messages.specs.declared.transfer.XfrStat.TheVariants.{Succ}
use Rattle.yp_version.specs.Versions.{MapVersion}
use Rattle.yp_client.specs.Limits.{reply_max, all_max}
use Rattle.yp_answer.specs.declared.procedure.Path.TheVariants.{Stream, Datagram as Mail}
use Rattle.yp_answer.specs.Numbers.{record_max}
use Rattle.yp_answer.specs.Served.{maps_on}
use Rattle.yp_answer.specs.Reply.{Response, Bytes, Takes, reply, xfr_reply}
use Rattle.yp_headline.specs.inside.Tried.{somebody, mail_of, version_with, match_call, match_reply, one_map, first_log, order_reply, master_reply, all_reply, fetched_bytes, xfr_call, fetched_log, its_transfer, transfer_world, mailed_transfer}
use Rattle.yp_headline.specs.inside.Files.{streamed}
use Rattle.yp_headline.specs.Fetching.{Reads, Says, RowsAre, Gives}
use Rattle.yp_headline.specs.Serving.{IsReply}
use Rattle.yp_headline.specs.Publishing.{IsFetched}
use Rattle.yp_headline.specs.Sources.{IsOfSource}
use Rattle.yp_headline.specs.Answering.{answer}
use Rattle.yp_headline.specs.Headline.{Replies, Transfers, CallBacks}
use Rattle.yp_headline.proofs.Runs.{front_self, none_among}
use Rattle.yp_headline.proofs.Listing.{one_listed}
use Rattle.yp_headline.proofs.Matched.{match_record}

-- ---- what a server gives

abbrev pub left_at : List ℕ → Remaining
left_at bytes = record { at = 24; bytes = bytes }

pub first_order : Says 1 (Reads resp_order (pos 1, 9)) (order_reply 1 9)
unfolding word_at content_at opaque_at one_of_at
first_order = record {
  left = left_at (words (1 ∷ 9 ∷ []));
  verifier = (0, []);
  head = refl;
  results = (record { at = 32; bytes = [] }, refl);
}

pub its_master : Says 2 (Reads resp_master (pos 1, 109 ∷ [])) (master_reply 2)
unfolding word_at content_at opaque_at one_of_at
its_master = record {
  left = left_at (0 ∷ 0 ∷ 0 ∷ 1 ∷ 0 ∷ 0 ∷ 0 ∷ 1 ∷ 109 ∷ 0 ∷ 0 ∷ 0 ∷ []);
  verifier = (0, []);
  head = refl;
  results = (record { at = 36; bytes = [] }, refl);
}

pub second_order : Says 4 (Reads resp_order (pos 1, 9)) (order_reply 4 9)
unfolding word_at content_at opaque_at one_of_at
second_order = record {
  left = left_at (words (1 ∷ 9 ∷ []));
  verifier = (0, []);
  head = refl;
  results = (record { at = 32; bytes = [] }, refl);
}

pub its_rows : Says 3 (RowsAre ((107 ∷ [], 119 ∷ []) ∷ [])) (all_reply 3)
unfolding word_at content_at opaque_at bool_at one_of_at
its_rows = record {
  left = left_at (0 ∷ 0 ∷ 0 ∷ 1 ∷ 0 ∷ 0 ∷ 0 ∷ 1 ∷ 0 ∷ 0 ∷ 0 ∷ 1 ∷ 119 ∷ 0 ∷ 0 ∷ 0
      ∷ 0 ∷ 0 ∷ 0 ∷ 1 ∷ 107 ∷ 0 ∷ 0 ∷ 0 ∷ 0 ∷ 0 ∷ 0 ∷ 0 ∷ []);
  verifier = (0, []);
  head = refl;
  results = (record { at = 48; bytes = 0 ∷ 0 ∷ 0 ∷ 0 ∷ [] }, refl, inl (record { at = 52; bytes = [] }, refl));
}

pub order_record : Fragments reply_max (order_reply 1 9) (sent (order_reply 1 9))
unfolding sent_within
order_record = record {
  pieces = [];
  last = order_reply 1 9;
  whole = refl;
  spelled = refl;
  within = record {
    len = omega arith;
    empty = omega arith;
    short = All-cons IsShort (order_reply 1 9) [] (omega arith) (All-nil IsShort);
  };
}

pub master_record : Fragments reply_max (master_reply 2) (sent (master_reply 2))
unfolding sent_within
master_record = record {
  pieces = [];
  last = master_reply 2;
  whole = refl;
  spelled = refl;
  within = record {
    len = omega arith;
    empty = omega arith;
    short = All-cons IsShort (master_reply 2) [] (omega arith) (All-nil IsShort);
  };
}

pub rows_record : Fragments all_max (all_reply 3) (sent (all_reply 3))
unfolding sent_within
rows_record = record {
  pieces = [];
  last = all_reply 3;
  whole = refl;
  spelled = refl;
  within = record {
    len = omega arith;
    empty = omega arith;
    short = All-cons IsShort (all_reply 3) [] (omega arith) (All-nil IsShort);
  };
}

pub again_record : Fragments reply_max (order_reply 4 9) (sent (order_reply 4 9))
unfolding sent_within
again_record = record {
  pieces = [];
  last = order_reply 4 9;
  whole = refl;
  spelled = refl;
  within = record {
    len = omega arith;
    empty = omega arith;
    short = All-cons IsShort (order_reply 4 9) [] (omega arith) (All-nil IsShort);
  };
}

pub gives : Gives (streamed somebody fetched_bytes) (version_with 9 119)
gives = record {
  rows = (107 ∷ [], 119 ∷ []) ∷ [];
  order = order_reply 1 9;
  master = master_reply 2;
  others = all_reply 3 ∷ order_reply 4 9 ∷ [];
  heard = (
    sent (order_reply 1 9),
    sent (master_reply 2) ++ (sent (all_reply 3) ++ sent (order_reply 4 9)),
    refl,
    order_record,
    (
      sent (master_reply 2),
      sent (all_reply 3) ++ sent (order_reply 4 9),
      refl,
      master_record,
      (
        sent (all_reply 3),
        sent (order_reply 4 9),
        refl,
        rows_record,
        (sent (order_reply 4 9), [], sym (append-nil (sent (order_reply 4 9))), again_record, tt),
      ),
    ),
  );
  says_order = first_order;
  says_master = its_master;
  says_rows = (its_rows, second_order);
  not_secure = refl;
  listed = one_listed (107 ∷ [], 119 ∷ []);
}

-- ---- the session

pub xfr_record : Fragments record_max (xfr_call) (sent (xfr_call))
unfolding sent_within
xfr_record = record {
  pieces = [];
  last = xfr_call;
  whole = refl;
  spelled = refl;
  within = record {
    len = omega arith;
    empty = omega arith;
    short = All-cons IsShort (xfr_call) [] (omega arith) (All-nil IsShort);
  };
}

is_taken : reply Stream (maps_on one_map first_log) somebody xfr_call ≡ Takes (xfr_reply 7 5 Succ) its_transfer
unfolding word_at content_at opaque_at
is_taken = refl

is_matched : reply Stream (maps_on one_map fetched_log) somebody match_call ≡ Bytes (match_reply 119)
unfolding word_at content_at opaque_at fixed opaque
is_matched = refl

two : IsStrictlyIncreasing (7 ∷ 9 ∷ [])
two zero within = omega arith
two (suc k) within = absurd (omega (arith, within))

two_rise : (b : Bool) → IsStrictlyIncreasing (map (λ (entry : ℕ × MapVersion). entry.1.order)
    (cond b ((0, version_with 7 118) ∷ cond b ((0, version_with 9 119) ∷ []) []) (cond b ((0, version_with 9 119) ∷ []) [])))
two_rise true = two
two_rise false = λ k within. absurd (omega (arith, within))

fetched : IsFetched transfer_world (version_with 9 119)
fetched = record {
  server = streamed somebody fetched_bytes;
  among = ([], [], refl);
  fetched = version_with 9 119;
  gives = gives;
  marked = refl;
}

transfers : IsOfSource transfer_world 0 gives (version_with 9 119) → Transfers transfer_world first_log fetched_log
unfolding fetched gives
transfers of_source = record {
  done = λ number among. absurd (none_among number among);
  called_back = λ some. record {
    connection = record {
      peer = somebody;
      came = sent xfr_call ++ sent match_call;
      sent = sent (xfr_reply 7 5 Succ) ++ sent (match_reply 119);
      cut = false;
    };
    among = ([], [], refl);
    exchanges = record { caller = somebody; call = xfr_call; reply = Some (xfr_reply 7 5 Succ) }
        ∷ record { caller = somebody; call = match_call; reply = Some (match_reply 119) } ∷ [];
    callers = (refl, (refl, tt));
    rest = [];
    came = (
      sent xfr_call,
      sent match_call,
      xfr_record,
      refl,
      (sent match_call, [], match_record, sym (append-nil (sent match_call)), refl),
    );
    letters = (
      [],
      record { caller = somebody; call = xfr_call; reply = Some (xfr_reply 7 5 Succ) },
      record { caller = somebody; call = match_call; reply = Some (match_reply 119) } ∷ [],
      first_log,
      fetched_log,
      refl,
      front_self first_log,
      ((0, version_with 9 119) ∷ [], refl),
      record {
        reply = xfr_reply 7 5 Succ;
        taken = its_transfer;
        takes = is_taken;
        host = refl;
        port = λ some. refl;
        stat = Succ;
        says = refl;
        shows = λ done.
            (version_with 9 119, first_log, front_self first_log, front_self fetched_log, fetched, of_source);
      },
      front_self fetched_log,
    );
  };
}

-- the same, among many callers
call_backs : IsOfSource transfer_world 0 gives (version_with 9 119) → CallBacks transfer_world first_log fetched_log
unfolding fetched gives
call_backs of_source = (
  (
    Stream,
    record { caller = somebody; call = xfr_call; reply = Some (xfr_reply 7 5 Succ) },
    (
      record { peer = somebody; came = sent xfr_call ++ sent match_call },
      ([], [], refl),
      refl,
      record { caller = somebody; call = xfr_call; reply = Some (xfr_reply 7 5 Succ) } ∷ [],
      ([], [], refl),
      sent match_call,
      (sent xfr_call, sent match_call, xfr_record, refl, refl),
    ),
    first_log,
    front_self first_log,
    ((0, version_with 9 119) ∷ [], refl),
    record {
      reply = xfr_reply 7 5 Succ;
      taken = its_transfer;
      takes = is_taken;
      host = refl;
      port = λ some. refl;
      stat = Succ;
      says = refl;
      shows = λ done.
          (version_with 9 119, first_log, front_self first_log, front_self fetched_log, fetched, of_source);
    },
  ),
  tt,
)

-- and where it was asked for in a datagram
mail_taken : answer Mail (maps_on one_map first_log) somebody xfr_call ≡ Takes (xfr_reply 7 5 Succ) its_transfer
unfolding word_at content_at opaque_at
mail_taken = refl

pub mail_transfer : IsOfSource mailed_transfer 0 gives (version_with 9 119) → CallBacks mailed_transfer first_log fetched_log
unfolding gives
mail_transfer of_source = (
  (
    Mail,
    record { caller = somebody; call = xfr_call; reply = Some (xfr_reply 7 5 Succ) },
    (
      mail_of somebody xfr_call (Some (xfr_reply 7 5 Succ)) false ∷ [],
      ([], [], refl),
      mail_of somebody xfr_call (Some (xfr_reply 7 5 Succ)) false,
      ([], [], refl),
      refl,
      refl,
    ),
    first_log,
    front_self first_log,
    ((0, version_with 9 119) ∷ [], refl),
    record {
      reply = xfr_reply 7 5 Succ;
      taken = its_transfer;
      takes = mail_taken;
      host = refl;
      port = λ some. refl;
      stat = Succ;
      says = refl;
      shows = λ done. (
        version_with 9 119,
        first_log,
        front_self first_log,
        front_self fetched_log,
        record {
          server = streamed somebody fetched_bytes;
          among = ([], [], refl);
          fetched = version_with 9 119;
          gives = gives;
          marked = refl;
        },
        of_source,
      );
    },
  ),
  tt,
)

replies : Replies transfer_world first_log fetched_log
replies = record {
  published = record {
    first = Some (version_with 7 118) ∷ [];
    stored = (refl, tt);
    begun_is = refl;
    more = (0, version_with 9 119) ∷ [];
    all = refl;
    new = (inr fetched, tt);
  };
  rises = λ number. two_rise (0 == number);
  connections = (
    record {
      exchanges = record { caller = somebody; call = xfr_call; reply = Some (xfr_reply 7 5 Succ) }
          ∷ record { caller = somebody; call = match_call; reply = Some (match_reply 119) } ∷ [];
      callers = (refl, (refl, tt));
      rest = [];
      came = (
        sent xfr_call,
        sent match_call,
        xfr_record,
        refl,
        (sent match_call, [], match_record, sym (append-nil (sent match_call)), refl),
      );
      answered = (
        first_log,
        first_log,
        front_self first_log,
        front_self first_log,
        subst (λ (r : Response). IsReply r (Some (xfr_reply 7 5 Succ)) first_log first_log) (sym is_taken) refl,
        (
          fetched_log,
          fetched_log,
          ((0, version_with 9 119) ∷ [], refl),
          front_self fetched_log,
          subst (λ (r : Response). IsReply r (Some (match_reply 119)) fetched_log fetched_log) (sym is_matched) refl,
          front_self fetched_log,
        ),
      );
      unsent = [];
      sent = sym (append_assoc (sent (xfr_reply 7 5 Succ)) (sent (match_reply 119)) []);
      whole = λ uncut. (inl refl, refl);
    },
    tt,
  );
  datagrams = tt;
}

pub session_transfer : IsOfSource transfer_world 0 gives (version_with 9 119)
    → Replies transfer_world first_log fetched_log × Transfers transfer_world first_log fetched_log
    × CallBacks transfer_world first_log fetched_log
session_transfer of_source = (replies, transfers of_source, call_backs of_source)
