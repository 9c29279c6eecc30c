use Rattle.yp_client.specs.query.Asked.{no_rows}
use Rattle.yp_end_to_end.proofs.exchange.Asking.{no_rows_room}
use Rattle.yp_end_to_end.proofs.exchange.laws.calls_have_replies.Goals as goal

pub returns : goal.returns
returns c = record {
  domain = λ maps peer xid domain served x d. let tells = c.domain_tells.ensures maps peer xid domain served x d in (tells.bytes, tells.replied);
  value = λ maps peer xid domain served x d map m key k. let tells = c.match_tells.ensures maps peer xid domain served x d map m key k in (tells.bytes, tells.replied);
  first = λ maps peer xid domain served x d map m. let tells = c.first_tells.ensures maps peer xid domain served x d map m in (tells.bytes, tells.replied);
  next = λ maps peer xid domain served x d map m key k. let tells = c.next_tells.ensures maps peer xid domain served x d map m key k in (tells.bytes, tells.replied);
  all = λ maps peer xid domain served x d map m.
      let tells = c.all_tells.ensures maps peer xid domain served x d map m no_rows (no_rows_room c.room_for_version.ensures maps peer.port domain map served) in (tells.bytes, tells.replied);
  master = λ maps peer xid domain served x d map m. let tells = c.master_tells.ensures maps peer xid domain served x d map m in (tells.bytes, tells.replied);
  order = λ maps peer xid domain served x d map m. let tells = c.order_tells.ensures maps peer xid domain served x d map m in (tells.bytes, tells.replied);
  names = λ maps peer xid domain served x d. let tells = c.maplist_tells.ensures maps peer xid domain served x d in (tells.bytes, tells.replied);
  pull = λ maps peer xid domain served x d map m source s. let tells = c.pull_tells.ensures maps peer xid domain served x d map m source s in (tells.bytes, tells.replied);
}
