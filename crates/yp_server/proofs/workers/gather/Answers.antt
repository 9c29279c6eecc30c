use Rattle.std.proofs.Common.{[], ◌∷◌, length, refl, ap, ◌∙◌, arith}
use Rattle.std.proofs.lemmas.List.{append-nil, length-append}
use Rattle.yp_server.specs.inside.Workers.{mails_in, held_in}
use Rattle.yp_server.proofs.Posted.{gathered, mails_more, held_more}
use Rattle.yp_server.proofs.workers.gather.Goals as goal

pub loop-server_worker-init : goal.loop-server_worker-init
loop-server_worker-init g c = record {
  mails = rw c.requires.none (append-nil (mails_in c.args.all_workers.items));
  room = rw c.requires.none (omega (arith, c.requires.room));
  parts = refl;
  out = refl;
  ended = refl;
  hosts = rw c.requires.none (omega arith);
  hosts_room = c.requires.hosts;
  capacity = refl;
}

pub take_in-requires : goal.take_in-requires
take_in-requires g c =
    let room = c.loop-server_worker.invariant.room in
    let front = c.pop.new.self.items in
    let last = c.in-Some.server_worker in
    let parted = ap (λ l. length (mails_in l)) c.in-Some.ensures.items ∙ ap length (mails_more front last)
    ∙ length-append (mails_in front) (mails_in (last ∷ [])) in
    record {
      room = omega (arith, room, parted);
      hosts =
          let fits = c.loop-server_worker.invariant.hosts_room in
          let shorter = c.in-Some.ensures.len in
          omega (arith, fits, shorter);
    }

pub loop-server_worker-preserved : goal.loop-server_worker-preserved
loop-server_worker-preserved g c =
    let before = c.loop-server_worker.invariant in
    let front = c.pop.new.self.items in
    let last = c.in-Some.server_worker in
    let is = c.in-Some.ensures.items in
    let did = c.take_in.ensures in
    let parted = ap (λ l. length (mails_in l)) is ∙ ap length (mails_more front last) ∙ length-append (mails_in front) (mails_in (last ∷ [])) in
    let long = ap length did.datagram_workers ∙ length-append c.loop-server_worker.datagram_workers.items (mails_in (last ∷ [])) in
    let more = held_more front last in
    let parts = ap (λ l. (held_in l).parts) is ∙ more.0 in
    let out = ap (λ l. (held_in l).out) is ∙ more.1 in
    let ended = ap (λ l. (held_in l).ended) is ∙ more.2 in
    record {
      mails = gathered _ _ last is _ _ _ did.datagram_workers before.mails;
      room = omega (arith, before.room, parted, long, did.capacity);
      parts = omega (arith, before.parts, did.parts, parts);
      out = omega (arith, before.out, did.out, out);
      ended = omega (arith, before.ended, did.ended, ended);
      hosts =
          let shorter = c.in-Some.ensures.len in omega (arith, before.hosts, did.hosts, long, shorter);
      hosts_room =
          let shorter = c.in-Some.ensures.len in
          omega (arith, before.hosts_room, did.hosts, did.hosts_room, shorter);
      capacity = did.hosts_room ∙ before.capacity;
    }
