use Rattle.std.proofs.Common.{◌<◌, length, arith}
use Rattle.std.proofs.lemmas.List.{take_rest}
use Rattle.std.proofs.lemmas.Result.{err_from_is_err_and}
use Rattle.yp_rpc.proofs.Holding.{room_for_one, some_left, HasPut-more, prefix_behind}
use Rattle.yp_rpc.proofs.record.writer.put_all.Goals as goal

pub returns-in_err-make_room-clause-prefix : goal.returns-in_err-make_room-clause-prefix
returns-in_err-make_room-clause-prefix g c =
    let some : 0 < length c.loop-rest.rest.now =
    some_left (length c.loop-rest.rest.now) c.is_empty.result c.is_empty.ensures c.loop-rest-test.true in
    let p = err_from_is_err_and c.from_residual.result c.from_residual.ensures.1 in
    rw p.1 (λ more. prefix_behind _ _ _ _ _ _ _ more c.loop-rest.invariant.so_far c.in_err-make_room.ensures.prefix
    some)

pub keep-count-requires : goal.keep-count-requires
keep-count-requires g c = room_for_one c.make_room.new.batch c.in_ok-make_room.ensures.holds

pub loop-rest-preserved : goal.loop-rest-preserved
loop-rest-preserved g c =
    let some : 0 < length c.loop-rest.rest.now =
    some_left (length c.loop-rest.rest.now) c.is_empty.result c.is_empty.ensures c.loop-rest-test.true in
    let sent = c.in_ok-make_room.ensures.sent in
    record {
      so_far = rw take_rest
          (HasPut-more c.make_room.result _ _ _ _ _ c.make_room.new.batch c.keep-count.new.self _ _ sent.0
          c.keep-count.result c.loop-rest.invariant.so_far c.in_ok-make_room.ensures.holds sent.1 sent.2
          c.keep-count.ensures.kept
          (omega (arith, c.in_ok-make_room.ensures.room)) (omega arith) (omega (arith, c.in_ok-make_room.ensures.room))
          c.make_room.ensures.held);
      never_fell = omega (arith, c.in_ok-make_room.ensures.cause.never_falls);
    }
