use Rattle.std.proofs.Common.{◌≡◌, true, false, refl}
use Rattle.std.proofs.KnownBytes.{Keeps-refl}
use Rattle.yp_rpc.proofs.Holding.{room_for_one, closed_holds, closed_stays, closed_waits, full_batch, closed_sent}
use Rattle.yp_rpc.proofs.Holding.{closed_part}
use Rattle.yp_rpc.proofs.record.writer.make_room.Goals as goal

pub close-requires : goal.close-requires
close-requires g c = room_for_one c.args.batch.now c.requires

pub returns-then-has_room-clause-holds : goal.returns-then-has_room-clause-holds
returns-then-has_room-clause-holds g c =
    closed_holds c.args.batch.now c.close.new.self c.requires c.close.ensures (c.if-not-is_full.ensures.full.0 refl)
    (c.if-has_room.ensures.0 refl)

pub returns-then-has_room-clause-sent : goal.returns-then-has_room-clause-sent
returns-then-has_room-clause-sent g c =
    closed_stays _ c.args.batch.now c.close.new.self c.close.ensures (c.if-not-is_full.ensures.full.0 refl)

pub returns-clause-sent : goal.returns-clause-sent
returns-clause-sent g c =
    closed_sent c.send.result _ _ c.args.batch.now c.close.new.self c.send.new.self c.close.ensures
    c.send.ensures.as_new (c.if-not-is_full.ensures.full.0 refl) c.send.ensures.sent

pub returns-clause-prefix : goal.returns-clause-prefix
returns-clause-prefix g c =
    closed_part c.send.result _ _ c.args.batch.now c.close.new.self c.close.ensures
    (c.if-not-is_full.ensures.full.0 refl) c.send.ensures.prefix

pub returns-then-has_room-clause-held : goal.returns-then-has_room-clause-held
returns-then-has_room-clause-held g c =
    λ fits. (
      refl,
      Keeps-refl _,
      closed_waits c.args.batch.now c.close.new.self c.requires c.close.ensures
          (c.if-not-is_full.ensures.full.0 refl),
    )

pub returns-clause-held : goal.returns-clause-held
returns-clause-held g c = λ fits.
    absurd (full_batch c.args.batch.now c.close.new.self c.requires c.close.ensures
    (c.if-not-is_full.ensures.full.0 refl)
    (λ room. let wrong : false ≡ true = c.if-has_room.ensures.1 room in cc) fits)
