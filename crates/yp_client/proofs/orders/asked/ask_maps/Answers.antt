use Rattle.yp_client.proofs.orders.Short.{maps_short}
use Rattle.yp_client.proofs.orders.asked.ask_maps.Goals as goal

pub returns-in-Ok-clause-short : goal.returns-in-Ok-clause-short
returns-in-Ok-clause-short g c =
    maps_short _ c.in-Ok.ensures.answered.reply c.in-Ok.list.maps c.in-Ok.ensures.answered.answered
