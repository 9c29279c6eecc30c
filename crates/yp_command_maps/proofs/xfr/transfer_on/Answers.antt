use Rattle.std.proofs.Common.{◌∙◌, sym, arith}
use Rattle.yp_command_maps.proofs.Checking.{named_one}
use Rattle.yp_command_maps.proofs.xfr.transfer_on.Goals as goal

pub put_together-requires-clause-room : goal.put_together-requires-clause-room
put_together-requires-clause-room g c =
    let one = named_one c.in_ok-names.field-0.names.items c.args.disks.now.items c.in_ok-names.ensures.names c.requires.only in
    omega (arith, one, c.requires.only, c.in_ok-names.ensures.room)

pub put_together-requires-clause-count : goal.put_together-requires-clause-count
put_together-requires-clause-count g c =
    let one = named_one c.in_ok-names.field-0.names.items c.args.disks.now.items c.in_ok-names.ensures.names c.requires.only in
    c.transfer_over-done.ensures.only ∙ sym one
