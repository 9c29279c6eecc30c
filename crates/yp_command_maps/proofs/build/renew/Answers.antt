use Rattle.std.proofs.Common.{◌∙◌, sym}
use Rattle.yp_command_maps.specs.inside.Build.{last_view}
use Rattle.yp_command_maps.proofs.Accepted.{accepted_only}
use Rattle.yp_command_maps.proofs.build.renew.Goals as goal

pub store_version-requires-clause-accepted : goal.store_version-requires-clause-accepted
store_version-requires-clause-accepted g c =
    accepted_only c.args.publisher.now.catalogue.own c.deref.result.now (last_view c.shown_of-last.result) c.in_ok-version.version c.args.publisher.now.maps
    (c.requires.own ∙ sym c.deref.ensures.value) c.in_ok-version.ensures.same_master c.in_ok-version.ensures.over c.shown_of-last.ensures c.requires.level
