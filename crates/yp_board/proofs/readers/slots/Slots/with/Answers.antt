use Rattle.std.proofs.Common.{◌≡◌, map, option_map, set, Some, ap, ◌∙◌}
use Rattle.std.specs.Arc.{arc_value}
use Rattle.std.proofs.lemmas.List.{map-set}
use Rattle.yp_board.proofs.readers.slots.Slots.with.Goals as goal

pub returns : goal.returns
returns c =
    let items = c.in_ok-versions.versions.items in
    let place = c.args.map in
    let version = c.in_ok-try_clone.field-0 in
    let same : map (option_map arc_value) items ≡ c.args.self.now
    = c.in_ok-versions.ensures ∙ ap (map (option_map arc_value)) c.deref.ensures.value ∙ c.self.view_is in
    map-set (option_map arc_value) items place (Some version)
    ∙ ap (λ versions. set versions place (Some (arc_value version))) same
    ∙ ap (λ value. set c.args.self.now place (Some value)) c.in_ok-try_clone.ensures
