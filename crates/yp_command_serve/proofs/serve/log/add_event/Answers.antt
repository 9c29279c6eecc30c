use Rattle.std.proofs.Common.{map, codes}
use Rattle.yp_board.specs.Catalogues.{name_view}
use Rattle.yp_command_serve.specs.serve.Log.{numbered_text, asked_text, told_text}
use Rattle.yp_command_serve.proofs.serve.Logging.{three}
use Rattle.yp_command_serve.proofs.serve.log.add_event.Goals as goal

pub returns-in-NotFetched-clause-text : goal.returns-in-NotFetched-clause-text
returns-in-NotFetched-clause-text c =
    let maps = map name_view c.args.names.now in
    let event = c.in-NotFetched in
    rw event.is
    (three c.args.line.now.items c.add-in-NotFetched.new.line.items c.add_numbered-in-NotFetched.new.line.items
    c.add_told-in-NotFetched.new.line.items (codes "not fetched ") (numbered_text maps event.map)
    (told_text event.stat event.peer) c.add-in-NotFetched.ensures.text c.add_numbered-in-NotFetched.ensures.text
    c.add_told-in-NotFetched.ensures.text)

pub returns-in-RefusedMake-clause-text : goal.returns-in-RefusedMake-clause-text
returns-in-RefusedMake-clause-text c =
    let maps = map name_view c.args.names.now in
    let event = c.in-RefusedMake in
    rw event.is
    (three c.args.line.now.items c.add-in-RefusedMake.new.line.items c.add_asked.new.line.items
    c.add_told-in-RefusedMake.new.line.items (codes "refused MAKE ") (asked_text maps event.map)
    (told_text event.stat event.peer) c.add-in-RefusedMake.ensures.text c.add_asked.ensures.text
    c.add_told-in-RefusedMake.ensures.text)

pub returns-in-RefusedXfr-clause-text : goal.returns-in-RefusedXfr-clause-text
returns-in-RefusedXfr-clause-text c =
    let maps = map name_view c.args.names.now in
    let event = c.in-RefusedXfr in
    rw event.is
    (three c.args.line.now.items c.add-in-RefusedXfr.new.line.items c.add_asked-in-RefusedXfr.new.line.items
    c.add_told-in-RefusedXfr.new.line.items (codes "refused XFR ") (asked_text maps event.map)
    (told_text event.stat event.peer) c.add-in-RefusedXfr.ensures.text c.add_asked-in-RefusedXfr.ensures.text
    c.add_told-in-RefusedXfr.ensures.text)
