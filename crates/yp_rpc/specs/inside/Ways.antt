-- What a handler does, by its bound.
use Rattle.yp_rpc.specs.declared.handler.Handler as handler
use Rattle.yp_rpc.specs.Turns.{Ways, ways_of}

abbrev pub ways_by : {E : Type 0} → handler.Ghosts E → Ways E
ways_by ghosts = ways_of ghosts.goes ghosts.hears ghosts.rests
