use Rattle.std.proofs.Common.{◌≡◌, None, map, option_map, sym, ap, ◌∙◌}
use Rattle.std.specs.Arc.{arc_value}
use Rattle.std.proofs.lemmas.List.{get_or-map, length-map}
use Rattle.yp_board.specs.Logs.{starts}
use Rattle.yp_board.proofs.Starts.{shown-starts}
use Rattle.yp_board.proofs.plain.PlainBoard.new.Goals as goal

pub invariant_of-result : goal.invariant_of-result
invariant_of-result c =
    let start = c.args.start.items in
    let log : c.begun-log.result ≡ starts 0 (map (option_map arc_value) start)
    = c.begun-log.ensures ∙ ap (λ xs. starts 0 (map (option_map arc_value) xs)) c.deref.ensures.value in
    record {
      count = c.requires;
      last = λ k h. rw log
          (sym (get_or-map (option_map arc_value) start k None None h)
          ∙ sym (shown-starts k (map (option_map arc_value) start) (rw length-map h)));
    }
