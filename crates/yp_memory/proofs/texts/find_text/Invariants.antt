use Rattle.std.proofs.Common.{◌≡◌, map, drop}
use Rattle.yp_io.specs.inside.Texts.{text_of}
use Rattle.yp_memory.proofs.texts.find_text.Given as goal

abbrev pub invariant-loop-name : goal.invariant-loop-name
invariant-loop-name l = text_of l.wanted (map (λ text. (text.0.items, text.1.items)) (drop l.name-index l.texts))
    ≡ text_of l.wanted (map (λ text. (text.0.items, text.1.items)) l.texts)
