use Rattle.std.proofs.Common.{◌≡◌, ◌+◌, ◌≤◌, length, drop, take, min, arith, length-append, length-drop}
use Rattle.std.proofs.lemmas.List.{take_rest, drop_all}
use Rattle.yp_memory.proofs.Pieces.{front_then_rest}
use Rattle.yp_memory.proofs.streams.MemSourceSource.read.Goals as goal

pub returns-clause-bytes : goal.returns-clause-bytes
returns-clause-bytes c =
    let bytes = c.self.inside.bytes.items in
    let at = c.self.inside.at in
    let count = c.min-count.result in
    let least : count ≡ min c.min.result (length (drop at bytes)) =
    rw (c.deref.ensures.value, take_rest) at c.min-count.ensures in
    let within : count ≤ length (drop at bytes) = omega arith in
    let copied : c.copy_from_slice.new.self ≡ take count (drop at bytes) =
    rw (c.deref.ensures.value, take_rest) at c.copy_from_slice.ensures.after in (
      rw (← c.self.view_is) (front_then_rest bytes c.copy_from_slice.new.self _ at count within copied),
      λ none room. drop_all (at + count) bytes
          (omega (
            arith,
            length-append c.copy_from_slice.new.self
                (drop count c.args.buf.now),
            length-drop count c.args.buf.now,
            length-drop at bytes,
            c.copy_from_slice.ensures.len,
          )),
    )
