use Rattle.std.proofs.Common.{◌∙◌, ◌+◌, ◌++◌, List, ℕ, Vec, Global, length, take, drop, ap, arith}
use Rattle.std.proofs.lemmas.List.{with_items_is}
use Rattle.amr_disk.proofs.Places.{placed_within, placed_past}
use Rattle.amr_disk.proofs.buffer.place.Goals as goal
use Rattle.amr_disk.proofs.buffer.place.Goals.{then-len-end, else-len-end}

pub returns-clause-items : goal.returns-clause-items
returns-clause-items c =
    let items = λ (v : Vec ℕ Global). v.items in
    let whole = with_items_is c.if-len-end.buffer c.overwrite.new.bytes (omega (arith, c.overwrite.auto.bytes, c.deref_mut.ensures.len)) in
    let over = λ (x : List ℕ). take c.args.at x ++ c.args.chunk.now ++ drop (c.args.at + length c.args.chunk.now) x in
    elim c.if-len-end.branch [
      | then-len-end w ↦ whole ∙ c.overwrite.ensures ∙ placed_past 0 c.args.at c.args.buffer.now.len c.args.chunk.now c.args.buffer.now.items c.deref_mut.result.now (omega arith) c.args.buffer.now.ok.0 (omega (arith, w.if-len-end.true, c.len.ensures)) (c.deref_mut.ensures.value ∙ ap items w.buffer-is ∙ w.lengthen.ensures.items)
      | else-len-end w ↦ whole ∙ c.overwrite.ensures ∙ ap over (c.deref_mut.ensures.value ∙ ap items w.buffer-is) ∙ placed_within 0 c.args.at c.args.chunk.now c.args.buffer.now.items (omega arith) (omega (arith, w.if-len-end.false, c.args.buffer.now.ok.0))
    ]
