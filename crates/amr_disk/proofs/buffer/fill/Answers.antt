use Rattle.std.proofs.Common.{◌≡◌, ◌∙◌, ◌+◌, ◌++◌, List, ℕ, Vec, Global, length, take, drop, replicate, ap, arith}
use Rattle.std.proofs.lemmas.List.{length-replicate, with_items_is}
use Rattle.amr_disk.proofs.Places.{filled_within, filled_past}
use Rattle.amr_disk.proofs.buffer.fill.Goals as goal
use Rattle.amr_disk.proofs.buffer.fill.Goals.{then-len-end, else-len-end}

pub returns-clause-items : goal.returns-clause-items
returns-clause-items c =
    let items = λ (v : Vec ℕ Global). v.items in
    let size : length (replicate c.args.len c.args.byte) ≡ c.args.len = length-replicate c.args.len c.args.byte in
    let whole = with_items_is c.if-len-end.buffer c.fill_part.new.bytes (omega (arith, c.fill_part.auto.bytes, c.deref_mut.ensures.len)) in
    let over = λ (x : List ℕ). take c.args.at x ++ replicate c.args.len c.args.byte ++ drop (c.args.at + c.args.len) x in
    elim c.if-len-end.branch [
      | then-len-end w ↦ whole ∙ c.fill_part.ensures ∙ filled_past c.args.byte c.args.at c.args.len c.args.buffer.now.len c.args.buffer.now.items c.deref_mut.result.now (omega arith) c.args.buffer.now.ok.0 (omega (arith, w.if-len-end.true, c.len.ensures)) (c.deref_mut.ensures.value ∙ ap items w.buffer-is ∙ w.lengthen.ensures.items)
      | else-len-end w ↦ whole ∙ c.fill_part.ensures ∙ ap over (c.deref_mut.ensures.value ∙ ap items w.buffer-is) ∙ filled_within c.args.byte c.args.at c.args.len c.args.buffer.now.items (omega arith) (omega (arith, w.if-len-end.false, c.len.ensures, c.args.buffer.now.ok.0))
    ]
