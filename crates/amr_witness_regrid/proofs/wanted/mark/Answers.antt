use Rattle.std.proofs.Common.{◌∙◌, ◌||◌, ◌&&◌, Bool, sym, ap}
use Rattle.std.proofs.Math.Bool.{or-false}
use Rattle.amr_box.specs.Cells.{is_same_cell}
use Rattle.amr_tags.specs.TagSets.{has}
use Rattle.amr_witness_regrid.proofs.wanted.mark.Goals as goal

pub returns-then-is_wanted-clause-bx : goal.returns-then-is_wanted-clause-bx
returns-then-is_wanted-clause-bx c = c.set.ensures.shape.bx

pub returns-then-is_wanted-clause-cells : goal.returns-then-is_wanted-clause-cells
returns-then-is_wanted-clause-cells c = λ d. c.set.ensures.cells d ∙ sym (ap (λ (b : Bool). has c.args.tags.now d || (b && is_same_cell c.args.c d)) c.if-is_wanted.true)

pub returns-else-is_wanted-clause-cells : goal.returns-else-is_wanted-clause-cells
returns-else-is_wanted-clause-cells c = λ d. sym (ap (λ (b : Bool). has c.args.tags.now d || (b && is_same_cell c.args.c d)) c.if-is_wanted.false ∙ or-false (has c.args.tags.now d))
