use Rattle.std.proofs.Common.{◌∙◌, List, ap, sym, refl}
use Rattle.std.specs.Option.{option_copied}
use Rattle.amr_box.specs.Cells.{Extent, in_boxes}
use Rattle.amr_layout.specs.Surroundings.{around}
use Rattle.amr_advance.proofs.KeptLaws.{serves_here}
use Rattle.amr_advance.proofs.kept_layout.serves.Goals as goal

pub returns-clause-laid_out : goal.returns-clause-laid_out
returns-clause-laid_out c = λ yes kept.
    serves_here (around c.args.given.problem.now c.args.given.level c.args.patches.now c.args.given.cells.now (option_copied c.args.given.finer)) c.args.kept.now refl refl kept
    c.if-kept-given.false (c.have_boxes.ensures c.if-not-have_boxes.false ∙ c.deref.ensures.value) (sym c.deref-2.ensures.value ∙ c.are_same_cells.ensures c.if-not-are_same_cells.false) (λ e k. c.serves_beside.ensures yes e k ∙ ap (λ (bs : List Extent). in_boxes bs k) c.deref-3.ensures.value)
